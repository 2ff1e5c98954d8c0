-- Documents with the same names read a line alike.
use Rattle.std.proofs.Common.{◌≡◌, ◌≤◌, List, ℕ, Result, sym, subst, inl, inr}
use Rattle.std.specs.Prelude.{Contains}
use Rattle.shx_term.specs.declared.limits.Limits.{Limits}
use Rattle.shx_term.specs.declared.term.LocalName.{LocalName}
use Rattle.shx_term.specs.declared.term.LocalName.TheVariants.{Labelled, Anonymous}
use Rattle.shx_term.specs.declared.triple.TermTriple.{TermTriple}
use Rattle.ttl_tokens.specs.declared.token.Token.{Token}
use Rattle.ttl_meaning.specs.declared.document.Document.{Document}
use Rattle.ttl_meaning.specs.InForce.{HasName}
use Rattle.ttl_meaning.specs.State.{State}
use Rattle.ttl_meaning.specs.Terms.{iri_of}
use Rattle.ttl_read.specs.ReadTerm.{Found, IsFound, AnIri, ANode, ALiteral, AString, Other}
use Rattle.ttl_read.specs.ReadTerm.{IsNodeFound, IsStringFound, found_iri, found_typed}
use Rattle.script_lines.specs.declared.command.Command.{Command}
use Rattle.script_lines.specs.declared.fault.LineFault.{LineFault}
use Rattle.script_lines.specs.declared.line_form.LineForm.{LineForm}
use Rattle.script_lines.specs.declared.line_form.LineForm.TheVariants as form
use Rattle.script_lines.specs.declared.line_form.PairTokens.{PairTokens}
use Rattle.script_lines.specs.declared.line_form.Terms.{Terms}
use Rattle.script_lines.specs.Lines.{IsAsked, IsLineRead, TooLong, NotUtf8, NoForm, AForm, IsPredicateFound}
use Rattle.script_lines.specs.Lines.{IsTripleRead, BadSubject, BadPredicate, BadObject, ATriple}
use Rattle.script_lines.specs.Lines.{IsShapeFound, IsPairRead, BadShape, BadNode, APair}
use Rattle.script_lines.specs.SameNames.{HaveSameNames}

module _ (a b : Document) (alike : HaveSameNames a b) where
  name_to : (name : LocalName) → HasName a name → HasName b name
  name_to (Labelled label) has = subst (λ labels. Contains labels label) alike.labels has
  name_to (Anonymous number) has = (has.0, subst (λ most. number ≤ most) alike.anonymous has.1)

  name_from : (name : LocalName) → HasName b name → HasName a name
  name_from (Labelled label) has = subst (λ labels. Contains labels label) (sym alike.labels) has
  name_from (Anonymous number) has = (has.0, subst (λ most. number ≤ most) (sym alike.anonymous) has.1)

  module _ (line : List ℕ) where
    node_found : (token : Token) (answer : Found) → IsNodeFound line token a answer
        → IsNodeFound line token b answer
    node_found token answer (inl n) = inl (n.0, (n.1.0, name_to n.0.name n.1.1), n.2, n.3)
    node_found token answer (inr none) =
        inr (λ node has is. none.0 node (has.0, name_from node.name has.1) is, none.1)

    string_found : (token : Token) (answer : Found) → IsStringFound line token a answer
        → IsStringFound line token b answer
    string_found token answer (inl tag) = inl tag
    string_found token answer (inr (inl iri)) = inr (inl (
      iri.0,
      iri.1,
      subst (λ (s : State). answer ≡ found_typed line token iri.0 (iri_of line iri.0 s)) alike.force iri.2,
    ))
    string_found token answer (inr (inr none)) = inr (inr none)

    term_found : (token : Token) (answer : Found) → IsFound line token a answer → IsFound line token b answer
    term_found token answer (AnIri kind is) =
        AnIri kind (subst (λ (s : State). answer ≡ found_iri token (iri_of line token s)) alike.force is)
    term_found token answer (ANode kind is) = ANode kind (node_found token answer is)
    term_found token answer (ALiteral kind is) = ALiteral kind is
    term_found token answer (AString kind is) = AString kind (string_found token answer is)
    term_found token answer (Other iri label bare string is) = Other iri label bare string is

    predicate_found : (token : Token) (answer : Found) → IsPredicateFound line token a answer
        → IsPredicateFound line token b answer
    predicate_found token answer (inl word) = inl word
    predicate_found token answer (inr (other, is)) = inr (other, term_found token answer is)

    triple_read : (terms : Terms) (triple : Result TermTriple LineFault) → IsTripleRead line a terms triple
        → IsTripleRead line b terms triple
    triple_read terms triple (BadSubject code at s is) =
        BadSubject code at (term_found terms.subject _ s) is
    triple_read terms triple (BadPredicate s s_end sf code at pf is) =
        BadPredicate s s_end (term_found terms.subject _ sf) code at (predicate_found terms.predicate _ pf) is
    triple_read terms triple (BadObject s p s_end p_end sf pf code at of is) =
        BadObject s p s_end p_end (term_found terms.subject _ sf) (predicate_found terms.predicate _ pf)
        code at (term_found terms.object _ of) is
    triple_read terms triple (ATriple s p o s_end p_end o_end sf pf of is) =
        ATriple s p o s_end p_end o_end (term_found terms.subject _ sf)
        (predicate_found terms.predicate _ pf) (term_found terms.object _ of) is

    shape_found : (token : Token) (answer : Found) → IsShapeFound line token a answer
        → IsShapeFound line token b answer
    shape_found token answer (inl label) = inl label
    shape_found token answer (inr (other, is)) = inr (other, term_found token answer is)

    pair_read : (pair : PairTokens) (command : Result Command LineFault) → IsPairRead line a pair command
        → IsPairRead line b pair command
    pair_read pair command (BadShape code at s is) = BadShape code at (shape_found pair.shape _ s) is
    pair_read pair command (BadNode s s_end sf code at nf is) =
        BadNode s s_end (shape_found pair.shape _ sf) code at (term_found pair.node _ nf) is
    pair_read pair command (APair s n s_end n_end sf nf is) =
        APair s n s_end n_end (shape_found pair.shape _ sf) (term_found pair.node _ nf) is

    asked : (f : LineForm) (reading : Result Command LineFault) → IsAsked line a f reading
        → IsAsked line b f reading
    asked form.Blank reading is = is
    asked (form.Alone word) reading is = is
    asked (form.Insert terms) reading (triple, read, is) = (triple, triple_read terms triple read, is)
    asked (form.Remove terms) reading (triple, read, is) = (triple, triple_read terms triple read, is)
    asked (form.Slice pair) reading is = pair_read pair reading is
    asked (form.Shapes name) reading is = is

    pub line_read : (limits : Limits) (reading : Result Command LineFault) → IsLineRead limits a line reading
        → IsLineRead limits b line reading
    line_read limits reading (TooLong more is) = TooLong more is
    line_read limits reading (NotUtf8 within none is) = NotUtf8 within none is
    line_read limits reading (NoForm within utf8 none is) = NoForm within utf8 none is
    line_read limits reading (AForm within utf8 f has is) = AForm within utf8 f has (asked f reading is)
