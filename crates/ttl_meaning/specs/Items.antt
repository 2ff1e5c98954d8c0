-- What each item of the grammar does (Turtle 1.1, section 7.3).
use Rattle.std.specs.Prelude.{ℕ, ◌+◌, List, [], ◌∷◌, drop, codes, Result, Ok, Err}
use Rattle.shx_term.specs.declared.term.Term.{Term}
use Rattle.shx_term.specs.declared.term.Literal.{Literal}
use Rattle.shx_term.specs.Spelling.{xsd_string}
use Rattle.ttl_tokens.specs.declared.token.Token.{Token}
use Rattle.ttl_tokens.specs.Unescaped.{token_text}
use Rattle.ttl_meaning.specs.declared.fault.TermFaultKind.{TermFaultKind}
use Rattle.ttl_meaning.specs.declared.iris.IriRole.{IriRole}
use Rattle.ttl_meaning.specs.declared.iris.IriRole.TheVariants.{Node, Verb, Datatype}
use Rattle.ttl_meaning.specs.State.{State, AnIri, ABlank, Open, About, Of}
use Rattle.ttl_meaning.specs.State.{unless_fault, blame, put, put_object, begin_verb, enter, leave}
use Rattle.ttl_meaning.specs.Terms.{said, prefix_of, iri_of, iri_of_reference, judged, typed, datatype_of}
use Rattle.ttl_meaning.specs.Terms.{tagged, anonymous, labelled, rdf_iri}

-- ---- literals

-- a literal that begins at this byte stands here, or has a fault
abbrev pub put_judged : ℕ → Result Term TermFaultKind → State → State
put_judged at (Ok term) s = put_object term s
put_judged at (Err kind) s = blame (record { kind = kind; at = at }) s

abbrev pub put_literal : ℕ → Literal → State → State
put_literal at literal s = put_judged at (judged literal) s

-- INTEGER, DECIMAL, DOUBLE, `true` and `false`
abbrev pub on_literal : List ℕ → Token → State → State
on_literal text token =
    unless_fault (put_literal token.start (typed (token_text text token) (datatype_of token.kind)))

-- a string waits for its tag or datatype
abbrev pub on_string : List ℕ → Token → State → State
on_string text token = unless_fault (λ s. record s { held = said text token; held_at = token.start })

-- the literal of the string that waited
abbrev pub end_string : Literal → State → State
end_string literal s = put_literal s.held_at literal (record s { held = [] })

abbrev pub plain_string : State → State
plain_string = unless_fault (λ s. end_string (typed s.held xsd_string) s)

abbrev pub on_tag : List ℕ → Token → State → State
on_tag text token = unless_fault (λ s. end_string (tagged s.held (drop 1 (token_text text token))) s)

-- ---- IRIs

-- an IRI is a node, a verb, or the datatype of the string that waits
abbrev pub used : IriRole → List ℕ → State → State
used Node iri s = put (AnIri iri) s
used Verb iri s = begin_verb iri s
used Datatype iri s = end_string (typed s.held iri) s

-- an IRI that begins at this byte is used, or has a fault
abbrev pub used_or_blamed : (List ℕ → State → State) → ℕ → Result (List ℕ) TermFaultKind → State → State
used_or_blamed act at (Ok iri) s = act iri s
used_or_blamed act at (Err kind) s = blame (record { kind = kind; at = at }) s

-- IRIREF, PNAME_LN and PNAME_NS
abbrev pub on_iri : List ℕ → IriRole → Token → State → State
on_iri text role token = unless_fault (λ s. used_or_blamed (used role) token.start (iri_of text token s) s)

-- `a` as a verb
abbrev pub on_a : State → State
on_a = unless_fault (begin_verb (rdf_iri (codes "type")))

-- ---- blank nodes and collections

abbrev pub put_label : List ℕ → State → State
put_label label s = put (ABlank (labelled s.scope label)) (record s { labels = label ∷ s.labels })

-- BLANK_NODE_LABEL
abbrev pub on_label : List ℕ → Token → State → State
on_label text token = unless_fault (put_label (drop 2 (token_text text token)))

-- a new anonymous node, in its place
abbrev pub put_new : State → State
put_new s = put (ABlank (anonymous s.scope s.next)) (record s { next = s.next + 1 })

-- ANON
abbrev pub on_anon : State → State
on_anon = unless_fault put_new

-- `[`: a new node, of which what follows speaks
abbrev pub open_node : State → State
open_node = unless_fault (λ s. enter (About (ABlank (anonymous s.scope s.next))) (put_new s))

-- `]`
abbrev pub close_node : State → State
close_node = unless_fault leave

-- the first cell of a collection, at its first member
abbrev pub first_cell : State → State
first_cell = unless_fault (λ s.
    enter (Of (ABlank (anonymous s.scope s.next)) (rdf_iri (codes "first"))) (put_new s))

-- the next cell, at its member
abbrev pub next_cell : State → State
next_cell = unless_fault (λ s.
    enter (Of (ABlank (anonymous s.scope s.next)) (rdf_iri (codes "first"))) (leave (put_new s)))

-- behind a member the cell waits for the rest
abbrev pub behind_member : State → State
behind_member = unless_fault (begin_verb (rdf_iri (codes "rest")))

-- `)` behind members
abbrev pub end_list : State → State
end_list = unless_fault (λ s. leave (put (AnIri (rdf_iri (codes "nil"))) s))

-- `()`
abbrev pub empty_list : State → State
empty_list = unless_fault (put (AnIri (rdf_iri (codes "nil"))))

-- ---- directives

-- the name in a directive waits for its IRI
abbrev pub hold_prefix : List ℕ → Token → State → State
hold_prefix text token = unless_fault (λ s. record s { held = prefix_of text token })

-- the IRI of a directive, by its reference
abbrev pub on_reference : (List ℕ → State → State) → List ℕ → Token → State → State
on_reference act text token = unless_fault (λ s.
    used_or_blamed act token.start (iri_of_reference s.base (said text token)) s)

abbrev pub bind : List ℕ → State → State
bind iri s = record s { prefixes = record { name = s.held; iri = iri } ∷ s.prefixes; held = [] }

-- the namespace of the prefix that was named
abbrev pub on_namespace : List ℕ → Token → State → State
on_namespace = on_reference bind

abbrev pub set_base : List ℕ → State → State
set_base iri s = record s { base = iri }

-- the base
abbrev pub on_base : List ℕ → Token → State → State
on_base = on_reference set_base

-- ---- statements

-- a statement begins with no subject
abbrev pub begin_statement : State → State
begin_statement = unless_fault (λ s. record s { contexts = Open ∷ [] })
