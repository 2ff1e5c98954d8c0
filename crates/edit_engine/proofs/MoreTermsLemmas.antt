-- Terms that are entered in turn beside the same triples.
use Rattle.std.specs.Prelude.{◌≡◌, ℕ, ◌<◌, List, [], ◌∷◌, ◌++◌, length, All, Contains}
use Rattle.std.proofs.Common.{append_assoc, get_or, sym, ap, ◌∙◌, subst}
use Rattle.std.proofs.lemmas.List.Elements.{All-append, All-cons, All-nil, All-weaker}
use Rattle.shx_term.specs.declared.term.Term.{Term}
use Rattle.shx_term.specs.declared.triple.TermTriple.{TermTriple}
use Rattle.shx_term.specs.TripleTerms.{terms_of}
use Rattle.shx_term.proofs.MemberLemmas.{All_of_each, Contains-at, Contains-flat_map, Contains-head}
use Rattle.shx_term.proofs.MemberLemmas.{Contains-tail, each_of_All}
use Rattle.graph_view.specs.Graph.{Graph}
use Rattle.edit_engine.specs.Applied.{HasMoreTerms}

-- among more terms that may be entered
HasMoreTerms-wider : {due : List Term} {g h : Graph} (all : List Term) → All (Contains all) due
    → HasMoreTerms due g h → HasMoreTerms all g h
HasMoreTerms-wider {due} {g} {h} all within more = record {
  more = more.more;
  among = All-weaker (Contains due) (Contains all) (λ t c. each_of_All (Contains all) due within t c)
      more.more more.among;
  terms = more.terms;
  triples = more.triples;
}

HasMoreTerms-then : {due : List Term} {g h i : Graph} → HasMoreTerms due g h → HasMoreTerms due h i
    → HasMoreTerms due g i
HasMoreTerms-then {due} {g} {h} {i} first second = record {
  more = first.more ++ second.more;
  among = All-append (Contains due) first.more second.more first.among second.among;
  terms = second.terms
      ∙ ap (λ ts. ts ++ second.more) first.terms
      ∙ append_assoc g.terms first.more second.more;
  triples = second.triples ∙ first.triples;
}

-- those of one triple of a list more
pub more_next : {g h i : Graph} (xs : List TermTriple) (k : ℕ) (x : TermTriple) → k < length xs
    → x ≡ get_or xs k x → HasMoreTerms (terms_of xs) g h → HasMoreTerms (terms_of (x ∷ [])) h i
    → HasMoreTerms (terms_of xs) g i
more_next xs k x inside at first second =
    let three : TermTriple → List Term = λ t. t.s ∷ (t.p ∷ (t.o ∷ [])) in
    let member : Contains xs x = subst (Contains xs) (sym at) (Contains-at xs k x inside) in
    let within : All (Contains (terms_of xs)) (terms_of (x ∷ [])) =
    All_of_each (Contains (terms_of xs)) (terms_of (x ∷ []))
    (λ t c. Contains-flat_map three xs x t member c) in
    HasMoreTerms-then first (HasMoreTerms-wider (terms_of xs) within second)

-- ---- the terms of a triple

module _ (s p o : Term) where
  abbrev due : List Term
  due = s ∷ (p ∷ (o ∷ []))

  one : (t : Term) → Contains due t → All (Contains due) (t ∷ [])
  one t c = All-cons (Contains due) t [] c (All-nil (Contains due))

  has_s : Contains due s
  has_s = Contains-head s (p ∷ (o ∷ []))

  has_p : Contains due p
  has_p = Contains-tail s p (p ∷ (o ∷ [])) (Contains-head p (o ∷ []))

  has_o : Contains due o
  has_o = Contains-tail s o (p ∷ (o ∷ [])) (Contains-tail p o (o ∷ []) (Contains-head o []))

  -- after the first, the second and the third
  pub more_one : {g h : Graph} → HasMoreTerms (s ∷ []) g h → HasMoreTerms due g h
  more_one first = HasMoreTerms-wider due (one s has_s) first

  pub more_two : {g h i : Graph} → HasMoreTerms (s ∷ []) g h → HasMoreTerms (p ∷ []) h i
      → HasMoreTerms due g i
  more_two first second = HasMoreTerms-then (more_one first) (HasMoreTerms-wider due (one p has_p) second)

  pub more_three : {g h i j : Graph} → HasMoreTerms (s ∷ []) g h → HasMoreTerms (p ∷ []) h i
      → HasMoreTerms (o ∷ []) i j → HasMoreTerms due g j
  more_three first second third =
      HasMoreTerms-then (more_two first second) (HasMoreTerms-wider due (one o has_o) third)
