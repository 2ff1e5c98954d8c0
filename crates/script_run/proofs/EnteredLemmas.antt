-- Triples over the terms of their numbers, and terms that are entered for them beside a graph.
use Rattle.std.specs.Prelude.{◌≡◌, ℕ, ◌+◌, ◌<◌, ◌≤◌, List, [], ◌∷◌, ◌++◌, Some, None, All, get_or, length}
use Rattle.std.specs.Prelude.{IfSome, slice_get, take, if◌then◌else◌}
use Rattle.std.specs.List.{IsDistinct, cons_option}
use Rattle.std.proofs.Common.{refl, sym, ap, ◌∙◌, subst, arith, zero, suc, append-nil, append_assoc, drop}
use Rattle.std.proofs.Common.{length-append, take_at, take-append-drop}
use Rattle.std.proofs.lemmas.List.{take_all}
use Rattle.std.proofs.lemmas.List.Elements.{All-cons, All-head, All-nil, All-tail}
use Rattle.std.proofs.lemmas.Option.{get_or_from_slice_get, slice_get-get_or, slice_get_within}
use Rattle.shx_outside.specs.declared.flags.Flags.{Flags}
use Rattle.shx_term.specs.declared.limits.Limits.{Limits}
use Rattle.shx_term.specs.declared.term.Term.{Term}
use Rattle.shx_term.specs.declared.triple.Triple.{Triple}
use Rattle.shx_term.specs.declared.triple.TermTriple.{TermTriple}
use Rattle.shx_term.specs.Pool.{IsFullFor, Pooled, with_term, with_terms}
use Rattle.shx_term.specs.Triple.{same_triple}
use Rattle.shx_term.specs.TripleTerms.{number_in, numbered, numbered_all, terms_of}
use Rattle.shx_term.specs.ValidTriples.{IsNotWide, IsValidTermTriple}
use Rattle.shx_term.proofs.HeldLemmas.{length-le-with_terms, with_term_grows, with_terms-append}
use Rattle.shx_term.proofs.MemberLemmas.{Contains-head, Contains-tail}
use Rattle.shx_term.proofs.NumberedLemmas.{numbered-held, numbered-in_turn}
use Rattle.shx_term.proofs.PlaceLemmas.{slice_get-position}
use Rattle.shx_term.proofs.SetLemmas.{SameMembers-itself}
use Rattle.graph_view.specs.Graph.{Graph, IsKnownTriple, graph_of, pooled}
use Rattle.graph_view.specs.Valid.{IsValidTriple, IsValidView}
use Rattle.edit_engine.specs.Applied.{SamePlan}
use Rattle.edit_engine.specs.EngineState.{EngineState}
use Rattle.edit_engine.proofs.HeldTripleLemmas.{AreAllHeld}
use Rattle.edit_engine.proofs.NumberLemmas.{numbers_from}
use Rattle.edit_engine.proofs.SoundLemmas.{CanFollow-over, Extends, IsSound-valid}
use Rattle.edit_engine.proofs.StatedLemmas.{entered_next, entered_numbered, numbered_known, room_for_next}
use Rattle.shape_compile.specs.Patterns.{AreAdmitted}
use Rattle.shape_decl.specs.Declarations.{declarations}
use Rattle.text_output.specs.declared.format.Format.{Format}
use Rattle.shape_text.specs.TextReadings.{numbered_from, stated_graph}
use Rattle.shape_text.specs.Turtle.{HasNoWide}
use Rattle.script_run.specs.declared.script_run.ScriptRun.{ScriptRun}
use Rattle.script_run.specs.inner.Loading.{Grows, cut_at, over_terms, stated_triple, stated_triples}
use Rattle.script_run.specs.inner.Loading.{triple_of_terms}
use Rattle.script_run.specs.ScriptState.{ScriptState}
use Rattle.script_run.specs.Stored.{IsScriptRun, MayGoOn}

-- ---- triples over their terms

-- a triple that is valid by its numbers has its terms
stated_valid : (terms : List Term) (u : Triple) (valid : IsValidTriple terms u)
    → stated_triple terms u ≡ Some valid.stated
stated_valid terms u valid = λ i. triple_of_terms (valid.s i) (valid.p i) (valid.o i)

-- over these they are valid
pub valid_stated : (terms : List Term) (us : List Triple) → All (IsValidTriple terms) us
    → All IsValidTermTriple (stated_triples terms us)
valid_stated terms [] all = All-nil IsValidTermTriple
valid_stated terms (u ∷ us) all =
    let valid = All-head (IsValidTriple terms) u us all in
    let rest = valid_stated terms us (All-tail (IsValidTriple terms) u us all) in
    subst (λ o. All IsValidTermTriple (cons_option o (stated_triples terms us)))
    (sym (stated_valid terms u valid))
    (All-cons IsValidTermTriple valid.stated (stated_triples terms us) valid.valid rest)

length-stated : (terms : List Term) (us : List Triple) → All (IsValidTriple terms) us
    → length (stated_triples terms us) ≡ length us
length-stated terms [] all = refl
length-stated terms (u ∷ us) all =
    let valid = All-head (IsValidTriple terms) u us all in
    ap (λ o. length (cons_option o (stated_triples terms us))) (stated_valid terms u valid)
    ∙ ap suc (length-stated terms us (All-tail (IsValidTriple terms) u us all))

-- at the end of the list none is left
pub none_left : (terms : List Term) (us : List Triple) → All (IsValidTriple terms) us → (i : ℕ)
    → length us ≤ i → take i (stated_triples terms us) ≡ stated_triples terms us
none_left terms us all i past =
    take_all i (stated_triples terms us) (omega (arith, length-stated terms us all, past))

-- each at its place
stated_at : (terms : List Term) (us : List Triple) → All (IsValidTriple terms) us → (i : ℕ) (u : Triple)
    (x : TermTriple) → slice_get us i ≡ Some u → stated_triple terms u ≡ Some x
    → slice_get (stated_triples terms us) i ≡ Some x
stated_at terms [] all i u x at is = absurd (cc)
stated_at terms (v ∷ us) all zero u x at is =
    let same : v ≡ u = cc in
    ap (λ o. slice_get (cons_option o (stated_triples terms us)) zero) (ap (stated_triple terms) same ∙ is)
stated_at terms (v ∷ us) all (suc i) u x at is =
    let valid = All-head (IsValidTriple terms) v us all in
    ap (λ o. slice_get (cons_option o (stated_triples terms us)) (suc i)) (stated_valid terms v valid)
    ∙ stated_at terms us (All-tail (IsValidTriple terms) v us all) i u x at is

-- what is held comes back from its numbers
pub stated_numbered : (terms : List Term) (ts : List TermTriple) → AreAllHeld terms ts
    → stated_triples terms (numbered_all terms ts) ≡ ts
stated_numbered terms [] all = refl
stated_numbered terms (t ∷ ts) all =
    let one = numbered-held terms t (all.each t (Contains-head t ts)) in
    let of = numbers_from terms t one.triple one.is in
    let back : stated_triple terms one.triple ≡ Some t =
    λ i. triple_of_terms (slice_get-position terms t.s one.triple.s of.s i)
    (slice_get-position terms t.p one.triple.p of.p i) (slice_get-position terms t.o one.triple.o of.o i) in
    let rest = stated_numbered terms ts (record { each = λ v c. all.each v (Contains-tail t v ts c) }) in
    ap (λ o. stated_triples terms (cons_option o (numbered_all terms ts))) one.is
    ∙ (λ i. cons_option (back i) (rest i))

-- numbers that were found have terms
pub known_numbered : (terms : List Term) (ts : List TermTriple)
    → All (IsKnownTriple terms) (numbered_all terms ts)
known_numbered terms [] = All-nil (IsKnownTriple terms)
known_numbered terms (t ∷ ts) =
    elim (numbered terms t) as
    (λ o. numbered terms t ≡ o → All (IsKnownTriple terms) (cons_option o (numbered_all terms ts))) [
      | None ↦ λ e. known_numbered terms ts
      | Some u ↦ λ e. All-cons (IsKnownTriple terms) u (numbered_all terms ts) (numbered_known terms t u e)
          (known_numbered terms ts)
    ] refl

-- ---- a triple at a place

module _ (terms : List Term) (us : List Triple) (all : All (IsValidTriple terms) us) (i : ℕ) (d : Triple)
    (inside : i < length us) where
  abbrev stated_there : TermTriple
  stated_there = (all i d inside).stated

  abbrev whole : List TermTriple
  whole = stated_triples terms us

  stated_is : stated_triple terms (get_or us i d) ≡ Some stated_there
  stated_is = stated_valid terms (get_or us i d) (all i d inside)

  found_there : slice_get whole i ≡ Some stated_there
  found_there = stated_at terms us all i (get_or us i d) stated_there (slice_get-get_or us i d inside)
      stated_is

  within : i < length whole
  within = slice_get_within whole i stated_there found_there

  place : stated_there ≡ get_or whole i stated_there
  place = sym (get_or_from_slice_get whole i stated_there stated_there found_there)

  module _ (held here : List Term) (before : here ≡ with_terms held (terms_of (take i whole))) where
    abbrev IsEntered : List Term → TermTriple → Type 0
    IsEntered new stated = new ≡ with_terms here (terms_of (stated ∷ []))

    -- its terms are entered behind those of the triples before it
    pub next_terms : (new : List Term) → IfSome (stated_triple terms (get_or us i d)) (IsEntered new)
        → new ≡ with_terms held (terms_of (take (i + 1) whole))
    next_terms new entered =
        entered_next held whole i stated_there within place here new before
        (subst (λ o. IfSome o (IsEntered new)) stated_is entered)

    -- ... and it has its numbers there
    pub next_numbers : (new : List Term) (u : Triple)
        → IfSome (stated_triple terms (get_or us i d)) (IsEntered new)
        → IfSome (stated_triple terms (get_or us i d)) (λ stated. numbered new stated ≡ Some u)
        → (found more : List Triple) → found ≡ numbered_all here (take i whole) → more ≡ found ++ u ∷ []
        → more ≡ numbered_all new (take (i + 1) whole)
    next_numbers new u entered number found more is pushed =
        entered_numbered held whole i stated_there within place here new u before
        (subst (λ o. IfSome o (IsEntered new)) stated_is entered)
        (subst (λ o. IfSome o (λ stated. numbered new stated ≡ Some u)) stated_is number) found more is pushed

    -- where there is no room for it there is none for all
    pub full_for_all : (limit : ℕ) (Full : Type 0)
        → IfSome (stated_triple terms (get_or us i d))
        (λ stated. Full → limit < length (with_terms here (terms_of (stated ∷ []))))
        → Full → limit < length (with_terms held (terms_of whole))
    full_for_all limit Full clause is =
        let full = subst (λ o. IfSome o (λ stated.
        Full → limit < length (with_terms here (terms_of (stated ∷ []))))) stated_is clause is in
        let least = room_for_next held whole i stated_there within place here before
        (length (with_terms held (terms_of whole))) (omega arith) in
        omega (arith, least, full)

-- ---- one triple

-- a term has its place among those that are no wide literals
pub narrow_at : (terms : List Term) (id : ℕ) (t : Term) → HasNoWide terms → slice_get terms id ≡ Some t
    → IsNotWide t
narrow_at terms id t narrow at =
    subst IsNotWide (get_or_from_slice_get terms id t t at) (narrow id t (slice_get_within terms id t at))

one_there : (terms : List Term) (id : ℕ) (t x : Term) → slice_get terms id ≡ Some t
    → slice_get terms id ≡ Some x → t ≡ x
one_there terms id t x at there = let same : Some t ≡ Some x = sym at ∙ there in cc

-- the terms that were found are those of the triple
module _ (terms : List Term) (u : Triple) (valid : IsValidTriple terms u) where
  pub subject_is : (t : Term) → slice_get terms u.s ≡ Some t → t ≡ valid.stated.s
  subject_is t at = one_there terms u.s t valid.stated.s at valid.s

  pub predicate_is : (t : Term) → slice_get terms u.p ≡ Some t → t ≡ valid.stated.p
  predicate_is t at = one_there terms u.p t valid.stated.p at valid.p

  pub object_is : (t : Term) → slice_get terms u.o ≡ Some t → t ≡ valid.stated.o
  object_is t at = one_there terms u.o t valid.stated.o at valid.o

  -- what is so of it is so where it is stated
  pub stated_so : (P : TermTriple → Type 0) → P valid.stated → IfSome (stated_triple terms u) P
  stated_so P so = subst (λ o. IfSome o P) (sym (stated_valid terms u valid)) so

-- its terms are entered in turn
module _ (old one two three : List Term) (s p o : Term) (t : TermTriple) (s_is : s ≡ t.s) (p_is : p ≡ t.p)
    (o_is : o ≡ t.o) where
  pub entered_in_turn : one ≡ with_term old s → two ≡ with_term one p → three ≡ with_term two o
      → three ≡ with_terms old (terms_of (t ∷ []))
  entered_in_turn first second third =
      let one_is = first ∙ ap (with_term old) s_is in
      let two_is = second ∙ (λ i. with_term (one_is i) (p_is i)) in
      third ∙ (λ i. with_term (two_is i) (o_is i))

  pub numbers_in_turn : (i j k : ℕ) → two ≡ with_term one p → three ≡ with_term two o
      → number_in one s ≡ Some i → number_in two p ≡ Some j → number_in three o ≡ Some k
      → numbered three t ≡ Some (record { s = i; p = j; o = k })
  numbers_in_turn i j k second third first_at second_at third_at =
      numbered-in_turn one two three t i j k (second ∙ ap (with_term one) p_is)
      (third ∙ ap (with_term two) o_is) (ap (number_in one) (sym s_is) ∙ first_at)
      (ap (number_in two) (sym p_is) ∙ second_at) (ap (number_in three) (sym o_is) ∙ third_at)

-- where a term finds the pool full, there is no room for it and those behind it
full_for : (held : List Term) (limit : ℕ) (front later : List Term) (t : Term)
    → IsFullFor (record { terms = with_terms held front; limit = limit }) t
    → limit < length (with_terms held (front ++ t ∷ later))
full_for held limit front later t full =
    let here = with_terms held front in
    let whole = ap length (with_terms-append held front (t ∷ later)) in
    let more = length-le-with_terms (with_term here t) later in
    let one = ap (λ b. length (if b then here else here ++ t ∷ [])) full.absent in
    omega (arith, whole, more, one, length-append here (t ∷ []), full.at_limit)

pub full_after : (old new : EngineState) (front later : List Term) (t x : Term)
    → new.graph.terms ≡ with_terms old.graph.terms front → new.term_limit ≡ old.term_limit → t ≡ x
    → IsFullFor (pooled new.graph new.term_limit) t
    → old.term_limit < length (with_terms old.graph.terms (front ++ x ∷ later))
full_after old new front later t x entered limit same full =
    let at : pooled new.graph new.term_limit
    ≡ record { terms = with_terms old.graph.terms front; limit = old.term_limit } =
    λ i. record { terms = entered i; limit = limit i } in
    full_for old.graph.terms old.term_limit front later x
    (subst (λ (y : Term). IsFullFor (record {
      terms = with_terms old.graph.terms front;
      limit = old.term_limit;
    }) y) same (subst (λ (p : Pooled). IsFullFor p t) at full))

-- ---- an engine that has more terms

pub Grows-itself : (e : EngineState) → Grows e e
Grows-itself e = record {
  plan = record { plan = refl; term_limit = refl; triple_limit = refl };
  settled = refl;
  remembered = refl;
  triples = refl;
  more = [];
  terms = sym (append-nil e.graph.terms);
}

pub Grows-none : (old new : EngineState) → new ≡ old → Grows old new
Grows-none old new same = subst (Grows old) (sym same) (Grows-itself old)

pub Grows-then : {a b c : EngineState} → Grows a b → Grows b c → Grows a c
Grows-then {a = a} first later = record {
  plan = record {
    plan = later.plan.plan ∙ first.plan.plan;
    term_limit = later.plan.term_limit ∙ first.plan.term_limit;
    triple_limit = later.plan.triple_limit ∙ first.plan.triple_limit;
  };
  settled = later.settled ∙ first.settled;
  remembered = later.remembered ∙ first.remembered;
  triples = later.triples ∙ first.triples;
  more = first.more ++ later.more;
  terms = later.terms ∙ ap (λ ts. ts ++ later.more) first.terms
      ∙ append_assoc a.graph.terms first.more later.more;
}

pub Grows-term : (old new : EngineState) (t : Term) → SamePlan old new → new.settled ≡ old.settled
    → new.remembered ≡ old.remembered → new.graph.triples ≡ old.graph.triples
    → new.graph.terms ≡ with_term old.graph.terms t → Grows old new
Grows-term old new t plan settled remembered triples entered =
    let grown = with_term_grows old.graph.terms t in
    record {
      plan = plan;
      settled = settled;
      remembered = remembered;
      triples = triples;
      more = grown.0;
      terms = entered ∙ grown.1;
    }

-- a pool has so many terms, and so has the graph that it is of
pub held_terms : (n : ℕ) (terms : List Term) (view g : Graph) → n ≡ length terms → terms ≡ view.terms
    → view ≡ g → n ≡ length g.terms
held_terms n terms view g count same is = count ∙ ap length (same ∙ ap (λ (h : Graph). h.terms) is)

module _ (old new : EngineState) (grows : Grows old new) (held : ℕ) (is : held ≡ length old.graph.terms)
  where
    terms_back : take held new.graph.terms ≡ old.graph.terms
    terms_back = ap (take held) grows.terms ∙ take_at old.graph.terms grows.more held (sym is)

    pub grown_within : held ≤ length new.graph.terms
    grown_within = omega (arith, is, ap length grows.terms, length-append old.graph.terms grows.more)

    -- without them it is the old one
    grown_cut : record new {
      graph = record { terms = take held new.graph.terms; triples = new.graph.triples };
    } ≡ old
    grown_cut = λ i. record {
      plan = grows.plan.plan i;
      graph = record { terms = terms_back i; triples = grows.triples i };
      term_limit = grows.plan.term_limit i;
      triple_limit = grows.plan.triple_limit i;
      remembered = grows.remembered i;
      settled = grows.settled i;
    }

    -- so the run of a script is the one that it was
    pub grown_run : (script : ScriptRun) → old ≡ script.engine
        → cut_at held (record script { engine = new }) ≡ script
    grown_run script at = λ i. record script { engine = (grown_cut ∙ at) i }

    pub cut_run : (script : ScriptRun) → old ≡ script.engine → (cut : EngineState)
        → cut ≡ record new {
          graph = record { terms = take held new.graph.terms; triples = new.graph.triples };
        }
        → record script { engine = cut } ≡ script
    cut_run script at cut is_cut = λ i. record script { engine = (is_cut ∙ grown_cut ∙ at) i }

    pub known_back : All (IsKnownTriple old.graph.terms) old.graph.triples
        → All (IsKnownTriple (take held new.graph.terms)) new.graph.triples
    known_back known =
        subst (λ (g : Graph). All (IsKnownTriple g.terms) g.triples)
        (sym (λ i. record { terms = terms_back i; triples = grows.triples i })) known

-- what can be taken back and made again stays so beside more terms
pub MayGoOn-grown : (held : ℕ) (script : ScriptRun) → MayGoOn (cut_at held script)
    → All (IsKnownTriple (take held script.engine.graph.terms)) script.engine.graph.triples
    → IsDistinct same_triple script.engine.graph.triples → IsValidView script.engine.graph → MayGoOn script
MayGoOn-grown held script may known once valid =
    let most = script.engine.triple_limit in
    let g = script.engine.graph in
    let cut : Graph = record { terms = take held g.terms; triples = g.triples } in
    let extends : Extends cut g = record {
      more = drop held g.terms;
      terms = sym (take-append-drop held g.terms);
      triples = SameMembers-itself g.triples;
      old = record { known = known; once = once };
      new = IsSound-valid g valid once;
    } in
    record {
      base = may.base;
      group = may.group;
      course = record {
        back = CanFollow-over most cut g _ extends may.course.back;
        forth = CanFollow-over most cut g _ extends may.course.forth;
      };
      staged = may.staged;
    }

-- the run keeps the state over more terms
pub IsScriptRun-grown : (limits : Limits) (format : Format) (s : ScriptState) (held : ℕ) (script : ScriptRun)
    → IsScriptRun limits format s (cut_at held script)
    → IsScriptRun limits format (record s { graph = over_terms s script.engine.graph.terms }) script
IsScriptRun-grown limits format s held script is = record {
  stores = record { terms = refl; triples = is.stores.triples; count = is.stores.count };
  names_are = is.names_are;
  plan_is = is.plan_is;
  kept_is = is.kept_is;
  group_is = is.group_is;
  history_is = is.history_is;
  line_is = is.line_is;
  refused_is = is.refused_is;
  halted_is = is.halted_is;
  triples = is.triples;
  terms = is.terms;
  format_is = is.format_is;
}

-- patterns that may be built over whatever terms are held may be built over these
pub admitted_entered : (limits : Limits) (builds : Flags → List ℕ → Type 0) (held terms : List Term)
    (ts : List TermTriple) (found : List Triple) → terms ≡ with_terms held (terms_of ts)
    → found ≡ numbered_all terms ts
    → AreAdmitted builds (numbered_from held ts).terms
    (declarations limits (stated_graph (numbered_from held ts)))
    → AreAdmitted builds terms (declarations limits (graph_of terms found))
admitted_entered limits builds held terms ts found entered numbers admitted =
    let triples = numbers ∙ (λ i. numbered_all (entered i) ts) in
    subst (λ (g : Graph). AreAdmitted builds g.terms (declarations limits (stated_graph g)))
    (sym (λ i. record { terms = entered i; triples = triples i })) admitted
