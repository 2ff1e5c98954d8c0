-- Patterns that were built so far, and why no more were.
use Rattle.std.specs.Prelude.{◌≡◌, ℕ, ◌<◌, ◌+◌, List, [], ◌∷◌, ◌++◌, length, take, slice_get, Option}
use Rattle.std.specs.Prelude.{Some, None, Contains}
use Rattle.std.specs.declared.cmp.Ordering.TheVariants.{Less}
use Rattle.std.specs.Ordering.{ordering_reverse}
use Rattle.std.proofs.Common.{sym, ap, ◌∙◌, subst, arith, get_or, inl, inr}
use Rattle.std.proofs.lemmas.Bool.{cases_lt}
use Rattle.std.proofs.lemmas.List.{get_or-map, get_or-take, get_or_push, length-map}
use Rattle.std.proofs.lemmas.List.{length-take-le, length_push, take_more}
use Rattle.std.proofs.lemmas.Map.Keys.{Less-from_sorted}
use Rattle.std.proofs.lemmas.Option.{get_or_from_slice_get, slice_get-get_or, slice_get_within}
use Rattle.shx_outside.specs.Patterns.{BuiltPattern, IsPattern}
use Rattle.shx_term.specs.IdOrder.{id_cmp}
use Rattle.shx_term.specs.declared.limits.Limits.{Limits}
use Rattle.shx_term.specs.declared.term.Term.{Term}
use Rattle.shx_term.specs.declared.vocabulary.TheConstants.{SH_PATTERN}
use Rattle.shx_term.proofs.IdOrderLemmas.{id_cmp_total, slice_get-append}
use Rattle.shx_term.proofs.MemberLemmas.{Contains-one, none_in_empty}
use Rattle.shape_decl.specs.Declarations.{Declaration, values_under}
use Rattle.shape_refs.specs.Order.{StandInOrder, nodes_declared}
use Rattle.shape_refs.specs.Outcome.{AreInReach}
use Rattle.shape_compile.specs.Answers.{Tells}
use Rattle.shape_compile.specs.Patterns.{AreRead, AreReadBefore, flags_of, text_at}
use Rattle.shape_compile.specs.declared.fault.CompileFault.{CompileFault}
use Rattle.shape_compile.specs.declared.fault.CompileFault.TheVariants as fault
use Rattle.shape_compile.specs.inner.Built.{AreBuilt, IsBuiltFor, StopsAtPattern, StopsHere}

module _ (terms : List Term) where
  -- ---- what is built is read

  built_read : (d : Declaration) (pattern : Option BuiltPattern) → IsBuiltFor terms d pattern → (value : ℕ)
      → Contains (values_under d SH_PATTERN) value → IsPattern (text_at terms value) (flags_of terms d)
  built_read d None none value c = absurd (none_in_empty value (subst (λ vs. Contains vs value) none c))
  built_read d (Some built) one value c =
      let is = (Contains-one one.0 value).0 (subst (λ vs. Contains vs value) one.1 c) in
      subst (λ v. IsPattern (text_at terms v) (flags_of terms d)) (sym is) one.2.is_pattern

  pub AreRead-built : (ds : List Declaration) (built : List (Option BuiltPattern)) → AreBuilt terms ds built
      → AreRead terms ds
  AreRead-built ds built all = record {
    each = λ d value states.
        let at = states.declared in
        let here : slice_get ds at.0 ≡ Some d = slice_get-get_or ds at.0 d at.1 ∙ ap Some at.2 in
        let within : at.0 < length built = subst (λ n. at.0 < n) (sym all.long) at.1 in
        built_read d (get_or built at.0 None)
        (all.each at.0 d (get_or built at.0 None) here (slice_get-get_or built at.0 None within)) value
        states.stated;
  }

  -- one more
  AreBuilt-push : (ds : List Declaration) (built : List (Option BuiltPattern)) (d : Declaration)
      (pattern : Option BuiltPattern) → AreBuilt terms ds built → IsBuiltFor terms d pattern
      → AreBuilt terms (ds ++ d ∷ []) (built ++ pattern ∷ [])
  AreBuilt-push ds built d pattern all here = record {
    long = length_push built pattern ∙ ap (λ n. n + 1) all.long ∙ sym (length_push ds d);
    each = λ i e one at there.
        let inside : i < length ds + 1 =
        subst (λ n. i < n) (length_push ds d) (slice_get_within (ds ++ d ∷ []) i e at) in
        let long = all.long in
        elim (cases_lt i (length ds)) [
          | inl low ↦ all.each i e one (sym (slice_get-append ds (d ∷ []) i low) ∙ at)
              (sym (slice_get-append built (pattern ∷ []) i (omega arith)) ∙ there)
          | inr high ↦
              let last : i ≡ length ds = omega arith in
              let is : e ≡ d =
              sym (get_or_from_slice_get (ds ++ d ∷ []) i e e at) ∙ get_or_push ds d e i (sym last) in
              let one_is : one ≡ pattern =
              sym (get_or_from_slice_get (built ++ pattern ∷ []) i one one there)
              ∙ get_or_push built pattern one i (long ∙ sym last) in
              subst (λ p. IsBuiltFor terms e p) (sym one_is)
              (subst (λ f. IsBuiltFor terms f pattern) (sym is) here)
        ];
  }

  pub AreBuilt-more : (ds : List Declaration) (i : ℕ) (d : Declaration)
      (built new : List (Option BuiltPattern)) (pattern : Option BuiltPattern) → slice_get ds i ≡ Some d
      → AreBuilt terms (take i ds) built
      → IsBuiltFor terms d pattern → new ≡ built ++ pattern ∷ [] → AreBuilt terms (take (i + 1) ds) new
  AreBuilt-more ds i d built new pattern at all here is =
      let next : take (i + 1) ds ≡ take i ds ++ d ∷ [] =
      take_more ds i d (slice_get_within ds i d at)
      ∙ ap (λ e. take i ds ++ e ∷ []) (get_or_from_slice_get ds i d d at) in
      subst (λ es. AreBuilt terms es new) (sym next)
      (subst (AreBuilt terms (take i ds ++ d ∷ [])) (sym is)
      (AreBuilt-push (take i ds) built d pattern all here))

  -- ---- the shapes before one

  unlike : (a b : ℕ) → id_cmp terms a b ≡ Less → id_cmp terms b a ≡ Less → ⊥
  unlike a b below above =
      let turned : Less ≡ ordering_reverse Less =
      sym below ∙ (id_cmp_total terms).antisymm a b ∙ ap ordering_reverse above in
      cc

  -- in term order before a shape stand the shapes in front of its place
  in_front : (ds : List Declaration) → StandInOrder terms ds → (i : ℕ) (d : Declaration)
      → slice_get ds i ≡ Some d → (e : Declaration) → Contains ds e → id_cmp terms e.node d.node ≡ Less
      → Contains (take i ds) e
  in_front ds sorted i d here e c less =
      let inside : i < length ds = slice_get_within ds i d here in
      let d_node : get_or (nodes_declared ds) i 0 ≡ d.node =
      get_or-map (λ (f : Declaration). f.node) ds i d 0 inside
      ∙ ap (λ (f : Declaration). f.node) (get_or_from_slice_get ds i d d here) in
      let e_node : get_or (nodes_declared ds) c.0 0 ≡ e.node =
      get_or-map (λ (f : Declaration). f.node) ds c.0 e 0 c.1 ∙ ap (λ (f : Declaration). f.node) c.2 in
      elim (cases_lt c.0 i) [
        | inl low ↦ (
          c.0,
          (let n = length-take-le i ds (omega arith) in omega arith),
          get_or-take i ds c.0 e low ∙ c.2,
        )
        | inr high ↦ elim (cases_lt i c.0) [
          | inl after ↦
              let long : c.0 < length (nodes_declared ds) =
              subst (λ n. c.0 < n) (sym (length-map ds (λ (f : Declaration). f.node))) c.1 in
              let rises = Less-from_sorted (id_cmp terms) (nodes_declared ds) i c.0 0 sorted after long in
              absurd (unlike e.node d.node less
              (subst (λ n. id_cmp terms n e.node ≡ Less) d_node
              (subst (λ n. id_cmp terms (get_or (nodes_declared ds) i 0) n ≡ Less) e_node rises)))
          | inr before ↦
              let at : c.0 ≡ i = omega arith in
              let same : e.node ≡ d.node =
              sym e_node ∙ ap (λ k. get_or (nodes_declared ds) k 0) at ∙ d_node in
              absurd (unlike d.node d.node (subst (λ n. id_cmp terms n d.node ≡ Less) same less)
              (subst (λ n. id_cmp terms n d.node ≡ Less) same less))
        ]
      ]

  pub AreReadBefore-place : (ds : List Declaration) → StandInOrder terms ds → (i : ℕ) (d : Declaration)
      → slice_get ds i ≡ Some d → AreRead terms (take i ds) → AreReadBefore terms ds d.node
  AreReadBefore-place ds sorted i d here read = record {
    each = λ e value states less. read.each e value (record {
      declared = in_front ds sorted i d here e states.declared less;
      stated = states.stated;
    });
  }

  -- why none was built for a shape is why it is stopped at it
  pub StopsAtPattern-here : (ds : List Declaration) (d : Declaration) (why : CompileFault) → Contains ds d
      → AreReadBefore terms ds d.node → StopsHere terms d why → StopsAtPattern terms ds why
  StopsAtPattern-here ds d (fault.Recursive cycle) c before here = here
  StopsAtPattern-here ds d (fault.ReferencesTooDeep shape) c before here = here
  StopsAtPattern-here ds d (fault.BadPattern shape) c before here = record {
    decl = d;
    declared = c;
    before = subst (AreReadBefore terms ds) here.0 before;
    here = here;
  }
  StopsAtPattern-here ds d (fault.PatternRefused shape) c before here = record {
    decl = d;
    declared = c;
    before = subst (AreReadBefore terms ds) here.0 before;
    here = here;
  }
  StopsAtPattern-here ds d fault.Memory c before here = tt

-- where none reaches itself and none stands too high, that is what is told
pub Tells-stopped : (limits : Limits) (terms : List Term) (ds : List Declaration)
    → AreInReach limits.reference_depth terms ds → (why : CompileFault) → StopsAtPattern terms ds why
    → Tells limits terms ds why
Tells-stopped limits terms ds reach (fault.Recursive cycle) stops = absurd stops
Tells-stopped limits terms ds reach (fault.ReferencesTooDeep shape) stops = absurd stops
Tells-stopped limits terms ds reach (fault.BadPattern shape) stops = record {
  at = record {
    reach = reach;
    before = stops.before;
    decl = stops.decl;
    node = stops.here.0;
    value = stops.here.1.0;
    states = record { declared = stops.declared; stated = stops.here.1.1 };
  };
  bad = stops.here.1.2;
}
Tells-stopped limits terms ds reach (fault.PatternRefused shape) stops = record {
  reach = reach;
  before = stops.before;
  decl = stops.decl;
  node = stops.here.0;
  value = stops.here.1.0;
  states = record { declared = stops.declared; stated = stops.here.1.1 };
}
Tells-stopped limits terms ds reach fault.Memory stops = tt
