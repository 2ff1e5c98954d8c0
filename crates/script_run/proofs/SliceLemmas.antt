-- What a slice tells is the same however the graph is stored.
use Rattle.std.specs.Prelude.{◌≡◌, true, false, Bool, List, None, Option, Some, filter}
use Rattle.std.specs.Prelude.{if◌then◌else◌}
use Rattle.std.specs.Cmp.{both_ways}
use Rattle.std.specs.List.{list_any}
use Rattle.std.specs.Option.{option_and_then}
use Rattle.std.proofs.Common.{refl, sym, ap, ◌∙◌, map, subst}
use Rattle.shx_term.specs.declared.limits.Limits.{Limits}
use Rattle.shx_term.specs.declared.term.Term.{Term}
use Rattle.shx_term.specs.declared.triple.Triple.{Triple}
use Rattle.shx_term.specs.Members.{SameMembers}
use Rattle.shx_term.specs.TripleOrder.{in_triple_order}
use Rattle.shx_term.proofs.MemberLemmas.{filter_agree}
use Rattle.shx_term.proofs.SetLemmas.{SameMembers-filter, SameMembers-sym, SameMembers-then}
use Rattle.comp_core.specs.declared.pair.Pair.{Pair}
use Rattle.graph_view.specs.declared.key.Key.{Key}
use Rattle.graph_view.specs.Graph.{Graph}
use Rattle.graph_view.specs.Key.{is_touching}
use Rattle.graph_view.specs.SameGraph.{SameGraph}
use Rattle.graph_view.proofs.AgreeLemmas.{AgreeOn-same, Agree-on_terms}
use Rattle.graph_view.proofs.SameGraphLemmas.{triples_same}
use Rattle.graph_view.proofs.ValidLemmas.{AllKnown-valid}
use Rattle.shape_eval.specs.Laws.{ResultsDependOnReads}
use Rattle.shape_eval.specs.Plan.{Planned}
use Rattle.shape_eval.specs.Report.{pairs}
use Rattle.shape_eval.specs.Results.{pair_reads}
use Rattle.edit_engine.specs.MayBeAsked.{MayBeAsked}
use Rattle.edit_engine.specs.NamedPairs.{named_pair, pair_in}
use Rattle.edit_engine.specs.Touched.{is_among_pairs}
use Rattle.edit_engine.proofs.KnownPairLemmas.{node_known}
use Rattle.edit_engine.proofs.PairLemmas.{among_pairs}
use Rattle.edit_engine.proofs.SameReportLemmas.{MayBeAsked-same}
use Rattle.edit_engine.proofs.TestLemmas.{any_from, any_to}
use Rattle.pair_slice.specs.Slice.{slice_triples}
use Rattle.text_output.specs.declared.format.Format.{Format}
use Rattle.report_write.specs.Answers.{slice_answers}
use Rattle.script_run.specs.declared.script_run.ScriptRun.{ScriptRun}
use Rattle.script_run.specs.Script.{answers, slice_step, stays}
use Rattle.script_run.specs.ScriptState.{ScriptState}
use Rattle.script_run.specs.Stored.{IsScriptRun}

-- ---- slices

any_also : {X : Type 0} (p : X → Bool) (xs ys : List X) → SameMembers xs ys → list_any p xs ≡ true
    → list_any p ys ≡ true
any_also p xs ys same h =
    let at = any_from p xs h in any_to p ys at.0 ((same.each at.0).0 at.1) at.2

any_alike : {X : Type 0} (p : X → Bool) (xs ys : List X) → SameMembers xs ys
    → list_any p xs ≡ list_any p ys
any_alike p xs ys same =
    both_ways (list_any p xs) (list_any p ys) (any_also p xs ys same)
    (any_also p ys xs (SameMembers-sym same))

-- a slice depends neither on the order of the graph nor on that of the keys
pub slices_are_alike : (g h : Graph) (keys others : List Key) → SameGraph g h → SameMembers keys others
    → slice_triples g keys ≡ slice_triples h others
slices_are_alike g h keys others same reads =
    let touching = λ (ks : List Key) (t : Triple). list_any (is_touching t) ks in
    ap (in_triple_order g.terms)
    (filter_agree (touching keys) (touching others) g.triples
    (λ t c. any_alike (is_touching t) keys others reads))
    ∙ triples_same g.terms (filter (touching others) g.triples) (filter (touching others) h.triples)
    (SameMembers-filter (touching others) g.triples h.triples same.triples)
    ∙ ap (λ terms. in_triple_order terms (filter (touching others) h.triples)) same.terms

-- ---- pairs

-- a pair that is found by its terms is one of the graph
found_among : (plan : Planned) (g : Graph) (named : Option Pair) (p : Pair)
    → option_and_then (λ q. if is_among_pairs (pairs plan g) q then Some q else None) named ≡ Some p
    → is_among_pairs (pairs plan g) p ≡ true
found_among plan g None p is = absurd (cc)
found_among plan g (Some q) p is =
    elim (is_among_pairs (pairs plan g) q) as (λ b. is_among_pairs (pairs plan g) q ≡ b
    → (if b then Some q else None) ≡ Some p → is_among_pairs (pairs plan g) p ≡ true) [
      | true ↦ λ among found.
          let same : q ≡ p = cc in subst (λ r. is_among_pairs (pairs plan g) r ≡ true) same among
      | false ↦ λ among found. absurd (cc)
    ] refl is

pub pair_in-among : (plan : Planned) (g : Graph) (shape node : Term) (p : Pair)
    → pair_in plan g shape node ≡ Some p → is_among_pairs (pairs plan g) p ≡ true
pair_in-among plan g shape node p is = found_among plan g (named_pair plan g.terms shape node) p is

module _ (plan : Planned) (g h : Graph) (same : SameGraph g h) where
  -- graphs with the same pairs have them by the same terms
  pub pair_in-same : pairs plan g ≡ pairs plan h → (shape node : Term)
      → pair_in plan g shape node ≡ pair_in plan h shape node
  pair_in-same alike shape node =
      λ i. option_and_then (λ p. if is_among_pairs (alike i) p then Some p else None)
      (named_pair plan (same.terms i) shape node)

  -- for a pair the same is read
  pub pair_reads-same : ResultsDependOnReads → MayBeAsked plan h → (p : Pair)
      → is_among_pairs (pairs plan h) p ≡ true
      → SameMembers (pair_reads plan.shapes g p) (pair_reads plan.shapes h p)
  pair_reads-same law asked p among =
      let asked_of = MayBeAsked-same plan g h same asked in
      let known = AllKnown-valid h asked.valid in
      let inside = node_known plan.shapes h known asked.known plan.targeted p
      ((among_pairs (pairs plan h) p).0 among) in
      SameMembers-sym (law plan.shapes asked.refers h g known (AllKnown-valid g asked_of.valid) asked.known p
      inside (Agree-on_terms same.terms (AgreeOn-same (SameMembers-sym same.triples)))).reads

  -- so what the one tells of what was read for it is the slice of the other
  pub slice_told : ResultsDependOnReads → MayBeAsked plan h → (p : Pair)
      → is_among_pairs (pairs plan h) p ≡ true → (reads : List Key)
      → SameMembers (pair_reads plan.shapes h p) reads
      → slice_triples g (pair_reads plan.shapes g p) ≡ slice_triples h reads
  slice_told law asked p among reads recorded =
      slices_are_alike g h (pair_reads plan.shapes g p) reads same
      (SameMembers-then (pair_reads-same law asked p among) recorded)

-- ---- what is told of the state

module _ (limits : Limits) (format : Format) (s : ScriptState) (script : ScriptRun)
    (is : IsScriptRun limits format s script)
    (alike : pairs script.engine.plan s.graph ≡ pairs script.engine.plan script.engine.graph)
    (shape node : Term) (found : Option Pair)
    (here : pair_in script.engine.plan script.engine.graph shape node ≡ found) where
  -- the pair of these terms is the engine's
  pub pair_kept : pair_in s.plan s.graph shape node ≡ found
  pair_kept =
      ap (λ (plan : Planned). pair_in plan s.graph shape node) (sym is.plan_is)
      ∙ pair_in-same script.engine.plan s.graph script.engine.graph is.stores alike shape node ∙ here

  -- and its slice what the engine's graph tells of what it has read
  pub slice_kept : ResultsDependOnReads → MayBeAsked script.engine.plan script.engine.graph → (p : Pair)
      → found ≡ Some p → (reads : List Key)
      → SameMembers (pair_reads script.engine.plan.shapes script.engine.graph p) reads
      → slice_step s (pair_in s.plan s.graph shape node)
      ≡ stays s (map answers (slice_answers (slice_triples script.engine.graph reads)))
  slice_kept law asked p is_found reads recorded =
      let plan = script.engine.plan in
      let graph = script.engine.graph in
      let among = pair_in-among plan graph shape node p (here ∙ is_found) in
      ap (slice_step s) (pair_kept ∙ is_found)
      ∙ ap (λ triples. stays s (map answers (slice_answers triples)))
      (ap (λ (plan : Planned). slice_triples s.graph (pair_reads plan.shapes s.graph p)) (sym is.plan_is)
      ∙ slice_told plan s.graph graph is.stores law asked p among reads recorded)
