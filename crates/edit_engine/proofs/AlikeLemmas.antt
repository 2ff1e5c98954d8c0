-- What is so over a graph is so over one that holds the same under any keys: the pairs, the report, what is
-- kept and remembered, which pairs a change touches, and which nested ones it brings.
use Rattle.std.specs.Prelude.{◌≡◌, ℕ, ◌+◌, ◌<◌, Bool, true, false, not, ◌||◌, List, [], ◌++◌, Option, filter}
use Rattle.std.specs.Prelude.{map, flat_map, length, slice_get, Contains}
use Rattle.std.specs.Set.{distinct_count}
use Rattle.std.proofs.Common.{refl, sym, ap, ◌∙◌, subst, arith, length-append}
use Rattle.std.proofs.lemmas.Option.{slice_get_within}
use Rattle.shx_term.specs.Members.{SameMembers}
use Rattle.shx_term.specs.declared.triple.Triple.{Triple}
use Rattle.shx_term.proofs.MemberLemmas.{Contains-test, filter_agree, flat_map_agree}
use Rattle.shx_term.proofs.SetLemmas.{SameMembers-then}
use Rattle.graph_view.specs.declared.key.Key.{Key}
use Rattle.graph_view.specs.Agree.{Agree}
use Rattle.graph_view.specs.Graph.{Graph, AllKnown}
use Rattle.graph_view.proofs.AgreeLemmas.{Agree-term}
use Rattle.graph_view.proofs.ValidLemmas.{AllKnown-valid}
use Rattle.comp_core.specs.declared.pair.Pair.{Pair}
use Rattle.comp_core.specs.Pairs.{same_pair, same_pair_equiv, same_pair_exact}
use Rattle.shape_eval.specs.declared.shape.PlanShape.{PlanShape}
use Rattle.shape_eval.specs.Laws.{IsSamePair, IsSameTarget, NestedDependOnReads, ResultsDependOnReads}
use Rattle.shape_eval.specs.Laws.{OwnReadsDependOnThemselves, TargetsDependOnReads}
use Rattle.shape_eval.specs.Nested.{nested_in, nested_pairs}
use Rattle.shape_eval.specs.Own.{own_reads}
use Rattle.shape_eval.specs.Plan.{Planned}
use Rattle.shape_eval.specs.Recalled.{AreRecalled, IsRecalled}
use Rattle.shape_eval.specs.Report.{at_shape, pairs, report}
use Rattle.shape_eval.specs.Results.{pair_reads, results}
use Rattle.shape_eval.specs.Targets.{target_nodes, target_reads}
use Rattle.read_records.specs.Recall.{Answer, kept_of}
use Rattle.read_records.specs.Records.{Recorded}
use Rattle.read_records.specs.declared.reader.Reader.{Reader}
use Rattle.read_records.specs.declared.reader.Reader.TheVariants.{OfPair, OfTarget}
use Rattle.pair_results.specs.PairResults.{Kept as KeptResults}
use Rattle.edit_engine.specs.MayBeAsked.{MayBeAsked}
use Rattle.edit_engine.specs.Pairs.{pairs_of}
use Rattle.edit_engine.specs.Recorded.{AreRecorded, Holds}
use Rattle.edit_engine.specs.Remembered.{AreAllRecalled, BringsFresh, fresh, staying}
use Rattle.edit_engine.specs.Touched.{is_among_pairs, is_any_touched, touched_pairs}
use Rattle.edit_engine.specs.declared.kept.Kept.{Kept}
use Rattle.edit_engine.specs.inner.Kept.{AreResults, IsKeptOf}
use Rattle.edit_engine.specs.inner.Recall.{RemembersNested}
use Rattle.edit_engine.proofs.KeptPairLemmas.{some_answer}
use Rattle.edit_engine.proofs.KnownPairLemmas.{node_known}
use Rattle.edit_engine.proofs.TouchLemmas.{touched_same}

-- ---- targets, pairs and what is kept

pub Holds-same : (state : Recorded) (reader : Reader) (keys others : List Key) → SameMembers keys others
    → Holds state reader keys → Holds state reader others
Holds-same state reader keys others same held = record {
  reads = held.reads;
  recorded = held.recorded;
  same = SameMembers-then held.same same;
}

-- two graphs that hold the same under any keys, a plan that may be asked of both, and the laws
pub record AreAlike (plan : Planned) (g h : Graph) : Type 0 where
  pub before : MayBeAsked plan g
  pub after : MayBeAsked plan h
  pub agree : (keys : List Key) → Agree g h (Contains keys)
  pub results_law : ResultsDependOnReads
  pub targets_law : TargetsDependOnReads

module _ (plan : Planned) (g h : Graph) (alike : AreAlike plan g h) where
  abbrev shapes : List PlanShape
  shapes = plan.shapes

  known : AllKnown g
  known = AllKnown-valid g alike.before.valid

  pub same_target : (n : ℕ) → IsSameTarget shapes g h n
  same_target n =
      alike.targets_law shapes g h known (AllKnown-valid h alike.after.valid) alike.before.known n
      (alike.agree (target_reads shapes g n))

  pub pairs_alike : (ns : List ℕ) → pairs_of shapes ns g ≡ pairs_of shapes ns h
  pairs_alike ns =
      flat_map_agree (λ n. map (at_shape n) (target_nodes shapes g n))
      (λ n. map (at_shape n) (target_nodes shapes h n)) ns
      (λ n c. ap (map (at_shape n)) (same_target n).nodes)

  -- of the pairs themselves
  pub held_before : (ns : List ℕ) (p : Pair) → Contains (pairs_of shapes ns h) p
      → Contains (pairs_of shapes ns g) p
  held_before ns p c = subst (λ ps. Contains ps p) (sym (pairs_alike ns)) c

  pub node_before : (ns : List ℕ) (p : Pair) → Contains (pairs_of shapes ns g) p → p.node < length g.terms
  node_before ns p c = node_known shapes g known alike.before.known ns p c

  pub same_pair_at : (p : Pair) → p.node < length g.terms → IsSamePair shapes g h p
  same_pair_at p inside =
      alike.results_law shapes alike.before.refers g h known (AllKnown-valid h alike.after.valid)
      alike.before.known p inside (alike.agree (pair_reads shapes g p))

  pub same_results : (ns : List ℕ) (p : Pair) → Contains (pairs_of shapes ns g) p → IsSamePair shapes g h p
  same_results ns p c = same_pair_at p (node_before ns p c)

  pub report_alike : report plan g ≡ report plan h
  report_alike =
      flat_map_agree (results shapes g) (results shapes h) (pairs plan g)
      (λ p c. (same_results plan.targeted p c).rows)
      ∙ ap (flat_map (results shapes h)) (pairs_alike plan.targeted)

  -- for the pair itself the same is read
  pub same_own : OwnReadsDependOnThemselves → (p : Pair) → p.node < length g.terms
      → SameMembers (own_reads shapes g p) (own_reads shapes h p)
  same_own own_law p inside =
      own_law shapes alike.before.refers g h known (AllKnown-valid h alike.after.valid)
      alike.before.known p inside (alike.agree (own_reads shapes g p))

  AreRecorded-alike : OwnReadsDependOnThemselves → (ns : List ℕ) (state : Recorded)
      → AreRecorded shapes ns g state → AreRecorded shapes ns h state
  AreRecorded-alike own_law ns state all = record {
    targets = λ n c. Holds-same state (OfTarget n) (target_reads shapes g n) (target_reads shapes h n)
        (same_target n).reads (all.targets n c);
    pairs = λ p c.
        let held = held_before ns p c in
        Holds-same state (OfPair p) (own_reads shapes g p) (own_reads shapes h p)
        (same_own own_law p (node_before ns p held)) (all.pairs p held);
    no_target = all.no_target;
    no_pair = λ p none. all.no_pair p (λ c. none (subst (λ ps. Contains ps p) (pairs_alike ns) c));
  }

  pub same_term_at : (id : ℕ) → id < length g.terms → slice_get g.terms id ≡ slice_get h.terms id
  same_term_at id inside = Agree-term g h id (alike.agree []) inside

  AreResults-alike : (ns : List ℕ) (kept : KeptResults) → AreResults shapes ns g kept
      → AreResults shapes ns h kept
  AreResults-alike ns kept all = record {
    pairs = λ p node c e.
        let held = held_before ns p c in
        let here = same_term_at p.node (node_before ns p held) ∙ e in
        all.pairs p node held here ∙ (same_results ns p held).rows;
    others = λ n node none. all.others n node (λ id e c.
        none id (sym (same_term_at id (slice_get_within g.terms id node e)) ∙ e)
        (subst (λ ps. Contains ps (at_shape n id)) (pairs_alike ns) c));
  }

  module _ (nested_law : NestedDependOnReads) where
    pub same_nested : (p : Pair) → p.node < length g.terms → nested_in shapes g p ≡ nested_in shapes h p
    same_nested p inside =
        nested_law shapes alike.before.refers g h known (AllKnown-valid h alike.after.valid)
        alike.before.known p inside (alike.agree (pair_reads shapes g p))

    pub nested_of : (ns : List ℕ)
        → flat_map (nested_in shapes g) (pairs_of shapes ns g)
        ≡ flat_map (nested_in shapes h) (pairs_of shapes ns h)
    nested_of ns =
        flat_map_agree (nested_in shapes g) (nested_in shapes h) (pairs_of shapes ns g)
        (λ p c. same_nested p (node_before ns p c))
        ∙ ap (flat_map (nested_in shapes h)) (pairs_alike ns)

    pub nested_alike : nested_pairs plan g ≡ nested_pairs plan h
    nested_alike = nested_of plan.targeted

    module _ (own_law : OwnReadsDependOnThemselves) where
      -- what is remembered of one graph is remembered of the other
      remembers_alike : (ns : List ℕ) (recalled : Pair → Option Answer)
          → RemembersNested shapes g (pairs_of shapes ns g) recalled
          → RemembersNested shapes h (pairs_of shapes ns h) recalled
      remembers_alike ns recalled is = record {
        recall = record {
          right = record {
            each = λ p a e.
                let right = is.recall.right.each p a e in
                record {
                  rows = right.rows ∙ (same_pair_at p right.node).rows;
                  reads = SameMembers-then right.reads (same_own own_law p right.node);
                  node = node_after p right.node;
                };
          };
          closed = record {
            each = λ p there.
                let a = some_answer (recalled p) there in
                let same = same_nested p (is.recall.right.each p a.0 a.1).node in
                subst (AreRecalled recalled) same (is.recall.closed.each p there);
          };
        };
        nested = subst (AreRecalled recalled) (nested_of ns) is.nested;
      }
        where
          node_after : (p : Pair) → p.node < length g.terms → p.node < length h.terms
          node_after p inside =
              omega (
                arith,
                ap length (alike.agree []).terms,
                length-append g.terms (alike.agree []).more,
              )

      -- what is kept of one graph is kept of the other
      pub IsKeptOf-alike : (ns : List ℕ) (kept : Kept) → IsKeptOf shapes ns g kept
          → IsKeptOf shapes ns h kept
      IsKeptOf-alike ns kept all = record {
        records = AreRecorded-alike own_law ns kept.records all.records;
        results = AreResults-alike ns kept.results all.results;
        count = all.count ∙ ap length (pairs_alike ns);
        places = all.places;
        idle = all.idle;
        recall = remembers_alike ns (kept_of kept.recall) all.recall;
        settled = all.settled;
      }

  -- and a change touches the same pairs
  module _ (changed : List Triple) where
    abbrev is_old : Graph → Pair → Bool
    is_old k p = not (is_among_pairs (pairs plan k) p)

    abbrev is_read : Graph → Pair → Bool
    is_read k p = is_any_touched changed (pair_reads shapes k p)

    same_old : (p : Pair) → is_among_pairs (pairs plan g) p ≡ is_among_pairs (pairs plan h) p
    same_old p = ap (λ ps. is_among_pairs ps p) (pairs_alike plan.targeted)

    touched_at : (p : Pair) (b : Bool) → is_among_pairs (pairs plan g) p ≡ b
        → (is_old g p || is_read g p) ≡ (is_old h p || is_read h p)
    touched_at p true is =
        let held = (Contains-test same_pair same_pair_equiv same_pair_exact (pairs plan g) p).0 is in
        let reads = touched_same changed (pair_reads shapes g p) (pair_reads shapes h p)
        (same_results plan.targeted p held).reads in
        λ i. not (same_old p i) || reads i
    touched_at p false is =
        ap (λ b. not b || is_read g p) is ∙ sym (ap (λ b. not b || is_read h p) (sym (same_old p) ∙ is))

    pub touched_alike : (new : Graph) → touched_pairs plan g new changed ≡ touched_pairs plan h new changed
    touched_alike new =
        filter_agree (λ p. is_old g p || is_read g p) (λ p. is_old h p || is_read h p) (pairs plan new)
        (λ p c. touched_at p (is_among_pairs (pairs plan g) p) refl)

  -- of pairs whose nodes have terms in the first, the same stay
  staying_alike : (changed : List Triple) (kept : List Pair)
      → ((p : Pair) → Contains kept p → p.node < length g.terms)
      → staying shapes g changed kept ≡ staying shapes h changed kept
  staying_alike changed kept inside =
      filter_agree (λ p. not (is_any_touched changed (pair_reads shapes g p)))
      (λ p. not (is_any_touched changed (pair_reads shapes h p))) kept
      (λ p c. ap not (touched_same changed (pair_reads shapes g p) (pair_reads shapes h p)
      (same_pair_at p (inside p c)).reads))

  -- and a change brings the same nested pairs, where the nodes of those that are remembered do
  pub brings_alike : (after : Graph) (changed : List Triple) (old new : Pair → Option Answer) (m n : ℕ)
      → ((p : Pair) → IsRecalled old p → p.node < length g.terms)
      → BringsFresh plan h after changed old new m n → BringsFresh plan g after changed old new m n
  brings_alike after changed old new m n inside brings = record {
    counted = λ kept all.
        subst (λ stay. n ≡ m + distinct_count same_pair (fresh plan after stay)) (sym (stay kept all))
        (brings.counted kept all);
    kept = λ kept all.
        subst (λ stay. AreAllRecalled new (stay ++ fresh plan after stay)) (sym (stay kept all))
        (brings.kept kept all);
  }
    where
      stay : (kept : List Pair) → AreAllRecalled old kept
          → staying shapes g changed kept ≡ staying shapes h changed kept
      stay kept all = staying_alike changed kept (λ p c. inside p ((all.each p).0 c))

-- of two new graphs with the same nested pairs it brings the same
pub brings_among : (plan : Planned) (old g h : Graph) → nested_pairs plan g ≡ nested_pairs plan h
    → (changed : List Triple) (before after : Pair → Option Answer) (m n : ℕ)
    → BringsFresh plan old h changed before after m n → BringsFresh plan old g changed before after m n
brings_among plan old g h same changed before after m n brings = record {
  counted = λ kept all.
      brings.counted kept all ∙ ap (λ ps. m + distinct_count same_pair ps) (sym (left kept));
  kept = λ kept all.
      subst (λ ps. AreAllRecalled after (staying plan.shapes old changed kept ++ ps)) (sym (left kept))
      (brings.kept kept all);
}
  where
    left : (kept : List Pair) → fresh plan g (staying plan.shapes old changed kept)
        ≡ fresh plan h (staying plan.shapes old changed kept)
    left kept = ap (filter (λ p. not (is_among_pairs (staying plan.shapes old changed kept) p))) same

-- of two new graphs with the same pairs a change touches the same
pub touched_among : (plan : Planned) (old g h : Graph) → pairs plan g ≡ pairs plan h
    → (changed : List Triple) → touched_pairs plan old g changed ≡ touched_pairs plan old h changed
touched_among plan old g h same changed =
    ap (filter (λ p. not (is_among_pairs (pairs plan old) p)
    || is_any_touched changed (pair_reads plan.shapes old p))) same
