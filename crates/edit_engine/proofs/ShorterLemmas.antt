-- What is kept of a graph is kept of one with fewer terms, where the two hold the same under any keys.
use Rattle.std.specs.Prelude.{ℕ, ◌<◌, List, Option, is_some, length, Contains}
use Rattle.std.proofs.Common.{sym, ap, ◌∙◌, subst}
use Rattle.shx_term.proofs.SetLemmas.{SameMembers-sym, SameMembers-then}
use Rattle.graph_view.specs.Graph.{Graph}
use Rattle.comp_core.specs.declared.pair.Pair.{Pair}
use Rattle.shape_eval.specs.Laws.{NestedDependOnReads, OwnReadsDependOnThemselves}
use Rattle.shape_eval.specs.Own.{own_reads}
use Rattle.shape_eval.specs.Plan.{Planned}
use Rattle.shape_eval.specs.Recalled.{AreRecalled, IsRecalled}
use Rattle.shape_eval.specs.Report.{at_shape}
use Rattle.shape_eval.specs.Targets.{target_reads}
use Rattle.read_records.specs.Recall.{Answer, kept_of}
use Rattle.read_records.specs.Records.{Recorded}
use Rattle.read_records.specs.declared.reader.Reader.TheVariants.{OfPair, OfTarget}
use Rattle.pair_results.specs.PairResults.{Kept as KeptResults}
use Rattle.edit_engine.specs.Pairs.{pairs_of}
use Rattle.edit_engine.specs.Recorded.{AreRecorded}
use Rattle.edit_engine.specs.declared.kept.Kept.{Kept}
use Rattle.edit_engine.specs.inner.Kept.{AreResults, IsKeptOf}
use Rattle.edit_engine.specs.inner.Recall.{RemembersNested}
use Rattle.edit_engine.proofs.AlikeLemmas.{AreAlike, Holds-same, held_before, nested_of, node_before}
use Rattle.edit_engine.proofs.AlikeLemmas.{pairs_alike, same_nested, same_own, same_pair_at, same_results}
use Rattle.edit_engine.proofs.AlikeLemmas.{same_target, same_term_at}

-- the first graph is the one with fewer terms
module _ (plan : Planned) (g h : Graph) (alike : AreAlike plan g h) (ns : List ℕ) where
  held_after : (p : Pair) → Contains (pairs_of plan.shapes ns g) p → Contains (pairs_of plan.shapes ns h) p
  held_after p c = subst (λ ps. Contains ps p) (pairs_alike plan g h alike ns) c

  AreRecorded-shorter : OwnReadsDependOnThemselves → (state : Recorded)
      → AreRecorded plan.shapes ns h state → AreRecorded plan.shapes ns g state
  AreRecorded-shorter own_law state all = record {
    targets = λ n c.
        Holds-same state (OfTarget n) (target_reads plan.shapes h n) (target_reads plan.shapes g n)
        (SameMembers-sym (same_target plan g h alike n).reads) (all.targets n c);
    pairs = λ p c.
        let same = same_own plan g h alike own_law p (node_before plan g h alike ns p c) in
        Holds-same state (OfPair p) (own_reads plan.shapes h p) (own_reads plan.shapes g p)
        (SameMembers-sym same) (all.pairs p (held_after p c));
    no_target = all.no_target;
    no_pair = λ p none. all.no_pair p (λ c. none (held_before plan g h alike ns p c));
  }

  AreResults-shorter : (kept : KeptResults) → AreResults plan.shapes ns h kept
      → AreResults plan.shapes ns g kept
  AreResults-shorter kept all = record {
    pairs = λ p node c e.
        let there = sym (same_term_at plan g h alike p.node (node_before plan g h alike ns p c)) ∙ e in
        all.pairs p node (held_after p c) there ∙ sym (same_results plan g h alike ns p c).rows;
    others = λ n node none. all.others n node (λ id e c.
        let held = held_before plan g h alike ns (at_shape n id) c in
        let inside = node_before plan g h alike ns (at_shape n id) held in
        none id (same_term_at plan g h alike id inside ∙ e) held);
  }

  module _ (nested_law : NestedDependOnReads) (own_law : OwnReadsDependOnThemselves) where
    -- what is remembered of nodes that have terms in both
    remembers_shorter : (recalled : Pair → Option Answer)
        → ((p : Pair) → IsRecalled recalled p → p.node < length g.terms)
        → RemembersNested plan.shapes h (pairs_of plan.shapes ns h) recalled
        → RemembersNested plan.shapes g (pairs_of plan.shapes ns g) recalled
    remembers_shorter recalled inside is = record {
      recall = record {
        right = record {
          each = λ p a e.
              let right = is.recall.right.each p a e in
              let node = inside p (ap is_some e) in
              record {
                rows = right.rows ∙ sym (same_pair_at plan g h alike p node).rows;
                reads =
                    SameMembers-then right.reads (SameMembers-sym (same_own plan g h alike own_law p node));
                node = node;
              };
        };
        closed = record {
          each = λ p there.
              subst (AreRecalled recalled) (sym (same_nested plan g h alike nested_law p (inside p there)))
              (is.recall.closed.each p there);
        };
      };
      nested = subst (AreRecalled recalled) (sym (nested_of plan g h alike nested_law ns)) is.nested;
    }

    pub IsKeptOf-shorter : (kept : Kept)
        → ((p : Pair) → IsRecalled (kept_of kept.recall) p → p.node < length g.terms)
        → IsKeptOf plan.shapes ns h kept → IsKeptOf plan.shapes ns g kept
    IsKeptOf-shorter kept inside all = record {
      records = AreRecorded-shorter own_law kept.records all.records;
      results = AreResults-shorter kept.results all.results;
      count = all.count ∙ ap length (sym (pairs_alike plan g h alike ns));
      places = all.places;
      idle = all.idle;
      recall = remembers_shorter (kept_of kept.recall) inside all.recall;
      settled = all.settled;
    }
