-- What is recorded of a pair is told as it is: what was read for it itself, where it is a pair of the graph;
-- and what is read from there on is what was read for it.
use Rattle.std.specs.Prelude.{◌≡◌, true, List, Option, Some, None, IfSome, is_some, Contains, ◌↔◌}
use Rattle.std.specs.Option.{option_copied}
use Rattle.std.proofs.Common.{Bor, refl, sym, ap, ◌∙◌, subst, inl, inr}
use Rattle.std.proofs.lemmas.Option.{none-some, same_Some}
use Rattle.shx_term.specs.Members.{SameMembers}
use Rattle.shx_term.proofs.SetLemmas.{SameMembers-sym}
use Rattle.graph_view.specs.declared.key.Key.{Key}
use Rattle.graph_view.specs.Graph.{Graph}
use Rattle.graph_view.proofs.PatchedLemmas.{is_false}
use Rattle.comp_core.specs.declared.pair.Pair.{Pair}
use Rattle.shape_eval.specs.Own.{own_reads}
use Rattle.shape_eval.specs.Plan.{Planned}
use Rattle.shape_eval.specs.Report.{pairs}
use Rattle.shape_eval.specs.Results.{pair_reads}
use Rattle.read_records.specs.declared.reader.Reader.TheVariants.{OfPair}
use Rattle.read_records.specs.Recall.{IsReadInAll}
use Rattle.read_records.specs.Records.{Recorded, reads_of}
use Rattle.edit_engine.specs.EngineState.{EngineState}
use Rattle.edit_engine.specs.Recorded.{AreRecorded}
use Rattle.edit_engine.specs.Touched.{is_among_pairs}
use Rattle.edit_engine.specs.declared.kept.Kept.{Kept}
use Rattle.edit_engine.specs.inner.Kept.{IsKeptOf}
use Rattle.edit_engine.specs.inner.Recall.{RemembersNested}
use Rattle.edit_engine.proofs.KnownPairLemmas.{node_known}
use Rattle.edit_engine.proofs.PairLemmas.{among_pairs, pair_or_not}
use Rattle.edit_engine.proofs.ReachedLemmas.{ReadLaws, nested_recalled, read_in_all}
use Rattle.edit_engine.proofs.RememberedLemmas.{recalled_settled}

module _ (plan : Planned) (g : Graph) (state : Recorded)
    (held : AreRecorded plan.shapes plan.targeted g state) (p : Pair) where
  reads_right : (reads : List Key) → Some reads ≡ reads_of state (OfPair p)
      → SameMembers (own_reads plan.shapes g p) reads
  reads_right reads is = elim (pair_or_not (pairs plan g) p) [
    | inl c ↦
        let at = held.pairs p c in
        subst (SameMembers (own_reads plan.shapes g p))
        (same_Some at.reads reads (sym at.recorded ∙ sym is)) (SameMembers-sym at.same)
    | inr none ↦ absurd (none-some reads (sym (held.no_pair p none) ∙ sym is))
  ]

  some_recorded : is_some (reads_of state (OfPair p)) ≡ is_among_pairs (pairs plan g) p
  some_recorded = elim (pair_or_not (pairs plan g) p) [
    | inl c ↦ ap is_some (held.pairs p c).recorded ∙ sym ((among_pairs (pairs plan g) p).1 c)
    | inr none ↦
        ap is_some (held.no_pair p none)
        ∙ sym (is_false (is_among_pairs (pairs plan g) p) (λ e. none ((among_pairs (pairs plan g) p).0 e)))
  ]

some_copied : {X : Type 0} (o : Option (Bor X)) → is_some o ≡ is_some (option_copied o)
some_copied None = refl
some_copied (Some x) = refl

module _ (old now : EngineState) (same : old ≡ now) (state : Recorded)
    (held : AreRecorded old.plan.shapes old.plan.targeted old.graph state) (p : Pair) where
  pub record_reads : (found : Option (Bor (List Key))) → option_copied found ≡ reads_of state (OfPair p)
      → IfSome found (λ reads. SameMembers (own_reads now.plan.shapes now.graph p) reads.now)
  record_reads None is = tt
  record_reads (Some reads) is =
      subst (λ (at : EngineState). SameMembers (own_reads at.plan.shapes at.graph p) reads.now) same
      (reads_right old.plan old.graph state held p reads.now is)

  pub record_pair : (found : Option (Bor (List Key))) → option_copied found ≡ reads_of state (OfPair p)
      → is_some found ≡ is_among_pairs (pairs now.plan now.graph) p
  record_pair found is =
      some_copied found
      ∙ ap is_some is
      ∙ some_recorded old.plan old.graph state held p
      ∙ ap (λ (at : EngineState). is_among_pairs (pairs at.plan at.graph) p) same

-- where all that is nested in it is remembered, what is read from its own reads on is what is read for a pair
module _ (old now : EngineState) (same : old ≡ now) (kept : Kept)
    (held : IsKeptOf old.plan.shapes old.plan.targeted old.graph kept)
    (laws : ReadLaws old.plan.shapes old.graph) (p : Pair) where
  abbrev ReadsAll : EngineState → Type 0
  ReadsAll at =
      true ≡ is_among_pairs (pairs at.plan at.graph) p → (keys all : List Key)
      → SameMembers (own_reads at.plan.shapes at.graph p) keys
      → ((key : Key) → Contains all key ↔ IsReadInAll kept.recall keys key)
      → SameMembers (pair_reads at.plan.shapes at.graph p) all

  reads_all : ReadsAll old
  reads_all among keys all own each =
      let ps = pairs old.plan old.graph in
      let there = (among_pairs ps p).0 (sym among) in
      let node = node_known old.plan.shapes old.graph laws.known laws.plan old.plan.targeted p there in
      let remembers = subst (RemembersNested old.plan.shapes old.graph ps)
      (sym (recalled_settled kept.recall held.settled)) held.recall in
      let nested = nested_recalled ps remembers p there in
      record {
        each = λ key.
            let read = read_in_all laws kept.recall remembers.recall p node nested keys own key in
            (λ c. (each key).1 (read.0 c), λ c. read.1 ((each key).0 c));
      }

  pub all_reads : ReadsAll now
  all_reads = subst ReadsAll same reads_all
