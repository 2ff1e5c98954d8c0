-- What is remembered beside a change: masked for it, and then renewed.
use Rattle.std.specs.Prelude.{◌≡◌, ℕ, List, [], ◌++◌, Contains}
use Rattle.std.proofs.Common.{refl, ap, subst}
use Rattle.std.proofs.lemmas.List.Elements.{Contains-append_left, Contains-append_right}
use Rattle.shx_term.specs.Members.{SameMembers}
use Rattle.shx_term.specs.declared.triple.Triple.{Triple}
use Rattle.shx_term.proofs.MemberLemmas.{All_of_each}
use Rattle.graph_view.specs.Agree.{Agree, IsUntouched}
use Rattle.graph_view.specs.Graph.{Graph}
use Rattle.graph_view.specs.Patched.{IsBeside}
use Rattle.graph_view.proofs.AgreeLemmas.{Agree-fewer}
use Rattle.graph_view.proofs.ValidLemmas.{AllKnown-valid}
use Rattle.shape_eval.specs.Laws.{TargetsDependOnReads}
use Rattle.shape_eval.specs.Plan.{Planned}
use Rattle.shape_eval.specs.Recalled.{IsRecallOf}
use Rattle.shape_eval.specs.Report.{pairs}
use Rattle.read_records.specs.declared.reader.Reader.{Reader}
use Rattle.read_records.specs.Recall.{KeepsSame, MasksAtMost, MasksReached, RecallState, recalled}
use Rattle.read_records.specs.Records.{Recorded}
use Rattle.edit_engine.specs.declared.renewal.Renewal.{Renewal}
use Rattle.edit_engine.specs.inner.Parts.{RenewsTargets, pairs_staying, targets_among}
use Rattle.edit_engine.specs.inner.Recall.{BringsNested, ChangesLeaveWhatStays, DifferBy}
use Rattle.edit_engine.specs.inner.Recall.{IsChange as IsMasked, RemembersNested, RenewsRecall}
use Rattle.edit_engine.proofs.BringsLemmas.{BringsNested-then}
use Rattle.edit_engine.proofs.ChangeLemmas.{IsChange, plan_known, touched_are}
use Rattle.edit_engine.proofs.KnownPairLemmas.{node_known}
use Rattle.edit_engine.proofs.RenewsRecallLemmas.{renews_recall}

-- keys that no changed triple touches are beside the change
differ_beside : {g h : Graph} (added removed : List Triple) → Agree g h (IsBeside added removed)
    → DifferBy g h (added ++ removed)
differ_beside added removed agree keys none =
    Agree-fewer (Contains keys) (λ key c. (
      All_of_each (λ t. IsUntouched t key) added
          (λ t d. none key c t (Contains-append_left added removed t d)),
      All_of_each (λ t. IsUntouched t key) removed
          (λ t d. none key c t (Contains-append_right added removed t d)),
    )) agree

module _ {plan : Planned} {g h : Graph} {added removed : List Triple} {state : Recorded}
    {readers : List Reader} (change : IsChange plan g h added removed state readers)
    (leave : ChangesLeaveWhatStays) {first masked : RecallState}
    (remembers : RemembersNested plan.shapes g (pairs plan g) (recalled first)) (settled : first.staged ≡ [])
    (kept : KeepsSame first masked) (at_most : MasksAtMost first masked (added ++ removed))
    (reached : MasksReached first masked (added ++ removed)) where
  is_masked : IsMasked plan.shapes g h (added ++ removed) first masked
  is_masked = record {
    lower = change.asked.refers;
    before = AllKnown-valid g change.asked.valid;
    after = AllKnown-valid h change.valid;
    plan = change.asked.known;
    terms = change.terms;
    differ = differ_beside added removed change.beside;
    settled = settled;
    kept = kept;
    at_most = at_most;
    masked = reached;
    recall = remembers.recall;
  }

  -- what is left is right of the new graph
  pub IsRecallOf-masked : IsRecallOf SameMembers plan.shapes h (recalled masked)
  IsRecallOf-masked = (leave plan.shapes g h (added ++ removed) first masked is_masked).recall

  -- and once the pairs that stay and those that enter were evaluated, all of it is renewed
  pub RenewsRecall-made : TargetsDependOnReads → (made staying : Renewal) (mid last : RecallState)
      {before between after : ℕ} → RenewsTargets plan.shapes g h (targets_among readers) made
      → BringsNested plan.shapes h (recalled masked) (recalled mid)
      (pairs_staying readers made.leaving.keys) before between
      → staying.entering.items ≡ made.entering.items
      → BringsNested plan.shapes h (recalled mid) (recalled last) staying.entering.items between after
      → RenewsRecall plan g h (added ++ removed) (recalled first) (recalled last) before after
  RenewsRecall-made depend made staying mid last {before} {between} {after} renews stay entering enter =
      let evaluated = pairs_staying readers made.leaving.keys ++ made.entering.items in
      let all = ap (λ ps. pairs_staying readers made.leaving.keys ++ ps) entering in
      let done : BringsNested plan.shapes h (recalled masked) (recalled last) evaluated before after =
      subst (λ ps. BringsNested plan.shapes h (recalled masked) (recalled last) ps before after) all
      (BringsNested-then refl stay enter) in
      renews_recall leave plan g h (added ++ removed) first masked last evaluated before after is_masked
      remembers done (touched_are change depend renews)
      (node_known plan.shapes h (AllKnown-valid h change.valid) (plan_known change) plan.targeted)
