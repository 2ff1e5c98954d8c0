use Rattle.std.specs.Prelude.{List}
use Rattle.std.proofs.Common.{◌≡◌, refl, ◌++◌, subst}
use Rattle.graph_view.specs.Graph.{Graph}
use Rattle.shape_eval.specs.Planned.{plan_of}
use Rattle.shape_eval.specs.Report.{pairs}
use Rattle.read_records.specs.declared.reader.Reader.{Reader}
use Rattle.read_records.specs.Recall.{recalled}
use Rattle.edit_engine.specs.Renewal.{IsRenewal}
use Rattle.edit_engine.specs.inner.Recall.{RemembersNested, RenewsRecall}
use Rattle.edit_engine.proofs.ChangeLemmas.{IsChange, IsChange-patched, IsRenewal-made, entering_known}
use Rattle.edit_engine.proofs.ChangeLemmas.{staying_known, targets_once, targets_within}
use Rattle.edit_engine.proofs.ReachedLemmas.{ReadLaws-asked}
use Rattle.edit_engine.proofs.ReachedReaderLemmas.{Reaches}
use Rattle.edit_engine.proofs.RecallChangeLemmas.{IsRecallOf-masked, RenewsRecall-made}
use Rattle.edit_engine.proofs.RememberedLemmas.{recalled_settled}
use Rattle.edit_engine.proofs.renewing.renewal_beside.Given.{Over}
use Rattle.edit_engine.proofs.renewing.renewal_beside.Goals.{After-deref}
use Rattle.edit_engine.proofs.renewing.renewal_beside.Goals as goal

module _ (g : Over) (c : After-deref g) where
  -- the pairs that were masked are those that the change reaches
  reaches : Reaches (plan_of c.args.plan.now).shapes (g.V.GraphView.graph c.args.view.now)
      (pairs (plan_of c.args.plan.now) (g.V.GraphView.graph c.args.view.now))
      (c.args.added.now ++ c.args.removed.now) c.args.recall.now c.as_slice.result.now
  reaches =
      let plan = plan_of c.args.plan.now in
      let graph = g.V.GraphView.graph c.args.view.now in
      let own = c.reads_are_own_or_below.ensures in
      let nested = c.nested_pairs_stand_below.ensures in
      record {
        laws = ReadLaws-asked own.parts own.answers nested.below nested.lower plan graph c.requires.plan;
        remembers = subst (RemembersNested plan.shapes graph (pairs plan graph))
            (recalled_settled c.args.recall.now c.requires.settled) c.requires.remembers;
        each = rw c.as_slice.ensures.keys c.in_ok-reached.ensures.reached;
      }

  change : (readers : List Reader) → readers ≡ c.in_ok-touched.touched.items
      → IsChange (plan_of c.args.plan.now) (g.V.GraphView.graph c.args.view.now)
      (g.W.GraphView.graph c.args.after.now) c.args.added.now c.args.removed.now c.args.records.now readers
  change readers same =
      IsChange-patched c.patches_agree.ensures.beside c.patches_agree.ensures.valid c.requires.plan
      c.requires.recorded c.requires.valid c.requires.after reaches same c.in_ok-touched.ensures

pub renew_targets-requires-clause-within : goal.renew_targets-requires-clause-within
renew_targets-requires-clause-within g c =
    let at = (goal.at.renew_targets-requires-clause-within g c).After-deref in
    targets_within (change g at c.deref.result.now c.deref.ensures.value)

pub renew_targets-requires-clause-once : goal.renew_targets-requires-clause-once
renew_targets-requires-clause-once g c =
    let at = (goal.at.renew_targets-requires-clause-once g c).After-deref in
    targets_once (change g at c.deref.result.now c.deref.ensures.value)

pub evaluate_touched-requires-clause-valid : goal.evaluate_touched-requires-clause-valid
evaluate_touched-requires-clause-valid g c =
    let at = (goal.at.evaluate_touched-requires-clause-valid g c).After-deref in
    (change g at c.deref.result.now c.deref.ensures.value).valid

pub evaluate_touched-requires-clause-known : goal.evaluate_touched-requires-clause-known
evaluate_touched-requires-clause-known g c =
    let at = (goal.at.evaluate_touched-requires-clause-known g c).After-deref in
    staying_known (change g at c.deref-2.result.now c.deref-2.ensures.value)
    (λ g p t held. ((c.look_ups_give_what_is_held.ensures.by_predicate g p t).0 held).0) _

pub evaluate_entering-requires-clause-valid : goal.evaluate_entering-requires-clause-valid
evaluate_entering-requires-clause-valid g c =
    let at = (goal.at.evaluate_entering-requires-clause-valid g c).After-deref in
    (change g at c.deref.result.now c.deref.ensures.value).valid

pub evaluate_entering-requires-clause-known : goal.evaluate_entering-requires-clause-known
evaluate_entering-requires-clause-known g c =
    let at = (goal.at.evaluate_entering-requires-clause-known g c).After-deref in
    rw c.evaluate_touched.ensures.targets.entering
    (entering_known (change g at c.deref.result.now c.deref.ensures.value)
    (λ g p t held. ((c.look_ups_give_what_is_held.ensures.by_predicate g p t).0 held).0)
    c.renew_targets.new.self.entering.items _ c.in_ok-renew_targets.ensures.targets.entering)

pub returns-clause-renewal : goal.returns-clause-renewal
returns-clause-renewal g c =
    let at = (goal.at.returns-clause-renewal g c).After-deref in
    let touched = change g at c.in_ok-touched.touched.items refl in
    let targets = rw c.deref.ensures.value at c.in_ok-renew_targets.ensures.targets in
    let staying = rw c.deref-2.ensures.value at c.in_ok-evaluate_touched.ensures.evaluated in
    subst (λ (k : Graph). IsRenewal (plan_of c.args.plan.now) (g.V.GraphView.graph c.args.view.now) k
    (c.args.added.now ++ c.args.removed.now) c.evaluate_entering.new.self) c.requires.after
    (IsRenewal-made touched c.targets_depend_on_reads.ensures {made = c.renew_targets.new.self}
    {staying = c.evaluate_touched.new.self} targets c.renew_targets.ensures.evaluated staying
    c.evaluate_touched.ensures.targets c.in_ok-evaluate_entering.ensures.evaluated
    c.evaluate_entering.ensures.targets)

pub evaluate_touched-requires-clause-recall : goal.evaluate_touched-requires-clause-recall
evaluate_touched-requires-clause-recall g c =
    let at = (goal.at.evaluate_touched-requires-clause-recall g c).After-deref in
    IsRecallOf-masked (change g at c.deref.result.now c.deref.ensures.value)
    c.changes_leave_what_stays.ensures c.requires.remembers c.requires.settled c.mask_change.ensures.kept
    c.mask_change.ensures.only c.in_ok-reached.ensures.masked

pub evaluate_entering-requires-clause-recall : goal.evaluate_entering-requires-clause-recall
evaluate_entering-requires-clause-recall g c = c.in_ok-evaluate_touched.ensures.nested.remembers.recall

pub returns-clause-recall : goal.returns-clause-recall
returns-clause-recall g c =
    let at = (goal.at.returns-clause-recall g c).After-deref in
    let touched = change g at c.in_ok-touched.touched.items refl in
    let targets = rw c.deref.ensures.value at c.in_ok-renew_targets.ensures.targets in
    let staying = rw c.deref-2.ensures.value at c.in_ok-evaluate_touched.ensures.nested in
    subst (λ (k : Graph). RenewsRecall (plan_of c.args.plan.now) (g.V.GraphView.graph c.args.view.now) k
    (c.args.added.now ++ c.args.removed.now) (recalled c.args.recall.now)
    (recalled c.evaluate_entering.new.memo) c.args.nested.now c.evaluate_entering.new.nested)
    c.requires.after
    (RenewsRecall-made touched c.changes_leave_what_stays.ensures c.requires.remembers c.requires.settled
    c.mask_change.ensures.kept c.mask_change.ensures.only c.in_ok-reached.ensures.masked
    c.targets_depend_on_reads.ensures c.renew_targets.new.self c.evaluate_touched.new.self
    c.evaluate_touched.new.memo c.evaluate_entering.new.memo targets staying
    c.evaluate_touched.ensures.targets.entering c.in_ok-evaluate_entering.ensures.nested)
