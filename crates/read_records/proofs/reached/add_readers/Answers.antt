use Rattle.std.specs.Prelude.{Contains, []}
use Rattle.std.proofs.Common.{◌∙◌, subst, take_all}
use Rattle.shx_term.proofs.MemberLemmas.{none_in_empty}
use Rattle.read_records.proofs.GainLemmas.{Gains-none, Gains-pair, Gains-same, Gains-target}
use Rattle.read_records.proofs.RestLemmas.{read_from}
use Rattle.read_records.specs.declared.reader.Reader.TheVariants.{OfPair, OfTarget}
use Rattle.read_records.specs.inner.Reached.{Gains}
use Rattle.read_records.proofs.reached.add_readers.Goals.{in-OfPair+in_ok-insert, in_default}
use Rattle.read_records.proofs.reached.add_readers.Goals as goal

pub loop-reader-init : goal.loop-reader-init
loop-reader-init c =
    Gains-none (λ p. Contains [] (OfPair p)) c.args.reached.now.keys (λ p. none_in_empty (OfPair p))

pub loop-reader-preserved : goal.loop-reader-preserved
loop-reader-preserved c =
    let readers = c.deref-reader-items.result.now in
    let at = c.loop-reader.reader-index in
    let inside = c.loop-reader-test.true in
    elim c.match-reader.branch [
      | in-OfPair+in_ok-insert w ↦ rw (w.reached-is, w.in_ok-insert.ensures.keys)
          (Gains-pair readers at (OfTarget 0) inside c.loop-reader.invariant w.in-OfPair.pair
          w.in-OfPair.is)
      | in_default w ↦ rw w.reached-is
          (Gains-target readers at (OfTarget 0) inside c.loop-reader.invariant w.in_default.not-OfPair)
    ]

pub returns : goal.returns
returns c =
    let readers = c.deref-reader-items.result.now in
    let found = c.in_ok-readers_of.field-0.items in
    let all = take_all c.loop-reader.reader-index readers c.loop-reader-test.false in
    Gains-same (subst (λ rs. Gains c.args.reached.now.keys c.loop-reader.reached.keys
    (λ p. Contains rs (OfPair p))) (all ∙ c.deref-reader-items.ensures.value) c.loop-reader.invariant)
    (read_from c.args.store.now c.args.keys.now found c.in_ok-readers_of.ensures)
