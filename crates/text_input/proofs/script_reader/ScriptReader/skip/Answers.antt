use Rattle.std.proofs.Common.{ap, sym}
use Rattle.text_input.specs.ScriptReader.{ReaderState}
use Rattle.text_input.proofs.LinePartLemmas.{pending-behind}
use Rattle.text_input.proofs.script_reader.ScriptReader.skip.Goals as goal

pub returns-clause-pending : goal.returns-clause-pending
returns-clause-pending c =
    let inside = c.self.inside in
    pending-behind inside.piece c.args.self.now.pending inside.start inside.end c.args.count
    (ap (λ (v : ReaderState). v.pending) (sym c.self.view_is)) c.requires.pending
