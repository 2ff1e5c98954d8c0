use Rattle.std.specs.Prelude.{nat_eq}
use Rattle.std.proofs.lemmas.List.Elements.{All-same}
use Rattle.indexmap.specs.IndexMap.{insert_entry}
use Rattle.path_eval.proofs.SuperclassLemmas.{All-inserted, IsRight}
use Rattle.path_eval.proofs.superclasses.Superclasses.find.Goals as goal

pub returns-in_err-insert-clause-known : goal.returns-in_err-insert-clause-known
returns-in_err-insert-clause-known g c =
    let graph = g.V.GraphView.graph c.args.view.now in
    let right = c.make_room.ensures graph c.requires.known in
    record {
      above = All-same (IsRight graph) c.insert.new.self.entries c.make_room.new.self.found.entries
          c.in_err-insert.ensures.err right.above;
      last = right.last;
    }

pub returns-clause-known : goal.returns-clause-known
returns-clause-known g c =
    let graph = g.V.GraphView.graph c.args.view.now in
    let right = c.make_room.ensures graph c.requires.known in
    let before = c.make_room.new.self.found.entries in
    let wider = c.in_ok-wider.wider in
    record {
      above = All-same (IsRight graph) c.insert.new.self.entries
          (insert_entry nat_eq before c.args.class wider) c.in_ok-insert.ensures.entries
          (All-inserted (IsRight graph) before c.args.class wider right.above c.in_ok-wider.ensures);
      last = right.last;
    }
