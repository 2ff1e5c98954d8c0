use Rattle.std.specs.Prelude.{◌<◌, Contains, take}
use Rattle.std.proofs.Common.{sym, subst}
use Rattle.std.proofs.lemmas.List.{length-take-le}
use Rattle.shx_term.specs.declared.triple.Triple.{Triple}
use Rattle.shx_term.proofs.MemberLemmas.{each_of_All, All_of_each}
use Rattle.graph_view.specs.Graph.{IsKnownTriple}
use Rattle.graph_rows.proofs.tests.cuts.can_be_cut.Goals as goal

pub returns-then-are_all : goal.returns-then-are_all
returns-then-are_all g c = λ passed.
    let graph = g.V.GraphView.graph c.args.view.now in
    let held = c.args.held.now.triples in
    let len = c.args.len in
    let same = c.are_all.ensures c.if-are_all.true in
    let kept = sym (length-take-le len graph.terms c.requires.within) in
    let Below : Triple → Type 0 = λ t. (t.s < len) × (t.p < len) × (t.o < len) in
    let below = rw c.triples.ensures at c.are_below.ensures passed in
    let known : (t : Triple) → Contains graph.triples t → IsKnownTriple (take len graph.terms) t =
    λ t inside.
    let numbers = each_of_All Below held below t ((same.each t).0 inside) in
    record {
      s = subst (λ n. t.s < n) kept numbers.0;
      p = subst (λ n. t.p < n) kept numbers.1;
      o = subst (λ n. t.o < n) kept numbers.2;
    } in
    All_of_each (IsKnownTriple (take len graph.terms)) graph.triples known
