use Rattle.std.proofs.Common.{sym, subst, ◌≤◌, ◌-◌, length, arith}
use Rattle.std.proofs.lemmas.Bool.{leb-true, le-leb}
use Rattle.graph_view.specs.Graph.{Graph}
use Rattle.graph_view.specs.ListGraph.{plain_graph}
use Rattle.graph_view.specs.Patched.{patched, IsPatch}
use Rattle.graph_view.proofs.ExchangeLemmas.{length-removed, length-exchanged}
use Rattle.graph_view.proofs.list_graph.ListGraph.has_room_for.Goals as goal

pub overflow_sub-left : goal.overflow_sub-left
overflow_sub-left c =
    let g : Graph = record { terms = c.self.inside.pool.terms; triples = c.self.inside.triples.keys } in
    let added = c.args.added.now in
    let removed = c.args.removed.now in
    let patch = subst (λ v. IsPatch (plain_graph v) added removed) (sym c.self.view_is) c.requires.patch in
    rw c.len.ensures.len (length-removed g added removed patch c.len.ensures.unique)

pub returns : goal.returns
returns c =
    let g : Graph = record { terms = c.self.inside.pool.terms; triples = c.self.inside.triples.keys } in
    let added = c.args.added.now in
    let removed = c.args.removed.now in
    let patch = subst (λ v. IsPatch (plain_graph v) added removed) (sym c.self.view_is) c.requires.patch in
    let fewer = length-removed g added removed patch c.len.ensures.unique in
    let whole = length-exchanged g added removed patch c.len.ensures.unique in
    let more = length added in
    let room = c.self.inside.limit - (c.len.result - length removed) in
    rw (← c.self.view_is) (
      λ h.
          let within : more ≤ room = leb-true more room h in
          let all : length (patched g added removed).triples ≤ c.self.inside.limit =
          omega (arith, within, fewer, whole, c.len.ensures.len, c.self.invariant.1) in
          all,
      λ all.
          let most : length (patched g added removed).triples ≤ c.self.inside.limit = all in
          let within : more ≤ room =
          omega (arith, most, fewer, whole, c.len.ensures.len, c.self.invariant.1) in
          le-leb more room within,
    )
