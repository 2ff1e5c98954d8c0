-- Changes of a graph by some triples: what comes of them, and the graph after them.
use Rattle.std.specs.Prelude.{◌≡◌, ℕ, ◌+◌, ◌-◌, ◌==◌, ◌&&◌, Bool, true, false, nat_lt, List, ◌++◌, All}
use Rattle.std.specs.Prelude.{length, if◌then◌else◌}
use Rattle.std.specs.List.{IsDistinct}
use Rattle.shx_term.specs.declared.term.Term.{Term}
use Rattle.shx_term.specs.declared.triple.Triple.{Triple}
use Rattle.shx_term.specs.declared.triple.TermTriple.{TermTriple}
use Rattle.shx_term.specs.Pool.{with_terms}
use Rattle.shx_term.specs.TripleTerms.{numbered_all, same_term_triple, terms_of}
use Rattle.shx_term.specs.ValidTriples.{IsValidTermTriple}
use Rattle.edit_history.specs.declared.net.Net.{Net}
use Rattle.graph_view.specs.Graph.{Graph}
use Rattle.graph_view.specs.Patched.{patched}
use Rattle.edit_engine.specs.Edits.{is_stated}

-- the terms of the graph, and behind them the new ones of what is added
abbrev pub terms_after : Graph → Net → List Term
terms_after g net = with_terms g.terms (terms_of net.added)

-- what is added and removed, over the numbers that the terms then have
abbrev pub added_to : Graph → Net → List Triple
added_to g net = numbered_all (terms_after g net) net.added

abbrev pub removed_from : Graph → Net → List Triple
removed_from g net = numbered_all g.terms net.removed

abbrev pub changed_by : Graph → Net → List Triple
changed_by g net = added_to g net ++ removed_from g net

-- the graph after the change: what stays, in its order, and behind it what is added
abbrev pub graph_after : Graph → Net → Graph
graph_after g net =
    patched (record { terms = terms_after g net; triples = g.triples }) (added_to g net) (removed_from g net)

-- how many triples that has
abbrev pub count_after : Graph → Net → ℕ
count_after g net = (length g.triples - length net.removed) + length net.added

abbrev pub is_no_change : Net → Bool
is_no_change net = (length net.added == 0) && (length net.removed == 0)

-- what comes of a change
pub data Outcome : Type 0 where
  NoEffect : Outcome
  PastTriples : Outcome
  PastTerms : Outcome
  Effect : Outcome

-- with at most so many triples and terms, the first of these that holds
abbrev pub outcome : ℕ → ℕ → Graph → Net → Outcome
outcome most_triples most_terms g net =
    if is_no_change net then NoEffect
    else (if nat_lt most_triples (count_after g net) then PastTriples
    else (if nat_lt most_terms (length (terms_after g net)) then PastTerms
    else Effect))

-- the change may be made of the graph: what is added is valid and not there, what is removed is there, and
-- each stands once
pub record IsNetOn (g : Graph) (net : Net) : Type 0 where
  pub added_valid : All IsValidTermTriple net.added
  pub added_absent : All (λ t. is_stated g t ≡ false) net.added
  pub added_once : IsDistinct same_term_triple net.added
  pub removed_held : All (λ t. is_stated g t ≡ true) net.removed
  pub removed_once : IsDistinct same_term_triple net.removed

abbrev pub net_over : List TermTriple → List TermTriple → Net
net_over added removed = record { added = added; removed = removed }

-- the change, or the one that takes it back
abbrev pub turned : Bool → Net → Net
turned false net = net
turned true net = net_over net.removed net.added
