-- A net as a patch of the graph in which the terms of what it adds are entered: how many triples it leaves,
-- and that it is this patch where the terms were entered in turn.
use Rattle.std.specs.Prelude.{◌≡◌, ◌≤◌, List, ◌++◌, length}
use Rattle.std.proofs.Common.{sym, ap, ◌∙◌, subst, arith}
use Rattle.shx_term.specs.declared.term.Term.{Term}
use Rattle.shx_term.specs.declared.triple.Triple.{Triple}
use Rattle.shx_term.specs.TripleTerms.{numbered_all}
use Rattle.edit_history.specs.declared.net.Net.{Net}
use Rattle.graph_view.specs.Graph.{Graph}
use Rattle.graph_view.specs.Patched.{IsPatch, patched}
use Rattle.graph_view.proofs.ExchangeLemmas.{length-exchanged, length-removed}
use Rattle.edit_engine.specs.Applied.{HasMoreTerms}
use Rattle.edit_engine.specs.Nets.{IsNetOn, added_to, changed_by, count_after, graph_after, removed_from}
use Rattle.edit_engine.specs.Nets.{terms_after}
use Rattle.edit_engine.proofs.HeldTripleLemmas.{AreAllHeld-entered, length-numbered_all}
use Rattle.edit_engine.proofs.NetPatchLemmas.{net_patch}
use Rattle.edit_engine.proofs.SoundLemmas.{IsSound, entered, entered_patch, removed_terms_held}

-- ---- how many triples there are

module _ (g : Graph) (net : Net) (sound : IsSound g) (fits : IsNetOn g net) where
  patch : IsPatch (entered g net) (added_to g net) (removed_from g net)
  patch = entered_patch g net sound fits

  as_many_removed : length (removed_from g net) ≡ length net.removed
  as_many_removed = length-numbered_all g.terms net.removed (removed_terms_held g net fits)

  -- no more are removed than the graph holds
  pub few_removed : length net.removed ≤ length g.triples
  few_removed =
      let fewer = length-removed (entered g net) (added_to g net) (removed_from g net) patch sound.once in
      omega (arith, fewer, as_many_removed)

  pub length-after : length (graph_after g net).triples ≡ count_after g net
  length-after =
      let all = length-exchanged (entered g net) (added_to g net) (removed_from g net) patch sound.once in
      let new = length-numbered_all (terms_after g net) net.added (AreAllHeld-entered g.terms net.added) in
      omega (arith, all, few_removed, new, as_many_removed)

-- ---- where the terms were entered

-- the terms of what is to be added are entered beside the same triples, and the triples over the numbers of
-- their terms are at hand
pub record IsAtHand (g h : Graph) (net : Net) (new gone : List Triple) : Type 0 where
  pub terms : h.terms ≡ terms_after g net
  pub triples : h.triples ≡ g.triples
  pub added : new ≡ added_to g net
  pub removed : gone ≡ removed_from g net

pub at_hand : {g h : Graph} {due terms : List Term} {new gone found held : List Triple} (net : Net)
    → h.terms ≡ terms_after g net → HasMoreTerms due g h
    → new ≡ found → found ≡ numbered_all h.terms net.added
    → gone ≡ held → held ≡ numbered_all terms net.removed → terms ≡ g.terms → IsAtHand g h net new gone
at_hand net entered more new found gone held same = record {
  terms = entered;
  triples = more.triples;
  added = new ∙ found ∙ ap (λ ts. numbered_all ts net.added) entered;
  removed = gone ∙ held ∙ ap (λ ts. numbered_all ts net.removed) same;
}

module _ {g h : Graph} {net : Net} {new gone : List Triple} (at : IsAtHand g h net new gone) where
  pub changed_is : new ++ gone ≡ changed_by g net
  changed_is = λ i. at.added i ++ at.removed i

  pub patched_is : patched h new gone ≡ graph_after g net
  patched_is = λ i.
      patched (record { terms = at.terms i; triples = at.triples i }) (at.added i) (at.removed i)

  pub patch_at_hand : IsSound g → IsNetOn g net → IsPatch h new gone
  patch_at_hand sound fits =
      subst (λ us. IsPatch h us gone) (sym at.added)
      (subst (IsPatch h (added_to g net)) (sym at.removed)
      (net_patch g h net sound.known fits at.terms at.triples))
