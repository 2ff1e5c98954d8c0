use Rattle.std.proofs.Common.{length, sym, subst, rules, List, ℕ}
use Rattle.std.specs.Bool.{Decides}
use Rattle.std.specs.Cmp.Lexicographic.{slice_cmp}
use Rattle.std.specs.List.{Contains}
use Rattle.std.specs.List.Sorted.{IsSearchInRange}
use Rattle.std.specs.Ordering.{nat_cmp}
use Rattle.std.proofs.lemmas.Fn.{always_returns_same}
use Rattle.ttl_meaning.proofs.SearchLemmas.{IsSearched, text_found}
use Rattle.ttl_meaning.proofs.document.Document.has_label.Goals as goal

pub returns : goal.returns
returns c =
    let labels = c.args.self.now.labels.items in
    let label = c.args.label.now in
    let found = c.binary_search_by.result in
    let by = c.binary_search_by.ensures.position (λ (held : List ℕ). slice_cmp nat_cmp held label)
    (always_returns_same _ _ _ (λ a r g called. search rules)) in
    subst (λ is. Decides is (Contains labels label)) (sym c.is_ok.ensures.value)
    (text_found labels label found c.args.self.now.labels_ascend
    (subst (λ xs. IsSearchInRange found (length xs)) c.deref.ensures.value c.binary_search_by.ensures.bound)
    (subst (λ xs. IsSearched (λ t. t) xs label found) c.deref.ensures.value by))
