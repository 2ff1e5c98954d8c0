-- What an iterator gives that shows the list of what is to come.
use Rattle.std.proofs.Common.{◌≡◌, List, Bor, length, map, sym, ap, ◌∙◌}
use Rattle.std.specs.Iterator.{Drains, YieldsFirstRef}
use Rattle.std.proofs.iter.Yields.{gives_Drains, listed}
use Rattle.std.proofs.lemmas.List.{length-map}

module _ {A : Type 0} (xs : List A) (items : List (Bor A))
    (drained : Drains (YieldsFirstRef (λ rest. rest)) xs items) where
  -- these
  pub items_to_come : map (λ item. item.now) items ≡ xs
  items_to_come =
      let steps = YieldsFirstRef {A = A} (λ rest. rest) in
      gives_Drains steps (λ item. item.now) items xs xs
      (listed steps (λ item. item.now) (λ rest. rest) (λ s t is. ap length is.0) (λ s x t is. is) xs) drained

  -- and so many
  pub count_to_come : length items ≡ length xs
  count_to_come = sym (length-map items (λ item. item.now)) ∙ ap length items_to_come
