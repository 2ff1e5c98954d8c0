-- Equal details: those with the same parts.
use Rattle.std.specs.Prelude.{Bool, ◌&&◌, ◌==◌, List, nat_eq}
use Rattle.std.specs.Cmp.{IsEquivalence, on_equiv, and_equiv, nat_eq_equiv}
use Rattle.std.specs.Cmp.Lexicographic.{pointwise, lists_equiv, options_equiv}
use Rattle.std.specs.Option.{option_eq}
use Rattle.comp_core.specs.declared.detail.DetailRow.{DetailRow}

abbrev pub same_detail : DetailRow → DetailRow → Bool
same_detail a b =
    (((a.focus == b.focus && option_eq nat_eq a.value b.value) && option_eq nat_eq a.predicate b.predicate)
    && a.shape == b.shape) && a.kind == b.kind

abbrev pub same_details : List DetailRow → List DetailRow → Bool
same_details = pointwise same_detail

-- ---- laws that their equality cites

pub same_detail_equiv : IsEquivalence same_detail
same_detail_equiv =
    and_equiv (and_equiv (and_equiv (and_equiv
    (on_equiv (λ d. d.focus) nat_eq_equiv)
    (on_equiv (λ d. d.value) (options_equiv nat_eq_equiv)))
    (on_equiv (λ d. d.predicate) (options_equiv nat_eq_equiv)))
    (on_equiv (λ d. d.shape) nat_eq_equiv))
    (on_equiv (λ d. d.kind) nat_eq_equiv)

pub same_details_equiv : IsEquivalence same_details
same_details_equiv = lists_equiv same_detail_equiv
