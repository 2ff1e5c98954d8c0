-- Whether a pattern was refused.
use Rattle.std.proofs.Common.{◌≡◌, ℕ, ◌≤◌, Bool, true, false, if◌then◌else◌, List, [], ◌∷◌, Option}
use Rattle.std.proofs.Common.{None, Some, sym, subst, arith, inl, inr}
use Rattle.std.proofs.lemmas.Bool.{cases_order}
use Rattle.std.specs.Prelude.{IfSome, ◌⊎◌}
use Rattle.shx_outside.specs.Counted.{Rose, last_count}
use Rattle.shx_outside.specs.Outside.{FlaggedText}
use Rattle.shx_term.specs.declared.limits.Limits.{Limits}
use Rattle.shape_text.specs.ShapesReadings.{IsRefusedIn}
use Rattle.shape_text.specs.TextReadings.{TextReading, States, Faulty, Long}
use Rattle.shape_text.specs.Verdict.{RoseWhere, Verdict, plans, refuses_pattern, stops}
use Rattle.shape_text.specs.Verdict.Obstacle.{breaks, recurs, reaches_far, misspells, is_refused}
use Rattle.script_run.specs.Load.{Load, refuses}
use Rattle.script_run.specs.Replies.{is_any_refused}
use Rattle.shacl_run.specs.Loads.{is_refused_by}

-- ---- counts

-- whether a count rose can be told
pub Rose_or_not : (before now : ℕ) → Rose before now ⊎ (Rose before now → ⊥)
Rose_or_not before now = elim (cases_order before now) [
  | inl same ↦ elim (cases_order now last_count) [
    | inl last ↦ inl (record { later = omega (arith, same); more = inr last })
    | inr other ↦ inr (λ rose. elim rose.more [
      | inl more ↦ absurd (omega (arith, same, more))
      | inr last ↦ elim other [
        | inl less ↦ absurd (omega (arith, last, less))
        | inr more ↦ absurd (omega (arith, last, more))
      ]
    ])
  ]
  | inr apart ↦ elim apart [
    | inl more ↦ inl (record { later = omega (arith, more); more = inl more })
    | inr less ↦ inr (λ rose. absurd (omega (arith, rose.later, less)))
  ]
]

-- ---- by what it rises

-- a pattern that was refused is told of once
pub by_shapes : (refused : Bool) (before now : ℕ) → RoseWhere refused before now
    → RoseWhere (if refused then true else false) before now
by_shapes true before now rose = rose
by_shapes false before now same = same

-- where none of the shapes text was, those of the loaded texts decide
pub by_loads : (verdict : Verdict) (loads : List Load) → refuses_pattern verdict ≡ false → (before now : ℕ)
    → RoseWhere (is_any_refused loads) before now → RoseWhere (is_refused_by verdict loads) before now
by_loads verdict loads built before now rose =
    subst (λ b. RoseWhere (if b then true else is_any_refused loads) before now) (sym built) rose

unrefused_in : (limits : Limits) (reading : TextReading) (verdict : Verdict) (last : Option FlaggedText)
    → refuses_pattern verdict ≡ false → IsRefusedIn limits reading verdict last
unrefused_in limits (States document end) (plans plan) last built = tt
unrefused_in limits (States document end) (stops (breaks fault)) last built = tt
unrefused_in limits (States document end) (stops (recurs shape)) last built = tt
unrefused_in limits (States document end) (stops (reaches_far shape)) last built = tt
unrefused_in limits (States document end) (stops (misspells shape)) last built = tt
unrefused_in limits (States document end) (stops (is_refused shape)) last built = absurd (cc)
unrefused_in limits (Faulty code at) verdict last built = tt
unrefused_in limits Long verdict last built = tt

pub unrefused_told : (limits : Limits) (reading : TextReading) (verdict : Verdict) (last : Option FlaggedText)
    → refuses_pattern verdict ≡ false → (text : Option (List ℕ))
    → IfSome text (λ bytes. IsRefusedIn limits reading verdict last)
unrefused_told limits reading verdict last built None = tt
unrefused_told limits reading verdict last built (Some bytes) = unrefused_in limits reading verdict last built

-- a text whose pattern was refused
abbrev refused_load : Load
refused_load = record { reading = Long; judgement = refuses (is_refused 0) }

-- texts by which a count that did not fall stayed or rose
pub record Counts (before now : ℕ) : Type 0 where
  pub loads : List Load
  pub rose : RoseWhere (is_any_refused loads) before now

pub counted : (before now : ℕ) → before ≤ now → Counts before now
counted before now risen = elim (cases_order before now) [
  | inl same ↦ record { loads = []; rose = sym same }
  | inr apart ↦ elim apart [
    | inl more ↦ record {
      loads = refused_load ∷ [];
      rose = record { later = risen; more = inl more };
    }
    | inr less ↦ absurd (omega (arith, risen, less))
  ]
]
