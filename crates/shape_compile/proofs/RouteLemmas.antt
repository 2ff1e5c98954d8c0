-- A path that is no predicate has none of its own.
use Rattle.std.specs.Prelude.{◌≡◌, ℕ, [], Some}
use Rattle.std.proofs.Common.{refl}
use Rattle.path_eval.specs.declared.path.Path.{Path, Row_of-Path, end_of-Path, more_of-Path}
use Rattle.path_eval.specs.declared.path.Path.{Pred, Seq', Alt', Inverse', ZeroOrMore', OneOrMore'}
use Rattle.path_eval.specs.declared.path.Path.{ZeroOrOne'}
use Rattle.path_eval.specs.Route.{among, in_sequence, route_of}
use Rattle.shape_decl.specs.PathReadings.{Read}
use Rattle.shape_compile.specs.Constraints.{predicate_of}

none_in_sequence : {m : _} (parts : Row_of-Path m) → predicate_of (Some (Read (in_sequence parts))) ≡ []
none_in_sequence end_of-Path = refl
none_in_sequence (more_of-Path p parts) = refl

none_among : {m : _} (members : Row_of-Path m) → predicate_of (Some (Read (among members))) ≡ []
none_among end_of-Path = refl
none_among (more_of-Path p members) = refl

pub no_predicate : (path : Path) → ((p : ℕ) → path ≡ Pred p → ⊥)
    → predicate_of (Some (Read (route_of path))) ≡ []
no_predicate (Pred p) other = absurd (other p refl)
no_predicate (Seq' shape parts) other = none_in_sequence parts
no_predicate (Alt' shape members) other = none_among members
no_predicate (Inverse' box path) other = refl
no_predicate (ZeroOrMore' box path) other = refl
no_predicate (OneOrMore' box path) other = refl
no_predicate (ZeroOrOne' box path) other = refl
