-- The words for roles.
use Rattle.std.specs.Prelude.{ℕ, List, codes}
use Rattle.shx_outside.specs.declared.role.Role.{Role}
use Rattle.shx_outside.specs.declared.role.Role.TheVariants.{Shapes, Data, Script}

abbrev pub role_name : Role → List ℕ
role_name Shapes = codes "shapes"
role_name Data = codes "data"
role_name Script = codes "script"
