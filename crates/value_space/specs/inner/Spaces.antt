-- What the table of datatypes in code means.
use Rattle.std.specs.Prelude.{ℕ, List, [], ◌∷◌, if◌then◌else◌, nat_eq}
use Rattle.std.specs.Cmp.Lexicographic.{pointwise}
use Rattle.shx_term.specs.Datatypes.{Space as Meaning}
use Rattle.shx_term.specs.Datatypes.Space.{Integers as IntegersOf, Decimals as DecimalsOf}
use Rattle.shx_term.specs.Datatypes.Space.{Booleans as BooleansOf, Strings as StringsOf, Moments as MomentsOf}
use Rattle.shx_term.specs.Datatypes.Space.{Days as DaysOf, Opaques as OpaquesOf}
use Rattle.value_space.specs.declared.datatype.Space.{Space}
use Rattle.value_space.specs.declared.datatype.Space.TheVariants.{Integers, Decimals, Booleans, Strings}
use Rattle.value_space.specs.declared.datatype.Space.TheVariants.{Moments, Days, Opaques}
use Rattle.value_space.specs.declared.datatype.Datatype.{Datatype}

abbrev pub space_meant : Space → Meaning
space_meant (Integers least greatest) = IntegersOf least greatest
space_meant Decimals = DecimalsOf
space_meant Booleans = BooleansOf
space_meant Strings = StringsOf
space_meant Moments = MomentsOf
space_meant Days = DaysOf
space_meant Opaques = OpaquesOf

-- the space of the first datatype of this name
unfoldable pub space_of_name : List Datatype → List ℕ → Space
space_of_name [] name = Opaques
space_of_name (d ∷ ds) name = if pointwise nat_eq name d.name.now then d.space else space_of_name ds name
