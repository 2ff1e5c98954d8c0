-- The text of an IRI, which is kept, or that of a common datatype.
use Rattle.std.specs.Prelude.{ℕ, List, codes}
use Rattle.shx_term.specs.declared.common_datatype.CommonDatatype.{CommonDatatype}
use Rattle.shx_term.specs.declared.common_datatype.CommonDatatype.TheVariants as common
use Rattle.shx_term.specs.declared.iri_text.Held.{Held}
use Rattle.shx_term.specs.declared.iri_text.Held.TheVariants.{Common, Own}

abbrev pub common_text : CommonDatatype → List ℕ
common_text common.String = codes "http://www.w3.org/2001/XMLSchema#string"
common_text common.Boolean = codes "http://www.w3.org/2001/XMLSchema#boolean"
common_text common.Integer = codes "http://www.w3.org/2001/XMLSchema#integer"
common_text common.Decimal = codes "http://www.w3.org/2001/XMLSchema#decimal"
common_text common.Double = codes "http://www.w3.org/2001/XMLSchema#double"
common_text common.Float = codes "http://www.w3.org/2001/XMLSchema#float"
common_text common.Date = codes "http://www.w3.org/2001/XMLSchema#date"
common_text common.DateTime = codes "http://www.w3.org/2001/XMLSchema#dateTime"
common_text common.LangString = codes "http://www.w3.org/1999/02/22-rdf-syntax-ns#langString"

abbrev pub held_text : Held → List ℕ
held_text (Common datatype) = common_text datatype
held_text (Own text) = text
