-- What a form says, as the code reads it.
use Rattle.shape_decl.specs.declared.form.Form.{Form}
use Rattle.shape_decl.specs.declared.form.Form.TheVariants as read
use Rattle.shape_decl.specs.PathForms.{PathForm, Predicate, Sequence, Alternative, Inverse, ZeroOrMore}
use Rattle.shape_decl.specs.PathForms.{OneOrMore, ZeroOrOne, Formless}

abbrev pub told_form : Form → PathForm
told_form read.Predicate = Predicate
told_form (read.Sequence nodes) = Sequence nodes.items
told_form (read.Alternative nodes) = Alternative nodes.items
told_form (read.Inverse inside) = Inverse inside
told_form (read.ZeroOrMore inside) = ZeroOrMore inside
told_form (read.OneOrMore inside) = OneOrMore inside
told_form (read.ZeroOrOne inside) = ZeroOrOne inside
told_form read.Formless = Formless
