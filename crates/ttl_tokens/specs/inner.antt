-- Words of the inside: what is proved of public calls can be believed without them.
pub mod BlankWalk
pub mod EscapeForms
pub mod Groups
pub mod IriRefForms
pub mod LangTagForms
pub mod Leaves
pub mod Lookahead
pub mod Marks
pub mod NameForms
pub mod NumberForms
pub mod StringForms
