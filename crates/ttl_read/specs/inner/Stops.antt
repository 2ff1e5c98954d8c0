-- Which tokens would go on with a form, so that nothing that follows it begins with one.
use Rattle.std.specs.Prelude.{Bool, false, ◌||◌}
use Rattle.ttl_tokens.specs.declared.token.Token.{Token}
use Rattle.ttl_tokens.specs.declared.token.TokenKind.TheVariants.{LangTag, Carets, Comma, Semicolon}
use Rattle.ttl_read.specs.Grammar.{begins_verb, is_kind}

-- none
abbrev pub stops_nowhere : Token → Bool
stops_nowhere t = false

-- behind an object a string may have ended, which a tag or a datatype goes on with
abbrev pub goes_on : Token → Bool
goes_on t = is_kind LangTag t.kind || is_kind Carets t.kind

-- a list of objects goes on behind a comma
abbrev pub list_goes_on : Token → Bool
list_goes_on t = goes_on t || is_kind Comma t.kind

-- behind a semicolon a verb goes on too
abbrev pub verbs_go_on : Token → Bool
verbs_go_on t = list_goes_on t || begins_verb t.kind

-- predicates and objects go on behind a semicolon, and then with a verb
abbrev pub predicates_go_on : Token → Bool
predicates_go_on t = list_goes_on t || (is_kind Semicolon t.kind || begins_verb t.kind)
