-- The inside of an IRI reference.
use Rattle.ttl_tokens.specs.Form.{Item, Or}
use Rattle.ttl_tokens.specs.Chars.{Chars}
use Rattle.ttl_tokens.specs.Terminals.{is_iri_char, uchar}

-- [^#x00-#x20<>"{}|^`\] | UCHAR
abbrev pub iri_item : Chars
iri_item = Or (Item is_iri_char) uchar
