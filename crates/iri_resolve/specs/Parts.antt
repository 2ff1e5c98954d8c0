-- A reference split into its five parts (RFC 3986, section 3 and appendix B), and written from them (section
-- 5.3).
use Rattle.std.specs.Prelude.{ℕ, Bool, ◌&&◌, List, [], ◌++◌, drop, length, Option, Some, None}
use Rattle.std.specs.Prelude.{if◌then◌else◌, codes, nat_eq}
use Rattle.std.specs.List.{list_any, starts_with, before_first, after_first}
use Rattle.shx_term.specs.Characters.{is_colon, is_scheme}
use Rattle.iri_resolve.specs.Characters.{is_slash, is_question_mark, is_hash}

pub record Parts : Type 0 where
  pub scheme : Option (List ℕ)
  pub authority : Option (List ℕ)
  pub path : List ℕ
  pub query : Option (List ℕ)
  pub fragment : Option (List ℕ)

-- there is a colon, and a scheme before the first one
abbrev pub has_scheme : List ℕ → Bool
has_scheme text = list_any is_colon text && is_scheme (before_first is_colon text)

-- from the first of these bytes on
abbrev pub from_first : (ℕ → Bool) → List ℕ → List ℕ
from_first p text = drop (length (before_first p text)) text

-- what stands behind the first of these bytes, where there is one
abbrev pub part_after : (ℕ → Bool) → List ℕ → Option (List ℕ)
part_after p text = if list_any p text then Some (after_first p text) else None

-- the scheme of a text without query and fragment
abbrev pub scheme_of : List ℕ → Option (List ℕ)
scheme_of text = if has_scheme text then Some (before_first is_colon text) else None

abbrev pub without_scheme : List ℕ → List ℕ
without_scheme text = if has_scheme text then after_first is_colon text else text

abbrev pub has_authority : List ℕ → Bool
has_authority text = starts_with nat_eq text (codes "//")

-- the authority and the path of a text without scheme, query and fragment
abbrev pub authority_of : List ℕ → Option (List ℕ)
authority_of text = if has_authority text then Some (before_first is_slash (drop 2 text)) else None

abbrev pub path_of : List ℕ → List ℕ
path_of text = if has_authority text then from_first is_slash (drop 2 text) else text

-- the parts of a reference: the fragment begins at the first `#`, the query at the first `?` before it
abbrev pub parts_of : List ℕ → Parts
parts_of text =
    let identifier = before_first is_hash text in
    let hierarchy = before_first is_question_mark identifier in
    record {
      scheme = scheme_of hierarchy;
      authority = authority_of (without_scheme hierarchy);
      path = path_of (without_scheme hierarchy);
      query = part_after is_question_mark identifier;
      fragment = part_after is_hash text;
    }

-- a part that may be absent, with what stands before it or behind it
abbrev pub with_front : List ℕ → Option (List ℕ) → List ℕ
with_front front None = []
with_front front (Some part) = front ++ part

abbrev pub with_back : Option (List ℕ) → List ℕ → List ℕ
with_back None back = []
with_back (Some part) back = part ++ back

-- the reference of these parts
abbrev pub written : Parts → List ℕ
written parts =
    with_back parts.scheme (codes ":")
    ++ (with_front (codes "//") parts.authority
    ++ (parts.path
    ++ (with_front (codes "?") parts.query
    ++ with_front (codes "#") parts.fragment)))
