-- What a `Reference` points to.
use Rattle.std.specs.Option.{option_copied}
use Rattle.iri_resolve.specs.declared.reference.Reference.{Reference}
use Rattle.iri_resolve.specs.Parts.{Parts}

-- the parts as texts
abbrev pub parts_in : Reference → Parts
parts_in reference = record {
  scheme = option_copied reference.scheme;
  authority = option_copied reference.authority;
  path = reference.path.now;
  query = option_copied reference.query;
  fragment = option_copied reference.fragment;
}
