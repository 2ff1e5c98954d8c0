-- The lengths of terms, in code points (SHACL, section 4.4: of `str`, which a blank node does not have).
use Rattle.std.specs.Prelude.{ℕ, Bool, length}
use Rattle.std.specs.Str.{chars}
use Rattle.shx_term.specs.declared.term.Term.{Term}
use Rattle.comp_core.specs.TermTests.{is_so}
use Rattle.value_components.specs.Texts.{text_of}

-- the term has a text, whose length passes
abbrev pub has_length : (ℕ → Bool) → Term → Bool
has_length test t = is_so (λ text. test (length (chars text))) (text_of t)
