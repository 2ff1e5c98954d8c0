-- Which pattern the host refused last, as it is told of one shape and of all.
use Rattle.std.specs.Prelude.{◌≡◌, ℕ, List, [], ◌∷◌, Option, Some, Contains}
use Rattle.std.proofs.Common.{sym, ◌∙◌, subst, refl}
use Rattle.shx_outside.specs.Outside.{FlaggedText}
use Rattle.shx_term.specs.declared.term.Term.{Term}
use Rattle.shx_term.specs.declared.vocabulary.TheConstants.{SH_PATTERN}
use Rattle.shx_term.proofs.MemberLemmas.{Contains-head, Contains-one}
use Rattle.shape_decl.specs.Declarations.{Declaration, values_under}
use Rattle.shape_compile.specs.Answers.{IsRefusedPattern, LastRefused}
use Rattle.shape_compile.specs.Patterns.{flags_of, text_at}
use Rattle.shape_compile.specs.declared.fault.CompileFault.{CompileFault}
use Rattle.shape_compile.specs.declared.fault.CompileFault.TheVariants as fault

-- a pattern of this shape was refused
pub IsRefusedPattern-here : (terms : List Term) (d : Declaration) (value : ℕ) (last : Option FlaggedText)
    → Contains (values_under d SH_PATTERN) value
    → last ≡ Some (record { flags = flags_of terms d; text = text_at terms value })
    → IsRefusedPattern terms (d ∷ []) d.node last
IsRefusedPattern-here terms d value last stated is = record {
  decl = d;
  node = refl;
  value = value;
  states = record { declared = Contains-head d []; stated = stated };
  last_is = is;
}

-- what is told of one of the shapes is told of all
pub LastRefused-among : (terms : List Term) (ds : List Declaration) (d : Declaration)
    (before mid now : Option FlaggedText) (why : CompileFault) → Contains ds d → mid ≡ before
    → LastRefused terms (d ∷ []) mid now why → LastRefused terms ds before now why
LastRefused-among terms ds d before mid now (fault.Recursive cycle) c same told = told ∙ same
LastRefused-among terms ds d before mid now (fault.ReferencesTooDeep shape) c same told = told ∙ same
LastRefused-among terms ds d before mid now (fault.BadPattern shape) c same told = told ∙ same
LastRefused-among terms ds d before mid now (fault.PatternRefused shape) c same told = record {
  decl = told.decl;
  node = told.node;
  value = told.value;
  states = record {
    declared = subst (Contains ds) (sym ((Contains-one d told.decl).0 told.states.declared)) c;
    stated = told.states.stated;
  };
  last_is = told.last_is;
}
LastRefused-among terms ds d before mid now fault.Memory c same told = told ∙ same
