-- What a line asks for, by its form.
use Rattle.std.proofs.Common.{◌≡◌, ℕ, ◌≤◌, List, length, Result, Ok, Err, None, refl, sym, ap, subst, codes}
use Rattle.std.specs.Str.{IsUtf8}
use Rattle.shx_term.specs.declared.edit.Edit.TheVariants.{Insert, Remove}
use Rattle.shx_term.specs.declared.fault_codes.TheConstants.{LINE_SYNTAX}
use Rattle.shx_term.specs.declared.limits.Limits.{Limits}
use Rattle.shx_term.specs.declared.triple.TermTriple.{TermTriple}
use Rattle.ttl_meaning.specs.declared.document.Document.{Document}
use Rattle.script_lines.specs.declared.command.Command.{Command}
use Rattle.script_lines.specs.declared.command.Command.TheVariants.{Edit as edits}
use Rattle.script_lines.specs.declared.fault.LineFault.{LineFault}
use Rattle.script_lines.specs.declared.fault.LineFault.TheVariants.{Line}
use Rattle.script_lines.specs.declared.line_form.LineForm.{LineForm}
use Rattle.script_lines.specs.declared.line_form.LineForm.TheVariants as the_form
use Rattle.script_lines.specs.declared.line_form.PairTokens.{PairTokens}
use Rattle.script_lines.specs.declared.line_form.Terms.{Terms}
use Rattle.script_lines.specs.Forms.{HasForm, word_end}
use Rattle.script_lines.specs.Lines.{IsAsked, IsLineRead, IsPairRead, IsTripleRead, NoForm, AForm}
use Rattle.script_lines.specs.inner.Parts.{HasTerms}

-- ---- what a form asks for

pub insert_terms : (line : List ℕ) (form : LineForm) (terms : Terms) → form ≡ the_form.Insert terms
    → HasForm line form → HasTerms line terms
insert_terms line form terms is has =
    let edit = subst (λ (f : LineForm). HasForm line f) is has in
    (word_end (codes "insert") line, edit.triple)

pub remove_terms : (line : List ℕ) (form : LineForm) (terms : Terms) → form ≡ the_form.Remove terms
    → HasForm line form → HasTerms line terms
remove_terms line form terms is has =
    let edit = subst (λ (f : LineForm). HasForm line f) is has in
    (word_end (codes "remove") line, edit.triple)

pub slice_asked : (line : List ℕ) (document : Document) (form : LineForm) (pair : PairTokens)
    → form ≡ the_form.Slice pair → (reading : Result Command LineFault)
    → IsPairRead line document pair reading → IsAsked line document form reading
slice_asked line document form pair is reading read = rw is read

module _ (line : List ℕ) (document : Document) (form : LineForm) (terms : Terms) where
  pub insert_asked : form ≡ the_form.Insert terms → (triple : TermTriple)
      → IsTripleRead line document terms (Ok triple) → IsAsked line document form (Ok (edits (Insert triple)))
  insert_asked is triple read = rw is (Ok triple, read, refl)

  pub remove_asked : form ≡ the_form.Remove terms → (triple : TermTriple)
      → IsTripleRead line document terms (Ok triple) → IsAsked line document form (Ok (edits (Remove triple)))
  remove_asked is triple read = rw is (Ok triple, read, refl)

  pub insert_refused : form ≡ the_form.Insert terms → (fault : LineFault)
      → IsTripleRead line document terms (Err fault) → IsAsked line document form (Err fault)
  insert_refused is fault read = rw is (Err fault, read, refl)

  pub remove_refused : form ≡ the_form.Remove terms → (fault : LineFault)
      → IsTripleRead line document terms (Err fault) → IsAsked line document form (Err fault)
  remove_refused is fault read = rw is (Err fault, read, refl)

-- ---- a line that is no longer than the limit, as a text

module _ (limits : Limits) (document : Document) (line text : List ℕ) (same : text ≡ line)
    (le : length line ≤ limits.line) (utf8 : IsUtf8 line) where
  pub asked_line : (form : LineForm) → HasForm text form → (reading : Result Command LineFault)
      → IsAsked text document form reading → IsLineRead limits document line reading
  asked_line form has reading asked =
      AForm le utf8 form (subst (λ (l : List ℕ). HasForm l form) same has)
      (subst (λ (l : List ℕ). IsAsked l document form reading) same asked)

  pub no_form_line : ((form : LineForm) → HasForm text form → ⊥) → (fault : LineFault)
      → fault ≡ Line LINE_SYNTAX None → IsLineRead limits document line (Err fault)
  no_form_line none fault is =
      NoForm le utf8 (λ form has. none form (subst (λ (l : List ℕ). HasForm l form) (sym same) has))
      (ap Err is)
