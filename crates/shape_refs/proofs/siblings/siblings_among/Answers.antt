use Rattle.std.specs.Prelude.{◌≡◌, ℕ, Bool, true, [], not, filter, flat_map, map, if◌then◌else◌}
use Rattle.std.proofs.Common.{sym, ap, ◌∙◌}
use Rattle.shx_term.specs.IdOrder.{in_term_order}
use Rattle.shx_term.specs.declared.vocabulary.TheConstants.{SH_QUALIFIED_VALUE_SHAPE}
use Rattle.shx_term.proofs.IdOrderLemmas.{in_term_order_same}
use Rattle.shx_term.proofs.SetLemmas.{SameMembers-filter}
use Rattle.comp_core.specs.TermTests.{is_among}
use Rattle.shape_decl.specs.Declarations.{told_decl, values_under}
use Rattle.shape_refs.specs.References.{has_siblings, parents_of, qualified_within}
use Rattle.shape_refs.proofs.siblings.siblings_among.Goals as goal

pub returns : goal.returns
returns c =
    let terms = c.args.declared.now.pool.now.terms in
    let ds = map told_decl c.args.declared.now.decls.now in
    let d = told_decl c.args.decl.now in
    let near = c.args.near.now in
    let all = flat_map (qualified_within ds) (parents_of ds d.node) in
    let is_other = λ (n : ℕ). not (is_among n (values_under d SH_QUALIFIED_VALUE_SHAPE)) in
    let has : has_siblings terms d ≡ true = sym c.has_siblings.ensures ∙ c.if-not-has_siblings.false in
    let same = SameMembers-filter is_other near all (c.requires has) in
    c.in_order.ensures
    ∙ ap (in_term_order terms) (c.in_ok-others.ensures
    ∙ ap (λ own. filter (λ n. not (is_among n own)) near) c.values_of.ensures)
    ∙ in_term_order_same terms (filter is_other near) (filter is_other all) same.each
    ∙ sym (ap (λ (b : Bool). if b then in_term_order terms (filter is_other all) else []) has)
