use Rattle.std.specs.Prelude.{◌≡◌, ◌++◌, map, take}
use Rattle.std.proofs.Common.{refl, sym, ap, ◌∙◌, subst, append-nil}
use Rattle.std.proofs.lemmas.List.{take_all}
use Rattle.shx_term.proofs.PieceLemmas.{three_in_turn}
use Rattle.path_eval.specs.Route.{alternative, route_of, sequence}
use Rattle.path_eval.proofs.RouteLemmas.{route_Seq, route_Alt}
use Rattle.report_write.specs.PathForms.{between, opening}
use Rattle.report_write.specs.PathTexts.{path_text}
use Rattle.report_write.specs.inner.Parts.{before_next, joined, path_texts}
use Rattle.report_write.proofs.PartLemmas.{path_text-sequence, path_text-alternative, path_texts-more}
use Rattle.report_write.proofs.PartLemmas.{before_next-more, opened-more}
use Rattle.report_write.proofs.path.+path.Goals as goal

pub add_path-returns-in-Seq : goal.add_path-returns-in-Seq
add_path-returns-in-Seq g t c =
    let terms = c.args.pool.now.terms in
    let format = c.args.format in
    let is = ap (λ path. path_text format terms (route_of path)) c.in-Seq.is
    ∙ ap (path_text format terms) (route_Seq c.in-Seq.parts)
    ∙ ap (λ parts. path_text format terms (sequence (map route_of parts))) (sym c.deref.ensures.value)
    ∙ path_text-sequence format terms c.deref.result.now in
    subst (g.W.Pieces.added c.args.out.now c.add_parts.new.out) (sym is) c.add_parts.ensures

pub add_path-returns-in-Alt : goal.add_path-returns-in-Alt
add_path-returns-in-Alt g t c =
    let terms = c.args.pool.now.terms in
    let format = c.args.format in
    let is = ap (λ path. path_text format terms (route_of path)) c.in-Alt.is
    ∙ ap (path_text format terms) (route_Alt c.in-Alt.members)
    ∙ ap (λ members. path_text format terms (alternative (map route_of members)))
    (sym c.deref-in-Alt.ensures.value)
    ∙ path_text-alternative format terms c.deref-in-Alt.result.now in
    subst (g.W.Pieces.added c.args.out.now c.add_parts-in-Alt.new.out) (sym is) c.add_parts-in-Alt.ensures

pub add_inner-returns : goal.add_inner-returns
add_inner-returns g t c =
    let front = rw (c.as_bytes.ensures.value, c.opening.ensures) at c.add.ensures in
    let back = rw (c.as_bytes-2.ensures.value, c.closing.ensures) at c.add-2.ensures in
    three_in_turn g.met.W.Pieces.added_in_turn front c.add_path.ensures back

pub add_parts-loop-part-init : goal.add_parts-loop-part-init
add_parts-loop-part-init g t c =
    let format = c.args.format in
    let form = c.args.form in
    let front = rw (c.as_bytes.ensures.value, c.opening.ensures) at c.add.ensures in
    (refl, rw append-nil front)

pub add_parts-loop-part-preserved : goal.add_parts-loop-part-preserved
add_parts-loop-part-preserved g t c =
    let terms = c.args.pool.now.terms in
    let format = c.args.format in
    let form = c.args.form in
    let mark = between format form in
    let parts = c.args.parts.now in
    let texts = path_texts format terms (take c.loop-part.part-index parts) in
    let next = path_text format terms (route_of c.part-item.result) in
    let more = path_texts-more format terms parts c.loop-part.part-index c.part-item.result
    c.loop-part-test.true c.part-item.is in
    let before = subst (g.W.Pieces.added c.loop-part.out c.add-in-loop-part.new.self)
    c.loop-part.invariant.0 c.add-in-loop-part.ensures in
    let in_turn = g.met.W.Pieces.added_in_turn in
    let added = three_in_turn in_turn c.loop-part.invariant.1 before c.add_path.ensures in (
      rw (c.as_bytes-before.ensures.value, c.between.ensures)
          (sym (ap (before_next mark) more ∙ before_next-more mark texts next)),
      subst (g.W.Pieces.added c.args.out.now c.add_path.new.out)
          (opened-more (opening format form) mark texts next
          ∙ ap (λ all. opening format form ++ joined mark all) (sym more)) added,
    )

pub add_parts-returns : goal.add_parts-returns
add_parts-returns g t c =
    let terms = c.args.pool.now.terms in
    let format = c.args.format in
    let form = c.args.form in
    let parts = c.args.parts.now in
    let all : take c.loop-part.part-index parts ≡ parts =
    take_all c.loop-part.part-index parts c.loop-part-test.false in
    let inside = subst (λ done. g.W.Pieces.added c.args.out.now c.loop-part.out
    (opening format form ++ joined (between format form) (path_texts format terms done))) all
    c.loop-part.invariant.1 in
    let back = rw (c.as_bytes-2.ensures.value, c.closing.ensures) at c.add-2.ensures in
    g.met.W.Pieces.added_in_turn _ _ _ _ _ inside back
