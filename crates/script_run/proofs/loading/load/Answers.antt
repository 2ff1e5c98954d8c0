use Rattle.std.proofs.Common.{List, ◌≡◌, arith, refl, subst, sym}
use Rattle.std.specs.Prelude.{All, Ok}
use Rattle.std.proofs.lemmas.Result.{IfOk-weaker}
use Rattle.shx_term.specs.declared.triple.Triple.{Triple}
use Rattle.shx_term.specs.Pool.{with_terms}
use Rattle.shx_term.specs.TripleTerms.{numbered_all, terms_of}
use Rattle.graph_view.specs.Graph.{AllKnown, IsKnownTriple}
use Rattle.script_run.specs.declared.script_run.ScriptRun.{ScriptRun}
use Rattle.script_run.specs.Replies.{MovesOn}
use Rattle.script_run.specs.Stored.{IsScriptRun, MayGoOn}
use Rattle.script_run.specs.Work.{evaluating}
use Rattle.script_run.specs.inner.Loading.{stated_triples}
use Rattle.script_run.proofs.EnteredLemmas.{admitted_entered, cut_run, grown_run, grown_within, known_back}
use Rattle.script_run.proofs.EnteredLemmas.{held_terms, known_numbered}
use Rattle.script_run.proofs.ObeysLemmas.{MovesOn-answered}
use Rattle.script_run.proofs.TakenShapesLemmas.{ComesOf-full, ComesOf-judged}
use Rattle.script_run.proofs.loading.load.Goals as goal

pub enter_triples-requires : goal.enter_triples-requires
enter_triples-requires g c = record { valid = c.requires.valid }

-- ---- there is room

pub judge_entered-requires : goal.judge_entered-requires
judge_entered-requires g c =
    let script = c.args.script.now in
    let old = script.engine in
    let new = c.enter_triples.new.engine in
    let grows = c.enter_triples.ensures.grows in
    let ts = stated_triples c.args.pool.now.terms c.args.triples.now in
    let found = c.deref.result.now in
    let numbers = subst (λ (us : List Triple). us ≡ numbered_all new.graph.terms ts)
    (sym c.deref.ensures.value) c.in-Ok.ensures.numbers in
    let is = held_terms c.len-held.result _ _ old.graph c.len-held.ensures.count c.pool.ensures.terms
    c.view.ensures.graph in
    record {
      usable = c.requires.usable;
      few = c.requires.few;
      goes_on = subst MayGoOn (sym (grown_run old new grows c.len-held.result is script refl))
          c.requires.goes_on;
      running = c.requires.running;
      settled = omega (arith, grows.settled, c.view.ensures.settled, is);
      within = grown_within old new grows c.len-held.result is;
      below = known_back old new grows c.len-held.result is
          (subst AllKnown c.view.ensures.graph c.pool.ensures.known);
      known = subst (All (IsKnownTriple new.graph.terms)) (sym numbers)
          (known_numbered new.graph.terms ts);
      admitted = admitted_entered c.args.limits.now (g.P.PatternHost.admits c.args.patterns.now)
          old.graph.terms new.graph.terms ts found c.in-Ok.ensures.terms numbers
          (c.requires.admitted old.graph.terms);
    }

pub returns-in-Ok-clause-comes : goal.returns-in-Ok-clause-comes
returns-in-Ok-clause-comes g c = λ manner s document end same is ends.
    let script = c.args.script.now in
    let old = script.engine in
    let new = c.enter_triples.new.engine in
    let grows = c.enter_triples.ensures.grows in
    let ts = stated_triples c.args.pool.now.terms c.args.triples.now in
    let held = held_terms c.len-held.result _ _ old.graph c.len-held.ensures.count c.pool.ensures.terms
    c.view.ensures.graph in
    let judged = c.judge_entered in
    let numbers = subst (λ (us : List Triple). us ≡ numbered_all new.graph.terms ts)
    (sym c.deref.ensures.value) c.in-Ok.ensures.numbers in
    let back = grown_run old new grows c.len-held.result held script refl in
    let last = (g.P.PatternHost.state judged.new.patterns).refused in
    let before = evaluating c.args.steps.now c.args.nested.now in
    let after = evaluating judged.new.steps judged.new.nested in
    IfOk-weaker judged.result _ _
    (λ reply comes. ComesOf-judged manner s script is document end ts ends new.graph.terms
    c.in-Ok.ensures.terms c.deref.result.now reply judged.new.script last before after
    (omega (arith, c.in-Ok.ensures.room, grows.plan.term_limit, is.terms)) numbers comes)
    (judged.ensures.comes manner s same
    (subst (λ (r : ScriptRun). IsScriptRun manner.limits manner.format s r) (sym back) is))

-- ---- there is none

pub cut-requires : goal.cut-requires
cut-requires g c =
    let old = c.args.script.now.engine in
    let new = c.enter_triples.new.engine in
    let grows = c.enter_triples.ensures.grows in
    let is = held_terms c.len-held.result _ _ old.graph c.len-held.ensures.count c.pool.ensures.terms
    c.view.ensures.graph in
    record {
      settled = omega (arith, grows.settled, c.view.ensures.settled, is);
      within = grown_within old new grows c.len-held.result is;
    }

pub returns-in-Err-Full-clause-comes : goal.returns-in-Err-Full-clause-comes
returns-in-Err-Full-clause-comes g c = λ manner s document end same is ends.
    let script = c.args.script.now in
    let old = script.engine in
    let grows = c.enter_triples.ensures.grows in
    let ts = stated_triples c.args.pool.now.terms c.args.triples.now in
    let held = held_terms c.len-held.result _ _ old.graph c.len-held.ensures.count c.pool.ensures.terms
    c.view.ensures.graph in
    let back = cut_run old c.enter_triples.new.engine grows c.len-held.result held script refl c.cut.new.self
    c.cut.ensures in
    let work = evaluating c.args.steps.now c.args.nested.now in
    ComesOf-full manner s script is document end ts ends (with_terms old.graph.terms (terms_of ts)) refl
    c.refuse_line.result c.refuse_line.new.script (g.P.PatternHost.state c.args.patterns.now).refused work
    (omega (arith, c.in-Err-Full.ensures.full c.in-Err-Full.field-0-is, is.terms)) c.requires.running
    (c.refuse_line.ensures.replies manner s work
    (subst (λ (r : ScriptRun). IsScriptRun manner.limits manner.format s r) (sym back) is))

pub returns-in-Err-Full-clause-moves : goal.returns-in-Err-Full-clause-moves
returns-in-Err-Full-clause-moves g c =
    let script = c.args.script.now in
    let old = script.engine in
    let grows = c.enter_triples.ensures.grows in
    let held = held_terms c.len-held.result _ _ old.graph c.len-held.ensures.count c.pool.ensures.terms
    c.view.ensures.graph in
    let back = cut_run old c.enter_triples.new.engine grows c.len-held.result held script refl c.cut.new.self
    c.cut.ensures in
    let work = evaluating c.args.steps.now c.args.nested.now in
    let refused = c.refuse_line in
    subst (λ (r : ScriptRun). MovesOn (Ok refused.result) r refused.new.script work work) back
    (MovesOn-answered refused.result _ refused.new.script work work
    (refused.ensures.moves (subst MayGoOn (sym back) c.requires.goes_on) work))
