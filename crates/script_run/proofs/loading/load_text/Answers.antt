use Rattle.std.proofs.Common.{List, subst, sym}
use Rattle.std.specs.Prelude.{All}
use Rattle.shx_term.specs.declared.triple.Triple.{Triple}
use Rattle.graph_view.specs.Valid.{IsValidTriple, IsValidView}
use Rattle.shape_text.proofs.DocumentLemmas.{narrow_vocabulary}
use Rattle.shape_text.specs.Turtle.{HasNoWide}
use Rattle.script_run.specs.Work.{evaluating}
use Rattle.script_run.proofs.LoadingLemmas.{Loads-read, Loads-refused, MovesOn-refused, built_over, read_over}
use Rattle.script_run.proofs.TakenShapesLemmas.{stated_document}
use Rattle.script_run.proofs.loading.load_text.Goals as goal

pub with_vocabulary-requires : goal.with_vocabulary-requires
with_vocabulary-requires g c = c.requires.usable.terms

pub read_turtle-requires : goal.read_turtle-requires
read_turtle-requires g c = record {
  absolute = c.requires.goes_on.base;
  depth = c.requires.usable.turtle_depth;
  limit = c.in_ok-pool.ensures.limit;
  within = c.requires.within;
}

pub load-requires : goal.load-requires
load-requires g c =
    let states = c.in-Ok.ensures.states in
    let terms = c.read_turtle.new.pool.terms in
    let us = c.deref.result.now in
    let limits = c.args.limits.now in
    let base = c.args.script.now.base in
    let held = c.in_ok-pool.pool.terms in
    let read = read_over limits base c.args.text.items held terms us c.in-Ok.document.triples.items states.0
    c.deref.ensures.value states.1 in
    let ends = stated_document held terms us states.0 read.2 in
    record {
      usable = c.requires.usable;
      few = c.requires.few;
      goes_on = c.requires.goes_on;
      running = c.requires.running;
      valid = subst (λ (ts : List Triple). IsValidView (record { terms = terms; triples = ts }))
          (sym c.deref.ensures.value)
          (c.in-Ok.ensures.valid (subst HasNoWide (sym c.in_ok-pool.ensures.terms) narrow_vocabulary));
      admitted = built_over limits base (g.P.PatternHost.admits c.args.patterns.now) c.args.text.items held
          terms us states.0 c.in_ok-pool.ensures.terms read ends c.requires.admitted;
    }

pub returns-in-Ok-clause-loads : goal.returns-in-Ok-clause-loads
returns-in-Ok-clause-loads g c = λ manner s same is.
    let states = c.in-Ok.ensures.states in
    let terms = c.read_turtle.new.pool.terms in
    let us = c.deref.result.now in
    let end = states.0 in
    let limits = c.args.limits.now in
    let base = c.args.script.now.base in
    let held = c.in_ok-pool.pool.terms in
    let read = read_over limits base c.args.text.items held terms us c.in-Ok.document.triples.items end
    c.deref.ensures.value states.1 in
    let ends = stated_document held terms us end read.2 in
    let valid = c.in-Ok.ensures.valid (subst HasNoWide (sym c.in_ok-pool.ensures.terms) narrow_vocabulary) in
    let loaded = c.load in
    Loads-read manner limits base c.args.text.items s held terms us end loaded.result loaded.new.script
    (g.P.PatternHost.state loaded.new.patterns).refused (evaluating c.args.steps.now c.args.nested.now)
    (evaluating loaded.new.steps loaded.new.nested) same c.in_ok-pool.ensures.terms read
    (subst (λ (ts : List Triple). All (IsValidTriple terms) ts) (sym c.deref.ensures.value) valid.triples)
    ends (loaded.ensures.comes manner s (record { terms = terms; triples = us }) end same is ends)

pub returns-clause-loads : goal.returns-clause-loads
returns-clause-loads g c = λ manner s same is.
    Loads-refused manner c.args.limits.now c.args.script.now.base c.args.text.items s c.in_ok-pool.pool.terms
    c.args.script.now c.refuse_text.new.script c.in-Err.refusal c.refuse_text.result
    (g.P.PatternHost.state c.args.patterns.now).refused (evaluating c.args.steps.now c.args.nested.now) same
    is c.requires.running c.in_ok-pool.ensures.terms c.in-Err.ensures.refused c.refuse_text.ensures

pub returns-clause-moves : goal.returns-clause-moves
returns-clause-moves g c =
    MovesOn-refused c.args.script.now c.refuse_text.new.script c.in-Err.refusal c.refuse_text.result
    c.refuse_text.ensures c.requires.goes_on (evaluating c.args.steps.now c.args.nested.now)
