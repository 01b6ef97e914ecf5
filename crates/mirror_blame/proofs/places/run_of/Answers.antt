use Rattle.mirror_blame.proofs.Runs.{run_rises, run_is}
use Rattle.mirror_blame.proofs.places.run_of.Goals as goal

pub slice_bounds-result-count : goal.slice_bounds-result-count
slice_bounds-result-count c =
    run_rises c.args.first c.args.last c.start_of-from.result c.start_of-to.result c.args.places.now c.requires.order c.start_of-from.ensures.bound c.start_of-from.ensures.before c.start_of-to.ensures.from

pub slice_bounds-result-start : goal.slice_bounds-result-start
slice_bounds-result-start c =
    run_rises c.args.first c.args.last c.start_of-from.result c.start_of-to.result c.args.places.now c.requires.order c.start_of-from.ensures.bound c.start_of-from.ensures.before c.start_of-to.ensures.from

pub returns-clause-run : goal.returns-clause-run
returns-clause-run c =
    run_is c.args.first c.args.last c.start_of-from.result c.start_of-to.result c.args.places.now
    (run_rises c.args.first c.args.last c.start_of-from.result c.start_of-to.result c.args.places.now c.requires.order c.start_of-from.ensures.bound c.start_of-from.ensures.before c.start_of-to.ensures.from)
    c.start_of-to.ensures.bound c.start_of-from.ensures.before c.start_of-from.ensures.from c.start_of-to.ensures.before c.start_of-to.ensures.from
