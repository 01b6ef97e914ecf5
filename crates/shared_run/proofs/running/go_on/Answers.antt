use Rattle.std.proofs.Common.{◌≡◌, ◌∙◌, ap, length, rules, sym}
use Rattle.std.specs.Prelude.{vec_len}
use Rattle.shared_run.proofs.Unused.{goes_with, goes_without, no_doors_left}
use Rattle.shared_run.proofs.running.go_on.Goals as goal

pub returns-then-begun : goal.returns-then-begun
returns-then-begun g c = goes_with c.if-begun.true c.go_through.ensures

pub destroy_empty-requires : goal.destroy_empty-requires
destroy_empty-requires g c =
    let none = no_doors_left c.go_through-ended.ensures (search (c, rules)) in
    let many : length c.go_through-ended.result.doors.items ≡ vec_len c.go_through-ended.result.doors = search (c, rules) in
    sym many ∙ ap length none

pub returns : goal.returns
returns g c = goes_without c.args.doors.items c.go_through-ended.ensures c.if-begun.false (search (c, rules))
