use Rattle.std.proofs.Common.{arith, below_more}
use Rattle.std.proofs.lemmas.Option.{slice_get_within}
use Rattle.machine_core.specs.Clashes.{HasFileAt}
use Rattle.machine_core.specs.Reads.{downloads_in}
use Rattle.machine_core.proofs.FileTwins.{file_twin, match_false, match_true, no_file_twin}
use Rattle.machine_core.proofs.Here.{sees}
use Rattle.machine_core.proofs.Twins.{stands}
use Rattle.machine_core.proofs.machine.Machine.same_file.Goals as goal

pub returns-then-branch-clause-found : goal.returns-then-branch-clause-found
returns-then-branch-clause-found c =
    let seen = sees _ c.args.self.now c.self.invariant c.self.view_is in
    let h = match_true _ (HasFileAt c.args.self.now c.args.gid c.loop-at.at) _ c.if-branch.true
    c.in_ok-has_file_at.ensures in
    let below = slice_get_within (downloads_in c.args.self.now) c.loop-at.at h.download h.added in
    file_twin _ c.args.self.now c.args.gid c.loop-at.at c.index.result.now seen
    (stands _ c.args.self.now c.loop-at.at c.index.result.now seen below c.index.ensures) h

pub loop-at-preserved : goal.loop-at-preserved
loop-at-preserved c =
    below_more _ _ c.loop-at.invariant
    (match_false _ _ (HasFileAt c.args.self.now c.args.gid c.loop-at.at → ⊥) c.if-branch.false
    c.in_ok-has_file_at.ensures)

pub returns-clause-none : goal.returns-clause-none
returns-clause-none c =
    let seen = sees _ c.args.self.now c.self.invariant c.self.view_is in
    λ plan. no_file_twin _ c.args.self.now c.args.gid c.loop-at.at seen
    (let past = c.loop-at-test.false in let end = c.loop-at.auto in omega (arith, c.len-at-end.ensures, c.self.inside.entries.ok.0))
    c.loop-at.invariant
