use Rattle.std.proofs.Common.{refl, rules, subst, sym}
use Rattle.std.proofs.lemmas.Int.{to_z-of_z}
use Rattle.dl_queue.specs.Calls.{ChangePosition, Forget}
use Rattle.machine_core.specs.NoticeLogs.{FollowsPlain}
use Rattle.machine_core.specs.declared.calls.Call.{Call}
use Rattle.machine_core.specs.declared.calls.Call.TheVariants as call
use Rattle.machine_core.proofs.FollowedCalls.{keyed_follows}
use Rattle.machine_core.proofs.Leaving.{call_adds_none}
use Rattle.machine_core.proofs.following.follow_plain.Goals as goal
use mir.Syntax.{w64}
use mir.Val.{SFits}

pub returns-in-ChangePosition : goal.returns-in-ChangePosition
returns-in-ChangePosition c =
    let fits : SFits w64 c.in-ChangePosition.pos = search rules in
    subst (λ (asked : Call). FollowsPlain asked c.args.queue.now c.change_position.new.queue) (sym c.in-ChangePosition.is)
    (keyed_follows (call.ChangePosition c.in-ChangePosition.key c.in-ChangePosition.pos c.in-ChangePosition.how)
    (λ gid. ChangePosition gid c.in-ChangePosition.pos c.in-ChangePosition.how) c.in-ChangePosition.key c.args.queue.now
    c.change_position.new.queue (λ start r. refl) (simp to_z-of_z at c.change_position.ensures.queue)
    (λ gid. call_adds_none c.args.queue.now
    (ChangePosition gid c.in-ChangePosition.pos c.in-ChangePosition.how) refl))

pub returns-in-RemoveResult : goal.returns-in-RemoveResult
returns-in-RemoveResult c =
    subst (λ (asked : Call). FollowsPlain asked c.args.queue.now c.forget.new.queue) (sym c.in-RemoveResult.is)
    (keyed_follows (call.RemoveResult c.in-RemoveResult.key) Forget c.in-RemoveResult.key c.args.queue.now
    c.forget.new.queue (λ start r. refl) c.forget.ensures.queue
    (λ gid. call_adds_none c.args.queue.now (Forget gid) refl))
