use Rattle.std.proofs.Common.{sym, subst, rules}
use Rattle.std.proofs.lemmas.Int.{to_z-of_z}
use Rattle.machine_core.specs.CallParts.{IsPlainCall}
use Rattle.machine_core.specs.declared.calls.Call.{Call}
use Rattle.machine_core.proofs.PlainCalls.{forgetting, moving, pausing, removing, unpausing}
use Rattle.machine_core.proofs.plain.apply_plain.Goals as goal
use mir.Syntax.{w64}
use mir.Val.{SFits}

pub returns-in-Remove : goal.returns-in-Remove
returns-in-Remove c =
    subst
    (λ (asked : Call). IsPlainCall asked c.args.queue.now c.remove.new.queue c.args.shut.now c.args.shut.now
    c.args.entries.now.items c.remove.new.entries.items c.remove.result) (sym c.in-Remove.is)
    (removing c.in-Remove.key c.args.queue.now c.remove.new.queue c.args.shut.now c.args.entries.now.items
    c.remove.new.entries.items c.remove.result c.remove.ensures.queue c.remove.ensures.answer c.remove.ensures.halts)

pub returns-in-Pause : goal.returns-in-Pause
returns-in-Pause c =
    subst
    (λ (asked : Call). IsPlainCall asked c.args.queue.now c.pause.new.queue c.args.shut.now c.args.shut.now
    c.args.entries.now.items c.pause.new.entries.items c.pause.result) (sym c.in-Pause.is)
    (pausing c.in-Pause.key c.args.queue.now c.pause.new.queue c.args.shut.now c.args.entries.now.items
    c.pause.new.entries.items c.pause.result c.pause.ensures.queue c.pause.ensures.answer c.pause.ensures.halts)

pub returns-in-Unpause : goal.returns-in-Unpause
returns-in-Unpause c =
    subst
    (λ (asked : Call). IsPlainCall asked c.args.queue.now c.unpause.new.queue c.args.shut.now c.args.shut.now
    c.args.entries.now.items c.args.entries.now.items c.unpause.result) (sym c.in-Unpause.is)
    (unpausing c.in-Unpause.key c.args.queue.now c.unpause.new.queue c.args.shut.now c.args.entries.now.items
    c.unpause.result c.unpause.ensures.queue c.unpause.ensures.answer)

pub returns-in-RemoveResult : goal.returns-in-RemoveResult
returns-in-RemoveResult c =
    subst
    (λ (asked : Call). IsPlainCall asked c.args.queue.now c.forget.new.queue c.args.shut.now c.args.shut.now
    c.args.entries.now.items c.args.entries.now.items c.forget.result) (sym c.in-RemoveResult.is)
    (forgetting c.in-RemoveResult.key c.args.queue.now c.forget.new.queue c.args.shut.now c.args.entries.now.items
    c.forget.result c.forget.ensures.queue c.forget.ensures.answer)

pub returns-in-ChangePosition : goal.returns-in-ChangePosition
returns-in-ChangePosition c =
    let fits : SFits w64 c.in-ChangePosition.pos = search rules in
    subst
    (λ (asked : Call). IsPlainCall asked c.args.queue.now c.change_position.new.queue c.args.shut.now c.args.shut.now
    c.args.entries.now.items c.args.entries.now.items c.change_position.result) (sym c.in-ChangePosition.is)
    (moving c.in-ChangePosition.key c.in-ChangePosition.pos c.in-ChangePosition.how c.args.queue.now
    c.change_position.new.queue c.args.shut.now c.args.entries.now.items c.change_position.result
    (simp to_z-of_z at c.change_position.ensures.queue) (simp to_z-of_z at c.change_position.ensures.answer))
