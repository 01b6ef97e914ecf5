use Rattle.std.proofs.Common.{◌≡◌, rules, subst, sym}
use Rattle.std.specs.Prelude.{IfOk}
use Rattle.std.proofs.lemmas.Int.{to_z-of_z}
use Rattle.machine_core.specs.declared.calls.Call.{Call}
use Rattle.run_report.specs.Replies.{reply_of}
use Rattle.run_report.proofs.replies.reply_by_names.Goals as goal
use mir.Syntax.{w64}
use mir.Val.{SFits}

pub returns-in-TellWaiting : goal.returns-in-TellWaiting
returns-in-TellWaiting c = λ names are.
    let m = c.args.machine.now in
    let fits : SFits w64 c.in-TellWaiting.offset = search rules in
    let told = c.tell_waiting.ensures names are in
    subst (λ (asked : Call). IfOk c.tell_waiting.result (λ reply. reply ≡ reply_of m.start m.past names asked c.args.now))
    (sym c.in-TellWaiting.is) (simp to_z-of_z at told)

pub returns-in-TellStopped : goal.returns-in-TellStopped
returns-in-TellStopped c = λ names are.
    let m = c.args.machine.now in
    let fits : SFits w64 c.in-TellStopped.offset = search rules in
    let told = c.tell_stopped.ensures names are in
    subst (λ (asked : Call). IfOk c.tell_stopped.result (λ reply. reply ≡ reply_of m.start m.past names asked c.args.now))
    (sym c.in-TellStopped.is) (simp to_z-of_z at told)
