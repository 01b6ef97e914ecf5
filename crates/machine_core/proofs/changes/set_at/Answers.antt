use Rattle.std.proofs.Common.{sym}
use Rattle.machine_core.proofs.OptionCalls.{set_here, set_none}
use Rattle.machine_core.proofs.changes.set_at.Goals as goal

pub returns-in_ok-copy-in-Some : goal.returns-in_ok-copy-in-Some
returns-in_ok-copy-in-Some c =
    set_here c.args.options.now c.apply.new.self c.args.settings.now c.args.place c.in-Some.setting.now c.in_ok-copy-in-Some.field-0
    (sym c.in-Some.ensures) c.in_ok-copy-in-Some.ensures c.apply.ensures

pub returns-in-None : goal.returns-in-None
returns-in-None c = set_none c.args.options.now c.args.settings.now c.args.place (sym c.in-None.ensures)
