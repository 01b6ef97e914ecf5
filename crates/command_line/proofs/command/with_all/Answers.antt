use Rattle.clap.specs.Simple.{app_of}
use Rattle.command_line.proofs.OptionLists.{options_more}
use Rattle.command_line.proofs.command.with_all.Goals as goal

pub loop-option-preserved : goal.loop-option-preserved
loop-option-preserved c =
    options_more (app_of c.args.base) (app_of c.loop-option.command) (app_of c.in_ok-command.command) c.args.options.now c.loop-option.option-index _
    c.loop-option-test.true c.loop-option.invariant c.in_ok-command.ensures
