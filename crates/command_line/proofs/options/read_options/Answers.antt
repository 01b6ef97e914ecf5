use Rattle.std.proofs.Common.{◌∙◌}
use Rattle.std.proofs.lemmas.Result.{err_from_is_err_and}
use Rattle.command_line.specs.Found.{found_text}
use Rattle.command_line.proofs.OptionLists.{made_more, settings_at}
use Rattle.command_line.proofs.options.read_options.Goals as goal

pub returns-in_err-take_option-clause-refused : goal.returns-in_err-take_option-clause-refused
returns-in_err-take_option-clause-refused c =
    let p = err_from_is_err_and c.from_residual-in_err-take_option.result c.from_residual-in_err-take_option.ensures.1 in
    rw (p.1)
    (λ other settings are.
    let at = settings_at (found_text c.args.matches.now) c.args.options.now c.loop-option.option-index _ settings c.loop-option-test.true are in
    c.in_err-take_option.ensures.refused (λ e. other (p.2 ∙ e)) at.0 at.1)

pub loop-option-preserved : goal.loop-option-preserved
loop-option-preserved c =
    made_more c.args.options.now c.loop-option.option-index _ c.args.console (found_text c.args.matches.now) c.loop-option.line c.take_option.new.line
    c.loop-option-test.true c.loop-option.invariant c.in_ok-take_option.ensures.taken
