use Rattle.std.proofs.Common.{◌≡◌, filter, take}
use Rattle.clap.specs.Simple.{app_of}
use Rattle.command_line.specs.Command.{is_word_option, with_options}
use Rattle.command_line.proofs.command.with_all.Given as goal

abbrev pub invariant-loop-option : goal.invariant-loop-option
invariant-loop-option l =
    app_of l.command ≡ with_options (app_of l.fn.base) (filter is_word_option (take l.option-index l.options))
