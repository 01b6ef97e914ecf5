use Rattle.std.proofs.Common.{filter, take}
use Rattle.command_line.specs.Command.{is_word_option}
use Rattle.command_line.specs.Found.{MakeOptions, found_text}
use Rattle.command_line.proofs.options.read_options.Given as goal

abbrev pub invariant-loop-option : goal.invariant-loop-option
invariant-loop-option l =
    MakeOptions (filter is_word_option (take l.option-index l.options)) l.console (found_text l.matches) l.line
