use Rattle.std.proofs.Common.{sym, ◌∙◌, subst}
use Rattle.command_line.specs.Found.{found_text, list_of}
use Rattle.command_line.specs.Lines.{AreSettingsOf}
use Rattle.command_line.proofs.OptionLists.{taken}
use Rattle.command_line.proofs.options.take_option.Goals as goal

pub returns-in_ok-take_setting-in-Some-clause-taken : goal.returns-in_ok-take_setting-in-Some-clause-taken
returns-in_ok-take_setting-in-Some-clause-taken c =
    taken c.args.console (found_text c.args.matches.now) c.args.option c.args.line.now c.take_setting.new.line c.in-Some.setting
    (sym c.is_word_option.ensures ∙ c.if-not-is_word_option.false) (subst (λ s. AreSettingsOf c.args.option (found_text c.args.matches.now c.args.option) (list_of s)) c.in-Some.is c.in_ok-setting.ensures.found)
    c.in_ok-take_setting-in-Some.ensures
