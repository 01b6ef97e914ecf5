use Rattle.std.proofs.Common.{◌≡◌, true, false, sym, subst, ◌∙◌}
use Rattle.command_line.specs.Found.{found_console}
use Rattle.command_line.specs.Sources.{IsSource, words_of}
use Rattle.command_line.proofs.Parsed.{by_none, words_found}
use Rattle.command_line.proofs.line.line_of.Goals as goal

pub returns-in-Err-2 : goal.returns-in-Err-2
returns-in-Err-2 c = λ line found.
    c.in-Err.ensures.refused (λ is. let e : false ≡ true = sym c.if-is_want_of_memory.false ∙ c.is_want_of_memory.ensures.1 is in cc)
    found.assigned found.settings_are

pub returns-in-None : goal.returns-in-None
returns-in-None c = λ line found.
    by_none c.in_ok-source.field-0 _ _ c.in-None.is c.in_ok-source.ensures line.source
    (subst (λ console. IsSource console (words_of c.get_strs.result) line.source) (sym c.has_console-console.ensures)
    (subst (λ words. IsSource (found_console c.args.matches.now) words line.source) (sym (words_found c.get_strs.result _ c.get_strs.ensures)) found.source))
