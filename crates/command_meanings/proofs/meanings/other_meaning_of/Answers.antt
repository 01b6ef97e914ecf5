use Rattle.command_meanings.proofs.NoLine.{no_meaning, none_found}
use Rattle.command_meanings.proofs.meanings.other_meaning_of.Goals as goal

pub returns-in-None : goal.returns-in-None
returns-in-None c meaning = no_meaning _ c.requires (none_found _ _ c.in_default.is c.in_ok-line.ensures)
    (none_found _ _ c.in-None.is c.in_ok-line-2.ensures) meaning
