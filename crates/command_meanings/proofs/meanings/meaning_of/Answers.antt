use Rattle.std.proofs.Common.{ap, sym, ◌∙◌, arith, Ok, Some}
use Rattle.command_meanings.specs.declared.meanings.Meaning.TheVariants.{Load}
use Rattle.command_meanings.proofs.NoLine.{none_found, same_number}
use Rattle.command_meanings.proofs.meanings.meaning_of.Goals as goal

pub returns-in-Some-clause-load : goal.returns-in-Some-clause-load
returns-in-Some-clause-load c n ask =
    ap (λ m. Ok (Some (Load m))) (same_number c.in-Some.n n (omega arith) ask.0 (sym c.in-Some.ensures ∙ ask.1))

pub returns-in_err-line-clause-load : goal.returns-in_err-line-clause-load
returns-in_err-line-clause-load c n ask = absurd (c.in_default.ensures n ask.0 ask.1)

pub returns-in-Some-2-clause-load : goal.returns-in-Some-2-clause-load
returns-in-Some-2-clause-load c n ask = absurd (c.in_default.ensures n ask.0 ask.1)

pub other_meaning_of-requires : goal.other_meaning_of-requires
other_meaning_of-requires c = record {
  load = λ n ask. c.in_default.ensures n ask.0 ask.1;
  line = none_found _ _ c.in-None.is c.in_ok-line.ensures;
}

pub returns-in-None-clause-load : goal.returns-in-None-clause-load
returns-in-None-clause-load c n ask = absurd (c.in_default.ensures n ask.0 ask.1)
