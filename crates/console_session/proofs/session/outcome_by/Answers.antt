use Rattle.std.proofs.Common.{sym, subst}
use Rattle.engine_turns.specs.declared.operations.Said.{Said}
use Rattle.rpc_envelope.specs.Outcomes.{outcome_if_any}
use Rattle.console_session.proofs.Telling.{told_or_lost}
use Rattle.console_session.specs.CallTurns as specs
use Rattle.console_session.proofs.session.outcome_by.Goals as goal

pub returns-in-Replied-clause-told : goal.returns-in-Replied-clause-told
returns-in-Replied-clause-told c =
    let Told : Said → Type 0 =
    λ said. specs.IsToldOrLost (specs.outcome_by c.args.keys.now said) (outcome_if_any c.reply_value.result) in
    subst Told (sym c.in-Replied.is)
    (told_or_lost c.in-Replied.reply c.args.keys.now c.reply_value.result c.reply_value.ensures.told
    c.reply_value.ensures.memory c.reply_value.ensures.refused)
