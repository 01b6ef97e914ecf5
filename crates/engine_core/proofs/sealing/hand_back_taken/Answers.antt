use Rattle.std.proofs.Common.{sym, ◌∙◌}
use Rattle.engine_turns.specs.Told.{is_taken}
use Rattle.engine_core.proofs.Sealed.{but_taken, but_untaken}
use Rattle.engine_core.proofs.sealing.hand_back_taken.Goals as goal

pub returns-then-is_seal_taken : goal.returns-then-is_seal_taken
returns-then-is_seal_taken c =
    let a = c.args in
    c.hand_back.ensures.pieces
    ∙ but_taken a.gid a.piece (is_taken a.said.now) a.handed.now.pieces (sym c.is_seal_taken.ensures ∙ c.if-is_seal_taken.true)

pub returns-else-is_seal_taken : goal.returns-else-is_seal_taken
returns-else-is_seal_taken c =
    let a = c.args in
    but_untaken a.gid a.piece (is_taken a.said.now) a.handed.now.pieces (sym c.is_seal_taken.ensures ∙ c.if-is_seal_taken.false)
