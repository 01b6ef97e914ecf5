use Rattle.resume_core.specs.Tables.{ArePartial}
use Rattle.resume_core.proofs.listing.flight_of.Given as goal

abbrev pub invariant-loop-piece : goal.invariant-loop-piece
invariant-loop-piece l = ArePartial l.plan.total l.plan.piece_len l.verified l.listed l.piece l.flight
