use Rattle.std.proofs.Common.{◌≡◌, ℕ}
use Rattle.conn_worker.specs.Works.{workplace}
use Rattle.conn_worker.proofs.TakingTurns.{GoesOn}
use Rattle.conn_worker.proofs.keeping.keep_turns.Given as goal

-- the turns so far, none of which ended the work
abbrev pub invariant-loop : goal.invariant-loop
invariant-loop g l = ((turns : ℕ) × GoesOn g.L.Links g.K.Clock
    (workplace (g.T.Desk.sight l.fn.desk) l.fn.state l.fn.link l.fn.clock)
    (workplace (g.T.Desk.sight l.desk) l.state l.link l.clock) turns)
    × (g.T.Desk.desk_id l.desk ≡ g.T.Desk.desk_id l.fn.desk)
