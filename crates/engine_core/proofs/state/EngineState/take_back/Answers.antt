use Rattle.std.proofs.Common.{List, drop, filter, reverse, ap, ◌∙◌, subst}
use Rattle.machine_core.specs.MachineViews.{MachineView}
use Rattle.machine_core.specs.Replays.{is_active_in}
use Rattle.machine_core.specs.declared.events.Event.{Event}
use Rattle.machine_core.specs.declared.handed.Handed.{Handed}
use Rattle.engine_core.specs.Engines.{past_of, start_of}
use Rattle.engine_core.specs.Handing.{settle_none}
use Rattle.machine_core.specs.RunLegal.{IsLegal}
use Rattle.engine_core.proofs.Awaiting.{out_after}
use Rattle.engine_core.proofs.Handings.{filter_twice}
use Rattle.engine_core.proofs.state.EngineState.take_back.Goals as goal

pub returns-clause-pieces : goal.returns-clause-pieces
returns-clause-pieces g c =
    let e = c.args.self.now in
    let active : Handed → _ = λ h. is_active_in (start_of e) (past_of e) h.gid in
    let events_are = c.journal.ensures.events ∙ ap (λ (m : MachineView). reverse m.past) c.machine.ensures in
    c.keep_active.ensures.pieces
    ∙ (ap (λ (m : MachineView). filter (λ h. is_active_in m.start m.past h.gid) c.hand_back_settled.new.handed.pieces)
    c.machine-2.ensures
    ∙ (ap (filter active) (c.hand_back_settled.ensures.pieces
    ∙ ap (λ (es : List Event). filter (settle_none (drop c.args.from es)) e.handed.pieces) events_are)
    ∙ filter_twice active (settle_none (drop c.args.from (reverse (past_of e)))) e.handed.pieces))

pub returns-clause-out : goal.returns-clause-out
returns-clause-out g c before events past_is from_is out =
    let e = c.args.self.now in
    let legal = subst (λ (m : MachineView). IsLegal m.start m.past) c.machine.ensures c.journal.ensures.legal in
    out_after c.out_pieces_stay.ensures (start_of e) before (past_of e) events c.args.from e.handed.pieces
    c.keep_active.new.self.pieces past_is from_is legal (returns-clause-pieces g c) out
