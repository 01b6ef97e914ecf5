use Rattle.std.proofs.Common.{sym, subst, ap, arith, ◌∙◌, refl, Some, None, true}
use Rattle.turn_desk.specs.declared.rule.Slot.{Slot}
use Rattle.turn_desk.specs.declared.rule.LastTurn.{LastTurn}
use Rattle.turn_desk.specs.Rule.{one_number, IsServing}
use Rattle.turn_desk.proofs.Places.{some_same}
use Rattle.turn_desk.proofs.Serves.{swapped, may_swap, may_finish, has_served}
use Rattle.turn_desk.proofs.turn_desk.TurnDesk.serve_at.Goals as goal

pub exchange-hollow-requires : goal.exchange-hollow-requires
exchange-hollow-requires g c =
    let k = c.requires.serving in
    let took = k.4 in
    let e = swapped (one_number c.args.self.now.given k.0 took.turns k.3 (Some k.1) true) c.args.seat.now.me
    c.exchange-served.new.seat.me took.slot c.exchange-served.result (record { served = None; last = None })
    took.view c.exchange-served.ensures.2 c.exchange-served.ensures.3 in (
      c.exchange-served.ensures.0 ∙ (c.requires.table ∙ ap (λ d. d.desk_id) (sym c.self.view_is)),
      (
        record { served = None; last = None },
        may_swap (one_number c.args.self.now.given k.0 took.turns k.3 (Some k.1) true) c.exchange-served.new.seat.me
            (record { served = None; last = None }) e.1,
      ),
    )

pub fetch_add-requires : goal.fetch_add-requires
fetch_add-requires g c =
    let sv = g.S.Served in
    let q = c.self.inside.table.shared.key in
    let given = q.solo.value.given in
    let words = c.self.invariant.0 in
    let k = subst (λ d. IsServing sv d.given c.args.seat.now.me) (sym c.self.view_is) c.requires.serving in
    let took = k.4 in
    let last : LastTurn g.row.S-Op.Denot g.row.S-Answer.Denot =
    record { op = c.of-asked.result; answer = c.of.result } in
    let full : Slot g.row.S.Denot g.row.S-Op.Denot g.row.S-Answer.Denot =
    record { served = Some c.serve-answer.new.self; last = Some last } in
    let v = one_number given k.0 took.turns k.3 (Some k.1) true in
    let e = swapped v c.args.seat.now.me c.exchange-served.new.seat.me took.slot c.exchange-served.result
    (record { served = None; last = None }) took.view c.exchange-served.ensures.2 c.exchange-served.ensures.3 in
    let f = swapped v c.exchange-served.new.seat.me c.exchange-hollow.new.seat.me
    (record { served = None; last = None }) c.exchange-hollow.result full e.1 c.exchange-hollow.ensures.2
    c.exchange-hollow.ensures.3 in
    let same = some_same took.state c.in-Some.state (sym took.served
    ∙ (ap (λ z. z.served) (sym e.0) ∙ c.in-Some.is)) in (
      c.exchange-hollow.ensures.0 ∙ (c.exchange-served.ensures.0
          ∙ (c.requires.table ∙ ap (λ d. d.desk_id) (sym c.self.view_is))),
      omega arith,
      may_finish sv given q.passes c.self.inside.table.shared.table_id.slots c.exchange-hollow.new.seat.id k.0 k.1 k.2
          k.3 c.args.seat.now.me c.exchange-hollow.new.seat.me full
          c.in-Some.state c.serve-answer.new.self last c.args.op c.serve-answer.result c.self.invariant.1 took same
          (record {
            start_is = c.serve-answer.ensures.start;
            entries_are = c.serve-answer.ensures.entries;
            later = c.serve-answer.ensures.mark;
            turn = c.serve-answer.ensures.turn;
          })
          c.of-asked.ensures c.of.ensures refl refl f.1,
    )

pub returns-clause-served : goal.returns-clause-served
returns-clause-served g c number n seen own took =
    let sv = g.S.Served in
    let last : LastTurn g.row.S-Op.Denot g.row.S-Answer.Denot =
    record { op = c.of-asked.result; answer = c.of.result } in
    let full : Slot g.row.S.Denot g.row.S-Op.Denot g.row.S-Answer.Denot =
    record { served = Some c.serve-answer.new.self; last = Some last } in
    let given = c.args.self.now.given in
    let v = one_number given number took.turns own (Some n) true in
    let e = swapped v c.args.seat.now.me c.exchange-served.new.seat.me took.slot c.exchange-served.result
    (record { served = None; last = None }) took.view c.exchange-served.ensures.2 c.exchange-served.ensures.3 in
    let f = swapped v c.exchange-served.new.seat.me c.exchange-hollow.new.seat.me
    (record { served = None; last = None }) c.exchange-hollow.result full e.1 c.exchange-hollow.ensures.2
    c.exchange-hollow.ensures.3 in
    let same = some_same took.state c.in-Some.state (sym took.served ∙ (ap (λ z. z.served) (sym e.0) ∙ c.in-Some.is)) in
    has_served sv given c.self.inside.table.shared.table_id.slots number n c.fetch_add.result seen own
    c.args.seat.now.me c.exchange-hollow.new.seat.me c.fetch_add.new.seat.me full
    c.in-Some.state c.serve-answer.new.self last c.args.op c.serve-answer.result took same
    (record {
      start_is = c.serve-answer.ensures.start;
      entries_are = c.serve-answer.ensures.entries;
      later = c.serve-answer.ensures.mark;
      turn = c.serve-answer.ensures.turn;
    })
    c.of-asked.ensures c.of.ensures refl refl f.1 c.fetch_add.ensures.2
