use Rattle.std.proofs.Common.{[], ◌∷◌, sym, subst, ap, ◌∙◌, arith}
use Rattle.turn_desk.specs.Rule.{IsGathering, IsGatheringSome, share_of}
use Rattle.turn_desk.proofs.Ends.{may_join, plays, took_in}
use Rattle.turn_desk.proofs.turn_desk.TurnDesk.take_in.Goals as goal

pub join_seat-requires : goal.join_seat-requires
join_seat-requires g c =
    let q = c.self.inside.table.shared.key in
    let words = c.self.invariant.0 in
    let desk = ap (λ d. d.desk_id) (sym c.self.view_is) in
    let seat = c.into_seat-seat.result in
    let mine = plays c.args.self.now.given seat.table_id c.args.pass seat.me c.into_seat-seat.ensures.view
    c.into_seat-seat.ensures.playing c.requires.pass.1 in
    let all = subst (λ d. IsGatheringSome d.given c.args.all.me) (sym c.self.view_is) c.requires.all in (
      ap (λ p. p.desk_id) (sym c.into_seat-seat.ensures.view) ∙ (c.requires.pass.0 ∙ desk),
      c.requires.table ∙ desk,
      ap (λ m. m.1) all.1.1,
      omega arith,
      may_join g.S.Served q.solo.value.given q.passes seat.id c.args.all.id
          (share_of c.args.pass ∷ []) all.0 seat.me c.args.all.me
          (subst (λ d. IsGathering d.given (share_of c.args.pass ∷ []) seat.me) (sym c.self.view_is) mine) all.1,
    )

pub returns-clause-gathered : goal.returns-clause-gathered
returns-clause-gathered g c shares is =
    let seat = c.into_seat-seat.result in
    let mine = plays c.args.self.now.given seat.table_id c.args.pass seat.me c.into_seat-seat.ensures.view
    c.into_seat-seat.ensures.playing c.requires.pass.1 in
    took_in c.args.self.now.given (share_of c.args.pass ∷ []) shares seat.me c.args.all.me c.join_seat.new.seat.me
    mine is c.join_seat.ensures.2
