use Rattle.std.proofs.Common.{sym, subst, ap, ◌∙◌, arith}
use Rattle.turn_desk.specs.Rule.{MayDeal, IsDealt, pass_of}
use Rattle.turn_desk.proofs.Ends.{may_deal, handed}
use Rattle.turn_desk.proofs.turn_desk.TurnDesk.deal.Goals as goal

pub split_seat-requires : goal.split_seat-requires
split_seat-requires g c =
    let q = c.self.inside.table.shared.key in
    let words = c.self.invariant.0 in
    let h = subst (λ d. MayDeal d.given c.args.seat.now.me) (sym c.self.view_is) c.requires.dealing in (
      c.requires.table ∙ ap (λ d. d.desk_id) (sym c.self.view_is),
      omega arith,
      may_deal g.S.Served q.solo.value.given q.passes c.args.seat.now.id h.0 h.1 h.2 c.args.seat.now.me h.3 h.4,
    )

pub invariant_of-result : goal.invariant_of-result
invariant_of-result g c =
    let h = c.requires.dealing in
    (handed c.args.self.now.given c.args.self.now.desk_id c.args.self.now.passes h.0 h.1 h.2 c.args.seat.now.me
    c.split_seat.new.seat.me c.split_seat.result.me h.4 c.split_seat.ensures.2 c.split_seat.ensures.4).1

pub returns-clause-dealt : goal.returns-clause-dealt
returns-clause-dealt g c base next left is =
    let h = handed c.args.self.now.given c.args.self.now.desk_id c.args.self.now.passes base next left
    c.args.seat.now.me c.split_seat.new.seat.me c.split_seat.result.me is c.split_seat.ensures.2
    c.split_seat.ensures.4 in
    let desk = c.args.self.now in (
      h.0,
      subst (λ z. IsDealt desk base next (pass_of z c.split_seat.result.me))
          (sym (c.split_seat.ensures.3 ∙ c.requires.table)) h.2,
    )
