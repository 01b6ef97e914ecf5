use Rattle.std.proofs.Common.{◌∙◌, arith, refl, subst}
use Rattle.range_origin.specs.Talking.{SendsText, origin_at}
use Rattle.range_origin.proofs.SentTexts.{piece_at, sends_end, sends_on, sends_stop, starts_sending, still_held}
use Rattle.range_origin.proofs.sending.send_body.Goals as goal

pub loop-done-init : goal.loop-done-init
loop-done-init g c = (
  starts_sending g.T.Desk.sight g.D.Disk g.A.Doors c.turns_add_up.ensures.none c.args.name.now c.args.first c.args.len
      (origin_at c.args.desk.now c.args.door.now) c.requires.opened,
  refl,
)

pub send_piece-requires-clause-held : goal.send_piece-requires-clause-held
send_piece-requires-clause-held g c =
    let test = c.loop-done-test.true in
    let least = c.min-count.ensures in
    still_held g.T.Desk.sight g.D.Disk g.A.Doors c.args.name.now c.args.first c.args.len c.loop-done.done c.min-count.result
    (origin_at c.args.desk.now c.args.door.now) (origin_at c.loop-done.desk c.loop-done.door) (omega (arith, test, least))
    c.requires.held c.loop-done.invariant.0

pub send_piece-requires-clause-opened : goal.send_piece-requires-clause-opened
send_piece-requires-clause-opened g c = c.loop-done.invariant.0.stays_open

pub returns-in-Some-clause-sent : goal.returns-in-Some-clause-sent
returns-in-Some-clause-sent g c =
    let test = c.loop-done-test.true in
    let least = c.min-count.ensures in
    sends_stop g.T.Desk.sight g.D.Disk g.A.Doors c.turns_add_up.ensures.more c.args.name.now c.args.first c.args.len
    c.loop-done.done c.min-count.result c.in-Some.end
    (origin_at c.args.desk.now c.args.door.now) (origin_at c.loop-done.desk c.loop-done.door)
    (origin_at c.send_piece.new.desk c.send_piece.new.door) (omega (arith, test, least)) c.loop-done.invariant.0
    c.in-Some.ensures.sent

pub loop-done-preserved : goal.loop-done-preserved
loop-done-preserved g c =
    let test = c.loop-done-test.true in
    let least = c.min-count.ensures in
    let b = origin_at c.loop-done.desk c.loop-done.door in
    let d = origin_at c.send_piece.new.desk c.send_piece.new.door in (
      sends_on g.T.Desk.sight g.D.Disk g.A.Doors c.turns_add_up.ensures.more c.args.name.now c.args.first c.args.len
          c.loop-done.done c.min-count.result (origin_at c.args.desk.now c.args.door.now) b d (omega (arith, test, least))
          c.send_piece.ensures.stays_open c.loop-done.invariant.0
          (subst (λ end. SendsText g.T.Desk.sight g.D.Disk g.A.Doors (piece_at g.T.Desk.sight g.D.Disk g.A.Doors c.args.name.now c.args.first c.loop-done.done c.min-count.result b) 0 end b d)
          c.in_default.is c.send_piece.ensures.sent),
      c.send_piece.ensures.desk_id ∙ c.loop-done.invariant.1,
    )

pub returns-clause-stays_open : goal.returns-clause-stays_open
returns-clause-stays_open g c = c.loop-done.invariant.0.stays_open

pub returns-clause-sent : goal.returns-clause-sent
returns-clause-sent g c =
    let test = c.loop-done-test.false in
    sends_end g.T.Desk.sight g.D.Disk g.A.Doors c.args.name.now c.args.first c.args.len c.loop-done.done
    (origin_at c.args.desk.now c.args.door.now) (origin_at c.loop-done.desk c.loop-done.door) (omega (arith, test))
    c.loop-done.invariant.0

pub returns-in-Some-clause-desk_id : goal.returns-in-Some-clause-desk_id
returns-in-Some-clause-desk_id g c = c.in-Some.ensures.desk_id ∙ c.loop-done.invariant.1

pub returns-clause-desk_id : goal.returns-clause-desk_id
returns-clause-desk_id g c = c.loop-done.invariant.1
