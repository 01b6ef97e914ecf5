use Rattle.std.proofs.Common.{refl}
use Rattle.console_http.specs.Readings.{door_at}
use Rattle.console_http.proofs.Plain.{no_upgrade_stays}
use Rattle.console_http.proofs.Serving.{serves}
use Rattle.console_http.proofs.talking.serve_connection.Goals as goal

pub returns-clause-serves : goal.returns-clause-serves
returns-clause-serves g c =
    let laws = c.requests_are_one_and_stay.ensures in
    let heads = c.ask_heads_are_one_and_stay.ensures in
    let plain_stays = no_upgrade_stays heads.one heads.stays heads.none_stays in
    let talks = c.talk-end.ensures.ends in (
      talks.0,
      serves laws.stays laws.within plain_stays c.newest_connection_is_one.ensures g.S.Caller.at g.S.Session.asks g.S.Session.steps g.A.Doors talks.0 c.talk-end.result
          c.args.intake.now.most c.clear.new.self (door_at c.args.session.now c.args.desk.now c.args.door.now)
          (door_at c.talk-end.new.session c.talk-end.new.desk c.talk-end.new.door)
          (door_at c.talk-end.new.session c.talk-end.new.desk c.hang_up.new.self) c.requires.met c.clear.ensures talks.1
          (record { session = refl; desk = refl; told = c.hang_up.ensures.closed; faults = c.hang_up.ensures.faults }),
    )
