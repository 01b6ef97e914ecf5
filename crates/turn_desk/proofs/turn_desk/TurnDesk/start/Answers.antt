use Rattle.turn_desk.proofs.Ends.{new_passes, all_of_desk}
use Rattle.turn_desk.proofs.turn_desk.TurnDesk.start.Goals as goal

pub returns-clause-passes : goal.returns-clause-passes
returns-clause-passes g c =
    let opened = c.in_ok-desk.ensures.ok in
    new_passes c.args.solo c.in_ok-desk.desk c.deal_all-all.result.items opened.owned
    (c.deal_all-all.ensures.dealt c.args.solo.seen opened.deals)

pub returns-clause-of_desk : goal.returns-clause-of_desk
returns-clause-of_desk g c =
    let opened = c.in_ok-desk.ensures.ok in
    all_of_desk c.in_ok-desk.desk c.args.solo.seen c.deal_all-all.result.items
    (c.deal_all-all.ensures.dealt c.args.solo.seen opened.deals)
