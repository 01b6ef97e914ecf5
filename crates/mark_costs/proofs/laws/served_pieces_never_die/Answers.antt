use Rattle.mark_costs.proofs.Fetch.{PayingLaws}
use Rattle.mark_costs.proofs.Served.{served_never_die}
use Rattle.mark_costs.proofs.laws.served_pieces_never_die.Goals as goal

pub returns : goal.returns
returns g c =
    let laws : PayingLaws = record {
      pay = c.bad_answers_pay.ensures;
      keep = c.mirrors_hold_alike.ensures.kept;
      leads = c.mirrors_hold_alike.ensures.leads;
      among = c.mirrors_hold_alike.ensures.among;
      hold = c.parts_hold_slices.ensures;
      follow = c.plan_laws.ensures.follow;
    } in
    served_never_die laws c.downloads_stay.ensures.downloads c.downloads_stay.ensures.lengths g.D.Disk.state
    c.marks_are_paid.ensures.afforded
