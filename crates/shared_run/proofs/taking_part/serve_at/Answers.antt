use Rattle.std.proofs.Common.{refl, rules}
use Rattle.shared_run.proofs.Serving.{at_desk}
use Rattle.shared_run.proofs.taking_part.serve_at.Goals as goal

pub returns : goal.returns
returns g c =
    let both = at_desk c.args.desk.now c.pressing_chair-chair.result c.serve-transcript.new.desk c.in-Some.pass c.leave.result
    (c.args.keeper.now.edge, c.args.keeper.now.clock) (c.serve-transcript.new.door, c.serve-transcript.new.clock)
    c.pressing_chair-chair.ensures.pass c.pressing_chair-chair.ensures.desk c.serve-transcript.ensures.desk_id c.leave.ensures.pass
    c.leave.ensures.of_desk
    (record { its = c.serve-transcript.ensures.served; asked = c.serve-transcript.ensures.moments }) in
    record {
      pass = c.in-Some.pass;
      had = search (c, rules);
      pass' = c.leave.result;
      has = refl;
      of_desk = both.0;
      came = c.serve-transcript.result;
      came_is = refl;
      did = both.1;
    }
