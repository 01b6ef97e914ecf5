use Rattle.std.proofs.Common.{refl, rules}
use Rattle.origin_run.proofs.Chairs.{at_desk}
use Rattle.origin_run.proofs.keeping.keep_at.Goals as goal

pub returns : goal.returns
returns g c =
    let both = at_desk g.D.Disk g.A.Doors c.args.desk.now c.chair-chair.result c.keep-transcript.new.desk c.in-Some.pass c.leave.result
    _ _ _ c.keep-transcript.result c.chair-chair.ensures.pass c.chair-chair.ensures.desk c.keep-transcript.ensures.desk_id
    c.leave.ensures.pass c.leave.ensures.of_desk c.keep-transcript.ensures.kept in
    record {
      pass = c.in-Some.pass;
      had = search (c, rules);
      pass' = c.leave.result;
      has = refl;
      of_desk = both.0;
      came = c.keep-transcript.result;
      came_is = refl;
      did = (both.1, refl);
    }
