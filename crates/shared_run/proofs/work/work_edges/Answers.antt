use Rattle.std.proofs.Common.{◌≡◌, ◌+◌, inr, length, refl, rules, subst}
use Rattle.run_lifecycle.specs.Stops.{IsAfter}
use Rattle.shared_run.specs.Together.{IsShared}
use Rattle.shared_run.proofs.work.work_edges.Goals as goal
use Rattle.shared_run.proofs.work.work_edges.Goals.{In-Ok}

shared : (g : _) (c : In-Ok g)
    → IsShared c.args.solo (length c.args.links.items + length c.args.doors.items) c.in-Ok.shared
shared g c =
    let links : c.len.result ≡ length c.args.links.items = search (c, rules) in
    let doors : c.len-2.result ≡ length c.args.doors.items = search (c, rules) in
    subst (λ n. IsShared c.args.solo (length c.args.links.items + n) c.in-Ok.shared) doors
    (subst (λ n. IsShared c.args.solo (n + c.len-2.result) c.in-Ok.shared) links c.in-Ok.ensures.ok)

pub work_shared-requires-clause-shared : goal.work_shared-requires-clause-shared
work_shared-requires-clause-shared g c κs within = (c.args.solo, shared g c)

pub returns-in-Ok : goal.returns-in-Ok
returns-in-Ok g c =
    c.work_shared.ensures c.args.solo (shared g (goal.at.returns-in-Ok g c).In-Ok) c.requires.first

pub returns-in-Err : goal.returns-in-Err
returns-in-Err g c =
    let solo = c.in-Err.solo in
    let served = c.into_served.ensures in
    record {
      turns = c.args.solo.own;
      worked = inr (record { same = refl; untold = search (c, rules); none = refl; short_is = refl });
      after = subst (λ s. IsAfter g.D.Disk s.given s.own c.into_served.result) c.in-Err.ensures.err
          (subst (λ ts. IsAfter g.D.Disk solo.given ts c.into_served.result) served.own (record {
            stands = served.at.stands_for;
            start = served.at.start_is;
            events = served.at.entries_are;
            mark = served.at.mark_is;
            ties = served.knows.whole;
          }));
    }
