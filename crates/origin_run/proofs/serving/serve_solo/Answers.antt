use Rattle.std.proofs.Common.{◌≡◌, ◌∙◌, ap, length, rules, subst, sym}
use Rattle.origin_run.specs.Folders.{ServesBy, folder_given, folder_left}
use Rattle.origin_run.specs.Sharing.{IsFresh, IsShared}
use Rattle.origin_run.proofs.Closing.{still_there}
use Rattle.origin_run.proofs.serving.serve_solo.Goals as goal
use Rattle.origin_run.proofs.serving.serve_solo.Goals.{In-Ok}

shared : (g : _) (c : In-Ok g) → IsShared c.args.solo (length c.args.doors.items) c.in-Ok.shared
shared g c =
    let doors : c.len.result ≡ length c.args.doors.items = search (c, rules) in
    subst (λ n. IsShared c.args.solo n c.in-Ok.shared) doors c.in-Ok.ensures.ok

pub serve_shared-requires-clause-shared : goal.serve_shared-requires-clause-shared
serve_shared-requires-clause-shared g c κs within = (c.args.solo, shared g c)

pub returns-in-Ok : goal.returns-in-Ok
returns-in-Ok g c dir disk fresh =
    subst (ServesBy g.D.Disk g.A.Doors (folder_given dir disk c.args.doors.items) (folder_left c.serve_shared.result))
    (sym c.serve_shared.ensures.ending)
    (c.serve_shared.ensures.served c.args.solo dir disk (shared g (goal.at.returns-in-Ok g c).In-Ok) fresh)

pub returns-in-Err : goal.returns-in-Err
returns-in-Err g c dir disk fresh =
    let solo = c.in-Err.solo in
    let served = c.into_served.result in
    let is : IsFresh g.D.Disk dir disk solo = subst (IsFresh g.D.Disk dir disk) (sym c.in-Err.ensures.err) fresh in
    subst (ServesBy g.D.Disk g.A.Doors (folder_given dir disk c.args.doors.items) (folder_left c.untouched.result))
    (sym c.untouched.ensures.ending)
    (record {
      disk_is = c.untouched.ensures.disk
          ∙ (c.into_disk.ensures
          ∙ still_there g.D.Disk dir disk solo is served.first.value served.dir served.disk c.into_served.ensures.at.stands_for
          c.into_served.ensures.at.start_is);
      doors_are = ap (λ ds. ds.items) c.untouched.ensures.doors;
      untold = c.untouched.ensures.none;
    })
