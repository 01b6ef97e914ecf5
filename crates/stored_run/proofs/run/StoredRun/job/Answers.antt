use Rattle.std.proofs.Common.{◌≡◌, false, true, sym, ◌∙◌, subst}
use Rattle.std.specs.Option.{is_some}
use Rattle.control_file.specs.declared.want.Want.{Want}
use Rattle.machine_core.proofs.Begun.{copied_is, copied_some}
use Rattle.span_map.specs.Jobs.{IsRun}
use Rattle.span_map.specs.Layout.{total_of}
use Rattle.stored_run.proofs.Failing.{opened_want}
use Rattle.stored_run.proofs.Grants.{listed_job, unlisted_job, want_of_download}
use Rattle.stored_run.proofs.run.StoredRun.job.Goals as goal

pub unwrap-want-requires : goal.unwrap-want-requires
unwrap-want-requires g c =
    let v = c.args.self.now in
    let w = opened_want v.machine.start v.machine.past v.wants.items c.args.gid c.tells_stored.ensures.wants_are c.requires.opened in
    copied_some c.want.result w.want (c.want.ensures.value ∙ w.kept)

pub mirror_job-requires-clause-total : goal.mirror_job-requires-clause-total
mirror_job-requires-clause-total g c =
    let v = c.args.self.now in
    let w = opened_want v.machine.start v.machine.past v.wants.items c.args.gid c.tells_stored.ensures.wants_are c.requires.opened in
    let same = copied_is c.want.result c.unwrap-want.result w.want c.unwrap-want.ensures (c.want.ensures.value ∙ w.kept) in
    subst (λ (x : Want). total_of x.layout ≡ x.plan.total) (sym same) w.sound.total

pub mirror_job-requires-clause-run : goal.mirror_job-requires-clause-run
mirror_job-requires-clause-run g c =
    let v = c.args.self.now in
    let w = opened_want v.machine.start v.machine.past v.wants.items c.args.gid c.tells_stored.ensures.wants_are c.requires.opened in
    let same = copied_is c.want.result c.unwrap-want.result w.want c.unwrap-want.ensures (c.want.ensures.value ∙ w.kept) in
    subst (λ (x : Want). IsRun x.plan c.args.run) (sym same) (c.requires.run w.want w.kept)

pub whole_job-requires : goal.whole_job-requires
whole_job-requires g c =
    let v = c.args.self.now in
    let w = opened_want v.machine.start v.machine.past v.wants.items c.args.gid c.tells_stored.ensures.wants_are c.requires.opened in
    let same = copied_is c.want.result c.unwrap-want.result w.want c.unwrap-want.ensures (c.want.ensures.value ∙ w.kept) in
    record { run = subst (λ (x : Want). IsRun x.plan c.args.run) (sym same) (c.requires.run w.want w.kept) }

pub returns-then-is_some : goal.returns-then-is_some
returns-then-is_some g c download added =
    let v = c.args.self.now in
    let w = opened_want v.machine.start v.machine.past v.wants.items c.args.gid c.tells_stored.ensures.wants_are c.requires.opened in
    let same = copied_is c.want.result c.unwrap-want.result w.want c.unwrap-want.ensures (c.want.ensures.value ∙ w.kept) in
    let some : is_some c.unwrap-want.result.now.info_hash ≡ true = sym c.is_some.ensures ∙ c.if-is_some.true in
    listed_job download _ c.unwrap-want.result.now c.args.mirror c.args.run c.mirror_url-url.result.now
    (want_of_download v.machine.start v.machine.past c.args.gid w.want c.unwrap-want.result.now download w.has added same) some
    (c.mirror_url-url.ensures download added) c.mirror_job.result c.mirror_job.ensures.plan c.mirror_job.ensures.run
    c.mirror_job.ensures.parts c.mirror_job.ensures.sound

pub returns-else-is_some : goal.returns-else-is_some
returns-else-is_some g c download added =
    let v = c.args.self.now in
    let w = opened_want v.machine.start v.machine.past v.wants.items c.args.gid c.tells_stored.ensures.wants_are c.requires.opened in
    let same = copied_is c.want.result c.unwrap-want.result w.want c.unwrap-want.ensures (c.want.ensures.value ∙ w.kept) in
    let none : is_some c.unwrap-want.result.now.info_hash ≡ false = sym c.is_some.ensures ∙ c.if-is_some.false in
    unlisted_job download _ c.unwrap-want.result.now c.args.mirror c.args.run c.mirror_url-url.result.now
    (want_of_download v.machine.start v.machine.past c.args.gid w.want c.unwrap-want.result.now download w.has added same) none
    (c.mirror_url-url.ensures download added) c.whole_job.result c.whole_job.ensures.plan c.whole_job.ensures.run
    c.whole_job.ensures.parts c.whole_job.ensures.sound
