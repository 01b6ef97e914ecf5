use Rattle.std.proofs.Common.{◌≡◌, Bool}
use Rattle.std.specs.Prelude.{MatchBool}
use Rattle.resume_core.specs.Sharing.{share_names}
use Rattle.machine_core.specs.Clashes.{HasFileAt}
use Rattle.machine_core.specs.DownloadWants.{HasWant}
use Rattle.machine_core.specs.Openings.{HasPlan}
use Rattle.machine_core.proofs.FileTwins.{file_at, if_ok, no_want, told_none}
use Rattle.machine_core.proofs.Here.{sees, told_some}
use Rattle.machine_core.proofs.Twins.{stands}
use Rattle.machine_core.proofs.machine.Machine.has_file_at.Goals as goal

pub returns-in-Some : goal.returns-in-Some
returns-in-Some c =
    let seen = sees _ c.args.self.now c.self.invariant c.self.view_is in
    let st = stands _ c.args.self.now c.args.place c.index-entry.result.now seen c.requires.place c.index-entry.ensures in
    let theirs = told_some (HasWant c.args.self.now.start c.args.self.now.past c.index-entry.result.now.gid) _ _
    c.in-Some.is c.in_ok-other.ensures.found in
    if_ok (λ (b : Bool). b ≡ share_names c.args.want.now c.in-Some.other)
    (λ (b : Bool). MatchBool b (HasFileAt c.args.self.now c.args.gid c.args.place)
    (HasFileAt c.args.self.now c.args.gid c.args.place → ⊥)) c.shares_name.result
    (λ b is. file_at _ c.args.self.now c.args.gid c.args.place c.index-entry.result.now c.args.want.now c.in-Some.other b
    seen st c.requires.want c.if-not-is_beside_at.ensures theirs is) c.shares_name.ensures

pub returns-in-None : goal.returns-in-None
returns-in-None c =
    let seen = sees _ c.args.self.now c.self.invariant c.self.view_is in
    let st = stands _ c.args.self.now c.args.place c.index-entry.result.now seen c.requires.place c.index-entry.ensures in
    no_want (record {
      sound = c.histories_are_sound.ensures;
      accounts = c.accounts_match_events.ensures;
      plans = record { of_pieces = c.plan_laws.ensures.of_pieces; numbered = c.plan_laws.ensures.numbered };
    }) _ c.args.self.now c.args.gid c.args.place c.index-entry.result.now seen st
    (told_none (HasPlan c.args.self.now c.index-entry.result.now.gid → ⊥) _ c.in-None.is c.in_ok-other.ensures.none)
