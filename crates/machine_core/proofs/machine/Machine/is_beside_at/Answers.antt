use Rattle.std.proofs.Common.{◌∙◌, arith, sym}
use Rattle.machine_core.proofs.Here.{sees}
use Rattle.machine_core.proofs.Twins.{beside_by, goes_beside, not_apart, not_going, not_opened, place_within, stands}
use Rattle.machine_core.proofs.machine.Machine.is_beside_at.Goals as goal

pub index-entry-requires : goal.index-entry-requires
index-entry-requires c =
    let seen = sees _ c.args.self.now c.self.invariant c.self.view_is in
    let w = place_within _ c.args.self.now c.args.place seen c.requires in
    omega (arith, c.self.inside.entries.ok.0)

pub returns-then-entry-gid : goal.returns-then-entry-gid
returns-then-entry-gid c =
    let seen = sees _ c.args.self.now c.self.invariant c.self.view_is in
    let st = stands _ c.args.self.now c.args.place c.index-entry.result.now seen c.requires c.index-entry.ensures in
    not_apart _ c.args.self.now c.args.gid c.args.place c.index-entry.result.now st c.if-entry-gid.true

pub returns-then-not-is_opened : goal.returns-then-not-is_opened
returns-then-not-is_opened c =
    let seen = sees _ c.args.self.now c.self.invariant c.self.view_is in
    let st = stands _ c.args.self.now c.args.place c.index-entry.result.now seen c.requires c.index-entry.ensures in
    not_opened (record {
      sound = c.histories_are_sound.ensures;
      accounts = c.accounts_match_events.ensures;
      plans = record { of_pieces = c.plan_laws.ensures.of_pieces; numbered = c.plan_laws.ensures.numbered };
    }) c.steps_match_events.ensures.opened _ c.args.self.now c.args.gid c.args.place c.index-entry.result.now seen st
    (sym c.is_opened.ensures ∙ c.if-not-is_opened.true)

pub returns : goal.returns
returns c =
    let seen = sees _ c.args.self.now c.self.invariant c.self.view_is in
    let st = stands _ c.args.self.now c.args.place c.index-entry.result.now seen c.requires c.index-entry.ensures in
    beside_by c.is_going.result _
    (λ stopped. not_going _ c.args.self.now c.args.gid c.args.place c.index-entry.result.now seen st
    (sym c.is_going.ensures ∙ stopped))
    (λ going. goes_beside (record {
      sound = c.histories_are_sound.ensures;
      accounts = c.accounts_match_events.ensures;
      plans = record { of_pieces = c.plan_laws.ensures.of_pieces; numbered = c.plan_laws.ensures.numbered };
    }) c.steps_match_events.ensures.opened _ c.args.self.now c.args.gid c.args.place c.index-entry.result.now seen st
    c.if-entry-gid.false (sym c.is_opened.ensures ∙ c.if-not-is_opened.false) (sym c.is_going.ensures ∙ going))
