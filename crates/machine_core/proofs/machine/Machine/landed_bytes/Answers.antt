use Rattle.std.proofs.Common.{◌∙◌, ap, arith, refl}
use Rattle.piece_table.specs.Sums.{completed_of}
use Rattle.machine_core.proofs.Begun.{landed_kept, landed_unadded, landed_unopened, not_none}
use Rattle.machine_core.proofs.Here.{here, sees, within}
use Rattle.machine_core.proofs.machine.Machine.landed_bytes.Goals as goal

pub index-requires : goal.index-requires
index-requires c =
    let seen = sees _ c.args.self.now c.self.invariant c.self.view_is in
    let w = within _ c.args.self.now c.args.gid c.place.result c.in-Some.place seen c.place.ensures.found c.in-Some.is in
    omega (arith, c.self.inside.entries.ok.0)

pub returns-in_default : goal.returns-in_default
returns-in_default c = landed_unadded c.args.self.now c.args.gid c.in_default.ensures.none

pub returns-in-Some-table : goal.returns-in-Some-table
returns-in-Some-table c =
    let seen = sees _ c.args.self.now c.self.invariant c.self.view_is in
    let h = here _ c.args.self.now c.args.gid c.place.result c.in-Some.place c.index.result.now seen
    c.place.ensures.found c.in-Some.is c.index.ensures in
    let opened = not_none c.table.result _ c.in-Some-table.table c.table.ensures.none c.in-Some-table.is in
    c.completed.ensures
    ∙ (ap completed_of c.in-Some-table.ensures.table
    ∙ landed_kept (record {
      sound = c.histories_are_sound.ensures;
      accounts = c.accounts_match_events.ensures;
      plans = record { of_pieces = c.plan_laws.ensures.of_pieces; numbered = c.plan_laws.ensures.numbered };
    }) c.steps_match_events.ensures.opened _ c.args.self.now c.args.gid c.in-Some.place c.index.result.now seen h opened)

pub returns-in-None : goal.returns-in-None
returns-in-None c =
    let seen = sees _ c.args.self.now c.self.invariant c.self.view_is in
    let h = here _ c.args.self.now c.args.gid c.place.result c.in-Some.place c.index.result.now seen
    c.place.ensures.found c.in-Some.is c.index.ensures in
    landed_unopened (record {
      sound = c.histories_are_sound.ensures;
      accounts = c.accounts_match_events.ensures;
      plans = record { of_pieces = c.plan_laws.ensures.of_pieces; numbered = c.plan_laws.ensures.numbered };
    }) c.steps_match_events.ensures.opened _ c.args.self.now c.args.gid c.in-Some.place c.index.result.now seen h (c.in-None.ensures.none.0 refl)
