use Rattle.std.proofs.Common.{◌∙◌, ap}
use Rattle.std.proofs.lemmas.Option.{IfSome_then}
use Rattle.dl_history.specs.Accounts.{Account}
use Rattle.machine_core.proofs.Here.{account_here, here, none_opened, opened_here, sees, some_opened}
use Rattle.machine_core.proofs.machine.Machine.table.Goals as goal

pub returns-clause-some : goal.returns-clause-some
returns-clause-some c =
    let seen = sees _ c.args.self.now c.self.invariant c.self.view_is in
    let h = here _ c.args.self.now c.args.gid c.place.result c.in_ok-place.place c.index.result.now seen
    c.place.ensures.found c.in_ok-place.was c.index.ensures in
    IfSome_then c.table.result c.table.ensures.table
    (λ t is. is ∙ ap (λ (k : Account). k.progress)
    (account_here _ c.args.self.now c.args.gid c.in_ok-place.place c.index.result.now seen h))

pub returns-clause-opened : goal.returns-clause-opened
returns-clause-opened c =
    let seen = sees _ c.args.self.now c.self.invariant c.self.view_is in
    let h = here _ c.args.self.now c.args.gid c.place.result c.in_ok-place.place c.index.result.now seen
    c.place.ensures.found c.in_ok-place.was c.index.ensures in
    some_opened c.table.result _ _ c.table.ensures.none
    (opened_here (record {
      sound = c.histories_are_sound.ensures;
      accounts = c.accounts_match_events.ensures;
      plans = record { of_pieces = c.plan_laws.ensures.of_pieces; numbered = c.plan_laws.ensures.numbered };
    }) c.steps_match_events.ensures.opened _ c.args.self.now c.args.gid c.in_ok-place.place c.index.result.now seen h)

pub returns-clause-none : goal.returns-clause-none
returns-clause-none c added =
    let seen = sees _ c.args.self.now c.self.invariant c.self.view_is in
    let h = here _ c.args.self.now c.args.gid c.place.result c.in_ok-place.place c.index.result.now seen
    c.place.ensures.found c.in_ok-place.was c.index.ensures in
    none_opened c.table.result _ _ c.table.ensures.none
    (opened_here (record {
      sound = c.histories_are_sound.ensures;
      accounts = c.accounts_match_events.ensures;
      plans = record { of_pieces = c.plan_laws.ensures.of_pieces; numbered = c.plan_laws.ensures.numbered };
    }) c.steps_match_events.ensures.opened _ c.args.self.now c.args.gid c.in_ok-place.place c.index.result.now seen h)
