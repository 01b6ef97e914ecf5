use Rattle.std.proofs.Common.{◌≡◌, ◌∙◌, List, Bool, ap, arith, length, subst, sym}
use Rattle.std.specs.Prelude.{MatchBool}
use Rattle.piece_table.specs.Progress.{Progress}
use Rattle.machine_core.specs.Done.{IsRowWithin}
use Rattle.machine_core.proofs.WantedRows.{done_by, done_here, opened_kept, rows_fit, some_table}
use Rattle.machine_core.proofs.Here.{here, sees, told_some, within}
use Rattle.machine_core.proofs.Reading.{opened_placed}
use Rattle.machine_core.proofs.machine.Machine.is_done.Goals as goal

pub unwrap-place-requires : goal.unwrap-place-requires
unwrap-place-requires c =
    let seen = sees _ c.args.self.now c.self.invariant c.self.view_is in
    opened_placed _ c.args.self.now c.args.gid c.place.result seen c.requires c.place.ensures.none

pub index-requires : goal.index-requires
index-requires c =
    let seen = sees _ c.args.self.now c.self.invariant c.self.view_is in
    let w = within _ c.args.self.now c.args.gid c.place.result c.unwrap-place.result seen c.place.ensures.found
    c.unwrap-place.ensures in
    omega (arith, c.self.inside.entries.ok.0)

pub unwrap-table-requires : goal.unwrap-table-requires
unwrap-table-requires c =
    let seen = sees _ c.args.self.now c.self.invariant c.self.view_is in
    let h = here _ c.args.self.now c.args.gid c.place.result c.unwrap-place.result c.index.result.now seen
    c.place.ensures.found c.unwrap-place.ensures c.index.ensures in
    some_table c.table.result _ c.table.ensures.none
    (opened_kept (record {
      sound = c.histories_are_sound.ensures;
      accounts = c.accounts_match_events.ensures;
      plans = record { of_pieces = c.plan_laws.ensures.of_pieces; numbered = c.plan_laws.ensures.numbered };
    }) c.steps_match_events.ensures.opened _ c.args.self.now c.args.gid c.unwrap-place.result c.index.result.now seen h
    c.requires)

pub are_wanted_in-requires : goal.are_wanted_in-requires
are_wanted_in-requires c =
    let seen = sees _ c.args.self.now c.self.invariant c.self.view_is in
    let h = here _ c.args.self.now c.args.gid c.place.result c.unwrap-place.result c.index.result.now seen
    c.place.ensures.found c.unwrap-place.ensures c.index.ensures in
    let table = told_some (λ t. t.now ≡ c.index.result.now.state.account.progress) c.table.result c.unwrap-table.result c.unwrap-table.ensures c.table.ensures.table in
    rows_fit (record {
      sound = c.histories_are_sound.ensures;
      accounts = c.accounts_match_events.ensures;
      plans = record { of_pieces = c.plan_laws.ensures.of_pieces; numbered = c.plan_laws.ensures.numbered };
    }) c.steps_match_events.ensures.opened _ c.args.self.now c.args.gid c.unwrap-place.result c.index.result.now seen h
    c.requires
    ∙ sym (ap (λ (row : List Bool). length row) (c.verified.ensures.row ∙ ap (λ (p : Progress). p.verified) table))

pub returns : goal.returns
returns c =
    let seen = sees _ c.args.self.now c.self.invariant c.self.view_is in
    let h = here _ c.args.self.now c.args.gid c.place.result c.unwrap-place.result c.index.result.now seen
    c.place.ensures.found c.unwrap-place.ensures c.index.ensures in
    let table = told_some (λ t. t.now ≡ c.index.result.now.state.account.progress) c.table.result c.unwrap-table.result c.unwrap-table.ensures c.table.ensures.table in
    let row = c.verified.ensures.row ∙ ap (λ (p : Progress). p.verified) table in
    done_by c.are_wanted_in.result _ _
    (done_here (record {
      sound = c.histories_are_sound.ensures;
      accounts = c.accounts_match_events.ensures;
      plans = record { of_pieces = c.plan_laws.ensures.of_pieces; numbered = c.plan_laws.ensures.numbered };
    }) c.steps_match_events.ensures.opened _ c.args.self.now c.args.gid c.unwrap-place.result c.index.result.now seen h
    c.requires)
    (subst (λ (verified : List Bool). MatchBool c.are_wanted_in.result
    (IsRowWithin c.index.result.now.state.wanted verified) (¬ IsRowWithin c.index.result.now.state.wanted verified))
    row c.are_wanted_in.ensures)
