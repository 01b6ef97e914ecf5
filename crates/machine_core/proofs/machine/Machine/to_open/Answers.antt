use Rattle.std.proofs.Common.{◌≡◌, ◌∙◌, Some, arith}
use Rattle.std.specs.Prelude.{option_copied}
use Rattle.machine_core.specs.Openings.{lengths_of_plan, lengths_with}
use Rattle.machine_core.proofs.Begun.{begun_options, copied_is, copied_some, has_plan, lengths_read, meta_by, to_open}
use Rattle.machine_core.proofs.Here.{added_seen, here, place_below, sees, told_some, within}
use Rattle.machine_core.proofs.machine.Machine.to_open.Goals as goal

pub unwrap-begun-requires : goal.unwrap-begun-requires
unwrap-begun-requires c =
    let seen = sees _ c.args.self.now c.self.invariant c.self.view_is in
    let h = here _ c.args.self.now c.args.gid c.place.result c.unwrap-place.result c.index-entry.result.now seen
    c.place.ensures.found c.unwrap-place.ensures c.index-entry.ensures in
    copied_some c.options.result h.download.options
    (c.options.ensures ∙ begun_options _ c.args.self.now c.args.gid c.unwrap-place.result c.index-entry.result.now seen h)

pub index-entry-requires : goal.index-entry-requires
index-entry-requires c =
    let seen = sees _ c.args.self.now c.self.invariant c.self.view_is in
    let w = within _ c.args.self.now c.args.gid c.place.result c.unwrap-place.result seen c.place.ensures.found
    c.unwrap-place.ensures in
    omega (arith, c.self.inside.entries.ok.0)

pub adding_event-requires : goal.adding_event-requires
adding_event-requires c =
    let seen = sees _ c.args.self.now c.self.invariant c.self.view_is in
    let h = here _ c.args.self.now c.args.gid c.place.result c.unwrap-place.result c.index-entry.result.now seen
    c.place.ensures.found c.unwrap-place.ensures c.index-entry.ensures in
    place_below _ c.args.self.now c.args.gid c.unwrap-place.result c.index-entry.result.now seen h

pub unwrap-plan-requires : goal.unwrap-plan-requires
unwrap-plan-requires c =
    let seen = sees _ c.args.self.now c.self.invariant c.self.view_is in
    let h = here _ c.args.self.now c.args.gid c.place.result c.unwrap-place.result c.index-entry.result.now seen
    c.place.ensures.found c.unwrap-place.ensures c.index-entry.ensures in
    let subject = c.adding_event.ensures.added h.download
    (added_seen _ c.args.self.now c.args.gid c.unwrap-place.result c.index-entry.result.now seen h) in
    let meta = c.meta_of-meta.ensures ∙ meta_by c.adding_event.result.now h.download.subject subject in
    let begun = copied_is c.options.result c.unwrap-begun.result h.download.options c.unwrap-begun.ensures
    (c.options.ensures ∙ begun_options _ c.args.self.now c.args.gid c.unwrap-place.result c.index-entry.result.now seen h) in
    let told = lengths_read (record {
      sound = c.histories_are_sound.ensures;
      accounts = c.accounts_match_events.ensures;
      plans = record { of_pieces = c.plan_laws.ensures.of_pieces; numbered = c.plan_laws.ensures.numbered };
    }) c.steps_match_events.ensures.opened _ c.args.self.now c.args.gid c.unwrap-place.result c.index-entry.result.now seen h
    _ meta _ begun c.number-piece_len.result c.number-piece_len.ensures.value _ c.told.ensures in
    has_plan c.args.self.now c.args.gid c.plan_with.result _ c.requires told c.plan_with.ensures.none

pub returns : goal.returns
returns c =
    let seen = sees _ c.args.self.now c.self.invariant c.self.view_is in
    let h = here _ c.args.self.now c.args.gid c.place.result c.unwrap-place.result c.index-entry.result.now seen
    c.place.ensures.found c.unwrap-place.ensures c.index-entry.ensures in
    let subject = c.adding_event.ensures.added h.download
    (added_seen _ c.args.self.now c.args.gid c.unwrap-place.result c.index-entry.result.now seen h) in
    let meta = c.meta_of-meta.ensures ∙ meta_by c.adding_event.result.now h.download.subject subject in
    let begun = copied_is c.options.result c.unwrap-begun.result h.download.options c.unwrap-begun.ensures
    (c.options.ensures ∙ begun_options _ c.args.self.now c.args.gid c.unwrap-place.result c.index-entry.result.now seen h) in
    let told = lengths_read (record {
      sound = c.histories_are_sound.ensures;
      accounts = c.accounts_match_events.ensures;
      plans = record { of_pieces = c.plan_laws.ensures.of_pieces; numbered = c.plan_laws.ensures.numbered };
    }) c.steps_match_events.ensures.opened _ c.args.self.now c.args.gid c.unwrap-place.result c.index-entry.result.now seen h
    _ meta _ begun c.number-piece_len.result c.number-piece_len.ensures.value _ c.told.ensures in
    to_open _ c.args.self.now c.args.gid c.unwrap-place.result c.index-entry.result.now seen h _ meta _ begun _ told c.unwrap-plan.result
    (told_some (λ plan. lengths_with (option_copied c.meta_of-meta.result) c.number-piece_len.result c.told.result
    ≡ Some (lengths_of_plan plan)) c.plan_with.result c.unwrap-plan.result c.unwrap-plan.ensures c.plan_with.ensures.found)
    _ c.text.ensures.value c.in_ok-wanted.wanted c.in_ok-wanted.ensures
