use Rattle.std.proofs.Common.{◌∙◌}
use Rattle.machine_core.proofs.Begun.{begun_options, copied_is, copied_some, lengths_read, meta_by}
use Rattle.machine_core.proofs.Here.{added_seen, here, place_below, sees}
use Rattle.machine_core.proofs.machine.Machine.lengths.Goals as goal

pub unwrap-begun-requires : goal.unwrap-begun-requires
unwrap-begun-requires c =
    let seen = sees _ c.args.self.now c.self.invariant c.self.view_is in
    let h = here _ c.args.self.now c.args.gid c.place.result c.in-Some.place c.index-entry.result.now seen
    c.place.ensures.found c.in-Some.is c.index-entry.ensures in
    copied_some c.options.result h.download.options
    (c.options.ensures ∙ begun_options _ c.args.self.now c.args.gid c.in-Some.place c.index-entry.result.now seen h)

pub adding_event-event-requires : goal.adding_event-event-requires
adding_event-event-requires c =
    let seen = sees _ c.args.self.now c.self.invariant c.self.view_is in
    let h = here _ c.args.self.now c.args.gid c.place.result c.in-Some.place c.index-entry.result.now seen
    c.place.ensures.found c.in-Some.is c.index-entry.ensures in
    place_below _ c.args.self.now c.args.gid c.in-Some.place c.index-entry.result.now seen h

pub returns-clause-known : goal.returns-clause-known
returns-clause-known c =
    let seen = sees _ c.args.self.now c.self.invariant c.self.view_is in
    let h = here _ c.args.self.now c.args.gid c.place.result c.in-Some.place c.index-entry.result.now seen
    c.place.ensures.found c.in-Some.is c.index-entry.ensures in
    let subject = c.adding_event-event.ensures.added h.download
    (added_seen _ c.args.self.now c.args.gid c.in-Some.place c.index-entry.result.now seen h) in
    let meta = c.meta_of.ensures ∙ meta_by c.adding_event-event.result.now h.download.subject subject in
    let begun = copied_is c.options.result c.unwrap-begun.result h.download.options c.unwrap-begun.ensures
    (c.options.ensures ∙ begun_options _ c.args.self.now c.args.gid c.in-Some.place c.index-entry.result.now seen h) in
    c.lengths_with.ensures.known
    ∙ lengths_read (record {
      sound = c.histories_are_sound.ensures;
      accounts = c.accounts_match_events.ensures;
      plans = record { of_pieces = c.plan_laws.ensures.of_pieces; numbered = c.plan_laws.ensures.numbered };
    }) c.steps_match_events.ensures.opened _ c.args.self.now c.args.gid c.in-Some.place c.index-entry.result.now seen h
    _ meta _ begun c.number-piece_len.result c.number-piece_len.ensures.value _ c.told.ensures
