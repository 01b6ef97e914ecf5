use Rattle.std.proofs.Common.{◌∙◌}
use Rattle.part_fetches.proofs.Probing.{answered_by_requests}
use Rattle.part_readers.proofs.Sizing.{answered_by_dialogue}
use Rattle.part_readers.proofs.rooms.PartRooms.probe.Goals as goal

pub returns-in-Some-clause-probes : goal.returns-in-Some-clause-probes
returns-in-Some-clause-probes g c told =
    let there = c.in-Ok.ensures ∙ c.in-Some.is in
    let probed = c.probe.ensures.probes told in
    (probed.0, probed.1, answered_by_dialogue c.in-Some.place c.args.url.now probed.0 (g.L.Links.faults c.probe.new.link) there c.probe.result probed.2)

pub returns-in-None-clause-probes : goal.returns-in-None-clause-probes
returns-in-None-clause-probes g c told =
    let none = c.in-Ok.ensures ∙ c.in-None.is in
    let probed = c.probe-in-None.ensures.probes told in
    (probed.0, probed.1, answered_by_requests c.args.url.now probed.0 (g.L.Links.faults c.probe-in-None.new.link) c.probe-in-None.result none probed.2)
