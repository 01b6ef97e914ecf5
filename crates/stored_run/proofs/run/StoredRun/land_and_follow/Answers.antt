use Rattle.std.proofs.Common.{arith, subst, sym, ⊎_elim, ◌∙◌}
use Rattle.dl_kinds.specs.declared.gid.Gid.{Gid}
use Rattle.engine_turns.specs.ClaimRows.{DueSavePhase, filled_phase}
use Rattle.engine_turns.specs.Phases.{AndThen, EndingOr, LandingsPhase}
use Rattle.engine_turns.specs.declared.outcome.Outcome.{Outcome}
use Rattle.engine_turns.specs.declared.outcome.Outcome.TheVariants.{Went}
use Rattle.machine_core.specs.RunLegal.{is_listed}
use Rattle.machine_core.specs.declared.events.Event.TheVariants.{Landed}
use Rattle.stored_run.specs.Settlings.{CameBetween}
use Rattle.stored_run.specs.Steps.{DoesPart, turn_from}
use Rattle.stored_run.proofs.Between.{after_front, came_split}
use Rattle.stored_run.proofs.Delivered.{delivery_of, last_within, then_marked, then_run, then_unsettled}
use Rattle.stored_run.proofs.Doing.{continues_on, continues_wider, part_on, part_stop}
use Rattle.stored_run.proofs.Endings.{going_facts}
use Rattle.stored_run.proofs.Failing.{opened_want}
use Rattle.stored_run.proofs.Findings.{gid_found}
use Rattle.stored_run.proofs.LandedBytes.{landed_there, lands_on, none_lands}
use Rattle.stored_run.proofs.Landings.{landed_all}
use Rattle.stored_run.proofs.Parts.{added_still, ends_part, ends_stored_part, grown_by}
use Rattle.stored_run.specs.Writings.{IsByteOfAny}
use Rattle.stored_run.proofs.KeptBytes.{beside_then}
use Rattle.stored_run.proofs.Unchecked.{checks_later, checks_none, unchecked_landings}
use Rattle.stored_run.proofs.run.StoredRun.land_and_follow.Goals as goal

pub full_pieces-full-requires-clause-run : goal.full_pieces-full-requires-clause-run
full_pieces-full-requires-clause-run g c =
    let d = g.D.Disk in
    let v = c.args.self.now in
    let gid = c.args.gid in
    let claim = c.args.claim in
    let run = c.args.run in
    let runs = c.args.open_runs.now in
    let kept = c.tells_stored.ensures in
    let f = d.faults v.disk in
    let of = delivery_of c.runs_follow.ensures v gid claim run c.args.bytes.now kept.wants_are kept.legal c.requires.going
    c.requires.stands.stands c.requires.delivery in
    of

pub land_all-counted-requires-clause-run : goal.land_all-counted-requires-clause-run
land_all-counted-requires-clause-run g c =
    let d = g.D.Disk in
    let v = c.args.self.now in
    let gid = c.args.gid in
    let claim = c.args.claim in
    let run = c.args.run in
    let runs = c.args.open_runs.now in
    let kept = c.tells_stored.ensures in
    let f = d.faults v.disk in
    let of = delivery_of c.runs_follow.ensures v gid claim run c.args.bytes.now kept.wants_are kept.legal c.requires.going
    c.requires.stands.stands c.requires.delivery in
    of

pub follow-outcome-requires-clause-going : goal.follow-outcome-requires-clause-going
follow-outcome-requires-clause-going g c =
    let d = g.D.Disk in
    let v = c.args.self.now in
    let m = c.land_all-counted.new.self in
    let gid = c.args.gid in
    let claim = c.args.claim in
    let run = c.args.run in
    let runs = c.args.open_runs.now in
    let kept = c.tells_stored.ensures in
    let f = d.faults v.disk in
    let f' = d.faults m.disk in
    let of = delivery_of c.runs_follow.ensures v gid claim run c.args.bytes.now kept.wants_are kept.legal c.requires.going
    c.requires.stands.stands c.requires.delivery in
    let did = subst (λ (o : Outcome). DoesPart (λ at. LandingsPhase at gid claim.id claim.mirror runs) v f m f' o) c.in-Went.is
    c.land_all-counted.ensures.did in
    let on = c.land_all-counted.ensures.on in
    let so = landed_all v m gid claim runs f f' on.start did in
    let w = opened_want v.machine.start v.machine.past v.wants.items gid kept.wants_are c.requires.going.opened in
    let last = last_within v.machine.start v.machine.past v.wants.items gid run c.plan_laws.ensures.of_pieces kept.wants_are
    c.requires.going.opened of in
    let legal = c.runs_follow.ensures.legal m.machine.start m.machine.past gid c.tells_stored-in-Went.ensures.legal in
    so.going c.requires.going

pub follow-outcome-requires-clause-run : goal.follow-outcome-requires-clause-run
follow-outcome-requires-clause-run g c =
    let d = g.D.Disk in
    let v = c.args.self.now in
    let m = c.land_all-counted.new.self in
    let gid = c.args.gid in
    let claim = c.args.claim in
    let run = c.args.run in
    let runs = c.args.open_runs.now in
    let kept = c.tells_stored.ensures in
    let f = d.faults v.disk in
    let f' = d.faults m.disk in
    let of = delivery_of c.runs_follow.ensures v gid claim run c.args.bytes.now kept.wants_are kept.legal c.requires.going
    c.requires.stands.stands c.requires.delivery in
    let did = subst (λ (o : Outcome). DoesPart (λ at. LandingsPhase at gid claim.id claim.mirror runs) v f m f' o) c.in-Went.is
    c.land_all-counted.ensures.did in
    let on = c.land_all-counted.ensures.on in
    let so = landed_all v m gid claim runs f f' on.start did in
    let w = opened_want v.machine.start v.machine.past v.wants.items gid kept.wants_are c.requires.going.opened in
    let last = last_within v.machine.start v.machine.past v.wants.items gid run c.plan_laws.ensures.of_pieces kept.wants_are
    c.requires.going.opened of in
    let legal = c.runs_follow.ensures.legal m.machine.start m.machine.past gid c.tells_stored-in-Went.ensures.legal in
    then_run c.runs_follow.ensures v m gid claim run runs c.full_pieces-full.result so on.start w.plan legal of
    c.requires.open_runs c.full_pieces-full.ensures last

pub follow-outcome-requires-clause-unsettled : goal.follow-outcome-requires-clause-unsettled
follow-outcome-requires-clause-unsettled g c =
    let d = g.D.Disk in
    let v = c.args.self.now in
    let m = c.land_all-counted.new.self in
    let gid = c.args.gid in
    let claim = c.args.claim in
    let run = c.args.run in
    let runs = c.args.open_runs.now in
    let kept = c.tells_stored.ensures in
    let f = d.faults v.disk in
    let f' = d.faults m.disk in
    let of = delivery_of c.runs_follow.ensures v gid claim run c.args.bytes.now kept.wants_are kept.legal c.requires.going
    c.requires.stands.stands c.requires.delivery in
    let did = subst (λ (o : Outcome). DoesPart (λ at. LandingsPhase at gid claim.id claim.mirror runs) v f m f' o) c.in-Went.is
    c.land_all-counted.ensures.did in
    let on = c.land_all-counted.ensures.on in
    let so = landed_all v m gid claim runs f f' on.start did in
    let w = opened_want v.machine.start v.machine.past v.wants.items gid kept.wants_are c.requires.going.opened in
    let last = last_within v.machine.start v.machine.past v.wants.items gid run c.plan_laws.ensures.of_pieces kept.wants_are
    c.requires.going.opened of in
    let legal = c.runs_follow.ensures.legal m.machine.start m.machine.past gid c.tells_stored-in-Went.ensures.legal in
    then_unsettled c.runs_follow.ensures v m gid claim run runs c.full_pieces-full.result so on.start w.plan legal of
    c.requires.open_runs c.full_pieces-full.ensures last

pub follow-outcome-requires-clause-room : goal.follow-outcome-requires-clause-room
follow-outcome-requires-clause-room g c =
    let room = c.land_all-counted.ensures.on.room in
    omega (arith, room, c.requires.room, c.requires.few)

pub returns-in-Went-clause-did : goal.returns-in-Went-clause-did
returns-in-Went-clause-did g c download added =
    let d = g.D.Disk in
    let v = c.args.self.now in
    let m = c.land_all-counted.new.self in
    let gid = c.args.gid in
    let claim = c.args.claim in
    let run = c.args.run in
    let runs = c.args.open_runs.now in
    let kept = c.tells_stored.ensures in
    let f = d.faults v.disk in
    let f' = d.faults m.disk in
    let of = delivery_of c.runs_follow.ensures v gid claim run c.args.bytes.now kept.wants_are kept.legal c.requires.going
    c.requires.stands.stands c.requires.delivery in
    let did = subst (λ (o : Outcome). DoesPart (λ at. LandingsPhase at gid claim.id claim.mirror runs) v f m f' o) c.in-Went.is
    c.land_all-counted.ensures.did in
    let on = c.land_all-counted.ensures.on in
    let so = landed_all v m gid claim runs f f' on.start did in
    let w = opened_want v.machine.start v.machine.past v.wants.items gid kept.wants_are c.requires.going.opened in
    let last = last_within v.machine.start v.machine.past v.wants.items gid run c.plan_laws.ensures.of_pieces kept.wants_are
    c.requires.going.opened of in
    let legal = c.runs_follow.ensures.legal m.machine.start m.machine.past gid c.tells_stored-in-Went.ensures.legal in
    let n = c.follow-outcome.new.self in
    let gid_is = gid_found v.machine.start v.machine.past gid download added in
    let marks = then_marked c.runs_follow.ensures v m gid claim run runs c.full_pieces-full.result so on.start w.plan legal of
    c.requires.open_runs c.full_pieces-full.ensures last in
    let there = added_still (λ at. LandingsPhase at gid claim.id claim.mirror runs) v m _ f f' Went on did
    c.runs_follow.ensures gid download added in
    let first = subst (λ (h : Gid). DoesPart (λ at. LandingsPhase at h claim.id claim.mirror runs) v f m f' Went) (sym gid_is)
    did in
    part_on (λ at. LandingsPhase at download.gid claim.id claim.mirror runs)
    (λ at. AndThen (filled_phase at v.machine.past download (is_listed download.subject))
    (EndingOr at download (DueSavePhase at download))) v m n _ f f' (d.faults n.disk) c.follow-outcome.result on first
    (c.follow-outcome.ensures.did download there v.machine.past marks)

pub returns-in_default-clause-did : goal.returns-in_default-clause-did
returns-in_default-clause-did g c download added =
    let d = g.D.Disk in
    let v = c.args.self.now in
    let m = c.land_all-counted.new.self in
    let gid = c.args.gid in
    let claim = c.args.claim in
    let run = c.args.run in
    let runs = c.args.open_runs.now in
    let kept = c.tells_stored.ensures in
    let f = d.faults v.disk in
    let f' = d.faults m.disk in
    let of = delivery_of c.runs_follow.ensures v gid claim run c.args.bytes.now kept.wants_are kept.legal c.requires.going
    c.requires.stands.stands c.requires.delivery in
    let gid_is = gid_found v.machine.start v.machine.past gid download added in
    let first = subst (λ (h : Gid). DoesPart (λ at. LandingsPhase at h claim.id claim.mirror runs) v f m f'
    c.land_all-counted.result.1) (sym gid_is) c.land_all-counted.ensures.did in
    part_stop (λ at. LandingsPhase at download.gid claim.id claim.mirror runs)
    (λ at. AndThen (filled_phase at v.machine.past download (is_listed download.subject))
    (EndingOr at download (DueSavePhase at download))) v m m f f' c.land_all-counted.result.1 c.in_default.not-Went first

pub returns-in-Went-clause-on : goal.returns-in-Went-clause-on
returns-in-Went-clause-on g c =
    continues_wider _ 98 _ _ (omega (arith, c.requires.few))
    (continues_on _ 66 _ _ _ c.land_all-counted.ensures.on c.follow-outcome.ensures.on)

pub returns-in_default-clause-on : goal.returns-in_default-clause-on
returns-in_default-clause-on g c =
    continues_wider _ 98 _ _ (omega (arith, c.requires.few)) c.land_all-counted.ensures.on

pub returns-in-Went-clause-counted : goal.returns-in-Went-clause-counted
returns-in-Went-clause-counted g c =
    let a = c.land_all-counted.ensures.counted in
    let b = c.follow-outcome.ensures.counted in
    omega (arith, a, b)

pub returns-in_default-clause-disk : goal.returns-in_default-clause-disk
returns-in_default-clause-disk g c told =
    let d = g.D.Disk in
    let v = c.args.self.now in
    let m = c.land_all-counted.new.self in
    let gid = c.args.gid in
    let claim = c.args.claim in
    let run = c.args.run in
    let runs = c.args.open_runs.now in
    let kept = c.tells_stored.ensures in
    let f = d.faults v.disk in
    let f' = d.faults m.disk in
    let of = delivery_of c.runs_follow.ensures v gid claim run c.args.bytes.now kept.wants_are kept.legal c.requires.going
    c.requires.stands.stands c.requires.delivery in
    ends_stored_part v m gid (d.state v.disk) (d.state m.disk) (c.land_all-counted.ensures.disk told)

pub returns-in-Went-clause-disk : goal.returns-in-Went-clause-disk
returns-in-Went-clause-disk g c told =
    let d = g.D.Disk in
    let v = c.args.self.now in
    let m = c.land_all-counted.new.self in
    let gid = c.args.gid in
    let claim = c.args.claim in
    let run = c.args.run in
    let runs = c.args.open_runs.now in
    let kept = c.tells_stored.ensures in
    let f = d.faults v.disk in
    let f' = d.faults m.disk in
    let of = delivery_of c.runs_follow.ensures v gid claim run c.args.bytes.now kept.wants_are kept.legal c.requires.going
    c.requires.stands.stands c.requires.delivery in
    let did = subst (λ (o : Outcome). DoesPart (λ at. LandingsPhase at gid claim.id claim.mirror runs) v f m f' o) c.in-Went.is
    c.land_all-counted.ensures.did in
    let on = c.land_all-counted.ensures.on in
    let so = landed_all v m gid claim runs f f' on.start did in
    let w = opened_want v.machine.start v.machine.past v.wants.items gid kept.wants_are c.requires.going.opened in
    let last = last_within v.machine.start v.machine.past v.wants.items gid run c.plan_laws.ensures.of_pieces kept.wants_are
    c.requires.going.opened of in
    let legal = c.runs_follow.ensures.legal m.machine.start m.machine.past gid c.tells_stored-in-Went.ensures.legal in
    let n = c.follow-outcome.new.self in
    let here = going_facts m.machine.start m.machine.past m.wants.items gid c.tells_stored-in-Went.ensures.wants_are
    (so.going c.requires.going) in
    let marks = then_marked c.runs_follow.ensures v m gid claim run runs c.full_pieces-full.result so on.start w.plan legal of
    c.requires.open_runs c.full_pieces-full.ensures last in
    let first = grown_by (λ at. LandingsPhase at gid claim.id claim.mirror runs) v m _ f f' Went on did gid in
    let second = grown_by (λ at. AndThen (filled_phase at v.machine.past here.has.download
    (is_listed here.has.download.subject)) (EndingOr at here.has.download (DueSavePhase at here.has.download))) m n 66 f'
    (d.faults n.disk) c.follow-outcome.result c.follow-outcome.ensures.on
    (c.follow-outcome.ensures.did here.has.download here.has.added v.machine.past marks) gid in
    ends_part d.tells f' v m n gid _ (d.state v.disk) (d.state m.disk) (d.state n.disk) on first second
    c.tells_stored-in-Went.ensures (so.going c.requires.going) told (c.land_all-counted.ensures.disk told)
    (c.follow-outcome.ensures.disk told)

pub returns-in-Went-clause-written : goal.returns-in-Went-clause-written
returns-in-Went-clause-written g c told h mirror p at came =
    let d = g.D.Disk in
    let v = c.args.self.now in
    let m = c.land_all-counted.new.self in
    let gid = c.args.gid in
    let claim = c.args.claim in
    let run = c.args.run in
    let runs = c.args.open_runs.now in
    let kept = c.tells_stored.ensures in
    let f = d.faults v.disk in
    let f' = d.faults m.disk in
    let of = delivery_of c.runs_follow.ensures v gid claim run c.args.bytes.now kept.wants_are kept.legal c.requires.going
    c.requires.stands.stands c.requires.delivery in
    let did = subst (λ (o : Outcome). DoesPart (λ at. LandingsPhase at gid claim.id claim.mirror runs) v f m f' o) c.in-Went.is
    c.land_all-counted.ensures.did in
    let on = c.land_all-counted.ensures.on in
    let so = landed_all v m gid claim runs f f' on.start did in
    let w = opened_want v.machine.start v.machine.past v.wants.items gid kept.wants_are c.requires.going.opened in
    let last = last_within v.machine.start v.machine.past v.wants.items gid run c.plan_laws.ensures.of_pieces kept.wants_are
    c.requires.going.opened of in
    let legal = c.runs_follow.ensures.legal m.machine.start m.machine.past gid c.tells_stored-in-Went.ensures.legal in
    let n = c.follow-outcome.new.self in
    let here = going_facts m.machine.start m.machine.past m.wants.items gid c.tells_stored-in-Went.ensures.wants_are
    (so.going c.requires.going) in
    let marks = then_marked c.runs_follow.ensures v m gid claim run runs c.full_pieces-full.result so on.start w.plan legal of
    c.requires.open_runs c.full_pieces-full.ensures last in
    let first = after_front v.machine.past did.events in
    let then = c.follow-outcome.ensures.did here.has.download here.has.added v.machine.past marks in
    let second = after_front m.machine.past then.events in
    ⊎_elim
    (λ (early : CameBetween v.machine.past m.machine.past (Landed h claim.id mirror p at)).
    lands_on v m gid h run p c.args.bytes.now (d.state m.disk) (d.state n.disk)
    (landed_there v m gid h claim runs f f' did mirror p at early).0 on.wants (c.follow-outcome.ensures.payload told)
    (c.land_all-counted.ensures.written told h mirror p at early))
    (λ (late : CameBetween m.machine.past n.machine.past (Landed h claim.id mirror p at)).
    absurd (none_lands n.machine.start m.machine.past n.machine.past c.tells_stored-in-Went-2.ensures.legal
    c.follow-outcome.ensures.counted h claim.id mirror p at late))
    (came_split v.machine.past m.machine.past n.machine.past (Landed h claim.id mirror p at) first.0 second.0
    (did.grown ∙ first.1) (then.grown ∙ second.1) came)

pub returns-in_default-clause-left : goal.returns-in_default-clause-left
returns-in_default-clause-left g c told = c.land_all-counted.ensures.left c.in_default.not-Went told

pub returns-in-Went-clause-left : goal.returns-in-Went-clause-left
returns-in-Went-clause-left g c told = c.follow-outcome.ensures.left told

pub returns-in-Went-clause-alone : goal.returns-in-Went-clause-alone
returns-in-Went-clause-alone g c told want kept =
    let d = g.D.Disk in
    let v = c.args.self.now in
    let m = c.land_all-counted.new.self in
    let n = c.follow-outcome.new.self in
    beside_then (IsByteOfAny want.plan c.args.open_runs.now) want (d.state v.disk).seen (d.state m.disk) (d.state n.disk)
    (c.follow-outcome.ensures.payload told want (c.land_all-counted.ensures.on.wants c.args.gid want kept))
    (c.land_all-counted.ensures.alone told want kept)

pub returns-in-Went-clause-checks : goal.returns-in-Went-clause-checks
returns-in-Went-clause-checks g c told =
    let d = g.D.Disk in
    let v = c.args.self.now in
    let m = c.land_all-counted.new.self in
    let n = c.follow-outcome.new.self in
    let gid = c.args.gid in
    let claim = c.args.claim in
    let runs = c.args.open_runs.now in
    checks_later (λ at. LandingsPhase at gid claim.id claim.mirror runs) v m (d.faults v.disk) (d.faults m.disk)
    c.land_all-counted.result.1 c.land_all-counted.ensures.did
    (unchecked_landings (turn_from v (d.faults v.disk)) gid claim.id claim.mirror runs) gid n (d.state n.disk).seen
    (c.follow-outcome.ensures.checks told)

pub returns-in_default-clause-checks : goal.returns-in_default-clause-checks
returns-in_default-clause-checks g c told =
    let d = g.D.Disk in
    let v = c.args.self.now in
    let m = c.land_all-counted.new.self in
    let gid = c.args.gid in
    let claim = c.args.claim in
    let runs = c.args.open_runs.now in
    checks_none (λ at. LandingsPhase at gid claim.id claim.mirror runs) v m (d.faults v.disk) (d.faults m.disk)
    c.land_all-counted.result.1 c.land_all-counted.ensures.did
    (unchecked_landings (turn_from v (d.faults v.disk)) gid claim.id claim.mirror runs) gid (d.state m.disk).seen
