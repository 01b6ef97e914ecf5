use Rattle.std.proofs.Common.{◌≡◌, ◌+◌, ◌-◌, ◌<◌, ◌∙◌, List, [], ◌∷◌, length, take, arith, refl, subst, sym, ap, true}
use Rattle.std.proofs.lemmas.List.{take_all}
use Rattle.std.proofs.lemmas.List.Elements.{All-nil}
use Rattle.std.proofs.lemmas.List.Sums.{sum_by-append, sum_by-cons, sum_by_more_le}
use Rattle.dl_history.specs.StandingClaims.{is_open_since}
use Rattle.dl_kinds.specs.Plan.{block_end, block_start}
use Rattle.dl_kinds.specs.declared.runs.Run.{Run}
use Rattle.engine_turns.specs.Phases.{AfterDisk, LandingsPhase}
use Rattle.engine_turns.specs.declared.outcome.Outcome.{Outcome}
use Rattle.engine_turns.specs.declared.outcome.Outcome.TheVariants.{Went}
use Rattle.machine_core.specs.OwnParts.{PayloadLengths}
use Rattle.machine_core.specs.Reads.{lengths_of_gid}
use Rattle.machine_core.specs.RunLegal.{MayFollow}
use Rattle.machine_core.specs.declared.events.Event.TheVariants.{Landed}
use Rattle.stored_run.specs.Deliveries.{IsPartOf, IsRunOfPayload, LandedBetween}
use Rattle.stored_run.specs.Steps.{DoesPart}
use Rattle.stored_run.specs.Views.{own_in}
use Rattle.stored_run.proofs.Doing.{continues_none, continues_on, continues_wider, did_nothing, grown_none, stores_none}
use Rattle.stored_run.proofs.Endings.{going_facts}
use Rattle.stored_run.proofs.LandedBytes.{landed_before, landed_there, lands_part, parts_next, parts_still}
use Rattle.stored_run.proofs.Landings.{counts_broken, landed_all, lands_broken, lands_next, next_may, next_one, next_part, run_there, some_there, taken_next}
use Rattle.stored_run.proofs.Own.{lengths_known}
use Rattle.stored_run.proofs.Parts.{grown_by, stores_part}
use Rattle.stored_run.proofs.RunParts.{blocks_in_runs, parts_fit}
use Rattle.stored_run.proofs.KeptBytes.{beside_all, beside_next}
use Rattle.stored_run.proofs.run.StoredRun.land_all.Goals as goal

pub unwrap-part-requires : goal.unwrap-part-requires
unwrap-part-requires g c =
    some_there c.get.result c.args.open_runs.now c.loop-place.place c.get.ensures
    (omega (arith, c.loop-place-test.true, c.len-place-end.ensures.len))

pub land_part-requires-clause-opened : goal.land_part-requires-clause-opened
land_part-requires-clause-opened g c =
    let d = g.D.Disk in
    let v = c.args.self.now in
    let m = c.loop-place.self in
    let was = c.loop-place.invariant in
    let so = landed_all v m c.args.gid c.args.claim (take c.loop-place.place c.args.open_runs.now) (d.faults v.disk)
    (d.faults m.disk) was.on.start was.did in
    (so.going c.requires.going).opened

pub land_part-requires-clause-one : goal.land_part-requires-clause-one
land_part-requires-clause-one g c =
    let d = g.D.Disk in
    let v = c.args.self.now in
    let m = c.loop-place.self in
    let was = c.loop-place.invariant in
    let runs = c.args.open_runs.now in
    let n = c.loop-place.place in
    let part = c.unwrap-part.result in
    let so = landed_all v m c.args.gid c.args.claim (take n runs) (d.faults v.disk) (d.faults m.disk) was.on.start was.did in
    next_one v m c.args.gid c.args.claim c.args.run runs c.requires.stands c.requires.open_runs n part
    (omega (arith, c.loop-place-test.true, c.len-place-end.ensures.len)) so

pub land_part-requires-clause-may : goal.land_part-requires-clause-may
land_part-requires-clause-may g c =
    let d = g.D.Disk in
    let v = c.args.self.now in
    let m = c.loop-place.self in
    let was = c.loop-place.invariant in
    let runs = c.args.open_runs.now in
    let n = c.loop-place.place in
    let part = c.unwrap-part.result in
    let claim = c.args.claim in
    let gid = c.args.gid in
    let so = landed_all v m gid claim (take n runs) (d.faults v.disk) (d.faults m.disk) was.on.start was.did in
    let run = c.tells_stored-in-loop-place.ensures in
    let facts = going_facts m.machine.start m.machine.past m.wants.items gid run.wants_are (so.going c.requires.going) in
    subst (λ (r : Run). MayFollow m.machine.start m.machine.past (Landed gid claim.id claim.mirror r m.now))
    (sym (run_there c.get.result part runs n c.get.ensures c.unwrap-part.ensures))
    (next_may v m gid claim c.args.run runs c.requires.stands c.requires.open_runs n part
    (omega (arith, c.loop-place-test.true, c.len-place-end.ensures.len)) so facts.has.download facts.has.added run.later)

pub land_part-requires-clause-part : goal.land_part-requires-clause-part
land_part-requires-clause-part g c =
    let d = g.D.Disk in
    let v = c.args.self.now in
    let m = c.loop-place.self in
    let was = c.loop-place.invariant in
    let runs = c.args.open_runs.now in
    let n = c.loop-place.place in
    let part = c.unwrap-part.result in
    let so = landed_all v m c.args.gid c.args.claim (take n runs) (d.faults v.disk) (d.faults m.disk) was.on.start was.did in
    subst (IsPartOf c.args.run) (sym (run_there c.get.result part runs n c.get.ensures c.unwrap-part.ensures))
    (next_part v m c.args.gid c.args.claim c.args.run runs c.requires.stands c.requires.open_runs n part
    (omega (arith, c.loop-place-test.true, c.len-place-end.ensures.len)) so)

pub land_part-requires-clause-run : goal.land_part-requires-clause-run
land_part-requires-clause-run g c =
    let d = g.D.Disk in
    let v = c.args.self.now in
    let m = c.loop-place.self in
    let was = c.loop-place.invariant in
    let so = landed_all v m c.args.gid c.args.claim (take c.loop-place.place c.args.open_runs.now) (d.faults v.disk)
    (d.faults m.disk) was.on.start was.did in
    subst (λ (l : PayloadLengths). IsRunOfPayload l c.args.run) (sym so.lengths) c.requires.run

pub land_part-requires-clause-len : goal.land_part-requires-clause-len
land_part-requires-clause-len g c =
    let d = g.D.Disk in
    let v = c.args.self.now in
    let m = c.loop-place.self in
    let was = c.loop-place.invariant in
    let run = c.args.run in
    let so = landed_all v m c.args.gid c.args.claim (take c.loop-place.place c.args.open_runs.now) (d.faults v.disk)
    (d.faults m.disk) was.on.start was.did in
    subst (λ (l : PayloadLengths). block_start l.piece_len run.first + length c.args.bytes.now
    ≡ block_end l.total l.piece_len (run.first + run.count - 1)) (sym so.lengths) c.requires.delivery.len

pub land_part-requires-clause-room : goal.land_part-requires-clause-room
land_part-requires-clause-room g c =
    let room = c.loop-place.invariant.on.room in
    omega (arith, room, c.requires.room, c.loop-place-test.true, c.len-place-end.ensures.len)

pub overflow_add-counted : goal.overflow_add-counted
overflow_add-counted g c =
    let v = c.args.self.now in
    let runs = c.args.open_runs.now in
    let n = c.loop-place.place in
    let part = c.unwrap-part.result in
    let within : n < length runs = omega (arith, c.loop-place-test.true, c.len-place-end.ensures.len) in
    let there = ap (λ (r : Run). r.count) (run_there c.get.result part runs n c.get.ensures c.unwrap-part.ensures) in
    let all = sum_by_more_le (λ (r : Run). r.count) runs n part within in
    let fit = parts_fit (λ b. is_open_since (own_in v c.args.gid) c.args.claim b ≡ true) c.args.run runs c.requires.open_runs in
    let few = c.requires.run.few in
    let counted = c.loop-place.invariant.counted in
    omega (arith, there, all, fit, few, counted)

pub loop-place-init : goal.loop-place-init
loop-place-init g c =
    let d = g.D.Disk in
    let v = c.args.self.now in
    record {
      within = omega arith;
      counted = refl;
      did = did_nothing v.machine.past (d.faults v.disk) (d.faults v.disk) (omega arith);
      on = continues_none v;
      disk = λ told want is. stores_none c.runs_follow.ensures.give want (own_in v c.args.gid) (own_in v c.args.gid)
          (d.state v.disk) (c.tells_stored.ensures.wants_are.sound c.args.gid want is) (grown_none (own_in v c.args.gid));
      written = λ told want kept. All-nil _;
      alone = λ told want kept at none. refl;
    }

pub loop-place-preserved : goal.loop-place-preserved
loop-place-preserved g c =
    let d = g.D.Disk in
    let v = c.args.self.now in
    let m = c.loop-place.self in
    let n' = c.land_part.new.self in
    let was = c.loop-place.invariant in
    let runs = c.args.open_runs.now in
    let n = c.loop-place.place in
    let part = c.unwrap-part.result in
    let claim = c.args.claim in
    let gid = c.args.gid in
    let f = d.faults v.disk in
    let f' = d.faults m.disk in
    let f'' = d.faults n'.disk in
    let within : n < length runs = omega (arith, c.loop-place-test.true, c.len-place-end.ensures.len) in
    let there = run_there c.get.result part runs n c.get.ensures c.unwrap-part.ensures in
    let so = landed_all v m gid claim (take n runs) f f' was.on.start was.did in
    let one = subst (λ (o : Outcome). DoesPart (λ at. AfterDisk at gid (Landed gid claim.id claim.mirror part at.now ∷ [])) m
    f' n' f'' o) c.in-Went.is c.land_part.ensures.did in
    let first = grown_by (λ at. LandingsPhase at gid claim.id claim.mirror (take n runs)) v m n f f' Went was.on was.did gid in
    let second = grown_by (λ at. AfterDisk at gid (Landed gid claim.id claim.mirror part at.now ∷ [])) m n' 1 f' f''
    c.land_part.result c.land_part.ensures.on c.land_part.ensures.did gid in
    record {
      within = omega (arith, within);
      counted =
          let more = sum_by-append (λ (r : Run). r.count) (take n runs) (part ∷ []) in
          let last = sum_by-cons (λ (r : Run). r.count) part [] in
          let counted = was.counted in
          sym (ap blocks_in_runs (taken_next runs n part within there) ∙ omega (arith, more, last, counted));
      did = lands_next v m n' gid claim runs n part within there f f' f'' was.on was.did one;
      on = continues_on n 1 v m n' was.on c.land_part.ensures.on;
      disk = λ told. stores_part d.tells f' v m n' gid n (d.state v.disk) (d.state m.disk) (d.state n'.disk) was.on first
          second c.tells_stored-in-loop-place.ensures (so.going c.requires.going) told (was.disk told) (c.land_part.ensures.disk told);
      written = λ told want kept.
          let has = c.tells_stored.ensures.wants_are.has gid want kept in
          let kept_then = was.on.wants gid want kept in
          let stored = c.tells_stored-in-loop-place.ensures.stored told gid want (so.going c.requires.going) kept_then in
          let files = (stored.held (d.state m.disk).seen (d.state m.disk).own_image).files in
          parts_next c.plan_laws.ensures.follow want (c.tells_stored.ensures.wants_are.sound gid want kept)
          (lengths_of_gid v.machine gid) (lengths_known v.machine.start v.machine.past gid want has) c.args.run c.requires.run
          (λ b. is_open_since (own_in v gid) claim b ≡ true) runs c.requires.open_runs n part within there c.args.bytes.now
          (d.state m.disk).seen (d.state n'.disk).seen (c.land_part.ensures.outside told want kept_then files)
          (was.written told want kept) (c.land_part.ensures.written c.in-Went.is told want kept_then files);
      alone = λ told want kept.
          let kept_then = was.on.wants gid want kept in
          let stored = c.tells_stored-in-loop-place.ensures.stored told gid want (so.going c.requires.going) kept_then in
          let files = (stored.held (d.state m.disk).seen (d.state m.disk).own_image).files in
          beside_next want runs n part within there (d.state v.disk).seen (d.state m.disk).seen (d.state n'.disk).seen
          (c.land_part.ensures.outside told want kept_then files) (was.alone told want kept);
    }

pub returns-in_default : goal.returns-in_default
returns-in_default g c =
    let d = g.D.Disk in
    let v = c.args.self.now in
    let m = c.loop-place.self in
    let n' = c.land_part.new.self in
    let was = c.loop-place.invariant in
    let runs = c.args.open_runs.now in
    let n = c.loop-place.place in
    let part = c.unwrap-part.result in
    let claim = c.args.claim in
    let gid = c.args.gid in
    let f = d.faults v.disk in
    let f' = d.faults m.disk in
    let f'' = d.faults n'.disk in
    let o = c.land_part.result in
    let within : n < length runs = omega (arith, c.loop-place-test.true, c.len-place-end.ensures.len) in
    let there = run_there c.get.result part runs n c.get.ensures c.unwrap-part.ensures in
    let so = landed_all v m gid claim (take n runs) f f' was.on.start was.did in
    let first = grown_by (λ at. LandingsPhase at gid claim.id claim.mirror (take n runs)) v m n f f' Went was.on was.did gid in
    let second = grown_by (λ at. AfterDisk at gid (Landed gid claim.id claim.mirror part at.now ∷ [])) m n' 1 f' f'' o
    c.land_part.ensures.on c.land_part.ensures.did gid in
    record {
      did = lands_broken v m n' gid claim runs n part within there f f' f'' was.on was.did o c.in_default.not-Went
          c.land_part.ensures.did;
      on = continues_wider (n + 1) (length runs) v n' (omega (arith, within))
          (continues_on n 1 v m n' was.on c.land_part.ensures.on);
      disk = λ told. stores_part d.tells f' v m n' gid n (d.state v.disk) (d.state m.disk) (d.state n'.disk) was.on first
          second c.tells_stored-in-loop-place.ensures (so.going c.requires.going) told (was.disk told) (c.land_part.ensures.disk told);
      left = λ over. c.land_part.ensures.left c.in_default.not-Went;
      counted = subst (λ k. LandedBetween k v.machine.past n'.machine.past) (sym was.counted)
          (counts_broken v m n' gid claim runs n part within there f f' f'' was.on was.did o c.in_default.not-Went
          c.land_part.ensures.did);
      written = λ told h mirror p at came. lands_part v gid h c.args.run p c.args.bytes.now (d.state n'.disk).seen
          (take n runs) c.requires.going.opened
          (λ want kept.
          let has = c.tells_stored.ensures.wants_are.has gid want kept in
          let kept_then = was.on.wants gid want kept in
          let stored = c.tells_stored-in-loop-place.ensures.stored told gid want (so.going c.requires.going) kept_then in
          let files = (stored.held (d.state m.disk).seen (d.state m.disk).own_image).files in
          parts_still c.plan_laws.ensures.follow want (c.tells_stored.ensures.wants_are.sound gid want kept)
          (lengths_of_gid v.machine gid) (lengths_known v.machine.start v.machine.past gid want has) c.args.run c.requires.run
          (λ b. is_open_since (own_in v gid) claim b ≡ true) runs c.requires.open_runs n part within there c.args.bytes.now
          (d.state m.disk).seen (d.state n'.disk).seen (c.land_part.ensures.outside told want kept_then files)
          (was.written told want kept))
          (landed_before v m gid h claim (take n runs) f f' was.did mirror p at n'
          (λ t. Landed gid claim.id claim.mirror part t.now ∷ []) f'' o c.in_default.not-Went c.land_part.ensures.did came);
      alone = λ told want kept.
          let kept_then = was.on.wants gid want kept in
          let stored = c.tells_stored-in-loop-place.ensures.stored told gid want (so.going c.requires.going) kept_then in
          let files = (stored.held (d.state m.disk).seen (d.state m.disk).own_image).files in
          beside_all want runs (n + 1) (d.state v.disk).seen (d.state n'.disk).seen
          (beside_next want runs n part within there (d.state v.disk).seen (d.state m.disk).seen (d.state n'.disk).seen
          (c.land_part.ensures.outside told want kept_then files) (was.alone told want kept));
    }

pub returns : goal.returns
returns g c =
    let d = g.D.Disk in
    let v = c.args.self.now in
    let m = c.loop-place.self in
    let was = c.loop-place.invariant in
    let runs = c.args.open_runs.now in
    let n = c.loop-place.place in
    let claim = c.args.claim in
    let gid = c.args.gid in
    let f = d.faults v.disk in
    let f' = d.faults m.disk in
    let so = landed_all v m gid claim (take n runs) f f' was.on.start was.did in
    let all : take n runs ≡ runs = take_all n runs (omega (arith, c.loop-place-test.false, c.len-place-end.ensures.len)) in
    record {
      did = subst (λ (rs : List Run). DoesPart (λ at. LandingsPhase at gid claim.id claim.mirror rs) v f m f' Went) all
          was.did;
      on = continues_wider n (length runs) v m was.within was.on;
      disk = was.disk;
      left = λ over. absurd (over refl);
      counted = subst (λ k. LandedBetween k v.machine.past m.machine.past) (sym was.counted) so.counted;
      written = λ told h mirror p at came. lands_part v gid h c.args.run p c.args.bytes.now (d.state m.disk).seen (take n runs)
          c.requires.going.opened (was.written told)
          (landed_there v m gid h claim (take n runs) f f' was.did mirror p at came);
      alone = λ told want kept.
          beside_all want runs n (d.state v.disk).seen (d.state m.disk).seen (was.alone told want kept);
    }
