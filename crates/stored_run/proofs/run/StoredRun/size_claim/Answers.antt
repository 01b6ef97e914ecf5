use Rattle.std.proofs.Common.{◌≡◌, Some, refl, sym, ap, arith, ◌∷◌, []}
use Rattle.dl_history.specs.OwnEvents.{Sizes}
use Rattle.engine_turns.specs.Phases.{JustEvent}
use Rattle.engine_turns.specs.declared.outcome.Outcome.TheVariants.{Went}
use Rattle.machine_core.specs.RunLegal.{download_in}
use Rattle.machine_core.specs.declared.events.Event.TheVariants.{Sized}
use Rattle.stored_run.specs.Telling.{ClaimGoes, too_long_phase}
use Rattle.stored_run.proofs.Claimed.{claim_goes}
use Rattle.stored_run.proofs.Doing.{continues_on, part_on}
use Rattle.stored_run.proofs.Losses.{goes_after}
use Rattle.stored_run.proofs.PlainEvents.{continues_event, gid_added, part_told, told_so}
use Rattle.stored_run.proofs.run.StoredRun.size_claim.Goals as goal

pub end_where_too_long-requires-clause-goes : goal.end_where_too_long-requires-clause-goes
end_where_too_long-requires-clause-goes g c =
    let a = c.args in
    let m = a.self.now.machine in
    let legal = c.tells_stored.ensures.legal in
    let goes = claim_goes c.runs_follow.ensures m.start m.past a.gid a.claim legal c.requires.stands.stands in
    let e = Sized a.gid a.claim.id a.total in
    told_so c.runs_follow.ensures e a.self.now c.tell_size.new.self c.tell_size.ensures
    (λ s p ws. ClaimGoes s p a.gid)
    (goes_after c.runs_follow.ensures m.start m.past e a.gid (Sizes a.claim.id a.total) refl refl refl goes)

pub returns-clause-did : goal.returns-clause-did
returns-clause-did g c download added =
    let a = c.args in
    let m = a.self.now.machine in
    let laws = c.runs_follow.ensures in
    let e = Sized a.gid a.claim.id a.total in
    let told = c.tell_size.ensures in
    let kept = c.tells_stored.ensures.wants_are in
    let same = ap (λ d. g.D.Disk.faults d) told.disk in
    let added_then = told_so laws e a.self.now c.tell_size.new.self told
    (λ s p ws. download_in s p a.gid ≡ Some download) (laws.downloads m.start m.past e a.gid download added) in
    part_on (λ at. JustEvent (Sized download.gid a.claim.id a.total)) (λ at. too_long_phase download a.total) a.self.now
    c.tell_size.new.self c.end_where_too_long.new.self 1 _ _ _ _ (continues_event laws e a.self.now c.tell_size.new.self told kept)
    (part_told laws e a.self.now c.tell_size.new.self told (λ at. JustEvent (Sized download.gid a.claim.id a.total)) _ _
    Went same refl
    (λ at start now. ap (λ x. Sized x a.claim.id a.total ∷ []) (sym (gid_added m.start m.past a.gid download added))))
    (c.end_where_too_long.ensures.did download added_then)

pub returns-clause-on : goal.returns-clause-on
returns-clause-on g c =
    let a = c.args in
    let laws = c.runs_follow.ensures in
    let kept = c.tells_stored.ensures.wants_are in
    continues_on 1 1 a.self.now c.tell_size.new.self c.end_where_too_long.new.self
    (continues_event laws (Sized a.gid a.claim.id a.total) a.self.now c.tell_size.new.self c.tell_size.ensures kept)
    c.end_where_too_long.ensures.on
