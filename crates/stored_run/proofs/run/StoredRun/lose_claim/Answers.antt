use Rattle.std.proofs.Common.{◌≡◌, Some, refl, sym, ◌∙◌, ap, arith}
use Rattle.dl_history.specs.OwnEvents.{Loses}
use Rattle.engine_turns.specs.ClaimRows.{sole_phase}
use Rattle.engine_turns.specs.Phases.{AndThen, DeadPhase, JustEvent, Phase, TurnStart}
use Rattle.engine_turns.specs.declared.outcome.Outcome.TheVariants.{Went}
use Rattle.machine_core.specs.RunLegal.{MayFollow, download_in}
use Rattle.machine_core.specs.declared.events.Event.TheVariants.{Cleared, Lost}
use Rattle.stored_run.specs.Steps.{turn_from}
use Rattle.stored_run.specs.Telling.{ClaimGoes, loss_phase_of}
use Rattle.stored_run.proofs.Claimed.{claim_goes}
use Rattle.stored_run.proofs.Doing.{continues_on, did_wider, part_on}
use Rattle.stored_run.proofs.Failing.{clear_may, loss_may}
use Rattle.stored_run.proofs.Losses.{goes_after, loss_so}
use Rattle.stored_run.proofs.PlainEvents.{continues_event, gid_added, part_told, told_so}
use Rattle.stored_run.proofs.run.StoredRun.lose_claim.Goals as goal

pub clear_sole-requires-clause-may : goal.clear_sole-requires-clause-may
clear_sole-requires-clause-may g c sole =
    let a = c.args in
    let v = a.self.now in
    let m = v.machine in
    let laws = c.runs_follow.ensures in
    let piece = c.failing_piece-piece.result.0 in
    let legal = c.tells_stored.ensures.legal in
    let kept = c.tells_stored.ensures.wants_are in
    let e = Lost a.gid a.claim.id a.claim.mirror piece a.mark in
    told_so laws e v c.tell_loss.new.self c.tell_loss.ensures (λ s p ws. MayFollow s p (Cleared a.gid piece))
    (clear_may laws c.plan_laws.ensures.of_pieces m.start m.past v.wants.items kept a.gid a.claim a.mark
    c.requires.stands.stands piece
    (legal, loss_may laws m a.gid a.claim piece a.mark legal c.requires.stands c.failing_piece-piece.ensures.piece)
    c.failing_piece-piece.ensures.piece (sym c.failing_piece-piece.ensures.sole ∙ sole))

pub end_where_dead-requires-clause-going : goal.end_where_dead-requires-clause-going
end_where_dead-requires-clause-going g c =
    let a = c.args in
    let v = a.self.now in
    let m = v.machine in
    let laws = c.runs_follow.ensures in
    let piece = c.failing_piece-piece.result.0 in
    let legal = c.tells_stored.ensures.legal in
    let e = Lost a.gid a.claim.id a.claim.mirror piece a.mark in
    let goes = claim_goes laws m.start m.past a.gid a.claim legal c.requires.stands.stands in
    let then : ClaimGoes c.tell_loss.new.self.machine.start c.tell_loss.new.self.machine.past a.gid =
    told_so laws e v c.tell_loss.new.self c.tell_loss.ensures (λ s p ws. ClaimGoes s p a.gid)
    (goes_after laws m.start m.past e a.gid (Loses a.claim.id a.claim.mirror piece a.mark) refl refl refl goes) in
    c.clear_sole.ensures.ended ∙ then.going

pub returns-clause-did : goal.returns-clause-did
returns-clause-did g c download added =
    let a = c.args in
    let v = a.self.now in
    let m = v.machine in
    let laws = c.runs_follow.ensures in
    let piece = c.failing_piece-piece.result.0 in
    let sole = c.failing_piece-piece.result.1 in
    let kept = c.tells_stored.ensures.wants_are in
    let e = Lost a.gid a.claim.id a.claim.mirror piece a.mark in
    let told = c.tell_loss.ensures in
    let same = ap (λ d. g.D.Disk.faults d) told.disk in
    let added_told = told_so laws e v c.tell_loss.new.self told (λ s p ws. download_in s p a.gid ≡ Some download)
    (laws.downloads m.start m.past e a.gid download added) in
    let added_cleared = c.clear_sole.ensures.added download added_told in
    let loses : TurnStart → Phase = λ at. JustEvent e in
    let clears : TurnStart → Phase = λ at. sole_phase a.gid piece sole in
    let dies : TurnStart → Phase = λ at. DeadPhase at download piece in
    let rest = part_on clears dies c.tell_loss.new.self c.clear_sole.new.self c.end_where_dead.new.self 1 _ _ _ _
    c.clear_sole.ensures.on c.clear_sole.ensures.did (c.end_where_dead.ensures.did download added_cleared) in
    let all = part_on loses (λ at. AndThen (clears at) (dies at)) v c.tell_loss.new.self c.end_where_dead.new.self 1 _ _ _ _
    (continues_event laws e v c.tell_loss.new.self told kept)
    (part_told laws e v c.tell_loss.new.self told loses _ _ Went same refl (λ at start now. refl)) rest in
    did_wider (λ n. AndThen (loses (turn_from v n)) (AndThen (clears (turn_from v n)) (dies (turn_from v n))))
    (λ n. loss_phase_of (turn_from v n) m.past download a.claim a.mark) m.past _ _ _ _
    (λ n events came. loss_so (turn_from v n) m.past events _ download a.claim a.mark a.gid piece sole
    (gid_added m.start m.past a.gid download added) c.failing_piece-piece.ensures.piece
    c.failing_piece-piece.ensures.sole came)
    all

pub returns-clause-on : goal.returns-clause-on
returns-clause-on g c =
    let a = c.args in
    let v = a.self.now in
    let e = Lost a.gid a.claim.id a.claim.mirror c.failing_piece-piece.result.0 a.mark in
    continues_on 1 2 v c.tell_loss.new.self c.end_where_dead.new.self
    (continues_event c.runs_follow.ensures e v c.tell_loss.new.self c.tell_loss.ensures c.tells_stored.ensures.wants_are)
    (continues_on 1 1 c.tell_loss.new.self c.clear_sole.new.self c.end_where_dead.new.self c.clear_sole.ensures.on
    c.end_where_dead.ensures.on)
