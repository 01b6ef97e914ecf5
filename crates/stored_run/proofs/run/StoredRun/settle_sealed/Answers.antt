use Rattle.std.proofs.Common.{ℕ, Bool, subst, sym}
use Rattle.engine_turns.specs.Phases.{AndThen, EndingOr, NoEvent, SettlingPhase}
use Rattle.machine_core.specs.MachineViews.{IsFindingOf, IsNext}
use Rattle.stored_run.specs.Settlings.{HasItsDigest}
use Rattle.stored_run.specs.Steps.{DoesPart}
use Rattle.stored_run.proofs.SealedPieces.{sealed_digest, sealed_may}
use Rattle.stored_run.proofs.run.StoredRun.settle_sealed.Goals as goal

pub is_right-right-requires-clause-piece : goal.is_right-right-requires-clause-piece
is_right-right-requires-clause-piece g c = c.requires.piece.may.within

pub settle_and_end-requires-clause-may : goal.settle_and_end-requires-clause-may
settle_and_end-requires-clause-may g c =
    let v = c.args.self.now in
    let p = c.requires.piece in
    let right = c.is_right-right.result in
    subst (λ (n : ℕ). IsNext v.machine (IsFindingOf c.args.gid n right)) (sym c.piece.ensures)
    (sealed_may v c.args.gid c.args.sealed.now right p (c.is_right-right.ensures.listed p.download p.added))

pub settle_and_end-requires-clause-digest : goal.settle_and_end-requires-clause-digest
settle_and_end-requires-clause-digest g c right told =
    let d = g.D.Disk in
    let v = c.args.self.now in
    subst (λ (n : ℕ). HasItsDigest v c.args.gid n (d.state v.disk).seen) (sym c.piece.ensures)
    (sealed_digest v c.args.gid c.args.sealed.now (d.state v.disk).seen (c.requires.read told)
    (c.is_right-right.ensures.digest right))

pub returns-clause-did : goal.returns-clause-did
returns-clause-did g c download added =
    let d = g.D.Disk in
    let v = c.args.self.now in
    let n = c.settle_and_end.new.self in
    subst (λ (b : Bool). DoesPart (λ at. AndThen (SettlingPhase at download c.args.sealed.now.piece b)
    (EndingOr at download NoEvent)) v (d.faults v.disk) n (d.faults n.disk) c.settle_and_end.result)
    (c.is_right-right.ensures.listed download added)
    (subst (λ (k : ℕ). DoesPart (λ at. AndThen (SettlingPhase at download k c.is_right-right.result)
    (EndingOr at download NoEvent)) v (d.faults v.disk) n (d.faults n.disk) c.settle_and_end.result) c.piece.ensures
    (c.settle_and_end.ensures.did download added))
