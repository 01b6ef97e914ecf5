use Rattle.std.proofs.Common.{refl, ◌≡◌, ◌<◌, ◌^◌, ◌∙◌, ◌∷◌, [], Some, ap, arith, subst, sym, true}
use Rattle.dl_history.specs.OwnEvents.{Halts}
use Rattle.engine_turns.specs.Phases.{AfterDisk}
use Rattle.engine_turns.specs.declared.outcome.Outcome.TheVariants.{Over}
use Rattle.machine_core.specs.RunLegal.{MayFollow}
use Rattle.machine_core.specs.declared.ends.End.TheVariants as end
use Rattle.machine_core.specs.declared.events.Event.{Event}
use Rattle.machine_core.specs.declared.events.Event.TheVariants.{Ended}
use Rattle.control_file.specs.Wants.{IsWant}
use Rattle.control_file.specs.declared.want.Want.{Want}
use Rattle.dl_disk.specs.Files.{IsSame}
use Rattle.dl_kinds.specs.Counts.{Rose}
use Rattle.machine_core.specs.OwnParts.{own_of}
use Rattle.std.proofs.lemmas.Option.{same_Some}
use Rattle.machine_core.specs.Reads.{IsPieceOfGid, lengths_of_gid}
use Rattle.resume_core.specs.Runs.{ReadsPiece, len_of_piece}
use Rattle.std.specs.Vec.{vec_len}
use Rattle.stored_run.specs.Granting.{IsLongAsPiece}
use Rattle.stored_run.proofs.Grants.{long_as_piece}
use Rattle.stored_run.specs.Steps.{turn_from}
use Rattle.stored_run.specs.Views.{IsGoing, kept_want_of}
use Rattle.stored_run.specs.declared.run.StoredView.{StoredView}
use Rattle.stored_run.proofs.Doing.{fault_counts, grown_none}
use Rattle.stored_run.proofs.Endings.{ended_own, fault_ends, going_facts, may_fail, plain_kept, rose_of, same_of, unended}
use Rattle.stored_run.proofs.Kept.{halts}
use Rattle.stored_run.proofs.Left.{ended_left, going_left, held_stored}
use Rattle.stored_run.proofs.Single.{read_run, stored_read}
use Rattle.stored_run.proofs.Steady.{disk_read, grown_to, one_did, payload_read}
use Rattle.stored_run.proofs.WantPlaces.{piece_of_want, place_some, want_is, want_some, want_within}
use Rattle.stored_run.proofs.run.StoredRun.read_into.Goals as goal

pub unwrap-place-requires : goal.unwrap-place-requires
unwrap-place-requires g c =
    let m = c.self.inside.machine in
    let going = subst (λ (v : StoredView _). IsGoing v c.args.gid) (sym c.self.view_is) c.requires.going in
    let facts = going_facts m.start m.past c.self.inside.wants.items c.args.gid c.self.invariant.wants_are going in
    place_some m.start m.past c.self.inside.wants.items c.args.gid facts c.place.result c.place.ensures.none

pub index-requires : goal.index-requires
index-requires g c =
    let m = c.self.inside.machine in
    let going = subst (λ (v : StoredView _). IsGoing v c.args.gid) (sym c.self.view_is) c.requires.going in
    let facts = going_facts m.start m.past c.self.inside.wants.items c.args.gid c.self.invariant.wants_are going in
    let within = want_within m.start m.past c.self.inside.wants.items c.args.gid facts c.place.result c.unwrap-place.result
    c.unwrap-place.ensures c.place.ensures.first in
    omega (arith, c.self.inside.wants.ok.0)

pub unwrap-want-requires : goal.unwrap-want-requires
unwrap-want-requires g c =
    let m = c.self.inside.machine in
    let going = subst (λ (v : StoredView _). IsGoing v c.args.gid) (sym c.self.view_is) c.requires.going in
    let facts = going_facts m.start m.past c.self.inside.wants.items c.args.gid c.self.invariant.wants_are going in
    want_some m.start m.past c.self.inside.wants.items c.args.gid facts c.place.result c.unwrap-place.result
    c.unwrap-place.ensures c.place.ensures.first c.index.result.now c.as_ref.result c.index.ensures
    c.as_ref.ensures.value

pub read_piece-requires-clause-want : goal.read_piece-requires-clause-want
read_piece-requires-clause-want g c =
    let m = c.self.inside.machine in
    let going = subst (λ (v : StoredView _). IsGoing v c.args.gid) (sym c.self.view_is) c.requires.going in
    let facts = going_facts m.start m.past c.self.inside.wants.items c.args.gid c.self.invariant.wants_are going in
    let want_eq = want_is m.start m.past c.self.inside.wants.items c.args.gid facts c.place.result c.unwrap-place.result
    c.unwrap-place.ensures c.place.ensures.first c.index.result.now c.as_ref.result c.unwrap-want.result c.index.ensures
    c.as_ref.ensures.value c.unwrap-want.ensures in
    subst IsWant (sym want_eq) (c.self.invariant.wants_are.sound c.args.gid facts.want facts.kept)

pub ended-requires-clause-legal : goal.ended-requires-clause-legal
ended-requires-clause-legal g c =
    let d = g.D.Disk in
    let m = c.self.inside.machine in
    let going = subst (λ (v : StoredView _). IsGoing v c.args.gid) (sym c.self.view_is) c.requires.going in
    let facts = going_facts m.start m.past c.self.inside.wants.items c.args.gid c.self.invariant.wants_are going in
    subst (λ n. MayFollow m.start m.past (Ended c.args.gid (end.Disk n))) (sym c.faults-count.ensures)
    (may_fail c.runs_follow.ensures m.start m.past c.self.inside.wants.items c.args.gid (d.faults c.self.inside.disk)
    (d.faults c.read_piece.new.disk) c.self.invariant.legal c.self.invariant.wants_are c.self.invariant.counted going
    (rose_of _ _ c.read_piece.result c.in-Err-Disk.field-0 c.read_piece.ensures.cause c.in-Err-Disk.is
    c.in-Err-Disk.field-0-is) (subst (λ n. n < 2 ^ 64) c.faults-count.ensures c.faults-count.type_inv))

pub invariant_of-self-in-Err-Disk : goal.invariant_of-self-in-Err-Disk
invariant_of-self-in-Err-Disk g c =
    let d = g.D.Disk in
    let m = c.self.inside.machine in
    let going = subst (λ (v : StoredView _). IsGoing v c.args.gid) (sym c.self.view_is) c.requires.going in
    let facts = going_facts m.start m.past c.self.inside.wants.items c.args.gid c.self.invariant.wants_are going in
    let want_eq = want_is m.start m.past c.self.inside.wants.items c.args.gid facts c.place.result c.unwrap-place.result
    c.unwrap-place.ensures c.place.ensures.first c.index.result.now c.as_ref.result c.unwrap-want.result c.index.ensures
    c.as_ref.ensures.value c.unwrap-want.ensures in
    let came = c.ended.ensures.event in
    let old = d.state c.self.inside.disk in
    let new = d.state c.read_piece.new.disk in
    let how = end.Disk c.faults-count.result in
    plain_kept c.runs_follow.ensures d.tells (d.faults c.self.inside.disk) (d.faults c.read_piece.new.disk) old new m.start
    c.ended.new.self.start m.past c.ended.new.self.past c.self.inside.wants.items c.self.inside.now (Ended c.args.gid how)
    c.args.gid (Halts true) c.self.invariant came.start_is (came.past_is ∙ ap (λ (x : Event). x ∷ m.past) came.is)
    (subst (λ (x : Event). MayFollow m.start m.past x) came.is came.may) (ended_own c.args.gid how) (halts true) tt
    c.read_piece.ensures.cause.later (omega (arith, c.faults-count.ensures)) (λ told. (c.read_piece.ensures.looks told).stays)

pub invariant_of-self-in-Err-NoMemory : goal.invariant_of-self-in-Err-NoMemory
invariant_of-self-in-Err-NoMemory g c =
    let d = g.D.Disk in
    let m = c.self.inside.machine in
    let old = d.state c.self.inside.disk in
    let new = d.state c.read_piece.new.disk in
    read_run d.tells (d.faults c.self.inside.disk) (d.faults c.read_piece.new.disk) old new m.start m.past
    c.self.inside.wants.items c.self.inside.now c.self.invariant
    (sym (same_of _ _ c.read_piece.result c.in-Err-NoMemory.field-0 c.read_piece.ensures.cause c.in-Err-NoMemory.is
    c.in-Err-NoMemory.field-0-is)) (λ told. (c.read_piece.ensures.looks told).stays)

pub returns-in-Err-Disk-clause-did : goal.returns-in-Err-Disk-clause-did
returns-in-Err-Disk-clause-did g c =
    let d = g.D.Disk in
    let m = c.self.inside.machine in
    let came = c.ended.ensures.event in
    let u = c.self.inside in
    let rose = rose_of _ _ c.read_piece.result c.in-Err-Disk.field-0 c.read_piece.ensures.cause c.in-Err-Disk.is
    c.in-Err-Disk.field-0-is in
    let count = c.faults-count.result in
    one_did _ _ c.self.view_is d.faults (λ v n. AfterDisk (turn_from v n) c.args.gid []) c.ended.new.self.past
    (d.faults c.read_piece.new.disk) (Ended c.args.gid (end.Disk count)) Over
    (came.past_is ∙ ap (λ (x : Event). x ∷ m.past) came.is)
    (fault_counts c.args.gid (d.faults u.disk) count (d.faults c.read_piece.new.disk) c.read_piece.ensures.cause.later rose
    c.faults-count.ensures)
    (λ from below. fault_ends (record { start = m.start; now = u.now; faults = from }) c.args.gid
    (d.faults u.disk) count below (subst (λ n. Rose (d.faults u.disk) n) (sym c.faults-count.ensures) rose)
    c.faults-count.type_inv)

pub returns-in-Err-Disk-clause-disk : goal.returns-in-Err-Disk-clause-disk
returns-in-Err-Disk-clause-disk g c told =
    let d = g.D.Disk in
    let m = c.self.inside.machine in
    let came = c.ended.ensures.event in
    let n = c.ended.new.self in
    let laws = c.runs_follow.ensures in
    let kept = c.self.invariant.wants_are in
    let past_is = came.past_is ∙ ap (λ (x : Event). x ∷ m.past) came.is in
    disk_read _ _ c.self.view_is laws d.state n.start n.past c.args.gid kept
    (grown_to _ _ c.self.view_is laws d.state n.start n.past c.args.gid kept _ came.start_is past_is)
    (d.state c.read_piece.new.disk) (c.read_piece.ensures.looks told).stays (c.read_piece.ensures.looks told).passes

pub returns-in-Err-NoMemory-clause-disk : goal.returns-in-Err-NoMemory-clause-disk
returns-in-Err-NoMemory-clause-disk g c told =
    let d = g.D.Disk in
    let m = c.self.inside.machine in
    disk_read _ _ c.self.view_is c.runs_follow.ensures d.state m.start m.past c.args.gid c.self.invariant.wants_are
    (grown_none (own_of m.start m.past c.args.gid))
    (d.state c.read_piece.new.disk) (c.read_piece.ensures.looks told).stays (c.read_piece.ensures.looks told).passes

pub invariant_of-self : goal.invariant_of-self
invariant_of-self g c =
    let d = g.D.Disk in
    let m = c.self.inside.machine in
    let old = d.state c.self.inside.disk in
    let new = d.state c.read_piece.new.disk in
    read_run d.tells (d.faults c.self.inside.disk) (d.faults c.read_piece.new.disk) old new m.start m.past
    c.self.inside.wants.items c.self.inside.now c.self.invariant (sym c.in-Ok.ensures.cause.done)
    (λ told. (c.read_piece.ensures.looks told).stays)

pub returns-in-Ok-clause-disk : goal.returns-in-Ok-clause-disk
returns-in-Ok-clause-disk g c told =
    let d = g.D.Disk in
    let m = c.self.inside.machine in
    disk_read _ _ c.self.view_is c.runs_follow.ensures d.state m.start m.past c.args.gid c.self.invariant.wants_are
    (grown_none (own_of m.start m.past c.args.gid))
    (d.state c.read_piece.new.disk) (c.read_piece.ensures.looks told).stays (c.read_piece.ensures.looks told).passes

pub read_piece-requires-clause-piece : goal.read_piece-requires-clause-piece
read_piece-requires-clause-piece g c =
    let m = c.self.inside.machine in
    let going = subst (λ (v : StoredView _). IsGoing v c.args.gid) (sym c.self.view_is) c.requires.going in
    let facts = going_facts m.start m.past c.self.inside.wants.items c.args.gid c.self.invariant.wants_are going in
    let want_eq = want_is m.start m.past c.self.inside.wants.items c.args.gid facts c.place.result c.unwrap-place.result
    c.unwrap-place.ensures c.place.ensures.first c.index.result.now c.as_ref.result c.unwrap-want.result c.index.ensures
    c.as_ref.ensures.value c.unwrap-want.ensures in
    let piece = subst (λ (v : StoredView _). IsPieceOfGid v.machine c.args.gid c.args.piece) (sym c.self.view_is)
    c.requires.piece in
    subst (λ (w : Want). c.args.piece < w.plan.pieces) (sym want_eq)
    (piece_of_want m.start m.past c.args.gid facts.want c.args.piece facts.has
    (c.self.invariant.wants_are.sound c.args.gid facts.want facts.kept) piece)

pub returns-in-Ok-clause-read : goal.returns-in-Ok-clause-read
returns-in-Ok-clause-read g c went told =
    let d = g.D.Disk in
    let m = c.self.inside.machine in
    let going = subst (λ (v : StoredView _). IsGoing v c.args.gid) (sym c.self.view_is) c.requires.going in
    let facts = going_facts m.start m.past c.self.inside.wants.items c.args.gid c.self.invariant.wants_are going in
    let want_eq = want_is m.start m.past c.self.inside.wants.items c.args.gid facts c.place.result c.unwrap-place.result
    c.unwrap-place.ensures c.place.ensures.first c.index.result.now c.as_ref.result c.unwrap-want.result c.index.ensures
    c.as_ref.ensures.value c.unwrap-want.ensures in
    let items = c.read_piece.new.into.items in
    subst (λ (v : StoredView _). (want : Want) → kept_want_of v c.args.gid ≡ Some want
    → ReadsPiece want c.args.piece (d.state v.disk).seen items) c.self.view_is
    (λ want is. subst (λ (w : Want). ReadsPiece w c.args.piece (d.state c.self.inside.disk).seen items)
    (want_eq ∙ same_Some facts.want want (sym facts.kept ∙ is)) (c.in-Ok.ensures.read told))

pub returns-in-Ok-clause-len : goal.returns-in-Ok-clause-len
returns-in-Ok-clause-len g c went =
    let m = c.self.inside.machine in
    let going = subst (λ (v : StoredView _). IsGoing v c.args.gid) (sym c.self.view_is) c.requires.going in
    let facts = going_facts m.start m.past c.self.inside.wants.items c.args.gid c.self.invariant.wants_are going in
    let want_eq = want_is m.start m.past c.self.inside.wants.items c.args.gid facts c.place.result c.unwrap-place.result
    c.unwrap-place.ensures c.place.ensures.first c.index.result.now c.as_ref.result c.unwrap-want.result c.index.ensures
    c.as_ref.ensures.value c.unwrap-want.ensures in
    let sound = c.self.invariant.wants_are.sound c.args.gid facts.want facts.kept in
    let piece = subst (λ (v : StoredView _). IsPieceOfGid v.machine c.args.gid c.args.piece) (sym c.self.view_is)
    c.requires.piece in
    let items = c.read_piece.new.into.items in
    subst (λ (v : StoredView _). IsLongAsPiece (lengths_of_gid v.machine c.args.gid) c.args.piece items) c.self.view_is
    (long_as_piece m.start m.past c.args.gid facts.want c.args.piece (vec_len c.read_piece.new.into) items facts.has sound
    (piece_of_want m.start m.past c.args.gid facts.want c.args.piece facts.has sound piece)
    (c.in-Ok.ensures.len ∙ ap (λ (w : Want). len_of_piece w.plan c.args.piece) want_eq)
    (let ok = c.read_piece.new.into.ok.0 in omega (arith, ok)))

pub returns-in-Ok-clause-still : goal.returns-in-Ok-clause-still
returns-in-Ok-clause-still g c went told =
    let d = g.D.Disk in
    subst (λ (v : StoredView _). IsSame (d.state v.disk).seen (d.state c.read_piece.new.disk).seen) c.self.view_is
    (c.read_piece.ensures.looks told).stays.seen

pub returns-in-Err-Disk-clause-left : goal.returns-in-Err-Disk-clause-left
returns-in-Err-Disk-clause-left g c over told want kept =
    let d = g.D.Disk in
    let m = c.self.inside.machine in
    let came = c.ended.ensures.event in
    let n = c.ended.new.self in
    let gid = c.args.gid in
    let how = end.Disk c.faults-count.result in
    let items = c.self.inside.wants.items in
    let laws = c.runs_follow.ensures in
    let old = d.state c.self.inside.disk in
    let new = d.state c.read_piece.new.disk in
    let past_is = came.past_is ∙ ap (λ (x : Event). x ∷ m.past) came.is in
    let may = subst (λ (x : Event). MayFollow m.start m.past x) came.is came.may in
    let going = subst (λ (v : StoredView _). IsGoing v gid) (sym c.self.view_is) c.requires.going in
    let facts = going_facts m.start m.past items gid c.self.invariant.wants_are going in
    let stored = stored_read facts.want (own_of m.start m.past gid) old new (c.read_piece.ensures.looks told).stays
    (c.self.invariant.stored told gid facts.want going facts.kept) in
    ended_left laws d.tells (d.faults c.self.inside.disk) old new m.start n.start m.past n.past items
    c.self.inside.now gid how facts.want c.self.invariant came.start_is past_is may facts.kept
    (held_stored facts.want (own_of m.start m.past gid) new stored)
    (unended laws m.start m.past gid c.self.invariant.legal going) (λ same. absurd cc) want kept

pub returns-in-Err-NoMemory-clause-left : goal.returns-in-Err-NoMemory-clause-left
returns-in-Err-NoMemory-clause-left g c over told =
    let d = g.D.Disk in
    let m = c.self.inside.machine in
    let old = d.state c.self.inside.disk in
    let new = d.state c.read_piece.new.disk in
    let going = subst (λ (v : StoredView _). IsGoing v c.args.gid) (sym c.self.view_is) c.requires.going in
    going_left c.runs_follow.ensures d.tells (d.faults c.read_piece.new.disk) new m.start m.past c.self.inside.wants.items
    c.self.inside.now c.args.gid
    (read_run d.tells (d.faults c.self.inside.disk) (d.faults c.read_piece.new.disk) old new m.start m.past
    c.self.inside.wants.items c.self.inside.now c.self.invariant
    (sym (same_of _ _ c.read_piece.result c.in-Err-NoMemory.field-0 c.read_piece.ensures.cause c.in-Err-NoMemory.is
    c.in-Err-NoMemory.field-0-is)) (λ told. (c.read_piece.ensures.looks told).stays))
    told going

pub returns-in-Ok-clause-left : goal.returns-in-Ok-clause-left
returns-in-Ok-clause-left g c over = absurd (over refl)

pub returns-in-Ok-clause-payload : goal.returns-in-Ok-clause-payload
returns-in-Ok-clause-payload g c told =
    payload_read _ _ c.self.view_is g.D.Disk.state c.args.gid (g.D.Disk.state c.read_piece.new.disk)
    (c.read_piece.ensures.looks told).stays

pub returns-in-Err-Disk-clause-payload : goal.returns-in-Err-Disk-clause-payload
returns-in-Err-Disk-clause-payload g c told =
    payload_read _ _ c.self.view_is g.D.Disk.state c.args.gid (g.D.Disk.state c.read_piece.new.disk)
    (c.read_piece.ensures.looks told).stays

pub returns-in-Err-NoMemory-clause-payload : goal.returns-in-Err-NoMemory-clause-payload
returns-in-Err-NoMemory-clause-payload g c told =
    payload_read _ _ c.self.view_is g.D.Disk.state c.args.gid (g.D.Disk.state c.read_piece.new.disk)
    (c.read_piece.ensures.looks told).stays
