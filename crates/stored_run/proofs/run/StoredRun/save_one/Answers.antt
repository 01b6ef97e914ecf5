use Rattle.std.proofs.Common.{◌≡◌, ◌≤◌, [], ◌∷◌, Some, Err, refl, sym, ap, ◌∙◌, subst, arith}
use Rattle.std.specs.Prelude.{IsTrue}
use Rattle.std.specs.Option.{is_some}
use Rattle.dl_history.specs.Accounts.{listing_of}
use Rattle.dl_history.specs.OwnEvents.{Saves}
use Rattle.dl_kinds.specs.Counts.{Rose}
use Rattle.dl_history.specs.OwnLegal.{MaySave}
use Rattle.control_file.specs.declared.want.Want.{Want}
use Rattle.durable_progress.specs.HeldSteps.{IsHeldNow, StaysHeldOrSaved}
use Rattle.engine_turns.specs.Faults.{CountsFaults}
use Rattle.machine_core.specs.OwnParts.{own_of}
use Rattle.machine_core.specs.RunLegal.{MayFollow}
use Rattle.machine_core.specs.declared.ends.End.TheVariants as end
use Rattle.machine_core.specs.declared.events.Event.{Event}
use Rattle.machine_core.specs.declared.events.Event.TheVariants.{Ended, Saved}
use Rattle.std.proofs.lemmas.Option.{same_Some}
use Rattle.stored_run.specs.Leavings.{IsLeftHeld, IsLeftIn}
use Rattle.resume_core.specs.Tables.{IsTableOf}
use Rattle.stored_run.specs.Steps.{IsStoredApart, StoresOn, turn_from}
use Rattle.stored_run.specs.Stored.{IsStoredWith, saved_listing}
use Rattle.stored_run.specs.Views.{kept_want_of, own_in}
use Rattle.stored_run.proofs.Doing.{IsGrown, fault_counts, grown_none, own_grows, risen}
use Rattle.stored_run.proofs.Findings.{saved_own}
use Rattle.stored_run.proofs.Left.{ended_left, held_ended, held_stored, held_told, left_of, left_told, not_complete, save_held}
use Rattle.stored_run.proofs.Own.{own_legal}
use Rattle.stored_run.proofs.SaveOne.{appended, kept_here, may_fail, may_save, past_by, progress_by, save_stores, saved_stored, table_fits, table_here, there_if_opened, unsaved_stored}
use Rattle.stored_run.proofs.Steady.{payload_at}
use Rattle.stored_run.proofs.Touching.{calls_kept, ending_kept, event_kept}
use Rattle.stored_run.proofs.run.StoredRun.save_one.Goals as goal

pub unwrap-table-requires : goal.unwrap-table-requires
unwrap-table-requires g c =
    let m = c.self.inside.machine in
    let gid = c.args.gid in
    let want = c.unwrap-want.result.now in
    let kept = kept_here m c.self.inside.wants.items gid c.deref.result.now c.want_of.result c.unwrap-want.result
    c.deref.ensures.value c.want_of.ensures c.unwrap-want.ensures in
    let has = c.self.invariant.wants_are.has gid want kept in
    let may : MaySave (own_of m.start m.past gid) = subst (λ r. MaySave (own_in r gid)) (sym c.self.view_is) c.requires.may in
    there_if_opened c.table.result (own_of m.start m.past gid) (c.table.ensures.none (ap is_some has.added)) may.opened

pub save_held-requires-clause-want : goal.save_held-requires-clause-want
save_held-requires-clause-want g c =
    let m = c.self.inside.machine in
    let gid = c.args.gid in
    let want = c.unwrap-want.result.now in
    let kept = kept_here m c.self.inside.wants.items gid c.deref.result.now c.want_of.result c.unwrap-want.result
    c.deref.ensures.value c.want_of.ensures c.unwrap-want.ensures in
    let has = c.self.invariant.wants_are.has gid want kept in
    c.self.invariant.wants_are.sound gid want kept

pub save_held-requires-clause-table : goal.save_held-requires-clause-table
save_held-requires-clause-table g c =
    let m = c.self.inside.machine in
    let gid = c.args.gid in
    let want = c.unwrap-want.result.now in
    let kept = kept_here m c.self.inside.wants.items gid c.deref.result.now c.want_of.result c.unwrap-want.result
    c.deref.ensures.value c.want_of.ensures c.unwrap-want.ensures in
    let has = c.self.invariant.wants_are.has gid want kept in
    let may : MaySave (own_of m.start m.past gid) = subst (λ r. MaySave (own_in r gid)) (sym c.self.view_is) c.requires.may in
    let sound = c.self.invariant.wants_are.sound gid want kept in
    let legal = own_legal c.runs_follow.ensures m.start m.past gid want c.self.invariant.legal has in
    let table = table_here c.table.result c.unwrap-table.result _ c.unwrap-table.ensures c.table.ensures.some in
    subst (IsTableOf want) (sym (table ∙ progress_by m gid want has))
    (table_fits c.runs_follow.ensures want (own_of m.start m.past gid) sound legal may.opened)

pub save_held-requires-clause-lengths : goal.save_held-requires-clause-lengths
save_held-requires-clause-lengths g c told =
    let m = c.self.inside.machine in
    let gid = c.args.gid in
    let want = c.unwrap-want.result.now in
    let kept = kept_here m c.self.inside.wants.items gid c.deref.result.now c.want_of.result c.unwrap-want.result
    c.deref.ensures.value c.want_of.ensures c.unwrap-want.ensures in
    let has = c.self.invariant.wants_are.has gid want kept in
    let there : IsTrue g.D.Disk.tells → IsStoredApart _ gid (g.D.Disk.state c.self.inside.disk) =
    λ told. subst (λ r. IsStoredApart r gid (g.D.Disk.state r.disk)) (sym c.self.view_is) (c.requires.stored told) in
    let disk = g.D.Disk.state c.self.inside.disk in
    let is = (there told).stored want kept in (is.held disk.seen disk.own_image).files

pub saved-requires-clause-legal : goal.saved-requires-clause-legal
saved-requires-clause-legal g c =
    let m = c.self.inside.machine in
    let gid = c.args.gid in
    let want = c.unwrap-want.result.now in
    let kept = kept_here m c.self.inside.wants.items gid c.deref.result.now c.want_of.result c.unwrap-want.result
    c.deref.ensures.value c.want_of.ensures c.unwrap-want.ensures in
    let has = c.self.invariant.wants_are.has gid want kept in
    let may : MaySave (own_of m.start m.past gid) = subst (λ r. MaySave (own_in r gid)) (sym c.self.view_is) c.requires.may in
    may_save c.runs_follow.ensures m gid want c.self.inside.now has may c.self.invariant.later

pub invariant_of-self : goal.invariant_of-self
invariant_of-self g c =
    let m = c.self.inside.machine in
    let gid = c.args.gid in
    let want = c.unwrap-want.result.now in
    let kept = kept_here m c.self.inside.wants.items gid c.deref.result.now c.want_of.result c.unwrap-want.result
    c.deref.ensures.value c.want_of.ensures c.unwrap-want.ensures in
    let has = c.self.invariant.wants_are.has gid want kept in
    let may : MaySave (own_of m.start m.past gid) = subst (λ r. MaySave (own_in r gid)) (sym c.self.view_is) c.requires.may in
    let sound = c.self.invariant.wants_are.sound gid want kept in
    let legal = own_legal c.runs_follow.ensures m.start m.past gid want c.self.invariant.legal has in
    let there : IsTrue g.D.Disk.tells → IsStoredApart _ gid (g.D.Disk.state c.self.inside.disk) =
    λ told. subst (λ r. IsStoredApart r gid (g.D.Disk.state r.disk)) (sym c.self.view_is) (c.requires.stored told) in
    let old = g.D.Disk.state c.self.inside.disk in
    let new = g.D.Disk.state c.save_held.new.disk in
    let faults = g.D.Disk.faults c.save_held.new.disk in
    let table = table_here c.table.result c.unwrap-table.result _ c.unwrap-table.ensures c.table.ensures.some
    ∙ progress_by m gid want has in
    appended m c.saved.new.self (Saved gid c.self.inside.now)
    (λ s p. IsStoredWith g.D.Disk.tells faults new s p c.self.inside.wants.items c.self.inside.now) c.saved.ensures.event
    (event_kept c.runs_follow.ensures g.D.Disk.tells (g.D.Disk.faults c.self.inside.disk) faults old new m.start m.past
    c.self.inside.wants.items c.self.inside.now gid want c.self.invariant c.save_held.ensures.cause.later kept
    (λ told other w goes beside is. (there told).apart other want w goes beside kept is)
    (λ told. c.save_held.ensures.besides told) (Saves c.self.inside.now) (Saved gid c.self.inside.now) (λ h. refl)
    (may_save c.runs_follow.ensures m gid want c.self.inside.now has may c.self.invariant.later) (λ opened. opened)
    (omega arith) tt
    (λ told goes. saved_stored c.runs_follow.ensures want (own_of m.start m.past gid) sound legal old new c.self.inside.now may
    (subst (λ t. IsHeldNow want (listing_of t) new) table (c.in-Ok.ensures.saved told))
    (c.save_held.ensures.payload told) ((there told).stored want kept)))

pub ended-requires-clause-legal : goal.ended-requires-clause-legal
ended-requires-clause-legal g c =
    let m = c.self.inside.machine in
    let gid = c.args.gid in
    let want = c.unwrap-want.result.now in
    let kept = kept_here m c.self.inside.wants.items gid c.deref.result.now c.want_of.result c.unwrap-want.result
    c.deref.ensures.value c.want_of.ensures c.unwrap-want.ensures in
    let has = c.self.invariant.wants_are.has gid want kept in
    let may : MaySave (own_of m.start m.past gid) = subst (λ r. MaySave (own_in r gid)) (sym c.self.view_is) c.requires.may in
    may_fail m gid want (g.D.Disk.faults c.self.inside.disk) c.faults-count.result has may.going c.self.invariant.counted
    (subst (Rose (g.D.Disk.faults c.self.inside.disk)) (sym c.faults-count.ensures)
    (c.save_held.ensures.cause.disk (c.in-Err-Disk.is ∙ ap Err c.in-Err-Disk.field-0-is))) c.faults-count.type_inv

pub invariant_of-self-in-Err-Disk : goal.invariant_of-self-in-Err-Disk
invariant_of-self-in-Err-Disk g c =
    let m = c.self.inside.machine in
    let gid = c.args.gid in
    let want = c.unwrap-want.result.now in
    let kept = kept_here m c.self.inside.wants.items gid c.deref.result.now c.want_of.result c.unwrap-want.result
    c.deref.ensures.value c.want_of.ensures c.unwrap-want.ensures in
    let has = c.self.invariant.wants_are.has gid want kept in
    let may : MaySave (own_of m.start m.past gid) = subst (λ r. MaySave (own_in r gid)) (sym c.self.view_is) c.requires.may in
    let there : IsTrue g.D.Disk.tells → IsStoredApart _ gid (g.D.Disk.state c.self.inside.disk) =
    λ told. subst (λ r. IsStoredApart r gid (g.D.Disk.state r.disk)) (sym c.self.view_is) (c.requires.stored told) in
    let old = g.D.Disk.state c.self.inside.disk in
    let new = g.D.Disk.state c.save_held.new.disk in
    let faults = g.D.Disk.faults c.save_held.new.disk in
    let count = c.faults-count.result in
    let within : count ≤ faults = let is = c.faults-count.ensures in omega arith in
    appended m c.ended.new.self (Ended gid (end.Disk count))
    (λ s p. IsStoredWith g.D.Disk.tells faults new s p c.self.inside.wants.items c.self.inside.now) c.ended.ensures.event
    (ending_kept c.runs_follow.ensures g.D.Disk.tells (g.D.Disk.faults c.self.inside.disk) faults old new m.start m.past
    c.self.inside.wants.items c.self.inside.now gid want c.self.invariant c.save_held.ensures.cause.later kept
    (λ told other w goes beside is. (there told).apart other want w goes beside kept is)
    (λ told. c.save_held.ensures.besides told) (end.Disk count)
    (may_fail m gid want (g.D.Disk.faults c.self.inside.disk) count has may.going c.self.invariant.counted
    (subst (Rose (g.D.Disk.faults c.self.inside.disk)) (sym c.faults-count.ensures)
    (c.save_held.ensures.cause.disk (c.in-Err-Disk.is ∙ ap Err c.in-Err-Disk.field-0-is))) c.faults-count.type_inv)
    within)

pub invariant_of-self-in-Err-NoMemory : goal.invariant_of-self-in-Err-NoMemory
invariant_of-self-in-Err-NoMemory g c =
    let m = c.self.inside.machine in
    let gid = c.args.gid in
    let want = c.unwrap-want.result.now in
    let kept = kept_here m c.self.inside.wants.items gid c.deref.result.now c.want_of.result c.unwrap-want.result
    c.deref.ensures.value c.want_of.ensures c.unwrap-want.ensures in
    let has = c.self.invariant.wants_are.has gid want kept in
    let there : IsTrue g.D.Disk.tells → IsStoredApart _ gid (g.D.Disk.state c.self.inside.disk) =
    λ told. subst (λ r. IsStoredApart r gid (g.D.Disk.state r.disk)) (sym c.self.view_is) (c.requires.stored told) in
    let old = g.D.Disk.state c.self.inside.disk in
    let new = g.D.Disk.state c.save_held.new.disk in
    calls_kept c.runs_follow.ensures g.D.Disk.tells (g.D.Disk.faults c.self.inside.disk)
    (g.D.Disk.faults c.save_held.new.disk) old new m.start m.past c.self.inside.wants.items c.self.inside.now gid want
    c.self.invariant c.save_held.ensures.cause.later kept
    (λ told other w goes beside is. (there told).apart other want w goes beside kept is)
    (λ told. c.save_held.ensures.besides told)
    (λ told goes. unsaved_stored want (own_of m.start m.past gid) old new
    (c.save_held.ensures.unmade (c.in-Err-NoMemory.is ∙ ap Err c.in-Err-NoMemory.field-0-is) told)
    (c.save_held.ensures.payload told) ((there told).stored want kept))

pub returns-in-Ok-clause-did : goal.returns-in-Ok-clause-did
returns-in-Ok-clause-did g c =
    let e = Saved c.args.gid c.args.self.now.now in
    record {
      events = e ∷ [];
      grown = subst (λ r. c.saved.new.self.past ≡ Saved c.args.gid r.now ∷ r.machine.past) c.self.view_is
          (past_by c.self.inside.machine c.saved.new.self (Saved c.args.gid c.self.inside.now) c.saved.ensures.event);
      is = λ from below. refl;
      later = subst (λ r. g.D.Disk.faults r.disk ≤ g.D.Disk.faults c.save_held.new.disk) c.self.view_is
          c.save_held.ensures.cause.later;
      counts = (
        tt,
        c.in-Ok.ensures.cause.done
            ∙ ap (λ r. g.D.Disk.faults r.disk) c.self.view_is,
      );
    }

pub returns-in-Ok-clause-disk : goal.returns-in-Ok-clause-disk
returns-in-Ok-clause-disk g c told other other_kept =
    let m = c.self.inside.machine in
    let gid = c.args.gid in
    let want = c.unwrap-want.result.now in
    let kept = kept_here m c.self.inside.wants.items gid c.deref.result.now c.want_of.result c.unwrap-want.result
    c.deref.ensures.value c.want_of.ensures c.unwrap-want.ensures in
    let has = c.self.invariant.wants_are.has gid want kept in
    let may : MaySave (own_of m.start m.past gid) = subst (λ r. MaySave (own_in r gid)) (sym c.self.view_is) c.requires.may in
    subst (λ r. kept_want_of r gid ≡ Some other
    → StoresOn other (own_in r gid) (own_of c.saved.new.self.start c.saved.new.self.past gid) (g.D.Disk.state r.disk)
    (g.D.Disk.state c.save_held.new.disk)) c.self.view_is
    (λ is. save_stores c.runs_follow.ensures m c.saved.new.self c.self.inside.wants.items gid want other c.unwrap-table.result.now
    (g.D.Disk.state c.self.inside.disk) (g.D.Disk.state c.save_held.new.disk) c.self.invariant.legal kept is
    (c.self.invariant.wants_are.sound gid want kept) has may
    (table_here c.table.result c.unwrap-table.result _ c.unwrap-table.ensures c.table.ensures.some)
    (c.save_held.ensures.held told) (c.save_held.ensures.besides told) (c.save_held.ensures.sound told)
    (appended m c.saved.new.self (Saved gid c.self.inside.now)
    (λ s p. IsGrown (own_of m.start m.past gid) (own_of s p gid)) c.saved.ensures.event
    (own_grows m.start (Saved gid c.self.inside.now) m.past gid))) other_kept

pub returns-in-Err-Disk-clause-did : goal.returns-in-Err-Disk-clause-did
returns-in-Err-Disk-clause-did g c =
    let count = c.faults-count.result in
    let rose : Rose (g.D.Disk.faults c.args.self.now.disk) count =
    subst (λ r. Rose (g.D.Disk.faults r.disk) count) c.self.view_is
    (subst (Rose (g.D.Disk.faults c.self.inside.disk)) (sym c.faults-count.ensures)
    (c.save_held.ensures.cause.disk (c.in-Err-Disk.is ∙ ap Err c.in-Err-Disk.field-0-is))) in
    record {
      events = Ended c.args.gid (end.Disk count) ∷ [];
      grown = subst (λ r. c.ended.new.self.past ≡ Ended c.args.gid (end.Disk count) ∷ r.machine.past) c.self.view_is
          (past_by c.self.inside.machine c.ended.new.self (Ended c.args.gid (end.Disk count)) c.ended.ensures.event);
      is = λ from below. (
        count,
        risen (turn_from c.args.self.now from) (g.D.Disk.faults c.args.self.now.disk) count below rose
            c.faults-count.type_inv,
        refl,
      );
      later = subst (λ r. g.D.Disk.faults r.disk ≤ g.D.Disk.faults c.save_held.new.disk) c.self.view_is
          c.save_held.ensures.cause.later;
      counts = subst
          (λ r. CountsFaults (g.D.Disk.faults r.disk) (Ended c.args.gid (end.Disk count) ∷ []) (g.D.Disk.faults c.save_held.new.disk))
          c.self.view_is
          (fault_counts c.args.gid (g.D.Disk.faults c.self.inside.disk) count (g.D.Disk.faults c.save_held.new.disk)
          c.save_held.ensures.cause.later (c.save_held.ensures.cause.disk (c.in-Err-Disk.is ∙ ap Err c.in-Err-Disk.field-0-is))
          c.faults-count.ensures);
    }

pub returns-in-Err-Disk-clause-disk : goal.returns-in-Err-Disk-clause-disk
returns-in-Err-Disk-clause-disk g c told other other_kept =
    let m = c.self.inside.machine in
    let gid = c.args.gid in
    let want = c.unwrap-want.result.now in
    let kept = kept_here m c.self.inside.wants.items gid c.deref.result.now c.want_of.result c.unwrap-want.result
    c.deref.ensures.value c.want_of.ensures c.unwrap-want.ensures in
    let has = c.self.invariant.wants_are.has gid want kept in
    let may : MaySave (own_of m.start m.past gid) = subst (λ r. MaySave (own_in r gid)) (sym c.self.view_is) c.requires.may in
    subst (λ r. kept_want_of r gid ≡ Some other
    → StoresOn other (own_in r gid) (own_of c.ended.new.self.start c.ended.new.self.past gid) (g.D.Disk.state r.disk)
    (g.D.Disk.state c.save_held.new.disk)) c.self.view_is
    (λ is. save_stores c.runs_follow.ensures m c.ended.new.self c.self.inside.wants.items gid want other c.unwrap-table.result.now
    (g.D.Disk.state c.self.inside.disk) (g.D.Disk.state c.save_held.new.disk) c.self.invariant.legal kept is
    (c.self.invariant.wants_are.sound gid want kept) has may
    (table_here c.table.result c.unwrap-table.result _ c.unwrap-table.ensures c.table.ensures.some)
    (c.save_held.ensures.held told) (c.save_held.ensures.besides told) (c.save_held.ensures.sound told)
    (appended m c.ended.new.self (Ended gid (end.Disk c.faults-count.result))
    (λ s p. IsGrown (own_of m.start m.past gid) (own_of s p gid)) c.ended.ensures.event
    (own_grows m.start (Ended gid (end.Disk c.faults-count.result)) m.past gid))) other_kept

pub returns-in-Err-NoMemory-clause-disk : goal.returns-in-Err-NoMemory-clause-disk
returns-in-Err-NoMemory-clause-disk g c told other other_kept =
    let m = c.self.inside.machine in
    let gid = c.args.gid in
    let want = c.unwrap-want.result.now in
    let kept = kept_here m c.self.inside.wants.items gid c.deref.result.now c.want_of.result c.unwrap-want.result
    c.deref.ensures.value c.want_of.ensures c.unwrap-want.ensures in
    let has = c.self.invariant.wants_are.has gid want kept in
    let may : MaySave (own_of m.start m.past gid) = subst (λ r. MaySave (own_in r gid)) (sym c.self.view_is) c.requires.may in
    subst (λ r. kept_want_of r gid ≡ Some other
    → StoresOn other (own_in r gid) (own_of m.start m.past gid) (g.D.Disk.state r.disk)
    (g.D.Disk.state c.save_held.new.disk)) c.self.view_is
    (λ is. save_stores c.runs_follow.ensures m m c.self.inside.wants.items gid want other c.unwrap-table.result.now
    (g.D.Disk.state c.self.inside.disk) (g.D.Disk.state c.save_held.new.disk) c.self.invariant.legal kept is
    (c.self.invariant.wants_are.sound gid want kept) has may
    (table_here c.table.result c.unwrap-table.result _ c.unwrap-table.ensures c.table.ensures.some)
    (c.save_held.ensures.held told) (c.save_held.ensures.besides told) (c.save_held.ensures.sound told)
    (grown_none (own_of m.start m.past gid))) other_kept

pub returns-in-Ok-clause-left : goal.returns-in-Ok-clause-left
returns-in-Ok-clause-left g c told =
    let m = c.self.inside.machine in
    let gid = c.args.gid in
    let want = c.unwrap-want.result.now in
    let items = c.self.inside.wants.items in
    let kept = kept_here m items gid c.deref.result.now c.want_of.result c.unwrap-want.result c.deref.ensures.value
    c.want_of.ensures c.unwrap-want.ensures in
    let has = c.self.invariant.wants_are.has gid want kept in
    let may : MaySave (own_of m.start m.past gid) = subst (λ r. MaySave (own_in r gid)) (sym c.self.view_is) c.requires.may in
    let sound = c.self.invariant.wants_are.sound gid want kept in
    let legal = own_legal c.runs_follow.ensures m.start m.past gid want c.self.invariant.legal has in
    let there : IsTrue g.D.Disk.tells → IsStoredApart _ gid (g.D.Disk.state c.self.inside.disk) =
    λ told. subst (λ r. IsStoredApart r gid (g.D.Disk.state r.disk)) (sym c.self.view_is) (c.requires.stored told) in
    let stored = (there told).stored want kept in
    let laws = c.runs_follow.ensures in
    let old = g.D.Disk.state c.self.inside.disk in
    let new = g.D.Disk.state c.save_held.new.disk in
    let table = table_here c.table.result c.unwrap-table.result _ c.unwrap-table.ensures c.table.ensures.some
    ∙ progress_by m gid want has in
    let came = c.saved.ensures.event in
    let n = c.saved.new.self in
    let e = Saved gid c.self.inside.now in
    let x = Saves c.self.inside.now in
    let past = came.past_is ∙ ap (λ (y : Event). y ∷ m.past) came.is in
    let held = held_stored want (x ∷ own_of m.start m.past gid) new
    (saved_stored laws want (own_of m.start m.past gid) sound legal old new c.self.inside.now may
    (subst (λ t. IsHeldNow want (listing_of t) new) table (c.in-Ok.ensures.saved told)) (c.save_held.ensures.payload told)
    stored) in
    left_told laws g.D.Disk.tells (g.D.Disk.faults c.self.inside.disk) old new m.start n.start m.past n.past items
    c.self.inside.now gid e x want c.self.invariant came.start_is past (saved_own gid c.self.inside.now) kept held may.going

pub returns-in-Ok-clause-held : goal.returns-in-Ok-clause-held
returns-in-Ok-clause-held g c told =
    let m = c.self.inside.machine in
    let gid = c.args.gid in
    let want = c.unwrap-want.result.now in
    let items = c.self.inside.wants.items in
    let kept = kept_here m items gid c.deref.result.now c.want_of.result c.unwrap-want.result c.deref.ensures.value
    c.want_of.ensures c.unwrap-want.ensures in
    let has = c.self.invariant.wants_are.has gid want kept in
    let may : MaySave (own_of m.start m.past gid) = subst (λ r. MaySave (own_in r gid)) (sym c.self.view_is) c.requires.may in
    let sound = c.self.invariant.wants_are.sound gid want kept in
    let legal = own_legal c.runs_follow.ensures m.start m.past gid want c.self.invariant.legal has in
    let there : IsTrue g.D.Disk.tells → IsStoredApart _ gid (g.D.Disk.state c.self.inside.disk) =
    λ told. subst (λ r. IsStoredApart r gid (g.D.Disk.state r.disk)) (sym c.self.view_is) (c.requires.stored told) in
    let stored = (there told).stored want kept in
    let laws = c.runs_follow.ensures in
    let old = g.D.Disk.state c.self.inside.disk in
    let new = g.D.Disk.state c.save_held.new.disk in
    let table = table_here c.table.result c.unwrap-table.result _ c.unwrap-table.ensures c.table.ensures.some
    ∙ progress_by m gid want has in
    let came = c.saved.ensures.event in
    let n = c.saved.new.self in
    let e = Saved gid c.self.inside.now in
    let x = Saves c.self.inside.now in
    let past = came.past_is ∙ ap (λ (y : Event). y ∷ m.past) came.is in
    let held = held_stored want (x ∷ own_of m.start m.past gid) new
    (saved_stored laws want (own_of m.start m.past gid) sound legal old new c.self.inside.now may
    (subst (λ t. IsHeldNow want (listing_of t) new) table (c.in-Ok.ensures.saved told)) (c.save_held.ensures.payload told)
    stored) in
    held_told laws g.D.Disk.tells (g.D.Disk.faults c.self.inside.disk) old new m.start n.start m.past n.past items
    c.self.inside.now gid e x want c.self.invariant came.start_is past (saved_own gid c.self.inside.now) kept held

pub returns-in-Err-Disk-clause-left : goal.returns-in-Err-Disk-clause-left
returns-in-Err-Disk-clause-left g c told =
    let m = c.self.inside.machine in
    let gid = c.args.gid in
    let want = c.unwrap-want.result.now in
    let items = c.self.inside.wants.items in
    let kept = kept_here m items gid c.deref.result.now c.want_of.result c.unwrap-want.result c.deref.ensures.value
    c.want_of.ensures c.unwrap-want.ensures in
    let has = c.self.invariant.wants_are.has gid want kept in
    let may : MaySave (own_of m.start m.past gid) = subst (λ r. MaySave (own_in r gid)) (sym c.self.view_is) c.requires.may in
    let sound = c.self.invariant.wants_are.sound gid want kept in
    let legal = own_legal c.runs_follow.ensures m.start m.past gid want c.self.invariant.legal has in
    let there : IsTrue g.D.Disk.tells → IsStoredApart _ gid (g.D.Disk.state c.self.inside.disk) =
    λ told. subst (λ r. IsStoredApart r gid (g.D.Disk.state r.disk)) (sym c.self.view_is) (c.requires.stored told) in
    let stored = (there told).stored want kept in
    let laws = c.runs_follow.ensures in
    let old = g.D.Disk.state c.self.inside.disk in
    let new = g.D.Disk.state c.save_held.new.disk in
    let table = table_here c.table.result c.unwrap-table.result _ c.unwrap-table.ensures c.table.ensures.some
    ∙ progress_by m gid want has in
    let came = c.ended.ensures.event in
    let n = c.ended.new.self in
    let how = end.Disk c.faults-count.result in
    let past = came.past_is ∙ ap (λ (y : Event). y ∷ m.past) came.is in
    let held = save_held laws want (own_of m.start m.past gid) sound legal may old new stored
    (c.save_held.ensures.payload told) (c.save_held.ensures.besides told).passes.later
    (subst (λ t. StaysHeldOrSaved want (saved_listing want (own_of m.start m.past gid)) (listing_of t) old new) table
    (c.save_held.ensures.held told (saved_listing want (own_of m.start m.past gid)))) in
    ended_left laws g.D.Disk.tells (g.D.Disk.faults c.self.inside.disk) old new m.start n.start m.past n.past items
    c.self.inside.now gid how want c.self.invariant came.start_is past
    (subst (λ (y : Event). MayFollow m.start m.past y) came.is came.may) kept held may.going (λ same. absurd cc)

pub returns-in-Err-Disk-clause-held : goal.returns-in-Err-Disk-clause-held
returns-in-Err-Disk-clause-held g c told =
    let m = c.self.inside.machine in
    let gid = c.args.gid in
    let want = c.unwrap-want.result.now in
    let items = c.self.inside.wants.items in
    let kept = kept_here m items gid c.deref.result.now c.want_of.result c.unwrap-want.result c.deref.ensures.value
    c.want_of.ensures c.unwrap-want.ensures in
    let has = c.self.invariant.wants_are.has gid want kept in
    let may : MaySave (own_of m.start m.past gid) = subst (λ r. MaySave (own_in r gid)) (sym c.self.view_is) c.requires.may in
    let sound = c.self.invariant.wants_are.sound gid want kept in
    let legal = own_legal c.runs_follow.ensures m.start m.past gid want c.self.invariant.legal has in
    let there : IsTrue g.D.Disk.tells → IsStoredApart _ gid (g.D.Disk.state c.self.inside.disk) =
    λ told. subst (λ r. IsStoredApart r gid (g.D.Disk.state r.disk)) (sym c.self.view_is) (c.requires.stored told) in
    let stored = (there told).stored want kept in
    let laws = c.runs_follow.ensures in
    let old = g.D.Disk.state c.self.inside.disk in
    let new = g.D.Disk.state c.save_held.new.disk in
    let table = table_here c.table.result c.unwrap-table.result _ c.unwrap-table.ensures c.table.ensures.some
    ∙ progress_by m gid want has in
    let came = c.ended.ensures.event in
    let n = c.ended.new.self in
    let how = end.Disk c.faults-count.result in
    let past = came.past_is ∙ ap (λ (y : Event). y ∷ m.past) came.is in
    let held = save_held laws want (own_of m.start m.past gid) sound legal may old new stored
    (c.save_held.ensures.payload told) (c.save_held.ensures.besides told).passes.later
    (subst (λ t. StaysHeldOrSaved want (saved_listing want (own_of m.start m.past gid)) (listing_of t) old new) table
    (c.save_held.ensures.held told (saved_listing want (own_of m.start m.past gid)))) in
    held_ended laws g.D.Disk.tells (g.D.Disk.faults c.self.inside.disk) old new m.start n.start m.past n.past items
    c.self.inside.now gid how want c.self.invariant came.start_is past
    (subst (λ (y : Event). MayFollow m.start m.past y) came.is came.may) kept held

pub returns-in-Err-NoMemory-clause-left : goal.returns-in-Err-NoMemory-clause-left
returns-in-Err-NoMemory-clause-left g c told =
    let m = c.self.inside.machine in
    let gid = c.args.gid in
    let want = c.unwrap-want.result.now in
    let items = c.self.inside.wants.items in
    let kept = kept_here m items gid c.deref.result.now c.want_of.result c.unwrap-want.result c.deref.ensures.value
    c.want_of.ensures c.unwrap-want.ensures in
    let has = c.self.invariant.wants_are.has gid want kept in
    let may : MaySave (own_of m.start m.past gid) = subst (λ r. MaySave (own_in r gid)) (sym c.self.view_is) c.requires.may in
    let sound = c.self.invariant.wants_are.sound gid want kept in
    let legal = own_legal c.runs_follow.ensures m.start m.past gid want c.self.invariant.legal has in
    let there : IsTrue g.D.Disk.tells → IsStoredApart _ gid (g.D.Disk.state c.self.inside.disk) =
    λ told. subst (λ r. IsStoredApart r gid (g.D.Disk.state r.disk)) (sym c.self.view_is) (c.requires.stored told) in
    let stored = (there told).stored want kept in
    let laws = c.runs_follow.ensures in
    let old = g.D.Disk.state c.self.inside.disk in
    let new = g.D.Disk.state c.save_held.new.disk in
    let table = table_here c.table.result c.unwrap-table.result _ c.unwrap-table.ensures c.table.ensures.some
    ∙ progress_by m gid want has in
    let held = held_stored want (own_of m.start m.past gid) new
    (unsaved_stored want (own_of m.start m.past gid) old new
    (c.save_held.ensures.unmade (c.in-Err-NoMemory.is ∙ ap Err c.in-Err-NoMemory.field-0-is) told)
    (c.save_held.ensures.payload told) stored) in
    λ other is.
    subst (λ (v : Want). IsLeftIn m.start m.past gid v new) (same_Some want other (sym kept ∙ is))
    (left_of m.start m.past gid want new held (not_complete m.start m.past gid may.going))

pub returns-in-Err-NoMemory-clause-held : goal.returns-in-Err-NoMemory-clause-held
returns-in-Err-NoMemory-clause-held g c told =
    let m = c.self.inside.machine in
    let gid = c.args.gid in
    let want = c.unwrap-want.result.now in
    let items = c.self.inside.wants.items in
    let kept = kept_here m items gid c.deref.result.now c.want_of.result c.unwrap-want.result c.deref.ensures.value
    c.want_of.ensures c.unwrap-want.ensures in
    let has = c.self.invariant.wants_are.has gid want kept in
    let may : MaySave (own_of m.start m.past gid) = subst (λ r. MaySave (own_in r gid)) (sym c.self.view_is) c.requires.may in
    let sound = c.self.invariant.wants_are.sound gid want kept in
    let legal = own_legal c.runs_follow.ensures m.start m.past gid want c.self.invariant.legal has in
    let there : IsTrue g.D.Disk.tells → IsStoredApart _ gid (g.D.Disk.state c.self.inside.disk) =
    λ told. subst (λ r. IsStoredApart r gid (g.D.Disk.state r.disk)) (sym c.self.view_is) (c.requires.stored told) in
    let stored = (there told).stored want kept in
    let laws = c.runs_follow.ensures in
    let old = g.D.Disk.state c.self.inside.disk in
    let new = g.D.Disk.state c.save_held.new.disk in
    let table = table_here c.table.result c.unwrap-table.result _ c.unwrap-table.ensures c.table.ensures.some
    ∙ progress_by m gid want has in
    let held = held_stored want (own_of m.start m.past gid) new
    (unsaved_stored want (own_of m.start m.past gid) old new
    (c.save_held.ensures.unmade (c.in-Err-NoMemory.is ∙ ap Err c.in-Err-NoMemory.field-0-is) told)
    (c.save_held.ensures.payload told) stored) in
    λ other is.
    subst (λ (v : Want). IsLeftHeld v (own_of m.start m.past gid) new) (same_Some want other (sym kept ∙ is)) held

pub returns-in-Ok-clause-payload : goal.returns-in-Ok-clause-payload
returns-in-Ok-clause-payload g c told =
    let m = c.self.inside.machine in
    let gid = c.args.gid in
    let kept = kept_here m c.self.inside.wants.items gid c.deref.result.now c.want_of.result c.unwrap-want.result
    c.deref.ensures.value c.want_of.ensures c.unwrap-want.ensures in
    payload_at _ _ c.self.view_is g.D.Disk.state gid c.unwrap-want.result.now kept
    (g.D.Disk.state c.save_held.new.disk) (c.save_held.ensures.payload told)

pub returns-in-Err-Disk-clause-payload : goal.returns-in-Err-Disk-clause-payload
returns-in-Err-Disk-clause-payload g c told =
    let m = c.self.inside.machine in
    let gid = c.args.gid in
    let kept = kept_here m c.self.inside.wants.items gid c.deref.result.now c.want_of.result c.unwrap-want.result
    c.deref.ensures.value c.want_of.ensures c.unwrap-want.ensures in
    payload_at _ _ c.self.view_is g.D.Disk.state gid c.unwrap-want.result.now kept
    (g.D.Disk.state c.save_held.new.disk) (c.save_held.ensures.payload told)

pub returns-in-Err-NoMemory-clause-payload : goal.returns-in-Err-NoMemory-clause-payload
returns-in-Err-NoMemory-clause-payload g c told =
    let m = c.self.inside.machine in
    let gid = c.args.gid in
    let kept = kept_here m c.self.inside.wants.items gid c.deref.result.now c.want_of.result c.unwrap-want.result
    c.deref.ensures.value c.want_of.ensures c.unwrap-want.ensures in
    payload_at _ _ c.self.view_is g.D.Disk.state gid c.unwrap-want.result.now kept
    (g.D.Disk.state c.save_held.new.disk) (c.save_held.ensures.payload told)
