-- What is kept where calls of the disk touched one download: after its event, after its end, and where none came.
use Rattle.std.proofs.Common.{◌≡◌, ◌≢◌, ◌<◌, ◌≤◌, ◌-◌, ◌^◌, ◌==◌, ℕ, Bool, true, false, Option, Some, List, [], ◌∷◌, ◌⊎◌, inl, inr, ⊎_elim, refl, sym, ap, ◌∙◌, subst, arith}
use Rattle.std.specs.Prelude.{All, IfSome, IsTrue}
use Rattle.std.specs.List.{filter_map}
use Rattle.std.proofs.lemmas.Bool.{cases_lt, eq-eqb, eqb-true}
use Rattle.std.proofs.lemmas.List.Elements.{All-cons, All-head, All-nil, All-tail}
use Rattle.control_file.specs.declared.want.Want.{Want}
use Rattle.dl_disk.specs.State.{DiskState}
use Rattle.dl_history.specs.OwnEvents.{OwnEvent, Halts}
use Rattle.dl_history.specs.PayloadParts.{is_ended, is_opened}
use Rattle.dl_kinds.specs.declared.gid.Gid.{Gid}
use Rattle.dl_kinds.specs.declared.runs.Moment.{Moment}
use Rattle.dl_kinds.specs.Counts.{Rose}
use Rattle.machine_core.specs.OwnParts.{own_of, with_own}
use Rattle.machine_core.specs.RunLegal.{IsNewFault, MayBeEnded, MayFollow, disk_fault_of, moment_of_event}
use Rattle.machine_core.specs.Starts.{RunStart}
use Rattle.machine_core.specs.declared.ends.End.{End}
use Rattle.machine_core.specs.declared.events.Event.{Event}
use Rattle.machine_core.specs.declared.events.Event.TheVariants.{Ended}
use Rattle.resume_core.specs.Openings.{KeepsBesides}
use Rattle.resume_core.specs.Sharing.{share_names}
use Rattle.stored_run.specs.RunFollows.{RunFollows}
use Rattle.stored_run.specs.Stored.{AreFaultsWithin, IsStored, IsStoredWith}
use Rattle.stored_run.specs.Views.{GoesOpened, kept_want}
use Rattle.stored_run.proofs.Kept.{after_event, others_still, own_at, own_beside, own_where, within_more}

-- ---- counts of faults

new_by : (xs : List ℕ) (low count : ℕ) → low < count → All (λ (c : ℕ). c ≤ low) xs → All (λ (c : ℕ). c < count) xs
new_by [] low count less all = All-nil (λ (c : ℕ). c < count)
new_by (x ∷ xs) low count less all =
    let first : x ≤ low = All-head (λ (c : ℕ). c ≤ low) x xs all in
    All-cons (λ (c : ℕ). c < count) x xs (omega arith)
    (new_by xs low count less (All-tail (λ (c : ℕ). c ≤ low) x xs all))

-- a count that rose above all before it is new, or as high as a count goes
pub new_fault : (past : List Event) (before count : ℕ) → AreFaultsWithin before past → Rose before count → count < 2 ^ 64
    → IsNewFault past count
new_fault past before count within rose fits =
    ⊎_elim
    (λ less. inl (new_by (filter_map disk_fault_of past) before count (omega (arith, less, rose)) within))
    (λ most. inr (omega (arith, most, fits)))
    (cases_lt count (2 ^ 64 - 1))

-- ---- one download or another

pub same_or_apart : (one other : Gid) → (one ≡ other) ⊎ (one ≢ other)
same_or_apart one other = by (one.0 == other.0) refl
  where
    by : (b : Bool) → (one.0 == other.0) ≡ b → (one ≡ other) ⊎ (one ≢ other)
    by true is = inl (ap (λ (n : ℕ). record { 0 = n }) (eqb-true one.0 other.0 is))
    by false is =
        inr (λ same. absurd (let f : false ≡ true = sym is ∙ eq-eqb one.0 other.0 (ap (λ (g : Gid). g.0) same) in cc))

-- A download with its want, which shares no name with another that goes on, and calls of the disk for it.
module _ (laws : RunFollows) (tells : Bool) (before faults : ℕ) (old new : DiskState) (start : RunStart) (past : List Event)
    (wants : List (Option Want)) (now : Moment) (gid : Gid) (want : Want)
    (was : IsStoredWith tells before old start past wants now) (more : before ≤ faults)
    (is : kept_want wants start past gid ≡ Some want)
    (apart : IsTrue tells → (other : Gid) (w : Want) → GoesOpened start past other → other ≢ gid
    → kept_want wants start past other ≡ Some w → share_names want w ≡ false)
    (besides : IsTrue tells → KeepsBesides want old new) where
  -- no event came
  pub calls_kept : (IsTrue tells → GoesOpened start past gid → IsStored want (own_of start past gid) new)
      → IsStoredWith tells faults new start past wants now
  calls_kept own =
      record {
        legal = was.legal;
        later = was.later;
        wants_are = was.wants_are;
        counted = within_more _ before faults more was.counted;
        apart = was.apart;
        stored = λ told other w goes had. ⊎_elim
            (λ (same : other ≡ gid).
            let here : Some w ≡ Some want =
            sym had ∙ (ap (λ (g : Gid). kept_want wants start past g) same ∙ is) in
            let same_want : w ≡ want = cc in
            subst (λ (g : Gid). IsStored w (own_of start past g) new) (sym same)
            (subst (λ (v : Want). IsStored v (own_of start past gid) new) (sym same_want)
            (own told (subst (λ (g : Gid). GoesOpened start past g) same goes))))
            (λ (beside : other ≢ gid).
            others_still laws tells before old new start past wants now gid want was told (apart told) (besides told)
            other w beside goes had)
            (same_or_apart other gid);
      }

  -- an event of the download came, which is this one of its own
  pub event_kept : (x : OwnEvent) (e : Event)
      → ((g : Gid) → own_of start (e ∷ past) g ≡ with_own gid g x (own_of start past g)) → MayFollow start past e
      → (is_opened (x ∷ own_of start past gid) ≡ true → is_opened (own_of start past gid) ≡ true)
      → IfSome (moment_of_event e) (λ m. m.0 ≤ now.0) → IfSome (disk_fault_of e) (λ count. count ≤ faults)
      → (IsTrue tells → GoesOpened start (e ∷ past) gid → IsStored want (x ∷ own_of start past gid) new)
      → IsStoredWith tells faults new start (e ∷ past) wants now
  event_kept x e own may opens moment fault stored =
      after_event laws tells before faults old new start past wants now e was (record {
        may = may;
        none = λ g opened. own_where
            (λ (ys : List OwnEvent). is_opened ys ≡ true → is_opened (own_of start past g) ≡ true) gid g x
            (own_of start past g)
            (λ same some.
            subst (λ (h : Gid). is_opened (own_of start past h) ≡ true) same
            (opens (subst (λ (h : Gid). is_opened (x ∷ own_of start past h) ≡ true) (sym same) some)))
            (λ some. some) (subst (λ (ys : List OwnEvent). is_opened ys ≡ true) (own g) opened);
        moment = moment;
        more = more;
        fault = fault;
        still = λ told other w goes went had stayed. ⊎_elim
            (λ (same : other ≡ gid).
            let here : Some w ≡ Some want =
            sym had ∙ (ap (λ (g : Gid). kept_want wants start past g) same ∙ is) in
            let same_want : w ≡ want = cc in
            let at_gid : own_of start (e ∷ past) gid ≡ x ∷ own_of start past gid =
            own gid ∙ own_at gid x (own_of start past gid) in
            subst (λ (g : Gid). IsStored w (own_of start (e ∷ past) g) new) (sym same)
            (subst (λ (v : Want). IsStored v (own_of start (e ∷ past) gid) new) (sym same_want)
            (subst (λ (ys : List OwnEvent). IsStored want ys new) (sym at_gid)
            (stored told (subst (λ (g : Gid). GoesOpened start (e ∷ past) g) same goes)))))
            (λ (beside : other ≢ gid).
            subst (λ (ys : List OwnEvent). IsStored w ys new)
            (sym (own other ∙ own_beside gid other x (own_of start past other) (λ same. beside (sym same))))
            (others_still laws tells before old new start past wants now gid want was told (apart told) (besides told)
            other w beside went had))
            (same_or_apart other gid);
      })

  -- it ended
  pub ending_kept : (how : End) → MayBeEnded start past gid how → IfSome (disk_fault_of (Ended gid how)) (λ count. count ≤ faults)
      → IsStoredWith tells faults new start (Ended gid how ∷ past) wants now
  ending_kept how may fault =
      event_kept (Halts true) (Ended gid how) (λ g. refl) may (λ opened. opened) tt fault
      (λ told goes.
      let own : own_of start (Ended gid how ∷ past) gid ≡ Halts true ∷ own_of start past gid =
      own_at gid (Halts true) (own_of start past gid) in
      let ended : is_ended (own_of start (Ended gid how ∷ past) gid) ≡ true = ap is_ended own in
      let gone = laws.ended start (Ended gid how ∷ past) gid (was.legal, may) ended in
      absurd (let f : true ≡ false = sym goes.goes ∙ gone in cc))
