-- What is kept of a run and its disk after a write of open blocks.
use Rattle.std.proofs.Common.{◌≡◌, ◌≢◌, inl, inr, ⊎_elim, ℕ, ◌<◌, ◌≤◌, ◌+◌, ◌-◌, ◌^◌, Bool, true, false, Option, Some, None, List, ◌∷◌, ◌++◌, length, get_or, slice_get, refl, sym, ap, ◌∙◌, subst, arith}
use Rattle.std.specs.Prelude.{IsTrue}
use Rattle.std.specs.List.{filter_map}
use Rattle.std.specs.Option.{option_and_then}
use Rattle.std.proofs.lemmas.Bool.{cases_eq, cases_lt}
use Rattle.std.proofs.lemmas.List.Elements.{All-weaker}
use Rattle.std.proofs.lemmas.Option.{slice_get_past, slice_get_read}
use Rattle.control_file.specs.Wants.{IsWant}
use Rattle.control_file.specs.declared.want.Want.{Want}
use Rattle.dl_disk.specs.State.{DiskState}
use Rattle.dl_history.specs.OwnEvents.{OwnEvent, Halts, Lands}
use Rattle.dl_history.specs.OwnLegal.{LegalOwn}
use Rattle.dl_history.specs.PayloadParts.{is_ended, is_opened}
use Rattle.dl_kinds.specs.PlanLaws.{BlocksAreOfPieces, BlocksFollow}
use Rattle.dl_kinds.specs.declared.claims.Claim.{Claim}
use Rattle.dl_kinds.specs.declared.gid.Gid.{Gid}
use Rattle.dl_kinds.specs.declared.runs.Moment.{Moment}
use Rattle.dl_kinds.specs.declared.runs.Run.{Run}
use Rattle.dl_kinds.specs.Counts.{Rose}
use Rattle.dl_history.specs.Listings.{Listing}
use Rattle.dl_kinds.specs.Plan.{block_end, block_start}
use Rattle.durable_progress.specs.HeldLaws.{ListsNoneOf}
use Rattle.durable_progress.specs.HeldSteps.{StaysHeld}
use Rattle.machine_core.specs.DownloadWants.{HasWant}
use Rattle.machine_core.specs.MachineViews.{IsLandingOf, MachineView}
use Rattle.machine_core.specs.Openings.{lengths_of_plan}
use Rattle.machine_core.specs.OwnParts.{PayloadLengths, own_of, with_own}
use Rattle.machine_core.specs.RunLegal.{IsLaterThan, IsNewFault, MayFollow, MayOwn, disk_fault_of, download_in, known_lengths}
use Rattle.machine_core.specs.Starts.{Download, RunStart}
use Rattle.machine_core.specs.declared.ends.End.TheVariants as end
use Rattle.machine_core.specs.declared.events.Event.{Event}
use Rattle.machine_core.specs.declared.events.Event.TheVariants.{Ended, Landed}
use Rattle.resume_core.specs.Openings.{KeepsBesides}
use Rattle.resume_core.specs.Runs.{IsBlockOf, TornRun, run_len}
use Rattle.resume_core.specs.Sharing.{share_names}
use Rattle.stored_run.specs.Landings.{IsOneUnder}
use Rattle.stored_run.specs.RunFollows.{RunFollows}
use Rattle.stored_run.specs.Steps.{StoresGid, StoresOn}
use Rattle.stored_run.specs.Stored.{AreFaultsWithin, IsStored, IsStoredWith, saved_listing}
use Rattle.stored_run.specs.Telling.{ClaimGoes}
use Rattle.stored_run.specs.Views.{GoesOpened, kept_want, kept_want_of, own_in}
use Rattle.stored_run.specs.declared.run.StoredView.{StoredView}
use Rattle.stored_run.proofs.Claimed.{active_goes_on, claim_goes}
use Rattle.stored_run.proofs.Failing.{OpenedWant, open_is_opened, opened_want}
use Rattle.stored_run.proofs.Kept.{EventKeeps, after_event, halts, lands, own_at, own_where, plain_opened, plain_stored, stored_beside}
use Rattle.stored_run.proofs.Own.{own_legal}
use Rattle.stored_run.proofs.Written.{is_in_run, landing_stored}

-- ---- the event

-- the event of a landing is that of the claim
pub landing_one : (m : MachineView) (gid : Gid) (claim : Claim) (run : Run) (now : Moment) (e : Event)
    → IsOneUnder m gid claim → IsLandingOf claim.id run now e → MayFollow m.start m.past e
    → e ≡ Landed gid claim.id claim.mirror run now
landing_one m gid claim run now e one is may =
    let own : MayOwn m.start m.past is.0 (Lands claim.id is.1 run) × IsLaterThan m.past now =
    subst (λ (x : Event). MayFollow m.start m.past x) is.2 may in
    let same = one is.0 own.0.may.claim own.0.may.stands own.0.may.id_is in
    let mirror : is.1 ≡ claim.mirror = sym own.0.may.mirror_is ∙ ap (λ (c : Claim). c.mirror) same.1 in
    is.2 ∙ (ap (λ (g : Gid). Landed g claim.id is.1 run now) same.0
    ∙ ap (λ (n : ℕ). Landed gid claim.id n run now) mirror)

-- ---- counts of faults

-- a count that rose is a new one
pub new_fault : (past : List Event) (before count : ℕ) → AreFaultsWithin before past → Rose before count → count < 2 ^ 64
    → IsNewFault past count
new_fault past before count within rose fits = ⊎_elim
    (λ (less : count < 2 ^ 64 - 1). inl (All-weaker (λ (n : ℕ). n ≤ before) (λ (n : ℕ). n < count)
    (λ n le. omega (arith, le, less, rose)) (filter_map disk_fault_of past) within))
    (λ (most : 2 ^ 64 - 1 ≤ count). inr (omega (arith, most, fits)))
    (cases_lt count (2 ^ 64 - 1))

pub fault_may : (start : RunStart) (past : List Event) (gid : Gid) (download : Download) (before count : ℕ)
    → download_in start past gid ≡ Some download → is_ended (own_of start past gid) ≡ false
    → AreFaultsWithin before past → Rose before count → count < 2 ^ 64
    → MayFollow start past (Ended gid (end.Disk count))
fault_may start past gid download before count added going within rose fits = record {
  own = record { download = download; added = added; may = λ ends. going };
  cause = new_fault past before count within rose fits;
}

-- ---- the run

-- what a write of the run does on the disk, whatever comes of it
pub record WritesLanding (want : Want) (run : Run) (own : List OwnEvent) (old new : DiskState) : Type 0 where
  pub besides : KeepsBesides want old new
  pub held : StaysHeld want (saved_listing want own) old new
  pub tears : TornRun want run old.seen new.seen

some_same : (v w : Want) → Some v ≡ Some w → v ≡ w
some_same v w is = cc

module _ (laws : RunFollows) (follow : BlocksFollow) (of_pieces : BlocksAreOfPieces) (tells : Bool) (before after : ℕ)
    (old new : DiskState) (start : RunStart) (past : List Event) (wants : List (Option Want)) (now : Moment)
    (was : IsStoredWith tells before old start past wants now) (more : before ≤ after) (gid : Gid) (id mirror : ℕ)
    (run : Run) (may : MayFollow start past (Landed gid id mirror run now)) where
  landing_own : MayOwn start past gid (Lands id mirror run) × IsLaterThan past now
  landing_own = may

  pub landing_goes : ClaimGoes start past gid
  landing_goes = claim_goes laws start past gid landing_own.0.may.claim was.legal landing_own.0.may.stands

  first_block : IsBlockOf run run.first
  first_block = let some = landing_own.0.may.some in record { from = omega arith; before = omega arith }

  pub landing_opened : is_opened (own_of start past gid) ≡ true
  landing_opened =
      let l = known_lengths start past gid in
      let land = landing_own.0.may in
      open_is_opened laws l.total l.piece_len (own_of start past gid) land.claim run.first
      (laws.legal start past gid was.legal) land.stands (land.open_in run.first (is_in_run run run.first first_block))

  pub landing_going : GoesOpened start past gid
  landing_going = record {
    opened = landing_opened;
    goes = active_goes_on start past gid landing_goes.active;
  }

  -- what is kept of it, and what was done on the disk for that
  module _ (want : Want) (kept : kept_want wants start past gid ≡ Some want)
      (done : IsTrue tells → WritesLanding want run (own_of start past gid) old new) where
    has_want : HasWant start past gid want
    has_want = was.wants_are.has gid want kept

    want_is : IsWant want
    want_is = was.wants_are.sound gid want kept

    pub landing_legal : LegalOwn want.plan.total want.plan.piece_len (own_of start past gid)
    landing_legal = own_legal laws start past gid want was.legal has_want

    -- the others share no name with it
    no_name : (other : Gid) (w : Want) → GoesOpened start past other → other ≢ gid
        → kept_want wants start past other ≡ Some w → share_names want w ≡ false
    no_name other w goes apart is = by (share_names want w) refl
      where
        by : (b : Bool) → share_names want w ≡ b → share_names want w ≡ false
        by true shares = absurd (apart (sym (was.apart gid other want w landing_going goes kept is shares)))
        by false shares = shares

    -- each download is stored still
    pub still_stored : IsTrue tells → (other : Gid) (w : Want) → GoesOpened start past other
        → kept_want wants start past other ≡ Some w → IsStored w (own_of start past other) new
    still_stored told other w goes is = ⊎_elim
        (λ (same : other.0 ≡ gid.0).
        let here : other ≡ gid = ap (λ (n : ℕ). record { 0 = n }) same in
        let same_want : w ≡ want = some_same w want
        (sym is ∙ (ap (λ (g : Gid). kept_want wants start past g) here ∙ kept)) in
        let stored = was.stored told other w goes is in
        let write = done told in
        let here_stored : IsStored want (own_of start past gid) old =
        subst (λ (v : Want). IsStored v (own_of start past gid) old) same_want
        (subst (λ (g : Gid). IsStored w (own_of start past g) old) here stored) in
        let there = landing_stored laws follow of_pieces want (own_of start past gid) want_is landing_legal id mirror
        run landing_own.0.may old new write.besides.passes.later write.held write.tears here_stored in
        subst (λ (g : Gid). IsStored w (own_of start past g) new) (sym here)
        (subst (λ (v : Want). IsStored v (own_of start past gid) new) (sym same_want) there))
        (λ (apart : other.0 ≢ gid.0).
        stored_beside laws want w (own_of start past other) old new
        (no_name other w goes (λ same. apart (ap (λ (g : Gid). g.0) same)) is) (done told).besides
        (was.stored told other w goes is))
        (cases_eq other.0 gid.0)

    -- the blocks are counted
    pub landing_keeps : EventKeeps tells before after old new start past wants now (Landed gid id mirror run now)
    landing_keeps = record {
      may = may;
      none = λ g is. own_where (λ (own : List OwnEvent). is_opened own ≡ true → is_opened (own_of start past g) ≡ true) gid g
          (Lands id mirror run) (own_of start past g)
          (λ same opened. plain_opened (Lands id mirror run) (own_of start past g) (lands id mirror run) opened)
          (λ opened. opened) is;
      moment = omega arith;
      more = more;
      fault = tt;
      still = λ told g w goes went is stored.
          let still = still_stored told g w went is in
          own_where (λ (own : List OwnEvent). IsStored w own new) gid g (Lands id mirror run) (own_of start past g)
          (λ same. plain_stored w (Lands id mirror run) (own_of start past g) new (lands id mirror run) still) still;
    }

    pub landed_kept : IsStoredWith tells after new start (Landed gid id mirror run now ∷ past) wants now
    landed_kept = after_event laws tells before after old new start past wants now (Landed gid id mirror run now) was landing_keeps

    -- the disk failed
    pub failing_keeps : (count : ℕ) → Rose before count → count < 2 ^ 64 → count ≤ after
        → EventKeeps tells before after old new start past wants now (Ended gid (end.Disk count))
    failing_keeps count rose fits less = record {
      may = fault_may start past gid landing_goes.download before count landing_goes.added landing_goes.going was.counted rose fits;
      none = λ g is. own_where (λ (own : List OwnEvent). is_opened own ≡ true → is_opened (own_of start past g) ≡ true) gid g
          (Halts true) (own_of start past g)
          (λ same opened. plain_opened (Halts true) (own_of start past g) (halts true) opened)
          (λ opened. opened) is;
      moment = tt;
      more = more;
      fault = less;
      still = λ told g w goes went is stored.
          let still = still_stored told g w went is in
          own_where (λ (own : List OwnEvent). IsStored w own new) gid g (Halts true) (own_of start past g)
          (λ same. plain_stored w (Halts true) (own_of start past g) new (halts true) still) still;
    }

    pub failed_kept : (count : ℕ) → Rose before count → count < 2 ^ 64 → count ≤ after
        → IsStoredWith tells after new start (Ended gid (end.Disk count) ∷ past) wants now
    failed_kept count rose fits less =
        after_event laws tells before after old new start past wants now (Ended gid (end.Disk count)) was
        (failing_keeps count rose fits less)

    -- memory ran out
    pub starved_kept : IsStoredWith tells after new start past wants now
    starved_kept = record {
      legal = was.legal;
      later = was.later;
      wants_are = was.wants_are;
      counted = All-weaker (λ (n : ℕ). n ≤ before) (λ (n : ℕ). n ≤ after) (λ n le. omega (arith, le, more))
          (filter_map disk_fault_of past) was.counted;
      apart = was.apart;
      stored = λ told other w goes is. still_stored told other w goes is;
    }

-- ---- the want of the download

pub landing_want : RunFollows → BlocksFollow → BlocksAreOfPieces → (tells : Bool) (faults : ℕ) (disk : DiskState)
    (start : RunStart) (past : List Event) (wants : List (Option Want)) (now : Moment)
    → IsStoredWith tells faults disk start past wants now → (gid : Gid) (id mirror : ℕ) (run : Run)
    → MayFollow start past (Landed gid id mirror run now) → OpenedWant start past wants gid
landing_want laws follow of_pieces tells faults disk start past wants now was gid id mirror run may =
    opened_want start past wants gid was.wants_are
    (landing_opened laws follow of_pieces tells faults faults disk disk start past wants now was (omega arith) gid id mirror
    run may)

-- a want that is kept stands in the list, at the place of its download
pub kept_within : (wants : List (Option Want)) (n : ℕ) (want : Want)
    → option_and_then (λ (w : Option Want). w) (slice_get wants n) ≡ Some want → n < length wants
kept_within wants n want kept = ⊎_elim (λ within. within)
    (λ (past : length wants ≤ n).
    let none = ap (option_and_then (λ (w : Option Want). w)) (slice_get_past wants n past) in
    absurd (let f : None ≡ Some want = sym none ∙ kept in cc))
    (cases_lt n (length wants))

pub kept_there : (wants : List (Option Want)) (n : ℕ) (want : Want) (x : Option Want)
    → option_and_then (λ (w : Option Want). w) (slice_get wants n) ≡ Some want → x ≡ get_or wants n x → x ≡ Some want
kept_there wants n want x kept is =
    let there = slice_get_read wants (length wants) n x refl (kept_within wants n want kept) is in
    sym (ap (option_and_then (λ (w : Option Want). w)) there) ∙ kept

-- ---- from the want that the code reads, and to the run that it leaves

pub writes_same : (read want : Want) (run : Run) (own : List OwnEvent) (old new : DiskState) → read ≡ want
    → ListsNoneOf (saved_listing want own) run → KeepsBesides read old new
    → ((listing : Listing) → ListsNoneOf listing run → StaysHeld read listing old new)
    → TornRun read run old.seen new.seen → WritesLanding want run own old new
writes_same read want run own old new same none besides held tears = record {
  besides = subst (λ (v : Want). KeepsBesides v old new) same besides;
  held = subst (λ (v : Want). StaysHeld v (saved_listing want own) old new) same (held (saved_listing want own) none);
  tears = subst (λ (v : Want). TornRun v run old.seen new.seen) same tears;
}

pub run_len_of : (l : PayloadLengths) (want : Want) (run : Run) (len : ℕ) → l ≡ lengths_of_plan want.plan
    → block_start l.piece_len run.first + len ≡ block_end l.total l.piece_len (run.first + run.count - 1)
    → len ≡ run_len want.plan run
run_len_of l want run len same is =
    let there : block_start want.plan.piece_len run.first + len
    ≡ block_end want.plan.total want.plan.piece_len (run.first + run.count - 1) =
    subst (λ (k : PayloadLengths). block_start k.piece_len run.first + len
    ≡ block_end k.total k.piece_len (run.first + run.count - 1)) same is in
    len_of (block_start want.plan.piece_len run.first) len
    (block_end want.plan.total want.plan.piece_len (run.first + run.count - 1)) there
  where
    len_of : (start n end : ℕ) → start + n ≡ end → n ≡ end - start
    len_of start n end is = omega arith

pub moved_to : (tells : Bool) (faults : ℕ) (disk : DiskState) (m new : MachineView) (wants : List (Option Want))
    (now : Moment) (e : Event) → new.past ≡ e ∷ m.past → new.start ≡ m.start
    → IsStoredWith tells faults disk m.start (e ∷ m.past) wants now
    → IsStoredWith tells faults disk new.start new.past wants now
moved_to tells faults disk m new wants now e past start is =
    subst (λ (s : RunStart). IsStoredWith tells faults disk s new.past wants now) (sym start)
    (subst (λ (p : List Event). IsStoredWith tells faults disk m.start p wants now) (sym past) is)

pub own_next : (m new : MachineView) (gid : Gid) (x : OwnEvent) (e : Event) → new.past ≡ e ∷ m.past
    → new.start ≡ m.start
    → own_of m.start (e ∷ m.past) gid ≡ with_own gid gid x (own_of m.start m.past gid)
    → own_of new.start new.past gid ≡ x ∷ own_of m.start m.past gid
own_next m new gid x e past start own =
    ap (λ (s : RunStart). own_of s new.past gid) start
    ∙ (ap (λ (p : List Event). own_of m.start p gid) past ∙ (own ∙ own_at gid x (own_of m.start m.past gid)))

-- what was done for the want that is kept is what was done for the download
pub stores_view : {D : Type 0} (state : D → DiskState) (r v new : StoredView D) (gid : Gid) (w : Want)
    (later : List OwnEvent) → r ≡ v → kept_want_of r gid ≡ Some w → own_in new gid ≡ later ++ own_in r gid
    → StoresOn w (own_in r gid) (later ++ own_in r gid) (state r.disk) (state new.disk)
    → StoresGid gid v new (state v.disk) (state new.disk)
stores_view state r v new gid w later same kept own stores =
    subst (λ (u : StoredView _). StoresGid gid u new (state u.disk) (state new.disk)) same
    (λ want is.
    let here = some_same w want (sym kept ∙ is) in
    subst (λ (x : Want). StoresOn x (own_in r gid) (own_in new gid) (state r.disk) (state new.disk)) here
    (subst (λ (os : List OwnEvent). StoresOn w (own_in r gid) os (state r.disk) (state new.disk)) (sym own) stores))
