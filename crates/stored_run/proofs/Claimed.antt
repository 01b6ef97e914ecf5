-- What holds of the download of a claim that stands.
use Rattle.std.proofs.Common.{◌≡◌, ℕ, Bool, true, false, cond, Option, Some, None, List, [], ◌∷◌, ◌<◌, length, refl, ap, subst, arith}
use Rattle.std.specs.Prelude.{◌==◌, Contains}
use Rattle.std.specs.List.{cons_option, list_any}
use Rattle.std.proofs.lemmas.Bool.{eqb-true, lt-ltb}
use Rattle.dl_kinds.specs.declared.claims.Claim.{Claim}
use Rattle.dl_kinds.specs.declared.gid.Gid.{Gid}
use Rattle.dl_history.specs.OwnEvents.{OwnEvent, Opens, Lands, Settles, Clears, Loses, Sizes, Saves, Checks, Halts}
use Rattle.dl_history.specs.StandingClaims.{claim_in, granted_claims, standing_claims}
use Rattle.dl_queue.specs.Places.{active_place}
use Rattle.machine_core.specs.MachineViews.{HasMarkRoomAt, MachineView}
use Rattle.machine_core.specs.OwnParts.{halts_by, own_of}
use Rattle.machine_core.specs.Replays.{is_active_in, is_same_gid, queue_in}
use Rattle.machine_core.specs.RunLegal.{IsLegal, download_in, goes_on_in}
use Rattle.machine_core.specs.Starts.{Download, RunStart}
use Rattle.machine_core.specs.TurnRooms.{HasTurnMarkRoom}
use Rattle.machine_core.specs.declared.events.Event.{Event}
use Rattle.machine_core.specs.declared.events.Event.TheVariants.{Called, Opened, Sized, Claimed, Landed, Settled, Cleared, Lost, Checked, Saved, Ended, Left, Stopped}
use Rattle.machine_core.proofs.Called.{halted_granted}
use Rattle.machine_core.proofs.Homes.{standing_granted}
use Rattle.stored_run.specs.RunFollows.{RunFollows}
use Rattle.stored_run.specs.Telling.{ClaimGoes}

-- ---- it was added

abbrev pub IsAdded : RunStart → List Event → Gid → Type 0
IsAdded start past gid = (d : Download) × (download_in start past gid ≡ Some d)

added_more : RunFollows → (start : RunStart) (past : List Event) (e : Event) (gid : Gid) → IsAdded start past gid
    → IsAdded start (e ∷ past) gid
added_more laws start past e gid is = (is.0, laws.downloads start past e gid is.0 is.1)

-- what is no grant leaves the claims that were granted
granted_where : (t : Bool) (x : OwnEvent) (own : List OwnEvent) → claim_in x ≡ None
    → granted_claims (cond t (x ∷ own) own) ≡ granted_claims own
granted_where true x own none = ap (λ (o : Option Claim). cons_option o (granted_claims own)) none
granted_where false x own none = refl

module _ (laws : RunFollows) (start : RunStart) (gid : Gid) (c : Claim) where
  -- a grant of the download
  grant_added : (past : List Event) (other : Gid) (claim : Claim) → IsAdded start past other
      → (Contains (granted_claims (own_of start past gid)) c → IsAdded start past gid)
      → Contains (granted_claims (own_of start (Claimed other claim ∷ past) gid)) c
      → IsAdded start (Claimed other claim ∷ past) gid
  grant_added past other claim added before there = by (is_same_gid gid other) refl
    where
      by : (b : Bool) → is_same_gid gid other ≡ b → IsAdded start (Claimed other claim ∷ past) gid
      by true is =
          let same : other ≡ gid = ap (λ (n : ℕ). record { 0 = n }) (eqb-true other.0 gid.0 is) in
          added_more laws start past (Claimed other claim) gid
          (subst (λ (g : Gid). IsAdded start past g) same added)
      by false is = added_more laws start past (Claimed other claim) gid (before (rw is at there))

  pub granted_added : (past : List Event) → IsLegal start past → Contains (granted_claims (own_of start past gid)) c
      → IsAdded start past gid
  granted_added [] legal there = absurd (let within = there.1 in omega arith)
  granted_added (Claimed other claim ∷ past) legal there =
      grant_added past other claim (legal.1.download, legal.1.added) (granted_added past legal.0) there
  granted_added (Called session asked now ∷ past) legal there =
      let e = Called session asked now in
      added_more laws start past e gid (granted_added past legal.0
      (subst (λ (cs : List Claim). Contains cs c)
      (halted_granted (halts_by start past e asked gid) (own_of start past gid)) there))
  granted_added (Opened other verified blocks now ∷ past) legal there =
      added_more laws start past (Opened other verified blocks now) gid (granted_added past legal.0
      (subst (λ (cs : List Claim). Contains cs c)
      (granted_where (is_same_gid gid other) (Opens verified blocks now) (own_of start past gid) refl) there))
  granted_added (Sized other id total ∷ past) legal there =
      added_more laws start past (Sized other id total) gid (granted_added past legal.0
      (subst (λ (cs : List Claim). Contains cs c)
      (granted_where (is_same_gid gid other) (Sizes id total) (own_of start past gid) refl) there))
  granted_added (Landed other id mirror run now ∷ past) legal there =
      added_more laws start past (Landed other id mirror run now) gid (granted_added past legal.0
      (subst (λ (cs : List Claim). Contains cs c)
      (granted_where (is_same_gid gid other) (Lands id mirror run) (own_of start past gid) refl) there))
  granted_added (Settled other piece right giver ∷ past) legal there =
      added_more laws start past (Settled other piece right giver) gid (granted_added past legal.0
      (subst (λ (cs : List Claim). Contains cs c)
      (granted_where (is_same_gid gid other) (Settles piece right giver) (own_of start past gid) refl) there))
  granted_added (Cleared other piece ∷ past) legal there =
      added_more laws start past (Cleared other piece) gid (granted_added past legal.0
      (subst (λ (cs : List Claim). Contains cs c)
      (granted_where (is_same_gid gid other) (Clears piece) (own_of start past gid) refl) there))
  granted_added (Lost other id mirror piece mark ∷ past) legal there =
      added_more laws start past (Lost other id mirror piece mark) gid (granted_added past legal.0
      (subst (λ (cs : List Claim). Contains cs c)
      (granted_where (is_same_gid gid other) (Loses id mirror piece mark) (own_of start past gid) refl) there))
  granted_added (Checked other right ∷ past) legal there =
      added_more laws start past (Checked other right) gid (granted_added past legal.0
      (subst (λ (cs : List Claim). Contains cs c)
      (granted_where (is_same_gid gid other) (Checks right) (own_of start past gid) refl) there))
  granted_added (Saved other now ∷ past) legal there =
      added_more laws start past (Saved other now) gid (granted_added past legal.0
      (subst (λ (cs : List Claim). Contains cs c)
      (granted_where (is_same_gid gid other) (Saves now) (own_of start past gid) refl) there))
  granted_added (Ended other how ∷ past) legal there =
      added_more laws start past (Ended other how) gid (granted_added past legal.0
      (subst (λ (cs : List Claim). Contains cs c)
      (granted_where (is_same_gid gid other) (Halts true) (own_of start past gid) refl) there))
  granted_added (Left ∷ past) legal there = added_more laws start past Left gid (granted_added past legal.0 there)
  granted_added (Stopped ∷ past) legal there =
      added_more laws start past Stopped gid (granted_added past legal.0 there)

-- ---- it is active, and hasn't ended

none_stands : {P : Type 0} (own : List OwnEvent) (c : Claim) → standing_claims own ≡ []
    → Contains (standing_claims own) c → P
none_stands own c none there =
    let no : Contains [] c = subst (λ (cs : List Claim). Contains cs c) none there in
    absurd (let within = no.1 in omega arith)

active_claim : RunFollows → (start : RunStart) (past : List Event) (gid : Gid) (c : Claim) → IsLegal start past
    → Contains (standing_claims (own_of start past gid)) c → is_active_in start past gid ≡ true
active_claim laws start past gid c legal there = by (is_active_in start past gid) refl
  where
    by : (b : Bool) → is_active_in start past gid ≡ b → is_active_in start past gid ≡ true
    by true is = is
    by false is = none_stands (own_of start past gid) c (laws.idle start past gid legal is) there

pub claim_goes : RunFollows → (start : RunStart) (past : List Event) (gid : Gid) (c : Claim) → IsLegal start past
    → Contains (standing_claims (own_of start past gid)) c → ClaimGoes start past gid
claim_goes laws start past gid c legal there =
    let added = granted_added laws start gid c past legal (standing_granted (own_of start past gid) c there) in
    let active = active_claim laws start past gid c legal there in
    record {
      download = added.0;
      added = added.1;
      active = active;
      going = laws.going start past gid legal active;
    }

-- so there is room for a mark of it
pub mark_room_at : RunFollows → (m : MachineView) (id : ℕ) → IsLegal m.start m.past → HasTurnMarkRoom m
    → HasMarkRoomAt m id
mark_room_at laws m id legal room gid claim stands =
    let goes = claim_goes laws m.start m.past gid claim legal stands.stands in
    let has = room gid goes.active in
    omega arith

-- ---- what is active goes on

place_within : (g : Gid) (xs : List Gid) → list_any (is_same_gid g) xs ≡ true
    → active_place g xs < length xs
place_within g [] is = absurd cc
place_within g (x ∷ xs) is = by (x.0 == g.0) refl (place_within g xs)
  where
    by : (b : Bool) → (x.0 == g.0) ≡ b → (list_any (is_same_gid g) xs ≡ true → active_place g xs < length xs)
        → active_place g (x ∷ xs) < length (x ∷ xs)
    by true here rest = rw here (omega arith)
    by false here rest =
        let less = rest (rw here at is) in
        rw here (omega arith)

pub active_goes_on : (start : RunStart) (past : List Event) (gid : Gid) → is_active_in start past gid ≡ true
    → goes_on_in start past gid ≡ true
active_goes_on start past gid is =
    let queue = queue_in start past in
    rw (lt-ltb (active_place gid queue.active) (length queue.active) (place_within gid queue.active is)) refl
