-- How many bytes of a claim are let go, and of which download.
use Rattle.std.proofs.Common.{◌≡◌, inr, ⊎_elim, ◌≤◌, ℕ, zero, suc, Bool, true, false, cond, Some, None, List, [], ◌∷◌, refl, sym, ap, ◌∙◌, subst, arith}
use Rattle.std.specs.Prelude.{◌==◌, Contains, filter, map, min}
use Rattle.std.specs.List.{list_any}
use Rattle.std.proofs.lemmas.Bool.{eq-eqb, eqb-true}
use Rattle.std.proofs.lemmas.List.Folds.{list_any_at}
use Rattle.std.proofs.lemmas.Option.{slice_get_within}
use Rattle.dl_history.specs.StandingClaims.{standing_claims, stands_in}
use Rattle.dl_kinds.specs.declared.claims.Claim.{Claim}
use Rattle.dl_kinds.specs.declared.gid.Gid.{Gid}
use Rattle.dl_kinds.specs.declared.runs.Moment.{Moment}
use Rattle.dl_queue.specs.Calls.{added_place}
use Rattle.machine_core.specs.MachineViews.{place_in}
use Rattle.machine_core.specs.OwnParts.{own_of}
use Rattle.machine_core.specs.Replays.{download_of, is_download, queue_in, replay_of}
use Rattle.machine_core.specs.Starts.{Download, RunStart}
use Rattle.machine_core.specs.declared.events.Event.{Event}
use Rattle.machine_core.proofs.Homes.{place_same}
use Rattle.rate_limits.specs.Shared.{lesser_credit, levels_taken, longer_wait, shared_answer}
use Rattle.rate_tokens.specs.declared.bucket.Take.TheVariants.{Go, Hold}
use Rattle.engine_turns.specs.ClaimRows.{MoreRow, allowance, more_said, turn_credit}
use Rattle.engine_turns.specs.Levels.{downloads_of, homes_of, spending_of}
use Rattle.engine_turns.specs.Phases.{TurnStart}
use Rattle.engine_turns.specs.Standings.{IsHomeOf, OfClaim, RunStanding}
use Rattle.engine_turns.specs.declared.limits.TheConstants.{MAX_ALLOWANCE}
use Rattle.engine_turns.specs.declared.operations.Operation.TheVariants as operation
use Rattle.engine_turns.specs.declared.operations.Said.{Said}
use Rattle.engine_turns.specs.declared.operations.Said.TheVariants.{Allow, Hold as HoldSaid, Void}
use Rattle.engine_turns.proofs.Going.{added_are}
use Rattle.stored_run.specs.Granting.{IsPlaceOfClaim}
use Rattle.stored_run.specs.Steps.{DoesRow, turn_from}
use Rattle.stored_run.specs.declared.run.StoredView.{StoredView}
use Rattle.stored_run.proofs.Doing.{row_of_none}
use Rattle.engine_core.specs.Engines.{KeepsRates, past_of, standing_of, start_of}
use Rattle.engine_core.specs.Giving.{MakesRow}
use Rattle.engine_core.specs.declared.state.EngineState.{EngineState}
use Rattle.engine_core.proofs.Calm.{AreCalm, no_events}
use Rattle.std.proofs.lemmas.List.Elements.{All-nil}
use Rattle.engine_core.specs.Handing.{IsUnsettled}
use Rattle.engine_core.proofs.Given.{gives_spent, gives_unspent}

-- ---- the bucket of a download

pub place_added : (start : RunStart) (past : List Event) (gid : Gid)
    → added_place gid (queue_in start past).added ≡ place_in start past gid
place_added start past gid = ap (added_place gid) (added_are start past) ∙ place_same gid (replay_of start past).downloads

-- ---- the download of a claim

first_home : (P : Download → Bool) (gid : Gid) (bytes : ℕ) (d : Download) (ds : List Download) → P d ≡ true
    → ((x : Download) → P x ≡ true → x.gid ≡ gid) → download_of ds gid ≡ Some d
    → spending_of (map (λ (x : Download). x.gid) (filter P ds)) bytes ≡ Some (record { gid = gid; bytes = bytes })
first_home P gid bytes d [] is one found = absurd (let none : None ≡ Some d = found in cc)
first_home P gid bytes d (x ∷ ds) is one found = by (P x) refl (first_home P gid bytes d ds is one)
  where
    by : (b : Bool) → P x ≡ b
        → (download_of ds gid ≡ Some d
        → spending_of (map (λ (x : Download). x.gid) (filter P ds)) bytes ≡ Some (record { gid = gid; bytes = bytes }))
        → spending_of (map (λ (x : Download). x.gid) (filter P (x ∷ ds))) bytes ≡ Some (record { gid = gid; bytes = bytes })
    by true here rest =
        let same = one x here in
        rw here (ap (λ (g : Gid). Some (record { gid = g; bytes = bytes })) same)
    by false here rest = rw here (rest (behind (is_download gid x) refl))
      where
        behind : (b : Bool) → is_download gid x ≡ b → download_of ds gid ≡ Some d
        behind true at =
            let first : Some x ≡ Some d = rw at at found in
            let same : x ≡ d = cc in
            absurd (let no : false ≡ true = sym here ∙ (ap P same ∙ is) in cc)
        behind false at = rw at at found

-- a claim that passes a test
witness : (p : Claim → Bool) (xs : List Claim) → list_any p xs ≡ true
    → (x : Claim) × Contains xs x × (p x ≡ true)
witness p [] is = absurd (let no : false ≡ true = is in cc)
witness p (y ∷ xs) is = by (p y) refl (witness p xs)
  where
    by : (b : Bool) → p y ≡ b → (list_any p xs ≡ true → (x : Claim) × Contains xs x × (p x ≡ true))
        → (x : Claim) × Contains (y ∷ xs) x × (p x ≡ true)
    by true here rest = (y, (0, omega arith, refl), here)
    by false here rest =
        let w = rest (rw here at is) in
        (w.0, (suc w.1.0, (let within = w.1.1 in omega (arith, within)), w.1.2), w.2)

module _ (start : RunStart) (past : List Event) (id : ℕ) (d : Download) (claim : Claim)
    (there : Contains (standing_claims (own_of start past d.gid)) claim) (id_is : claim.id ≡ id)
    (found : download_of (downloads_of start past) d.gid ≡ Some d)
    (one : (gid : Gid) (twin : Claim) → Contains (standing_claims (own_of start past gid)) twin → twin.id ≡ id
    → gid ≡ d.gid) where
  pub spending_home : (bytes : ℕ) → spending_of (homes_of start past id) bytes ≡ Some (record { gid = d.gid; bytes = bytes })
  spending_home bytes =
      first_home (λ (x : Download). stands_in (own_of start past x.gid) id) d.gid bytes d (downloads_of start past)
      (list_any_at (λ (c : Claim). c.id == id) (standing_claims (own_of start past d.gid)) there.0 claim there.1
      (ap (λ (c : Claim). c.id == id) there.2 ∙ eq-eqb claim.id id id_is))
      (λ x is.
      let w = witness (λ (c : Claim). c.id == id) (standing_claims (own_of start past x.gid)) is in
      one x.gid w.0 w.1 (eqb-true w.0.id id w.2))
      found

-- ---- what is answered

said_hold : (at : TurnStart) (s : RunStanding) (gid : Gid) (want credit : ℕ) → 1 ≤ want → credit ≡ 0
    → HoldSaid (turn_credit at s gid).wait ≡ more_said at s gid want credit
said_hold at s gid zero credit some none = absurd (omega (arith, some))
said_hold at s gid (suc want) zero some none = refl
said_hold at s gid (suc want) (suc credit) some none = absurd (omega (arith, none))

said_allow : (at : TurnStart) (s : RunStanding) (gid : Gid) (want credit : ℕ) → 1 ≤ want → 1 ≤ credit
    → Allow (allowance at s gid want) ≡ more_said at s gid want credit
said_allow at s gid zero credit some more = absurd (omega (arith, some))
said_allow at s gid (suc want) zero some more = absurd (omega (arith, more))
said_allow at s gid (suc want) (suc credit) some more = refl

positive : (n : ℕ) → (n == 0) ≡ false → 1 ≤ n
positive zero is = absurd (let no : true ≡ false = is in cc)
positive (suc n) is = omega arith

-- what a take lets go
pub record LetsGo (want credit bytes : ℕ) : Type 0 where
  pub some : 1 ≤ credit
  pub bytes_are : bytes ≡ min want (min MAX_ALLOWANCE credit)

pub lets_go_of : (want most credit wait bytes : ℕ) → most ≡ min want MAX_ALLOWANCE
    → Go bytes ≡ (let n = min most credit in cond (n == 0) (Hold wait) (Go n)) → LetsGo want credit bytes
lets_go_of want most credit wait bytes most_is is = by (min most credit == 0) refl
  where
    by : (b : Bool) → (min most credit == 0) ≡ b → LetsGo want credit bytes
    by true none = absurd (let no : Go bytes ≡ Hold wait = (rw none at is) in cc)
    by false none =
        let same : Go bytes ≡ Go (min most credit) = (rw none at is) in
        let bytes_is : bytes ≡ min most credit = cc in
        let more = positive (min most credit) none in
        record { some = omega (arith, more); bytes_are = omega (arith, bytes_is, most_is) }

pub holds_of : (want most credit wait ms : ℕ) → most ≡ min want MAX_ALLOWANCE → 1 ≤ want
    → Hold ms ≡ (let n = min most credit in cond (n == 0) (Hold wait) (Go n)) → (credit ≡ 0) × (ms ≡ wait)
holds_of want most credit wait ms most_is some is = by (min most credit == 0) refl
  where
    by : (b : Bool) → (min most credit == 0) ≡ b → (credit ≡ 0) × (ms ≡ wait)
    by true none =
        let same : Hold ms ≡ Hold wait = (rw none at is) in
        let zero_is = eqb-true (min most credit) 0 none in
        (omega (arith, zero_is, most_is, some), cc)
    by false none = absurd (let no : Hold ms ≡ Go (min most credit) = (rw none at is) in cc)

-- ---- more bytes of a claim

pub more_calm : (at : TurnStart) (s : RunStanding) (id want : ℕ) (events : List Event) (said : Said)
    → OfClaim at s id (MoreRow at s want) events said → AreCalm events
more_calm at s id want events said is = ⊎_elim (λ none. no_events events none.1.0)
    (λ (home : (download : Download) × (claim : Claim) × _ × MoreRow at s want download claim events said).
    no_events events home.3.0) is

said_void : (at : TurnStart) (s : RunStanding) (gid : Gid) (want credit : ℕ) → want ≡ 0
    → Void ≡ more_said at s gid want credit
said_void at s gid zero credit none = refl
said_void at s gid (suc want) credit none = absurd (omega (arith, none))

-- none are wanted
pub void_row : {D : Type 0} (r : StoredView D) (f id want place : ℕ) → want ≡ 0 → IsPlaceOfClaim r.machine id place
    → DoesRow (λ at s. OfClaim at s id (MoreRow at s want)) r f r f Void
void_row r f id want place none home = row_of_none (λ at s. OfClaim at s id (MoreRow at s want)) r f Void
    (λ from s standing. inr (
      home.download,
      home.claim,
      subst (λ (p : List Event). IsHomeOf r.machine.start p id home.download home.claim) (sym standing) home.home,
      (
        refl,
        said_void (turn_from r from) s home.download.gid want (turn_credit (turn_from r from) s home.download.gid).bytes none,
      ),
    ))

module _ {D : Type 0} (now : Moment) (mid new : EngineState D) (id want place f : ℕ)
    (home : IsPlaceOfClaim mid.run.machine id place) (rates : KeepsRates mid) (some : 1 ≤ want) (run : new.run ≡ mid.run)
    (handed : new.handed ≡ mid.handed) where
  abbrev gid : Gid
  gid = home.download.gid

  abbrev at : ℕ
  at = mid.run.now.0

  place_is : place ≡ added_place gid (queue_in (start_of mid) (past_of mid)).added
  place_is = home.first ∙ sym (place_added (start_of mid) (past_of mid) gid)

  pub more_allowed : (bytes : ℕ) → Go bytes ≡ shared_answer mid.limits place (min want MAX_ALLOWANCE) at
      → new.limits ≡ levels_taken place at (Go bytes) mid.limits
      → MakesRow (operation.More id want now) (λ at s. OfClaim at s id (MoreRow at s want)) mid f new f (Allow bytes)
  more_allowed bytes answer limits =
      let credit = lesser_credit mid.limits place at in
      let lets = lets_go_of want (min want MAX_ALLOWANCE) credit (longer_wait mid.limits place at) bytes refl answer in
      let same : credit ≡ lesser_credit mid.limits (added_place gid (queue_in (start_of mid) (past_of mid)).added) at =
      ap (λ (n : ℕ). lesser_credit mid.limits n at) place_is in
      gives_spent (operation.More id want now) (λ at s. OfClaim at s id (MoreRow at s want)) mid new f f (Allow bytes) []
      (no_events [] refl) rates (ap (λ r. r.machine.start) run) (ap (λ r. r.now) run) (ap (λ r. r.machine.past) run)
      (λ from below. inr (
        home.download,
        home.claim,
        home.home,
        (
          refl,
          ap Allow (lets.bytes_are ∙ ap (λ (c : ℕ). min want (min MAX_ALLOWANCE c)) same)
              ∙ said_allow (turn_from mid.run from) (standing_of mid) gid want
              (turn_credit (turn_from mid.run from) (standing_of mid) gid).bytes some
              (subst (λ (c : ℕ). 1 ≤ c) same lets.some),
        ),
      )) refl (ap (λ h. h.pieces) handed)
      (All-nil (IsUnsettled (start_of mid) (past_of mid))) gid bytes place limits
      (spending_home (start_of mid) (past_of mid) id home.download home.claim home.home.stands home.home.id_is home.home.added
      home.one bytes) home.first (slice_get_within (downloads_of (start_of mid) (past_of mid)) place home.download home.there)

  pub more_held : (ms : ℕ) → Hold ms ≡ shared_answer mid.limits place (min want MAX_ALLOWANCE) at
      → new.limits ≡ mid.limits
      → MakesRow (operation.More id want now) (λ at s. OfClaim at s id (MoreRow at s want)) mid f new f (HoldSaid ms)
  more_held ms answer limits =
      let credit = lesser_credit mid.limits place at in
      let holds = holds_of want (min want MAX_ALLOWANCE) credit (longer_wait mid.limits place at) ms refl some answer in
      let same : credit ≡ lesser_credit mid.limits (added_place gid (queue_in (start_of mid) (past_of mid)).added) at =
      ap (λ (n : ℕ). lesser_credit mid.limits n at) place_is in
      gives_unspent (operation.More id want now) (λ at s. OfClaim at s id (MoreRow at s want)) mid new f f (HoldSaid ms) []
      (no_events [] refl) rates (ap (λ r. r.machine.start) run) (ap (λ r. r.now) run) (ap (λ r. r.machine.past) run)
      (λ from below. inr (
        home.download,
        home.claim,
        home.home,
        (
          refl,
          ap HoldSaid (holds.1 ∙ ap (λ (n : ℕ). longer_wait mid.limits n at) place_is)
              ∙ said_hold (turn_from mid.run from) (standing_of mid) gid want
              (turn_credit (turn_from mid.run from) (standing_of mid) gid).bytes some (sym same ∙ holds.0),
        ),
      )) refl (ap (λ h. h.pieces) handed)
      (All-nil (IsUnsettled (start_of mid) (past_of mid))) limits refl
