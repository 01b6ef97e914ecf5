-- Bytes of payloads that are the same after a call.
use Rattle.std.proofs.Common.{◌≡◌, ◌≢◌, ◌⊎◌, ⊎_elim, inl, inr, ℕ, ◌+◌, ◌-◌, ◌<◌, ◌≤◌, zero, suc, Bool, Some, List, [], ◌∷◌, ◌++◌, length, get_or, drop, slice_get, take, refl, sym, ap, ◌∙◌, subst, arith, true}
use Rattle.std.specs.Prelude.{Contains}
use Rattle.std.proofs.lemmas.Bool.{cases_lt}
use Rattle.std.proofs.lemmas.List.{append_assoc, take-append-drop}
use Rattle.std.proofs.lemmas.List.Elements.{Contains-append_cases, Contains-append_left, Contains-append_right, Contains-push}
use Rattle.control_file.specs.Wants.{IsWant}
use Rattle.control_file.specs.declared.want.Want.{Want}
use Rattle.dl_disk.specs.Files.{Files}
use Rattle.dl_disk.specs.State.{DiskState}
use Rattle.dl_history.specs.StandingClaims.{is_open_since, standing_claims}
use Rattle.dl_kinds.specs.PlanLaws.{BlocksFollow}
use Rattle.dl_kinds.specs.declared.claims.Claim.{Claim}
use Rattle.dl_kinds.specs.declared.gid.Gid.{Gid}
use Rattle.dl_kinds.specs.declared.plan.Plan.{Plan}
use Rattle.dl_kinds.specs.declared.runs.Run.{Run}
use Rattle.dl_kinds.specs.Lists.{part_at}
use Rattle.engine_turns.specs.ClaimRows.{DeliveryPhase}
use Rattle.engine_turns.specs.Phases.{AfterDisk, BreaksOff, LandingsPhase, TurnStart}
use Rattle.engine_turns.specs.Standings.{AnswersUnlessStarved}
use Rattle.engine_turns.specs.Told.{history_after}
use Rattle.engine_turns.specs.declared.operations.Said.{Said}
use Rattle.engine_turns.specs.declared.operations.Said.TheVariants.{NoMemory}
use Rattle.engine_turns.specs.declared.outcome.Outcome.{Outcome}
use Rattle.engine_turns.specs.declared.outcome.Outcome.TheVariants.{Over, Starved, Went}
use Rattle.machine_core.specs.Claiming.{AreOpenIn}
use Rattle.machine_core.specs.Openings.{lengths_of_plan}
use Rattle.machine_core.specs.OwnParts.{PayloadLengths}
use Rattle.machine_core.specs.Starts.{Download}
use Rattle.machine_core.specs.declared.ends.End.TheVariants as end
use Rattle.machine_core.specs.declared.events.Event.{Event}
use Rattle.machine_core.specs.declared.events.Event.TheVariants.{Ended, Landed}
use Rattle.payload_files.specs.Changes.{SameOutside}
use Rattle.resume_core.specs.Openings.{KeepsBesides}
use Rattle.resume_core.specs.Runs.{run_len}
use Rattle.resume_core.specs.States.{SamePayload}
use Rattle.resume_core.proofs.RunBytes.{block_in_run}
use Rattle.span_map.specs.Jobs.{IsRun, run_end, run_start}
use Rattle.stored_run.specs.Deliveries.{IsRunOfPayload}
use Rattle.stored_run.specs.RunFollows.{RunFollows}
use Rattle.stored_run.specs.Settlings.{CameBetween, payload_of}
use Rattle.stored_run.specs.Steps.{DoesPart, KeepsPayload, turn_from, StoresGid}
use Rattle.stored_run.specs.Stored.{IsStoredRun, AreWantsKept}
use Rattle.stored_run.specs.Views.{IsGoing, kept_want_of, own_in}
use Rattle.stored_run.specs.Writings.{IsByteOf, IsByteOfAny, IsDeliveredByte, IsOpenByte, KeepsBytesBut, KeepsPayloads, SavesPayloads}
use Rattle.stored_run.specs.declared.run.StoredView.{StoredView}
use Rattle.stored_run.proofs.Between.{after_front}
use Rattle.stored_run.proofs.Endings.{GoingFacts, apart_from, going_facts}
use Rattle.stored_run.proofs.LandedBytes.{payload_same}
use Rattle.stored_run.proofs.Landings.{landed_events, landings_events, taken_next}
use Rattle.stored_run.proofs.Left.{keeps_for}
use Rattle.stored_run.proofs.RunParts.{part_to, some_blocks_in}
use Rattle.stored_run.proofs.EachSaved.{HaltsBetween, apart_all}
use Rattle.stored_run.proofs.Failing.{opened_want}
use Rattle.dl_history.specs.PayloadParts.{is_opened}
use Rattle.resume_core.specs.Wants.{files_in}
use Rattle.stored_run.proofs.Touching.{same_or_apart}

-- ---- one byte

first_of_one : (xs : List ℕ) → slice_get (take 1 xs) 0 ≡ slice_get xs 0
first_of_one [] = refl
first_of_one (x ∷ xs) = refl

first_of_rest : (xs : List ℕ) (n : ℕ) → slice_get xs n ≡ slice_get (drop n xs) 0
first_of_rest xs zero = refl
first_of_rest [] (suc n) = refl
first_of_rest (x ∷ xs) (suc n) = first_of_rest xs n

byte_of : (xs : List ℕ) (at : ℕ) → slice_get xs at ≡ slice_get (part_at xs at 1) 0
byte_of xs at = first_of_rest xs at ∙ sym (first_of_one (drop at xs))

beside : (start end at : ℕ) → (start ≤ at → at < end → ⊥) → (at + 1 ≤ start) ⊎ (start + (end - start) ≤ at)
beside start end at out = ⊎_elim
    (λ (before : at < start). inl (omega (arith, before)))
    (λ (from : start ≤ at). inr (⊎_elim
    (λ (within : at < end). absurd (out from within))
    (λ (past : end ≤ at). omega (arith, from, past)) (cases_lt at end)))
    (cases_lt at start)

-- one that isn't of the run
pub outside_byte : (plan : Plan) (run : Run) (a b : List ℕ) (at : ℕ)
    → SameOutside (run_start plan run) (run_len plan run) a b → ¬ IsByteOf plan run at → slice_get b at ≡ slice_get a at
outside_byte plan run a b at same out =
    byte_of b at
    ∙ (ap (λ (l : List ℕ). slice_get l 0)
    (same.parts at 1 (beside (run_start plan run) (run_end plan run) at
    (λ from before. out (record { from = from; before = before }))))
    ∙ sym (byte_of a at))

-- ---- runs one after another

module _ (want : Want) (runs : List Run) (n : ℕ) where
  pub beside_next : (part : Run) → n < length runs → part ≡ get_or runs n part → (a b c : Files)
      → SameOutside (run_start want.plan part) (run_len want.plan part) (payload_of want b) (payload_of want c)
      → KeepsBytesBut (IsByteOfAny want.plan (take n runs)) want a b
      → KeepsBytesBut (IsByteOfAny want.plan (take (n + 1) runs)) want a c
  beside_next part within at_is a b c outside was at none =
      let more : take (n + 1) runs ≡ take n runs ++ part ∷ [] = taken_next runs n part within at_is in
      let there = λ (r : Run) (has : Contains (take n runs ++ part ∷ []) r).
      subst (λ (rs : List Run). Contains rs r) (sym more) has in
      outside_byte want.plan part (payload_of want b) (payload_of want c) at outside
      (λ is. none (part, there part (Contains-push (take n runs) part), is))
      ∙ was at (λ is. none (is.0, there is.0 (Contains-append_left (take n runs) (part ∷ []) is.0 is.1), is.2))

  -- all of them have the bytes of the first ones
  pub beside_all : (a b : Files) → KeepsBytesBut (IsByteOfAny want.plan (take n runs)) want a b
      → KeepsBytesBut (IsByteOfAny want.plan runs) want a b
  beside_all a b was at none =
      was at (λ is. none (
        is.0,
        subst (λ (rs : List Run). Contains rs is.0) (take-append-drop n runs)
            (Contains-append_left (take n runs) (drop n runs) is.0 is.1),
        is.2,
      ))

-- .. and then calls that leave the payload
pub beside_then : (Written : ℕ → Type 0) (want : Want) (a : Files) (b c : DiskState) → SamePayload want b c
    → KeepsBytesBut Written want a b.seen → KeepsBytesBut Written want a c.seen
beside_then Written want a b c same was at none =
    ap (λ (l : List ℕ). slice_get l at) (payload_same want b c same) ∙ was at none

-- ---- what a delivery wrote, by its events

-- what is one of the events came between
pub came_among : (past events : List Event) (e : Event) → Contains events e → CameBetween past (history_after past events) e
came_among past [] e there = absurd (let within = there.1 in omega (arith, within))
came_among past (x ∷ events) e there = ⊎_elim
    (λ (here : Contains (x ∷ []) e).
    let front = after_front (x ∷ past) events in
    record {
      newer = front.0 ++ x ∷ [];
      grown = front.1 ∙ sym (append_assoc front.0 (x ∷ []) past);
      has = Contains-append_right front.0 (x ∷ []) e here;
    })
    (λ (later : Contains events e).
    let rest = came_among (x ∷ past) events e later in
    record {
      newer = rest.newer ++ x ∷ [];
      grown = rest.grown ∙ sym (append_assoc rest.newer (x ∷ []) past);
      has = Contains-append_left rest.newer (x ∷ []) e rest.has;
    }) (Contains-append_cases (x ∷ []) events e there)

landed_among : (gid : Gid) (id mirror : ℕ) (now : _) (runs : List Run) (part : Run) → Contains runs part
    → Contains (landed_events gid id mirror now runs) (Landed gid id mirror part now)
landed_among gid id mirror now [] part there = absurd (let within = there.1 in omega (arith, within))
landed_among gid id mirror now (run ∷ runs) part there = ⊎_elim
    (λ (here : Contains (run ∷ []) part).
    let same : run ≡ part = only run part here in
    subst (λ (r : Run). Contains (Landed gid id mirror r now ∷ landed_events gid id mirror now runs) (Landed gid id mirror part now))
    (sym same) (0, omega arith, refl))
    (λ (later : Contains runs part).
    Contains-append_right (Landed gid id mirror run now ∷ []) (landed_events gid id mirror now runs)
    (Landed gid id mirror part now) (landed_among gid id mirror now runs part later))
    (Contains-append_cases (run ∷ []) runs part there)
  where
    only : (run part : Run) → Contains (run ∷ []) part → run ≡ part
    only run part (zero, within, is) = is
    only run part (suc n, within, is) = absurd (omega (arith, within))

-- landings that were broken off: memory ran out, or a fault of the disk ended the download
landings_cut : (at : TurnStart) (gid : Gid) (id mirror : ℕ) (runs : List Run) (past events : List Event) (o : Outcome)
    → o ≢ Went → LandingsPhase at gid id mirror runs past events o
    → (o ≡ Starved) ⊎ ((count : ℕ) × Contains events (Ended gid (end.Disk count)))
landings_cut at gid id mirror [] past events Went broken is = absurd (broken refl)
landings_cut at gid id mirror [] past events Over broken is = absurd is
landings_cut at gid id mirror [] past events Starved broken is = absurd is
landings_cut at gid id mirror (run ∷ runs) past events o broken (inl stopped) =
    by o stopped.0 broken
  where
    by : (q : Outcome) → AfterDisk at gid (Landed gid id mirror run at.now ∷ []) past events q → q ≢ Went
        → (q ≡ Starved) ⊎ ((count : ℕ) × Contains events (Ended gid (end.Disk count)))
    by Went is not = absurd (not refl)
    by Over is not =
        inr (is.0, subst (λ (es : List Event). Contains es (Ended gid (end.Disk is.0))) (sym is.2) (0, omega arith, refl))
    by Starved is not = inl refl
landings_cut at gid id mirror (run ∷ runs) past events o broken (inr went) = ⊎_elim
    (λ (starved : o ≡ Starved). inl starved)
    (λ (failed : (count : ℕ) × Contains went.rest (Ended gid (end.Disk count))).
    inr (
      failed.0,
      subst (λ (es : List Event). Contains es (Ended gid (end.Disk failed.0))) (sym went.cut)
          (Contains-append_right went.front went.rest (Ended gid (end.Disk failed.0)) failed.1),
    ))
    (landings_cut at gid id mirror runs (history_after past went.front) went.rest o broken went.second)

starved_said : (usual : Said) (o : Outcome) (said : Said) → o ≡ Starved → AnswersUnlessStarved usual o said → said ≡ NoMemory
starved_said usual o said starved answer =
    subst (λ (q : Outcome). AnswersUnlessStarved usual q said) starved answer

module _ {D : Type 0} (follow : BlocksFollow) (want : Want) (is : IsWant want) (l : PayloadLengths)
    (same : l ≡ lengths_of_plan want.plan) (old new : StoredView D) (gid : Gid) (claim : Claim)
    (stands : Contains (standing_claims (own_in old gid)) claim) (run : Run) (of : IsRunOfPayload l run) (runs : List Run)
    (are : AreOpenIn (own_in old gid) claim run runs) (f f' : ℕ) (o : Outcome) (download : Download)
    (gid_is : download.gid ≡ gid)
    (did : DoesPart (λ at. DeliveryPhase at old.machine.past download claim runs) old f new f' o) (usual said : Said)
    (answer : AnswersUnlessStarved usual o said) where
  abbrev Is : ℕ → Type 0
  Is b = is_open_since (own_in old gid) claim b ≡ true

  -- what is one of its events
  came : (e : Event) → Contains did.events e → CameBetween old.machine.past new.machine.past e
  came e there =
      subst (λ (p : List Event). CameBetween old.machine.past p e) (sym did.grown)
      (came_among old.machine.past did.events e there)

  -- a byte of a part is one of an open block
  open_byte : (at : ℕ) → IsByteOfAny want.plan runs at → IsOpenByte (own_in old gid) claim.id run want.plan at
  open_byte at inside =
      let part = inside.0 in
      let n = inside.1.0 in
      let within = inside.1.1 in
      let there = inside.1.2 in
      let some = subst (λ (p : Run). 0 < p.count) there (some_blocks_in Is run runs are n part within) in
      let to = subst (λ (p : Run). p.first + p.count ≤ run.first + run.count) there (part_to Is run runs are n part within) in
      let all = (subst (λ (k : PayloadLengths). IsRunOfPayload k run) same of).within in
      let is_run : IsRun want.plan part = record { some = some; within = omega (arith, to, all) } in
      let found = block_in_run follow want part is.plan is_run at inside.2.from inside.2.before in
      let block = (are.exact found.0).0
      (n, part, within, there, record { from = found.1.from; before = found.1.before }) in
      record {
        claimed = claim;
        stands = stands;
        id_is = refl;
        block = found.0;
        of_run = record { from = block.0.from; before = block.0.before };
        open_in = block.1;
        inside = record { from = found.2.from; before = found.2.before };
      }

  delivered : (at : ℕ) → IsByteOfAny want.plan runs at → IsDeliveredByte gid claim.id run old new said want.plan at
  delivered at inside = ⊎_elim
      (λ (broken : BreaksOff (LandingsPhase (turn_from old f) download.gid claim.id claim.mirror runs) old.machine.past did.events o).
      inr (
        ⊎_elim (λ (starved : o ≡ Starved). inl (starved_said usual o said starved answer))
            (λ (failed : (count : ℕ) × Contains did.events (Ended download.gid (end.Disk count))).
            inr (
              failed.0,
              came (Ended gid (end.Disk failed.0))
                  (subst (λ (h : Gid). Contains did.events (Ended h (end.Disk failed.0))) gid_is failed.1),
            ))
            (landings_cut (turn_from old f) download.gid claim.id claim.mirror runs old.machine.past did.events o broken.1 broken.0),
        open_byte at inside,
      ))
      (λ went.
      let front = landings_events (turn_from old f) download.gid claim.id claim.mirror runs old.machine.past went.front
      went.first in
      let e = Landed download.gid claim.id claim.mirror inside.0 old.now in
      let there : Contains did.events e = subst (λ (es : List Event). Contains es e) (sym went.cut)
      (Contains-append_left went.front went.rest e
      (subst (λ (es : List Event). Contains es e) (sym front)
      (landed_among download.gid claim.id claim.mirror old.now runs inside.0 inside.1))) in
      inl (record {
        mirror = claim.mirror;
        part = inside.0;
        now = old.now;
        came = subst
            (λ (h : Gid). CameBetween old.machine.past new.machine.past (Landed h claim.id claim.mirror inside.0 old.now)) gid_is
            (came e there);
        inside = inside.2;
      }))
      (did.is f (omega arith))

  pub undelivered : (a b : Files) → KeepsBytesBut (IsByteOfAny want.plan runs) want a b
      → KeepsBytesBut (IsDeliveredByte gid claim.id run old new said want.plan) want a b
  undelivered a b was at none = was at (λ inside. none (delivered at inside))

-- ---- the payloads of other downloads

module _ {D : Type 0} (laws : RunFollows) (tells : Bool) (faults : ℕ) (old : StoredView D) (a b : DiskState)
    (run : IsStoredRun tells faults a old) (gid : Gid) (going : IsGoing old gid)
    (besides : (want : Want) → kept_want_of old gid ≡ Some want → KeepsBesides want a b) where
  facts : GoingFacts old.machine.start old.machine.past old.wants.items gid
  facts = going_facts old.machine.start old.machine.past old.wants.items gid run.wants_are going

  pub other_payload : (g : Gid) → IsGoing old g → g ≢ gid → KeepsPayload g old a b
  other_payload g goes other want kept =
      (keeps_for laws facts.want want a b
      (apart_from tells faults a old.machine.start old.machine.past old.wants.items old.now gid facts.want run going
      facts.kept g want goes other kept) (besides facts.want facts.kept)).seen.files

  pub payloads_one : KeepsPayload gid old a b → KeepsPayloads old a b
  payloads_one payload g goes = ⊎_elim
      (λ (same : g ≡ gid). subst (λ (h : Gid). KeepsPayload h old a b) (sym same) payload)
      (λ (other : g ≢ gid). other_payload g goes other) (same_or_apart g gid)

-- one call, and another one
pub payload_on : {D : Type 0} (old mid : StoredView D) (gid : Gid) (a b c : DiskState)
    → ((g : Gid) (want : Want) → kept_want_of old g ≡ Some want → kept_want_of mid g ≡ Some want)
    → KeepsPayload gid old a b → KeepsPayload gid mid b c → KeepsPayload gid old a c
payload_on old mid gid a b c wants first second want kept = second want (wants gid want kept) ∙ first want kept

-- no call of the disk
pub same_payloads : {D : Type 0} (state : D → DiskState) (old : StoredView D) (d : D) → d ≡ old.disk
    → KeepsPayloads old (state old.disk) (state d)
same_payloads {D = D} state old d same gid goes want kept = ap (λ (x : D). files_in want (state x).seen) same

-- ---- saves of several downloads

-- one more
pub saves_payload : {D : Type 0} → RunFollows → (gids : List Gid) (i : ℕ) (old now new : StoredView D) (a b c : DiskState)
    (gid : Gid) → slice_get gids i ≡ Some gid → is_opened (own_in old gid) ≡ true
    → AreWantsKept old.machine.start old.machine.past old.wants.items
    → ((g : Gid) (w : Want) → kept_want_of old g ≡ Some w → kept_want_of now g ≡ Some w)
    → SavesPayloads gids old a b → StoresGid gid now new b c → KeepsPayload gid now b c → SavesPayloads gids old a c
saves_payload laws gids i old now new a b c gid there opened are wants was saves payload g apart want kept =
    ⊎_elim
    (λ (same : g ≡ gid).
    subst (λ (h : Gid). KeepsPayload h now b c) (sym same) payload want (wants g want kept))
    (λ (other : g ≢ gid).
    let w = opened_want old.machine.start old.machine.past old.wants.items gid are opened in
    (keeps_for laws w.want want b c
    (apart i gid w.want want there (λ same. other (sym same)) w.kept kept)
    (saves w.want (wants gid w.want w.kept)).besides).seen.files)
    (same_or_apart g gid)
    ∙ was g apart want kept

-- all of them, once an event came
pub saved_payloads : {D : Type 0} (laws : RunFollows) (tells : Bool) (F : D → ℕ) (S : D → DiskState) (old mid : StoredView D)
    → IsStoredRun tells (F old.disk) (S old.disk) old → mid.disk ≡ old.disk → HaltsBetween old mid → (gids : List Gid)
    → ((i : ℕ) (g : Gid) → slice_get gids i ≡ Some g → IsGoing old g) → (c : DiskState)
    → SavesPayloads gids mid (S mid.disk) c → KeepsPayloads old (S old.disk) c
saved_payloads {D = D} laws tells F S old mid run same between gids went c saves gid goes want kept =
    saves gid (apart_all laws tells (F old.disk) old mid (S old.disk) run between gids went gid goes) want
    (between.on.wants gid want kept)
    ∙ ap (λ (x : D). files_in want (S x).seen) same
