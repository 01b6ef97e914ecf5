-- What a delivery fills, and what is answered for it.
use Rattle.std.proofs.Common.{◌≡◌, inl, inr, ℕ, suc, ◌<◌, ◌≤◌, ◌+◌, ◌-◌, ◌^◌, Bool, true, false, Some, List, [], ◌∷◌, length, get_or, refl, sym, ap, ◌∙◌, subst, arith}
use Rattle.std.specs.Prelude.{◌==◌, Contains, MatchBool, Option, sum_by}
use Rattle.control_file.specs.declared.want.Want.{Want}
use Rattle.std.proofs.lemmas.Bool.{eq-eqb, eqb-true}
use Rattle.std.proofs.lemmas.List.Elements.{All-contains}
use Rattle.dl_history.specs.OwnEvents.{OwnEvent}
use Rattle.dl_history.specs.OwnLegal.{LegalOwn}
use Rattle.dl_history.specs.PayloadParts.{is_opened}
use Rattle.dl_history.specs.StandingClaims.{is_open_since, is_probe, standing_claims}
use Rattle.dl_history.proofs.Bools.{true_not_false}
use Rattle.dl_history.proofs.Members.{Has}
use Rattle.dl_kinds.specs.Plan.{IsPlan, block_end, block_start, blocks_of, piece_of, pieces_of}
use Rattle.dl_kinds.specs.PlanLaws.{BlocksAreOfPieces, BlocksFollow}
use Rattle.dl_kinds.specs.declared.claims.Claim.{Claim}
use Rattle.dl_kinds.specs.declared.gid.Gid.{Gid}
use Rattle.dl_kinds.specs.declared.runs.Run.{Run}
use Rattle.piece_table.specs.Changes.{is_in}
use Rattle.piece_table.specs.NewRuns.{IsIn}
use Rattle.engine_turns.specs.ClaimRows.{DeliverRow, DeliveryPhase, IsDelivery, IsKept, blocks_in_event}
use Rattle.engine_turns.specs.Standings.{AnswersUnlessStarved, IsHomeOf, OfClaim}
use Rattle.engine_turns.specs.declared.operations.Said.{Said}
use Rattle.engine_turns.specs.declared.operations.Said.TheVariants.{Kept, Void}
use Rattle.engine_turns.specs.declared.outcome.Outcome.{Outcome}
use Rattle.machine_core.specs.Claiming.{AreOpenIn}
use Rattle.machine_core.specs.OwnParts.{PayloadLengths, own_of}
use Rattle.machine_core.specs.Reads.{lengths_of_gid}
use Rattle.machine_core.specs.RunLegal.{IsLegal, download_in, known_lengths}
use Rattle.machine_core.specs.Starts.{Download, RunStart}
use Rattle.machine_core.specs.declared.events.Event.{Event}
use Rattle.stored_run.specs.Deliveries.{AreBlocksOf, AreUnsettled, Delivers, IsAmong, IsFullBeside, IsPartOf, IsRunOfPayload, LandedBetween, MarksFilled, TellsFull, first_piece, landed_total, last_piece, mark_at}
use Rattle.stored_run.specs.RunFollows.{RunFollows}
use Rattle.stored_run.specs.Steps.{DoesPart, DoesRow, turn_from}
use Rattle.stored_run.specs.Stored.{AreWantsKept}
use Rattle.stored_run.specs.Views.{GoesOpened, IsGoing, own_in}
use Rattle.stored_run.specs.declared.run.StoredView.{StoredView}
use Rattle.stored_run.proofs.Claimed.{active_goes_on, claim_goes}
use Rattle.stored_run.proofs.Doing.{row_of_none}
use Rattle.stored_run.proofs.Failing.{opened_want}
use Rattle.stored_run.proofs.Findings.{gid_found}
use Rattle.stored_run.proofs.LandedCounts.{count_on}
use Rattle.stored_run.proofs.Landings.{LandedAll, in_run_of}
use Rattle.stored_run.proofs.Losses.{home_of_claim}
use Rattle.stored_run.proofs.OwnLandings.{IsNewlyFull, filled_anew, filled_on, filled_unverified, landed_own, on_a_run, pieces_few, pieces_rise}
use Rattle.stored_run.proofs.PartBytes.{ends_rise, starts_before, starts_rise}
use Rattle.stored_run.proofs.RunParts.{block_in_part, blocks_in_runs, parts_fit}

-- ---- the run

in_no_claim : {P : Type 0} (claim : Claim) (run : Run) → AreBlocksOf claim.run run → is_probe claim ≡ true → P
in_no_claim claim run is probe =
    let none = eqb-true claim.run.count 0 probe in
    let some = is.some in
    let first = is.first in
    let last = is.last in
    absurd (omega arith)

-- the download of what is delivered goes on
pub delivery_going : RunFollows → (start : RunStart) (past : List Event) (gid : Gid) (claim : Claim) (run : Run)
    → IsLegal start past → Contains (standing_claims (own_of start past gid)) claim
    → AreBlocksOf claim.run run → GoesOpened start past gid
delivery_going laws start past gid claim run legal there is = record {
  opened = by (is_opened (own_of start past gid)) refl;
  goes = active_goes_on start past gid (claim_goes laws start past gid claim legal there).active;
}
  where
    by : (b : Bool) → is_opened (own_of start past gid) ≡ b → is_opened (own_of start past gid) ≡ true
    by true is_so = is_so
    by false none =
        let l = known_lengths start past gid in
        in_no_claim claim run is
        ((laws.sound.probes l.total l.piece_len (own_of start past gid) claim (laws.legal start past gid legal) there).probe
        none)

-- a claim that stands has blocks of the payload
pub claim_within : RunFollows → (l : PayloadLengths) (own : List OwnEvent) (claim : Claim) → IsPlan l.total l.piece_len
    → LegalOwn l.total l.piece_len own → Contains (standing_claims own) claim
    → claim.run.first + claim.run.count ≤ blocks_of l.total l.piece_len
claim_within laws l own claim plan legal there =
    All-contains (λ (c : Claim). c.run.first + c.run.count ≤ blocks_of l.total l.piece_len) (standing_claims own) claim
    (laws.accounts l.total l.piece_len own (λ is. plan) legal).claims.within there

pub blocks_of_delivery : (l : PayloadLengths) (claim : Claim) (run : Run) (bytes : List ℕ)
    → IsDelivery l claim run bytes → AreBlocksOf claim.run run
blocks_of_delivery l claim run bytes is = record { some = is.some; few = is.few; first = is.first; last = is.last }

pub delivery_run : RunFollows → (l : PayloadLengths) (own : List OwnEvent) (claim : Claim) (run : Run)
    → IsPlan l.total l.piece_len → LegalOwn l.total l.piece_len own → Contains (standing_claims own) claim
    → AreBlocksOf claim.run run → IsRunOfPayload l run
delivery_run laws l own claim run plan legal there is =
    let within = claim_within laws l own claim plan legal there in
    let last = is.last in
    record { some = is.some; few = is.few; within = omega (arith, within, last) }

-- .. told of the run as the code finds it
pub delivery_of : {D : Type 0} → RunFollows → (r : StoredView D) (gid : Gid) (claim : Claim) (run : Run) (bytes : List ℕ)
    → AreWantsKept r.machine.start r.machine.past r.wants.items → IsLegal r.machine.start r.machine.past → IsGoing r gid
    → Contains (standing_claims (own_in r gid)) claim → Delivers r gid claim run bytes
    → IsRunOfPayload (lengths_of_gid r.machine gid) run
delivery_of laws r gid claim run bytes kept legal going there is =
    let l = lengths_of_gid r.machine gid in
    let w = opened_want r.machine.start r.machine.past r.wants.items gid kept going.opened in
    delivery_run laws l (own_in r gid) claim run w.plan (laws.legal r.machine.start r.machine.past gid legal) there
    (blocks_of_delivery l claim run bytes is)

-- its last block is of a piece of the payload
pub run_last_piece : BlocksAreOfPieces → (l : PayloadLengths) (run : Run) → IsPlan l.total l.piece_len → IsRunOfPayload l run
    → last_piece l run < pieces_of l.total l.piece_len
run_last_piece of_pieces l run plan of =
    let some = of.some in
    let within = of.within in
    (of_pieces l.total l.piece_len (run.first + run.count - 1) plan (omega (arith, some, within))).piece

pub last_within : (start : RunStart) (past : List Event) (wants : List (Option Want)) (gid : Gid) (run : Run)
    → BlocksAreOfPieces → AreWantsKept start past wants → is_opened (own_of start past gid) ≡ true
    → IsRunOfPayload (known_lengths start past gid) run
    → last_piece (known_lengths start past gid) run
    < pieces_of (known_lengths start past gid).total (known_lengths start past gid).piece_len
last_within start past wants gid run of_pieces kept opened of =
    run_last_piece of_pieces (known_lengths start past gid) run (opened_want start past wants gid kept opened).plan of

-- the pieces of a run's first block and of its last
pub record RunPieces (l : PayloadLengths) (run : Run) : Type 0 where
  pub first : run.first < blocks_of l.total l.piece_len
  pub last : run.first + (run.count - 1) < blocks_of l.total l.piece_len
  pub last_is : run.first + (run.count - 1) ≡ run.first + run.count - 1
  pub fits : run.first + (run.count - 1) < 2 ^ 32
  pub rise : first_piece l run ≤ last_piece l run
  pub few : last_piece l run < first_piece l run + 64
  pub within : last_piece l run < pieces_of l.total l.piece_len

pub run_pieces : BlocksAreOfPieces → (l : PayloadLengths) (run : Run) → IsPlan l.total l.piece_len → IsRunOfPayload l run
    → RunPieces l run
run_pieces of_pieces l run plan of =
    let some = of.some in
    let few = of.few in
    let within = of.within in
    let bound = plan.blocks in
    let last_is : run.first + (run.count - 1) ≡ run.first + run.count - 1 = omega arith in
    let more = subst (λ (b : ℕ). piece_of l.piece_len b ≤ piece_of l.piece_len run.first + (run.count - 1)) last_is
    (pieces_few l.total l.piece_len run.first (run.count - 1) plan) in
    record {
      first = omega arith;
      last = omega arith;
      last_is = last_is;
      fits = omega arith;
      rise = pieces_rise l.total l.piece_len run.first (run.first + run.count - 1) plan (omega arith);
      few = omega (arith, more);
      within = run_last_piece of_pieces l run plan of;
    }

-- where a part of a run begins and ends
pub record PartPlaces (l : PayloadLengths) (run part : Run) : Type 0 where
  pub first : run.first < blocks_of l.total l.piece_len
  pub begins : part.first < blocks_of l.total l.piece_len
  pub last : part.first + (part.count - 1) < blocks_of l.total l.piece_len
  pub last_is : part.first + (part.count - 1) ≡ part.first + part.count - 1
  pub fits : part.first + (part.count - 1) < 2 ^ 32
  pub rise : block_start l.piece_len run.first ≤ block_start l.piece_len part.first
  pub before : block_start l.piece_len part.first < block_end l.total l.piece_len (part.first + part.count - 1)
  pub within : block_end l.total l.piece_len (part.first + part.count - 1)
      ≤ block_end l.total l.piece_len (run.first + run.count - 1)

pub part_places : BlocksFollow → (l : PayloadLengths) (run part : Run) → IsPlan l.total l.piece_len → IsRunOfPayload l run
    → IsPartOf run part → PartPlaces l run part
part_places follow l run part plan of is =
    let some = is.some in
    let from = is.from in
    let to = is.to in
    let within = of.within in
    let few = plan.blocks in
    record {
      first = omega arith;
      begins = omega arith;
      last = omega arith;
      last_is = omega arith;
      fits = omega arith;
      rise = starts_rise follow l.total l.piece_len plan run.first part.first from (omega arith);
      before = starts_before follow l.total l.piece_len plan part.first (part.first + part.count - 1) (omega arith) (omega arith);
      within = ends_rise follow l.total l.piece_len plan (part.first + part.count - 1) (run.first + run.count - 1)
          (omega arith) (omega arith);
    }

-- ---- what the runs fill

has_at : {A : Type 0} (xs : List A) (x : A) → Has xs x → (n : ℕ) × (n < length xs) × (get_or xs n x ≡ x)
has_at [] x has = absurd has
has_at (y ∷ xs) x (inl is) = (0, omega arith, is)
has_at (y ∷ xs) x (inr has) = let at = has_at xs x has in (at.0 + 1, (let w = at.1 in omega (arith, w)), at_next y xs x at.0 at.2)
  where
    at_next : {A : Type 0} (y : A) (xs : List A) (x : A) (n : ℕ) → get_or xs n x ≡ x → get_or (y ∷ xs) (n + 1) x ≡ x
    at_next y xs x n is = (let e : n + 1 ≡ suc n = omega arith in ap (λ (k : ℕ). get_or (y ∷ xs) k x) e) ∙ is

module _ (laws : RunFollows) (l : PayloadLengths) (own : List OwnEvent) (claim : Claim) (run : Run) (runs : List Run)
    (row : List Bool) (plan : IsPlan l.total l.piece_len)
    (legal : LegalOwn l.total l.piece_len (landed_own claim.id claim.mirror runs own))
    (of : IsRunOfPayload l run) (are : AreOpenIn own claim run runs) (told : TellsFull l own run row) where
  abbrev later : List OwnEvent
  later = landed_own claim.id claim.mirror runs own

  newly : (piece : ℕ) → IsFullBeside l later run row piece → IsNewlyFull l.total l.piece_len own later piece
  newly piece is = record {
    now = is.full;
    unfilled = λ full.
        true_not_false (mark_at l run row piece) ((told piece is.among).1 full) is.unmarked;
  }

  piece_below : (piece : ℕ) → IsAmong l run piece → (last : piece_of l.piece_len (run.first + run.count - 1)
      < pieces_of l.total l.piece_len) → piece < pieces_of l.total l.piece_len
  piece_below piece is last = let to = is.to in omega (arith, to, last)

  runs_unsettled : (piece_of l.piece_len (run.first + run.count - 1) < pieces_of l.total l.piece_len)
      → AreUnsettled l later run row
  runs_unsettled last = record {
    unverified = λ piece is.
        filled_unverified l.total l.piece_len claim.id claim.mirror runs own plan legal piece (newly piece is)
        laws.sound.verified (piece_below piece is.among last);
    anew = λ piece is.
        filled_anew l.total l.piece_len claim.id claim.mirror runs own plan legal piece (newly piece is);
  }

  in_whole_run : (b : ℕ) (r : Run) → Has runs r → is_in b r ≡ true → IsIn b run
  in_whole_run b r has inside =
      let at = has_at runs r has in
      (block_in_part (λ (x : ℕ). is_open_since own claim x ≡ true) run runs are at.0 r at.1 b
      (subst (λ (q : Run). IsIn b q) (sym at.2) (in_run_of r b inside))).0

  runs_marked : MarksFilled l own later run row
  runs_marked = record {
    told = told;
    only = λ piece below filled.
        let on = filled_on l.total l.piece_len claim.id claim.mirror runs own plan legal piece
        (record { now = filled.0; unfilled = filled.1 }) in
        let found = on_a_run l.piece_len runs piece on in
        let whole = in_whole_run found.1 found.0 found.2 found.3 in
        let low = pieces_rise l.total l.piece_len run.first found.1 plan whole.from in
        let high = pieces_rise l.total l.piece_len found.1 (run.first + run.count - 1) plan
        (let before = whole.before in omega (arith, before)) in
        record {
          from = omega (arith, low, found.4);
          to = omega (arith, high, found.4);
        };
  }

-- .. told of the run after them
module _ {D : Type 0} (laws : RunFollows) (old mid : StoredView D) (gid : Gid) (claim : Claim) (run : Run)
    (runs : List Run) (row : List Bool) (so : LandedAll old mid gid claim runs)
    (start : mid.machine.start ≡ old.machine.start)
    (plan : IsPlan (lengths_of_gid old.machine gid).total (lengths_of_gid old.machine gid).piece_len)
    (legal : LegalOwn (lengths_of_gid mid.machine gid).total (lengths_of_gid mid.machine gid).piece_len (own_in mid gid))
    (of : IsRunOfPayload (lengths_of_gid old.machine gid) run) (are : AreOpenIn (own_in old gid) claim run runs)
    (told : TellsFull (lengths_of_gid old.machine gid) (own_in old gid) run row)
    (last : piece_of (lengths_of_gid old.machine gid).piece_len (run.first + run.count - 1)
    < pieces_of (lengths_of_gid old.machine gid).total (lengths_of_gid old.machine gid).piece_len) where
  legal_there : LegalOwn (lengths_of_gid old.machine gid).total (lengths_of_gid old.machine gid).piece_len
      (landed_own claim.id claim.mirror runs (own_in old gid))
  legal_there =
      subst (λ (l : PayloadLengths). LegalOwn l.total l.piece_len (landed_own claim.id claim.mirror runs (own_in old gid)))
      so.lengths
      (subst (λ (own : List OwnEvent). LegalOwn (lengths_of_gid mid.machine gid).total
      (lengths_of_gid mid.machine gid).piece_len own) so.own legal)

  pub then_unsettled : AreUnsettled (lengths_of_gid mid.machine gid) (own_in mid gid) run row
  then_unsettled =
      subst (λ (l : PayloadLengths). AreUnsettled l (own_in mid gid) run row) (sym so.lengths)
      (subst (λ (own : List OwnEvent). AreUnsettled (lengths_of_gid old.machine gid) own run row) (sym so.own)
      (runs_unsettled laws (lengths_of_gid old.machine gid) (own_in old gid) claim run runs row plan legal_there of are told
      last))

  pub then_marked : MarksFilled (lengths_of_gid mid.machine gid) (own_of mid.machine.start old.machine.past gid)
      (own_in mid gid) run row
  then_marked =
      subst (λ (s : RunStart). MarksFilled (lengths_of_gid mid.machine gid) (own_of s old.machine.past gid)
      (own_in mid gid) run row) (sym start)
      (subst (λ (l : PayloadLengths). MarksFilled l (own_in old gid) (own_in mid gid) run row) (sym so.lengths)
      (subst (λ (own : List OwnEvent). MarksFilled (lengths_of_gid old.machine gid) (own_in old gid) own run row)
      (sym so.own)
      (runs_marked laws (lengths_of_gid old.machine gid) (own_in old gid) claim run runs row plan legal_there of are told)))

  pub then_run : IsRunOfPayload (lengths_of_gid mid.machine gid) run
  then_run = subst (λ (l : PayloadLengths). IsRunOfPayload l run) (sym so.lengths) of

-- ---- the answer

module _ {D : Type 0} (old new : StoredView D) (gid : Gid) (claim : Claim) (run : Run) (runs : List Run) (f f' : ℕ)
    (o : Outcome) (counted repeated : ℕ) (said : Said) (download : Download)
    (added : download_in old.machine.start old.machine.past gid ≡ Some download)
    (are : AreOpenIn (own_in old gid) claim run runs) (repeats : repeated ≡ run.count - blocks_in_runs runs)
    (landed : LandedBetween counted old.machine.past new.machine.past)
    (answer : AnswersUnlessStarved (Kept counted repeated) o said)
    (did : DoesPart (λ at. DeliveryPhase at old.machine.past download claim runs) old f new f' o) where
  counted_is : sum_by blocks_in_event did.events ≡ counted
  counted_is =
      let all = count_on did.events old.machine.past in
      let grown = ap landed_total did.grown in
      omega (arith, all, grown, landed)

  fits : blocks_in_runs runs ≤ run.count
  fits = parts_fit (λ (b : ℕ). is_open_since (own_in old gid) claim b ≡ true) run runs are

  pub kept_row : DoesRow (λ at s. IsKept at s download claim run) old f new f' said
  kept_row = record {
    events = did.events;
    grown = did.grown;
    is = λ from s below standing. record {
      runs = runs;
      open_runs = subst (λ (p : List Event). AreOpenIn (own_of old.machine.start p download.gid) claim run runs)
          (sym standing)
          (subst (λ (g : Gid). AreOpenIn (own_in old g) claim run runs)
          (sym (gid_found old.machine.start old.machine.past gid download added)) are);
      outcome = o;
      is = subst (λ (p : List Event). DeliveryPhase (turn_from old from) p download claim runs p did.events o)
          (sym standing) (did.is from below);
      repeated = repeated;
      repeats = let fit = fits in omega (arith, fit, repeats);
      answer = subst (λ (n : ℕ). AnswersUnlessStarved (Kept n repeated) o said) (sym counted_is) answer;
    };
    later = did.later;
    counts = did.counts;
  }

-- a claim stands under the number, and what is brought is a delivery
pub delivered_row : {D : Type 0} (old new : StoredView D) (gid : Gid) (claim : Claim) (id : ℕ) (run : Run)
    (bytes : List ℕ) (f f' : ℕ) (said : Said) (download : Download)
    → download_in old.machine.start old.machine.past gid ≡ Some download
    → Contains (standing_claims (own_in old gid)) claim → claim.id ≡ id → Delivers old gid claim run bytes
    → DoesRow (λ at s. IsKept at s download claim run) old f new f' said
    → DoesRow (λ at s. OfClaim at s id (DeliverRow at s run bytes)) old f new f' said
delivered_row old new gid claim id run bytes f f' said download added stands id_is delivers row = record {
  events = row.events;
  grown = row.grown;
  is = λ from s below standing.
      let start = old.machine.start in
      let home = home_of_claim start old.machine.past gid claim download added stands in
      inr (
        download,
        claim,
        subst (λ (n : ℕ). IsHomeOf start s.past n download claim) id_is
            (subst (λ (p : List Event). IsHomeOf start p claim.id download claim) (sym standing) home),
        inl (
          subst (λ (p : List Event). IsDelivery (known_lengths start p download.gid) claim run bytes) (sym standing)
              (subst (λ (g : Gid). IsDelivery (known_lengths start old.machine.past g) claim run bytes)
              (sym (gid_found start old.machine.past gid download added)) delivers),
          row.is from s below standing,
        ),
      );
  later = row.later;
  counts = row.counts;
}

-- what is brought is none
pub undelivered_row : {D : Type 0} (r : StoredView D) (gid : Gid) (claim : Claim) (id : ℕ) (run : Run) (bytes : List ℕ)
    (f : ℕ) (download : Download) → download_in r.machine.start r.machine.past gid ≡ Some download
    → Contains (standing_claims (own_in r gid)) claim → claim.id ≡ id → (Delivers r gid claim run bytes → ⊥)
    → DoesRow (λ at s. OfClaim at s id (DeliverRow at s run bytes)) r f r f Void
undelivered_row r gid claim id run bytes f download added stands id_is none =
    row_of_none (λ at s. OfClaim at s id (DeliverRow at s run bytes)) r f Void
    (λ from s standing.
    let start = r.machine.start in
    let home = home_of_claim start r.machine.past gid claim download added stands in
    inr (
      download,
      claim,
      subst (λ (n : ℕ). IsHomeOf start s.past n download claim) id_is
          (subst (λ (p : List Event). IsHomeOf start p claim.id download claim) (sym standing) home),
      inr (
        subst (λ (p : List Event). IsDelivery (known_lengths start p download.gid) claim run bytes → ⊥) (sym standing)
            (subst (λ (g : Gid). IsDelivery (known_lengths start r.machine.past g) claim run bytes → ⊥)
            (sym (gid_found start r.machine.past gid download added)) none),
        (refl, refl),
      ),
    ))

-- a comparison of numbers
pub match_eq : (x y : ℕ) (P Q : Type 0) → (x ≡ y → P) → ((x ≡ y → ⊥) → Q) → MatchBool (x == y) P Q
match_eq x y P Q so other = by (x == y) refl
  where
    by : (b : Bool) → (x == y) ≡ b → MatchBool b P Q
    by true is = so (eqb-true x y is)
    by false is = other (λ e. true_not_false (x == y) (eq-eqb x y e) is)

pub match_true : (b : Bool) (P Q : Type 0) → b ≡ true → MatchBool b P Q → P
match_true true P Q is h = h
match_true false P Q is h = absurd cc

pub match_false : (b : Bool) (P Q : Type 0) → b ≡ false → MatchBool b P Q → Q
match_false false P Q is h = h
match_false true P Q is h = absurd cc

pub match_map : (b : Bool) (A B P Q : Type 0) → (A → P) → (B → Q) → MatchBool b A B → MatchBool b P Q
match_map true A B P Q so other h = so h
match_map false A B P Q so other h = other h
