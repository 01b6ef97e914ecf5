-- An orderly run has few claims and events.
use Rattle.std.proofs.Common.{◌≡◌, ℕ, suc, ◌+◌, ◌≤◌, Bool, true, false, cond, Option, Some, None, List, [], ◌∷◌, length, refl, ap, ◌∙◌, subst, arith}
use Rattle.std.specs.Prelude.{count_by}
use Rattle.std.specs.List.{cons_option, filter_map}
use Rattle.std.specs.Option.{is_some}
use Rattle.dl_history.specs.OwnEvents.{OwnEvent}
use Rattle.dl_history.specs.PayloadParts.{is_ended, is_ending}
use Rattle.dl_history.specs.StandingClaims.{claim_in, granted_claims}
use Rattle.engine_turns.specs.RunLaws.{ActiveAreGoing}
use Rattle.machine_core.specs.OwnParts.{own_of}
use Rattle.machine_core.specs.RunLegal.{DownloadsAreLegal, DownloadsStay, IsLegal, download_in, known_lengths, makes_claim, next_number}
use Rattle.machine_core.specs.Starts.{Download, RunStart}
use Rattle.machine_core.specs.declared.events.Event.{Event}
use Rattle.machine_core.specs.declared.events.Event.TheVariants.{Claimed}
use Rattle.work_bounds.proofs.Tallies.{counted_so, tally, tally_all}
use Rattle.work_bounds.specs.BoundLaws.{ClaimsAreBounded, ClaimsEnd, ClearsAreBounded, EventsAreBounded, IsTakenInTurn}
use Rattle.work_bounds.specs.WorkLimits.{WorkLimits, clears_piece, is_check, is_halt, limits_in, most_claims, most_clears, most_events, unlimited_events}
use Rattle.solo_run.specs.Bounds.{IsBounded, limits_of, most_run_events}
use Rattle.solo_run.proofs.OneDownload.{IsSole, checks_told, own_event, sole_is, tallied, tally_events}
use Rattle.solo_run.proofs.OwnOrder.{OrderlyOwn, ends_once, one, orderly_one, orderly_pauses, orderly_saves}
use Rattle.solo_run.proofs.RunOrder.{halts_few, orderly_own}
use Rattle.solo_run.proofs.Steps.{OrderlyRun}

-- the laws that this stands on
pub record HistoryLaws : Type 0 where
  pub own_legal : DownloadsAreLegal
  pub going : ActiveAreGoing
  pub stay : DownloadsStay
  pub claims : ClaimsAreBounded
  pub events : EventsAreBounded
  pub clears : ClearsAreBounded
  pub ends : ClaimsEnd

-- ---- claims

abbrev pub is_grant : OwnEvent → Bool
is_grant e = is_some (claim_in e)

longer : {A : Type 0} (o : Option A) (xs : List A) (n : ℕ) → length xs ≡ n
    → length (cons_option o xs) ≡ cond (is_some o) (suc n) n
longer None xs n is = is
longer (Some x) xs n is = ap suc is

taken : {A B : Type 0} (f : A → Option B) (xs : List A) → length (filter_map f xs) ≡ tally (λ x. is_some (f x)) xs
taken f [] = refl
taken f (x ∷ xs) = longer (f x) (filter_map f xs) (tally (λ y. is_some (f y)) xs) (taken f xs)

same_tally : {A : Type 0} (p q : A → Bool) (xs : List A) → ((x : A) → p x ≡ q x) → tally p xs ≡ tally q xs
same_tally p q [] same = refl
same_tally p q (x ∷ xs) same = λ i. cond (same x i) (suc (same_tally p q xs same i)) (same_tally p q xs same i)

claim_same : (e : Event) → makes_claim e ≡ is_grant (own_event e)
claim_same (Claimed gid claim) = refl
claim_same e = refl

-- ---- the bounds

-- the last check may have come without an end
abbrev pub ChecksEnd : List Event → Type 0
ChecksEnd past = tally_events is_check past ≤ tally_events is_ending past + 1

abbrev every : OwnEvent → Bool
every e = true

module _ (laws : HistoryLaws) (start : RunStart) (none : start.doors ≡ 0) (past : List Event) (download : Download)
    (legal : IsLegal start past) (is : OrderlyRun start past) (checks : ChecksEnd past)
    (added : download_in start past download.gid ≡ Some download) where
  abbrev own : List OwnEvent
  own = own_of start past download.gid

  orderly : OrderlyOwn own
  orderly = orderly_own start download.gid laws.own_legal laws.going past legal is

  sole : IsSole start past download.gid
  sole = sole_is start past download.gid download is added

  turns_taken : IsTakenInTurn start past download.gid download
  turns_taken = record {
    legal = legal;
    added = added;
    one = orderly_one (known_lengths start past download.gid).total (known_lengths start past download.gid).piece_len own
        (laws.own_legal start past download.gid legal) orderly;
  }

  limits_are : limits_in start past download.gid download ≡ limits_of start past download
  limits_are = ap (λ (n : ℕ). record (limits_of start past download) { pauses = n }) (orderly_pauses own orderly)

  few_claims : next_number past ≤ most_claims (limits_of start past download)
  few_claims =
      let all : next_number past ≡ tally_events is_grant past =
      counted_so makes_claim past ∙ same_tally makes_claim (λ e. is_grant (own_event e)) past claim_same in
      let its = tallied laws.stay start none download.gid is_grant 0 (omega arith) past legal is sole in
      let granted : length (granted_claims own) ≡ tally is_grant own = taken claim_in own in
      let few = subst (λ (l : WorkLimits). length (granted_claims own) ≤ most_claims l) limits_are
      (laws.claims start past download.gid download turns_taken) in
      omega (arith, all, its, granted, few)

  few_events : length past ≤ most_run_events (limits_of start past download)
  few_events =
      let all : tally_events every past ≡ length past = tally_all (λ e. every (own_event e)) past (λ e there. refl) in
      let its = tallied laws.stay start none download.gid every 1 (omega arith) past legal is sole in
      let whole : tally every own ≡ length own = tally_all every own (λ e there. refl) in
      let few = subst (λ (l : WorkLimits). length own ≤ most_events l + unlimited_events own) limits_are
      (laws.events start past download.gid download turns_taken (orderly_saves own orderly)) in
      let halts = halts_few start download.gid laws.own_legal laws.going past legal is in
      let halts_are : count_by is_halt own ≡ tally is_halt own = counted_so is_halt own in
      let checks_are : count_by is_check own ≡ tally is_check own = counted_so is_check own in
      let told = checks_told start download.gid past is in
      let ends = tallied laws.stay start none download.gid is_ending 0 (omega arith) past legal is sole in
      let once = ends_once (known_lengths start past download.gid).total
      (known_lengths start past download.gid).piece_len own (laws.own_legal start past download.gid legal) in
      let one_end : one (is_ended own) ≤ 1 = at_most (is_ended own) in
      omega (arith, all, its, whole, few, halts, halts_are, checks_are, told, ends, once, one_end, checks)
    where
      at_most : (b : Bool) → one b ≤ 1
      at_most true = omega arith
      at_most false = omega arith

  few_clears : (piece : ℕ) → count_by (clears_piece piece) own ≤ most_clears (limits_of start past download)
  few_clears piece = subst (λ (l : WorkLimits). count_by (clears_piece piece) own ≤ most_clears l) limits_are
      (laws.clears start past download.gid download piece turns_taken)

  pub is_bounded : IsBounded start past download
  is_bounded = record {
    added = added;
    claims = few_claims;
    events = few_events;
    clears = few_clears;
    ends = laws.ends start past download.gid download turns_taken;
  }
