-- Which blocks of a claim are open behind events of a turn.
use Rattle.std.proofs.Common.{◌≡◌, inl, inr, ℕ, zero, suc, ◌+◌, ◌<◌, ◌≤◌, Bool, true, false, cond, List, [], ◌∷◌, Option, Some, refl, sym, ap, subst, ◌∙◌, arith}
use Rattle.std.specs.Prelude.{Contains, ◌&&◌, ◌||◌, ◌≢◌, find, nat_le, not}
use Rattle.std.specs.List.{list_any, range_with_len}
use Rattle.std.specs.Option.{is_some}
use Rattle.std.proofs.lemmas.Bool.Decides.{nat_tests}
use Rattle.dl_history.specs.OwnEvents.{Checks, Clears, Halts, Lands, Loses, Opens, OwnEvent, Saves, Settles, Sizes}
use Rattle.dl_history.specs.StandingClaims.{grants_claim, is_open_since, lands_block, since}
use Rattle.dl_kinds.specs.declared.claims.Claim.{Claim}
use Rattle.dl_kinds.specs.declared.gid.Gid.{Gid}
use Rattle.dl_kinds.specs.declared.runs.Run.{Run}
use Rattle.engine_turns.specs.Phases.{AfterDisk, LandingsPhase, TurnStart}
use Rattle.engine_turns.specs.Told.{history_after}
use Rattle.engine_turns.specs.declared.outcome.Outcome.{Outcome}
use Rattle.engine_turns.specs.declared.outcome.Outcome.TheVariants.{Over, Starved, Went}
use Rattle.machine_core.specs.OwnParts.{halted_where, halts_by, own_of}
use Rattle.machine_core.specs.Replays.{is_same_gid}
use Rattle.machine_core.specs.Starts.{RunStart}
use Rattle.machine_core.specs.declared.events.Event.{Event}
use Rattle.machine_core.specs.declared.events.Event.TheVariants.{Called, Opened, Sized, Claimed, Landed, Settled, Cleared, Lost, Checked, Saved, Ended, Left, Stopped}
use Rattle.piece_table.specs.Changes.{is_in}
use Rattle.stored_run.proofs.OfOne.{Each}
use Rattle.std.proofs.lemmas.List.Elements.{Contains-append_left, Contains-append_right}
use Rattle.mark_costs.proofs.Wrong.{NoFault, fault_right, first_fault}

-- ---- tests

and_one : (x : Bool) → (x && true) ≡ x
and_one true = refl
and_one false = refl

landed_test : (x come r : Bool) → (x && not (r || come)) ≡ ((x && not come) && not r)
landed_test true true true = refl
landed_test true true false = refl
landed_test true false true = refl
landed_test true false false = refl
landed_test false come r = refl

both_tests : (x a b : Bool) → ((x && not a) && not b) ≡ (x && not (a || b))
both_tests true true b = refl
both_tests true false b = refl
both_tests false a b = refl

module _ (start : RunStart) (gid : Gid) where
  abbrev pub lands_for : ℕ → Event → Bool
  lands_for b (Landed other id m run now) = is_same_gid gid other && is_in b run
  lands_for b e = false

  -- no claim comes
  abbrev pub ClaimsNot : Event → Type 0
  ClaimsNot (Claimed other claim) = ⊥
  ClaimsNot e = Unit {0}

  module _ (c : Claim) (b : ℕ) where
    abbrev opened : List Event → Bool
    opened past = is_open_since (own_of start past gid) c b

    same_with : (t : Bool) (x : OwnEvent) (own : List OwnEvent) → is_open_since (x ∷ own) c b ≡ is_open_since own c b
        → is_open_since (cond t (x ∷ own) own) c b ≡ (is_open_since own c b && true)
    same_with true x own same = same ∙ sym (and_one (is_open_since own c b))
    same_with false x own same = sym (and_one (is_open_since own c b))

    halted_same : (t : Bool) (own : List OwnEvent) → is_open_since (halted_where t own) c b ≡ (is_open_since own c b && true)
    halted_same true own = sym (and_one (is_open_since own c b))
    halted_same false own = sym (and_one (is_open_since own c b))

    landed_with : (t : Bool) (id m : ℕ) (run : Run) (own : List OwnEvent)
        → is_open_since (cond t (Lands id m run ∷ own) own) c b ≡ (is_open_since own c b && not (t && is_in b run))
    landed_with true id m run own =
        landed_test (is_in b c.run) (list_any (lands_block b) (since (grants_claim c.id) own)) (is_in b run)
    landed_with false id m run own = sym (and_one (is_open_since own c b))

    open_one : (e : Event) (past : List Event) → ClaimsNot e → opened (e ∷ past) ≡ (opened past && not (lands_for b e))
    open_one (Called session asked now) past none =
        halted_same (halts_by start past (Called session asked now) asked gid) (own_of start past gid)
    open_one (Opened other verified blocks now) past none =
        same_with (is_same_gid gid other) (Opens verified blocks now) (own_of start past gid) refl
    open_one (Sized other id total) past none = same_with (is_same_gid gid other) (Sizes id total) (own_of start past gid) refl
    open_one (Claimed other claim) past none = absurd none
    open_one (Landed other id n run now) past none = landed_with (is_same_gid gid other) id n run (own_of start past gid)
    open_one (Settled other p right giver) past none =
        same_with (is_same_gid gid other) (Settles p right giver) (own_of start past gid) refl
    open_one (Cleared other p) past none = same_with (is_same_gid gid other) (Clears p) (own_of start past gid) refl
    open_one (Lost other id m p mark) past none = same_with (is_same_gid gid other) (Loses id m p mark) (own_of start past gid) refl
    open_one (Checked other right) past none = same_with (is_same_gid gid other) (Checks right) (own_of start past gid) refl
    open_one (Saved other now) past none = same_with (is_same_gid gid other) (Saves now) (own_of start past gid) refl
    open_one (Ended other how) past none = same_with (is_same_gid gid other) (Halts true) (own_of start past gid) refl
    open_one Left past none = sym (and_one (opened past))
    open_one Stopped past none = sym (and_one (opened past))

    -- behind events that claim nothing, what they land isn't open any more
    pub open_after : (events past : List Event) → Each ClaimsNot events
        → opened (history_after past events) ≡ (opened past && not (list_any (lands_for b) events))
    open_after [] past none = sym (and_one (opened past))
    open_after (e ∷ events) past (here, none) =
        open_after events (e ∷ past) none
        ∙ ap (λ (x : Bool). x && not (list_any (lands_for b) events)) (open_one e past here)
        ∙ both_tests (opened past) (lands_for b e) (list_any (lands_for b) events)

-- ---- the first block that is open

pub find_from : (p : ℕ → Bool) (first count b : ℕ) → first ≤ b
    → ((x : ℕ) → first ≤ x → x < first + count → p x ≡ nat_le b x) → is_some (find p (range_with_len first count)) ≡ true
    → find p (range_with_len first count) ≡ Some b
find_from p first zero b from same some = absurd cc
find_from p first (suc count) b from same some =
    by (p first) refl (same first (omega arith) (omega arith)) (find_from p (first + 1) count b)
  where
    by : (t : Bool) → p first ≡ t → p first ≡ nat_le b first
        → (first + 1 ≤ b → ((x : ℕ) → first + 1 ≤ x → x < first + 1 + count → p x ≡ nat_le b x)
        → is_some (find p (range_with_len (first + 1) count)) ≡ true → find p (range_with_len (first + 1) count) ≡ Some b)
        → find p (range_with_len first (suc count)) ≡ Some b
    by true is its rest =
        let at : nat_le b first ≡ true = sym its ∙ is in
        let low : b ≤ first = grind (arith, nat_tests) in
        let here : first ≡ b = omega (arith, low, from) in
        ap (λ (t : Bool). if_found t) is ∙ ap (λ (n : ℕ). Some n) here
      where
        if_found : Bool → Option ℕ
        if_found t = cond t (Some first) (find p (range_with_len (first + 1) count))
    by false is its rest =
        let at : nat_le b first ≡ false = sym its ∙ is in
        let high : first < b = grind (arith, nat_tests) in
        let skip : find p (range_with_len first (suc count)) ≡ find p (range_with_len (first + 1) count) =
        ap (λ (t : Bool). cond t (Some first) (find p (range_with_len (first + 1) count))) is in
        skip ∙ rest (omega (arith, high)) (λ x low less. same x (omega (arith, low)) (omega (arith, less)))
        (ap is_some (sym skip) ∙ some)

-- ---- what lands

module _ (at : TurnStart) (gid : Gid) (claim mirror : ℕ) where
  pub none_broken : (runs : List Run) (past events : List Event) (o : Outcome) → LandingsPhase at gid claim mirror runs past events o
      → (o ≡ Starved → ⊥) → NoFault events → o ≡ Went
  none_broken [] past events Went is fed none = refl
  none_broken [] past events Over is fed none = absurd is
  none_broken [] past events Starved is fed none = absurd is
  none_broken (run ∷ runs) past events o (inl off) fed none = absurd (by o off.0 off.1 fed)
    where
      by : (o : Outcome) → AfterDisk at gid (Landed gid claim mirror run at.now ∷ []) past events o → (o ≢ Went)
          → (o ≡ Starved → ⊥) → ⊥
      by Went is off_ fed_ = off_ refl
      by Over is off_ fed_ = first_fault gid is.0 events is.2 none
      by Starved is off_ fed_ = fed_ refl
  none_broken (run ∷ runs) past events o (inr on) fed none =
      none_broken runs (history_after past on.front) on.rest o on.second fed (fault_right on.front on.rest events on.cut none)

  -- each run lands
  pub all_landed : (runs : List Run) (past events : List Event) → LandingsPhase at gid claim mirror runs past events Went
      → (run : Run) → Contains runs run → Contains events (Landed gid claim mirror run at.now)
  all_landed [] past events is run there = absurd (let within = there.1 in omega (arith, within))
  all_landed (r ∷ runs) past events (inl off) run there = absurd (off.1 refl)
  all_landed (r ∷ runs) past events (inr on) run (zero, within, is) =
      subst (λ (es : List Event). Contains es (Landed gid claim mirror run at.now)) (sym on.cut)
      (Contains-append_left on.front on.rest (Landed gid claim mirror run at.now)
      (subst (λ (es : List Event). Contains es (Landed gid claim mirror run at.now)) (sym on.first)
      (0, omega arith, ap (λ (x : Run). Landed gid claim mirror x at.now) is)))
  all_landed (r ∷ runs) past events (inr on) run (suc k, within, is) =
      subst (λ (es : List Event). Contains es (Landed gid claim mirror run at.now)) (sym on.cut)
      (Contains-append_right on.front on.rest (Landed gid claim mirror run at.now)
      (all_landed runs (history_after past on.front) on.rest on.second run (k, omega (arith, within), is)))
