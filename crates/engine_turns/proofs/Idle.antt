-- The claims of a download end where it leaves the active list.
use Rattle.std.proofs.Common.{◌≡◌, ℕ, Bool, true, false, Option, Some, ◌-◌, ◌≤◌, ◌==◌, ◌&&◌, ◌||◌, List, [], ◌∷◌, length, refl, ap, ◌∙◌, subst, arith}
use Rattle.std.specs.Prelude.{filter, find, not, sum_by}
use Rattle.std.specs.List.{list_any}
use Rattle.std.specs.Option.{is_some}
use Rattle.std.proofs.lemmas.Bool.{eqb-true}
use Rattle.std.proofs.lemmas.List.Sums.{sum_by-append, sum_by-cons, sum_by-remove}
use Rattle.dl_kinds.specs.declared.claims.Claim.{Claim}
use Rattle.dl_kinds.specs.declared.gid.Gid.{Gid}
use Rattle.dl_kinds.specs.declared.runs.Run.{Run}
use Rattle.dl_kinds.specs.declared.status.Status.{Status}
use Rattle.dl_kinds.specs.declared.status.Status.TheVariants as status
use Rattle.dl_history.specs.OwnEvents.{OwnEvent, Opens, Grants, Lands, Settles, Clears, Loses, Sizes, Saves, Checks, Halts}
use Rattle.dl_history.specs.StandingClaims.{blocks_in, ends_claim, first_open_since, granted_claims, is_open_since, is_probe, is_standing, lands_block, since, grants_claim, standing_claims}
use Rattle.dl_queue.specs.Calls.{QueueCall, Stop, after, by_status, is_unfinished, stopped_from, unless_refused}
use Rattle.dl_queue.specs.Endings.{ended_status, ending_by_status}
use Rattle.dl_queue.specs.Lists.{QueueLists}
use Rattle.dl_queue.specs.Places.{active_place, status_of}
use Rattle.dl_queue.specs.Rising.{moved_up, risen}
use Rattle.dl_queue.specs.declared.kinds.Ending.{Ending}
use Rattle.dl_queue.specs.declared.kinds.Ending.TheVariants as ending
use Rattle.piece_table.specs.Changes.{is_in}
use Rattle.machine_core.specs.OwnParts.{halted_where, halts_by, is_shutdown, own_of, with_own}
use Rattle.machine_core.specs.Replays.{is_active_in, is_same_gid, queue_in, stop_of}
use Rattle.machine_core.specs.RunLegal.{MayBeClaimed}
use Rattle.machine_core.specs.Starts.{RunStart}
use Rattle.machine_core.specs.declared.calls.Call.{Call}
use Rattle.machine_core.specs.declared.ends.End.{End}
use Rattle.machine_core.specs.declared.events.Event.{Event}
use Rattle.machine_core.specs.declared.events.Event.TheVariants.{Called, Opened, Sized, Claimed, Landed, Settled, Cleared, Lost, Checked, Saved, Ended, Left, Stopped}
use Rattle.engine_turns.specs.RunLaws.{InactiveAreIdle}
use Rattle.engine_turns.proofs.Going.{stop_with}
use Rattle.engine_turns.proofs.Once.{active_there, by_status_of, in_active, is_one, some_active}

-- ---- filters of nothing

none_on : (p q : Claim → Bool) → ((c : Claim) → q c ≡ true → p c ≡ true) → (c : Claim) (cs : List Claim)
    → (x : Bool) → p c ≡ x → (y : Bool) → q c ≡ y → filter p (c ∷ cs) ≡ [] → (filter p cs ≡ [] → filter q cs ≡ [])
    → filter q (c ∷ cs) ≡ []
none_on p q weaker c cs true px y qy none rest = absurd (let h = rw px at none in cc)
none_on p q weaker c cs false px true qy none rest = absurd (let h = weaker c qy in cc)
none_on p q weaker c cs false px false qy none rest = rw qy (rest (rw px at none))

none_of : (p q : Claim → Bool) → ((c : Claim) → q c ≡ true → p c ≡ true) → (cs : List Claim) → filter p cs ≡ []
    → filter q cs ≡ []
none_of p q weaker [] none = refl
none_of p q weaker (c ∷ cs) none = none_on p q weaker c cs (p c) refl (q c) refl none (none_of p q weaker cs)

none_at_all : (own : List OwnEvent) (ends : Bool) (cs : List Claim) → filter (is_standing (Halts ends ∷ own)) cs ≡ []
none_at_all own ends [] = refl
none_at_all own ends (c ∷ cs) = none_at_all own ends cs

-- ---- one event more

abbrev is_grant : OwnEvent → Bool
is_grant (Grants claim) = true
is_grant e = false

halted_idle : (own : List OwnEvent) (ends : Bool) → standing_claims (Halts ends ∷ own) ≡ []
halted_idle own ends = none_at_all own ends (granted_claims own)

and_true : (x y : Bool) → (x && y) ≡ true → (x ≡ true) × (y ≡ true)
and_true true y h = (refl, h)
and_true false y h = absurd cc

not_or : (x y : Bool) → not (x || y) ≡ true → not y ≡ true
not_or true y h = absurd cc
not_or false y h = h

found_on : (p q : ℕ → Bool) (b : ℕ) (bs : List ℕ) (y : Bool) → q b ≡ y → (x : Bool) → p b ≡ x
    → (q b ≡ true → p b ≡ true) → (is_some (find q bs) ≡ true → is_some (find p bs) ≡ true)
    → is_some (find q (b ∷ bs)) ≡ true → is_some (find p (b ∷ bs)) ≡ true
found_on p q b bs y qy true px weaker rest h = rw px refl
found_on p q b bs true qy false px weaker rest h = absurd (let w = weaker qy in cc)
found_on p q b bs false qy false px weaker rest h = rw px (rest (rw qy at h))

found_more : (p q : ℕ → Bool) → ((b : ℕ) → q b ≡ true → p b ≡ true) → (bs : List ℕ) → is_some (find q bs) ≡ true
    → is_some (find p bs) ≡ true
found_more p q weaker [] h = h
found_more p q weaker (b ∷ bs) h = found_on p q b bs (q b) refl (p b) refl (weaker b) (found_more p q weaker bs) h

-- blocks that come leave no block open that wasn't
landed_open : (own : List OwnEvent) (id mirror : ℕ) (run : Run) (c : Claim) (b : ℕ)
    → is_open_since (Lands id mirror run ∷ own) c b ≡ true → is_open_since own c b ≡ true
landed_open own id mirror run c b h =
    let parts = and_true (is_in b c.run) (not (list_any (lands_block b) (since (grants_claim c.id) (Lands id mirror
    run ∷ own)))) h in
    rw (parts.0, not_or (is_in b run) (list_any (lands_block b) (since (grants_claim c.id) own)) parts.1) refl

or_weaker : (x y z : Bool) → (y ≡ true → z ≡ true) → (x || y) ≡ true → (x || z) ≡ true
or_weaker true y z weaker h = refl
or_weaker false y z weaker h = weaker h

landed_standing : (own : List OwnEvent) (id mirror : ℕ) (run : Run) (c : Claim)
    → is_standing (Lands id mirror run ∷ own) c ≡ true → is_standing own c ≡ true
landed_standing own id mirror run c h =
    let ends = not (list_any (ends_claim c.id) (since (grants_claim c.id) own)) in
    let parts = and_true ends (is_probe c || is_some (first_open_since (Lands id mirror run ∷ own) c)) h in
    rw (
      parts.0,
      or_weaker (is_probe c) (is_some (first_open_since (Lands id mirror run ∷ own) c)) (is_some (first_open_since
          own c))
          (found_more (is_open_since own c) (is_open_since (Lands id mirror run ∷ own) c) (landed_open own id
          mirror run c) (blocks_in c.run)) parts.1,
    ) refl

-- a claim that fails, or whose probe tells a length, stands no longer
ended_standing : (own : List OwnEvent) (x : OwnEvent) (c : Claim) (ends : Bool)
    → (not (ends || list_any (ends_claim c.id) (since (grants_claim c.id) own)) && (is_probe c || is_some
    (first_open_since own c))) ≡ true
    → is_standing own c ≡ true
ended_standing own x c ends h =
    let rest = is_probe c || is_some (first_open_since own c) in
    let any = list_any (ends_claim c.id) (since (grants_claim c.id) own) in
    let parts = and_true (not (ends || any)) rest h in
    rw (not_or ends any parts.0, parts.1) refl

-- events that grant no claim leave none that didn't stand
own_idle : (own : List OwnEvent) (x : OwnEvent) → is_grant x ≡ false → standing_claims own ≡ [] → standing_claims
    (x ∷ own) ≡ []
own_idle own (Opens verified blocks now) plain none = none
own_idle own (Grants claim) plain none = absurd cc
own_idle own (Lands id mirror run) plain none =
    none_of (is_standing own) (is_standing (Lands id mirror run ∷ own)) (landed_standing own id mirror run)
    (granted_claims own) none
own_idle own (Settles piece right giver) plain none = none
own_idle own (Clears piece) plain none = none
own_idle own (Loses id mirror piece mark) plain none =
    none_of (is_standing own) (is_standing (Loses id mirror piece mark ∷ own))
    (λ c h. ended_standing own (Loses id mirror piece mark) c (id == c.id) h) (granted_claims own) none
own_idle own (Sizes id total) plain none =
    none_of (is_standing own) (is_standing (Sizes id total ∷ own))
    (λ c h. ended_standing own (Sizes id total) c (id == c.id) h) (granted_claims own) none
own_idle own (Saves now) plain none = none
own_idle own (Checks right) plain none = none
own_idle own (Halts ends) plain none = halted_idle own ends

with_idle : (g other : Gid) (x : OwnEvent) (own : List OwnEvent) → is_grant x ≡ false → standing_claims own ≡ []
    → standing_claims (with_own other g x own) ≡ []
with_idle g other x own plain none = by (is_same_gid g other) refl
  where
    by : (b : Bool) → is_same_gid g other ≡ b → standing_claims (with_own other g x own) ≡ []
    by true is = rw is (own_idle own x plain none)
    by false is = rw is none

-- ---- who stays active

counted_on : (g x : Gid) (xs : List Gid) (b : Bool) → (x.0 == g.0) ≡ b
    → (1 ≤ sum_by (in_active g) xs → list_any (is_same_gid g) xs ≡ true)
    → 1 ≤ sum_by (in_active g) (x ∷ xs) → list_any (is_same_gid g) (x ∷ xs) ≡ true
counted_on g x xs true here rest many = rw here refl
counted_on g x xs false here rest many =
    let joined = sum_by-cons (in_active g) x xs in
    let none : in_active g x ≡ 0 = ap is_one here in
    rw here (rest (omega arith))

counted : (g : Gid) (xs : List Gid) → 1 ≤ sum_by (in_active g) xs → list_any (is_same_gid g) xs ≡ true
counted g [] many = let none : sum_by (in_active g) [] ≡ 0 = refl in absurd (omega arith)
counted g (x ∷ xs) many = counted_on g x xs (x.0 == g.0) refl (counted g xs) many

abbrev More : Gid → QueueLists → QueueLists → Type 0
More g old new = sum_by (in_active g) old.active ≤ sum_by (in_active g) new.active

risen_more : (g : Gid) (q changed : QueueLists) → More g q changed → More g q (moved_up changed)
risen_more g q changed more =
    let joined = sum_by-append (in_active g) changed.active (risen (changed.limit - length changed.active)
    changed.waiting) in
    omega arith

stop_more : (g gid : Gid) (end : Ending) (q : QueueLists) → (gid.0 == g.0) ≡ false
    → More g q (unless_refused (by_status is_unfinished (status_of q gid)) (moved_up (stopped_from (status_of q
    gid) gid end q)) q)
stop_more g gid end q apart =
    by_status_of q gid
    (λ (st : Option Status). More g q (unless_refused (by_status is_unfinished st) (moved_up (stopped_from st gid
    end q)) q))
    (record {
      active = λ within.
          risen_more g q (stopped_from (Some status.Active) gid end q)
          (let taken = sum_by-remove (in_active g) q.active (active_place gid q.active) gid within in
          let there = active_there g gid q.active within in
          let none : in_active g gid ≡ 0 = ap is_one apart in
          omega arith);
      paused = λ within. risen_more g q (stopped_from (Some status.Paused) gid end q) (omega arith);
      waiting = λ within. risen_more g q (stopped_from (Some status.Waiting) gid end q) (omega arith);
      ended = λ none. refused;
      none = λ none. omega arith;
    })
  where
    refused : (e : Ending) → More g q (unless_refused (by_status is_unfinished (Some (ended_status e)))
        (moved_up (stopped_from (Some (ended_status e)) gid end q)) q)
    refused ending.Failed = omega arith
    refused ending.Complete = omega arith
    refused ending.Removed = omega arith

-- one that isn't active once another ended wasn't so before
inactive_before : (g gid : Gid) (how : End) (q : QueueLists) → (gid.0 == g.0) ≡ false
    → list_any (is_same_gid g) (after q (stop_of gid how)).active ≡ false → list_any (is_same_gid g) q.active ≡ false
inactive_before g gid how q apart un = by (list_any (is_same_gid g) q.active) refl
  where
    s : (st : Status) × (stop_of gid how ≡ Stop gid st)
    s = stop_with gid how

    by : (b : Bool) → list_any (is_same_gid g) q.active ≡ b → list_any (is_same_gid g) q.active ≡ false
    by true is =
        let more = stop_more g gid (ending_by_status s.0) q apart in
        let some = some_active g q.active is in
        let there = counted g (after q (Stop gid s.0)).active (omega arith) in
        let here : list_any (is_same_gid g) (after q (stop_of gid how)).active ≡ true =
        ap (λ (c : QueueCall). list_any (is_same_gid g) (after q c).active) s.1 ∙ there in
        absurd cc
    by false is = is

-- ---- every legal history

called_idle : (g : Gid) (start : RunStart) (past : List Event) (e : Event) (asked : Call) (b : Bool)
    → halts_by start past e asked g ≡ b
    → (is_active_in start past g ≡ false → standing_claims (own_of start past g) ≡ [])
    → is_active_in start (e ∷ past) g ≡ false → standing_claims (halted_where b (own_of start past g)) ≡ []
called_idle g start past e asked true is before un = halted_idle (own_of start past g) false
called_idle g start past e asked false is before un = before (inactive (is_shutdown asked) (is_active_in start past
    g) (is_active_in start (e ∷ past) g) is un)
  where
    inactive : (shut was now : Bool) → (shut || was && not now) ≡ false → now ≡ false → was ≡ false
    inactive true was now h un = absurd cc
    inactive false false now h un = refl
    inactive false true true h un = absurd cc
    inactive false true false h un = absurd cc

claimed_idle : (g : Gid) (start : RunStart) (past : List Event) (gid : Gid) (claim : Claim)
    → MayBeClaimed start past gid claim → (b : Bool) → is_same_gid g gid ≡ b → is_active_in start past g ≡ false
    → standing_claims (own_of start past g) ≡ [] → standing_claims (own_of start (Claimed gid claim ∷ past) g) ≡ []
claimed_idle g start past gid claim may true is un none =
    let same : gid ≡ g = ap (λ (n : ℕ). record { 0 = n }) (eqb-true gid.0 g.0 is) in
    let active : is_active_in start past g ≡ true = subst (λ (h : Gid). is_active_in start past h ≡ true) same
    may.active in
    absurd cc
claimed_idle g start past gid claim may false is un none = rw is none

ended_idle : (g : Gid) (start : RunStart) (past : List Event) (gid : Gid) (how : End) (b : Bool) → is_same_gid g gid ≡ b
    → (is_active_in start past g ≡ false → standing_claims (own_of start past g) ≡ [])
    → is_active_in start (Ended gid how ∷ past) g ≡ false → standing_claims (own_of start (Ended gid how ∷ past) g) ≡ []
ended_idle g start past gid how true is before un = rw is (halted_idle (own_of start past g) true)
ended_idle g start past gid how false is before un =
    rw is (before (inactive_before g gid how (queue_in start past) is un))

pub inactive_idle : InactiveAreIdle
inactive_idle start [] g legal un = refl
inactive_idle start (Called session asked now ∷ past) g legal un =
    called_idle g start past (Called session asked now) asked (halts_by start past (Called session asked now) asked
    g) refl
    (inactive_idle start past g legal.0) un
inactive_idle start (Opened gid verified blocks now ∷ past) g legal un =
    with_idle g gid (Opens verified blocks now) (own_of start past g) refl (inactive_idle start past g legal.0 un)
inactive_idle start (Sized gid id total ∷ past) g legal un =
    with_idle g gid (Sizes id total) (own_of start past g) refl (inactive_idle start past g legal.0 un)
inactive_idle start (Claimed gid claim ∷ past) g legal un =
    claimed_idle g start past gid claim legal.1 (is_same_gid g gid) refl un (inactive_idle start past g legal.0 un)
inactive_idle start (Landed gid id mirror run now ∷ past) g legal un =
    with_idle g gid (Lands id mirror run) (own_of start past g) refl (inactive_idle start past g legal.0 un)
inactive_idle start (Settled gid piece right giver ∷ past) g legal un =
    with_idle g gid (Settles piece right giver) (own_of start past g) refl (inactive_idle start past g legal.0 un)
inactive_idle start (Cleared gid piece ∷ past) g legal un =
    with_idle g gid (Clears piece) (own_of start past g) refl (inactive_idle start past g legal.0 un)
inactive_idle start (Lost gid id mirror piece mark ∷ past) g legal un =
    with_idle g gid (Loses id mirror piece mark) (own_of start past g) refl (inactive_idle start past g legal.0 un)
inactive_idle start (Checked gid right ∷ past) g legal un =
    with_idle g gid (Checks right) (own_of start past g) refl (inactive_idle start past g legal.0 un)
inactive_idle start (Saved gid now ∷ past) g legal un =
    with_idle g gid (Saves now) (own_of start past g) refl (inactive_idle start past g legal.0 un)
inactive_idle start (Ended gid how ∷ past) g legal un = ended_idle g start past gid how (is_same_gid g gid) refl
    (inactive_idle start past g legal.0) un
inactive_idle start (Left ∷ past) g legal un = inactive_idle start past g legal.0 un
inactive_idle start (Stopped ∷ past) g legal un = halted_idle (own_of start past g) false
