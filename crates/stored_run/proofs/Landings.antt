-- Runs of blocks that land one after another: their events, and what these leave of the run.
use Rattle.std.proofs.Common.{◌≡◌, ◌≢◌, inl, inr, ⊎_elim, ℕ, ◌<◌, ◌+◌, true, Some, List, [], ◌∷◌, ◌++◌, map, length, get_or, drop, take, zero, suc, refl, sym, ap, ◌∙◌, subst, arith}
use Rattle.std.specs.Prelude.{Contains, IsSome, Option, nat_le, nat_lt, slice_get, sum_by}
use Rattle.std.proofs.lemmas.Option.{get_or_from_slice_get}
use Rattle.std.proofs.lemmas.Bool.{cases_eq, leb-true}
use Rattle.std.proofs.Math.Seq.{take-suc}
use Rattle.std.proofs.lemmas.List.{append-nil, append_assoc, take-append-drop}
use Rattle.std.proofs.lemmas.List.Sums.{sum_by-cons}
use Rattle.dl_history.specs.OwnEvents.{OwnEvent, Lands}
use Rattle.dl_history.specs.StandingClaims.{is_open_since, standing_claims}
use Rattle.dl_kinds.specs.declared.claims.Claim.{Claim}
use Rattle.dl_kinds.specs.declared.gid.Gid.{Gid}
use Rattle.dl_kinds.specs.declared.runs.Moment.{Moment}
use Rattle.dl_kinds.specs.declared.runs.Run.{Run}
use Rattle.dl_history.proofs.Bools.{and_left}
use Rattle.dl_history.proofs.Early.{below_end}
use Rattle.piece_table.specs.Changes.{is_in}
use Rattle.piece_table.specs.NewRuns.{IsIn}
use Rattle.engine_turns.specs.ClaimRows.{blocks_in_event}
use Rattle.engine_turns.specs.Phases.{AfterDisk, AndThen, LandingsPhase, TurnStart}
use Rattle.engine_turns.specs.Told.{history_after}
use Rattle.engine_turns.specs.declared.outcome.Outcome.{Outcome}
use Rattle.engine_turns.specs.declared.outcome.Outcome.TheVariants.{Over, Starved, Went}
use Rattle.machine_core.specs.Claiming.{AreOpenIn}
use Rattle.machine_core.specs.MachineViews.{StandsUnder}
use Rattle.machine_core.specs.OwnParts.{own_of}
use Rattle.machine_core.specs.Reads.{lengths_of_gid}
use Rattle.machine_core.specs.RunLegal.{IsLaterThan, MayFollow, download_in, known_lengths}
use Rattle.machine_core.specs.Starts.{Download, RunStart}
use Rattle.machine_core.specs.declared.events.Event.{Event}
use Rattle.machine_core.specs.declared.events.Event.TheVariants.{Landed}
use Rattle.stored_run.specs.Deliveries.{IsPartOf, LandedBetween, landed_total}
use Rattle.stored_run.specs.Landings.{IsOneUnder}
use Rattle.stored_run.specs.Steps.{Continues, DoesPart, turn_from}
use Rattle.stored_run.specs.Views.{GoesOpened, IsGoing, own_in}
use Rattle.stored_run.specs.declared.run.StoredView.{StoredView}
use Rattle.stored_run.proofs.Doing.{did_wider, history_on, part_on, part_stop}
use Rattle.stored_run.proofs.Findings.{same_lengths}
use Rattle.stored_run.proofs.Kept.{own_at, own_beside}
use Rattle.stored_run.proofs.LandedCounts.{count_on, fault_none, none_in}
use Rattle.stored_run.proofs.OwnLandings.{IsOpenFor, landed_own, open_for, open_later, open_may_land, stood_before}
use Rattle.stored_run.proofs.RunParts.{block_in_part, blocks_in_runs, earlier_parts, part_from, part_to, some_blocks_in}
use Rattle.stored_run.proofs.Single.{IsOwnOf, goes_then, moved}

-- ---- the phase

abbrev pub landed_events : Gid → (id mirror : ℕ) → Moment → List Run → List Event
landed_events gid id mirror now runs = map (λ run. Landed gid id mirror run now) runs

module _ (at : TurnStart) (gid : Gid) (id mirror : ℕ) where
  landings_on : (xs ys : List Run) (past front rest : List Event) (o : Outcome)
      → LandingsPhase at gid id mirror xs past front Went
      → LandingsPhase at gid id mirror ys (history_after past front) rest o
      → LandingsPhase at gid id mirror (xs ++ ys) past (front ++ rest) o
  landings_on [] ys past front rest o none next =
      subst (λ (f : List Event). LandingsPhase at gid id mirror ys past (f ++ rest) o) (sym none)
      (subst (λ (f : List Event). LandingsPhase at gid id mirror ys (history_after past f) rest o) none next)
  landings_on (x ∷ xs) ys past front rest o (inl stopped) next = absurd (stopped.1 refl)
  landings_on (x ∷ xs) ys past front rest o (inr went) next = inr (record {
    front = went.front;
    rest = went.rest ++ rest;
    cut = ap (λ (f : List Event). f ++ rest) went.cut ∙ append_assoc went.front went.rest rest;
    first = went.first;
    second = landings_on xs ys (history_after past went.front) went.rest rest o went.second
        (subst (λ (p : List Event). LandingsPhase at gid id mirror ys p rest o)
        (ap (history_after past) went.cut ∙ history_on past went.front went.rest) next);
  })

  landings_stop : (xs ys : List Run) (past events : List Event) (o : Outcome) → o ≢ Went
      → LandingsPhase at gid id mirror xs past events o → LandingsPhase at gid id mirror (xs ++ ys) past events o
  landings_stop [] ys past events Went stopped is = absurd (stopped refl)
  landings_stop [] ys past events Over stopped is = absurd is
  landings_stop [] ys past events Starved stopped is = absurd is
  landings_stop (x ∷ xs) ys past events o stopped (inl here) = inl here
  landings_stop (x ∷ xs) ys past events o stopped (inr went) = inr (record {
    front = went.front;
    rest = went.rest;
    cut = went.cut;
    first = went.first;
    second = landings_stop xs ys (history_after past went.front) went.rest o stopped went.second;
  })

  -- some runs, and then others
  pub landings_seam : (xs ys : List Run) (past events : List Event) (o : Outcome)
      → AndThen (LandingsPhase at gid id mirror xs) (LandingsPhase at gid id mirror ys) past events o
      → LandingsPhase at gid id mirror (xs ++ ys) past events o
  landings_seam xs ys past events o (inl stopped) = landings_stop xs ys past events o stopped.1 stopped.0
  landings_seam xs ys past events o (inr went) =
      subst (λ (f : List Event). LandingsPhase at gid id mirror (xs ++ ys) past f o) (sym went.cut)
      (landings_on xs ys past went.front went.rest o went.first went.second)

  pub landings_events : (runs : List Run) (past events : List Event) → LandingsPhase at gid id mirror runs past events Went
      → events ≡ landed_events gid id mirror at.now runs
  landings_events [] past events none = none
  landings_events (x ∷ runs) past events (inl stopped) = absurd (stopped.1 refl)
  landings_events (x ∷ runs) past events (inr went) =
      went.cut ∙ (ap (λ (f : List Event). f ++ went.rest) went.first
      ∙ ap (λ (f : List Event). Landed gid id mirror x at.now ∷ f)
      (landings_events runs (history_after past went.front) went.rest went.second))

-- ---- what the events leave

landed_is : (gid : Gid) (id mirror : ℕ) (run : Run) (now : Moment)
    → IsOwnOf (Landed gid id mirror run now) gid (Lands id mirror run)
landed_is gid id mirror run now = record { own = λ start past g. refl; closed = λ own is. is }

module _ (start : RunStart) (gid : Gid) (id mirror : ℕ) (now : Moment) where
  abbrev past_after : List Event → List Run → List Event
  past_after past runs = history_after past (landed_events gid id mirror now runs)

  own_after : (runs : List Run) (past : List Event)
      → own_of start (past_after past runs) gid ≡ landed_own id mirror runs (own_of start past gid)
  own_after [] past = refl
  own_after (x ∷ runs) past =
      own_after runs (Landed gid id mirror x now ∷ past)
      ∙ ap (landed_own id mirror runs) (own_at gid (Lands id mirror x) (own_of start past gid))

  other_after : (other : Gid) → gid ≢ other → (runs : List Run) (past : List Event)
      → own_of start (past_after past runs) other ≡ own_of start past other
  other_after other apart [] past = refl
  other_after other apart (x ∷ runs) past =
      other_after other apart runs (Landed gid id mirror x now ∷ past)
      ∙ own_beside gid other (Lands id mirror x) (own_of start past other) apart

  going_after : (runs : List Run) (past : List Event) → GoesOpened start past gid
      → GoesOpened start (past_after past runs) gid
  going_after [] past going = going
  going_after (x ∷ runs) past going =
      going_after runs (Landed gid id mirror x now ∷ past)
      (goes_then (Landed gid id mirror x now) gid (Lands id mirror x) start past (landed_is gid id mirror x now) refl going)

  lengths_after : (runs : List Run) (past : List Event)
      → known_lengths start (past_after past runs) gid ≡ known_lengths start past gid
  lengths_after [] past = refl
  lengths_after (x ∷ runs) past =
      lengths_after runs (Landed gid id mirror x now ∷ past)
      ∙ same_lengths start past gid (Landed gid id mirror x now) (Lands id mirror x) (landed_is gid id mirror x now) refl refl

  count_after : (runs : List Run) (past : List Event)
      → landed_total (past_after past runs) ≡ blocks_in_runs runs + landed_total past
  count_after [] past = omega arith
  count_after (x ∷ runs) past =
      let rest = count_after runs (Landed gid id mirror x now ∷ past) in
      let here = sum_by-cons blocks_in_event (Landed gid id mirror x now) past in
      let many = sum_by-cons (λ (run : Run). run.count) x runs in
      omega (arith, rest, here, many)

pub in_run_of : (run : Run) (b : ℕ) → is_in b run ≡ true → IsIn b run
in_run_of run b inside = record {
  from = leb-true run.first b (and_left (nat_le run.first b) (nat_lt b (run.first + run.count)) inside);
  before = below_end b run inside;
}

-- ---- from one state of the run to the next

module _ {D : Type 0} where
  pub record LandedAll (old new : StoredView D) (gid : Gid) (claim : Claim) (runs : List Run) : Type 0 where
    pub own : own_in new gid ≡ landed_own claim.id claim.mirror runs (own_in old gid)
    pub others : (other : Gid) → gid ≢ other → own_in new other ≡ own_in old other
    pub going : IsGoing old gid → IsGoing new gid
    pub lengths : lengths_of_gid new.machine gid ≡ lengths_of_gid old.machine gid
    pub counted : LandedBetween (blocks_in_runs runs) old.machine.past new.machine.past

  module _ (old new : StoredView D) (gid : Gid) (claim : Claim) (runs : List Run) (f f' : ℕ)
      (start : new.machine.start ≡ old.machine.start)
      (did : DoesPart (λ at. LandingsPhase at gid claim.id claim.mirror runs) old f new f' Went) where
    past_is : new.machine.past ≡ history_after old.machine.past (landed_events gid claim.id claim.mirror old.now runs)
    past_is = did.grown ∙ ap (history_after old.machine.past)
        (landings_events (turn_from old f) gid claim.id claim.mirror runs old.machine.past did.events (did.is f (omega arith)))

    moved_on : (P : RunStart → List Event → Type 0)
        → P old.machine.start (history_after old.machine.past (landed_events gid claim.id claim.mirror old.now runs))
        → P new.machine.start new.machine.past
    moved_on P holds = moved P old.machine.start new.machine.start
        (history_after old.machine.past (landed_events gid claim.id claim.mirror old.now runs)) new.machine.past start past_is
        holds

    pub landed_all : LandedAll old new gid claim runs
    landed_all =
        let s = old.machine.start in
        let p = old.machine.past in
        record {
          own = moved_on (λ (s' : RunStart) (p' : List Event). own_of s' p' gid
              ≡ landed_own claim.id claim.mirror runs (own_in old gid))
              (own_after s gid claim.id claim.mirror old.now runs p);
          others = λ other apart. moved_on (λ (s' : RunStart) (p' : List Event). own_of s' p' other ≡ own_in old other)
              (other_after s gid claim.id claim.mirror old.now other apart runs p);
          going = λ going. moved_on (λ (s' : RunStart) (p' : List Event). GoesOpened s' p' gid)
              (going_after s gid claim.id claim.mirror old.now runs p going);
          lengths = moved_on (λ (s' : RunStart) (p' : List Event). known_lengths s' p' gid
              ≡ lengths_of_gid old.machine gid)
              (lengths_after s gid claim.id claim.mirror old.now runs p);
          counted = moved_on (λ (s' : RunStart) (p' : List Event). LandedBetween (blocks_in_runs runs) p p')
              (count_after s gid claim.id claim.mirror old.now runs p);
        }

  -- ---- the next run

  module _ (old new : StoredView D) (gid : Gid) (claim : Claim) (run : Run) (runs : List Run)
      (stands : StandsUnder old.machine claim.id gid claim) (are : AreOpenIn (own_in old gid) claim run runs)
      (n : ℕ) (d : Run) (within : n < length runs) (so : LandedAll old new gid claim (take n runs)) where
    next_open : IsOpenFor (own_in new gid) claim (get_or runs n d)
    next_open = subst (λ (own : List OwnEvent). IsOpenFor own claim (get_or runs n d)) (sym so.own)
        (open_later claim.id claim.mirror (take n runs) (own_in old gid) claim (get_or runs n d)
        (earlier_parts (λ (b : ℕ). is_open_since (own_in old gid) claim b ≡ true) run runs are n d within)
        (open_for (own_in old gid) claim (get_or runs n d) stands.stands
        (some_blocks_in (λ (b : ℕ). is_open_since (own_in old gid) claim b ≡ true) run runs are n d within)
        (λ b inside. (block_in_part (λ (x : ℕ). is_open_since (own_in old gid) claim x ≡ true) run runs are n d within b
        (in_run_of (get_or runs n d) b inside)).1)))

    pub next_part : IsPartOf run (get_or runs n d)
    next_part = record {
      some = some_blocks_in (λ (b : ℕ). is_open_since (own_in old gid) claim b ≡ true) run runs are n d within;
      from = part_from (λ (b : ℕ). is_open_since (own_in old gid) claim b ≡ true) run runs are n d within;
      to = part_to (λ (b : ℕ). is_open_since (own_in old gid) claim b ≡ true) run runs are n d within;
    }

    pub next_may : (download : Download) → download_in new.machine.start new.machine.past gid ≡ Some download
        → IsLaterThan new.machine.past new.now
        → MayFollow new.machine.start new.machine.past (Landed gid claim.id claim.mirror (get_or runs n d) new.now)
    next_may download added later = (
      record { download = download; added = added; may = open_may_land (own_in new gid) claim (get_or runs n d) next_open },
      later,
    )

    pub next_one : IsOneUnder new.machine gid claim
    next_one other twin there same = ⊎_elim
        (λ (here : gid.0 ≡ other.0).
        let is : gid ≡ other = ap (λ (k : ℕ). record { 0 = k }) here in
        stands.one other twin
        (subst (λ (g : Gid). Contains (standing_claims (own_in old g)) twin) is
        (stood_before claim.id claim.mirror (take n runs) (own_in old gid) twin
        (subst (λ (own : List OwnEvent). Contains (standing_claims own) twin) so.own
        (subst (λ (g : Gid). Contains (standing_claims (own_in new g)) twin) (sym is) there)))) same)
        (λ (apart : gid.0 ≢ other.0).
        stands.one other twin
        (subst (λ (own : List OwnEvent). Contains (standing_claims own) twin)
        (so.others other (λ is. apart (ap (λ (g : Gid). g.0) is))) there) same)
        (cases_eq gid.0 other.0)

-- ---- one run more

one_phase : (at : TurnStart) (gid : Gid) (id mirror : ℕ) (run : Run) (past events : List Event)
    → AfterDisk at gid (Landed gid id mirror run at.now ∷ []) past events Went
    → LandingsPhase at gid id mirror (run ∷ []) past events Went
one_phase at gid id mirror run past events is =
    inr (record { front = events; rest = []; cut = sym (append-nil events); first = is; second = refl })

pub taken_next : (runs : List Run) (n : ℕ) (run : Run) → n < length runs → run ≡ get_or runs n run
    → take (n + 1) runs ≡ take n runs ++ run ∷ []
taken_next runs n run within is =
    (let e : n + 1 ≡ suc n = omega arith in ap (λ (k : ℕ). take k runs) e)
    ∙ (take-suc runs n run within ∙ ap (λ (r : Run). take n runs ++ r ∷ []) (sym is))

taken_rest : (runs : List Run) (n : ℕ) (run : Run) → n < length runs → run ≡ get_or runs n run
    → take n runs ++ run ∷ drop (n + 1) runs ≡ runs
taken_rest runs n run within is =
    sym (append_assoc (take n runs) (run ∷ []) (drop (n + 1) runs))
    ∙ (ap (λ (xs : List Run). xs ++ drop (n + 1) runs) (sym (taken_next runs n run within is))
    ∙ take-append-drop (n + 1) runs)

broken_none : (at : TurnStart) (gid : Gid) (due past events : List Event) (o : Outcome) → o ≢ Went
    → AfterDisk at gid due past events o → sum_by blocks_in_event events ≡ 0
broken_none at gid due past events Went broken is = absurd (broken refl)
broken_none at gid due past events Over broken is = fault_none at gid events is
broken_none at gid due past events Starved broken is = none_in events [] refl is

module _ {D : Type 0} (old mid new : StoredView D) (gid : Gid) (claim : Claim) (runs : List Run) (n : ℕ) (run : Run)
    (within : n < length runs) (at_is : run ≡ get_or runs n run) (f f' f'' : ℕ) (on : Continues n old mid)
    (did : DoesPart (λ at. LandingsPhase at gid claim.id claim.mirror (take n runs)) old f mid f' Went) where
  abbrev landing_of : TurnStart → List Event
  landing_of at = Landed gid claim.id claim.mirror run at.now ∷ []

  pub lands_next : DoesPart (λ at. AfterDisk at gid (landing_of at)) mid f' new f'' Went
      → DoesPart (λ at. LandingsPhase at gid claim.id claim.mirror (take (n + 1) runs)) old f new f'' Went
  lands_next next =
      let one = did_wider (λ k. AfterDisk (turn_from mid k) gid (landing_of (turn_from mid k)))
      (λ k. LandingsPhase (turn_from mid k) gid claim.id claim.mirror (run ∷ [])) mid.machine.past f' new.machine.past f'' Went
      (λ k events came. one_phase (turn_from mid k) gid claim.id claim.mirror run mid.machine.past events came) next in
      let both = part_on (λ at. LandingsPhase at gid claim.id claim.mirror (take n runs))
      (λ at. LandingsPhase at gid claim.id claim.mirror (run ∷ [])) old mid new n f f' f'' Went on did one in
      subst (λ (rs : List Run). DoesPart (λ at. LandingsPhase at gid claim.id claim.mirror rs) old f new f'' Went)
      (sym (taken_next runs n run within at_is))
      (did_wider (λ k. AndThen (LandingsPhase (turn_from old k) gid claim.id claim.mirror (take n runs))
      (LandingsPhase (turn_from old k) gid claim.id claim.mirror (run ∷ [])))
      (λ k. LandingsPhase (turn_from old k) gid claim.id claim.mirror (take n runs ++ run ∷ [])) old.machine.past f
      new.machine.past f'' Went
      (λ k events came. landings_seam (turn_from old k) gid claim.id claim.mirror (take n runs) (run ∷ [])
      old.machine.past events Went came) both)

  pub lands_broken : (o : Outcome) → o ≢ Went → DoesPart (λ at. AfterDisk at gid (landing_of at)) mid f' new f'' o
      → DoesPart (λ at. LandingsPhase at gid claim.id claim.mirror runs) old f new f'' o
  lands_broken o broken next =
      let rest = drop (n + 1) runs in
      let one = part_stop (λ at. AfterDisk at gid (landing_of at)) (λ at. LandingsPhase at gid claim.id claim.mirror rest)
      mid new new f' f'' o broken next in
      let both = part_on (λ at. LandingsPhase at gid claim.id claim.mirror (take n runs))
      (λ at. LandingsPhase at gid claim.id claim.mirror (run ∷ rest)) old mid new n f f' f'' o on did one in
      subst (λ (rs : List Run). DoesPart (λ at. LandingsPhase at gid claim.id claim.mirror rs) old f new f'' o)
      (taken_rest runs n run within at_is)
      (did_wider (λ k. AndThen (LandingsPhase (turn_from old k) gid claim.id claim.mirror (take n runs))
      (LandingsPhase (turn_from old k) gid claim.id claim.mirror (run ∷ rest)))
      (λ k. LandingsPhase (turn_from old k) gid claim.id claim.mirror (take n runs ++ run ∷ rest)) old.machine.past f
      new.machine.past f'' o
      (λ k events came. landings_seam (turn_from old k) gid claim.id claim.mirror (take n runs) (run ∷ rest)
      old.machine.past events o came) both)

  pub counts_broken : (o : Outcome) → o ≢ Went → DoesPart (λ at. AfterDisk at gid (landing_of at)) mid f' new f'' o
      → LandedBetween (blocks_in_runs (take n runs)) old.machine.past new.machine.past
  counts_broken o broken next =
      let so = landed_all old mid gid claim (take n runs) f f' on.start did in
      let none = broken_none (turn_from mid f') gid (landing_of (turn_from mid f')) mid.machine.past next.events o broken
      (next.is f' (omega arith)) in
      let all = count_on next.events mid.machine.past in
      let grown = ap landed_total next.grown in
      let counted = so.counted in
      omega (arith, none, all, grown, counted)

-- ---- the run at a place

pub some_there : {A : Type 0} (o : Option A) (xs : List A) (n : ℕ) → o ≡ slice_get xs n → n < length xs → IsSome o
some_there o xs n is within =
    subst (λ (p : Option _). IsSome p) (sym is) (by xs n within)
  where
    by : {A : Type 0} (xs : List A) (n : ℕ) → n < length xs → IsSome (slice_get xs n)
    by [] n within = absurd (omega arith)
    by (x ∷ xs) zero within = refl
    by (x ∷ xs) (suc n) within = by xs n (omega (arith, within))

pub run_there : (o : Option Run) (run : Run) (runs : List Run) (n : ℕ) → o ≡ slice_get runs n → o ≡ Some run
    → run ≡ get_or runs n run
run_there o run runs n is some = sym (get_or_from_slice_get runs n run run (sym is ∙ some))
