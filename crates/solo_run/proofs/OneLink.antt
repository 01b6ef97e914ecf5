-- The work of a run over one link was done over the list of that link alone.
use Rattle.std.proofs.Common.{◌≡◌, ◌≤◌, inl, inr, ℕ, zero, suc, Bool, true, false, List, [], ◌∷◌, Some, length, refl, sym, ap, ◌∙◌, slice_get, slice_index_or, slice_set, subst, take, arith}
use Rattle.std.specs.Prelude.{◌<◌, ◌||◌, Contains, if◌then◌else◌}
use Rattle.std.proofs.lemmas.Bool.{false≢true}
use Rattle.std.proofs.lemmas.List.Elements.{Contains-append_left}
use Rattle.served_runs.specs.LinksCauses.{ShowsLinks}
use Rattle.served_runs.specs.Over.{IsOfWorker, IsRunOver, RanOverLinks, WorkedOver}
use Rattle.dl_clock.specs.declared.clock.Clock.{Ghosts as ClockSays}
use Rattle.dl_disk.specs.declared.disk.Disk.{Ghosts as DiskSays}
use Rattle.dl_kinds.specs.declared.outside.Sink.{Ghosts as SinkSays}
use Rattle.engine_turns.specs.Told.{RunTurn}
use Rattle.link_source.specs.declared.Links.{Ghosts as LinkSays}
use Rattle.machine_core.specs.declared.events.Event.{Event}
use Rattle.run_lifecycle.specs.Begins.{HasBegun, is_no_memory, start_of_line}
use Rattle.run_lifecycle.specs.Consoles.{is_console_on}
use Rattle.run_lifecycle.specs.LinkCauses.{LostAsTold, SizedAsTold}
use Rattle.run_lifecycle.specs.Stops.{ends_short}
use Rattle.run_lifecycle.specs.declared.beginning.Begun.{Begun}
use Rattle.run_lifecycle.specs.declared.ended.Ended.{Ended}
use Rattle.solo_run.specs.Pieces.{IsRunOverOne}
use Rattle.solo_run.specs.LinkCauses.{ShowsLink}
use Rattle.solo_run.specs.Runs.{RanOver, RunsOver, TurnNoConsoleOn}
use Rattle.solo_run.proofs.Framed.{framed_at, its}

or_middle : (a b c : Bool) → b ≡ true → (a || (b || c)) ≡ true
or_middle true b c is = refl
or_middle false true c is = refl
or_middle false false c is = absurd cc

-- ---- doors

none_used : (on : Bool) (doors : ℕ) → on ≡ false → (if on then 0 else 0) ≡ (if on then doors else 0)
none_used true doors off = absurd (false≢true (sym off))
none_used false doors off = refl

no_door : (on : Bool) (none : ℕ) → (if on then none else none) ≡ none
no_door true none = refl
no_door false none = refl

no_door_off : (on : Bool) (doors : ℕ) → on ≡ false → (if on then doors else 0) ≡ 0
no_door_off true doors off = absurd (false≢true (sym off))
no_door_off false doors off = refl

-- without a console it is one how many doors stand
begins_with : {D : Type 0} {says : DiskSays D} {words : List (List ℕ)} {gids : ℕ} {disk : D} {begun : Begun D}
    → TurnNoConsoleOn words → (doors : ℕ) → HasBegun says words gids 0 disk begun → HasBegun says words gids doors disk begun
begins_with {D} {says} {words} {gids} off doors b = record {
  line = b.line;
  means = b.means;
  console_is = b.console_is;
  read = b.read;
  is_read = b.is_read;
  call = b.call;
  named = b.named;
  call_is = b.call_is;
  lawful = b.lawful;
  start = b.start ∙ ap (λ (n : ℕ). record {
    run = record { gids = gids; global = b.line.globals; doors = n };
    disk = b.read;
  }) (none_used (is_console_on b.line.globals) doors (off b.line b.means));
  entries = b.entries;
  mark = b.mark;
  own = b.own;
  first = b.first;
}

-- ---- the first of a list

first_alone : {A : Type 0} (xs : List A) (x : A) → 1 ≤ length xs → x ≡ slice_index_or xs 0 x → take 1 xs ≡ x ∷ []
first_alone [] x some is = absurd (omega (arith, some))
first_alone (y ∷ xs) x some is = (λ i. sym is i ∷ [])

set_alone : {A : Type 0} (xs : List A) (x : A) → 1 ≤ length xs → take 1 (slice_set xs 0 x) ≡ x ∷ []
set_alone [] x some = absurd (omega (arith, some))
set_alone (y ∷ xs) x some = refl

-- what is so of one, before and after, is so of the first of a list
pub of_first_alone : {A : Type 0} (P : (olds news : List A) → Type 0) (xs : List A) (x y : A) → 1 ≤ length xs
    → x ≡ slice_index_or xs 0 x → P (x ∷ []) (y ∷ []) → P (take 1 xs) (take 1 (slice_set xs 0 y))
of_first_alone {A} P xs x y some first is =
    subst (λ (olds : List A). P olds (take 1 (slice_set xs 0 y))) (sym (first_alone xs x some first))
    (subst (P (x ∷ [])) (sym (set_alone xs y some)) is)

same_some : {A : Type 0} (x y : A) → Some x ≡ Some y → x ≡ y
same_some x y is = cc

-- a place of a list of one is the first
at_one : {A : Type 0} (P : ℕ → A → A → Type 0) (x y : A) (place : ℕ) (old new : A) → slice_get (x ∷ []) place ≡ Some old
    → slice_get (y ∷ []) place ≡ Some new → P place old new → P 0 x y
at_one {A} P x y zero old new old_is new_is holds =
    subst (λ (n : A). P 0 x n) (sym (same_some y new new_is))
    (subst (λ (o : A). P 0 o new) (sym (same_some x old old_is)) holds)
at_one {A} P x y (suc n) old new old_is new_is holds = absurd cc

module _ {D L K O : Type 0} {says : DiskSays D} {links : LinkSays L} {clocks : ClockSays K} {sinks : SinkSays O}
    {words : List (List ℕ)} {gids : ℕ} {disk : D} {out : O} {ended : Ended D} {out' : O} (pair pair' : L × K) where
  module _ (ran : RanOver says links clocks sinks words gids disk pair out ended pair' out') (doors : ℕ)
      (begins : HasBegun says words gids doors disk ran.begun) where
    abbrev Over : ℕ → Type 0
    Over place = WorkedOver true links (framed_at doors ran begins) (pair ∷ []) (pair' ∷ []) place

    abbrev worked_over : Over 0
    worked_over = record {
      old = pair;
      new = pair';
      old_is = refl;
      new_is = refl;
      own = record {
        from = ran.begun.desk;
        to = ran.goes.works.mid;
        came = ran.goes.works.came;
        its = its ran.goes.works;
        among = λ t there. Contains-append_left (its ran.goes.works).worked (its ran.goes.works).stop t there;
      };
      short = λ is. ap (λ (b : Bool). ran.begun.is_short || b) ran.goes.works.short_is
          ∙ or_middle ran.begun.is_short (ends_short ran.goes.works.came) (is_no_memory ran.goes.works.answer.said) is;
      kept = λ unlimited. absurd (false≢true (sym unlimited));
      few = λ limited. ran.goes.works.worked.few;
    }

    of_worker : (t : RunTurn) → Contains (framed_at doors ran begins).stops.middle t
        → IsOfWorker true links (framed_at doors ran begins) (pair ∷ []) (pair' ∷ []) t
    of_worker t there = record { place = 0; at = worked_over; there = there }

    only_place : (place : ℕ) → place < 1 → Over place
    only_place zero low = worked_over
    only_place (suc n) low = absurd (omega (arith, low))

    over_one : (start_of_line gids doors begins.line.globals).doors ≡ 0
        → RanOverLinks says sinks true links words gids doors disk (pair ∷ []) out ended (pair' ∷ []) out'
    over_one none = record {
      ran = framed_at doors ran begins;
      over = record {
        works = λ t there works. of_worker t there;
        stops = λ t there now is. of_worker t there;
        alone = λ off t there. of_worker t there;
        each = λ unshort place low. only_place place low;
        left = λ unshort. omega (arith, none);
        doorless = λ limited. none;
      };
    }

  pub over : RunsOver says links clocks sinks words gids disk pair out ended pair' out'
      → IsRunOver says sinks true links words gids 0 disk (pair ∷ []) out ended (pair' ∷ []) out'
  over (inl never) = inl never.0
  over (inr ran) = inr (over_one ran 0 ran.begins (no_door (is_console_on ran.begins.line.globals) 0))

  -- .. with any number of doors, where the words turn no console on
  pub over_doors : TurnNoConsoleOn words → (doors : ℕ)
      → RunsOver says links clocks sinks words gids disk pair out ended pair' out'
      → IsRunOver says sinks true links words gids doors disk (pair ∷ []) out ended (pair' ∷ []) out'
  unfolding begins_with
  over_doors off doors (inl never) = inl never.0
  over_doors off doors (inr ran) = inr (over_one ran doors (begins_with off doors ran.begins)
      (no_door_off (is_console_on ran.begins.line.globals) doors (off ran.begins.line ran.begins.means)))

  -- .. by the turns of its worker, in order
  pub over_its_one : RunsOver says links clocks sinks words gids disk pair out ended pair' out'
      → IsRunOverOne says sinks links words gids 0 disk pair out ended pair' out'
  unfolding over_one
  over_its_one (inl never) = inl never.0
  over_its_one (inr ran) = inr (record {
    over = over_one ran 0 ran.begins (no_door (is_console_on ran.begins.line.globals) 0);
    from = ran.begun.desk;
    to = ran.goes.works.mid;
    came = ran.goes.works.came;
    its = its ran.goes.works;
    order = refl;
    few = ran.goes.works.worked.few;
    short = (worked_over ran 0 ran.begins).short;
  })

-- what links show that are one link, it shows
pub shows_one : {L K : Type 0} {links : LinkSays L} {words : List (List ℕ)} {gids : ℕ} (events : List Event)
    (pair pair' : L × K) → ShowsLinks links words gids 0 events (pair ∷ []) (pair' ∷ [])
    → ShowsLink links words gids events pair.0 pair'.0
shows_one events pair pair' (inl none) = inl none
shows_one {L} {K} {links} {words} {gids} events pair pair' (inr causes) = inr (record {
  line = causes.line;
  means = causes.means;
  lost = λ gid id mirror piece mark there.
      let at = causes.lost gid id mirror piece mark there in
      at_one (λ (place : ℕ) (old new : L × K).
      LostAsTold links (start_of_line gids 0 causes.line.globals) events place old.0 new.0 gid id mirror mark)
      pair pair' at.place at.old at.new at.old_is at.new_is at.told;
  sized = λ gid id total there.
      let at = causes.sized gid id total there in
      at_one (λ (place : ℕ) (old new : L × K).
      SizedAsTold links (start_of_line gids 0 causes.line.globals) events place old.0 new.0 gid id total)
      pair pair' at.place at.old at.new at.old_is at.new_is at.told;
})
