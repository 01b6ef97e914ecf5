-- One visit behind others.
use Rattle.std.proofs.Common.{◌≡◌, inl, inr, ℕ, ◌+◌, Bool, true, false, List, [], ◌∷◌, ◌++◌, refl, ap, sym, ◌∙◌, subst, append_assoc, arith}
use Rattle.std.proofs.lemmas.Bool.{MatchBool-at_true, MatchBool-at_false, cases_Bool}
use Rattle.std.specs.Prelude.{Option, Some, None}
use Rattle.door_source.specs.declared.Doors.{Ghosts as DoorSays}
use Rattle.console_http.proofs.Steps.{if_true, if_false}
use Rattle.console_http.specs.Readings.{DoorAt, door_at}
use Rattle.console_http.specs.Sessions.{AskingAt, CallsAt, SteppingAt}
use Rattle.console_http.specs.Talks.{TalkStep}
use Rattle.console_http.specs.Visits.{Visit, Waits, Welcomes, AsksBehind, AsksDoor, AsksForEnd, HasKeptOn, HasVisited, IsVisit, Keeps, KeepsOn, capped, end_if, ends_run, finds_end, starved_at, starved_by, starved_in}
use Rattle.console_http.specs.declared.ends.ConnectionEnd.{ConnectionEnd}
use Rattle.console_http.specs.declared.ends.DoorEnd.{DoorEnd}
use Rattle.console_http.specs.declared.ends.DoorEnd.TheVariants.{Finished}
use Rattle.console_http.specs.declared.keeping.Visited.{Visited}
use Rattle.console_http.specs.declared.keeping.Visited.TheVariants.{NobodyCame, Talked, Ended}

pub capped_both : (m n before now : ℕ) → before ≡ capped m → now ≡ capped (before + n) → now ≡ capped (m + n)
capped_both m n before now was is = omega (arith, was, is)

pub starved-append : (done visits : List Visit) → starved_in (done ++ visits) ≡ starved_in done + starved_in visits
starved-append [] visits = omega arith
starved-append (Waits ∷ done) visits = starved-append done visits
starved-append (Welcomes steps end ∷ done) visits = let is = starved-append done visits in omega (arith, is)

-- the visit counts as its connection does
counted_one : (steps : List TalkStep) (end : ConnectionEnd) (before now : ℕ) → now ≡ capped (before + starved_by end)
    → now ≡ capped (before + starved_in (Welcomes steps end ∷ []))
counted_one steps end before now is = omega (arith, is)

module _ {S T A : Type 0} (at : CallsAt S T) (asks : AskingAt S T) (moves : SteppingAt S T) (says : DoorSays A) (most : ℕ) where
  -- ---- the last visit

  last_visit : (visit : Visit) (a m : DoorAt S T A) → IsVisit at asks moves says most visit a m → finds_end visit ≡ true
      → Keeps at asks moves says most (visit ∷ []) Finished a m
  last_visit visit a m is ends = (m, is, if_true (finds_end visit) _ _ ends (refl, refl, refl))

  asked_at_last : (visit : Visit) (a m n : DoorAt S T A) → IsVisit at asks moves says most visit a m → finds_end visit ≡ false
      → AsksDoor at asks moves says most true m n → Keeps at asks moves says most (visit ∷ []) Finished a n
  asked_at_last visit a m n is more asked =
      (m, is, if_false (finds_end visit) _ _ more (n, true, asked, (refl, refl, refl)))

  -- ---- another one

  asked_on : (visit : Visit) (a m n : DoorAt S T A) → IsVisit at asks moves says most visit a m → finds_end visit ≡ false
      → AsksDoor at asks moves says most false m n → KeepsOn at asks moves says most (visit ∷ []) a n
  asked_on visit a m n is more asked visits end c keeps =
      (m, is, if_false (finds_end visit) _ _ more (n, false, asked, keeps))

  asked_by : (finished : Bool) (visit : Visit) (a m n : DoorAt S T A) (before now : ℕ) → IsVisit at asks moves says most visit a m
      → finds_end visit ≡ false → now ≡ capped (before + starved_in (visit ∷ [])) → AsksDoor at asks moves says most finished m n
      → HasKeptOn at asks moves says most a before n now (end_if finished)
  asked_by true visit a m n before now is more counted asked = (visit ∷ [], asked_at_last visit a m n is more asked, counted)
  asked_by false visit a m n before now is more counted asked = (visit, asked_on visit a m n is more asked, counted)

  asked_behind : (visit : Visit) (a m : DoorAt S T A) (s' : S) (d' : T) (before now : ℕ) (end : Option DoorEnd)
      → IsVisit at asks moves says most visit a m → finds_end visit ≡ false
      → now ≡ capped (before + starved_in (visit ∷ [])) → AsksForEnd at asks m.session m.desk s' d' end
      → HasKeptOn at asks moves says most a before (door_at s' d' m.door) now end
  asked_behind visit a m s' d' before now end is more counted (finished, asked, ends) =
      let P : Option DoorEnd → Type 0 = HasKeptOn at asks moves says most a before (door_at s' d' m.door) now in
      subst P (sym ends)
      (asked_by finished visit a m (door_at s' d' m.door) before now is more counted
      (record { asks_session = asked; door = refl }))

  same_place : (m : DoorAt S T A) (s' : S) (d' : T) → s' ≡ m.session → d' ≡ m.desk → m ≡ door_at s' d' m.door
  same_place m s' d' s_is d_is = λ i. door_at (sym s_is i) (sym d_is i) m.door

  -- without an asking
  unasked : (visits : List Visit) (end : DoorEnd) (a m : DoorAt S T A) (s' : S) (d' : T) (before now : ℕ) (came : Option DoorEnd)
      → Keeps at asks moves says most visits end a m → now ≡ capped (before + starved_in visits)
      → (s' ≡ m.session) × (d' ≡ m.desk) × (came ≡ Some end)
      → HasKeptOn at asks moves says most a before (door_at s' d' m.door) now came
  unasked visits end a m s' d' before now came keeps counted (s_is, d_is, is) =
      let here : HasKeptOn at asks moves says most a before m now (Some end) = (visits, keeps, counted) in
      subst (HasKeptOn at asks moves says most a before (door_at s' d' m.door) now) (sym is)
      (subst (λ b. HasKeptOn at asks moves says most a before b now (Some end)) (same_place m s' d' s_is d_is) here)

  pub kept_on : (visited : Visited) (a m : DoorAt S T A) (s' : S) (d' : T) (before now : ℕ) (end : Option DoorEnd)
      → HasVisited at asks moves says most a m visited → now ≡ capped (before + starved_at visited)
      → AsksBehind at asks visited m.session m.desk s' d' end
      → HasKeptOn at asks moves says most a before (door_at s' d' m.door) now end
  kept_on NobodyCame a m s' d' before now end is counted asked = asked_behind Waits a m s' d' before now end is refl counted asked
  kept_on (Ended how) a m s' d' before now end is counted asked = unasked [] how a m s' d' before now end is counted asked
  kept_on (Talked how) a m s' d' before now end (steps, is) counted asked =
      let Found : Type 0 = (s' ≡ m.session) × (d' ≡ m.desk) × (end ≡ Some Finished) in
      let Asked : Type 0 = AsksForEnd at asks m.session m.desk s' d' end in
      let one = counted_one steps how before now counted in
      elim (cases_Bool (ends_run how)) [
        | inl found ↦
            unasked (Welcomes steps how ∷ []) Finished a m s' d' before now end (last_visit (Welcomes steps how) a m is found) one
            (MatchBool-at_true Found Asked found asked)
        | inr more ↦
            asked_behind (Welcomes steps how) a m s' d' before now end is more one (MatchBool-at_false Found Asked more asked)
      ]

  -- ---- all visits so far

  pub record IsKept (a b : DoorAt S T A) (starved reading_most : ℕ) : Type 0 where
    pub done : List Visit
    pub keeps : KeepsOn at asks moves says most done a b
    pub counted : starved ≡ capped (starved_in done)
    pub most_is : reading_most ≡ most

  pub kept_more : (a m b : DoorAt S T A) (before now k k' : ℕ) (end : Option DoorEnd) → (kept : IsKept a m before k) → end ≡ None
      → HasKeptOn at asks moves says most m before b now end → k' ≡ k → IsKept a b now k'
  kept_more a m b before now k k' None kept none (visit, keeps, counted) same =
      let both = starved-append kept.done (visit ∷ []) in
      record {
        done = kept.done ++ visit ∷ [];
        keeps = λ visits end c then.
            subst (λ all. Keeps at asks moves says most all end a c) (sym (append_assoc kept.done (visit ∷ []) visits))
            (kept.keeps (visit ∷ visits) end c (keeps visits end c then));
        counted = capped_both (starved_in kept.done) (starved_in (visit ∷ [])) before now kept.counted counted ∙ ap capped (sym both);
        most_is = same ∙ kept.most_is;
      }
  kept_more a m b before now k k' (Some end) kept some ended same = cc

  pub kept_all : (a m b : DoorAt S T A) (before now k : ℕ) (end : DoorEnd) → (kept : IsKept a m before k)
      → HasKeptOn at asks moves says most m before b now (Some end)
      → (visits : List Visit) × Keeps at asks moves says most visits end a b × (now ≡ capped (starved_in visits))
  kept_all a m b before now k end kept (visits, keeps, counted) =
      let both = starved-append kept.done visits in (
        kept.done ++ visits,
        kept.keeps visits end b keeps,
        capped_both (starved_in kept.done) (starved_in visits) before now kept.counted counted ∙ ap capped (sym both),
      )
