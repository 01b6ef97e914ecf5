-- Where no whole request stands at the front.
use Rattle.std.proofs.Common.{◌≡◌, inl, inr, ℕ, Bool, true, false, List, [], ◌∷◌, ◌++◌, refl, ap, sym, ◌∙◌, subst, true≢false}
use Rattle.std.proofs.lemmas.Bool.{MatchBool-at_true, MatchBool-at_false, cases_Bool}
use Rattle.std.specs.Prelude.{Option, Some, None}
use Rattle.door_source.specs.declared.Doors.{Ghosts as DoorSays}
use Rattle.request_stream.specs.Streams.{HasNoWholeRequest}
use Rattle.console_http.proofs.Steps.{hears_on, goes_both}
use Rattle.console_http.specs.Readings.{Reading, ConsoleAt, console_at, door_at}
use Rattle.console_http.specs.Receiving.{HasReceived, ReceivesPiece}
use Rattle.console_http.specs.Sessions.{AskingAt, CallsAt, SteppingAt}
use Rattle.console_http.specs.Talks.{Hears, AsksRun, IsCaughtUp, AsksSession, AsksIfDue, IsHearing, IsAskingRun, TalksToEnd, TalksOn, HasTalkedOn}
use Rattle.console_http.specs.declared.ends.ConnectionEnd.{ConnectionEnd}
use Rattle.console_http.specs.declared.ends.ConnectionEnd.TheVariants.{AtItsEnd, HungUp, RunEnded, Failed, Starved, Socket}

module _ {S T A : Type 0} (at : CallsAt S T) (asks : AskingAt S T) (moves : SteppingAt S T) (says : DoorSays A)
    (s : S) (d : T) (s' : S) (d' : T) (reading reading' : Reading) (none : HasNoWholeRequest reading.most reading.unread) where
  is_asking : (finished : Bool) (door : A) → reading.is_due ≡ true → AsksSession at asks finished s d s' d'
      → reading' ≡ record reading { is_due = false }
      → IsAskingRun at asks moves says finished (console_at s d door reading) (console_at s' d' door reading')
  is_asking finished door due session is =
      record { none = none; due = due; asks_session = session; door = refl; reading = is }

  abbrev Asked : Bool → Type 0
  Asked finished = AsksSession at asks finished s d s' d' × (reading' ≡ record reading { is_due = false })

  abbrev Unasked : Bool → Type 0
  Unasked finished = (finished ≡ false) × (s' ≡ s) × (d' ≡ d) × (reading' ≡ reading)

  pub run_ended : (door : A) → AsksIfDue at asks s d reading s' d' reading' true
      → TalksToEnd at asks moves says RunEnded (console_at s d door reading) (door_at s' d' door)
  run_ended door asked = elim (cases_Bool reading.is_due) [
    | inl due ↦
        let is = MatchBool-at_true (Asked true) (Unasked true) due asked in
        (AsksRun true ∷ [], (console_at s' d' door reading', is_asking true door due is.0 is.1, (refl, refl, refl)))
    | inr settled ↦
        let is = MatchBool-at_false (Asked true) (Unasked true) settled asked in
        absurd (true≢false is.0)
  ]

  settles : AsksIfDue at asks s d reading s' d' reading' false → IsCaughtUp reading'
  settles asked = elim (cases_Bool reading.is_due) [
    | inl due ↦
        let is = MatchBool-at_true (Asked false) (Unasked false) due asked in
        let P : Reading → Type 0 = IsCaughtUp in
        subst P (sym is.1) (record { none = none; settled = refl })
    | inr settled ↦
        let is = MatchBool-at_false (Asked false) (Unasked false) settled asked in
        let P : Reading → Type 0 = IsCaughtUp in
        subst P (sym is.3) (record { none = none; settled = settled })
  ]

  asks_on : (door : A) → AsksIfDue at asks s d reading s' d' reading' false
      → TalksOn at asks moves says (console_at s d door reading) (console_at s' d' door reading')
  asks_on door asked = elim (cases_Bool reading.is_due) [
    | inl due ↦
        let is = MatchBool-at_true (Asked false) (Unasked false) due asked in
        λ end c ends. (AsksRun false ∷ ends.0, (console_at s' d' door reading', is_asking false door due is.0 is.1, ends.1))
    | inr settled ↦
        let is = MatchBool-at_false (Asked false) (Unasked false) settled asked in
        λ end c ends.
        let P : ConsoleAt S T A → Type 0 = λ here. TalksToEnd at asks moves says end here c in
        subst P (λ i. console_at (is.1 i) (is.2 i) door (is.3 i)) ends
  ]

  is_hearing : (piece : List ℕ) (old new : A) (now : Reading) → IsCaughtUp reading' → ReceivesPiece says piece old new
      → now ≡ record reading' { unread = reading'.unread ++ piece }
      → IsHearing at asks moves says piece (console_at s' d' old reading') (console_at s' d' new now)
  is_hearing piece old new now settled receives is =
      record { settled = settled; stays = record { session = refl; desk = refl }; receives = receives; reading = is }

  receives_on : (old new : A) (now : Reading) (gone : Option ConnectionEnd) → IsCaughtUp reading'
      → now ≡ record reading' { unread = now.unread } → HasReceived says old reading'.unread new now.unread gone
      → HasTalkedOn at asks moves says (console_at s' d' old reading') (console_at s' d' new now) gone
  receives_on old new now None settled same (piece, receives, is) =
      hears_on at asks moves says piece _ _ (is_hearing piece old new now settled receives
      (same ∙ ap (λ unread. record reading' { unread = unread }) is))
  receives_on old new now (Some AtItsEnd) settled same all = ([], (settled, record { session = refl; desk = refl }, all))
  receives_on old new now (Some Failed) settled same breaks = ([], (settled, record { session = refl; desk = refl }, breaks))
  receives_on old new now (Some Starved) settled same (inl silent) = ([], (record { session = refl; desk = refl }, silent))
  receives_on old new now (Some Starved) settled same (inr (piece, receives)) =
      let next : Reading = record reading' { unread = reading'.unread ++ piece } in (
        Hears piece ∷ [],
        (
          console_at s' d' new next,
          is_hearing piece old new next settled receives refl,
          (record { session = refl; desk = refl }, record { told = λ _. refl; faults = refl }),
        ),
      )
  receives_on old new now (Some HungUp) settled same never = absurd never
  receives_on old new now (Some RunEnded) settled same never = absurd never
  receives_on old new now (Some (Socket how)) settled same never = absurd never

  pub waited : (old new : A) (now : Reading) (gone : Option ConnectionEnd)
      → AsksIfDue at asks s d reading s' d' reading' false
      → now ≡ record reading' { unread = now.unread } → HasReceived says old reading'.unread new now.unread gone
      → HasTalkedOn at asks moves says (console_at s d old reading) (console_at s' d' new now) gone
  waited old new now gone asked same received =
      goes_both at asks moves says _ _ _ gone (asks_on old asked) (receives_on old new now gone (settles asked) same received)
