-- The events of a session's calls stand where its turns were replied to.
use Rattle.std.proofs.Common.{◌≡◌, ⊎_elim, ℕ, suc, Bool, true, false, Some, None, List, [], ◌∷◌, ◌++◌, length, refl, sym, ap, ◌∙◌, append-nil, append_assoc, arith}
use Rattle.std.specs.Prelude.{◌==◌, ◌+◌, filter, if◌then◌else◌, reverse}
use Rattle.std.proofs.lemmas.List.{length-reverse, reverse-append}
use Rattle.std.proofs.lemmas.List.Elements.{All-head, All-tail, filter-append}
use Rattle.dl_kinds.specs.declared.runs.Moment.{Moment}
use Rattle.engine_core.proofs.Calm.{AreCalm}
use Rattle.engine_core.proofs.Calm as calm
use Rattle.engine_core.proofs.CalmRows.{saves_calm}
use Rattle.engine_turns.specs.CallRows.{CallRow}
use Rattle.engine_turns.specs.Phases.{TurnStart}
use Rattle.engine_turns.specs.RunTurns.{IsAnswered, MayComeAfter, answer_before, is_nearly_full, turn_start}
use Rattle.engine_turns.specs.Standings.{AnswersOnly, RunStanding, standing_after}
use Rattle.engine_turns.specs.Told.{AllTurns, RunTurn, history_after, history_of}
use Rattle.engine_turns.specs.declared.operations.Operation.{Operation}
use Rattle.engine_turns.specs.declared.operations.Operation.TheVariants as operation
use Rattle.engine_turns.specs.declared.operations.Said.{Said}
use Rattle.engine_turns.specs.declared.operations.Said.TheVariants as said
use Rattle.machine_core.specs.Starts.{RunStart}
use Rattle.machine_core.specs.declared.calls.Call.{Call}
use Rattle.machine_core.specs.declared.events.Event.{Event}
use Rattle.machine_core.specs.declared.events.Event.TheVariants.{Called, Opened, Sized, Claimed, Landed, Settled, Cleared, Lost, Checked, Saved, Ended, Left, Stopped}
use Rattle.console_session.specs.CallTurns.{places_by, reply_places}
use Rattle.console_session.specs.SessionLaws.{CallsStandWhereReplied, call_places, call_places_from, calls_by, is_call_of, turns_calling}
use Rattle.console_session.proofs.CallTurnLists.{places_on}
use Rattle.console_session.proofs.Uncalled.{uncalled}

module _ (session : ℕ) where
  -- ---- places in events that follow one another

  pub places_append : (at : ℕ) (xs ys : List Event) → call_places_from session at (xs ++ ys)
      ≡ call_places_from session at xs ++ call_places_from session (at + length xs) ys
  places_append at [] ys =
      let same : at ≡ at + 0 = omega arith in ap (λ (n : ℕ). call_places_from session n ys) same
  places_append at (x ∷ xs) ys =
      let shift : suc at + length xs ≡ at + suc (length xs) = omega arith in
      by (is_call_of session x)
      (places_append (suc at) xs ys
      ∙ ap (λ (n : ℕ). call_places_from session (suc at) xs ++ call_places_from session n ys) shift)
    where
      by : (b : Bool) → call_places_from session (suc at) (xs ++ ys)
          ≡ call_places_from session (suc at) xs ++ call_places_from session (at + suc (length xs)) ys
          → (if b then at ∷ call_places_from session (suc at) (xs ++ ys)
          else call_places_from session (suc at) (xs ++ ys))
          ≡ (if b then at ∷ call_places_from session (suc at) xs else call_places_from session (suc at) xs)
          ++ call_places_from session (at + suc (length xs)) ys
      by true rest = ap (λ (l : List ℕ). at ∷ l) rest
      by false rest = rest

  not_of : (e : Event) → calm.is_call e ≡ false → is_call_of session e ≡ false
  not_of (Called number call now) none = absurd cc
  not_of (Opened gid verified blocks now) none = refl
  not_of (Sized gid id total) none = refl
  not_of (Claimed gid claim) none = refl
  not_of (Landed gid id mirror run now) none = refl
  not_of (Settled gid piece right giver) none = refl
  not_of (Cleared gid piece) none = refl
  not_of (Lost gid id mirror piece mark) none = refl
  not_of (Checked gid right) none = refl
  not_of (Saved gid now) none = refl
  not_of (Ended gid how) none = refl
  not_of Left none = refl
  not_of Stopped none = refl

  pub none_placed : (at : ℕ) (events : List Event) → AreCalm events → call_places_from session at events ≡ []
  none_placed at [] none = refl
  none_placed at (e ∷ events) none =
      let rest = call_places_from session (suc at) events in
      ap (λ (b : Bool). if b then at ∷ rest else rest)
      (not_of e (All-head (λ (x : Event). calm.is_call x ≡ false) e events none))
      ∙ none_placed (suc at) events (All-tail (λ (x : Event). calm.is_call x ≡ false) e events none)

  -- ---- one turn

  -- its calls stand where it was replied to, if the session calls by it
  abbrev StandWhereReplied : ℕ → Operation → List Event → Said → Type 0
  StandWhereReplied at op events answer =
      call_places_from session at events ≡ (if calls_by session op then places_by answer else [])

  nothing_placed : (b : Bool) → ◌≡◌ {A = List ℕ} [] (if b then [] else [])
  nothing_placed true = refl
  nothing_placed false = refl

  by_none : (at : ℕ) (op : Operation) (events : List Event) (answer usual : Said) → places_by usual ≡ []
      → AnswersOnly usual events answer → StandWhereReplied at op events answer
  by_none at op events answer usual none is =
      ap (call_places_from session at) is.0
      ∙ (nothing_placed (calls_by session op)
      ∙ sym (ap (λ (l : List ℕ). if calls_by session op then l else []) (ap places_by is.1 ∙ none)))

  module _ (at : TurnStart) (s : RunStanding) (events : List Event) (answer : Said) where
    by_row : (number : ℕ) (call : Call) (now : Moment) → CallRow at s number call events answer
        → StandWhereReplied (length s.past) (operation.Call number call now) events answer
    by_row number call now row =
        let place = length s.past in
        let none = none_placed (suc place) row.saves
        (saves_calm at row.those (Called number call at.now ∷ s.past) row.saves row.outcome row.saved) in
        ap (call_places_from session place) row.cut
        ∙ (by place (call_places_from session (suc place) row.saves) none (number == session)
        ∙ sym (ap (λ (told : Said). if number == session then places_by told else []) row.answer))
      where
        by : (place : ℕ) (later : List ℕ) → later ≡ [] → (b : Bool)
            → (if b then place ∷ later else later) ≡ (if b then place ∷ [] else [])
        by place later none true = ap (λ (l : List ℕ). place ∷ l) none
        by place later none false = none

    by_call : (number : ℕ) (call : Call) (now : Moment) (full : Bool) (count : ℕ)
        → IsAnswered at s (operation.Call number call now) events answer
        (if full then Some (said.JournalFull count) else None)
        → StandWhereReplied (length s.past) (operation.Call number call now) events answer
    by_call number call now true count is =
        by_none (length s.past) (operation.Call number call now) events answer (said.JournalFull count) refl is
    by_call number call now false count is = ⊎_elim
        (λ short. by_none (length s.past) (operation.Call number call now) events answer said.NoMemory refl short.1)
        (λ row. by_row number call now row) is

    by_op : (op : Operation) → IsAnswered at s op events answer (answer_before at.start s.past op)
        → StandWhereReplied (length s.past) op events answer
    by_op (operation.Call number call now) is =
        by_call number call now (is_nearly_full s.past) (length s.past) is
    by_op (operation.Next worker now) is = none_placed (length s.past) events
        (uncalled at s events answer (operation.Next worker now) (answer_before at.start s.past (operation.Next worker now)) refl is)
    by_op (operation.Deliver claim run bytes now) is = none_placed (length s.past) events
        (uncalled at s events answer (operation.Deliver claim run bytes now) (answer_before at.start s.past (operation.Deliver claim run bytes now)) refl is)
    by_op (operation.More claim want now) is = none_placed (length s.past) events
        (uncalled at s events answer (operation.More claim want now) (answer_before at.start s.past (operation.More claim want now)) refl is)
    by_op (operation.Lose claim mark now) is = none_placed (length s.past) events
        (uncalled at s events answer (operation.Lose claim mark now) (answer_before at.start s.past (operation.Lose claim mark now)) refl is)
    by_op (operation.Sized claim total now) is = none_placed (length s.past) events
        (uncalled at s events answer (operation.Sized claim total now) (answer_before at.start s.past (operation.Sized claim total now)) refl is)
    by_op (operation.Seal gid sealed now) is = none_placed (length s.past) events
        (uncalled at s events answer (operation.Seal gid sealed now) (answer_before at.start s.past (operation.Seal gid sealed now)) refl is)
    by_op operation.Pulse is = none_placed (length s.past) events
        (uncalled at s events answer operation.Pulse (answer_before at.start s.past operation.Pulse) refl is)
    by_op (operation.Notices from) is = none_placed (length s.past) events
        (uncalled at s events answer (operation.Notices from) (answer_before at.start s.past (operation.Notices from)) refl is)
    by_op operation.Leave is = none_placed (length s.past) events
        (uncalled at s events answer operation.Leave (answer_before at.start s.past operation.Leave) refl is)
    by_op (operation.Stop now) is = none_placed (length s.past) events
        (uncalled at s events answer (operation.Stop now) (answer_before at.start s.past (operation.Stop now)) refl is)

  one_turn : (start : RunStart) (told : List RunTurn) (t : RunTurn) → MayComeAfter start told t
      → call_places_from session (length (history_of told)) t.events
      ≡ (if calls_by session t.op then places_by t.answer.said else [])
  one_turn start told t may =
      by_op (turn_start start told t) (standing_after start told) t.events t.answer.said t.op may.answered

  one_reply : (t : RunTurn) (b : Bool) → reply_places (if b then t ∷ [] else [])
      ≡ (if b then places_by t.answer.said else [])
  one_reply t true = append-nil (places_by t.answer.said)
  one_reply t false = refl

  -- ---- all turns

  in_order : (past events : List Event) → reverse (history_after past events) ≡ reverse past ++ events
  in_order past [] = sym (append-nil (reverse past))
  in_order past (e ∷ events) =
      in_order (e ∷ past) events ∙ ap (λ (es : List Event). es ++ events) (reverse-append (e ∷ []) past)
      ∙ append_assoc (reverse past) (e ∷ []) events

  stand : (start : RunStart) (told : List RunTurn) → AllTurns (MayComeAfter start) told
      → call_places session (reverse (history_of told)) ≡ reply_places (turns_calling session (reverse told))
  stand start [] all = refl
  stand start (t ∷ before) all =
      let past = history_of before in
      let calls = λ (u : RunTurn). calls_by session u.op in
      let back = reverse past in
      let turned = length-reverse past in
      let long : 0 + length back ≡ length past = omega (arith, turned) in
      ap (call_places session) (in_order past t.events)
      ∙ (places_append 0 back t.events
      ∙ (ap (λ (n : ℕ). call_places session back ++ call_places_from session n t.events) long
      ∙ (ap (λ (l : List ℕ). l ++ call_places_from session (length past) t.events) (stand start before all.1)
      ∙ (ap (λ (l : List ℕ). reply_places (turns_calling session (reverse before)) ++ l)
      (one_turn start before t all.0 ∙ sym (one_reply t (calls t)))
      ∙ sym (ap (λ (ts : List RunTurn). reply_places (filter calls ts)) (reverse-append (t ∷ []) before)
      ∙ (ap reply_places (filter-append calls (reverse before) (t ∷ []))
      ∙ places_on (filter calls (reverse before)) (filter calls (t ∷ []))))))))

pub where_replied : CallsStandWhereReplied
where_replied start told session all = stand session start told all
