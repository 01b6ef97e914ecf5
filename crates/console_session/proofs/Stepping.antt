-- A step of a session over a WebSocket, by its parts.
use Rattle.std.proofs.Common.{◌≡◌, ℕ, List, [], ◌∷◌, ◌++◌, Option, Some, None, Result, Ok, Err, refl, sym, ap, ◌∙◌, subst, append-nil, true≢false}
use Rattle.std.specs.Prelude.{IsErr, map}
use Rattle.std.specs.Option.{option_to_list}
use Rattle.console_socket.specs.Sessions.{HasStepped, InwardData, SocketStep, says, seen_inward, texts_if_any}
use Rattle.console_socket.specs.declared.session.Inward.{Inward}
use Rattle.engine_core.specs.Beginnings.{ties_run}
use Rattle.engine_turns.specs.declared.operations.Operation.TheVariants as operation
use Rattle.engine_turns.specs.Told.{RunTurn}
use Rattle.machine_core.specs.declared.notices.Cursor.{Cursor}
use Rattle.machine_core.specs.declared.notices.Notice.{Notice}
use Rattle.rpc_envelope.specs.Answers.{answer_text, read_bytes}
use Rattle.rpc_envelope.specs.Asks.{found_calls}
use Rattle.rpc_envelope.specs.Turns.{Invoked, Walked, invocations_in}
use Rattle.turn_desk.specs.Laws.{NoTurnsChangeNothing, TurnsAddUp}
use Rattle.turn_desk.specs.Sights.{DeskId}
use Rattle.console_session.specs.CallTurns.{CameInOrder, SessionSight, call_turns}
use Rattle.console_session.specs.NoticeTexts.{notice_text}
use Rattle.console_session.specs.Sessions.{AsksForNotices, HasAnswered, HasCarriedOut, SessionAt, TakesStep, TakesTurns, secret_of, session_at}
use Rattle.console_session.specs.SocketSteps.{AsksOnce, GivesTexts, MakesStep, answers_to, asked_from, calls_in}
use Rattle.console_session.specs.declared.session.ConsoleSession.{ConsoleSession}
use Rattle.console_session.proofs.CallTurnLists.{call_turns_on}
use Rattle.console_session.proofs.Carrying.{carried_none, carried_on, notices_none, takes_both, takes_none}

abbrev pub ok_as : (E : Type 0) {T : Type 0} → T → Result T E
ok_as E value = Ok value

-- memory ran out, so that there are no texts
pub none_of_err : {E : Type 0} (result : Result (List (List ℕ)) E) → IsErr result → None ≡ texts_if_any result
none_of_err (Ok texts) is = absurd (true≢false (sym is))
none_of_err (Err error) is = refl

-- what came, what was carried out, and these texts
abbrev pub step_of : InwardData → List Invoked → Option (List (List ℕ)) → SocketStep
step_of inward invoked texts = record { inward = inward; turns = invoked; texts = texts }

-- ---- turns that are no calls

none_once : (from : Option Cursor) (own : List RunTurn) → AsksOnce from own → call_turns own ≡ []
none_once from [] is = refl
none_once from (t ∷ []) is = notices_none t from is
none_once from (t ∷ u ∷ more) is = absurd is

own_none : (step : SocketStep) (own : List RunTurn) (from to : Option Cursor) (texts : Option (List (List ℕ)))
    → GivesTexts step own from to texts → call_turns own ≡ []
own_none step own from to (Some texts) gives =
    ap call_turns gives.only ∙ notices_none gives.turn (asked_from step.inward from) gives.op
own_none step own from to None gives = none_once (asked_from step.inward from) own gives.0

pub step_came : (secret : Option (List ℕ)) (session : ℕ) (step : SocketStep) (turns : List RunTurn) (from to : Option Cursor)
    → MakesStep secret session step turns from to → CameInOrder secret session (call_turns turns) step.turns
step_came secret session step turns from to makes =
    let all = ap call_turns makes.are
    ∙ (call_turns_on makes.calling makes.own
    ∙ (ap (λ (l : List RunTurn). call_turns makes.calling ++ l) (own_none step makes.own from to step.texts makes.texts)
    ∙ append-nil (call_turns makes.calling))) in
    subst (λ (l : List RunTurn). CameInOrder secret session l step.turns) (sym all) makes.came

module _ {D T K : Type 0} (sight : T → SessionSight D) (desk_id : T → DeskId) (reads : K → ℕ → K → Type 0) where
  abbrev with_cursor : SessionAt K T → Option Cursor → SessionAt K T
  with_cursor b cursor = session_at (record b.session { cursor = cursor }) b.desk

  -- turns don't look at the place
  pub takes_with : (turns : List RunTurn) (a b : SessionAt K T) (cursor : Option Cursor)
      → TakesTurns sight desk_id reads turns a b → TakesTurns sight desk_id reads turns a (with_cursor b cursor)
  takes_with turns a b cursor takes = record {
    goes_on = record { number = takes.goes_on.number; secret = takes.goes_on.secret };
    went = takes.went;
    desk_is = takes.desk_is;
    kinds = takes.kinds;
    read = takes.read;
    places = takes.places;
    starved = takes.starved;
  }

  -- ---- the calls

  module _ {S : Type 0} (of : S → ConsoleSession K) where
    abbrev at_of : S → T → S → T → List Invoked → Type 0
    at_of s desk first began invoked =
        HasCarriedOut sight desk_id reads (session_at (of first) began) invoked (session_at (of s) desk)

    abbrev steps_of : S → T → SocketStep → S → T → Type 0
    steps_of s desk step s' desk' = TakesStep sight desk_id reads step (session_at (of s) desk) (session_at (of s') desk')

    -- a text was answered, and the place is put back
    pub text_answered : NoTurnsChangeNothing (ties_run {D = D}) → {E : Type 0} (s s' : S) (desk desk' : T) (text : List ℕ)
        (result : Result (Option (List ℕ)) E)
        → Walked (at_of s desk) (at_of s' desk') (found_calls (read_bytes text)) result
        (λ answer ss. answer ≡ answer_text (read_bytes text) ss)
        → HasAnswered sight desk_id reads (says text) (session_at (of s) desk) result
        (with_cursor (session_at (of s') desk') (of s).cursor)
    text_answered none s s' desk desk' text (Ok answer) walks =
        let calls = found_calls (read_bytes text) in
        let a = session_at (of s) desk in
        let did = walks.extends s desk [] (carried_none sight desk_id reads none a) in record {
          invoked = walks.mine;
          turns = did.turns;
          takes = takes_with did.turns a (session_at (of s') desk') (of s).cursor did.takes;
          came = did.came;
          front = ([], sym (append-nil (invocations_in walks.mine) ∙ walks.asked));
          called = walks.asked;
          text = ap option_to_list walks.holds;
          cursor = refl;
        }
    text_answered none s s' desk desk' text (Err e) stops =
        let a = session_at (of s) desk in
        let did = stops.extends s desk [] (carried_none sight desk_id reads none a) in record {
          invoked = stops.mine;
          turns = did.turns;
          takes = takes_with did.turns a (session_at (of s') desk') (of s).cursor did.takes;
          came = did.came;
          front = stops.front;
          called = tt;
          text = tt;
          cursor = refl;
        }

    -- a step, with what came of it
    pub stepped : TurnsAddUp (ties_run {D = D}) → {E : Type 0} (s s' : S) (desk desk' : T) (inward : Inward)
        (result : Result (List (List ℕ)) E) (step : SocketStep) → step.inward ≡ seen_inward inward
        → step.texts ≡ texts_if_any result
        → TakesStep sight desk_id reads step (session_at (of s) desk) (session_at (of s') desk')
        → HasStepped at_of steps_of inward result s desk s' desk'
    stepped add_up s s' desk desk' inward result step inward_is texts_are takes = record {
      step = step;
      takes = record {
        stepped = takes;
        extends = λ first began earlier at.
            carried_on sight desk_id reads add_up (session_at (of first) began) (session_at (of s) desk)
            (session_at (of s') desk') takes.turns earlier step.turns takes.takes
            (step_came (secret_of (of s)) (of s).number step takes.turns (of s).cursor (of s').cursor takes.makes) at;
      };
      inward_is = inward_is;
      texts_are = texts_are;
    }

  -- nothing asks for a call
  pub none_answered : NoTurnsChangeNothing (ties_run {D = D}) → {E : Type 0} (inward : InwardData) (a : SessionAt K T)
      → calls_in inward ≡ [] → answers_to inward [] ≡ []
      → HasAnswered sight desk_id reads inward a (ok_as E None) a
  none_answered none inward a calls answers = record {
    invoked = [];
    turns = [];
    takes = takes_none sight desk_id reads none a;
    came = refl;
    front = ([], calls);
    called = sym calls;
    text = sym answers;
    cursor = refl;
  }

  -- ---- the step

  -- memory ran out for the calls
  pub cut_short : {E : Type 0} (inward : InwardData) (a b : SessionAt K T) (result : Result (Option (List ℕ)) E)
      → (did : HasAnswered sight desk_id reads inward a result b)
      → TakesStep sight desk_id reads (step_of inward did.invoked None) a b
  cut_short inward a b result did = record {
    turns = did.turns;
    takes = did.takes;
    makes = record {
      calling = did.turns;
      own = [];
      are = sym (append-nil did.turns);
      came = did.came;
      front = did.front;
      texts = (tt, did.cursor);
    };
  }

  module _ (add_up : TurnsAddUp (ties_run {D = D})) where
    -- .. behind them
    pub cut_behind : {E F : Type 0} (inward : InwardData) (a m b : SessionAt K T) (result : Result (Option (List ℕ)) E)
        (result' : Result (List Notice × Cursor) F) (from : Option Cursor) → from ≡ asked_from inward a.session.cursor
        → (did : HasAnswered sight desk_id reads inward a result m)
        → AsksForNotices sight desk_id reads from m result' b
        → TakesStep sight desk_id reads (step_of inward did.invoked None) a b
    cut_behind inward a m b result result' from from_is did asks = record {
      turns = did.turns ++ asks.turn ∷ [];
      takes = takes_both sight desk_id reads add_up a m b did.turns (asks.turn ∷ []) did.takes asks.takes;
      makes = record {
        calling = did.turns;
        own = asks.turn ∷ [];
        are = refl;
        came = did.came;
        front = did.front;
        texts = (asks.op ∙ ap operation.Notices from_is, asks.cursor ∙ did.cursor);
      };
    }

    -- all texts were made, and the place is kept
    pub all_made : {E F : Type 0} (inward : InwardData) (a m b : SessionAt K T) (answer : Option (List ℕ))
        (notices : List Notice) (upto : Cursor) (texts : List (List ℕ)) (from : Option Cursor)
        → from ≡ asked_from inward a.session.cursor
        → (did : HasAnswered sight desk_id reads inward a (ok_as E answer) m)
        → AsksForNotices sight desk_id reads from m (ok_as F (notices, upto)) b
        → texts ≡ option_to_list answer ++ map notice_text notices
        → TakesStep sight desk_id reads (step_of inward did.invoked (Some texts)) a (with_cursor b (Some upto))
    all_made inward a m b answer notices upto texts from from_is did asks are = record {
      turns = did.turns ++ asks.turn ∷ [];
      takes = takes_with (did.turns ++ asks.turn ∷ []) a b (Some upto)
          (takes_both sight desk_id reads add_up a m b did.turns (asks.turn ∷ []) did.takes asks.takes);
      makes = record {
        calling = did.turns;
        own = asks.turn ∷ [];
        are = refl;
        came = did.came;
        front = did.front;
        texts = record {
          called = did.called;
          turn = asks.turn;
          only = refl;
          op = asks.op ∙ ap operation.Notices from_is;
          notices = notices;
          upto = upto;
          told = asks.told;
          kept = refl;
          texts_are = are ∙ ap (λ (front : List (List ℕ)). front ++ map notice_text notices) did.text;
        };
      };
    }
