-- What the steps of a conversation come to.
use Rattle.std.proofs.Common.{◌≡◌, inl, inr, ℕ, Bool, true, false, List, [], ◌∷◌, ◌++◌, length, take, drop, refl, ap, sym, ◌∙◌, subst, append_assoc}
use Rattle.std.proofs.Math.Seq.{take-append_seam, drop-append_seam}
use Rattle.std.proofs.lemmas.Bool.{MatchBool-at_true, MatchBool-at_false, cases_Bool}
use Rattle.std.proofs.lemmas.List.{append-nil, map-append, length-map, drop-append-le}
use Rattle.std.proofs.lemmas.List.Elements.{All-nil, All-append}
use Rattle.std.specs.Bool.{MatchBool}
use Rattle.std.specs.List.{flat_map}
use Rattle.std.specs.Prelude.{All}
use Rattle.door_source.specs.declared.Doors.{Ghosts as DoorSays}
use Rattle.request_stream.specs.Requests.{Request, is_last, IsOneRequest}
use Rattle.request_stream.specs.StreamLaws.{RequestStays, RequestIsWithin}
use Rattle.request_stream.specs.Streams.{AreFront, AreRequests, HasNoWholeRequest}
use Rattle.rpc_envelope.specs.Answers.{shared_out}
use Rattle.rpc_envelope.specs.Turns.{Invocation, Invoked, CamePlain, outcomes_in}
use Rattle.console_http.specs.Answering.{CarriesOut, CausesBreak, IsResponseBegun}
use Rattle.console_http.specs.Conversations.{Conversation, no_conversation, with_step, conversation_of, responses, IsServed, EndsWithLast, IsServedInPart, IsServedBy, IsServedUpTo, IsUnderWay}
use Rattle.console_http.specs.Readings.{Reading, DoorAt, ConsoleAt}
use Rattle.console_http.specs.Responding.{calls_in_request, response_to}
use Rattle.console_http.specs.Sessions.{AskingAt, CallsAt, SteppingAt}
use Rattle.console_http.specs.Talks.{TalkStep, Hears, Answers, AsksRun, Begins, Upgrades, EndsHere, IsAnswering, IsAskingRun, IsBeginning, IsUpgrading, Talks}
use Rattle.console_http.specs.Upgrading.{ArePlain, GoesOnAsSocket, HasNoUpgrade, IsUpgraded, NoUpgradeStays}
use Rattle.console_http.specs.declared.ends.ConnectionEnd.{ConnectionEnd}
use Rattle.console_http.specs.declared.ends.ConnectionEnd.TheVariants.{AtItsEnd, HungUp, RunEnded, Failed, Starved, Socket}
use Rattle.console_socket.specs.Sockets.{SocketTalk, turns_of_socket}
use Rattle.console_socket.specs.declared.ends.SocketEnd.{SocketEnd}

-- what bytes were left unread stand in front of those that were received
abbrev pub behind : List ℕ → Conversation → Conversation
behind unread talk = record talk { received = unread ++ talk.received }

-- ---- calls, one request behind another

as_many : (request : Request) (turns : List Invoked) → CarriesOut (calls_in_request request) turns
    → length (outcomes_in turns) ≡ length (calls_in_request request)
as_many request turns carried =
    length-map turns (λ turn. turn.1) ∙ (sym (length-map turns (λ turn. turn.0)) ∙ ap length carried.asked)

carries_both : (calls others : List Invocation) (turns more : List Invoked) → CarriesOut calls turns → CarriesOut others more
    → CarriesOut (calls ++ others) (turns ++ more)
carries_both calls others turns more a b = record {
  asked = map-append (λ turn. turn.0) turns more ∙ (λ i. a.asked i ++ b.asked i);
  came = subst (All CamePlain) (sym (map-append (λ turn. turn.1) turns more))
      (All-append CamePlain (outcomes_in turns) (outcomes_in more) a.came b.came);
}

carries_none : CarriesOut [] []
carries_none = record { asked = refl; came = All-nil CamePlain }

front_taken : {X : Type 0} (xs ys : List X) (n : ℕ) → length xs ≡ n → take n (xs ++ ys) ≡ xs
front_taken xs ys n e = let P : ℕ → Type 0 = λ k. take k (xs ++ ys) ≡ xs in subst P e (take-append_seam xs ys)

front_dropped : {X : Type 0} (xs ys : List X) (n : ℕ) → length xs ≡ n → drop n (xs ++ ys) ≡ ys
front_dropped xs ys n e = let P : ℕ → Type 0 = λ k. drop k (xs ++ ys) ≡ ys in subst P e (drop-append_seam xs ys)

-- the response to the first request, and then the others
responses_on : (request : Request) (requests : List Request) (turns more : List Invoked)
    → CarriesOut (calls_in_request request) turns
    → responses (request ∷ requests) (turns ++ more) ≡ response_to request (outcomes_in turns) ++ responses requests more
responses_on request requests turns more carried =
    let n : ℕ = length (calls_in_request request) in
    let many : length (outcomes_in turns) ≡ n = as_many request turns carried in
    let outcomes : outcomes_in (turns ++ more) ≡ outcomes_in turns ++ outcomes_in more =
    map-append (λ turn. turn.1) turns more in
    let first : take n (outcomes_in (turns ++ more)) ≡ outcomes_in turns =
    ap (take n) outcomes ∙ front_taken (outcomes_in turns) (outcomes_in more) n many in
    let others : drop n (outcomes_in (turns ++ more)) ≡ outcomes_in more =
    ap (drop n) outcomes ∙ front_dropped (outcomes_in turns) (outcomes_in more) n many in
    λ i. response_to request (first i) ++ shared_out calls_in_request response_to requests (others i)

module _ (stays : RequestStays) (within : RequestIsWithin) (plain_stays : NoUpgradeStays) (told : Bool) (most : ℕ)
    (unread : List ℕ) where
  -- ---- a request is answered, and the connection goes on

  module _ (request : Request) (used : ℕ) (turns : List Invoked) (is : IsOneRequest most unread request used)
      (plain : HasNoUpgrade unread) (carried : CarriesOut (calls_in_request request) turns) (talk : Conversation) where
    abbrev answered : Conversation
    answered = behind unread (with_step (Answers request turns) talk)

    abbrev rest : Conversation
    rest = behind (drop used unread) talk

    is_behind : drop used unread ++ talk.received ≡ drop used (unread ++ talk.received)
    is_behind = sym (drop-append-le used unread talk.received (within most unread request used is))

    plain_on : ArePlain most (drop used unread ++ talk.received) talk.requests
        → ArePlain most (unread ++ talk.received) (request ∷ talk.requests)
    plain_on then = (
      used,
      stays most unread talk.received request used is,
      plain_stays most unread talk.received request used is plain,
      subst (λ left. ArePlain most left talk.requests) is_behind then,
    )

    served_on : is_last request ≡ false → IsServed most rest → IsServed most answered
    served_on more then = record {
      requests = (
        used,
        stays most unread talk.received request used is,
        inr (more, subst (λ left. AreRequests most left talk.requests) is_behind then.requests),
      );
      plain = plain_on then.plain;
      carried = carries_both (calls_in_request request) (flat_map calls_in_request talk.requests) turns talk.turns carried then.carried;
      sent = ap (λ text. response_to request (outcomes_in turns) ++ text) then.sent
          ∙ sym (responses_on request talk.requests turns talk.turns carried);
    }

    up_to_on : (way : List ℕ → List Invoked → List ℕ → Type 0) → is_last request ≡ false → IsServedUpTo way most rest
        → IsServedUpTo way most answered
    up_to_on way more then =
        let response : List ℕ = response_to request (outcomes_in turns) in
        record {
          unread = then.unread;
          requests = (
            used,
            stays most unread talk.received request used is,
            more,
            subst (λ left. AreFront most left talk.requests then.unread) is_behind then.requests,
          );
          plain = plain_on then.plain;
          mine = turns ++ then.mine;
          more = then.more;
          turns = ap (λ others. turns ++ others) then.turns ∙ sym (append_assoc turns then.mine then.more);
          carried = carries_both (calls_in_request request) (flat_map calls_in_request talk.requests) turns then.mine carried then.carried;
          part = then.part;
          sent = ap (λ text. response ++ text) then.sent
              ∙ (sym (append_assoc response (responses talk.requests then.mine) then.part)
              ∙ ap (λ text. text ++ then.part) (sym (responses_on request talk.requests turns then.mine carried)));
          behind = then.behind;
        }

    last_on : EndsWithLast talk.requests → EndsWithLast (request ∷ talk.requests)
    last_on then = record {
      front = request ∷ then.front;
      last = then.last;
      are = ap (λ others. request ∷ others) then.are;
      ends = then.ends;
    }

    answers_then : (end : ConnectionEnd) → is_last request ≡ false → IsServedBy told most end rest
        → IsServedBy told most end answered
    answers_then AtItsEnd more then = served_on more then
    answers_then HungUp more then = (served_on more then.0, last_on then.1)
    answers_then RunEnded more then = served_on more then
    answers_then Failed more then = up_to_on (IsUnderWay most) more then
    answers_then Starved more then = up_to_on (IsUnderWay most) more then
    answers_then (Socket how) more (socket, is_it, then) =
        (socket, is_it, up_to_on (IsUpgraded told socket how) more then)

  -- ---- the last one of a connection

  answers_last : (request : Request) (used : ℕ) (turns : List Invoked) → IsOneRequest most unread request used
      → HasNoUpgrade unread → CarriesOut (calls_in_request request) turns → is_last request ≡ true
      → IsServedBy told most HungUp (behind unread (with_step (Answers request turns) no_conversation))
  answers_last request used turns is plain carried last = (
    record {
      requests = (used, stays most unread [] request used is, inl (last, refl));
      plain = (used, stays most unread [] request used is, plain_stays most unread [] request used is plain, tt);
      carried = carries_both (calls_in_request request) [] turns [] carried carries_none;
      sent = sym (responses_on request [] turns [] carried);
    },
    record { front = []; last = request; are = refl; ends = last },
  )

  -- ---- no more of them

  pub ended : HasNoWholeRequest most unread → IsServed most (behind unread no_conversation)
  ended none = record {
    requests = subst (HasNoWholeRequest most) (sym (append-nil unread)) none;
    plain = tt;
    carried = carries_none;
    sent = refl;
  }

  broken : IsServedInPart most (behind unread no_conversation)
  broken = record {
    unread = unread;
    requests = append-nil unread;
    plain = tt;
    mine = [];
    more = [];
    turns = refl;
    carried = carries_none;
    part = [];
    sent = refl;
    behind = inl (refl, refl);
  }

  begun : (request : Request) (used : ℕ) (turns : List Invoked) (part : List ℕ) → IsOneRequest most unread request used
      → HasNoUpgrade unread → IsResponseBegun (calls_in_request request) (response_to request) turns part
      → IsServedInPart most (behind unread (with_step (Begins request turns part) no_conversation))
  begun request used turns part is plain begins = record {
    unread = unread;
    requests = append-nil unread;
    plain = tt;
    mine = [];
    more = turns ++ [];
    turns = refl;
    carried = carries_none;
    part = part ++ [];
    sent = refl;
    behind = inr (
      request,
      used,
      is,
      plain,
      subst (λ mine. IsResponseBegun (calls_in_request request) (response_to request) mine (part ++ [])) (sym (append-nil turns))
          (subst (IsResponseBegun (calls_in_request request) (response_to request) turns) (sym (append-nil part)) begins),
    );
  }

  -- ---- a WebSocket

  goes_on_from : (socket : SocketTalk) (how : SocketEnd) → GoesOnAsSocket told unread socket how
      → IsServedBy told most (Socket how) (behind unread (with_step (Upgrades socket) no_conversation))
  goes_on_from socket how goes = (
    socket,
    refl,
    record {
      unread = unread ++ socket.received;
      requests = ap (λ received. unread ++ received) (append-nil socket.received);
      plain = tt;
      mine = [];
      more = turns_of_socket socket ++ [];
      turns = refl;
      carried = carries_none;
      part = socket.sent ++ [];
      sent = refl;
      behind = record {
        bytes = unread;
        came = refl;
        turns_are = append-nil (turns_of_socket socket);
        sent = append-nil socket.sent;
        goes_on = goes;
      };
    },
  )

-- ---- all steps

module _ (stays : RequestStays) (within : RequestIsWithin) (plain_stays : NoUpgradeStays) {S T A : Type 0} (at : CallsAt S T)
    (asks : AskingAt S T) (moves : SteppingAt S T) (says : DoorSays A) where
  abbrev pub Came : Reading → ConnectionEnd → Conversation → Type 0
  Came reading end talk = IsServedBy says.tells reading.most end (behind reading.unread talk)

  abbrev LastOf : List TalkStep → ConnectionEnd → ConnectionEnd → ConsoleAt S T A → DoorAt S T A → Type 0
  LastOf steps end how m b = (steps ≡ []) × (end ≡ how) × (b ≡ m.place)

  -- a break leaves what was served in part
  in_part : (reading : Reading) (end : ConnectionEnd) (talk : Conversation) (before now : ℕ) → CausesBreak end before now
      → IsServedInPart reading.most (behind reading.unread talk) → Came reading end talk
  in_part reading Failed talk before now cause here = here
  in_part reading Starved talk before now cause here = here
  in_part reading AtItsEnd talk before now cause here = absurd cause
  in_part reading HungUp talk before now cause here = absurd cause
  in_part reading RunEnded talk before now cause here = absurd cause
  in_part reading (Socket how) talk before now cause here = absurd cause

  quiet : (end : ConnectionEnd) (a : ConsoleAt S T A) (b : DoorAt S T A) → EndsHere at asks moves says end a b
      → Came a.reading end no_conversation
  quiet AtItsEnd a b here = ended stays within plain_stays says.tells a.reading.most a.reading.unread here.0.none
  quiet Failed a b here = broken stays within plain_stays says.tells a.reading.most a.reading.unread
  quiet Starved a b here = broken stays within plain_stays says.tells a.reading.most a.reading.unread
  quiet HungUp a b here = absurd here
  quiet RunEnded a b here = absurd here
  quiet (Socket how) a b here = absurd here

  -- more bytes were received before that
  hears_then : (reading : Reading) (piece : List ℕ) (end : ConnectionEnd) (talk : Conversation)
      → Came (record reading { unread = reading.unread ++ piece }) end talk → Came reading end (with_step (Hears piece) talk)
  hears_then reading piece end talk then =
      subst (λ received. IsServedBy says.tells reading.most end (record talk { received = received }))
      (append_assoc reading.unread piece talk.received) then

  -- a request is answered, and it is the last one of its connection, or isn't
  answers_or_ends : (request : Request) (turns : List Invoked) (steps : List TalkStep) (end : ConnectionEnd)
      (a m : ConsoleAt S T A) (b : DoorAt S T A) → IsAnswering at asks moves says request turns a m
      → MatchBool (is_last request) (LastOf steps end HungUp m b) (Talks at asks moves says steps end m b)
      → (Talks at asks moves says steps end m b → Came m.reading end (conversation_of steps))
      → Came a.reading end (with_step (Answers request turns) (conversation_of steps))
  answers_or_ends request turns steps end a m b is then on = elim (cases_Bool (is_last request)) [
    | inl last ↦
        let ends = MatchBool-at_true (LastOf steps end HungUp m b) (Talks at asks moves says steps end m b) last then in
        let here = answers_last stays within plain_stays says.tells a.reading.most a.reading.unread request is.used turns is.is is.plain is.responds.carried last in
        subst (λ others. Came a.reading end (with_step (Answers request turns) (conversation_of others))) (sym ends.0)
        (subst (λ how. Came a.reading how (with_step (Answers request turns) no_conversation)) (sym ends.1) here)
    | inr more ↦
        let goes = MatchBool-at_false (LastOf steps end HungUp m b) (Talks at asks moves says steps end m b) more then in
        let rest = subst (λ reading. Came reading end (conversation_of steps)) is.reading (on goes) in
        answers_then stays within plain_stays says.tells a.reading.most a.reading.unread request is.used turns is.is is.plain is.responds.carried (conversation_of steps)
        end more rest
  ]

  asks_or_ends : (finished : Bool) (steps : List TalkStep) (end : ConnectionEnd) (a m : ConsoleAt S T A) (b : DoorAt S T A)
      → IsAskingRun at asks moves says finished a m
      → MatchBool finished (LastOf steps end RunEnded m b) (Talks at asks moves says steps end m b)
      → (Talks at asks moves says steps end m b → Came m.reading end (conversation_of steps))
      → Came a.reading end (conversation_of steps)
  asks_or_ends true steps end a m b is ends on =
      subst (λ others. Came a.reading end (conversation_of others)) (sym ends.0)
      (subst (λ how. Came a.reading how no_conversation) (sym ends.1) (ended stays within plain_stays says.tells a.reading.most a.reading.unread is.none))
  asks_or_ends false steps end a m b is goes on =
      subst (λ reading. Came reading end (conversation_of steps)) is.reading (on goes)

  begins_and_ends : (request : Request) (turns : List Invoked) (part : List ℕ) (steps : List TalkStep) (end : ConnectionEnd)
      (a : ConsoleAt S T A) (b : DoorAt S T A) → IsBeginning at asks moves says request turns part end a b → steps ≡ []
      → Came a.reading end (with_step (Begins request turns part) (conversation_of steps))
  begins_and_ends request turns part steps end a b is none =
      let here = begun stays within plain_stays says.tells a.reading.most a.reading.unread request is.used turns part is.is is.plain is.begins.begun in
      subst (λ others. Came a.reading end (with_step (Begins request turns part) (conversation_of others))) (sym none)
      (in_part a.reading end _ _ _ is.begins.cause here)

  upgrades_and_ends : (socket : SocketTalk) (steps : List TalkStep) (end : ConnectionEnd) (a : ConsoleAt S T A)
      (b : DoorAt S T A) → IsUpgrading at asks moves says socket end a b → steps ≡ []
      → Came a.reading end (with_step (Upgrades socket) (conversation_of steps))
  upgrades_and_ends socket steps end a b is none =
      let here = goes_on_from stays within plain_stays says.tells a.reading.most a.reading.unread socket is.how (record {
        used = is.used;
        asks = is.is;
        joins = is.keeps.joins;
        stops = is.keeps.stops;
        finishes = is.keeps.finishes;
        stops_finished = is.keeps.stops_finished;
        answers = is.keeps.answers;
      }) in
      subst (λ others. Came a.reading end (with_step (Upgrades socket) (conversation_of others))) (sym none)
      (subst (λ how. Came a.reading how (with_step (Upgrades socket) no_conversation)) (sym is.end_is) here)

  -- just these steps were taken, as the conversation says
  pub outcome : (steps : List TalkStep) (end : ConnectionEnd) (a : ConsoleAt S T A) (b : DoorAt S T A)
      → Talks at asks moves says steps end a b → Came a.reading end (conversation_of steps)
  outcome [] end a b here = quiet end a b here
  outcome (Hears piece ∷ steps) end a b (m, is, then) =
      hears_then a.reading piece end (conversation_of steps)
      (subst (λ reading. Came reading end (conversation_of steps)) is.reading (outcome steps end m b then))
  outcome (Answers request turns ∷ steps) end a b (m, is, then) =
      answers_or_ends request turns steps end a m b is then (λ more. outcome steps end m b more)
  outcome (AsksRun finished ∷ steps) end a b (m, is, then) =
      asks_or_ends finished steps end a m b is then (λ more. outcome steps end m b more)
  outcome (Begins request turns part ∷ steps) end a b (is, none) =
      begins_and_ends request turns part steps end a b is none
  outcome (Upgrades socket ∷ steps) end a b (is, none) = upgrades_and_ends socket steps end a b is none
