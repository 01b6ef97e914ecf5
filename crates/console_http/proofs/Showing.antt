-- What the door shows of a conversation.
use Rattle.std.proofs.Common.{◌≡◌, inl, inr, ℕ, Bool, true, false, List, [], ◌∷◌, ◌++◌, refl, ap, sym, ◌∙◌, subst, append_assoc}
use Rattle.std.proofs.lemmas.Bool.{MatchBool-at_true, MatchBool-at_false, cases_Bool}
use Rattle.std.proofs.lemmas.List.{append-nil}
use Rattle.std.specs.Bool.{MatchBool}
use Rattle.std.specs.Prelude.{IsTrue}
use Rattle.door_source.specs.DoorLaws.{NewestIsOne}
use Rattle.door_source.specs.Doors.{Connection, DoorState, Becomes}
use Rattle.door_source.specs.declared.Doors.{Ghosts as DoorSays}
use Rattle.request_stream.specs.Requests.{Request, is_last}
use Rattle.rpc_envelope.specs.Turns.{BeginsWith, Invoked, outcomes_in}
use Rattle.console_http.specs.Answering.{CausesBreak}
use Rattle.console_http.specs.Conversations.{Conversation, conversation_of, with_step}
use Rattle.console_http.specs.Readings.{DoorAt, ConsoleAt}
use Rattle.console_http.specs.Receiving.{GivesOut, GivesPart, HearsAll, TakesIn}
use Rattle.console_http.specs.Responding.{response_to}
use Rattle.console_http.specs.Sessions.{AskingAt, CallsAt, SteppingAt}
use Rattle.console_http.specs.Talks.{TalkStep, Hears, Answers, AsksRun, Begins, Upgrades, EndsHere, IsAnswering, Talks}
use Rattle.console_http.specs.declared.ends.ConnectionEnd.{ConnectionEnd}
use Rattle.console_http.specs.declared.ends.ConnectionEnd.TheVariants.{AtItsEnd, HungUp, RunEnded, Failed, Starved, Socket}
use Rattle.console_socket.specs.Sockets.{GainsBytes, GainsTalk, SocketTalk}
use Rattle.console_socket.specs.declared.ends.SocketEnd.{SocketEnd}

-- so much was received and sent behind what a connection had before
abbrev pub grown : Connection → List ℕ → List ℕ → Connection
grown c received sent = record c { received = c.received ++ received; sent = c.sent ++ sent }

-- The newest connection grew by this, and the rest of what its peer sends is left.
pub record Grows (c : Connection) (end : ConnectionEnd) (received sent : List ℕ) (old new : DoorState) : Type 0 where
  pub becomes : Becomes c (grown c received sent) old new
  pub rest : List ℕ
  pub front : c.whole ≡ c.received ++ received ++ rest
  pub all : end ≡ AtItsEnd → rest ≡ []

-- the connection is the newest one, and has no more than its peer sends
pub record IsNewest (c : Connection) (s : DoorState) : Type 0 where
  pub earlier : List Connection
  pub stands : s.connections ≡ earlier ++ c ∷ []
  pub rest : List ℕ
  pub front : c.whole ≡ c.received ++ rest

module _ (newest_is_one : NewestIsOne) where
  -- the newest connection became one, and then another
  becomes_both : (c d e : Connection) (s t u : DoorState) → Becomes c d s t → Becomes d e t u → Becomes c e s u
  becomes_both c d e s t u first then = record {
    earlier = first.earlier;
    were = first.were;
    are = (newest_is_one d e d first.earlier t u then first.are).1;
    is_open = then.is_open ∙ first.is_open;
    is_closed = then.is_closed ∙ first.is_closed;
  }

  -- ---- one step

  -- bytes were received
  record IsTaken (c : Connection) (piece : List ℕ) (s t : DoorState) : Type 0 where
    becomes : Becomes c (record c { received = c.received ++ piece }) s t
    rest : List ℕ
    next : c.whole ≡ c.received ++ piece ++ rest

  taken : (c : Connection) (earlier : List Connection) (piece : List ℕ) (s t : DoorState)
      → s.connections ≡ earlier ++ c ∷ [] → TakesIn piece s t → IsTaken c piece s t
  taken c earlier piece s t stands takes =
      let next : Connection = takes.newest in
      let same = (newest_is_one next (record next { received = next.received ++ piece }) c earlier s t takes.becomes stands).0 in
      let P : Connection → Type 0 = λ d. IsTaken d piece s t in
      subst P same (record { becomes = takes.becomes; rest = takes.rest; next = takes.next })

  given : (c : Connection) (earlier : List Connection) (bytes : List ℕ) (s t : DoorState)
      → s.connections ≡ earlier ++ c ∷ [] → GivesOut bytes s t → Becomes c (record c { sent = c.sent ++ bytes }) s t
  given c earlier bytes s t stands gives =
      let next : Connection = gives.newest in
      let same = (newest_is_one next (record next { sent = next.sent ++ bytes }) c earlier s t gives.becomes stands).0 in
      let P : Connection → Type 0 = λ d. Becomes d (record d { sent = d.sent ++ bytes }) s t in
      subst P same gives.becomes

  -- ---- none

  unmoved : (c : Connection) (earlier : List Connection) (s t : DoorState) → s.connections ≡ earlier ++ c ∷ [] → t ≡ s
      → Becomes c c s t
  unmoved c earlier s t stands same =
      let P : DoorState → Type 0 = Becomes c c s in
      subst P (sym same) (record { earlier = earlier; were = stands; are = stands; is_open = refl; is_closed = refl })

  -- a connection grows by nothing
  grown_none : (c : Connection) → c ≡ grown c [] []
  grown_none c = λ i. record {
    received = sym (append-nil c.received) i;
    sent = sym (append-nil c.sent) i;
    whole = c.whole;
  }

  grows_none : (c : Connection) (end : ConnectionEnd) (s t : DoorState) (rest : List ℕ) → c.whole ≡ c.received ++ rest
      → (end ≡ AtItsEnd → rest ≡ []) → Becomes c c s t → Grows c end [] [] s t
  grows_none c end s t rest front all same =
      let P : Connection → Type 0 = λ d. Becomes c d s t in
      record {
        becomes = subst P (grown_none c) same;
        rest = rest;
        front = front ∙ ap (λ received. received ++ rest) (sym (append-nil c.received));
        all = all;
      }

  -- ---- one step in front of others

  takes_then : (c : Connection) (end : ConnectionEnd) (piece received sent : List ℕ) (s t u : DoorState)
      → Becomes c (record c { received = c.received ++ piece }) s t
      → Grows (record c { received = c.received ++ piece }) end received sent t u
      → Grows c end (piece ++ received) sent s u
  takes_then c end piece received sent s t u first then =
      let grouped = append_assoc c.received piece received in
      let P : List ℕ → Type 0 = λ all. Becomes c (record c { received = all; sent = c.sent ++ sent }) s u in
      record {
        becomes = subst P grouped (becomes_both c (record c { received = c.received ++ piece }) _ s t u first then.becomes);
        rest = then.rest;
        front = then.front ∙ ap (λ all. all ++ then.rest) grouped;
        all = then.all;
      }

  gives_then : (c : Connection) (end : ConnectionEnd) (bytes received sent : List ℕ) (s t u : DoorState)
      → Becomes c (record c { sent = c.sent ++ bytes }) s t
      → Grows (record c { sent = c.sent ++ bytes }) end received sent t u
      → Grows c end received (bytes ++ sent) s u
  gives_then c end bytes received sent s t u first then =
      let grouped = append_assoc c.sent bytes sent in
      let P : List ℕ → Type 0 = λ all. Becomes c (record c { received = c.received ++ received; sent = all }) s u in
      record {
        becomes = subst P grouped (becomes_both c (record c { sent = c.sent ++ bytes }) _ s t u first then.becomes);
        rest = then.rest;
        front = then.front;
        all = then.all;
      }

  -- ---- all steps

  newest_taken : (c : Connection) (piece : List ℕ) (s t : DoorState) → IsTaken c piece s t
      → IsNewest (record c { received = c.received ++ piece }) t
  newest_taken c piece s t taken =
      record { earlier = taken.becomes.earlier; stands = taken.becomes.are; rest = taken.rest; front = taken.next }

  newest_given : (c : Connection) (bytes : List ℕ) (s t : DoorState) → IsNewest c s
      → Becomes c (record c { sent = c.sent ++ bytes }) s t → IsNewest (record c { sent = c.sent ++ bytes }) t
  newest_given c bytes s t newest becomes =
      record { earlier = becomes.earlier; stands = becomes.are; rest = newest.rest; front = newest.front }

  -- nothing more is received or sent
  grows_no_more : (c : Connection) (end : ConnectionEnd) (s t : DoorState) → IsNewest c s → t ≡ s → (end ≡ AtItsEnd → ⊥)
      → Grows c end [] [] s t
  grows_no_more c end s t newest same other =
      grows_none c end s t newest.rest newest.front (λ e. absurd (other e)) (unmoved c newest.earlier s t newest.stands same)

  hears_all : (c : Connection) (s t : DoorState) → IsNewest c s → HearsAll s t → Grows c AtItsEnd [] [] s t
  hears_all c s t newest hears =
      let next : Connection = hears.newest in
      let same = (newest_is_one next next c newest.earlier s t hears.becomes newest.stands).0 in
      let P : Connection → Type 0 = λ d. Becomes d d s t × (d.received ≡ d.whole) in
      let is = subst P same (hears.becomes, hears.all) in
      grows_none c AtItsEnd s t [] (sym is.1 ∙ sym (append-nil c.received)) (λ _. refl) is.0

  gives_part : (c : Connection) (end : ConnectionEnd) (part : List ℕ) (s t : DoorState) → IsNewest c s → GivesPart part s t
      → (end ≡ AtItsEnd → ⊥) → Grows c end [] (part ++ []) s t
  gives_part c end part s t newest (inl gives) other =
      let becomes = given c newest.earlier part s t newest.stands gives in
      gives_then c end part [] [] s t t becomes
      (grows_no_more (record c { sent = c.sent ++ part }) end t t (newest_given c part s t newest becomes) refl other)
  gives_part c end part s t newest (inr none) other =
      let P : List ℕ → Type 0 = λ bytes. Grows c end [] (bytes ++ []) s t in
      subst P (sym none.0) (grows_no_more c end s t newest none.1 other)

  -- a WebSocket received and sent this, behind what the connection had before
  gained : (c : Connection) (received sent : List ℕ) (s t : DoorState) → IsNewest c s → GainsBytes received sent s t
      → (end : ConnectionEnd) → (end ≡ AtItsEnd → ⊥) → Grows c end received sent s t
  gained c received sent s t newest gains end other =
      let next : Connection = gains.newest in
      let same = (newest_is_one next (grown next received sent) c newest.earlier s t gains.becomes newest.stands).0 in
      let P : Connection → Type 0 = λ d. Becomes d (grown d received sent) s t × (BeginsWith d.whole d.received → BeginsWith d.whole (d.received ++ received)) in
      let is = subst P same (gains.becomes, gains.next) in
      let more = is.1 (newest.rest, newest.front) in
      record {
        becomes = is.0;
        rest = more.0;
        front = more.1;
        all = λ e. absurd (other e);
      }

  socket_shows : (c : Connection) (end : ConnectionEnd) (talk : SocketTalk) (s t : DoorState) → IsNewest c s
      → GainsTalk talk s t → (end ≡ AtItsEnd → ⊥) → Grows c end (talk.received ++ []) (talk.sent ++ []) s t
  socket_shows c end talk s t newest gains other =
      let P : List ℕ → Type 0 = λ received. Grows c end received (talk.sent ++ []) s t in
      let Q : List ℕ → Type 0 = λ sent. Grows c end talk.received sent s t in
      subst P (sym (append-nil talk.received)) (subst Q (sym (append-nil talk.sent)) (by gains))
    where
      by : GainsTalk talk s t → Grows c end talk.received talk.sent s t
      by (inl gains) = gained c talk.received talk.sent s t newest gains end other
      by (inr (unheard, unsaid, still)) =
          let P : List ℕ → Type 0 = λ received. Grows c end received talk.sent s t in
          let Q : List ℕ → Type 0 = λ sent. Grows c end [] sent s t in
          subst P (sym unheard) (subst Q (sym unsaid) (grows_no_more c end s t newest still other))

  module _ {S T A : Type 0} (at : CallsAt S T) (asks : AskingAt S T) (moves : SteppingAt S T) (says : DoorSays A)
      (told : IsTrue says.tells) where
    abbrev pub Shows : Connection → ConnectionEnd → Conversation → A → A → Type 0
    Shows c end talk old new = Grows c end talk.received talk.sent (says.state old) (says.state new)

    quiet : (end : ConnectionEnd) (a : ConsoleAt S T A) (b : DoorAt S T A) (c : Connection)
        → IsNewest c (says.state a.place.door) → EndsHere at asks moves says end a b
        → Grows c end [] [] (says.state a.place.door) (says.state b.door)
    quiet AtItsEnd a b c newest here = hears_all c _ _ newest (here.2.told told)
    quiet Failed a b c newest here = grows_no_more c Failed _ _ newest (here.2.told told) (λ e. cc)
    quiet Starved a b c newest here = grows_no_more c Starved _ _ newest (here.1.told told) (λ e. cc)
    quiet HungUp a b c newest here = absurd here
    quiet RunEnded a b c newest here = absurd here
    quiet (Socket how) a b c newest here = absurd here

    -- the connection ends behind the last step
    abbrev LastOf : List TalkStep → ConnectionEnd → ConnectionEnd → ConsoleAt S T A → DoorAt S T A → Type 0
    LastOf steps end how m b = (steps ≡ []) × (end ≡ how) × (b ≡ m.place)

    last_shows : (steps : List TalkStep) (end how : ConnectionEnd) (m : ConsoleAt S T A) (b : DoorAt S T A) (c : Connection)
        → LastOf steps end how m b → (how ≡ AtItsEnd → ⊥) → IsNewest c (says.state m.place.door)
        → Shows c end (conversation_of steps) m.place.door b.door
    last_shows steps end how m b c is other newest =
        let here : Shows c how (conversation_of []) m.place.door m.place.door = grows_no_more c how _ _ newest refl other in
        subst (λ (d : DoorAt S T A). Shows c end (conversation_of steps) m.place.door d.door) (sym is.2)
        (subst (λ others. Shows c end (conversation_of others) m.place.door m.place.door) (sym is.0)
        (subst (λ e. Shows c e (conversation_of []) m.place.door m.place.door) (sym is.1) here))

    answers_show : (request : Request) (turns : List Invoked) (steps : List TalkStep) (end : ConnectionEnd)
        (a m : ConsoleAt S T A) (b : DoorAt S T A) (c : Connection) → IsNewest c (says.state a.place.door)
        → IsAnswering at asks moves says request turns a m
        → MatchBool (is_last request) (LastOf steps end HungUp m b) (Talks at asks moves says steps end m b)
        → ((d : Connection) → IsNewest d (says.state m.place.door) → Talks at asks moves says steps end m b
        → Shows d end (conversation_of steps) m.place.door b.door)
        → Shows c end (with_step (Answers request turns) (conversation_of steps)) a.place.door b.door
    answers_show request turns steps end a m b c newest is then on =
        let bytes : List ℕ = response_to request (outcomes_in turns) in
        let becomes = given c newest.earlier bytes _ _ newest.stands (is.responds.sends.told told) in
        let d : Connection = record c { sent = c.sent ++ bytes } in
        let next : IsNewest d (says.state m.place.door) = newest_given c bytes _ _ newest becomes in
        let rest : Shows d end (conversation_of steps) m.place.door b.door = elim (cases_Bool (is_last request)) [
          | inl last ↦
              last_shows steps end HungUp m b d
              (MatchBool-at_true (LastOf steps end HungUp m b) (Talks at asks moves says steps end m b) last then) (λ e. cc) next
          | inr more ↦
              on d next (MatchBool-at_false (LastOf steps end HungUp m b) (Talks at asks moves says steps end m b) more then)
        ] in
        gives_then c end bytes _ _ _ _ _ becomes rest

    asks_show : (finished : Bool) (steps : List TalkStep) (end : ConnectionEnd) (m : ConsoleAt S T A) (b : DoorAt S T A)
        (c : Connection) → IsNewest c (says.state m.place.door)
        → MatchBool finished (LastOf steps end RunEnded m b) (Talks at asks moves says steps end m b)
        → (Talks at asks moves says steps end m b → Shows c end (conversation_of steps) m.place.door b.door)
        → Shows c end (conversation_of steps) m.place.door b.door
    asks_show true steps end m b c newest ends on = last_shows steps end RunEnded m b c ends (λ e. cc) newest
    asks_show false steps end m b c newest goes on = on goes

    no_end : (end : ConnectionEnd) (how : SocketEnd) → end ≡ Socket how → end ≡ AtItsEnd → ⊥
    no_end end how is e = cc

    breaks : (end : ConnectionEnd) (before now : ℕ) → CausesBreak end before now → end ≡ AtItsEnd → ⊥
    breaks AtItsEnd before now never e = absurd never
    breaks HungUp before now never e = absurd never
    breaks RunEnded before now never e = absurd never
    breaks (Socket how) before now never e = absurd never
    breaks Failed before now cause e = cc
    breaks Starved before now cause e = cc

    pub shows : (steps : List TalkStep) (end : ConnectionEnd) (a : ConsoleAt S T A) (b : DoorAt S T A) (c : Connection)
        → IsNewest c (says.state a.place.door) → Talks at asks moves says steps end a b
        → Shows c end (conversation_of steps) a.place.door b.door
    shows [] end a b c newest here = quiet end a b c newest here
    shows (Hears piece ∷ steps) end a b c newest (m, is, then) =
        let takes = taken c newest.earlier piece _ _ newest.stands (is.receives.told told) in
        takes_then c end piece _ _ _ _ _ takes.becomes
        (shows steps end m b (record c { received = c.received ++ piece }) (newest_taken c piece _ _ takes) then)
    shows (Answers request turns ∷ steps) end a b c newest (m, is, then) =
        answers_show request turns steps end a m b c newest is then (λ d next more. shows steps end m b d next more)
    shows (AsksRun finished ∷ steps) end a b c newest (m, is, then) =
        let next : IsNewest c (says.state m.place.door) = subst (λ d. IsNewest c (says.state d)) (sym is.door) newest in
        subst (λ d. Shows c end (conversation_of steps) d b.door) is.door
        (asks_show finished steps end m b c next then (λ more. shows steps end m b c next more))
    shows (Begins request turns part ∷ steps) end a b c newest (is, none) =
        subst (λ others. Shows c end (with_step (Begins request turns part) (conversation_of others)) a.place.door b.door) (sym none)
        (gives_part c end part _ _ newest (is.begins.told told) (breaks end _ _ is.begins.cause))
    shows (Upgrades socket ∷ steps) end a b c newest (is, none) =
        subst (λ others. Shows c end (with_step (Upgrades socket) (conversation_of others)) a.place.door b.door) (sym none)
        (socket_shows c end socket _ _ newest (is.keeps.told told) (no_end end is.how is.end_is))
