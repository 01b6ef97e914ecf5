-- Events of a socket, one behind another.
use Rattle.std.proofs.Common.{◌≡◌, refl, sym, ap, subst, ◌∙◌, ℕ, Bool, true, false, List, [], ◌∷◌, ◌++◌, append_assoc, append-nil, true≢false}
use Rattle.std.proofs.lemmas.List.Elements.{All-head, All-tail, All-nil, All-cons}
use Rattle.std.specs.Prelude.{All, IsSome, Option, Some, None, unwrap_or}
use Rattle.rpc_envelope.specs.Turns.{Extends}
use Rattle.tungstenite.specs.Socket.{Socket}
use Rattle.console_socket.proofs.Beginning.{extends_none}
use Rattle.console_socket.proofs.Sending.{sent_all, sent_both}
use Rattle.console_socket.specs.Frames.{tells_all}
use Rattle.console_socket.specs.Hearing.{CutsOff, EndsBy, EndsKnown, is_failing}
use Rattle.console_socket.specs.Sending.{SaysTexts, ServesTexts}
use Rattle.console_socket.specs.Sessions.{CallsAt, AskingAt, SteppingAt, InwardData, joins, says, ticks, SocketStep, TakesSocketStep, seen_inward}
use Rattle.console_socket.specs.Sockets.{SocketEvent, Stepped, AskedRun, AreSocketEvents, FindsFinish, IsBehindJoining, JoinsAtFirst, StopsAtFinish, StopsAtWant, texts_from, turns_of_event}
use Rattle.console_socket.specs.Talking.{CarryOn, Converses, EndsRound, GoesOn, HasRounded, HasTold, StepIsTold, IsToldBy, IsWhole, EventsGoOn, PassesFinish, SendsRound, SocketAt, socket_at, texts_of_events, turns_of_events}
use Rattle.console_socket.specs.declared.ends.SocketEnd.{SocketEnd}
use Rattle.console_socket.specs.declared.ends.SocketEnd.TheVariants.{Finished, Refused, Failed as FailedEnd}
use Rattle.console_socket.specs.declared.session.Inward.{Inward}
use Rattle.console_socket.specs.declared.session.Inward.TheVariants.{Join, Tick}
use Rattle.console_socket.specs.declared.stream.Trouble.{Trouble}
use Rattle.console_socket.specs.declared.talking.Told.{Told}
use Rattle.console_socket.specs.declared.talking.Told.TheVariants.{Sent, Ended as EndedTold}

-- ---- the stream stands

pub ends_sound : (end : SocketEnd) (trouble : Trouble) → (end ≡ FailedEnd → ⊥) → (end ≡ Refused → ⊥) → is_failing trouble ≡ false → EndsBy end trouble
ends_sound end trouble other unrefused sound =
    ((λ is. absurd (other is), λ is. absurd (true≢false (sym (ap is_failing is) ∙ sound))), unrefused)

pub not_joining : (inward : InwardData) (text : List ℕ) → inward ≡ says text → inward ≡ joins → ⊥
not_joining inward text one other = absurd (cc (one, other))

pub not_ticking : (inward : InwardData) → inward ≡ ticks → inward ≡ joins → ⊥
not_ticking inward one other = absurd (cc (one, other))

-- ---- lists of events

turns_both : (front more : List SocketEvent) → turns_of_events (front ++ more) ≡ turns_of_events front ++ turns_of_events more
turns_both [] more = refl
turns_both (event ∷ front) more =
    ap (λ xs. turns_of_event event ++ xs) (turns_both front more) ∙ sym (append_assoc (turns_of_event event) (turns_of_events front) (turns_of_events more))

all_both : (P : SocketEvent → Type 0) (front more : List SocketEvent) → All P front → All P more → All P (front ++ more)
all_both P [] more one other = other
all_both P (event ∷ front) more one other =
    All-cons P event (front ++ more) (All-head P event front one) (all_both P front more (All-tail P event front one) other)

lacks_none : (texts : Option (List (List ℕ))) → IsSome texts → texts ≡ None → ⊥
lacks_none None some none = absurd (true≢false (sym some))
lacks_none (Some texts) some none = absurd (cc none)

stops_both : (end : SocketEnd) (front more : List SocketEvent) → All IsWhole front → StopsAtWant end more → StopsAtWant end (front ++ more)
stops_both end [] more whole stops = stops
stops_both end (AskedRun finished ∷ front) more whole stops = stops_both end front more (All-tail IsWhole (AskedRun finished) front whole) stops
stops_both end (Stepped step ∷ front) more whole stops = (
  λ none. absurd (lacks_none step.texts (All-head IsWhole (Stepped step) front whole) none),
  stops_both end front more (All-tail IsWhole (Stepped step) front whole) stops,
)

passes_none : PassesFinish []
passes_none end more stops = stops

passes_step : (step : SocketStep) → PassesFinish (Stepped step ∷ [])
passes_step step end more stops = stops

passes_both : (front more : List SocketEvent) → PassesFinish front → PassesFinish more → PassesFinish (front ++ more)
passes_both front more one other end last stops =
    subst (StopsAtFinish end) (sym (append_assoc front more last)) (one end (more ++ last) (other end last stops))

-- notices are left, or the run goes on
passes_asking : (finished some : Bool) (step : SocketStep) → step.inward ≡ ticks → (step.texts ≡ Some [] → some ≡ false)
    → (finished ≡ true → some ≡ false → ⊥) → PassesFinish (AskedRun finished ∷ Stepped step ∷ [])
passes_asking finished some step inward none never end more stops = ((inward, λ yes lacks. absurd (never yes (none lacks))), stops)

finds_both : (front more : List SocketEvent) → FindsFinish more → FindsFinish (front ++ more)
finds_both front more finds = record {
  front = front ++ finds.front;
  step = finds.step;
  are = ap (λ xs. front ++ xs) finds.are ∙ sym (append_assoc front finds.front _);
  inward = finds.inward;
  none = finds.none;
}

texts_both : (front more : List SocketEvent) → texts_of_events (front ++ more) ≡ texts_of_events front ++ texts_of_events more
texts_both [] more = refl
texts_both (event ∷ front) more =
    ap (λ xs. texts_from event ++ xs) (texts_both front more) ∙ sym (append_assoc (texts_from event) (texts_of_events front) (texts_of_events more))

-- ---- sockets, one behind another

module _ {X : Type 0} (tells : Bool) (good : X → List ℕ) where
  serves_both : (texts others : List (List ℕ)) (a b c : Socket X) → ServesTexts tells good texts a b → ServesTexts tells good others b c
      → ServesTexts tells good (texts ++ others) a c
  serves_both texts others a b c one other = record {
    rests = other.rests;
    sent = λ e. sent_both good texts others a b c (one.sent e) (other.sent e);
  }

  known_both : (texts others : List (List ℕ)) (end : SocketEnd) (trouble : Trouble) (a b c : Socket X) → ServesTexts tells good texts a b
      → EndsKnown tells good others end trouble b c → EndsKnown tells good (texts ++ others) end trouble a c
  known_both texts others end trouble a b c one other all =
      ((other all).0, λ e. sent_both good texts others a b c (one.sent e) ((other all).1 e))

  sends_both : (texts others : List (List ℕ)) (end : Option SocketEnd) (trouble : Trouble) (a b c : Socket X) → ServesTexts tells good texts a b
      → SendsRound tells good others end trouble b c → SendsRound tells good (texts ++ others) end trouble a c
  sends_both texts others None trouble a b c one other = serves_both texts others a b c one other
  sends_both texts others (Some end) trouble a b c one other = known_both texts others end trouble a b c one other

  serves_all : (texts : List (List ℕ)) (a b : Socket X) → SaysTexts tells good texts a b → ServesTexts tells good texts a b
  serves_all texts a b sends = record { rests = sends.rests; sent = λ e. sent_all good texts a b (sends.sent e) }

  serves_step : (step : SocketStep) (a b : Socket X) → SaysTexts tells good (unwrap_or step.texts []) a b
      → ServesTexts tells good (texts_of_events (Stepped step ∷ [])) a b
  serves_step step a b sends =
      subst (λ xs. ServesTexts tells good xs a b) (sym (append-nil (unwrap_or step.texts []))) (serves_all (unwrap_or step.texts []) a b sends)

  lacks_all : (texts : List (List ℕ)) (end : SocketEnd) (trouble : Trouble) (a b : Socket X) → tells_all end ≡ false
      → EndsKnown tells good texts end trouble a b
  lacks_all texts end trouble a b lacks all = absurd (true≢false (sym all ∙ lacks))

module _ {S T : Type 0} (at : CallsAt S T) (asks : AskingAt S T) (steps : SteppingAt S T) where
  goes_both : (front more : List SocketEvent) (s : S) (d : T) (s' : S) (d' : T) (s'' : S) (d'' : T)
      → AreSocketEvents at asks steps front s d s' d' → AreSocketEvents at asks steps more s' d' s'' d''
      → AreSocketEvents at asks steps (front ++ more) s d s'' d''
  goes_both [] more s d s' d' s'' d'' one other = rw (sym one.0, sym one.1) other
  goes_both (event ∷ front) more s d s' d' s'' d'' one other =
      (one.0, one.1, one.2, goes_both front more one.0 one.1 s' d' s'' d'' one.3 other)

  pub carry_both : (front more : List SocketEvent) (s : S) (d : T) (s' : S) (d' : T) (s'' : S) (d'' : T)
      → CarryOn at asks steps front s d s' d' → CarryOn at asks steps more s' d' s'' d'' → CarryOn at asks steps (front ++ more) s d s'' d''
  carry_both front more s d s' d' s'' d'' one other = record {
    goes = goes_both front more s d s' d' s'' d'' one.goes other.goes;
    extends = λ caller desk earlier stood. subst (at s'' d'' caller desk)
        (append_assoc earlier (turns_of_events front) (turns_of_events more) ∙ ap (λ xs. earlier ++ xs) (sym (turns_both front more)))
        (other.extends caller desk (earlier ++ turns_of_events front) (one.extends caller desk earlier stood));
  }

  pub carry_none : (s : S) (d : T) → CarryOn at asks steps [] s d s d
  carry_none s d = record { goes = (refl, refl); extends = extends_none (at s d) }

  pub carry_step : (step : SocketStep) (s : S) (d : T) (s' : S) (d' : T) → TakesSocketStep at steps step s d s' d'
      → CarryOn at asks steps (Stepped step ∷ []) s d s' d'
  carry_step step s d s' d' takes = record {
    goes = (s', d', takes, (refl, refl));
    extends = subst (λ xs. Extends (at s d) (at s' d') xs) (sym (append-nil step.turns)) takes.extends;
  }

  pub carry_asking : (finished : Bool) (s : S) (d : T) (s' : S) (d' : T) → asks s d finished s' d' → Extends (at s d) (at s' d') []
      → CarryOn at asks steps (AskedRun finished ∷ []) s d s' d'
  carry_asking finished s d s' d' asked extends = record { goes = (s', d', (asked, extends), (refl, refl)); extends = extends }

module _ {S T : Type 0} (at : CallsAt S T) (asks : AskingAt S T) (steps : SteppingAt S T) {X : Type 0} (tells : Bool) (good : X → List ℕ) where
  -- ---- rounds

  pub answered : (inward : Inward) (text : List ℕ) (some : Bool) (trouble : Trouble) (a b : SocketAt S T X)
      → HasTold at steps tells good inward (Sent some) trouble a b → seen_inward inward ≡ says text
      → HasRounded at asks steps tells good None trouble a b
  answered inward text some trouble a b has is = record {
    events = Stepped has.step ∷ [];
    carry = carry_step at asks steps has.step a.session a.desk b.session b.desk has.takes;
    behind = All-cons IsBehindJoining (Stepped has.step) [] (not_joining has.step.inward text (has.inward_is ∙ is)) (All-nil IsBehindJoining);
    ends = record {
      whole = All-cons IsWhole (Stepped has.step) [] has.by.whole (All-nil IsWhole);
      passes = passes_step has.step;
      sound = has.by.sound;
    };
    sends = serves_step tells good has.step a.socket b.socket has.by.sends;
  }

  pub cut_off : (inward : Inward) (text : List ℕ) (end : SocketEnd) (trouble : Trouble) (a b : SocketAt S T X)
      → HasTold at steps tells good inward (EndedTold end) trouble a b → seen_inward inward ≡ says text
      → HasRounded at asks steps tells good (Some end) trouble a b
  cut_off inward text end trouble a b has is = record {
    events = Stepped has.step ∷ [];
    carry = carry_step at asks steps has.step a.session a.desk b.session b.desk has.takes;
    behind = All-cons IsBehindJoining (Stepped has.step) [] (not_joining has.step.inward text (has.inward_is ∙ is)) (All-nil IsBehindJoining);
    ends = record {
      stops = (λ none. (refl, has.by.starved none), tt);
      finishes = λ is. absurd (has.by.cut.0 is);
      stops_finished = tt;
      by = has.by.cut.1;
    };
    sends = lacks_all tells good _ end trouble a.socket b.socket has.by.lacks;
  }

  pub ended_quietly : (end : SocketEnd) (trouble : Trouble) (s : S) (d : T) (x y : Socket X) → CutsOff end trouble
      → EndsKnown tells good [] end trouble x y → HasRounded at asks steps tells good (Some end) trouble (socket_at s d x) (socket_at s d y)
  ended_quietly end trouble s d x y cuts known = record {
    events = [];
    carry = carry_none at asks steps s d;
    behind = All-nil IsBehindJoining;
    ends = record { stops = tt; finishes = λ is. absurd (cuts.0 is); stops_finished = tt; by = cuts.1 };
    sends = known;
  }

  pub passed : (trouble : Trouble) (s : S) (d : T) (x y : Socket X) → is_failing trouble ≡ false → ServesTexts tells good [] x y
      → HasRounded at asks steps tells good None trouble (socket_at s d x) (socket_at s d y)
  passed trouble s d x y sound serves = record {
    events = [];
    carry = carry_none at asks steps s d;
    behind = All-nil IsBehindJoining;
    ends = record { whole = All-nil IsWhole; passes = passes_none; sound = sound };
    sends = serves;
  }

  -- .. behind what was heard
  pub heard_first : (end : Option SocketEnd) (trouble : Trouble) (s : S) (d : T) (x y : Socket X) (b : SocketAt S T X) → ServesTexts tells good [] x y
      → HasRounded at asks steps tells good end trouble (socket_at s d y) b → HasRounded at asks steps tells good end trouble (socket_at s d x) b
  heard_first end trouble s d x y b serves round = record {
    events = round.events;
    carry = round.carry;
    behind = round.behind;
    ends = round.ends;
    sends = sends_both tells good [] (texts_of_events round.events) end trouble x y b.socket serves round.sends;
  }

  -- it was asked whether the run is finished, and then the notices were told
  looked : (finished : Bool) (told : Told) (end : Option SocketEnd) (trouble : Trouble) (s : S) (d : T) (a b : SocketAt S T X)
      → asks s d finished a.session a.desk → Extends (at s d) (at a.session a.desk) [] → (has : HasTold at steps tells good Tick told trouble a b)
      → EndsRound (AskedRun finished ∷ Stepped has.step ∷ []) end trouble
      → SendsRound tells good (texts_of_events (Stepped has.step ∷ [])) end trouble a.socket b.socket
      → HasRounded at asks steps tells good end trouble (socket_at s d a.socket) b
  looked finished told end trouble s d a b asked extends has ends sends = record {
    events = AskedRun finished ∷ Stepped has.step ∷ [];
    carry = carry_both at asks steps (AskedRun finished ∷ []) (Stepped has.step ∷ []) s d a.session a.desk b.session b.desk
        (carry_asking at asks steps finished s d a.session a.desk asked extends)
        (carry_step at asks steps has.step a.session a.desk b.session b.desk has.takes);
    behind = All-cons IsBehindJoining (AskedRun finished) (Stepped has.step ∷ []) tt
        (All-cons IsBehindJoining (Stepped has.step) [] (not_ticking has.step.inward has.inward_is) (All-nil IsBehindJoining));
    ends = ends;
    sends = sends;
  }

  pub looked_on : (finished some : Bool) (trouble : Trouble) (s : S) (d : T) (a b : SocketAt S T X)
      → asks s d finished a.session a.desk → Extends (at s d) (at a.session a.desk) [] → HasTold at steps tells good Tick (Sent some) trouble a b
      → (finished ≡ true → some ≡ false → ⊥) → HasRounded at asks steps tells good None trouble (socket_at s d a.socket) b
  looked_on finished some trouble s d a b asked extends has never =
      looked finished (Sent some) None trouble s d a b asked extends has (record {
        whole = All-cons IsWhole (AskedRun finished) (Stepped has.step ∷ []) tt
            (All-cons IsWhole (Stepped has.step) [] has.by.whole (All-nil IsWhole));
        passes = passes_asking finished some has.step has.inward_is has.by.none.1 never;
        sound = has.by.sound;
      }) (serves_step tells good has.step a.socket b.socket has.by.sends)

  pub looked_last : (finished some : Bool) (trouble : Trouble) (s : S) (d : T) (a b : SocketAt S T X)
      → asks s d finished a.session a.desk → Extends (at s d) (at a.session a.desk) [] → HasTold at steps tells good Tick (Sent some) trouble a b
      → finished ≡ true → some ≡ false → HasRounded at asks steps tells good (Some Finished) trouble (socket_at s d a.socket) b
  looked_last finished some trouble s d a b asked extends has is none =
      looked finished (Sent some) (Some Finished) trouble s d a b asked extends has (record {
        stops = (λ lacks. absurd (lacks_none has.step.texts has.by.whole lacks), tt);
        finishes = λ _. record {
          front = [];
          step = has.step;
          are = ap (λ f. AskedRun f ∷ Stepped has.step ∷ []) is;
          inward = has.inward_is;
          none = has.by.none.0 none;
        };
        stops_finished = ((has.inward_is, λ _ _. (refl, refl)), tt);
        by = ends_sound Finished trouble (λ e. absurd (cc e)) (λ e. absurd (cc e)) has.by.sound;
      }) (λ _. (has.by.sound, (serves_step tells good has.step a.socket b.socket has.by.sends).sent))

  pub looked_cut : (finished : Bool) (end : SocketEnd) (trouble : Trouble) (s : S) (d : T) (a b : SocketAt S T X)
      → asks s d finished a.session a.desk → Extends (at s d) (at a.session a.desk) [] → HasTold at steps tells good Tick (EndedTold end) trouble a b
      → HasRounded at asks steps tells good (Some end) trouble (socket_at s d a.socket) b
  looked_cut finished end trouble s d a b asked extends has =
      looked finished (EndedTold end) (Some end) trouble s d a b asked extends has
      (record {
        stops = (λ none. (refl, has.by.starved none), tt);
        finishes = λ is. absurd (has.by.cut.0 is);
        stops_finished = ((has.inward_is, λ _ lacks. absurd (has.by.some lacks)), tt);
        by = has.by.cut.1;
      }) (lacks_all tells good _ end trouble a.socket b.socket has.by.lacks)

  -- ---- the whole

  pub went_on : (end : Option SocketEnd) (before trouble : Trouble) (a b c : SocketAt S T X)
      → GoesOn at asks steps tells good before a b → HasRounded at asks steps tells good end trouble b c → end ≡ None
      → GoesOn at asks steps tells good trouble a c
  went_on end before trouble a b c goes round is =
      let ends : EventsGoOn round.events trouble = subst (λ e. EndsRound round.events e trouble) is round.ends in
      let sends : ServesTexts tells good (texts_of_events round.events) b.socket c.socket =
      subst (λ e. SendsRound tells good (texts_of_events round.events) e trouble b.socket c.socket) is round.sends in
      record {
        events = goes.events ++ round.events;
        carry = carry_both at asks steps goes.events round.events a.session a.desk b.session b.desk c.session c.desk goes.carry round.carry;
        first = goes.first;
        others = goes.others ++ round.events;
        are = ap (λ xs. xs ++ round.events) goes.are;
        joined = goes.joined;
        behind = all_both IsBehindJoining goes.others round.events goes.behind round.behind;
        leads = record {
          whole = all_both IsWhole goes.events round.events goes.leads.whole ends.whole;
          passes = passes_both goes.events round.events goes.leads.passes ends.passes;
          sound = ends.sound;
        };
        sends = subst (λ xs. ServesTexts tells good xs a.socket c.socket) (sym (texts_both goes.events round.events))
            (serves_both tells good (texts_of_events goes.events) (texts_of_events round.events) a.socket b.socket c.socket goes.sends sends);
      }

  pub ended : (end : SocketEnd) (before trouble : Trouble) (a b c : SocketAt S T X)
      → GoesOn at asks steps tells good before a b → HasRounded at asks steps tells good (Some end) trouble b c
      → Converses at asks steps tells good end trouble a c
  ended end before trouble a b c goes round = record {
    events = goes.events ++ round.events;
    carry = carry_both at asks steps goes.events round.events a.session a.desk b.session b.desk c.session c.desk goes.carry round.carry;
    joined = subst (λ xs. JoinsAtFirst (xs ++ round.events)) (sym goes.are)
        (goes.joined, all_both IsBehindJoining goes.others round.events goes.behind round.behind);
    ends = record {
      stops = stops_both end goes.events round.events goes.leads.whole round.ends.stops;
      finishes = λ is. finds_both goes.events round.events (round.ends.finishes is);
      stops_finished = goes.leads.passes end round.events round.ends.stops_finished;
      by = round.ends.by;
    };
    sends = subst (λ xs. EndsKnown tells good xs end trouble a.socket c.socket) (sym (texts_both goes.events round.events))
        (known_both tells good (texts_of_events goes.events) (texts_of_events round.events) end trouble a.socket b.socket c.socket goes.sends round.sends);
  }

  pub begun : (told : Told) (some : Bool) (trouble : Trouble) (a b : SocketAt S T X)
      → HasTold at steps tells good Join told trouble a b → told ≡ Sent some → GoesOn at asks steps tells good trouble a b
  begun told some trouble a b has is =
      let by : StepIsTold tells good has.step some trouble a.socket b.socket =
      subst (λ t. IsToldBy tells good has.step t trouble a.socket b.socket) is has.by in
      record {
        events = Stepped has.step ∷ [];
        carry = carry_step at asks steps has.step a.session a.desk b.session b.desk has.takes;
        first = has.step;
        others = [];
        are = refl;
        joined = has.inward_is;
        behind = All-nil IsBehindJoining;
        leads = record {
          whole = All-cons IsWhole (Stepped has.step) [] by.whole (All-nil IsWhole);
          passes = passes_step has.step;
          sound = by.sound;
        };
        sends = serves_step tells good has.step a.socket b.socket by.sends;
      }

  pub ended_at_once : (end : SocketEnd) (trouble : Trouble) (a b : SocketAt S T X)
      → HasTold at steps tells good Join (EndedTold end) trouble a b → Converses at asks steps tells good end trouble a b
  ended_at_once end trouble a b has = record {
    events = Stepped has.step ∷ [];
    carry = carry_step at asks steps has.step a.session a.desk b.session b.desk has.takes;
    joined = (has.inward_is, All-nil IsBehindJoining);
    ends = record {
      stops = (λ none. (refl, has.by.starved none), tt);
      finishes = λ is. absurd (has.by.cut.0 is);
      stops_finished = tt;
      by = has.by.cut.1;
    };
    sends = lacks_all tells good _ end trouble a.socket b.socket has.by.lacks;
  }
