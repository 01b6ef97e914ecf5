-- The rule of a desk's table: what its words, its slot and the views of its seats are, and what each step tells.
-- Word 0 counts the tickets that were drawn, word 1 the turns that were taken, both modulo 2^64; word 2 is the number
-- of passes. The slot has the state.
use Rattle.std.specs.Prelude.{◌≡◌, ◌≢◌, ◌⊎◌, ◌≤◌, ◌<◌, ◌%◌, ◌^◌, ◌+◌, ◌-◌, ℕ, Bool, true, false, List, [], ◌∷◌, ◌++◌, length, Option, None, Some, nat_le, slice_get, map, MatchBool, if◌then◌else◌}
use mathlib.Core.Option as maybe
use mathlib.Core.Option.{some, none}
use lib.ListN.{get_elem?}
use Rattle.atomic_table.specs.Table.{State, Me, Step}
use Rattle.turn_desk.specs.declared.served.Served.{Ghosts as ServedSays}
use Rattle.turn_desk.specs.declared.turn.Sight.{Sight}
use Rattle.turn_desk.specs.declared.turn.Turn.{Turn}
use Rattle.turn_desk.specs.declared.turn.Given.{Given}
use Rattle.turn_desk.specs.declared.rule.Slot.{Slot}
use Rattle.turn_desk.specs.declared.rule.LastTurn.{LastTurn}
use Rattle.turn_desk.specs.declared.rule.Share.{Share}
use Rattle.turn_desk.specs.declared.rule.SeatView.{SeatView}
use Rattle.turn_desk.specs.Sights.{DeskId, Took}
use Rattle.turn_desk.specs.States.{IsOwned, IsAt}
use Rattle.turn_desk.specs.Passes.{TurnDeskView, PassView, IsPassOf, AreNumbered}
use Rattle.turn_desk.specs.Turns.{turn_of, history, last_mark, turns_by, StartsWith, AreTurns}

-- how many tickets
abbrev pub tickets : Option ℕ → ℕ
tickets None = 0
tickets (Some n) = 1

-- f of each, added up
abbrev pub sum_over : {V : Type 0} → (V → ℕ) → List V → ℕ
sum_over f [] = 0
sum_over f (v ∷ vs) = f v + sum_over f vs

module _ {O A E : Type 0} where
  abbrev pub share : ℕ → List (Turn O A E) → Share O A E
  share number own = record { number = number; own = own }

  abbrev pub longer_of : List (Turn O A E) → List (Turn O A E) → List (Turn O A E)
  longer_of xs ys = if nat_le (length xs) (length ys) then ys else xs

module _ {T O A E : Type 0} where
  -- how many numbers a view has, or has still to hand on
  abbrev pub numbers_of : SeatView T O A E → ℕ
  numbers_of v = length v.shares + v.left

  abbrev pub waits : SeatView T O A E → ℕ
  waits v = tickets v.ticket

  -- the view of a seat that has so many numbers to hand on, from `next` on, at a desk that begins with these turns
  abbrev pub dealing : Given T E → List (Turn O A E) → ℕ → ℕ → SeatView T O A E
  dealing given base next left = record {
    given = Some given;
    next = next;
    left = left;
    seen = base;
    shares = [];
    ticket = None;
    has_turn = false;
  }

  -- the view of a seat that was joined to another
  abbrev pub spent_view : SeatView T O A E
  spent_view = record { given = None; next = 0; left = 0; seen = []; shares = []; ticket = None; has_turn = false }

  -- a view with one number
  abbrev pub one_number : Given T E → ℕ → List (Turn O A E) → List (Turn O A E) → Option ℕ → Bool → SeatView T O A E
  one_number given number seen own ticket has_turn =
      record {
        given = Some given;
        next = 0;
        left = 0;
        seen = seen;
        shares = share number own ∷ [];
        ticket = ticket;
        has_turn = has_turn;
      }

  -- the view of a seat that has handed its next number on, and of the seat that has it now
  abbrev pub dealer : SeatView T O A E → SeatView T O A E
  dealer v = record v { next = v.next + 1; left = v.left - 1 }

  abbrev pub dealt : SeatView T O A E → SeatView T O A E
  dealt v = record {
    given = v.given;
    next = 0;
    left = 0;
    seen = v.seen;
    shares = share v.next (turns_by v.next v.seen) ∷ [];
    ticket = None;
    has_turn = false;
  }

  -- the view of a seat that has taken in these shares
  abbrev pub gathering : Given T E → List (Turn O A E) → List (Share O A E) → SeatView T O A E
  gathering given seen shares = record {
    given = Some given;
    next = 0;
    left = 0;
    seen = seen;
    shares = shares;
    ticket = None;
    has_turn = false;
  }

  -- the seats were joined
  abbrev pub gathered : SeatView T O A E → SeatView T O A E → SeatView T O A E
  gathered v w = record v { seen = longer_of v.seen w.seen; shares = v.shares ++ w.shares }

  -- what the rule says of the view of the seat i
  pub record Suits (given : Given T E) (passes drawn : ℕ) (turns : List (Turn O A E)) (owner holder : ℕ → ℕ) (i : ℕ)
      (v : SeatView T O A E) : Type 0 where
    pub given_is : 0 < numbers_of v → v.given ≡ Some given
    pub seen : StartsWith turns v.seen
    pub ticket : (n : ℕ) → v.ticket ≡ Some n → (length turns ≤ n) × (n < drawn) × (holder n ≡ i)
    pub turn : v.has_turn ≡ true → (v.ticket ≡ Some (length turns)) × (v.seen ≡ turns)
    pub waits_once : waits v ≤ numbers_of v
    pub shares : (j : ℕ) (h : Share O A E) → get_elem? v.shares j ≡ some h → (h.number < passes)
        × (owner h.number ≡ i) × (turns_by h.number turns ≡ h.own)
    pub apart : (j k : ℕ) (g h : Share O A E) → get_elem? v.shares j ≡ some g → get_elem? v.shares k ≡ some h
        → g.number ≡ h.number → j ≡ k
    pub left : (k : ℕ) → v.next ≤ k → k < v.next + v.left → (k < passes) × (owner k ≡ i)
        × (turns_by k turns ≡ turns_by k v.seen)

  -- the view has this number, or has it still to hand on
  abbrev pub HasNumber : ℕ → SeatView T O A E → Type 0
  HasNumber k v = ((j : ℕ) × (h : Share O A E) × (get_elem? v.shares j ≡ some h) × (h.number ≡ k))
      ⊎ ((v.next ≤ k) × (k < v.next + v.left))

module _ {S T O A E : Type 0} where
  -- a ticket was drawn
  abbrev pub Drew : Step (Slot S O A) → Me (Slot S O A) (SeatView T O A E) → ℕ → Me (Slot S O A) (SeatView T O A E)
      → Type 0
  Drew st m found m' = (n : ℕ) × (n % 2 ^ 64 ≡ found) × (m' ≡ (record m.0 { ticket = Some n }, m.1))

module _ {S T O A E : Type 0} (says : ServedSays S T O A E) where
  -- at home is the state after all turns, and no view has its turn; otherwise some view has it
  abbrev pub LiesHome : Given T E → List (Turn O A E) → List (SeatView T O A E) → maybe.Option (Slot S O A) → Type 0
  LiesHome given turns views (some h) =
      ((x : S) × (h.served ≡ Some x) × IsAt says given turns x)
      × ((i : ℕ) (v : SeatView T O A E) → get_elem? views i ≡ some v → v.has_turn ≡ false)
  LiesHome given turns views none = (i : ℕ) × (v : SeatView T O A E) × (get_elem? views i ≡ some v)
      × (v.has_turn ≡ true)

  pub record IsRuled (given : Given T E) (passes : ℕ) (s : State (Slot S O A) (SeatView T O A E)) : Type 0 where
    pub turns : List (Turn O A E)
    pub drawn : ℕ
    -- which seat has a number, and which a ticket
    pub owner : ℕ → ℕ
    pub holder : ℕ → ℕ
    pub words : s.words ≡ drawn % 2 ^ 64 ∷ length turns % 2 ^ 64 ∷ passes ∷ []
    pub few : passes < 2 ^ 32
    pub shared_out : sum_over numbers_of s.views ≡ passes
    pub queue : drawn ≡ length turns + sum_over waits s.views
    pub whole : AreTurns says.relates given turns
    pub numbered : AreNumbered passes turns
    pub slot : (h : maybe.Option (Slot S O A)) × (s.homes ≡ h ∷ []) × LiesHome given turns s.views h
    pub each : (i : ℕ) (v : SeatView T O A E) → get_elem? s.views i ≡ some v
        → Suits given passes drawn turns owner holder i v
    pub had : (k : ℕ) → k < passes → (v : SeatView T O A E) × (get_elem? s.views (owner k) ≡ some v) × HasNumber k v

  abbrev My : Type 0
  My = Me (Slot S O A) (SeatView T O A E)

  -- the state was taken, at all turns so far
  pub record HasState (given : Given T E) (number : ℕ) (seen own : List (Turn O A E)) (n : ℕ) (m' : My) : Type 0 where
    pub turns : List (Turn O A E)
    pub slot : Slot S O A
    pub state : S
    pub view : m' ≡ (one_number given number turns own (Some n) true, (0, slot) ∷ [])
    pub served : slot.served ≡ Some state
    pub at : IsAt says given turns state
    pub more : StartsWith turns seen
    pub whole : AreTurns says.relates given turns
    pub mine : turns_by number turns ≡ own

  abbrev pub Looked : Step (Slot S O A) → My → ℕ → My → Type 0
  Looked st m found m' = (given : Given T E) (number n : ℕ) (seen own : List (Turn O A E))
      → m ≡ (one_number given number seen own (Some n) false, [])
      → (found ≡ n % 2 ^ 64 → HasState given number seen own n m') × (found ≢ n % 2 ^ 64 → m' ≡ m)

module _ {S T O A E : Type 0} (says : ServedSays S T O A E) where
  -- the turn after those seen, which left the state y
  abbrev pub turn_here : Given T E → ℕ → List (Turn O A E) → O → A → S → Turn O A E
  turn_here given number seen op answer y =
      turn_of number seen op answer (history given seen) (last_mark given.mark seen) (says.entries y) (says.mark y)

  abbrev pub GaveBack : Step (Slot S O A) → Me (Slot S O A) (SeatView T O A E) → ℕ
      → Me (Slot S O A) (SeatView T O A E) → Type 0
  GaveBack st m found m' = (given : Given T E) (number n : ℕ) (seen own : List (Turn O A E)) (h : Slot S O A) (y : S)
      (last : LastTurn O A)
      → m ≡ (one_number given number seen own (Some n) true, (0, h) ∷ []) → h.served ≡ Some y → h.last ≡ Some last
      → m' ≡ (
        one_number given number (seen ++ turn_here given number seen last.op.value last.answer.value y ∷ [])
            (own ++ turn_here given number seen last.op.value last.answer.value y ∷ []) None false,
        [],
      )

-- these numbers, each once and none left out, have all the turns
pub record HaveAll {T O A E : Type 0} (relates : T → List (Turn O A E) → Turn O A E → Type 0) (given : Given T E)
    (passes : ℕ) (turns : List (Turn O A E)) (shares : List (Share O A E)) : Type 0 where
  pub whole : AreTurns relates given turns
  pub numbered : AreNumbered passes turns
  pub count : length shares ≡ passes
  pub share_is : (j : ℕ) (h : Share O A E) → get_elem? shares j ≡ some h → (h.number < passes)
      × (turns_by h.number turns ≡ h.own)
  pub apart : (j k : ℕ) (g h : Share O A E) → get_elem? shares j ≡ some g → get_elem? shares k ≡ some h
      → g.number ≡ h.number → j ≡ k
  pub all : (k : ℕ) → k < passes → (j : ℕ) × (h : Share O A E) × (get_elem? shares j ≡ some h) × (h.number ≡ k)

abbrev pub first_share : {O A E : Type 0} → List (Share O A E) → Share O A E
first_share [] = share 0 []
first_share (h ∷ hs) = h

abbrev pub share_of : {T O A E : Type 0} → PassView T O A E → Share O A E
share_of p = share p.number p.own

-- a desk as its contracts see it
abbrev pub desk_of : {T O A E : Type 0} → DeskId → Sight T O A E → ℕ → TurnDeskView T E
desk_of desk_id solo passes = record { desk_id = desk_id; given = solo.given; passes = passes }

module _ {S T O A E : Type 0} where
  abbrev pub pass_of : DeskId → Me (Slot S O A) (SeatView T O A E) → PassView T O A E
  pass_of z m = record {
    desk_id = z;
    given = m.0.given;
    number = (first_share m.0.shares).number;
    seen = m.0.seen;
    own = (first_share m.0.shares).own;
  }

  -- a view with one number, which waits for nothing
  abbrev pub IsIdle : Given T E → Me (Slot S O A) (SeatView T O A E) → Type 0
  IsIdle given m = (number : ℕ) × (seen : List (Turn O A E)) × (own : List (Turn O A E))
      × (m ≡ (one_number given number seen own None false, []))

  abbrev pub IsPlaying : Me (Slot S O A) (SeatView T O A E) → Type 0
  IsPlaying m = (given : Given T E) × IsIdle given m

  -- the same with a ticket, of which this is the part that a word holds
  abbrev pub IsWaiting : Given T E → ℕ → Me (Slot S O A) (SeatView T O A E) → Type 0
  IsWaiting given ticket m = (number : ℕ) × (seen : List (Turn O A E)) × (own : List (Turn O A E)) × (n : ℕ)
      × (n % 2 ^ 64 ≡ ticket) × (m ≡ (one_number given number seen own (Some n) false, []))

  abbrev pub sight_of : Given T E → Me (Slot S O A) (SeatView T O A E) → Sight T O A E
  sight_of given m = record {
    given = given;
    number = (first_share m.0.shares).number;
    seen = m.0.seen;
    own = (first_share m.0.shares).own;
  }

  -- the view has drawn a ticket
  abbrev pub Waits : Given T E → ℕ → Me (Slot S O A) (SeatView T O A E) → Me (Slot S O A) (SeatView T O A E) → Type 0
  Waits given ticket m m' = (number : ℕ) (seen own : List (Turn O A E))
      → m ≡ (one_number given number seen own None false, []) → (n : ℕ) × (n % 2 ^ 64 ≡ ticket)
      × (m' ≡ (one_number given number seen own (Some n) false, []))

module _ {S T O A E : Type 0} where
  -- the holder of the seat took one turn
  abbrev pub TakesTurn : (T → List (Turn O A E) → Turn O A E → Type 0) → Given T E
      → Me (Slot S O A) (SeatView T O A E) → O → A → Me (Slot S O A) (SeatView T O A E) → Type 0
  TakesTurn relates given m op answer m' = Took relates (sight_of given m) op answer (sight_of given m')

module _ {S T O A E : Type 0} (says : ServedSays S T O A E) where
  abbrev It : Type 0
  It = Me (Slot S O A) (SeatView T O A E)

  -- the seat has the state, which it took at its turn
  abbrev pub HasTurn : Given T E → ℕ → It → It → Type 0
  HasTurn given ticket m m' = (number n : ℕ) (seen own : List (Turn O A E)) → n % 2 ^ 64 ≡ ticket
      → m ≡ (one_number given number seen own (Some n) false, [])
      → HasState says given number seen own n m'

  -- it looked whether the turn has come
  abbrev pub Looks : Given T E → ℕ → It → Bool → It → Type 0
  Looks given ticket m came m' = MatchBool came (HasTurn given ticket m m') (m' ≡ m)

  abbrev pub IsServing : Given T E → It → Type 0
  IsServing given m = (number n : ℕ) × (seen own : List (Turn O A E)) × HasState says given number seen own n m

  -- one turn came after all that had been taken
  abbrev pub HasServed : Given T E → It → O → A → It → Type 0
  HasServed given m op answer m' = (number n : ℕ) (seen own : List (Turn O A E))
      → HasState says given number seen own n m
      → IsIdle given m' × Took says.relates
      (record { given = given; number = number; seen = seen; own = own }) op answer (sight_of given m')

abbrev pub IsOneState : {S O A : Type 0} → List (Slot S O A) → Type 0
IsOneState {S} {O} {A} slots = (x : S) × (slots ≡ record { served = Some x; last = None } ∷ [])

module _ {S T O A E : Type 0} where
  -- the seat hands numbers on
  abbrev pub IsDealing : Given T E → List (Turn O A E) → ℕ → ℕ → Me (Slot S O A) (SeatView T O A E) → Type 0
  IsDealing given base next left m = m ≡ (dealing given base next left, [])

  abbrev pub MayDeal : Given T E → Me (Slot S O A) (SeatView T O A E) → Type 0
  MayDeal given m = (base : List (Turn O A E)) × (next left : ℕ) × (0 < left) × IsDealing given base next left m

  abbrev pub IsDealingAll : Given T E → ℕ → Me (Slot S O A) (SeatView T O A E) → Type 0
  IsDealingAll given passes m = (base : List (Turn O A E)) × IsDealing given base 0 passes m

  abbrev pub IsGathering : Given T E → List (Share O A E) → Me (Slot S O A) (SeatView T O A E) → Type 0
  IsGathering given shares m = (seen : List (Turn O A E)) × (m ≡ (gathering given seen shares, []))

  abbrev pub IsGatheringSome : Given T E → Me (Slot S O A) (SeatView T O A E) → Type 0
  IsGatheringSome given m = (shares : List (Share O A E)) × IsGathering given shares m

  -- the pass joined a seat with others
  abbrev pub Gathers : Given T E → PassView T O A E → Me (Slot S O A) (SeatView T O A E)
      → Me (Slot S O A) (SeatView T O A E) → Type 0
  Gathers given pass m m' = (shares : List (Share O A E)) → IsGathering given shares m
      → IsGathering given (share_of pass ∷ shares) m'

  abbrev pub GathersAll : Given T E → List (PassView T O A E) → Me (Slot S O A) (SeatView T O A E) → Type 0
  GathersAll given passes m = IsGathering given (map share_of passes) m

  abbrev pub HasAllNumbers : TurnDeskView T E → Me (Slot S O A) (SeatView T O A E) → Type 0
  HasAllNumbers desk m = (shares : List (Share O A E)) × (desk.passes ≤ length shares) × IsGathering desk.given shares m

  -- the desk that goes on from this one, and the seat that has all its numbers
  pub record Opens (solo : Sight T O A E) (passes : ℕ) (desk : TurnDeskView T E) (seat_id : DeskId)
      (m : Me (Slot S O A) (SeatView T O A E)) : Type 0 where
    pub owned : IsOwned solo
    pub given : desk.given ≡ solo.given
    pub passes_are : desk.passes ≡ passes
    pub table : seat_id ≡ desk.desk_id
    pub deals : IsDealing desk.given solo.seen 0 passes m

module _ {T O A E : Type 0} where
  -- a pass that was just dealt, at a desk that begins with these turns
  pub record IsDealt (desk : TurnDeskView T E) (base : List (Turn O A E)) (number : ℕ)
      (pass : PassView T O A E) : Type 0 where
    pub of_desk : IsPassOf desk pass
    pub number_is : pass.number ≡ number
    pub seen : pass.seen ≡ base
    pub own : pass.own ≡ turns_by number base

  abbrev pub AreDealt : TurnDeskView T E → List (Turn O A E) → List (PassView T O A E) → Type 0
  AreDealt desk base passes = (k : ℕ) (p : PassView T O A E) → slice_get passes k ≡ Some p → IsDealt desk base k p

module _ {S T O A E : Type 0} where
  -- the next number was handed on
  abbrev pub Deals : TurnDeskView T E → Me (Slot S O A) (SeatView T O A E) → Me (Slot S O A) (SeatView T O A E)
      → PassView T O A E → Type 0
  Deals desk m m' pass = (base : List (Turn O A E)) (next left : ℕ) → IsDealing desk.given base next left m
      → IsDealing desk.given base (next + 1) (left - 1) m' × IsDealt desk base next pass

  abbrev pub DealsAll : TurnDeskView T E → ℕ → Me (Slot S O A) (SeatView T O A E) → List (PassView T O A E) → Type 0
  DealsAll desk passes m all = (base : List (Turn O A E)) → IsDealing desk.given base 0 passes m
      → AreDealt desk base all

module _ {S T O A E : Type 0} (says : ServedSays S T O A E) where
  -- the state is the one after all turns, which these shares have
  abbrev pub EndsAt : Given T E → ℕ → List (Share O A E) → S → Type 0
  EndsAt given passes shares x = (turns : List (Turn O A E)) × IsAt says given turns x
      × HaveAll says.relates given passes turns shares

  abbrev pub Finishes : TurnDeskView T E → Me (Slot S O A) (SeatView T O A E) → S → Type 0
  Finishes desk m x = (shares : List (Share O A E)) → desk.passes ≤ length shares → IsGathering desk.given shares m
      → EndsAt desk.given desk.passes shares x
