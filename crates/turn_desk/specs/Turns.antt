-- Lists of turns: what each turn is, and what holds after them.
use Rattle.std.specs.Prelude.{◌≡◌, ◌≤◌, ℕ, List, [], ◌∷◌, ◌++◌, length, drop, ◌==◌, if◌then◌else◌}
use Rattle.turn_desk.specs.declared.turn.Stamp.{Stamp}
use Rattle.turn_desk.specs.declared.turn.Turn.{Turn}
use Rattle.turn_desk.specs.declared.turn.Given.{Given}

-- neither number falls
abbrev pub IsLater : Stamp → Stamp → Type 0
IsLater before after = (before.time ≤ after.time) × (before.faults ≤ after.faults)

-- the list is this front and more behind it
abbrev pub StartsWith : {A : Type 0} → List A → List A → Type 0
StartsWith {A} whole front = (rest : List A) × (whole ≡ front ++ rest)

module _ {O A E : Type 0} where
  -- the turn of this pass behind these turns, in which a state went from entries and mark to other ones
  abbrev pub turn_of : ℕ → List (Turn O A E) → O → A → List E → Stamp → List E → Stamp → Turn O A E
  turn_of pass turns op answer es m fs n =
      record {
        pass = pass;
        rank = length turns;
        place = length es;
        before = m;
        op = op;
        answer = answer;
        events = drop (length es) fs;
        after = n;
      }

  -- what the turns appended, in order
  abbrev pub events_of : List (Turn O A E) → List E
  events_of [] = []
  events_of (t ∷ ts) = t.events ++ events_of ts

  -- the mark behind the last turn
  abbrev pub last_mark : Stamp → List (Turn O A E) → Stamp
  last_mark m [] = m
  last_mark m (t ∷ ts) = last_mark t.after ts

  -- the turns of one pass, in order
  abbrev pub turns_by : ℕ → List (Turn O A E) → List (Turn O A E)
  turns_by k [] = []
  turns_by k (t ∷ ts) = if t.pass == k then t ∷ turns_by k ts else turns_by k ts

module _ {T O A E : Type 0} where
  -- the history after these turns
  abbrev pub history : Given T E → List (Turn O A E) → List E
  history given turns = given.entries ++ events_of turns

  -- the turn may come behind these
  pub record IsTurn (relates : T → List (Turn O A E) → Turn O A E → Type 0) (given : Given T E)
      (earlier : List (Turn O A E)) (t : Turn O A E) : Type 0 where
    pub rank : t.rank ≡ length earlier
    pub place : t.place ≡ length (history given earlier)
    pub mark : t.before ≡ last_mark given.mark earlier
    pub later : IsLater t.before t.after
    pub tied : relates given.start earlier t

  -- each turn of the list may come behind those before it
  abbrev pub AreTurns : (T → List (Turn O A E) → Turn O A E → Type 0) → Given T E → List (Turn O A E) → Type 0
  AreTurns relates given turns =
      (earlier : List (Turn O A E)) (t : Turn O A E) (later : List (Turn O A E)) → turns ≡ earlier ++ t ∷ later
      → IsTurn relates given earlier t

module _ {S T O A E : Type 0} where
  -- where the old state stands for turns, one more by any pass is as its relation says, and the new state stands for
  -- them with it
  abbrev pub ServesTurn : (T → List (Turn O A E) → Turn O A E → Type 0) → (S → List (Turn O A E) → Type 0) → (S → T)
      → (S → List E) → (S → Stamp) → S → O → A → S → Type 0
  ServesTurn relates stands start entries mark old op answer new =
      (turns : List (Turn O A E)) (pass : ℕ) → stands old turns
      → let turn = turn_of pass turns op answer (entries old) (mark old) (entries new) (mark new) in
      relates (start old) turns turn × stands new (turns ++ turn ∷ [])
