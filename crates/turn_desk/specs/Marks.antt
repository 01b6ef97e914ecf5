-- What is told of a thing outside at the marks of a list of turns, and what lasts from each of them.
use Rattle.std.specs.Prelude.{◌≡◌, ◌≤◌, ℕ, List, ◌++◌}
use Rattle.turn_desk.specs.declared.turn.Stamp.{Stamp}
use Rattle.turn_desk.specs.declared.turn.Turn.{Turn}
use Rattle.turn_desk.specs.Turns.{last_mark}

-- What is told at some moment, `now`, of it and of the moments before: which images a crash at a moment might leave,
-- and whether an image
-- agrees with what was read then.
pub record Telling (I : Type 0) : Type 1 where
  pub now : ℕ
  pub may_leave : ℕ → I → Type 0
  pub agrees : ℕ → I → Type 0

module _ {I : Type 0} where
  -- a later telling, which tells the same of the moments up to the earlier one
  pub record TellsOn (old new : Telling I) : Type 0 where
    pub later : old.now ≤ new.now
    pub left : (moment : ℕ) (image : I) → moment ≤ old.now → old.may_leave moment image → new.may_leave moment image
    pub left_before : (moment : ℕ) (image : I) → moment ≤ old.now → new.may_leave moment image
        → old.may_leave moment image
    pub agreed : (moment : ℕ) (image : I) → moment ≤ old.now → old.agrees moment image → new.agrees moment image
    pub agreed_before : (moment : ℕ) (image : I) → moment ≤ old.now → new.agrees moment image → old.agrees moment image

  -- each image of the moment is good, and agrees with what was read then
  abbrev pub AreGood : (I → Type 0) → Telling I → ℕ → Type 0
  AreGood good telling moment = (image : I) → telling.may_leave moment image → good image × telling.agrees moment image

  -- each image since the moment is good, and each present one agrees with what is read now
  pub record StayGood (good : I → Type 0) (telling : Telling I) (moment : ℕ) : Type 0 where
    pub good_since : (at : ℕ) → moment ≤ at → at ≤ telling.now → (image : I) → telling.may_leave at image → good image
    pub agree_now : (image : I) → telling.may_leave telling.now image → telling.agrees telling.now image

  -- where all images of the moment are good and agree, they stay good
  abbrev pub Lasts : (I → Type 0) → Telling I → ℕ → Type 0
  Lasts good telling moment = AreGood good telling moment → StayGood good telling moment

  -- so from each mark of the turns
  abbrev pub FromEachMark : {O A E : Type 0} → (I → Type 0) → Telling I → Stamp → List (Turn O A E) → Type 0
  FromEachMark {O} {A} {E} good telling mark turns =
      (front back : List (Turn O A E)) → turns ≡ front ++ back → ((last_mark mark front).time ≤ telling.now)
      × Lasts good telling (last_mark mark front).time
