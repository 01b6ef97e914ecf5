-- The turns of a door's session among all turns of a run.
use Rattle.std.proofs.Common.{◌≡◌, ℕ, Bool, true, false, List, [], ◌∷◌, ◌++◌, cond, eqb, refl, sym, ap, ◌∙◌, subst, append_assoc}
use Rattle.std.specs.Prelude.{reverse}
use Rattle.std.proofs.lemmas.List.{reverse-reverse}
use Rattle.console_session.proofs.DoorTells.{among_first, among_more}
use Rattle.console_session.specs.SocketLaws.{StandAmong}
use Rattle.engine_turns.specs.Told.{RunTurn}
use Rattle.turn_desk.specs.Turns.{turns_by}

-- those of a pass stand among all, in order
among_all : (k : ℕ) (ts : List RunTurn) → StandAmong (turns_by k ts) ts
among_all k [] = tt
among_all k (u ∷ ts) = by (eqb u.pass k) (among_all k ts)
  where
    by : (b : Bool) → StandAmong (turns_by k ts) ts → StandAmong (cond b (u ∷ turns_by k ts) (turns_by k ts)) (u ∷ ts)
    by true rest = ([], ts, refl, rest)
    by false rest = among_more (turns_by k ts) (u ∷ []) ts rest

-- .. also where others follow
among_longer : (ts all more : List RunTurn) → StandAmong ts all → StandAmong ts (all ++ more)
among_longer [] all more among = tt
among_longer (t ∷ ts) all more (front, back, are, rest) = (
  front,
  back ++ more,
  ap (λ (l : List RunTurn). l ++ more) are ∙ append_assoc front (t ∷ back) more,
  among_longer ts back more rest,
)

-- the first ones of a pass stand among all turns, of which the newest is told first
pub own_among : (k : ℕ) (turns before rest all more : List RunTurn) → turns_by k turns ≡ before ++ rest
    → all ≡ turns ++ more → StandAmong before (reverse (reverse all))
own_among k turns before rest all more own are =
    let mine = among_first before rest turns (subst (λ (ts : List RunTurn). StandAmong ts turns) own (among_all k turns)) in
    subst (StandAmong before) (sym are ∙ sym (reverse-reverse all)) (among_longer before turns more mine)
