-- A seat that has the state serves one operation.
use Rattle.std.proofs.Common.{◌≡◌, ℕ, ◌+◌, ◌%◌, ◌^◌, true, false, List, [], ◌∷◌, ◌++◌, refl, ap, sym, ◌∙◌, subst, Some, None}
use mathlib.Core.Option.{none}
use Rattle.atomic_table.specs.Table.{Me, step, rest, Allows}
use Rattle.turn_desk.specs.declared.served.Served.{Ghosts as ServedSays}
use Rattle.turn_desk.specs.declared.turn.Stamp.{Stamp}
use Rattle.turn_desk.specs.declared.turn.Turn.{Turn}
use Rattle.turn_desk.specs.declared.turn.Given.{Given}
use Rattle.turn_desk.specs.declared.rule.Slot.{Slot}
use Rattle.turn_desk.specs.declared.rule.LastTurn.{LastTurn}
use Rattle.turn_desk.specs.declared.rule.SeatView.{SeatView}
use Rattle.turn_desk.specs.Turns.{turn_of, AreTurns, IsTurn}
use Rattle.turn_desk.specs.Sights.{Took}
use Rattle.turn_desk.specs.States.{IsAt}
use Rattle.turn_desk.specs.Rule.{one_number, IsRuled, HasState, turn_here, GaveBack, IsIdle, sight_of}
use Rattle.turn_desk.proofs.Grows.{Did, goes_on, one_more, by_own}
use Rattle.turn_desk.proofs.Steps.{finishes}

abbrev first_or : {H : Type 0} → H → List (ℕ × H) → H
first_or d [] = d
first_or d (x ∷ xs) = x.1

module _ {S O A V : Type 0} where
  -- what an exchange at the one slot found and left
  pub swapped : (v : V) (m m' : Me (Slot S O A) V) (h old new : Slot S O A) → m ≡ (v, (0, h) ∷ [])
      → m.1 ≡ (0, old) ∷ rest m.1 → m' ≡ (m.0, (0, new) ∷ rest m.1)
      → (old ≡ h) × (m' ≡ (v, (0, new) ∷ []))
  swapped v m m' h old new is was now = (
    ap (first_or old) (sym was ∙ ap (λ (z : Me (Slot S O A) V). z.1) is),
    now
        ∙ ap (λ (z : Me (Slot S O A) V). (z.0, (0, new) ∷ rest z.1)) is,
  )

  pub may_swap : (v : V) (m : Me (Slot S O A) V) (h : Slot S O A) → m ≡ (v, (0, h) ∷ []) → m.1 ≡ (0, h) ∷ rest m.1
  may_swap v m h is = let e = ap (λ (z : Me (Slot S O A) V). z.1) is in e ∙ ap (λ z. (0, h) ∷ rest z) (sym e)

module _ {S T O A E : Type 0} (says : ServedSays S T O A E) (given : Given T E) where
  abbrev Ts : Type 0
  Ts = List (Turn O A E)

  abbrev Mine : Type 0
  Mine = Me (Slot S O A) (SeatView T O A E)

  pub serves : (number : ℕ) (turns : Ts) (x y : S) (op : O) (answer : A) → IsAt says given turns x
      → Did says x op answer y
      → IsAt says given (turns ++ turn_here says given number turns op answer y ∷ []) y
      × IsTurn says.relates given turns (turn_here says given number turns op answer y)
  serves number turns x y op answer at did =
      subst (λ (p : List E × Stamp). let t : Turn O A E =
      turn_of number turns op answer p.0 p.1 (says.entries y) (says.mark y) in
      IsAt says given (turns ++ t ∷ []) y × IsTurn says.relates given turns t) (λ i. (at.entries_are i, at.mark_is i))
      (goes_on says given number turns x y op answer at did)

  pub may_finish : (passes slots id number n : ℕ) (seen own : Ts) (m m' : Mine) (full : Slot S O A) (x y : S)
      (last : LastTurn O A) (op : O) (answer : A) → slots ≡ 1
      → (took : HasState says given number seen own n m) → took.state ≡ x → Did says x op answer y
      → last.op.value ≡ op → last.answer.value ≡ answer
      → full.served ≡ Some y → full.last ≡ Some last
      → m' ≡ (one_number given number took.turns own (Some n) true, (0, full) ∷ [])
      → Allows (IsRuled says given passes) slots id m' 1 (λ k. (k + 1) % 2 ^ 64)
      (GaveBack says (step slots 1 1 0 none) m')
  may_finish passes slots id number n seen own m m' full x y last op answer one took same did op_is answer_is served
      last_is is =
      let done = serves number took.turns x y op answer (subst (IsAt says given took.turns) same took.at) did in
      let done' = subst (λ (z : O × A). IsAt says given
      (took.turns ++ turn_here says given number took.turns z.0 z.1 y ∷ []) y
      × IsTurn says.relates given took.turns (turn_here says given number took.turns z.0 z.1 y))
      (λ i. (sym op_is i, sym answer_is i)) done in
      subst (λ (z : ℕ × Mine). Allows (IsRuled says given passes) z.0 id z.1 1 (λ k. (k + 1) % 2 ^ 64)
      (GaveBack says (step z.0 1 1 0 none) z.1)) (λ i. (sym one i, sym is i))
      (finishes says given passes id number n took.turns own full y last served last_is done'.0 done'.1)

  pub has_served : (slots number n found : ℕ) (seen own : Ts) (m m' m'' : Mine) (full : Slot S O A) (x y : S)
      (last : LastTurn O A) (op : O) (answer : A)
      → (took : HasState says given number seen own n m) → took.state ≡ x → Did says x op answer y
      → last.op.value ≡ op → last.answer.value ≡ answer
      → full.served ≡ Some y → full.last ≡ Some last
      → m' ≡ (one_number given number took.turns own (Some n) true, (0, full) ∷ [])
      → GaveBack says (step slots 1 1 0 none) m' found m''
      → IsIdle given m'' × Took says.relates
      (record { given = given; number = number; seen = seen; own = own }) op answer (sight_of given m'')
  has_served slots number n found seen own m m' m'' full x y last op answer took same did op_is answer_is served
      last_is is done =
      let t : Turn O A E = turn_here says given number took.turns last.op.value last.answer.value y in
      let u : Turn O A E = turn_here says given number took.turns op answer y in
      let tu : t ≡ u = λ i. turn_here says given number took.turns (op_is i) (answer_is i) y in
      let e : m'' ≡ (one_number given number (took.turns ++ t ∷ []) (own ++ t ∷ []) None false, []) =
      done given number n took.turns own full y last is served last_is in
      let one = (serves number took.turns x y op answer (subst (IsAt says given took.turns) same took.at) did).1 in (
        (number, took.turns ++ t ∷ [], own ++ t ∷ [], e),
        subst (λ (z : Mine). Took says.relates
            (record { given = given; number = number; seen = seen; own = own }) op answer (sight_of given z))
            (sym e) record {
              turn = t;
              between = took.more.0;
              given = refl;
              number = refl;
              seen = ap (λ (z : Ts). z ++ t ∷ []) took.more.1;
              own = refl;
              pass = refl;
              op_is = op_is;
              answer_is = answer_is;
              knows = record {
                whole = subst (λ (z : Turn O A E). AreTurns says.relates given (took.turns ++ z ∷ [])) (sym tu)
                    (one_more says.relates given took.turns u took.whole one);
                mine = by_own number took.turns t refl ∙ ap (λ (z : Ts). z ++ t ∷ []) took.mine;
              };
            },
      )
