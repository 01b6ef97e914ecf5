-- The turns of the counter, and of a caller of any desk.
use Rattle.std.proofs.Common.{◌≡◌, ℕ, suc, ◌+◌, List, [], ◌∷◌, ◌++◌, length, drop, sum, refl, ap, sym, ◌∙◌, subst, arith, append_assoc, Option, Some, None}
use Rattle.std.proofs.lemmas.List.{append-nil}
use Rattle.std.proofs.Math.Seq.{drop-append_seam, drop-length}
use mathlib.Core.List.{map-append}
use Rattle.turn_desk.specs.declared.turn.Stamp.{Stamp}
use Rattle.turn_desk.specs.declared.turn.Turn.{Turn}
use Rattle.turn_desk.specs.declared.turn.Sight.{Sight}
use Rattle.turn_desk.specs.Turns.{turn_of, events_of}
use Rattle.turn_desk.specs.Sights.{Took, Went}
use Rattle.turn_desk.specs.Laws.{NoTurnsChangeNothing, OneTurnGoes, TurnsAddUp, OwnTurnsArePlaced}
use Rattle.tests_desk.specs.Counts.{Counts, Adds}
use Rattle.tests_desk.specs.Callers.{ops_of, repeated, TookSame, TookEach}

pub events_more : {O A E : Type 0} (ts : List (Turn O A E)) (t : Turn O A E)
    → events_of (ts ++ t ∷ []) ≡ events_of ts ++ t.events
events_more [] t = append-nil t.events
events_more (u ∷ ts) t = ap (λ es. u.events ++ es) (events_more ts t)
    ∙ sym (append_assoc u.events (events_of ts) t.events)

-- a turn of the counter is as its relation says, and the log has its events
pub counted : (turns : List (Turn ℕ (Option ℕ) ℕ)) (pass first op : ℕ) (answer : Option ℕ) (log log' : List ℕ)
    (m m' : Stamp) → Adds first log op answer log' → log ≡ events_of turns
    → Counts first turns (turn_of pass turns op answer log m log' m')
    × (log' ≡ events_of (turns ++ turn_of pass turns op answer log m log' m' ∷ []))
counted turns pass first op None log log' m m' adds is =
    let none : drop (length log) log' ≡ [] = ap (drop (length log)) adds ∙ drop-length log in
    let t = turn_of pass turns op None log m log' m' in (
      none,
      adds ∙ (is ∙ (sym (append-nil (events_of turns))
          ∙ (ap (λ es. events_of turns ++ es) (sym none) ∙ sym (events_more turns t)))),
    )
counted turns pass first op (Some count) log log' m m' adds is =
    let one : drop (length log) log' ≡ op ∷ [] = ap (drop (length log)) adds.0 ∙ drop-append_seam log (op ∷ []) in
    let t = turn_of pass turns op (Some count) log m log' m' in (
      (one, subst (λ es. count ≡ first + sum es + op) is adds.1),
      adds.0 ∙ (ap (λ es. es ++ op ∷ []) is
          ∙ (ap (λ es. events_of turns ++ es) (sym one) ∙ sym (events_more turns t))),
    )

module _ {T O A E : Type 0} (relates : T → List (Turn O A E) → Turn O A E → Type 0) where
  pub none_yet : (s : Sight T O A E) (op : O) → NoTurnsChangeNothing relates → TookSame relates s op 0 s
  none_yet s op none = ([], none s, refl)

  pub one_more : (s s' s'' : Sight T O A E) (op : O) (answer : A) (times : ℕ) → OneTurnGoes relates
      → TurnsAddUp relates → TookSame relates s op times s' → Took relates s' op answer s''
      → TookSame relates s op (times + 1) s''
  one_more s s' s'' op answer times one more same took =
      let ops : ops_of (same.0 ++ took.turn ∷ []) ≡ repeated times op ++ op ∷ [] =
      map-append (λ (t : Turn O A E). t.op) same.0 (took.turn ∷ []) ∙ (λ i. same.2 i ++ took.op_is i ∷ []) in
      let step : suc times ≡ times + 1 = omega arith in (
        same.0 ++ took.turn ∷ [],
        more s s' s'' same.0 (took.turn ∷ []) same.1 (one s' s'' op answer took),
        subst (λ n. ops_of (same.0 ++ took.turn ∷ []) ≡ repeated n op) step ops,
      )

  pub at_places : (s s' : Sight T O A E) (op : O) (counter times : ℕ) → counter ≡ times → OwnTurnsArePlaced relates
      → TookSame relates s op counter s' → TookEach relates s op times s'
  at_places s s' op counter times is placed same = record {
    mine = same.0;
    went = same.1;
    ops = same.2 ∙ ap (λ n. repeated n op) is;
    placed = λ front t back e. placed s s' front t back (subst (λ turns. Went relates s turns s') e same.1);
  }
