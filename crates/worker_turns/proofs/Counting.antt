-- All turns of a worker are paid for.
use Rattle.std.proofs.Common.{◌≡◌, ◌⊎◌, ◌≤◌, ◌+◌, ◌*◌, ◌∷◌, ℕ, Bool, false, IsTrue, List, [], length, Option, Some, None, refl, ap, ◌∙◌, ⊎_elim, arith, length-append}
use Rattle.std.proofs.lemmas.List.Elements.{All-head, All-tail}
use Rattle.std.specs.Option.{option_or}
use Rattle.machine_core.specs.Starts.{RunStart}
use Rattle.turn_desk.specs.Turns.{events_of}
use Rattle.engine_turns.specs.RunTurns.{MayComeAfter, OperationRow, turn_start}
use Rattle.engine_turns.specs.Standings.{standing_after}
use Rattle.engine_turns.specs.Told.{RunTurn}
use Rattle.engine_turns.specs.declared.operations.Said.{Said}
use Rattle.engine_turns.specs.declared.operations.Said.TheVariants.{Idle}
use Rattle.conn_worker.specs.Hands.{Hand, WorkerAt, fresh}
use Rattle.conn_worker.specs.Sound.{AnswersAreSound}
use Rattle.conn_worker.specs.Table.{end_behind, end_of_hand}
use Rattle.conn_worker.specs.Works.{EndsOrGoesOn, turn_moment}
use Rattle.conn_worker.specs.declared.ends.WorkEnd.{WorkEnd}
use Rattle.worker_turns.proofs.Receiving.{DoesOnward, WorksOnward, received_over}
use Rattle.worker_turns.specs.TurnBounds.{ComeAfter, CountsBlocks, DeliveriesCount, HoldsOnce, NeverIdle, SealsAreTaken, IsSealTaken, TurnsAreBounded, is_hold}
use Rattle.worker_turns.proofs.Appending.{EndsBy, answered}
use Rattle.worker_turns.proofs.Costs.{MeasuredHand, answer_measured, cost_of, gained_received}
use Rattle.worker_turns.proofs.Onward.{works_onward}
use Rattle.worker_turns.proofs.Paying.{IsPlain, turn_paid}

pub no_end : (answer : Said) (hand : Hand) → None ≡ end_behind answer hand → EndsBy answer → ⊥
no_end answer hand none ends =
    (let some : end_behind answer hand ≡ Some ends.0 = ap (λ o. option_or o (end_of_hand hand)) ends.1 in
    let no : None ≡ Some ends.0 = none ∙ some in cc)

module _ (sound : AnswersAreSound) (start : RunStart) (worker : ℕ) (tells : Bool) (told : IsTrue tells) where
  -- so many turns there may be
  abbrev IsPaidFor : List RunTurn → Hand → Bool → (was now : ℕ) → Type 0
  IsPaidFor ts hand held was now =
      length ts + 8 * was ≤ cost_of hand held + 8 * length (events_of ts) + 8 * now + 1

  row_of : (earlier : List RunTurn) (t : RunTurn) → MayComeAfter start earlier t
      → EndsBy t.answer.said
      ⊎ OperationRow (turn_start start earlier t) (standing_after start earlier) t.op t.events t.answer.said
  row_of earlier t may = answered _ _ t.op t.events t.answer.said _ _ _ may.answered

  counts_on : (t : RunTurn) (ts : List RunTurn) (earlier : List RunTurn) (held : Bool) (at : ℕ) (a m b : WorkerAt)
      (end by : Option WorkEnd) → by ≡ end_behind t.answer.said m.hand → DoesOnward tells worker at t a m
      → MayComeAfter start earlier t → CountsBlocks t.op t.answer.said t.events → IsSealTaken t.op t.answer.said
      → (t.answer.said ≡ Idle → ⊥) → HoldsOnce held (t ∷ ts) → MeasuredHand tells a.hand a.link
      → (MeasuredHand tells m.hand m.link → WorksOnward tells worker ts m b end
      → IsPaidFor ts m.hand (is_hold t.answer.said) (received_over m.link) (received_over b.link))
      → EndsOrGoesOn by ((ts ≡ []) × (b ≡ m) × (end ≡ by)) (WorksOnward tells worker ts m b end)
      → IsPaidFor (t ∷ ts) a.hand held (received_over a.link) (received_over b.link)
  counts_on t ts earlier held at a m b end (Some by) is does may counts taken busy once measured goes ended =
      let more = does.more told in
      let none : length ts ≡ 0 = ap length ended.0 in
      let last : received_over b.link ≡ received_over m.link = ap (λ (w : WorkerAt). received_over w.link) ended.1 in
      omega (arith, more, none, last)
  counts_on t ts earlier held at a m b end None is does may counts taken busy once measured goes works =
      let on = no_end t.answer.said m.hand is in
      let plain : IsPlain tells (turn_start start earlier t) (standing_after start earlier) t.op t.answer.said t.events
      held
      a.link m.link = record {
        told = told;
        row = ⊎_elim (λ ends. absurd (on ends)) (λ row. row) (row_of earlier t may);
        goes = on;
        more = does.more told;
        sound = sound start earlier t may;
        counts = counts;
        taken = taken;
        busy = busy;
        once = once.0;
      } in
      let paid = turn_paid tells (turn_start start earlier t) (standing_after start earlier) worker
      (turn_moment at a.moment) t.op t.answer.said t.events held a.link m.hand m.link plain a.hand does.does.op
      does.does.follows measured in
      let rest = goes (answer_measured tells a.hand t.answer.said a.link m.hand m.link measured does.does.follows)
      works in
      let all : length (events_of (t ∷ ts)) ≡ length t.events + length (events_of ts) =
      length-append t.events (events_of ts) in
      omega (arith, paid, rest, all)

  counted : (ts earlier : List RunTurn) (held : Bool) (a b : WorkerAt) (end : Option WorkEnd)
      → ComeAfter start earlier ts → WorksOnward tells worker ts a b end → DeliveriesCount ts → SealsAreTaken ts
      → NeverIdle ts → HoldsOnce held ts → MeasuredHand tells a.hand a.link
      → IsPaidFor ts a.hand held (received_over a.link) (received_over b.link)
  counted [] earlier held a b end come works counts taken busy once measured =
      let same : received_over b.link ≡ received_over a.link = ap (λ (w : WorkerAt). received_over w.link) works.0 in
      omega (arith, same)
  counted (t ∷ ts) earlier held a b end come works counts taken busy once measured =
      counts_on t ts earlier held works.0 a works.1 b end (end_behind t.answer.said works.1.hand) refl works.2 come.0
      (All-head (λ (u : RunTurn). CountsBlocks u.op u.answer.said u.events) t ts counts)
      (All-head (λ (u : RunTurn). IsSealTaken u.op u.answer.said) t ts taken)
      (All-head (λ (u : RunTurn). u.answer.said ≡ Idle → ⊥) t ts busy) once measured
      (λ now rest. counted ts (t ∷ earlier) (is_hold t.answer.said) works.1 b end come.1 rest
      (All-tail (λ (u : RunTurn). CountsBlocks u.op u.answer.said u.events) t ts counts)
      (All-tail (λ (u : RunTurn). IsSealTaken u.op u.answer.said) t ts taken)
      (All-tail (λ (u : RunTurn). u.answer.said ≡ Idle → ⊥) t ts busy) once.1 now) works.3

pub turns_bounded : AnswersAreSound → TurnsAreBounded
turns_bounded sound start earlier worker turns link now behind well used gains =
    let paid = counted sound start worker behind.over.tells behind.over.told turns earlier false (fresh link)
    behind.over.b behind.over.end
    behind.come
    (works_onward behind.over.tells worker turns (fresh link) behind.over.b behind.over.end tt behind.over.works)
    well.count well.taken well.busy well.once tt in
    let more = gained_received link.state.exchanges now.state.exchanges used gains in
    let last : received_over now ≡ received_over behind.over.b.link = ap received_over behind.over.now_is in
    omega (arith, paid, more, last)
