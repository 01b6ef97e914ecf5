-- Turns of a worker over a link that forgets nothing of what it received.
use Rattle.std.specs.Prelude.{◌≡◌, ◌≤◌, ℕ, Bool, IsTrue, List, [], ◌∷◌, Option, None}
use Rattle.engine_turns.specs.Told.{RunTurn}
use Rattle.request_chain.specs.Chains.{received_by}
use Rattle.conn_worker.specs.Hands.{LinkAt, WorkerAt}
use Rattle.conn_worker.specs.Table.{end_behind}
use Rattle.conn_worker.specs.Works.{Does, EndsOrGoesOn}
use Rattle.conn_worker.specs.declared.ends.WorkEnd.{WorkEnd}

-- the bytes that a link received, all in all
abbrev pub received_over : LinkAt → ℕ
received_over link = received_by link.state.exchanges

-- One turn of the table, behind which the link received no fewer bytes than before.
pub record DoesOnward (tells : Bool) (worker told : ℕ) (t : RunTurn) (a b : WorkerAt) : Type 0 where
  pub does : Does tells worker told t a b
  pub more : IsTrue tells → received_over a.link ≤ received_over b.link

-- these turns of the table, in order; the last one ends the work, where anything does
abbrev pub WorksOnward : Bool → ℕ → List RunTurn → WorkerAt → WorkerAt → Option WorkEnd → Type 0
WorksOnward tells worker [] a b end = (b ≡ a) × (end ≡ None)
WorksOnward tells worker (t ∷ ts) a b end =
    (told : ℕ) × (m : WorkerAt) × DoesOnward tells worker told t a m
    × EndsOrGoesOn (end_behind t.answer.said m.hand)
    ((ts ≡ []) × (b ≡ m) × (end ≡ end_behind t.answer.said m.hand))
    (WorksOnward tells worker ts m b end)
