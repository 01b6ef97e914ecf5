-- What the mirrors in memory of a link gave while it was worked over.
use Rattle.std.specs.Prelude.{◌≡◌, ℕ, Bool, IsTrue, List, ◌++◌, Option}
use Rattle.conn_worker.specs.Hands.{LinkAt, WorkerAt, fresh}
use Rattle.conn_worker.specs.Works.{Works}
use Rattle.conn_worker.specs.declared.ends.WorkEnd.{WorkEnd}
use Rattle.engine_turns.specs.Told.{RunTurn}
use Rattle.link_source.specs.Exchanges.{Exchange}
use Rattle.link_source.specs.Link.{LinkState}
use Rattle.request_chain.specs.Answered.{GaveAll}

-- Exchanges came on top, and each had one answer, or the mirror had hung up: the mirrors had the old content before them, and the
-- new content behind them.
pub record HasAnswered (older newer : LinkState) : Type 0 where
  pub top : List Exchange
  pub on_top : newer.exchanges ≡ top ++ older.exchanges
  pub gave : GaveAll older.content top newer.content

-- these are a worker's turns, in order, over its link from the one state to the other
pub record WorksOver (tells : Bool) (worker : ℕ) (worked : List RunTurn) (old new : LinkAt) : Type 0 where
  pub b : WorkerAt
  pub end : Option WorkEnd
  pub works : Works tells worker worked (fresh old) b end
  pub link_is : b.link ≡ new

-- so the mirrors answered meanwhile
abbrev pub WorkIsAnswered : Type 0
WorkIsAnswered =
    (tells : Bool) (worker : ℕ) (worked : List RunTurn) (old new : LinkAt) → IsTrue tells
    → WorksOver tells worker worked old new → HasAnswered old.state new.state
