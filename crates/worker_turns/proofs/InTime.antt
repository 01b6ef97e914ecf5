-- A worker that may take more turns than the bound isn't cut short by their number.
use Rattle.std.specs.Prelude.{◌<◌, ◌≤◌, ℕ, length, Result, Ok, Err}
use Rattle.std.proofs.Common.{lt_irrefl, lt_of_le_of_lt, refl, subst}
use Rattle.dl_disk.specs.State.{DiskState}
use Rattle.conn_worker.specs.Works.{IsWithinTurns}
use Rattle.conn_worker.specs.declared.ends.Spent.{Spent}
use Rattle.conn_worker.specs.declared.ends.WorkEnd.{WorkEnd}
use Rattle.conn_worker.specs.declared.working.TheConstants.{MAX_TURNS}
use Rattle.worker_turns.specs.Leisure.{EndsByTurn, SoloRunsEndByTurns, SoloTurnsAreFew}

ends_in_time : (turns bound : ℕ) (result : Result WorkEnd Spent) → turns ≤ bound → bound < MAX_TURNS
    → IsWithinTurns turns result → EndsByTurn result
ends_in_time turns bound (Ok by) few left is = (by, refl)
ends_in_time turns bound (Err spent) few left is =
    absurd (lt_irrefl MAX_TURNS (subst (λ (n : ℕ). n < MAX_TURNS) is (lt_of_le_of_lt few left)))

pub solo_ends : {D : Type 0} (state : D → DiskState) → SoloTurnsAreFew state → SoloRunsEndByTurns state
solo_ends state bounded start earlier worker turns later link now disk solo may left result within =
    ends_in_time (length turns) _ result
    (bounded start earlier worker turns later link now disk solo may left.used left.gains) left.few within
