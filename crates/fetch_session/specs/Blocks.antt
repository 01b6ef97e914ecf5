-- The blocks of a run that are whole.
use Rattle.std.specs.Prelude.{◌≤◌, ◌<◌, ℕ, ◌+◌, ◌-◌, min, nat_lt, nat_le, count_by, if◌then◌else◌}
use Rattle.std.specs.List.{range_with_len}
use Rattle.dl_kinds.specs.Plan.{blocks_of, block_start, block_end}
use Rattle.dl_kinds.specs.declared.plan.Plan.{Plan}
use Rattle.dl_kinds.specs.declared.runs.Run.{Run}
use Rattle.fetch_session.specs.declared.blocks.TheConstants.{MOST_READY}
use Rattle.span_map.specs.Jobs.{run_start}

-- how many blocks of the run are whole, where so many of its bytes came
abbrev pub whole_blocks : Plan → Run → ℕ → ℕ
whole_blocks plan run bytes =
    count_by (λ block. nat_le (block_end plan.total plan.piece_len block) (run_start plan run + bytes)) (range_with_len run.first run.count)

-- The blocks that are ready where so many bytes were handed out, and so many came in all: the whole ones behind those
-- that were handed out, at most so many.
abbrev pub ready_blocks : Plan → Run → ℕ → ℕ → Run
ready_blocks plan run handed came = record {
  first = run.first + whole_blocks plan run handed;
  count = min MOST_READY (whole_blocks plan run came - whole_blocks plan run handed);
}

-- where a block begins in the payload, and behind the last one where the payload ends
abbrev pub cut : Plan → ℕ → ℕ
cut plan block = if nat_lt block (blocks_of plan.total plan.piece_len) then block_start plan.piece_len block else plan.total

-- Of a run that goes on up to a block, these are ready by so many bytes: all that are whole, and no byte is behind
-- the most blocks.
pub record AreReady (plan : Plan) (end : ℕ) (ready : Run) (len : ℕ) : Type 0 where
  pub within : ready.first + ready.count ≤ end
  pub few : ready.count ≤ MOST_READY
  pub whole : cut plan (ready.first + ready.count) ≤ cut plan ready.first + len
  pub most : ready.count < min MOST_READY (end - ready.first) → cut plan ready.first + len < cut plan (ready.first + ready.count + 1)
  pub bounded : cut plan ready.first + len ≤ cut plan (min (ready.first + MOST_READY) end)
