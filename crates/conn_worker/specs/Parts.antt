-- How many bytes a step of a fetch takes, so that what came is counted soon: of what it may take it takes a part.
use Rattle.std.specs.Prelude.{ℕ, ◌+◌, ◌/◌, max, min, nat_lt, if◌then◌else◌}
use Rattle.engine_turns.specs.declared.limits.TheConstants.{MAX_ALLOWANCE}
use Rattle.engine_turns.specs.declared.operations.Said.{Said}
use Rattle.engine_turns.specs.declared.operations.Said.TheVariants as said
use Rattle.conn_worker.specs.declared.parts.TheConstants.{LEAST_PART, QUICK_STEP, SLOW_STEP}

-- Behind a step that took so many milliseconds: twice as many bytes behind a quick one, and half behind a slow one, but no fewer than
-- bring a block.
abbrev pub next_part : (took part : ℕ) → ℕ
next_part took part =
    if nat_lt took QUICK_STEP then min MAX_ALLOWANCE (part + part)
    else if nat_lt SLOW_STEP took then max LEAST_PART (part / 2)
    else part

-- Behind an answer: a fetch that begins takes the least, and blocks that were counted tell how long their step took.
abbrev pub part_behind : Said → (took part : ℕ) → ℕ
part_behind (said.Grant granted) took part = LEAST_PART
part_behind (said.Kept counted repeated) took part = next_part took part
part_behind answer took part = part
