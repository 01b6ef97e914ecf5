-- What is to be fetched of a payload: a run of its blocks, by parts of resources.
use Rattle.std.specs.Prelude.{◌≡◌, ◌<◌, ◌≤◌, ℕ, ◌+◌, ◌-◌, List, sum_by, All}
use Rattle.dl_kinds.specs.Plan.{blocks_of, block_start, block_end}
use Rattle.dl_kinds.specs.declared.plan.Plan.{Plan}
use Rattle.dl_kinds.specs.declared.runs.Run.{Run}
use Rattle.span_map.specs.declared.jobs.Job.{Job}
use Rattle.span_map.specs.declared.jobs.JobPart.{JobPart}

-- the bytes of a run: from where its first block begins in the payload to before where its last one ends
abbrev pub run_start : Plan → Run → ℕ
run_start plan run = block_start plan.piece_len run.first

abbrev pub run_end : Plan → Run → ℕ
run_end plan run = block_end plan.total plan.piece_len (run.first + run.count - 1)

-- some blocks of the plan
pub record IsRun (plan : Plan) (run : Run) : Type 0 where
  pub some : 0 < run.count
  pub within : run.first + run.count ≤ blocks_of plan.total plan.piece_len

-- some bytes of a resource, up to its end at most
pub record IsJobPart (part : JobPart) : Type 0 where
  pub some : 0 < part.len
  pub within : part.at + part.len ≤ part.total

abbrev pub parts_len : List JobPart → ℕ
parts_len parts = sum_by (λ part. part.len) parts

-- a run of at least one block of the plan, and parts of resources that are its bytes
pub record IsJob (job : Job) : Type 0 where
  pub some : 0 < job.run.count
  pub within : job.run.first + job.run.count ≤ blocks_of job.plan.total job.plan.piece_len
  pub parts : All IsJobPart job.parts
  pub len : run_start job.plan job.run + parts_len job.parts ≡ run_end job.plan job.run
