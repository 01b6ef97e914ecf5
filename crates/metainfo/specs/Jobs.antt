-- What is asked of a mirror for a run of blocks of a payload (BEP 3, BEP 19).
use Rattle.std.specs.Prelude.{ℕ, ◌-◌, List, map, slice_get}
use Rattle.std.specs.Option.{option_map_or}
use Rattle.dl_kinds.specs.declared.plan.Plan.{Plan}
use Rattle.dl_kinds.specs.declared.runs.Run.{Run}
use Rattle.span_map.specs.Jobs.{run_start, run_end}
use Rattle.span_map.specs.Slices.{slice_of}
use Rattle.span_map.specs.declared.files.FileLen.{FileLen}
use Rattle.span_map.specs.declared.files.Part.{Part}
use Rattle.span_map.specs.declared.jobs.JobPart.{JobPart}
use Rattle.metainfo.specs.Urls.{seed_url_of}

-- the length of the file of this number
abbrev pub len_of_file : List FileLen → ℕ → ℕ
len_of_file files file = option_map_or (λ f. f.len) (slice_get files file) 0

-- a part of a file is asked of what stands at the file's URL at the mirror
abbrev pub mirror_part : List FileLen → List ℕ → Part → JobPart
mirror_part files base part = record {
  url = seed_url_of files base part.file;
  at = part.at;
  len = part.len;
  total = len_of_file files part.file;
}

-- the parts of a run, in order
abbrev pub run_parts : List FileLen → Plan → Run → List ℕ → List JobPart
run_parts files plan run base =
    map (mirror_part files base) (slice_of files (run_start plan run) (run_end plan run - run_start plan run))
