use Rattle.std.proofs.Common.{◌≡◌, ◌-◌, ◌^◌, min, take}
use Rattle.meta_v2.specs.Sound.{all_bytes}
use Rattle.payload_repair.proofs.payload.total_len.Given as goal

abbrev pub invariant-loop-file : goal.invariant-loop-file
invariant-loop-file l = l.total ≡ min (all_bytes (take l.file-index l.files)) (2 ^ 64 - 1)
