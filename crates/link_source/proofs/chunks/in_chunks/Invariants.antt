use Rattle.std.proofs.Common.{◌≡◌}
use Rattle.std.specs.List.{flat_map, range_with_len}
use Rattle.link_source.specs.Chunks.{chunk_at}
use Rattle.link_source.proofs.chunks.in_chunks.Given as goal

-- the chunks of the numbers so far
abbrev pub invariant-loop-number : goal.invariant-loop-number
invariant-loop-number l = l.text.items ≡ flat_map (chunk_at l.content) (range_with_len 0 l.number)
