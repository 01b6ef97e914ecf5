use Rattle.std.proofs.Common.{arith, ap, ◌∙◌, ◌≡◌, ◌++◌, length, refl}
use Rattle.std.proofs.lemmas.Grind.{div_ceil_times}
use Rattle.std.specs.List.{flat_map, range_with_len}
use Rattle.link_source.specs.Chunks.{in_chunks, chunk_at, chunk_count, last_chunk}
use Rattle.link_source.proofs.ChunkSteps.{one_more}
use Rattle.link_source.proofs.chunks.in_chunks.Goals as goal

pub loop-number-preserved : goal.loop-number-preserved
loop-number-preserved c =
    let count = div_ceil_times (length c.args.content.now) 4096 (omega arith) in
    c.in_ok-add_chunk.ensures ∙ one_more c.args.content.now c.loop-number.text.items _ c.loop-number.number c.min-end.result c.loop-number.invariant (omega arith) (omega arith) refl

pub returns : goal.returns
unfolding in_chunks
returns c =
    let content = c.args.content.now in
    let all : c.loop-number.number ≡ chunk_count content = omega arith in
    c.in_ok-extend_from_slice.ensures.items ∙ ap (λ front. front ++ last_chunk) (c.loop-number.invariant ∙ ap (λ n. flat_map (chunk_at content) (range_with_len 0 n)) all)
