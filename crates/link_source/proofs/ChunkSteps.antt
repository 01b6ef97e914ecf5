-- Content in chunks, one chunk after the other.
use Rattle.std.proofs.Common.{◌≡◌, ℕ, zero, suc, ◌+◌, ◌-◌, ◌*◌, ◌≤◌, min, List, ◌++◌, length, take, drop, append_assoc, append-nil, length-drop, add-one, arith, ap, sym, ◌∙◌}
use Rattle.std.proofs.lemmas.List.{take_min}
use Rattle.std.specs.List.{flat_map, range_with_len}
use Rattle.dl_kinds.specs.Lists.{part_at}
use Rattle.link_source.specs.Chunks.{chunk, chunk_at}

more : (f : ℕ → List ℕ) (from n : ℕ) → flat_map f (range_with_len from (suc n)) ≡ flat_map f (range_with_len from n) ++ f (from + n)
more f from zero = append-nil (f from) ∙ ap f (omega arith)
more f from (suc n) =
    ap (λ rest. f from ++ rest) (more f (from + 1) n)
    ∙ sym (append_assoc (f from) (flat_map f (range_with_len (from + 1) n)) (f (from + 1 + n)))
    ∙ ap (λ k. (f from ++ flat_map f (range_with_len (from + 1) n)) ++ f k) (omega arith)

-- the part up to the end or the next chunk
part_there : (content : List ℕ) (start end : ℕ) → start ≤ length content → end ≡ min (length content) (start + 4096)
    → take (end - start) (drop start content) ≡ part_at content start 4096
part_there content start end within is =
    let rest : length (drop start content) ≡ length content - start = length-drop start content in
    ap (λ k. take k (drop start content)) (omega arith) ∙ take_min 4096 (drop start content)

pub one_more : (content text part : List ℕ) (number end : ℕ) → text ≡ flat_map (chunk_at content) (range_with_len 0 number)
    → number * 4096 ≤ length content → end ≡ min (length content) (number * 4096 + 4096)
    → part ≡ take (end - number * 4096) (drop (number * 4096) content)
    → text ++ chunk part ≡ flat_map (chunk_at content) (range_with_len 0 (number + 1))
one_more content text part number end so_far within is part_is =
    ap (λ front. front ++ chunk part) so_far
    ∙ ap (λ bytes. flat_map (chunk_at content) (range_with_len 0 number) ++ chunk bytes) (part_is ∙ part_there content (number * 4096) end within is)
    ∙ sym (more (chunk_at content) 0 number ∙ ap (λ k. flat_map (chunk_at content) (range_with_len 0 number) ++ chunk_at content k) (omega arith))
    ∙ ap (λ k. flat_map (chunk_at content) (range_with_len 0 k)) (sym (add-one number))
