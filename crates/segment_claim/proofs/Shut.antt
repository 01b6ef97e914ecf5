-- Landed blocks are open in no claim.
use Rattle.std.proofs.Common.{◌≡◌, ◌≢◌, ◌<◌, ◌≤◌, ◌+◌, ◌-◌, ℕ, Bool, true, false, Some, List, length, slice_get, refl, ap, ◌∙◌, arith}
use Rattle.std.specs.Prelude.{◌&&◌, find, nat_le, not, slice_index_or}
use Rattle.std.specs.List.{range_with_len}
use Rattle.std.proofs.lemmas.Option.{slice_get-get_or}
use Rattle.dl_kinds.specs.Plan.{piece_of}
use Rattle.dl_kinds.specs.declared.claims.Claim.{Claim}
use Rattle.piece_table.specs.Changes.{is_in}
use Rattle.segment_claim.specs.Open.{is_open_in}
use Rattle.segment_claim.proofs.Finding.{find_skip}

none_of : (x y : Bool) → (x && false && y) ≡ false
none_of true y = refl
none_of false y = refl

set_where : (landed : List Bool) (block : ℕ) (b : Bool) → slice_get landed block ≡ Some b
    → slice_get landed block ≢ Some false → b ≡ true
set_where landed block true is unlike = refl
set_where landed block false is unlike = absurd (unlike is)

pub shut : (piece_len : ℕ) (landed : List Bool) (closed : List ℕ) (claim : Claim) (block : ℕ) → block < length landed
    → slice_get landed block ≢ Some false → is_open_in piece_len landed closed claim block ≡ false
shut piece_len landed closed claim block within unlike =
    let there = slice_get-get_or landed block false within in
    let set = set_where landed block _ there unlike in
    ap (λ (b : Bool). is_in block claim.run && not b && nat_le (slice_index_or closed (piece_of piece_len block) 0) claim.id) set
    ∙ none_of (is_in block claim.run) (nat_le (slice_index_or closed (piece_of piece_len block) 0) claim.id)

-- the search for an open block goes on behind blocks that are landed
pub skip_landed : (piece_len : ℕ) (landed : List Bool) (closed : List ℕ) (claim : Claim) (from block end : ℕ)
    → from ≤ block → block ≤ end → end ≤ length landed
    → ((b : ℕ) → from ≤ b → b < block → slice_get landed b ≢ Some false)
    → find (is_open_in piece_len landed closed claim) (range_with_len from (end - from))
    ≡ find (is_open_in piece_len landed closed claim) (range_with_len block (end - block))
skip_landed piece_len landed closed claim from block end before within fits passed =
    let test = is_open_in piece_len landed closed claim in
    let sum : from + (block - from) ≡ block = omega arith in
    find_skip test from (block - from) end (omega arith)
    (λ b low high. shut piece_len landed closed claim b (omega arith) (passed b low (omega arith)))
    ∙ ap (λ (i : ℕ). find test (range_with_len i (end - i))) sum
