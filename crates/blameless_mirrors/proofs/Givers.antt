-- A piece that one mirror gave whole.
use Rattle.std.proofs.Common.{◌≡◌, ⊎_elim, ℕ, ◌+◌, ◌-◌, ◌*◌, ◌<◌, ◌≤◌, List, length, drop, get_or, ap, ◌∙◌, subst, arith}
use Rattle.std.proofs.lemmas.List.{length-drop, length-take, get_or-take, get_or-drop}
use Rattle.std.proofs.lemmas.List.Elements.{All-get_or}
use Rattle.std.proofs.lemmas.List.FromFn.{get_or-map-range_with_len, length-map-range_with_len}
use Rattle.dl_kinds.specs.Plan.{blocks_of, blocks_of_piece, full_blocks, piece_of}
use Rattle.dl_kinds.specs.Lists.{part_at}
use Rattle.piece_table.proofs.Numbers.{place_from, place_within}
use Rattle.piece_table.specs.Changes.{Absent, From, MayBeFrom, is_present}
use Rattle.piece_table.specs.declared.giver.Giver.TheVariants.{One}
use Rattle.dl_history.proofs.Bools.{true_not_false}
use Rattle.dl_history.specs.OwnEvents.{OwnEvent}
use Rattle.dl_history.specs.OwnLegal.{MaySettle}
use Rattle.dl_history.specs.PayloadParts.{is_landed_in, source_in, sources_in}

-- each block of a full piece that one mirror gave is from it
pub given_whole : (total len : ℕ) (own : List OwnEvent) (piece m b : ℕ) → 1 ≤ len → MaySettle total len own piece (One m)
    → b < blocks_of total len → piece_of len b ≡ piece → source_in len own b ≡ From m
given_whole total len own piece m b some may within of =
    let xs = sources_in total len own in
    let at : ℕ = piece * full_blocks len in
    let n : ℕ = blocks_of_piece total len piece in
    let from : at ≤ b = place_from len b piece of in
    let to : b < at + n = place_within total len b piece some within of may.within in
    let k : ℕ = b - at in
    let long : length xs ≡ blocks_of total len = length-map-range_with_len (source_in len own) 0 (blocks_of total len) in
    let below : k < n = omega (arith, from, to) in
    let inside : k < length (part_at xs at n) =
    omega (arith, from, to, within, long, length-take n (drop at xs), length-drop at xs) in
    let there : get_or (part_at xs at n) k Absent ≡ source_in len own b =
    get_or-take n (drop at xs) k Absent below
    ∙ get_or-drop at xs k Absent
    ∙ get_or-map-range_with_len (source_in len own) 0 (blocks_of total len) (at + k) b Absent
    (omega (arith, from, within)) (omega (arith, from)) in
    let is : MayBeFrom m (source_in len own b) =
    subst (MayBeFrom m) there (All-get_or (MayBeFrom m) (part_at xs at n) k Absent inside may.givers.1) in
    ⊎_elim
    (λ (absent : source_in len own b ≡ Absent).
    true_not_false (is_landed_in len own b) (may.full b within of) (ap is_present absent))
    (λ (given : source_in len own b ≡ From m). given) is
