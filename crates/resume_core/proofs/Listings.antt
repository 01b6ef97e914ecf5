-- A control file that lists what two rows say.
use Rattle.std.proofs.Common.{◌≡◌, inl, inr, ℕ, ◌+◌, ◌*◌, ◌<◌, ◌≤◌, Bool, true, false, List, length, get_or, slice_get, Some, Contains, sym, subst, refl, ap, ◌∙◌, ⊎_elim, arith}
use Rattle.std.proofs.lemmas.Nat.{div-add-mod'}
use Rattle.std.proofs.lemmas.List.Elements.{Contains-get_or}
use Rattle.std.proofs.lemmas.Option.{slice_get-get_or, slice_get_within, get_or_from_slice_get}
use Rattle.dl_kinds.specs.Plan.{pieces_of, blocks_of, blocks_of_piece, full_blocks, piece_of, place_of}
use Rattle.dl_kinds.proofs.Cuts.{blocks_within, piece_within, place_within}
use Rattle.piece_table.specs.Progress.{IsStart, piece_part}
use Rattle.piece_table.proofs.Parts.{length-part}
use Rattle.control_file.specs.Spelling.{bytes_of_piece}
use Rattle.control_file.specs.declared.control.Control.{Control}
use Rattle.control_file.specs.declared.control.InFlight.{InFlight}
use Rattle.control_file.specs.declared.want.Want.{Want}
use Rattle.resume_core.specs.Found.{hash_bytes}
use Rattle.resume_core.specs.Listing.{BlockListed}
use Rattle.resume_core.specs.Tables.{IsPartial, ArePartial, ListsJust}
use Rattle.control_file.specs.Wants.{IsWant}
use Rattle.resume_core.proofs.Places.{part_bit}

abbrev control_with : Want → List Bool → ℕ → List ℕ → List InFlight → Control
control_with want verified ext hash flight = record {
  ext = ext;
  info_hash = hash;
  piece_len = want.plan.piece_len;
  total = want.plan.total;
  uploaded = 0;
  pieces = verified;
  flight = flight;
}

module _ (total len : ℕ) (listed : List Bool) (some : 1 ≤ len) (long : length listed ≡ blocks_of total len) where
  pub fits : (piece : ℕ) → piece < pieces_of total len
      → piece * full_blocks len + blocks_of_piece total len piece ≤ length listed
  fits piece below = omega (arith, long, blocks_within total len piece some below)

  pub part_long : (piece : ℕ) → piece < pieces_of total len
      → length (piece_part total len listed piece) ≡ blocks_of_piece total len piece
  part_long piece below = length-part listed (piece * full_blocks len) (blocks_of_piece total len piece) (fits piece below)

  -- a block is a bit of its piece's part
  bit_of_piece : (block : ℕ) → block < blocks_of total len
      → slice_get (piece_part total len listed (piece_of len block)) (place_of len block) ≡ slice_get listed block
  bit_of_piece block below =
      part_bit listed (piece_of len block * full_blocks len) (blocks_of_piece total len (piece_of len block))
      (place_of len block) (place_within total len block some below)
      (fits (piece_of len block) (piece_within total len block some below))
      ∙ ap (λ (n : ℕ). slice_get listed n) (div-add-mod' block (full_blocks len))

  bit_in_part : (piece block : ℕ) → piece < pieces_of total len → piece ≡ piece_of len block
      → slice_get (piece_part total len listed piece) (place_of len block) ≡ Some true
      → slice_get listed block ≡ Some true
  bit_in_part piece block below is set =
      let inside : place_of len block < blocks_of_piece total len piece = omega (
        arith,
        part_long piece below,
        slice_get_within (piece_part total len listed piece) (place_of len block) true set,
      ) in
      sym (part_bit listed (piece * full_blocks len) (blocks_of_piece total len piece) (place_of len block) inside
      (fits piece below)
      ∙ ap (λ (n : ℕ). slice_get listed (n * full_blocks len + place_of len block)) is
      ∙ ap (λ (n : ℕ). slice_get listed n) (div-add-mod' block (full_blocks len)))
      ∙ set

module _ (want : Want) (is : IsWant want) (verified listed : List Bool) (ext : ℕ) (hash : List ℕ)
    (flight : List InFlight) (start : IsStart want.plan.total want.plan.piece_len verified listed)
    (bit : ext ≤ 1) (hash_len : length hash ≡ 20 * ext) (hash_is : hash ≡ hash_bytes want.info_hash)
    (are : ArePartial want.plan.total want.plan.piece_len verified listed want.plan.pieces flight) where
  below_pieces : (piece : ℕ) → piece < want.plan.pieces → piece < pieces_of want.plan.total want.plan.piece_len
  below_pieces piece below = omega (arith, below, is.pieces)

  partial : (k : ℕ) (d : InFlight) → k < length flight
      → IsPartial want.plan.total want.plan.piece_len verified listed want.plan.pieces (get_or flight k d)
  partial k d within = (are.exact (get_or flight k d)).0 (Contains-get_or flight k d within)

  to_listed : (block : ℕ) → BlockListed want (control_with want verified ext hash flight) block
      → slice_get listed block ≡ Some true
  to_listed block lists = ⊎_elim
      (λ of_piece.
      let piece = piece_of want.plan.piece_len block in
      let inside = place_within want.plan.total want.plan.piece_len block is.plan.some of_piece.0 in
      let part = piece_part want.plan.total want.plan.piece_len listed piece in
      let long = part_long want.plan.total want.plan.piece_len listed is.plan.some start.blocks piece
      (piece_within want.plan.total want.plan.piece_len block is.plan.some of_piece.0) in
      let within : place_of want.plan.piece_len block < length part = omega (arith, inside, long) in
      sym (bit_of_piece want.plan.total want.plan.piece_len listed is.plan.some start.blocks block of_piece.0)
      ∙ slice_get-get_or part (place_of want.plan.piece_len block) false within
      ∙ ap (λ (b : Bool). Some b) (start.full piece of_piece.1 (place_of want.plan.piece_len block) false within))
      (λ in_flight.
      let p = (are.exact in_flight.piece).0 in_flight.listed in
      bit_in_part want.plan.total want.plan.piece_len listed is.plan.some start.blocks in_flight.piece.index block
      (below_pieces in_flight.piece.index p.before) in_flight.of
      (ap (λ (row : List Bool). slice_get row (place_of want.plan.piece_len block)) (sym p.blocks)
      ∙ in_flight.set)) lists

  -- a block of the row, by whether its piece is verified
  module _ (block : ℕ) (set : slice_get listed block ≡ Some true) where
    below : block < blocks_of want.plan.total want.plan.piece_len
    below = omega (arith, slice_get_within listed block true set, start.blocks)

    piece_below : piece_of want.plan.piece_len block < pieces_of want.plan.total want.plan.piece_len
    piece_below = piece_within want.plan.total want.plan.piece_len block is.plan.some below

    bit_set : slice_get (piece_part want.plan.total want.plan.piece_len listed (piece_of want.plan.piece_len block))
        (place_of want.plan.piece_len block) ≡ Some true
    bit_set = bit_of_piece want.plan.total want.plan.piece_len listed is.plan.some start.blocks block below ∙ set

    some_bit : Contains (piece_part want.plan.total want.plan.piece_len listed (piece_of want.plan.piece_len block)) true
    some_bit =
        let part = piece_part want.plan.total want.plan.piece_len listed (piece_of want.plan.piece_len block) in
        let place = place_of want.plan.piece_len block in
        subst (λ (b : Bool). Contains part b) (get_or_from_slice_get part place true false bit_set)
        (Contains-get_or part place false (slice_get_within part place true bit_set))

    from_row : (b : Bool) → slice_get verified (piece_of want.plan.piece_len block) ≡ Some b
        → BlockListed want (control_with want verified ext hash flight) block
    from_row true found = inl (below, found)
    from_row false found = inr (record {
      piece = record {
        index = piece_of want.plan.piece_len block;
        length = bytes_of_piece want.plan.total want.plan.piece_len (piece_of want.plan.piece_len block);
        blocks = piece_part want.plan.total want.plan.piece_len listed (piece_of want.plan.piece_len block);
      };
      listed = (are.exact _).1 (record {
        before = omega (arith, piece_below, is.pieces);
        unverified = found;
        size = refl;
        blocks = refl;
        some = some_bit;
      });
      of = refl;
      set = bit_set;
    })

    from_listed : BlockListed want (control_with want verified ext hash flight) block
    from_listed = from_row (get_or verified (piece_of want.plan.piece_len block) false)
        (slice_get-get_or verified (piece_of want.plan.piece_len block) false (omega (arith, piece_below, start.pieces)))

  pub lists_just : ListsJust want verified listed (control_with want verified ext hash flight)
  lists_just = record {
    listing = record {
      rules = record {
        fields = record {
          ext = bit;
          info_hash = hash_len;
          plan = is.plan;
          uploaded = omega arith;
          pieces = start.pieces;
          few = omega (arith, are.few, is.pieces, start.pieces);
          flight = λ k d within. let p = partial k d within in record {
            unverified = p.unverified;
            size = p.size;
            bits = ap (λ (row : List Bool). length row) p.blocks
                ∙ part_long want.plan.total want.plan.piece_len listed is.plan.some start.blocks
                (get_or flight k d).index (below_pieces (get_or flight k d).index p.before);
          };
        };
        in_order = record {
          ascending = are.ascending;
          some = λ k d within. (partial k d within).some;
        };
      };
      hash = hash_is;
      piece_len = refl;
      total = refl;
      uploaded = refl;
    };
    pieces = refl;
    blocks = λ block. (to_listed block, from_listed block);
  }
