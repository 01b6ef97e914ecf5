-- Pieces in flight and whole control files: what is read is spelled so, and what is spelled so is read.
use Rattle.std.proofs.Common.{◌≡◌, ℕ, zero, suc, ◌+◌, ◌*◌, ◌^◌, ◌<◌, ◌≤◌, Bool, true, false, not, eqb, leb, List, [], ◌∷◌, ◌++◌, length, get_or, slice_set, Ok, refl, sym, ap, subst, ◌∙◌, append_assoc, eq-eqb, arith}
use Rattle.std.specs.Int.{w32, w64, to_be_bytes}
use Rattle.std.specs.List.{flat_map, AllByRecursion}
use Rattle.std.proofs.Math.Nat.{mul-le-mul, add-mul}
use Rattle.std.proofs.lemmas.Bool.{eqb-true, leb-true, le-leb}
use Rattle.std.proofs.lemmas.Grind.{div_ceil_times}
use Rattle.std.proofs.lemmas.List.{append-nil, nil_from_length, length-set}
use Rattle.std.proofs.lemmas.List.Elements.{All-from_recursion, recursion_from_All}
use Rattle.bit_rows.specs.Row.{bytes_for, row_bytes}
use Rattle.bit_rows.specs.RowLaws.{RowsAreReadBack, BytesHoldRows}
use Rattle.dl_kinds.specs.Plan.{IsPlan, pieces_of, blocks_of_piece}
use Rattle.control_file.specs.declared.control.Control.{Control}
use Rattle.control_file.specs.declared.control.InFlight.{InFlight}
use Rattle.control_file.specs.declared.fields.ByteOrder.{ByteOrder}
use Rattle.control_file.specs.Spelling.{IsInFlight, IsReadableControl, IsControlFile, bytes_of_piece, version_bytes, number_bytes, counted_bytes, in_flight_bytes, control_bytes}
use Rattle.control_file.specs.Unread.{Unread}
use Rattle.control_file.specs.Reading.{◌>>=◌, ruled, may_be_in_flight, Lengths, field_at, row_at, order_at, hash_at, lengths_at, in_flight_at, flight_at, progress_at, control_in}
use Rattle.control_file.proofs.Numbers.{IsBytes, bind_ok, ruled_ok, ok_is, Takes, Takes-then, from_at, wide32, field_takes, field_again}
use Rattle.control_file.proofs.Open.{IsOpen, AreOpen, free_within, free_is_false, false_is_free, each_open, they_differ, open_in_turn}
use Rattle.control_file.proofs.Sections.{lengths_bytes, row_takes, row_again, order_takes, order_again, hash_takes, hash_again, lengths_takes, lengths_again}

not_is_false : (b : Bool) → not b ≡ true → b ≡ false
not_is_false true e = absurd cc
not_is_false false e = refl

module _ (order : ByteOrder) (total piece_len : ℕ) where
  in_flight_takes : BytesHoldRows → (taken : List Bool) (from : Unread) (x : InFlight × Unread) → IsBytes from.bytes
      → in_flight_at order total piece_len taken from ≡ Ok x
      → Takes from (in_flight_bytes order x.0) x.1 × IsOpen total piece_len taken x.0
  unfolding in_flight_at
  in_flight_takes held taken from x small e =
      let last = λ (index len : ℕ × Unread) (blocks : List Bool × Unread). Ok
      (record { index = index.0; length = len.0; blocks = blocks.0 }, blocks.1) in
      let middle = λ (index len : ℕ × Unread). row_at order (blocks_of_piece total piece_len index.0) len.1 >>=
      last index len in
      let a = bind_ok (field_at order w32 (may_be_in_flight taken) from)
      (λ index. field_at order w32 (λ len. eqb len (bytes_of_piece total piece_len index.0)) index.1 >>=
      middle index) x e in
      let b = bind_ok (field_at order w32 (λ len. eqb len (bytes_of_piece total piece_len a.0.0)) a.0.1) (middle a.0)
      x a.2 in
      let c = bind_ok (row_at order (blocks_of_piece total piece_len a.0.0) b.0.1) (last a.0 b.0) x b.2 in
      let index = field_takes order w32 (2 ^ 32) (wide32 order) (may_be_in_flight taken) from a.0 small a.1 in
      let len = field_takes order w32 (2 ^ 32) (wide32 order) (λ len. eqb len (bytes_of_piece total piece_len a.0.0))
      a.0.1 b.0 index.0.small b.1 in
      let row = row_takes held order (blocks_of_piece total piece_len a.0.0) b.0.1 c.0 len.0.small c.1 in
      let all = Takes-then from _ b.0.1 _ c.0.1 (Takes-then from _ a.0.1 _ b.0.1 index.0 len.0) row.0 in
      let made : InFlight × Unread = (record { index = a.0.0; length = b.0.0; blocks = c.0.0 }, c.0.1) in
      subst (λ (y : InFlight × Unread). Takes from (in_flight_bytes order y.0) y.1 × IsOpen total piece_len taken y.0)
      (ok_is made x c.2)
      (all, record { free = not_is_false (get_or taken a.0.0 true) index.2; size = eqb-true _ _ len.2; bits = row.1 })

  flight_takes : BytesHoldRows → (n : ℕ) (taken : List Bool) (from : Unread) (x : List InFlight × Unread)
      → IsBytes from.bytes → flight_at order total piece_len n taken from ≡ Ok x
      → Takes from (flat_map (in_flight_bytes order) x.0) x.1 × (length x.0 ≡ n) × AreOpen total piece_len taken x.0
  unfolding flight_at
  flight_takes held zero taken from x small e =
      subst (λ (y : List InFlight × Unread). Takes from (flat_map (in_flight_bytes order) y.0) y.1 × (length y.0 ≡ 0)
      × AreOpen total piece_len taken y.0) (ok_is ([], from) x e)
      (record { parts = refl; small = small }, refl, tt)
  flight_takes held (suc n) taken from x small e =
      let last = λ (first : InFlight × Unread) (more : List InFlight × Unread). Ok (first.0 ∷ more.0, more.1) in
      let a = bind_ok (in_flight_at order total piece_len taken from)
      (λ first. flight_at order total piece_len n (slice_set taken first.0.index true) first.1 >>= last first) x
      e in
      let b = bind_ok (flight_at order total piece_len n (slice_set taken a.0.0.index true) a.0.1) (last a.0) x a.2 in
      let first = in_flight_takes held taken from a.0 small a.1 in
      let more = flight_takes held n (slice_set taken a.0.0.index true) a.0.1 b.0 first.0.small b.1 in
      subst (λ (y : List InFlight × Unread). Takes from (flat_map (in_flight_bytes order) y.0) y.1
      × (length y.0 ≡ suc n) × AreOpen total piece_len taken y.0) (ok_is (a.0.0 ∷ b.0.0, b.0.1) x b.2)
      (Takes-then from _ a.0.1 _ b.0.1 first.0 more.0, omega (arith, more.1), (first.1, more.2))

  -- a piece has no more bytes than a full one
  short_piece : (piece : ℕ) → bytes_of_piece total piece_len piece ≤ piece_len
  short_piece piece = let next : (piece + 1) * piece_len ≡ piece * piece_len + 1 * piece_len =
      add-mul piece 1 piece_len in omega (arith, next)

  in_flight_again : RowsAreReadBack → (taken : List Bool) (piece : InFlight) (rest : List ℕ) (at : ℕ)
      → length taken < 2 ^ 32 → piece_len < 2 ^ 32 → IsOpen total piece_len taken piece
      → (end : ℕ) × (in_flight_at order total piece_len taken (from_at (in_flight_bytes order piece ++ rest) at) ≡ Ok
      (piece, from_at rest end))
  unfolding in_flight_at
  in_flight_again back taken piece rest at few short is =
      let index = piece.index in
      let len = piece.length in
      let text = counted_bytes order (row_bytes piece.blocks) in
      let small : bytes_of_piece total piece_len index ≤ piece_len = short_piece index in
      let parts : in_flight_bytes order piece ++ rest ≡ number_bytes order w32 index
      ++ (number_bytes order w32 len ++ (text ++ rest)) = simp append_assoc in
      let first = field_again order w32 (2 ^ 32) (wide32 order) (may_be_in_flight taken) index
      (number_bytes order w32 len ++ (text ++ rest)) at (omega (arith, free_within taken index is.free))
      (ap not is.free) in
      let second = field_again order w32 (2 ^ 32) (wide32 order) (λ n. eqb n (bytes_of_piece total piece_len index))
      len (text ++ rest) (at + 4) (omega (arith, is.size)) (eq-eqb _ _ is.size) in
      let third = row_again back order piece.blocks rest (at + 4 + 4) (blocks_of_piece total piece_len index) is.bits
      (omega arith) in
      (at + 4 + 4 + 4 + bytes_for (blocks_of_piece total piece_len index), rw (parts, first, second, third) refl)

  flight_again : RowsAreReadBack → (pieces : List InFlight) (taken : List Bool) (rest : List ℕ) (at : ℕ)
      → length taken < 2 ^ 32 → piece_len < 2 ^ 32 → AreOpen total piece_len taken pieces
      → (end : ℕ) × (flight_at order total piece_len (length pieces) taken
      (from_at (flat_map (in_flight_bytes order) pieces ++ rest) at) ≡ Ok (pieces, from_at rest end))
  unfolding flight_at
  flight_again back [] taken rest at few short all = (at, refl)
  flight_again back (piece ∷ pieces) taken rest at few short (one, more) =
      let later = flat_map (in_flight_bytes order) pieces in
      let parts : (in_flight_bytes order piece ++ later) ++ rest ≡ in_flight_bytes order piece
      ++ (later ++ rest) = append_assoc (in_flight_bytes order piece) later rest in
      let first = in_flight_again back taken piece (later ++ rest) at few short one in
      let others = flight_again back pieces (slice_set taken piece.index true) rest first.0
      (omega (arith, length-set taken piece.index true)) short more in
      (others.0, rw (parts, first.1, others.1) refl)

  progress_takes : BytesHoldRows → (from : Unread) (x : List Bool × List InFlight × Unread) → IsBytes from.bytes
      → progress_at order total piece_len from ≡ Ok x
      → Takes from (counted_bytes order (row_bytes x.0) ++ number_bytes order w32 (length x.1)
      ++ flat_map (in_flight_bytes order) x.1) x.2
      × (length x.0 ≡ pieces_of total piece_len) × (length x.1 ≤ length x.0) × AreOpen total piece_len x.0 x.1
  unfolding progress_at
  progress_takes held from x small e =
      let last = λ (pieces : List Bool × Unread) (flight : List InFlight × Unread). Ok (pieces.0, flight.0, flight.1) in
      let middle = λ (pieces : List Bool × Unread) (count : ℕ × Unread). flight_at order total piece_len count.0
      pieces.0 count.1 >>= last pieces in
      let a = bind_ok (row_at order (pieces_of total piece_len) from)
      (λ pieces. field_at order w32 (λ count. leb count (length pieces.0)) pieces.1 >>= middle pieces) x e in
      let b = bind_ok (field_at order w32 (λ count. leb count (length a.0.0)) a.0.1) (middle a.0) x a.2 in
      let c = bind_ok (flight_at order total piece_len b.0.0 a.0.0 b.0.1) (last a.0) x b.2 in
      let pieces = row_takes held order (pieces_of total piece_len) from a.0 small a.1 in
      let count = field_takes order w32 (2 ^ 32) (wide32 order) (λ count. leb count (length a.0.0)) a.0.1 b.0
      pieces.0.small b.1 in
      let flight = flight_takes held b.0.0 a.0.0 b.0.1 c.0 count.0.small c.1 in
      let all = Takes-then from _ b.0.1 _ c.0.1 (Takes-then from _ a.0.1 _ b.0.1 pieces.0 count.0) flight.0 in
      let text = λ (n : ℕ). Takes from (counted_bytes order (row_bytes a.0.0) ++ number_bytes order w32 n
      ++ flat_map (in_flight_bytes order) c.0.0) c.0.1 in
      let few : length c.0.0 ≤ length a.0.0 = omega (arith, leb-true _ _ count.2, flight.1) in
      subst (λ (y : List Bool × List InFlight × Unread).
      Takes from (counted_bytes order (row_bytes y.0) ++ number_bytes order w32 (length y.1)
      ++ flat_map (in_flight_bytes order) y.1) y.2
      × (length y.0 ≡ pieces_of total piece_len) × (length y.1 ≤ length y.0) × AreOpen total piece_len y.0 y.1)
      (ok_is (a.0.0, c.0.0, c.0.1) x c.2) (subst text (sym flight.1) all, pieces.1, few, flight.2)

  progress_again : RowsAreReadBack → (pieces : List Bool) (flight : List InFlight) (at : ℕ) → IsPlan total piece_len
      → length pieces ≡ pieces_of total piece_len → length flight ≤ length pieces
      → AreOpen total piece_len pieces flight
      → (end : ℕ) × (progress_at order total piece_len
      (from_at (counted_bytes order (row_bytes pieces)
      ++ (number_bytes order w32 (length flight) ++ (flat_map (in_flight_bytes order) flight ++ []))) at)
      ≡ Ok (pieces, flight, from_at [] end))
  unfolding progress_at
  progress_again back pieces flight at plan long few all =
      let bits = pieces_of total piece_len in
      let some : bits ≤ 1048576 = plan.pieces in
      let size : piece_len ≤ 67108864 = plan.piece in
      let later = flat_map (in_flight_bytes order) flight ++ [] in
      let first = row_again back order pieces (number_bytes order w32 (length flight) ++ later) at bits long
      (omega arith) in
      let at1 = at + 4 + bytes_for bits in
      let second = field_again order w32 (2 ^ 32) (wide32 order) (λ count. leb count (length pieces)) (length flight)
      later at1 (omega arith) (le-leb _ _ few) in
      let third = flight_again back flight pieces [] (at1 + 4) (omega arith) (omega arith) all in
      (third.0, rw (first, second, third.1) refl)

-- the rules of the pieces in flight, one after the other or by their places
to_rules : (control : Control) (pieces : List InFlight)
    → AllByRecursion (IsOpen control.total control.piece_len control.pieces) pieces
    → AllByRecursion (IsInFlight control) pieces
to_rules control [] all = tt
to_rules control (piece ∷ pieces) all = (
  record {
    unverified = free_is_false control.pieces piece.index all.0.free;
    size = all.0.size;
    bits =
        all.0.bits;
  },
  to_rules control pieces all.1,
)

from_rules : (control : Control) (pieces : List InFlight) → AllByRecursion (IsInFlight control) pieces
    → AllByRecursion (IsOpen control.total control.piece_len control.pieces) pieces
from_rules control [] all = tt
from_rules control (piece ∷ pieces) all = (
  record {
    free = false_is_free control.pieces piece.index all.0.unverified;
    size = all.0.size;
    bits =
        all.0.bits;
  },
  from_rules control pieces all.1,
)

-- the total of a plan fits into 64 bits
total_fits : (total piece_len : ℕ) → IsPlan total piece_len → total < 2 ^ 64
total_fits total piece_len plan =
    let covered = (div_ceil_times total piece_len plan.some).0 in
    let most : pieces_of total piece_len * piece_len ≤ 1048576 * 67108864 = mul-le-mul plan.pieces plan.piece in
    omega (arith, covered, most)

-- the fields in groups
grouped : (v e h l t u p c f : List ℕ) → v ++ (e ++ h) ++ (l ++ t ++ u) ++ (p ++ c ++ f) ≡ v ++ e ++ h ++ l ++ t ++ u
    ++ p ++ c ++ f
grouped v e h l t u p c f = simp append_assoc

nested : (v e h l t u p c f : List ℕ) → v ++ e ++ h ++ l ++ t ++ u ++ p ++ c ++ f ≡ v
    ++ ((e ++ h) ++ ((l ++ t ++ u) ++ (p ++ (c ++ (f ++ [])))))
nested v e h l t u p c f = simp (append_assoc, append-nil)

-- what is read is what the bytes say
pub is_found : BytesHoldRows → (bytes : List ℕ) (control : Control) → IsBytes bytes → control_in bytes ≡ Ok control
    → IsControlFile bytes control
unfolding control_in
is_found held bytes control small e =
    let made = λ (hash : ℕ × List ℕ × Unread) (lengths : Lengths × Unread)
    (progress : List Bool × List InFlight × Unread). let x : Control =
    record {
      ext = hash.0;
      info_hash = hash.1;
      piece_len = lengths.0.piece_len;
      total =
          lengths.0.total;
      uploaded = lengths.0.uploaded;
      pieces = progress.0;
      flight = progress.1;
    } in x in
    let last = λ (hash : ℕ × List ℕ × Unread) (lengths : Lengths × Unread)
    (progress : List Bool × List InFlight × Unread). ruled (eqb (length progress.2.bytes) 0) progress.2.at
    (made hash lengths progress) in
    let third = λ (order : ByteOrder × Unread) (hash : ℕ × List ℕ × Unread) (lengths : Lengths × Unread). progress_at
    order.0 lengths.0.total lengths.0.piece_len lengths.1 >>= last hash lengths in
    let second = λ (order : ByteOrder × Unread) (hash : ℕ × List ℕ × Unread). lengths_at order.0 hash.2 >>=
    third order hash in
    let a = bind_ok (order_at (from_at bytes 0)) (λ order. hash_at order.0 order.1 >>= second order) control e in
    let b = bind_ok (hash_at a.0.0 a.0.1) (second a.0) control a.2 in
    let c = bind_ok (lengths_at a.0.0 b.0.2) (third a.0 b.0) control b.2 in
    let d = bind_ok (progress_at a.0.0 c.0.0.total c.0.0.piece_len c.0.1) (last b.0 c.0) control c.2 in
    let r = ruled_ok (eqb (length d.0.2.bytes) 0) d.0.2.at (made b.0 c.0 d.0) control d.2 in
    let version = order_takes (from_at bytes 0) a.0 small a.1 in
    let hash = hash_takes a.0.0 a.0.1 b.0 version.small b.1 in
    let lengths = lengths_takes a.0.0 b.0.2 c.0 hash.0.small c.1 in
    let progress = progress_takes a.0.0 c.0.0.total c.0.0.piece_len held c.0.1 d.0 lengths.0.small d.1 in
    let all = Takes-then (from_at bytes 0) _ c.0.1 _ d.0.2
    (Takes-then (from_at bytes 0) _ b.0.2 _ c.0.1 (Takes-then (from_at bytes 0) _ a.0.1 _ b.0.2 version hash.0)
    lengths.0) progress.0 in
    let ended : d.0.2.bytes ≡ [] = nil_from_length d.0.2.bytes (eqb-true _ _ r.0) in
    let it = made b.0 c.0 d.0 in
    let order = a.0.0 in
    let text = version_bytes order ++ (to_be_bytes w32 it.ext ++ counted_bytes order it.info_hash)
    ++ lengths_bytes order c.0.0
    ++ (counted_bytes order (row_bytes it.pieces) ++ number_bytes order w32 (length it.flight)
    ++ flat_map (in_flight_bytes order) it.flight) in
    let number = number_bytes order in
    let same : text ≡ control_bytes order it =
    grouped (version_bytes order) (to_be_bytes w32 it.ext) (counted_bytes order it.info_hash)
    (number w32 it.piece_len) (number w64 it.total) (number w64 it.uploaded)
    (counted_bytes order (row_bytes it.pieces)) (number w32 (length it.flight))
    (flat_map (in_flight_bytes order) it.flight) in
    let spelled : bytes ≡ control_bytes order it = all.parts ∙ ap (λ (rest : List ℕ). text ++ rest) ended
    ∙ append-nil text ∙ same in
    let flight = each_open it.total it.piece_len it.pieces it.flight progress.3 in
    subst (λ (y : Control). IsControlFile bytes y) r.1 (record {
      order = order;
      rules = record {
        fields = record {
          ext = hash.1;
          info_hash = hash.2;
          plan = lengths.1;
          uploaded = lengths.2;
          pieces = progress.1;
          few = progress.2;
          flight = All-from_recursion (IsInFlight it) it.flight (to_rules it it.flight flight);
        };
        distinct = they_differ it.total it.piece_len it.pieces it.flight progress.3;
      };
      spelled = spelled;
    })

-- what is spelled is read
pub again : RowsAreReadBack → (order : ByteOrder) (control : Control) → IsReadableControl control
    → control_in (control_bytes order control) ≡ Ok control
unfolding control_in
again back order control rules =
    let fields = rules.fields in
    let lengths : Lengths = record {
      piece_len = control.piece_len;
      total = control.total;
      uploaded =
          control.uploaded;
    } in
    let flight = flat_map (in_flight_bytes order) control.flight in
    let number = number_bytes order in
    let text4 = counted_bytes order (row_bytes control.pieces)
    ++ (number_bytes order w32 (length control.flight) ++ (flight ++ [])) in
    let text3 = lengths_bytes order lengths ++ text4 in
    let text2 = (to_be_bytes w32 control.ext ++ counted_bytes order control.info_hash) ++ text3 in
    let parts : control_bytes order control ≡ version_bytes order
    ++ text2 = nested (version_bytes order) (to_be_bytes w32 control.ext) (counted_bytes order control.info_hash)
    (number w32 control.piece_len) (number w64 control.total) (number w64 control.uploaded)
    (counted_bytes order (row_bytes control.pieces)) (number w32 (length control.flight)) flight in
    let version = order_again order text2 0 in
    let hash = hash_again order control.ext control.info_hash text3 (0 + 2) fields.ext fields.info_hash in
    let at2 = 0 + 2 + 4 + 4 + length control.info_hash in
    let sizes = lengths_again order lengths text4 at2 fields.plan
    (total_fits control.total control.piece_len fields.plan) fields.uploaded in
    let open_flight = open_in_turn control.total control.piece_len control.pieces control.flight
    (from_rules control control.flight (recursion_from_All (IsInFlight control) control.flight fields.flight))
    rules.distinct in
    let progress = progress_again order control.total control.piece_len back control.pieces control.flight
    (at2 + 4 + 8 + 8) fields.plan fields.pieces fields.few open_flight in
    rw (parts, version, hash, sizes, progress.1) refl
