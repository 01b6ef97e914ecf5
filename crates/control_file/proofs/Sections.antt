-- The parts of a control file that aren't pieces: what is read of each is spelled so, and what is spelled so is read.
use Rattle.std.proofs.Common.{◌≡◌, ℕ, zero, suc, ◌+◌, ◌*◌, ◌^◌, ◌<◌, ◌≤◌, Bool, true, false, not, eqb, leb, List, ◌++◌, length, Contains, Ok, refl, sym, ap, subst, ◌∙◌, append_assoc, eq-eqb, arith}
use Rattle.std.specs.Int.{w16, w32, w64, to_be_bytes}
use Rattle.std.specs.List.{list_any}
use Rattle.std.proofs.lemmas.Bool.{false≢true, eqb-true, leb-true, le-leb}
use Rattle.std.proofs.Math.Nat.{zero-div, zero-mod}
use Rattle.std.proofs.lemmas.List.Elements.{All-from_get_or}
use Rattle.bit_rows.specs.Row.{bytes_for, row_bytes, row_of, spare_bits}
use Rattle.bit_rows.specs.RowLaws.{RowsAreReadBack, BytesHoldRows}
use Rattle.dl_kinds.specs.Plan.{IsPlan, pieces_of}
use Rattle.control_file.specs.declared.fields.ByteOrder.{ByteOrder}
use Rattle.control_file.specs.declared.fields.ByteOrder.TheVariants.{Big, Little}
use Rattle.control_file.specs.Spelling.{version_bytes, number_bytes, counted_bytes}
use Rattle.control_file.specs.Unread.{Unread}
use Rattle.control_file.specs.Reading.{◌>>=◌, ruled, allows_plan, Lengths, bytes_at, number_at, field_at, row_at, order_of, order_at, hash_at, lengths_at}
use Rattle.control_file.proofs.Numbers.{IsBytes, bind_ok, ruled_ok, ok_is, Takes, Takes-then, from_at, bytes_takes, bytes_again, wide16, wide32, wide64, number_takes, number_again, field_takes, field_again}
use Rattle.control_file.proofs.Plans.{plan_passes, passes_plan}
use Rattle.control_file.proofs.Spare.{none_spare, some_spare}

-- ---- rows

not_true : (b : Bool) → not b ≡ true → b ≡ false
not_true true e = absurd cc
not_true false e = refl

pub row_takes : BytesHoldRows → (order : ByteOrder) (bits : ℕ) (from : Unread) (x : List Bool × Unread)
    → IsBytes from.bytes → row_at order bits from ≡ Ok x
    → Takes from (counted_bytes order (row_bytes x.0)) x.1 × (length x.0 ≡ bits)
unfolding row_at
row_takes held order bits from x small e =
    let tail = λ (len : ℕ × Unread) (bytes : List ℕ × Unread). ruled
    (not (list_any (λ bit. bit) (spare_bits bits bytes.0))) len.1.at (row_of bits bytes.0, bytes.1) in
    let a = bind_ok (field_at order w32 (λ len. eqb len (bytes_for bits)) from)
    (λ len. bytes_at len.0 len.1 >>= tail len) x e in
    let b = bind_ok (bytes_at a.0.0 a.0.1) (tail a.0) x a.2 in
    let r = ruled_ok (not (list_any (λ bit. bit) (spare_bits bits b.0.0))) a.0.1.at (row_of bits b.0.0, b.0.1) x b.2 in
    let len = field_takes order w32 (2 ^ 32) (wide32 order) (λ len. eqb len (bytes_for bits)) from a.0 small a.1 in
    let bytes = bytes_takes a.0.0 a.0.1 b.0 len.0.small b.1 in
    let none : Contains (spare_bits bits b.0.0) true
    → ⊥ = λ some. false≢true (sym (not_true (list_any (λ bit. bit) (spare_bits bits b.0.0)) r.0)
    ∙ some_spare (spare_bits bits b.0.0) some) in
    let fits : length b.0.0 ≡ bytes_for bits = bytes.1 ∙ eqb-true _ _ len.2 in
    let row = held bits b.0.0 (All-from_get_or (λ byte. byte < 256) b.0.0 0 (λ i below. bytes.2 i)) fits none in
    let counted : number_bytes order w32 a.0.0
    ++ b.0.0 ≡ counted_bytes order (row_bytes (row_of bits b.0.0)) = rw (row.same, bytes.1) refl in
    subst (λ (y : List Bool × Unread). Takes from (counted_bytes order (row_bytes y.0)) y.1 × (length y.0 ≡ bits)) r.1
    (subst (λ (text : List ℕ). Takes from text b.0.1) counted (Takes-then from _ a.0.1 _ b.0.1 len.0 bytes.0), row.long)

pub row_again : RowsAreReadBack → (order : ByteOrder) (row : List Bool) (rest : List ℕ) (at bits : ℕ)
    → length row ≡ bits → bytes_for bits < 2 ^ 32
    → row_at order bits (from_at (counted_bytes order (row_bytes row) ++ rest) at) ≡ Ok
    (row, from_at rest (at + 4 + bytes_for bits))
unfolding row_at
row_again back order row rest at bits long small =
    let own = back row in
    let many : length (row_bytes row) ≡ bytes_for bits = own.many ∙ ap bytes_for long in
    let parts : counted_bytes order (row_bytes row) ++ rest ≡ number_bytes order w32 (bytes_for bits)
    ++ (row_bytes row ++ rest) =
    append_assoc (number_bytes order w32 (length (row_bytes row))) (row_bytes row) rest
    ∙ ap (λ n. number_bytes order w32 n ++ (row_bytes row ++ rest)) many in
    let len = field_again order w32 (2 ^ 32) (wide32 order) (λ len. eqb len (bytes_for bits)) (bytes_for bits)
    (row_bytes row ++ rest) at small (eq-eqb _ _ refl) in
    let bytes = bytes_again (row_bytes row) rest (bytes_for bits) (at + 4) many in
    let clear : list_any (λ bit. bit) (spare_bits bits (row_bytes row)) ≡ false =
    none_spare (spare_bits bits (row_bytes row))
    (λ some. own.clear (subst (λ (n : ℕ). Contains (spare_bits n (row_bytes row)) true) (sym long) some)) in
    let same : row_of bits (row_bytes row) ≡ row = ap (λ n. row_of n (row_bytes row)) (sym long) ∙ own.same in
    rw (parts, len, bytes, clear, same) refl

-- ---- VER

order_from : (n : ℕ) (rest : Unread) (x : ByteOrder × Unread) → order_of n rest ≡ Ok x
    → (number_bytes Big w16 n ≡ version_bytes x.0) × (rest ≡ x.1)
order_from zero rest x e = subst (λ (y : ByteOrder × Unread). (number_bytes Big w16 0 ≡ version_bytes y.0)
    × (rest ≡ y.1)) (ok_is (Little, rest) x e) (refl, refl)
order_from (suc zero) rest x e = subst (λ (y : ByteOrder × Unread). (number_bytes Big w16 1 ≡ version_bytes y.0)
    × (rest ≡ y.1)) (ok_is (Big, rest) x e) (refl, refl)
order_from (suc (suc n)) rest x e = absurd cc

pub order_takes : (from : Unread) (x : ByteOrder × Unread) → IsBytes from.bytes → order_at from ≡ Ok x
    → Takes from (version_bytes x.0) x.1
unfolding order_at
order_takes from x small e =
    let b = bind_ok (number_at Big w16 from) (λ version. order_of version.0 version.1) x e in
    let t = number_takes Big w16 (2 ^ 16) wide16 from b.0 small b.1 in
    let o = order_from b.0.0 b.0.1 x b.2 in
    subst (λ (text : List ℕ). Takes from text x.1) o.0
    (subst (λ (rest : Unread). Takes from (number_bytes Big w16 b.0.0) rest) o.1 t.0)

pub order_again : (order : ByteOrder) (rest : List ℕ) (at : ℕ)
    → order_at (from_at (version_bytes order ++ rest) at) ≡ Ok (order, from_at rest (at + 2))
unfolding order_at
order_again Big rest at = rw (number_again Big w16 (2 ^ 16) wide16 1 rest at (omega arith)) refl
order_again Little rest at = rw (number_again Big w16 (2 ^ 16) wide16 0 rest at (omega arith)) refl

-- ---- EXT and INFO HASH

pub hash_takes : (order : ByteOrder) (from : Unread) (x : ℕ × List ℕ × Unread) → IsBytes from.bytes
    → hash_at order from ≡ Ok x
    → Takes from (to_be_bytes w32 x.0 ++ counted_bytes order x.1) x.2 × (x.0 ≤ 1) × (length x.1 ≡ 20 * x.0)
unfolding hash_at
hash_takes order from x small e =
    let last = λ (ext : ℕ × Unread) (hash : List ℕ × Unread). Ok (ext.0, hash.0, hash.1) in
    let middle = λ (ext : ℕ × Unread) (len : ℕ × Unread). bytes_at len.0 len.1 >>= last ext in
    let a = bind_ok (field_at Big w32 (λ ext. leb ext 1) from)
    (λ ext. field_at order w32 (λ len. eqb len (20 * ext.0)) ext.1 >>= middle ext) x e in
    let b = bind_ok (field_at order w32 (λ len. eqb len (20 * a.0.0)) a.0.1) (middle a.0) x a.2 in
    let c = bind_ok (bytes_at b.0.0 b.0.1) (last a.0) x b.2 in
    let ext = field_takes Big w32 (2 ^ 32) (wide32 Big) (λ ext. leb ext 1) from a.0 small a.1 in
    let len = field_takes order w32 (2 ^ 32) (wide32 order) (λ len. eqb len (20 * a.0.0)) a.0.1 b.0 ext.0.small b.1 in
    let hash = bytes_takes b.0.0 b.0.1 c.0 len.0.small c.1 in
    let counted : number_bytes order w32 b.0.0 ++ c.0.0 ≡ counted_bytes order c.0.0 = rw (hash.1) refl in
    let all = Takes-then from _ a.0.1 _ c.0.1 ext.0
    (subst (λ (text : List ℕ). Takes a.0.1 text c.0.1) counted (Takes-then a.0.1 _ b.0.1 _ c.0.1 len.0 hash.0)) in
    subst (λ (y : ℕ × List ℕ × Unread). Takes from (to_be_bytes w32 y.0 ++ counted_bytes order y.1) y.2 × (y.0 ≤ 1)
    × (length y.1 ≡ 20 * y.0)) (ok_is (a.0.0, c.0.0, c.0.1) x c.2)
    (all, leb-true _ _ ext.2, hash.1 ∙ eqb-true _ _ len.2)

pub hash_again : (order : ByteOrder) (ext : ℕ) (hash rest : List ℕ) (at : ℕ) → ext ≤ 1 → length hash ≡ 20 * ext
    → hash_at order (from_at ((to_be_bytes w32 ext ++ counted_bytes order hash) ++ rest) at) ≡ Ok
    (ext, hash, from_at rest (at + 4 + 4 + length hash))
unfolding hash_at
hash_again order ext hash rest at few long =
    let parts : (to_be_bytes w32 ext ++ counted_bytes order hash) ++ rest ≡ to_be_bytes w32 ext
    ++ (number_bytes order w32 (length hash) ++ (hash ++ rest)) = simp append_assoc in
    let first = field_again Big w32 (2 ^ 32) (wide32 Big) (λ ext. leb ext 1) ext
    (number_bytes order w32 (length hash) ++ (hash ++ rest)) at (omega arith) (le-leb _ _ few) in
    let second = field_again order w32 (2 ^ 32) (wide32 order) (λ len. eqb len (20 * ext)) (length hash)
    (hash ++ rest) (at + 4) (omega arith) (eq-eqb _ _ long) in
    let third = bytes_again hash rest (length hash) (at + 4 + 4) refl in
    rw (parts, first, second, third) refl

-- ---- PIECE LENGTH, TOTAL LENGTH and UPLOAD LENGTH

abbrev pub lengths_bytes : ByteOrder → Lengths → List ℕ
lengths_bytes order lengths = number_bytes order w32 lengths.piece_len ++ number_bytes order w64 lengths.total
    ++ number_bytes order w64 lengths.uploaded

pub lengths_takes : (order : ByteOrder) (from : Unread) (x : Lengths × Unread) → IsBytes from.bytes
    → lengths_at order from ≡ Ok x
    → Takes from (lengths_bytes order x.0) x.1 × IsPlan x.0.total x.0.piece_len × (x.0.uploaded < 2 ^ 64)
unfolding lengths_at
lengths_takes order from x small e =
    let last = λ (len total uploaded : ℕ × Unread). Ok
    (record { piece_len = len.0; total = total.0; uploaded = uploaded.0 }, uploaded.1) in
    let middle = λ (len total : ℕ × Unread). number_at order w64 total.1 >>= last len total in
    let a = bind_ok (field_at order w32 (λ len. allows_plan 0 len) from)
    (λ len. field_at order w64 (λ total. allows_plan total len.0) len.1 >>= middle len) x e in
    let b = bind_ok (field_at order w64 (λ total. allows_plan total a.0.0) a.0.1) (middle a.0) x a.2 in
    let c = bind_ok (number_at order w64 b.0.1) (last a.0 b.0) x b.2 in
    let len = field_takes order w32 (2 ^ 32) (wide32 order) (λ len. allows_plan 0 len) from a.0 small a.1 in
    let total = field_takes order w64 (2 ^ 64) (wide64 order) (λ total. allows_plan total a.0.0) a.0.1 b.0 len.0.small
    b.1 in
    let uploaded = number_takes order w64 (2 ^ 64) (wide64 order) b.0.1 c.0 total.0.small c.1 in
    let all = Takes-then from _ b.0.1 _ c.0.1 (Takes-then from _ a.0.1 _ b.0.1 len.0 total.0) uploaded.0 in
    subst (λ (y : Lengths × Unread). Takes from (lengths_bytes order y.0) y.1 × IsPlan y.0.total y.0.piece_len
    × (y.0.uploaded < 2 ^ 64))
    (ok_is (record { piece_len = a.0.0; total = b.0.0; uploaded = c.0.0 }, c.0.1) x c.2)
    (all, passes_plan _ _ total.2, uploaded.1)

-- a plan of no bytes has such pieces too
no_bytes : (total piece_len : ℕ) → IsPlan total piece_len → IsPlan 0 piece_len
no_bytes total piece_len plan =
    let none : pieces_of 0 piece_len ≡ 0 = rw (zero-div piece_len, zero-mod piece_len) refl in
    record { some = plan.some; piece = plan.piece; pieces = rw none (omega arith); blocks = rw none (omega arith) }

pub lengths_again : (order : ByteOrder) (lengths : Lengths) (rest : List ℕ) (at : ℕ)
    → IsPlan lengths.total lengths.piece_len → lengths.total < 2 ^ 64 → lengths.uploaded < 2 ^ 64
    → lengths_at order (from_at (lengths_bytes order lengths ++ rest) at) ≡ Ok (lengths, from_at rest (at + 4 + 8 + 8))
unfolding lengths_at
lengths_again order lengths rest at plan total_fits uploaded_fits =
    let parts : lengths_bytes order lengths ++ rest ≡ number_bytes order w32 lengths.piece_len
    ++ (number_bytes order w64 lengths.total ++ (number_bytes order w64 lengths.uploaded ++ rest)) =
    simp append_assoc in
    let first = field_again order w32 (2 ^ 32) (wide32 order) (λ len. allows_plan 0 len) lengths.piece_len
    (number_bytes order w64 lengths.total ++ (number_bytes order w64 lengths.uploaded ++ rest)) at
    (omega (arith, plan.piece)) (plan_passes _ _ (no_bytes _ _ plan)) in
    let second = field_again order w64 (2 ^ 64) (wide64 order) (λ total. allows_plan total lengths.piece_len)
    lengths.total (number_bytes order w64 lengths.uploaded ++ rest) (at + 4) total_fits (plan_passes _ _ plan) in
    let third = number_again order w64 (2 ^ 64) (wide64 order) lengths.uploaded rest (at + 4 + 8) uploaded_fits in
    rw (parts, first, second, third) refl
