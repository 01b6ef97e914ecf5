-- A number that is read is the number that was written, and what was written is read again.
use Rattle.std.proofs.Common.{◌≡◌, ℕ, ◌+◌, ◌^◌, ◌<◌, ◌≤◌, Bool, true, false, cond, ltb, List, ◌++◌, length, get_or, take, drop, All, Result, Ok, Err, refl, sym, ap, subst, ◌∙◌, append_assoc, arith, inl, inr}
use Rattle.std.specs.Int.{Width, w16, w32, w64, byte_len}
use Rattle.std.proofs.lemmas.Bool.{cases_lt, ltb-false, le-ltb}
use Rattle.std.proofs.lemmas.List.{take_at, drop_at, take-append-drop, length-append, length-take, get_or-drop, get_or-take, get_or_past}
use Rattle.std.proofs.lemmas.Nat.{be_bytes_2, be_bytes_4, be_bytes_8, le_bytes_4, le_bytes_8, from_be_bytes-to_be_bytes_2, from_be_bytes-to_be_bytes_4, from_be_bytes-to_be_bytes_8, from_le_bytes-to_le_bytes_4, from_le_bytes-to_le_bytes_8}
use Rattle.control_file.specs.declared.fault.ControlErr.{ControlErr}
use Rattle.control_file.specs.declared.fault.ControlErr.TheVariants.{Wrong}
use Rattle.control_file.specs.declared.fields.ByteOrder.{ByteOrder}
use Rattle.control_file.specs.declared.fields.ByteOrder.TheVariants.{Big, Little}
use Rattle.control_file.specs.Spelling.{number_bytes}
use Rattle.control_file.specs.Unread.{Unread}
use Rattle.control_file.specs.Reading.{◌>>=◌, ruled, bytes_at, number_from, number_at, field_at}

abbrev pub IsBytes : List ℕ → Type 0
IsBytes bytes = (i : ℕ) → get_or bytes i 0 < 256

IsBytes-drop : (n : ℕ) (bytes : List ℕ) → IsBytes bytes → IsBytes (drop n bytes)
IsBytes-drop n bytes small i = rw get_or-drop (small (n + i))

IsBytes-take : (n : ℕ) (bytes : List ℕ) → IsBytes bytes → IsBytes (take n bytes)
IsBytes-take n bytes small i = elim (cases_lt i n) [
  | inl below ↦ rw (get_or-take n bytes i 0 below) (small i)
  | inr past ↦ rw (get_or_past (take n bytes) i 0 (omega (arith, length-take n bytes))) (omega arith)
]

-- ---- steps

-- the value of a step that did not fail
pub bind_ok : {A B : Type 0} (r : Result A ControlErr) (f : A → Result B ControlErr) (y : B) → (r >>= f) ≡ Ok y
    → (x : A) × (r ≡ Ok x) × (f x ≡ Ok y)
bind_ok (Ok x) f y e = (x, refl, e)
bind_ok (Err d) f y e = absurd cc

-- a rule that held
pub ruled_ok : {A : Type 0} (rule : Bool) (at : ℕ) (x y : A) → ruled rule at x ≡ Ok y → (rule ≡ true) × (x ≡ y)
ruled_ok true at x y e = (refl, cc)
ruled_ok false at x y e = absurd cc

abbrev done : {A : Type 0} → A → Result A ControlErr
done x = Ok x

pub ok_is : {A : Type 0} (x y : A) → done x ≡ done y → x ≡ y
ok_is x y e = cc

-- what a reader took from the front
pub record Takes (from : Unread) (text : List ℕ) (rest : Unread) : Type 0 where
  pub parts : from.bytes ≡ text ++ rest.bytes
  pub small : IsBytes rest.bytes

pub Takes-then : (a : Unread) (x : List ℕ) (b : Unread) (y : List ℕ) (c : Unread) → Takes a x b → Takes b y c
    → Takes a (x ++ y) c
Takes-then a x b y c p q = record {
  parts = p.parts ∙ ap (λ (t : List ℕ). x ++ t) q.parts
      ∙ sym (append_assoc x y c.bytes);
  small = q.small;
}

-- the bytes from here on
abbrev pub from_at : List ℕ → ℕ → Unread
from_at bytes at = record { bytes = bytes; at = at }

-- ---- bytes

bytes_guard : {A : Type 0} (short : Bool) (e : ControlErr) (x y : A) → cond short (Err e) (Ok x) ≡ Ok y
    → (short ≡ false) × (x ≡ y)
bytes_guard true e x y is = absurd cc
bytes_guard false e x y is = (refl, cc)

pub bytes_takes : (len : ℕ) (from : Unread) (x : List ℕ × Unread) → IsBytes from.bytes → bytes_at len from ≡ Ok x
    → Takes from x.0 x.1 × (length x.0 ≡ len) × IsBytes x.0
bytes_takes len from x small e =
    let got : List ℕ × Unread = (take len from.bytes, record { bytes = drop len from.bytes; at = from.at + len }) in
    let g = bytes_guard (ltb (length from.bytes) len) (Wrong from.at) got x e in
    let long : len ≤ length from.bytes = ltb-false _ _ g.0 in
    subst (λ (y : List ℕ × Unread). Takes from y.0 y.1 × (length y.0 ≡ len) × IsBytes y.0) g.1 (
      record { parts = sym (take-append-drop len from.bytes); small = IsBytes-drop len from.bytes small },
      omega (arith, length-take len from.bytes),
      IsBytes-take len from.bytes small,
    )

pub bytes_again : (text rest : List ℕ) (len at : ℕ) → length text ≡ len
    → bytes_at len (from_at (text ++ rest) at) ≡ Ok (text, from_at rest (at + len))
bytes_again text rest len at is =
    let long : ltb (length (text ++ rest)) len ≡ false = le-ltb _ _ (omega (arith, length-append text rest)) in
    rw (long, take_at text rest len is, drop_at text rest len is) refl

-- ---- numbers

pub record IsWide (order : ByteOrder) (w : Width) (limit : ℕ) : Type 0 where
  pub len : (n : ℕ) → length (number_bytes order w n) ≡ byte_len w
  pub back : (bytes : List ℕ) → length bytes ≡ byte_len w → IsBytes bytes
      → number_bytes order w (number_from order w bytes) ≡ bytes
  pub again : (n : ℕ) → n < limit → number_from order w (number_bytes order w n) ≡ n
  pub below : (bytes : List ℕ) → IsBytes bytes → number_from order w bytes < limit

pub wide16 : IsWide Big w16 (2 ^ 16)
wide16 = record {
  len = λ n. refl;
  back = λ bytes len small. be_bytes_2 bytes _ len small refl;
  again = λ n below. from_be_bytes-to_be_bytes_2 n below;
  below = λ bytes small. omega (arith, small 0, small 1);
}

pub wide32 : (order : ByteOrder) → IsWide order w32 (2 ^ 32)
wide32 Big = record {
  len = λ n. refl;
  back = λ bytes len small. be_bytes_4 bytes _ len small refl;
  again = λ n below. from_be_bytes-to_be_bytes_4 n below;
  below = λ bytes small. omega (arith, small 0, small 1, small 2, small 3);
}
wide32 Little = record {
  len = λ n. refl;
  back = λ bytes len small. le_bytes_4 bytes _ len small refl;
  again = λ n below. from_le_bytes-to_le_bytes_4 n below;
  below = λ bytes small. omega (arith, small 0, small 1, small 2, small 3);
}

pub wide64 : (order : ByteOrder) → IsWide order w64 (2 ^ 64)
wide64 Big = record {
  len = λ n. refl;
  back = λ bytes len small. be_bytes_8 bytes _ len small refl;
  again = λ n below. from_be_bytes-to_be_bytes_8 n below;
  below = λ bytes small. omega (arith, small 0, small 1, small 2, small 3, small 4, small 5, small 6, small 7);
}
wide64 Little = record {
  len = λ n. refl;
  back = λ bytes len small. le_bytes_8 bytes _ len small refl;
  again = λ n below. from_le_bytes-to_le_bytes_8 n below;
  below = λ bytes small. omega (arith, small 0, small 1, small 2, small 3, small 4, small 5, small 6, small 7);
}

module _ (order : ByteOrder) (w : Width) (limit : ℕ) (wide : IsWide order w limit) where
  pub number_takes : (from : Unread) (x : ℕ × Unread) → IsBytes from.bytes → number_at order w from ≡ Ok x
      → Takes from (number_bytes order w x.0) x.1 × (x.0 < limit)
  unfolding number_at
  number_takes from x small e =
      let b = bind_ok (bytes_at (byte_len w) from) (λ bytes. Ok (number_from order w bytes.0, bytes.1)) x e in
      let t = bytes_takes (byte_len w) from b.0 small b.1 in
      let front : number_bytes order w (number_from order w b.0.0) ≡ b.0.0 = wide.back b.0.0 t.1 t.2 in
      subst (λ (y : ℕ × Unread). Takes from (number_bytes order w y.0) y.1 × (y.0 < limit))
      (ok_is (number_from order w b.0.0, b.0.1) x b.2)
      (subst (λ (text : List ℕ). Takes from text b.0.1) (sym front) t.0, wide.below b.0.0 t.2)

  pub number_again : (n : ℕ) (rest : List ℕ) (at : ℕ) → n < limit
      → number_at order w (from_at (number_bytes order w n ++ rest) at) ≡ Ok (n, from_at rest (at + byte_len w))
  unfolding number_at
  number_again n rest at below =
      rw (bytes_again (number_bytes order w n) rest (byte_len w) at (wide.len n), wide.again n below) refl

  pub field_takes : (rule : ℕ → Bool) (from : Unread) (x : ℕ × Unread) → IsBytes from.bytes
      → field_at order w rule from ≡ Ok x
      → Takes from (number_bytes order w x.0) x.1 × (x.0 < limit) × (rule x.0 ≡ true)
  unfolding field_at
  field_takes rule from x small e =
      let b = bind_ok (number_at order w from) (λ n. ruled (rule n.0) from.at n) x e in
      let t = number_takes from b.0 small b.1 in
      let r = ruled_ok (rule b.0.0) from.at b.0 x b.2 in
      subst (λ (y : ℕ × Unread). Takes from (number_bytes order w y.0) y.1 × (y.0 < limit) × (rule y.0 ≡ true)) r.1
      (t.0, t.1, r.0)

  pub field_again : (rule : ℕ → Bool) (n : ℕ) (rest : List ℕ) (at : ℕ) → n < limit → rule n ≡ true
      → field_at order w rule (from_at (number_bytes order w n ++ rest) at) ≡ Ok (n, from_at rest (at + byte_len w))
  unfolding field_at
  field_again rule n rest at below holds = rw (number_again n rest at below, holds) refl

-- ---- bytes of a list, by their places

pub bytes_of_all : (bytes : List ℕ) → All (λ byte. byte < 256) bytes → IsBytes bytes
bytes_of_all bytes small i = elim (cases_lt i (length bytes)) [
  | inl within ↦ small i 0 within
  | inr past ↦ rw (get_or_past bytes i 0 past) (omega arith)
]
