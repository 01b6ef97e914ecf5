-- Replies with a turned byte, or with a body that is cut.
use Rattle.std.proofs.Common.{◌≡◌, inl, inr, ℕ, ◌+◌, ◌-◌, ◌<◌, ◌≤◌, Bool, true, false, cond, List, ◌++◌, append_assoc, length, get_or, take, drop, set, length-take, arith, ap, sym, ◌∙◌}
use Rattle.std.proofs.Math.Seq.{take-set-lt, set_out}
use Rattle.std.proofs.lemmas.Bool.{cond-true, cond-false, cases_lt, le-leb, lt-leb}
use Rattle.std.proofs.lemmas.List.{drop-set-lt, drop-set-add, take-set-le, length-set, get_or-take, get_or-drop, take-append-drop}
use Rattle.std.specs.Prelude.{bit_xor, nat_le, nat_lt, min}
use Rattle.dl_kinds.specs.Lists.{part_at}
use Rattle.link_source.specs.Replies.{Reply, bare_reply, body_text, flipped, not_satisfiable, part_head, ranges_reply, whole_head, whole_reply}
use Rattle.link_source.specs.declared.mirrors.Manner.TheVariants.{Ranges, Whole, Chunked, ToEnd}
use Rattle.memory_reply_laws.specs.BadReplies.{with_turned, FlippedIsTrue, BareIsNotFlipped, CutIsFront}

-- a byte of a part, turned
turned-part : (bytes : List ℕ) (first len place : ℕ) → first ≤ place → with_turned (place - first) (part_at bytes first len) ≡ part_at (with_turned place bytes) first len
turned-part bytes first len place low =
    let index = place - first in
    let behind = drop first bytes in
    let turned : ℕ → ℕ = λ byte. bit_xor byte 255 in
    let value = turned (get_or bytes place 0) in
    let is : first + index ≡ place = omega (arith, low) in
    let dropped : drop first (set bytes place value) ≡ set behind index value =
    ap (λ p. drop first (set bytes p value)) (sym is) ∙ drop-set-add first bytes index value in
    let there : part_at (with_turned place bytes) first len ≡ take len (set behind index value) = ap (take len) dropped in
    elim (cases_lt index len) [
      | inl within ↦
          let byte : get_or (part_at bytes first len) index 0 ≡ get_or bytes place 0 =
          get_or-take len behind index 0 within ∙ get_or-drop first bytes index 0 ∙ ap (λ p. get_or bytes p 0) is in
          ap (λ b. set (part_at bytes first len) index (turned b)) byte ∙ sym (there ∙ take-set-lt len behind index value within)
      | inr past ↦
          set_out (part_at bytes first len) index _ (omega (arith, past, length-take len behind)) ∙ sym (there ∙ take-set-le len behind index value past)
    ]

-- a byte before the part
turned-before : (bytes : List ℕ) (first len place : ℕ) → place < first → part_at bytes first len ≡ part_at (with_turned place bytes) first len
turned-before bytes first len place early = ap (take len) (sym (drop-set-lt first bytes place _ early))

abbrev made : ℕ → Bool → List ℕ → List ℕ → Reply
made place chunked head content = record { head = head; place = place; content = content; chunked = chunked }

flipped-part : (chunked : Bool) (bytes : List ℕ) (first last place total : ℕ)
    → flipped place (made first chunked (part_head chunked first last total) (part_at bytes first (last + 1 - first)))
    ≡ made first chunked (part_head chunked first last total) (part_at (with_turned place bytes) first (last + 1 - first))
flipped-part chunked bytes first last place total = elim (cases_lt place first) [
  | inl early ↦
      cond-false (nat_le first place) _ _ (lt-leb first place early)
      ∙ ap (made first chunked (part_head chunked first last total)) (turned-before bytes first (last + 1 - first) place early)
  | inr behind ↦
      cond-true (nat_le first place) _ _ (le-leb first place behind)
      ∙ ap (made first chunked (part_head chunked first last total)) (turned-part bytes first (last + 1 - first) place behind)
]

pub bare_is_not_flipped : BareIsNotFlipped
bare_is_not_flipped head place = cond-true (nat_le 0 place) _ _ (le-leb 0 place (omega arith))

flipped-whole : (told : Bool) (bytes : List ℕ) (place total : ℕ)
    → flipped place (made 0 false (whole_head told total) bytes) ≡ made 0 false (whole_head told total) (with_turned place bytes)
flipped-whole told bytes place total =
    let is : place - 0 ≡ place = omega arith in
    cond-true (nat_le 0 place) _ _ (le-leb 0 place (omega arith)) ∙ ap (λ p. made 0 false (whole_head told total) (with_turned p bytes)) is

-- by the length that is told
abbrev ranged : Bool → List ℕ → ℕ → ℕ → ℕ → Reply
ranged chunked bytes first last total =
    cond (nat_lt first total)
    (made first chunked (part_head chunked first (min last (total - 1)) total) (part_at bytes first (min last (total - 1) + 1 - first)))
    (bare_reply (not_satisfiable total))

flipped-by : (test : Bool) (place : ℕ) (a b c : Reply) → flipped place a ≡ b → flipped place c ≡ c → flipped place (cond test a c) ≡ cond test b c
flipped-by true place a b c is other = is
flipped-by false place a b c is other = other

same-length : (bytes : List ℕ) (place : ℕ) → length bytes ≡ length (with_turned place bytes)
same-length bytes place = sym (length-set bytes place _)

flipped-ranged : (chunked : Bool) (bytes : List ℕ) (first last place : ℕ)
    → flipped place (ranges_reply chunked bytes first last) ≡ ranges_reply chunked (with_turned place bytes) first last
flipped-ranged chunked bytes first last place =
    let total = length bytes in
    flipped-by (nat_lt first total) place _ _ (bare_reply (not_satisfiable total)) (flipped-part chunked bytes first (min last (total - 1)) place total)
    (bare_is_not_flipped (not_satisfiable total) place)
    ∙ ap (ranged chunked (with_turned place bytes) first last) (same-length bytes place)

flipped-all : (told : Bool) (bytes : List ℕ) (place : ℕ) → flipped place (whole_reply told bytes) ≡ whole_reply told (with_turned place bytes)
flipped-all told bytes place =
    flipped-whole told bytes place (length bytes) ∙ ap (λ total. made 0 false (whole_head told total) (with_turned place bytes)) (same-length bytes place)

pub flipped_is_true : FlippedIsTrue
flipped_is_true Ranges bytes first last place = flipped-ranged false bytes first last place
flipped_is_true Chunked bytes first last place = flipped-ranged true bytes first last place
flipped_is_true Whole bytes first last place = flipped-all true bytes place
flipped_is_true ToEnd bytes first last place = flipped-all false bytes place

pub cut_is_front : CutIsFront
cut_is_front reply count =
    ap (λ body. reply.head ++ body) (sym (take-append-drop count (body_text reply))) ∙ sym (append_assoc reply.head (take count (body_text reply)) (drop count (body_text reply)))
