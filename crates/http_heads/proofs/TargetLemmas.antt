-- The bytes before a request target.
use Rattle.std.proofs.Common.{◌≡◌, ℕ, ◌<◌, ◌+◌, ◌↔◌, Bool, true, List, [], ◌∷◌, ◌++◌, append_assoc, append-nil, length, take, drop, get_or, slice_range, ◌-◌, arith, ap, sym, ◌∙◌, inl, inr}
use Rattle.std.proofs.lemmas.Bool.{cases_lt}
use Rattle.std.proofs.lemmas.Grind.{common_steps}
use Rattle.std.proofs.lemmas.List.{drop_more}
use Rattle.std.proofs.lemmas.List.Elements.{All-head}
use Rattle.std.proofs.lemmas.List.Sums.{AllPass-from_list_all, list_all-from_AllPass}
use Rattle.std.specs.List.{list_all}
use Rattle.std.specs.Prelude.{IsTrue}
use Rattle.httparse.specs.Grammar.{LineEnd, crlf, lf, print_end, print_blank, IsToken, is_token_byte, is_uri_byte, EndsInTarget}
use Rattle.httparse.specs.Pieces.{Begins, IsRunAt, Newline, Method}
use Rattle.httparse.proofs.PieceLemmas.{print_end_unique, newline_not_stopped, token_is_no_newline, space_ends_token, Method_deterministic}
use Rattle.httparse.proofs.RunLemmas.{IsRunAt_unique, IsRunAt_open, IsRunAt_pass, drop_split, length-slice_range}

-- ---- empty lines

-- one more line is passed over
pub blank_more : (bytes rest line : List ℕ) (end : LineEnd) (ends : List LineEnd)
    → bytes ≡ print_blank ends ++ rest → Newline end rest line → bytes ≡ print_blank (ends ++ end ∷ []) ++ line
blank_more bytes rest line end ends is newline =
    is ∙ ap (λ tail. print_blank ends ++ tail) newline ∙ sym (append_assoc (print_blank ends) (print_end end) line)
    ∙ ap (λ front. front ++ line) (more ends end)
  where
    more : (ends : List LineEnd) (end : LineEnd) → print_blank ends ++ print_end end ≡ print_blank (ends ++ end ∷ [])
    more [] end = sym (append-nil (print_end end))
    more (e ∷ ends) end = append_assoc (print_end e) (print_blank ends) (print_end end) ∙ ap (λ tail. print_end e ++ tail) (more ends end)

pub line_is_shorter : (rest line : List ℕ) (end : LineEnd) → Newline end rest line → length line < length rest
line_is_shorter rest line crlf newline = omega (arith, ap length newline)
line_is_shorter rest line lf newline = omega (arith, ap length newline)

-- what stands behind all empty lines is one text
blank_same : (a b : List LineEnd) (r q : List ℕ) → (Begins Newline r → ⊥) → (Begins Newline q → ⊥)
    → print_blank a ++ r ≡ print_blank b ++ q → r ≡ q
blank_same [] [] r q none other e = e
blank_same [] (y ∷ b) r q none other e = absurd (none (y, print_blank b ++ q, e ∙ append_assoc (print_end y) (print_blank b) q))
blank_same (x ∷ a) [] r q none other e = absurd (other (x, print_blank a ++ r, sym e ∙ append_assoc (print_end x) (print_blank a) r))
blank_same (x ∷ a) (y ∷ b) r q none other e =
    blank_same a b r q none other
    (print_end_unique x y (print_blank a ++ r) (print_blank b ++ q)
    (sym (append_assoc (print_end x) (print_blank a) r) ∙ e ∙ append_assoc (print_end y) (print_blank b) q)).1

-- a token is no empty line
token_no_line : (method rest : List ℕ) → IsToken method → Begins Newline (method ++ rest) → ⊥
token_no_line [] rest token begins = omega (arith, token.0)
token_no_line (byte ∷ method) rest token begins =
    newline_not_stopped begins.0 begins.1 (byte ∷ (method ++ rest)) (sym begins.2)
    (token_is_no_newline byte (All-head (λ b. is_token_byte b ≡ true) byte method token.1))

-- ---- the method

pub method_at : (bytes : List ℕ) (len : ℕ) → IsRunAt is_token_byte bytes 0 len → 0 < len → len < length bytes
    → get_or bytes len 0 ≡ 32 → (method : List ℕ) × Method method bytes (drop (len + 1) bytes)
method_at bytes len run some inside space =
    let word : List ℕ = slice_range bytes 0 len in (
      word,
      (
        omega (arith, some, length-slice_range bytes 0 len run.ordered run.in_range),
        IsRunAt_pass run,
        drop_split bytes 0 len run.ordered
            ∙ ap (λ tail. word ++ tail) (drop_more bytes len 0 inside ∙ ap (λ b. b ∷ drop (len + 1) bytes) space),
      ),
    )

pub no_method : (bytes : List ℕ) (len : ℕ) → IsRunAt is_token_byte bytes 0 len
    → (0 < len → len < length bytes → get_or bytes len 0 ≡ 32 → ⊥) → Begins Method bytes → ⊥
no_method bytes len run wrong (method, rest, word) =
    elim (cases_lt len (length bytes)) [
      | inl inside ↦
          let same = IsRunAt_unique run inside [] method (32 ∷ rest) word.1 space_ends_token (append-nil bytes ∙ word.2) in
          wrong (omega (arith, word.0, ap length same.0, length-slice_range bytes 0 len run.ordered run.in_range)) inside
          (head_is _ _ _ rest (sym (drop_more bytes len 0 inside) ∙ sym (append-nil (drop len bytes)) ∙ same.1))
      | inr past ↦ IsRunAt_open run past method (32 ∷ rest) space_ends_token word.2
    ]
  where
    head_is : (a b : ℕ) (xs ys : List ℕ) → a ∷ xs ≡ b ∷ ys → a ≡ b
    head_is a b xs ys e = cc

-- what a range to the end covers
pub whole_rest : (xs : List ℕ) (n : ℕ) → take (length xs - n) (drop n xs) ≡ drop n xs
whole_rest xs n = grind (arith, common_steps)

-- ---- the target

pub ends_where : (bytes rest target method : List ℕ) (ends : List LineEnd) (all : Bool)
    → bytes ≡ print_blank ends ++ rest → (Begins Newline rest → ⊥) → Method method rest target
    → all ≡ list_all is_uri_byte target → IsTrue all ↔ EndsInTarget bytes
ends_where bytes rest target method ends all is none at same = (
  λ true_is. (
    ends,
    method,
    target,
    (at.0, at.1),
    AllPass-from_list_all is_uri_byte target (sym same ∙ true_is),
    is ∙ ap (λ tail. print_blank ends ++ tail) at.2 ∙ sym (append_assoc (print_blank ends) method (32 ∷ target)),
  ),
  λ (blank, word, found, token, uri, stands).
      let rest_is = blank_same ends blank rest (word ++ 32 ∷ found) none (token_no_line word (32 ∷ found) token)
      (sym is ∙ stands ∙ append_assoc (print_blank blank) word (32 ∷ found)) in
      let one = Method_deterministic.unique method word rest target found at (token.0, token.1, rest_is) in
      same ∙ ap (list_all is_uri_byte) one.1 ∙ list_all-from_AllPass is_uri_byte found uri,
)

pub ends_nowhere : (bytes rest : List ℕ) (ends : List LineEnd) → bytes ≡ print_blank ends ++ rest
    → (Begins Newline rest → ⊥) → (Begins Method rest → ⊥) → EndsInTarget bytes → ⊥
ends_nowhere bytes rest ends is none no_method (blank, word, found, token, uri, stands) =
    let rest_is = blank_same ends blank rest (word ++ 32 ∷ found) none (token_no_line word (32 ∷ found) token)
    (sym is ∙ stands ∙ append_assoc (print_blank blank) word (32 ∷ found)) in
    no_method (word, found, (token.0, token.1, rest_is))
