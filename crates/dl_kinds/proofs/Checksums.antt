-- Checksums have one reading.
use Rattle.std.proofs.Common.{◌≡◌, ◌≢◌, ◌*◌, ℕ, List, Result, Ok, Err, MatchResult, is_ok, true, false, true≢false, length, refl, sym, ◌∙◌, ap, arith}
use Rattle.hex.specs.Hex.{decode_of, decode_sized}
use Rattle.hex.specs.declared.error.FromHexError.{FromHexError}
use Rattle.hex.proofs.HexLemmas.{decode_of-ok, decode_sized-twice, decode_sized-ok}

Answers : Result (List ℕ) FromHexError → Result (Unit {0}) FromHexError → List ℕ → Type 0
Answers decoded result room = MatchResult decoded (λ bytes. (result ≡ Ok tt) × (room ≡ bytes)) (λ e. result ≡ Err e)

filled : (digits room : List ℕ) (result : Result (Unit {0}) FromHexError) (size : ℕ) (decoded : Result (List ℕ) FromHexError)
    → decode_sized digits size ≡ decoded → Answers decoded result room → is_ok result ≡ true → decode_of digits ≡ Ok room
unfolding Answers
filled digits room result size (Ok bytes) is answer ok =
    sym (decode_sized-twice digits size (decode_sized-ok digits size bytes is)) ∙ is ∙ ap Ok (sym answer.1)
filled digits room result size (Err e) is answer ok = absurd (true≢false (sym ok ∙ ap is_ok answer))

-- what decodes into the room is what the digits decode to
pub fills : (digits room : List ℕ) (result : Result (Unit {0}) FromHexError) (size : ℕ)
    → MatchResult (decode_sized digits size) (λ bytes. (result ≡ Ok tt) × (room ≡ bytes)) (λ e. result ≡ Err e)
    → is_ok result ≡ true → decode_of digits ≡ Ok room
unfolding Answers
fills digits room result size answer ok = filled digits room result size (decode_sized digits size) refl answer ok

-- what doesn't is no digest of that size
pub refuses : (digits room : List ℕ) (result : Result (Unit {0}) FromHexError) (size : ℕ)
    → MatchResult (decode_sized digits size) (λ bytes. (result ≡ Ok tt) × (room ≡ bytes)) (λ e. result ≡ Err e)
    → is_ok result ≡ false → (digest : List ℕ) → decode_of digits ≡ Ok digest → length digest ≢ size
refuses digits room result size answer not_ok digest digest_is fits =
    let twice : length digits ≡ 2 * size = omega (arith, decode_of-ok digits digest digest_is) in
    let both : decode_sized digits size ≡ Ok digest = decode_sized-twice digits size twice ∙ digest_is in
    let met = rw both at answer in
    true≢false (sym (ap is_ok met.0) ∙ not_ok)
