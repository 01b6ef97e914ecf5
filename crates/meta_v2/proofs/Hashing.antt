-- Hashes one behind the other.
use Rattle.std.proofs.Common.{◌≡◌, ℕ, zero, suc, ◌≤◌, ◌+◌, ◌-◌, ◌*◌, ◌/◌, List, [], ◌∷◌, ◌++◌, length, take, drop, refl, ap, arith, ◌∙◌}
use Rattle.std.specs.List.{All}
use Rattle.std.proofs.lemmas.List.{append_assoc, length-take, length-drop}
use Rattle.std.proofs.lemmas.List.Elements.{All-cons, All-nil}
use Rattle.meta_v2.specs.Rules.{first_hashes, hashes_in}
use Rattle.meta_v2.specs.Sound.{IsHash}

count_more : (n : ℕ) → 32 ≤ n → n / 32 ≡ suc ((n - 32) / 32)
count_more n some = omega arith

pub hash_more : (front : List (List ℕ)) (rest hash behind : List ℕ) → hash ≡ take 32 rest → behind ≡ drop 32 rest
    → length behind + 32 ≡ length rest
    → (front ++ hash ∷ []) ++ first_hashes (length behind / 32) behind ≡ front ++ first_hashes (length rest / 32) rest
hash_more front rest hash behind is_first is_rest long =
    let more : length rest / 32 ≡ suc (length behind / 32) = omega (arith, count_more (length rest) (omega arith)) in
    rw (more, append_assoc front (hash ∷ []) (first_hashes (length behind / 32) behind), is_first, is_rest) refl

hashes_len : (count : ℕ) (bytes : List ℕ) → length (first_hashes count bytes) ≡ count
hashes_len zero bytes = refl
hashes_len (suc count) bytes = ap suc (hashes_len count (drop 32 bytes))

-- a string of so many hashes
pub hashes_count : (text : List ℕ) (count : ℕ) → length text ≡ 32 * count → length (hashes_in text) ≡ count
hashes_count text count is =
    hashes_len (length text / 32) text ∙ omega (arith, is)

each_whole : (count : ℕ) (bytes : List ℕ) → 32 * count ≤ length bytes → All IsHash (first_hashes count bytes)
each_whole zero bytes enough = All-nil IsHash
each_whole (suc count) bytes enough =
    All-cons IsHash (take 32 bytes) (first_hashes count (drop 32 bytes)) (omega (arith, length-take 32 bytes))
    (each_whole count (drop 32 bytes) (omega (arith, length-drop 32 bytes)))

pub hashes_are : (text : List ℕ) (count : ℕ) → length text ≡ 32 * count → All IsHash (hashes_in text)
hashes_are text count is = each_whole (length text / 32) text (omega (arith, is))
