-- A request as it is read, from its end.
use Rattle.std.specs.Prelude.{◌≡◌, ◌≢◌, ◌<◌, ◌^◌, ℕ, List, [], ◌∷◌, ◌++◌, codes, Contains}
use Rattle.std.specs.Fmt.{decimal}

-- what stands between the target and the numbers
unfoldable pub between_of : List ℕ → List ℕ
between_of host = codes " HTTP/1.1\r\nHost: " ++ (host ++ codes "\r\nUser-Agent: aria_cli\r\nAccept: */*\r\nAccept-Encoding: identity\r\nRange: bytes")

-- the whole, by what stands between the target and the numbers
unfoldable pub spelled : List ℕ → List ℕ → ℕ → ℕ → List ℕ
spelled between target first last = codes "GET " ++ target ++ between ++ codes "=" ++ decimal first ++ codes "-" ++ decimal last ++ codes "\r\n\r\n"

-- the bytes are these parts with the last mark between them
abbrev pub IsSplitAt : ℕ → List ℕ → List ℕ → List ℕ → Type 0
IsSplitAt mark bytes front behind = (bytes ≡ front ++ mark ∷ [] ++ behind) × (Contains behind mark → ⊥)

-- the bytes end in the mark and a number of 64 bits, without a leading zero
abbrev pub EndsInNumber : ℕ → List ℕ → List ℕ → ℕ → Type 0
EndsInNumber mark bytes front n = (bytes ≡ front ++ mark ∷ [] ++ decimal n) × (n < 2 ^ 64)

abbrev pub EndsInNone : ℕ → List ℕ → Type 0
EndsInNone mark bytes = (front : List ℕ) (n : ℕ) → n < 2 ^ 64 → bytes ≢ front ++ mark ∷ [] ++ decimal n

-- the bytes ask for this, by numbers of 64 bits
abbrev pub IsSpelled : List ℕ → List ℕ → List ℕ → ℕ → ℕ → Type 0
IsSpelled between bytes target first last =
    (bytes ≡ spelled between target first last) × (first < 2 ^ 64) × (last < 2 ^ 64)

abbrev pub SpellsNone : List ℕ → List ℕ → Type 0
SpellsNone between bytes =
    (target : List ℕ) (first last : ℕ) → first < 2 ^ 64 → last < 2 ^ 64 → bytes ≢ spelled between target first last
