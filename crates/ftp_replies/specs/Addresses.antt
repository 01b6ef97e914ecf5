-- The address of a data connection, in the last line of a reply to PASV (RFC 959 section 4.1.2).
use Rattle.std.specs.Prelude.{◌≡◌, ℕ, ◌+◌, ◌*◌, ◌<◌, List, ◌∷◌, ◌++◌, length, drop, slice_index}
use Rattle.std.specs.Fmt.{decimal}

-- b'(', b',' and b')'
abbrev pub bracket : ℕ
bracket = 40

abbrev pub address_comma : ℕ
address_comma = 44

abbrev pub end_bracket : ℕ
end_bracket = 41

-- the number in decimal digits, what ends it, and what stands behind that
abbrev pub before : ℕ → ℕ → List ℕ → List ℕ
before end number rest = decimal number ++ end ∷ rest

-- digits of which the first says nothing
abbrev pub HasLeadingZero : List ℕ → Type 0
HasLeadingZero digits = (1 < length digits) × (slice_index digits 0 ≡ 48)

-- the bytes begin with a number of at most 255 and what ends it
abbrev pub IsNumberBefore : ℕ → List ℕ → ℕ → List ℕ → Type 0
IsNumberBefore end bytes number rest = (number < 256) × (bytes ≡ before end number rest)

-- the bytes begin with `(h1,h2,h3,h4,p1,p2)`, of numbers below 256: four of a host, and two of a port
pub record IsAddress (bytes : List ℕ) (high low : ℕ) : Type 0 where
  pub first : ℕ
  pub second : ℕ
  pub third : ℕ
  pub fourth : ℕ
  pub behind : List ℕ
  pub host : (first < 256) × (second < 256) × (third < 256) × (fourth < 256)
  pub port : (high < 256) × (low < 256)
  pub is : bytes ≡ bracket ∷ before address_comma first (before address_comma second (before address_comma third (before address_comma fourth
      (before address_comma high (before end_bracket low behind)))))

-- the first address in the line has this port
pub record TellsPort (line : List ℕ) (port : ℕ) : Type 0 where
  pub at : ℕ
  pub high : ℕ
  pub low : ℕ
  pub found : IsAddress (drop at line) high low
  pub none_before : (place : ℕ) → place < at → (p1 p2 : ℕ) → IsAddress (drop place line) p1 p2 → ⊥
  pub is : port ≡ high * 256 + low
