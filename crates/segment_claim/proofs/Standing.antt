-- Claims that stand, and the numbers of the pieces.
use Rattle.std.proofs.Common.{◌≡◌, ℕ, suc, ◌+◌, ◌-◌, ◌<◌, ◌≤◌, ◌++◌, Bool, true, false, cond, List, [], ◌∷◌, Some, length, replicate, refl, sym, ap, ◌∙◌, inl, inr, arith}
use Rattle.std.specs.Prelude.{Contains, find, nat_lt}
use Rattle.std.proofs.lemmas.Bool.{cases_lt}
use Rattle.std.proofs.lemmas.Bool.Decides.{nat_tests}
use Rattle.std.proofs.lemmas.List.{append-nil}
use Rattle.std.proofs.lemmas.List.Elements.{All-contains}
use Rattle.dl_kinds.specs.Plan.{blocks_of, pieces_of}
use Rattle.dl_kinds.specs.declared.claims.Claim.{Claim}
use Rattle.segment_claim.specs.Kept.{KeepsClaims, closed_of, room_of}
use Rattle.segment_claim.specs.Sound.{IsWithinBlocks}

stands_here : (first claim : Claim) (rest : List Claim) → claim ≡ first → Contains (first ∷ rest) claim
stands_here first claim rest is = (0, omega arith, sym is)

stands_later : (first claim : Claim) (rest : List Claim) → Contains rest claim → Contains (first ∷ rest) claim
stands_later first claim rest later = (suc later.0, (let w = later.1 in omega arith), later.2)

-- what is found is there
pub found_stands : (p : Claim → Bool) (standing : List Claim) (claim : Claim) → Some claim ≡ find p standing
    → Contains standing claim
found_stands p [] claim is = cc
found_stands p (first ∷ rest) claim is =
    elim (p first) as (λ (b : Bool). Some claim ≡ cond b (Some first) (find p rest) → Contains (first ∷ rest) claim) [
      | true ↦ λ same. stands_here first claim rest (let e : Some claim ≡ Some first = same in cc)
      | false ↦ λ same. stands_later first claim rest (found_stands p rest claim same)
    ] is

-- where a claim stands, each piece has a number
pub full_where_stands : (total piece_len next : ℕ) (standing : List Claim) (closed : List ℕ) (claim : Claim)
    → KeepsClaims total piece_len standing closed next → Contains standing claim
    → length closed ≡ pieces_of total piece_len
full_where_stands total piece_len next standing closed claim kept stands = elim kept.pieces [
  | inl full ↦ full
  | inr bare ↦
      let below : claim.id < next = All-contains (λ (c : Claim). c.id < next) standing claim kept.below stands in
      let none : next ≡ 0 = bare.1 in
      absurd (omega arith)
]

-- these are the ones that contracts see
pub closed_same : (pieces : ℕ) (closed : List ℕ) → length closed ≡ pieces → closed_of pieces closed ≡ closed
closed_same pieces closed full =
    let none : pieces - length closed ≡ 0 = omega arith in
    ap (λ (n : ℕ). closed ++ replicate n 0) none ∙ append-nil closed

-- a claim that stands is of blocks of the payload
pub stands_within : (total piece_len next : ℕ) (standing : List Claim) (closed : List ℕ) (claim : Claim)
    → KeepsClaims total piece_len standing closed next → Contains standing claim
    → claim.run.first + claim.run.count ≤ blocks_of total piece_len
stands_within total piece_len next standing closed claim kept stands =
    (All-contains (IsWithinBlocks (blocks_of total piece_len)) standing claim kept.within stands).within

-- .. and so it is where there is a claim
pub full_where_some : (total piece_len next : ℕ) (standing : List Claim) (closed : List ℕ)
    → KeepsClaims total piece_len standing closed next → 1 ≤ length standing → length closed ≡ pieces_of total piece_len
full_where_some total piece_len next [] closed kept some = absurd (omega arith)
full_where_some total piece_len next (claim ∷ rest) closed kept some =
    full_where_stands total piece_len next (claim ∷ rest) closed claim kept (stands_here claim claim rest refl)

-- there is more room where there is more behind the claims
pub room_more : (pieces closed before after : ℕ) → before ≤ after
    → room_of pieces closed before ≤ room_of pieces closed after
room_more pieces closed before after more =
    elim (nat_lt closed pieces) as (λ (b : Bool). cond b 0 before ≤ cond b 0 after) [
      | true ↦ omega arith
      | false ↦ more
    ]

-- .. and where there is room for one
pub full_where_room : (total piece_len next pieces room : ℕ) (standing : List Claim) (closed : List ℕ)
    → KeepsClaims total piece_len standing closed next → pieces ≡ pieces_of total piece_len
    → 1 ≤ room_of pieces (length closed) room → length closed ≡ pieces_of total piece_len
full_where_room total piece_len next pieces room standing closed kept is some = elim kept.pieces [
  | inl full ↦ full
  | inr bare ↦ elim (cases_lt (length closed) pieces) [
    | inl few ↦
        let test : nat_lt (length closed) pieces ≡ true = grind (arith, nat_tests) in
        let none : room_of pieces (length closed) room ≡ 0 = rw test refl in
        absurd (omega arith)
    | inr enough ↦ let l : length closed ≡ 0 = rw (bare.0) refl in omega arith
  ]
]
