-- What a store is to keep of a download.
use Rattle.std.specs.Prelude.{◌≡◌, ℕ, List, [], ◌∷◌, length, Option, None, IfSome, All, IsSome}
use Rattle.dl_kinds.specs.Plan.{IsPlan, pieces_of}
use Rattle.span_map.specs.Layout.{IsLayout, total_of}
use Rattle.control_file.specs.declared.want.Want.{Want}

-- a path begins with this part
abbrev pub IsBehind : List ℕ → List (List ℕ) → Type 0
IsBehind base path = (rest : List (List ℕ)) × (path ≡ base ∷ rest)

-- a listed want has digests
abbrev pub IsListedWant : Want → Type 0
IsListedWant want = IsSome want.info_hash

-- The plan is that of the files, each listed piece has a digest, and each path begins with `base`, so that the control
-- file and the temporary one are no files of the payload.
pub record IsWant (want : Want) : Type 0 where
  pub layout : IsLayout want.layout
  pub total : total_of want.layout ≡ want.plan.total
  pub plan : IsPlan want.plan.total want.plan.piece_len
  pub pieces : want.plan.pieces ≡ pieces_of want.plan.total want.plan.piece_len
  pub hash : IfSome want.info_hash (λ hash. length hash ≡ 20)
  pub digests : IsListedWant want → length want.digests ≡ want.plan.pieces
  pub unlisted : want.info_hash ≡ None → want.digests ≡ []
  pub behind : All (λ file. IsBehind want.base file.path) want.layout

-- an info hash of 20 bytes and as many digests as pieces, or neither
pub record AreDigestsOf (pieces : ℕ) (hash : Option (List ℕ)) (digests : List (List ℕ)) : Type 0 where
  pub size : IfSome hash (λ hash. length hash ≡ 20)
  pub listed : IsSome hash → length digests ≡ pieces
  pub unlisted : hash ≡ None → digests ≡ []
