use Rattle.std.proofs.Common.{◌≡◌, ◌≢◌, ◌++◌, ◌<◌, ℕ, List, [], ◌∷◌, get_or, arith}
use Rattle.dl_kinds.specs.Checksum.{prefix_of}
use Rattle.dl_kinds.specs.declared.checksum.HashType.{HashType}
use Rattle.dl_kinds.specs.declared.checksum.HashType.TheVariants.{Sha1, Sha224, Sha256, Sha384, Sha512}
use Rattle.dl_kinds.proofs.checksum.split.Goals as goal

-- where none of the five stands in front, no hash function's name does
none_in_front : (text : List ℕ) (tried : ℕ) → 5 ≡ tried
    → ((k : ℕ) → k < tried → (digits : List ℕ)
    → text ≢ prefix_of (get_or (Sha1 ∷ Sha224 ∷ Sha256 ∷ Sha384 ∷ Sha512 ∷ []) k Sha1) ++ digits)
    → (hash : HashType) (digits : List ℕ) → text ≢ prefix_of hash ++ digits
none_in_front text tried all none Sha1 = none 0 (omega arith)
none_in_front text tried all none Sha224 = none 1 (omega arith)
none_in_front text tried all none Sha256 = none 2 (omega arith)
none_in_front text tried all none Sha384 = none 3 (omega arith)
none_in_front text tried all none Sha512 = none 4 (omega arith)

pub returns : goal.returns
returns c = none_in_front c.args.text.now c.loop-hash.hash-index (omega arith) c.loop-hash.invariant
