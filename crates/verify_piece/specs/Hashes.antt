-- The digests of messages (FIPS 180-4).
use Rattle.std.specs.Prelude.{◌≡◌, ℕ, List}
use Rattle.sha1.specs.Sha1 as one
use Rattle.sha2.specs.Sha256.{sha224, sha256}
use Rattle.sha2.specs.Sha512.{sha384, sha512}
use Rattle.sha2.specs.Hashers.{Holds224, Holds256, Holds384, Holds512}
use Rattle.dl_kinds.specs.declared.checksum.HashType.{HashType}
use Rattle.dl_kinds.specs.declared.checksum.HashType.TheVariants as hash
use Rattle.verify_piece.specs.declared.whole.Hasher.{Hasher}
use Rattle.verify_piece.specs.declared.whole.Hasher.TheVariants.{Sha1, Sha224, Sha256, Sha384, Sha512}

abbrev pub digest_by : HashType → List ℕ → List ℕ
digest_by hash.Sha1 message = one.sha1 message
digest_by hash.Sha224 message = sha224 message
digest_by hash.Sha256 message = sha256 message
digest_by hash.Sha384 message = sha384 message
digest_by hash.Sha512 message = sha512 message

-- the hasher is of this hash function and took this message
abbrev pub TookMessage : HashType → Hasher → List ℕ → Type 0
TookMessage hash.Sha1 (Sha1 hasher) message = one.Holds hasher message
TookMessage hash.Sha224 (Sha224 hasher) message = Holds224 hasher message
TookMessage hash.Sha256 (Sha256 hasher) message = Holds256 hasher message
TookMessage hash.Sha384 (Sha384 hasher) message = Holds384 hasher message
TookMessage hash.Sha512 (Sha512 hasher) message = Holds512 hasher message
TookMessage hash hasher message = ⊥
