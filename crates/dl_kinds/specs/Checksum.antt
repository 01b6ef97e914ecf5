-- Digests that a payload is to have, in texts (aria2 manual, `--checksum=TYPE=DIGEST`; FIPS 180-4).
use Rattle.std.specs.Prelude.{◌≡◌, ◌++◌, ℕ, List, Ok, length, codes}
use Rattle.hex.specs.Hex.{decode_of}
use Rattle.dl_kinds.specs.declared.checksum.HashType.{HashType}
use Rattle.dl_kinds.specs.declared.checksum.HashType.TheVariants.{Sha1, Sha224, Sha256, Sha384, Sha512}

-- the name of a hash function and the sign behind it
abbrev pub prefix_of : HashType → List ℕ
prefix_of Sha1 = codes "sha-1="
prefix_of Sha224 = codes "sha-224="
prefix_of Sha256 = codes "sha-256="
prefix_of Sha384 = codes "sha-384="
prefix_of Sha512 = codes "sha-512="

-- the bytes of its digests
abbrev pub digest_len_of : HashType → ℕ
digest_len_of Sha1 = 20
digest_len_of Sha224 = 28
digest_len_of Sha256 = 32
digest_len_of Sha384 = 48
digest_len_of Sha512 = 64

-- the text names the hash function and spells the digest, in hexadecimal digits of either case
pub record SpellsDigest (hash : HashType) (digest text : List ℕ) : Type 0 where
  pub digits : List ℕ
  pub text_is : text ≡ prefix_of hash ++ digits
  pub digest_is : decode_of digits ≡ Ok digest
  pub len : length digest ≡ digest_len_of hash

-- the text names a hash function and spells a digest of it
pub record IsChecksum (text : List ℕ) : Type 0 where
  pub hash : HashType
  pub digest : List ℕ
  pub spelled : SpellsDigest hash digest text
