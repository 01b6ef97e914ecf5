-- The limits of payloads, where sums beyond 64 bits count as the last number of 64 bits.
use Rattle.std.proofs.Common.{◌≡◌, ℕ, ◌≤◌, ◌<◌, List, Ok, Err, refl}
use Rattle.std.proofs.lemmas.Bool.{le-leb, lt-leb}
use Rattle.meta_v2.specs.declared.entries.TreeEntry.{TreeEntry}
use Rattle.meta_v2.specs.declared.refusals.V2Err.TheVariants.{TooLarge}
use Rattle.meta_v2.specs.Rules.{entry_bytes, entry_pieces, limits_fit}

pub fit : (piece_len : ℕ) (entries : List TreeEntry) → entry_pieces piece_len entries ≤ 1048576
    → entry_bytes entries ≤ 4398046511104 → limits_fit piece_len entries ≡ Ok tt
unfolding limits_fit
fit piece_len entries few short =
    rw (le-leb (entry_pieces piece_len entries) 1048576 few, le-leb (entry_bytes entries) 4398046511104 short) refl

pub too_many : (piece_len : ℕ) (entries : List TreeEntry) → 1048576 < entry_pieces piece_len entries
    → limits_fit piece_len entries ≡ Err TooLarge
unfolding limits_fit
too_many piece_len entries many = rw (lt-leb (entry_pieces piece_len entries) 1048576 many) refl

pub too_long : (piece_len : ℕ) (entries : List TreeEntry) → entry_pieces piece_len entries ≤ 1048576
    → 4398046511104 < entry_bytes entries → limits_fit piece_len entries ≡ Err TooLarge
unfolding limits_fit
too_long piece_len entries few long =
    rw (le-leb (entry_pieces piece_len entries) 1048576 few, lt-leb (entry_bytes entries) 4398046511104 long) refl
