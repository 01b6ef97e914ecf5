-- An edit that is done with one byte in place of its own is one of those that a crash cuts short.
use Rattle.std.proofs.Common.{◌≡◌, ◌∙◌, inl, ⊎_elim, ℕ, ◌+◌, ◌-◌, ◌<◌, ◌≤◌, max, List, [], length, take, replicate, get_or, Option, Some, None, arith, length-append, length-take}
use Rattle.std.proofs.lemmas.List.{length-replicate, get_or_append_left, get_or-take}
use Rattle.dl_disk.specs.Crash.{filled_up, flooded}
use Rattle.dl_disk.specs.Edit.{MayEdit}
use Rattle.dl_disk.specs.Files.{replaced, file_bytes, Torn, Stretched, MayMake}
use Rattle.dl_disk.specs.Tears.{same_at, length-replaced, get_or-replaced_before, get_or-replaced_after}
use Rattle.dl_disk.specs.declared.edits.Edit.{Edit}
use Rattle.dl_disk.specs.declared.edits.Edit.TheVariants.{Write, Resize}

-- the byte at the end
length-filled_up : (byte : ℕ) (old : List ℕ) (len : ℕ) → length (filled_up byte old len) ≡ max (length old) len
length-filled_up byte old len = omega (arith, length-append old (replicate (len - length old) byte), length-replicate (len - length old) byte)

get_or-filled_up : (byte : ℕ) (old : List ℕ) (len i : ℕ) → i < length old → get_or (filled_up byte old len) i 0 ≡ get_or old i 0
get_or-filled_up byte old len i within = get_or_append_left old (replicate (len - length old) byte) 0 i within

-- these bytes in place of others, in a file that was filled up
torn_replaced : (byte : ℕ) (old : List ℕ) (at : ℕ) (bytes : List ℕ) → Torn at (length bytes) old (replaced (filled_up byte old (at + length bytes)) at bytes)
torn_replaced byte old at bytes =
    let n = at + length bytes in
    let long = filled_up byte old n in
    let size : length long ≡ max (length old) n = length-filled_up byte old n in
    let room : at + length bytes ≤ length long = omega (arith, size) in
    let new_size : length (replaced long at bytes) ≡ max (length old) n = length-replaced long at bytes room ∙ size in
    record {
      same = λ i within outside. same_at (replaced long at bytes) old i (omega (arith, new_size)) within
          (⊎_elim (get_or-replaced_before long at bytes room i) (get_or-replaced_after long at bytes room i) outside ∙ get_or-filled_up byte old n i within);
      no_shorter = omega (arith, new_size);
      no_longer = omega (arith, new_size);
    }

torn_flooded : (byte : ℕ) (old : List ℕ) (at : ℕ) (bytes : List ℕ) → Torn at (length bytes) old (flooded byte (Write at bytes) old)
torn_flooded byte old at bytes =
    let size : length (replicate (length bytes) byte) ≡ length bytes = length-replicate (length bytes) byte in
    rw size (rw size at (torn_replaced byte old at (replicate (length bytes) byte)))

stretched_flooded : (byte : ℕ) (old : List ℕ) (len : ℕ) → Stretched len old (flooded byte (Resize len) old)
stretched_flooded byte old len =
    let size : length (filled_up byte old len) ≡ max (length old) len = length-filled_up byte old len in
    let new_size : length (take len (filled_up byte old len)) ≡ len = omega (arith, size, length-take len (filled_up byte old len)) in
    record {
      same = λ i in_old in_new. same_at (take len (filled_up byte old len)) old i in_new in_old
          (get_or-take len (filled_up byte old len) i 0 (omega (arith, new_size)) ∙ get_or-filled_up byte old len i in_old);
      least = inl (omega (arith, new_size));
      most = omega (arith, new_size);
    }

may_flood_bytes : (byte : ℕ) (edit : Edit) (old : List ℕ) → MayEdit edit old (flooded byte edit old)
may_flood_bytes byte (Write at bytes) old = torn_flooded byte old at bytes
may_flood_bytes byte (Resize len) old = stretched_flooded byte old len

-- of a file that may be there
pub may_flood : (byte : ℕ) (edit : Edit) (file : Option (List ℕ)) → MayMake (MayEdit edit) file (Some (flooded byte edit (file_bytes file)))
may_flood byte edit None = may_flood_bytes byte edit []
may_flood byte edit (Some old) = may_flood_bytes byte edit old
