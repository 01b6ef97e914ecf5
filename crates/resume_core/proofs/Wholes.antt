-- A file that is written as a whole.
use Rattle.std.proofs.Common.{◌≡◌, ℕ, ◌+◌, ◌-◌, ◌≤◌, List, ◌++◌, length, replicate, Option, Some, ap, ◌∙◌, refl, arith}
use Rattle.std.specs.Prelude.{Result}
use Rattle.std.proofs.lemmas.List.{length-append, length-replicate, length-take, append-nil, drop_all}
use Rattle.dl_kinds.specs.declared.outside.IoErr.{IoErr}
use Rattle.dl_disk.specs.Calls.{Alters, Looks}
use Rattle.dl_disk.specs.Files.{Files, IsSame, Changes, Writes, Resizes, file_bytes, lengthened, overwritten, resized}
use Rattle.dl_disk.specs.Passes.{Performs, performs_alters, performs_look, performs_more, performs_wider}
use Rattle.dl_disk.specs.State.{DiskState}
use Rattle.resume_core.specs.Steps.{SameBut}

whole_write : (old bytes : List ℕ) → length old ≡ length bytes → overwritten old 0 bytes ≡ bytes
whole_write old bytes same =
    let long : List ℕ = lengthened old (0 + length bytes) in
    let size : length long ≤ length bytes =
    omega (
      arith,
      same,
      length-append old (replicate (0 + length bytes - length old) 0),
      length-replicate {A = ℕ} (0 + length bytes - length old) 0,
    ) in
    ap (λ (l : List ℕ). bytes ++ l) (drop_all (0 + length bytes) long (omega (arith, size))) ∙ append-nil bytes

length-resized : (old : List ℕ) (len : ℕ) → length (resized old len) ≡ len
length-resized old len =
    omega (
      arith,
      length-take len (lengthened old len),
      length-append old (replicate (len - length old) 0),
      length-replicate {A = ℕ} (len - length old) 0,
    )

pub whole_file : (a b c : Files) (name bytes : List ℕ) → Resizes name (length bytes) a b → Writes name 0 bytes b c
    → c name ≡ Some bytes
whole_file a b c name bytes sized put =
    put.here ∙ ap (λ (l : List ℕ). Some l)
    (whole_write (file_bytes (b name)) bytes (ap (λ (it : Option (List ℕ)). length (file_bytes it)) sized.here
    ∙ length-resized (file_bytes (a name)) (length bytes)))

-- a call that changes one file
pub performs_change : (name : List ℕ) (change : Option (List ℕ) → Option (List ℕ) → Type 0) (old new : DiskState)
    (result : Result (Unit {0}) IoErr)
    → Alters (Changes name change) old new result → Performs (SameBut name) old new
performs_change name change old new result alters =
    let but : Alters (SameBut name) old new result = record {
      seen = alters.seen.others;
      images = λ image left. let from = alters.images image left in (from.0, from.1, from.2.others);
      none = alters.none;
      time = alters.time;
      reads = alters.reads;
      folders = alters.folders;
    } in
    performs_alters (SameBut name) old new result (λ files other differs. refl) but

pub performs_two : (name : List ℕ) (a b c : DiskState) → Performs (SameBut name) a b → Performs (SameBut name) b c
    → Performs (SameBut name) a c
performs_two name a b c = performs_more (SameBut name) a b c (λ x y z one two other differs. two other differs
    ∙ one other differs)

pub performs_sync : {T : Type 0} (name : List ℕ) (a b : DiskState) (result : Result T IoErr) → Looks a b result
    → Performs (SameBut name) a b
performs_sync name a b result looks =
    performs_wider IsSame (SameBut name) a b (λ x y same other differs. same other) (performs_look a b result looks)
