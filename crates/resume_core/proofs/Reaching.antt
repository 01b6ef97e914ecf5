-- Files with their lengths have every byte of the payload.
use Rattle.std.proofs.Common.{◌≡◌, ℕ, ◌+◌, ◌-◌, ◌<◌, ◌≤◌, Bool, cond, List, [], ◌∷◌, length, map, slice_get, Option, Some, None, sym, subst, refl, inl, inr, arith}
use Rattle.std.specs.Prelude.{IsSome, IsSomeAnd}
use Rattle.std.specs.List.{AllByRecursion}
use Rattle.std.proofs.lemmas.Bool.{cases_lt, lt-ltb, le-ltb}
use Rattle.std.proofs.lemmas.List.Elements.{recursion_from_All}
use Rattle.std.proofs.lemmas.List.Sums.{sum_by-cons}
use Rattle.std.proofs.lemmas.Option.{slice_get-get_or}
use Rattle.dl_disk.specs.Files.{Files, file_bytes}
use Rattle.dl_kinds.specs.Plan.{piece_start, piece_end, block_start, block_end}
use Rattle.span_map.specs.Layout.{total_of}
use Rattle.span_map.specs.declared.files.FileLen.{FileLen}
use Rattle.payload_files.specs.Names.{name_of}
use Rattle.payload_files.specs.Payload.{HasFiles}
use Rattle.control_file.specs.declared.want.Want.{Want}
use Rattle.resume_core.specs.Resume.{byte_at, Reach, ReachesPiece, ReachesBlock}
use Rattle.control_file.specs.Wants.{IsWant}
use Rattle.resume_core.specs.Wants.{files_in}

byte_within : (file : Option (List ℕ)) (len i : ℕ) → IsSomeAnd file (λ bytes. length bytes ≡ len) → i < len
    → IsSome (slice_get (file_bytes file) i)
byte_within None len i has below = absurd has
byte_within (Some bytes) len i has below =
    subst (λ (o : Option ℕ). IsSome o) (sym (slice_get-get_or bytes i 0 (omega (arith, has)))) refl

module _ (dir : List ℕ) (seen : Files) where
  file_at : FileLen → Option (List ℕ)
  file_at file = seen (name_of dir file.path)

  has_byte : (files : List FileLen)
      → AllByRecursion (λ file. IsSomeAnd (seen (name_of dir file.path)) (λ bytes. length bytes ≡ file.len)) files
      → (i : ℕ) → i < total_of files → IsSome (byte_at files (map (λ file. seen (name_of dir file.path)) files) i)
  has_byte [] has i below = absurd (omega (arith, below))
  has_byte (file ∷ files) (here, more) i below =
      let rest = byte_at files (map (λ f. seen (name_of dir f.path)) files) (i - file.len) in
      let first = slice_get (file_bytes (seen (name_of dir file.path))) i in
      let total : total_of (file ∷ files) ≡ file.len + total_of files = sum_by-cons (λ f. f.len) file files in
      elim (cases_lt i file.len) [
        | inl inside ↦ subst (λ (b : Bool). IsSome (cond b first rest)) (sym (lt-ltb i file.len inside))
            (byte_within (seen (name_of dir file.path)) file.len i here inside)
        | inr past ↦ subst (λ (b : Bool). IsSome (cond b first rest)) (sym (le-ltb i file.len past))
            (has_byte files more (i - file.len) (omega (arith, past, total)))
      ]

module _ (want : Want) (is : IsWant want) (seen : Files) (has : HasFiles want.dir want.layout seen) where
  pub reach_all : (start end : ℕ) → end ≤ want.plan.total → Reach want (files_in want seen) start end
  reach_all start end within i below =
      let each = recursion_from_All (λ file. IsSomeAnd (seen (name_of want.dir file.path))
      (λ bytes. length bytes ≡ file.len)) want.layout has in
      has_byte want.dir seen want.layout each (start + i) (omega (arith, below, within, is.total))

  pub reach_piece : (piece : ℕ) → ReachesPiece want (files_in want seen) piece
  reach_piece piece = reach_all (piece_start want.plan.piece_len piece)
      (piece_end want.plan.total want.plan.piece_len piece) (omega arith)

  pub reach_block : (block : ℕ) → ReachesBlock want (files_in want seen) block
  reach_block block = reach_all (block_start want.plan.piece_len block)
      (block_end want.plan.total want.plan.piece_len block) (omega arith)
