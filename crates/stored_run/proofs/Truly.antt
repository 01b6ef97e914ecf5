-- What a whole check tells holds of the same payload.
use Rattle.std.proofs.Common.{◌≡◌, ℕ, Bool, List, [], ◌∷◌, refl, sym, ap, subst}
use Rattle.std.specs.Prelude.{◌↔◌, IsTrue, map}
use Rattle.std.specs.List.{concat}
use Rattle.control_file.specs.declared.want.Want.{Want}
use Rattle.dl_disk.specs.Files.{Files, file_bytes}
use Rattle.dl_kinds.specs.ChecksumView.{ChecksumView}
use Rattle.payload_files.specs.Names.{name_of}
use Rattle.payload_files.specs.Payload.{contents_in}
use Rattle.resume_core.specs.Wants.{files_in}
use Rattle.span_map.specs.declared.files.FileLen.{FileLen}
use Rattle.stored_run.specs.Settlings.{IsTruly, payload_of}
use Rattle.verify_piece.specs.Hashes.{digest_by}

contents_same : (dir : List ℕ) (layout : List FileLen) (a b : Files)
    → map (λ (f : FileLen). b (name_of dir f.path)) layout ≡ map (λ (f : FileLen). a (name_of dir f.path)) layout
    → contents_in dir layout b ≡ contents_in dir layout a
contents_same dir [] a b same = refl
contents_same dir (f ∷ layout) a b same =
    let first : b (name_of dir f.path) ≡ a (name_of dir f.path) = cc in
    let rest : map (λ (f : FileLen). b (name_of dir f.path)) layout ≡ map (λ (f : FileLen). a (name_of dir f.path))
    layout = cc in
    λ i. file_bytes (first i) ∷ contents_same dir layout a b rest i

payload_same : (want : Want) (a b : Files) → files_in want b ≡ files_in want a → payload_of want b ≡ payload_of want a
payload_same want a b same = ap (λ (parts : List (List ℕ)). concat parts) (contents_same want.dir want.layout a b same)

pub truly_kept : (right : Bool) (check : ChecksumView) (want : Want) (a b : Files) → files_in want b ≡ files_in want a
    → IsTruly right check want a → IsTruly right check want b
truly_kept right check want a b same is =
    subst (λ (bytes : List ℕ). IsTrue right ↔ (digest_by check.hash bytes ≡ check.digest))
    (sym (payload_same want a b same)) is
