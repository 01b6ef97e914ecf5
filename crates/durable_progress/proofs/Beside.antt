-- Wants that share no name have nothing to do with one another.
use Rattle.std.proofs.Common.{◌≡◌, ◌≢◌, ℕ, suc, ◌<◌, Bool, true, false, List, [], map, length, get_or, sym, ◌∙◌, subst, arith}
use Rattle.std.specs.List.{list_any}
use Rattle.std.specs.Str.{bytes_eq}
use Rattle.std.proofs.lemmas.List.{get_or-map, length-map}
use Rattle.std.proofs.lemmas.List.Folds.{list_any_at}
use Rattle.std.proofs.lemmas.Slice.Eq.{bytes_eq-Decides}
use Rattle.dl_disk.specs.Files.{Files}
use Rattle.payload_files.specs.Names.{name_of}
use Rattle.payload_files.specs.Payload.{HasFiles}
use Rattle.span_map.specs.declared.files.FileLen.{FileLen}
use Rattle.control_file.specs.declared.want.Want.{Want}
use Rattle.resume_core.specs.Resume.{Sound, Agrees, GiveSame}
use Rattle.resume_core.specs.Steps.{IsBeside, SameBesides, SameFor}
use Rattle.resume_core.specs.Wants.{control_name}
use Rattle.resume_core.proofs.Filed.{files_same}
use Rattle.resume_core.proofs.Fitted.{has_same}
use Rattle.resume_core.proofs.Same.{give_same, sound_same, agrees_same, agrees_seen}
use Rattle.resume_core.specs.Sharing.{names_of_want, share_names}
use Rattle.durable_progress.specs.SharingLaws.{ChangesBeside}

true_not_false : {P : Type 0} (a : Bool) → a ≡ true → a ≡ false → P
true_not_false true h i = absurd cc
true_not_false false h i = absurd cc

-- the name of a file
abbrev file_name : Want → FileLen → List ℕ
file_name want file = name_of want.dir file.path

-- no name of one is a name of the other
apart : (want other : Want) (i j : ℕ) (d e : List ℕ) → share_names want other ≡ false
    → i < length (names_of_want want) → j < length (names_of_want other)
    → get_or (names_of_want want) i d ≢ get_or (names_of_want other) j e
apart want other i j d e none wi wj same =
    let ours = names_of_want want in
    let theirs = names_of_want other in
    let equal : bytes_eq (get_or ours i d) (get_or theirs j e) ≡ true = (bytes_eq-Decides _ _).1 same in
    true_not_false (share_names want other)
    (list_any_at (λ name. list_any (bytes_eq name) theirs) ours i d wi
    (list_any_at (bytes_eq (get_or ours i d)) theirs j e wj equal)) none

module _ (want other : Want) (none : share_names want other ≡ false) where
  -- so a name of the other is none of this one's
  beside_at : (j : ℕ) (e : List ℕ) → j < length (names_of_want other) → IsBeside want (get_or (names_of_want other) j e)
  beside_at j e within = record {
    files = λ k file inside same.
        let files = map (file_name want) want.layout in
        let size : length files ≡ length want.layout = length-map want.layout (file_name want) in
        apart want other (suc (suc k)) j [] e none (omega (arith, inside, size)) within
        (get_or-map (file_name want) want.layout k file [] inside ∙ same);
    control = λ same. apart want other 0 j [] e none (omega arith) within (sym same);
    temporary = λ same. apart want other 1 j [] e none (omega arith) within (sym same);
  }

  module _ (old new : Files) (besides : SameBesides want old new) where
    control_stays : new (control_name other) ≡ old (control_name other)
    control_stays = besides (control_name other) (beside_at 0 [] (omega arith))

    file_stays : (k : ℕ) (file : FileLen) → k < length other.layout
        → new (file_name other (get_or other.layout k file)) ≡ old (file_name other (get_or other.layout k file))
    file_stays k file within =
        let files = map (file_name other) other.layout in
        let size : length files ≡ length other.layout = length-map other.layout (file_name other) in
        let is : get_or files k [] ≡ file_name other (get_or other.layout k file) =
        get_or-map (file_name other) other.layout k file [] within in
        besides _ (subst (IsBeside want) is (beside_at (suc (suc k)) [] (omega (arith, within, size))))

    pub stays : SameFor other old new
    stays = record { control = control_stays; files = files_same other new old (λ k d within. file_stays k d within) }

module _ (want other : Want) (old new : Files) (changes : ChangesBeside want other old new) where
  same : SameFor other old new
  same = stays want other changes.apart old new changes.besides

  pub lengths_stay : HasFiles other.dir other.layout old → HasFiles other.dir other.layout new
  lengths_stay = has_same other old new same.files

  pub gives_same : GiveSame other old new
  gives_same = give_same other old new same

  pub sound_stays : Sound other old → Sound other new
  sound_stays = sound_same other old new same

pub agrees_stays : (want other : Want) (was now old new : Files) → ChangesBeside want other was now
    → ChangesBeside want other old new → Agrees other was old → Agrees other now new
agrees_stays want other was now old new reads images agrees =
    let seen = stays want other reads.apart was now reads.besides in
    agrees_same other now old new (stays want other images.apart old new images.besides)
    (agrees_seen other was now old seen.files agrees)
