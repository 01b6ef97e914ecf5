-- The names that the wants of downloads share are those that the downloads share.
use Rattle.std.proofs.Common.{◌≡◌, ◌⊎◌, ◌∙◌, ℕ, zero, suc, true, Option, Some, None, ◌<◌, List, [], ◌∷◌, ◌++◌, inl, inr, ⊎_elim, length, get_or, refl, sym, ap, subst, arith}
use Rattle.std.specs.Prelude.{Any, Contains, codes, map}
use Rattle.std.specs.List.{list_any}
use Rattle.std.specs.Str.{bytes_eq}
use Rattle.std.proofs.lemmas.List.{get_or-map, length-map}
use Rattle.std.proofs.lemmas.List.Folds.{Any-from_list_any, list_any-from_Any}
use Rattle.std.proofs.lemmas.Option.{get_or_from_slice_get}
use Rattle.std.proofs.lemmas.Slice.Eq.{bytes_eq-Decides}
use Rattle.control_file.specs.declared.want.Want.{Want}
use Rattle.option_set.specs.Values.{text_of_word}
use Rattle.option_set.specs.declared.kinds.Word.TheVariants.{Out}
use Rattle.payload_files.specs.Names.{name_of}
use Rattle.resume_core.specs.Sharing.{names_of_want, share_names}
use Rattle.span_map.specs.Paths.{IsValidPart}
use Rattle.span_map.specs.declared.files.FileLen.{FileLen}
use Rattle.url_names.specs.UrlNames.{IsNameBy, IsNameOfUrl}
use Rattle.machine_core.specs.DownloadWants.{IsWantOf, files_of_subject}
use Rattle.machine_core.specs.FileNames.{IsFileName, IsPayloadName, IsUnlistedName, ShareName, WritesName, folder_in}
use Rattle.machine_core.specs.OwnParts.{PayloadLengths}
use Rattle.machine_core.specs.Starts.{Download, Subject, Listed, Unlisted}
use Rattle.machine_core.proofs.Lists.{element_at}

-- ---- a payload has one name

same_by_segment : (segment one other : List ℕ) → IsNameBy segment one → IsNameBy segment other → one ≡ other
same_by_segment segment one other a b =
    ⊎_elim
    (λ (x : IsValidPart segment × (one ≡ segment)).
    ⊎_elim
    (λ (y : IsValidPart segment × (other ≡ segment)). x.1 ∙ sym y.1)
    (λ (y : (IsValidPart segment → ⊥) × (other ≡ codes "index.html")). absurd (y.0 x.0)) b)
    (λ (x : (IsValidPart segment → ⊥) × (one ≡ codes "index.html")).
    ⊎_elim
    (λ (y : IsValidPart segment × (other ≡ segment)). absurd (x.0 y.0))
    (λ (y : (IsValidPart segment → ⊥) × (other ≡ codes "index.html")). x.1 ∙ sym y.1) b)
    a

same_by_url : (uri one other : List ℕ) → IsNameOfUrl uri one → IsNameOfUrl uri other → one ≡ other
same_by_url uri one other a b =
    let same : b.url ≡ a.url = let e = sym a.parsed ∙ b.parsed in cc in
    let named = rw same at b.named in
    same_by_segment _ one other a.named named

same_unlisted : (out : Option (List ℕ)) (uris : List (List ℕ)) (one other : List ℕ) → IsUnlistedName out uris one
    → IsUnlistedName out uris other → one ≡ other
same_unlisted (Some out) uris one other a b = a ∙ sym b
same_unlisted None [] one other a b = absurd a
same_unlisted None (uri ∷ uris) one other a b = same_by_url uri one other a b

pub same_base : (d : Download) (subject : Subject) (one other : List ℕ) → IsPayloadName d subject one
    → IsPayloadName d subject other → one ≡ other
same_base d (Listed meta uris) one other a b = a ∙ sym b
same_base d (Unlisted uris) one other a b = same_unlisted (text_of_word d.options Out) uris one other a b

-- ---- files

file_listed : (d : Download) (subject : Subject) (base name : List ℕ) (total : ℕ) → IsFileName d subject base name
    → Any (λ (file : FileLen). name ≡ name_of (folder_in d) file.path) (files_of_subject subject base total)
file_listed d (Listed meta uris) base name total is = is
file_listed d (Unlisted uris) base name total is =
    (0, record { path = base ∷ []; len = total }, omega arith, refl, is)

file_named : (d : Download) (subject : Subject) (base name : List ℕ) (total : ℕ)
    → Any (λ (file : FileLen). name ≡ name_of (folder_in d) file.path) (files_of_subject subject base total)
    → IsFileName d subject base name
file_named d (Listed meta uris) base name total any = any
file_named d (Unlisted uris) base name total (zero, file, within, there, is) =
    is ∙ ap (λ (f : FileLen). name_of (folder_in d) f.path) (sym there)
file_named d (Unlisted uris) base name total (suc k, file, within, there, is) = absurd (omega arith)

in_map : (f : FileLen → List ℕ) (files : List FileLen) (name : List ℕ) → Any (λ (file : FileLen). name ≡ f file) files
    → Contains (map f files) name
in_map f files name (k, file, within, there, is) =
    let long : length (map f files) ≡ length files = length-map files f in
    (k, omega arith, get_or-map f files k file name within ∙ (ap f there ∙ sym is))

of_map : (f : FileLen → List ℕ) (files : List FileLen) (name : List ℕ) → Contains (map f files) name
    → Any (λ (file : FileLen). name ≡ f file) files
of_map f files name (k, within, there) =
    let long : length (map f files) ≡ length files = length-map files f in
    let below : k < length files = omega arith in
    let file = element_at files k below in
    let read : get_or files k file.0 ≡ file.0 = get_or_from_slice_get files k file.0 file.0 file.1 in
    (k, file.0, below, read, sym there ∙ (get_or-map f files k file.0 name below ∙ ap f read))

-- ---- the names of a want

-- the control file, the temporary one, or a file
behind : {A : Type 0} (a b x : A) (xs : List A) → Contains xs x → Contains (a ∷ b ∷ xs) x
behind a b x xs (k, within, there) = (suc (suc k), omega arith, there)

abbrev payload_in : Download → List ℕ → List ℕ
payload_in d base = name_of (folder_in d) (base ∷ [])

abbrev IsNameIn : Download → List ℕ → List ℕ → Type 0
IsNameIn d base name =
    IsFileName d d.subject base name
    ⊎ (name ≡ payload_in d base ++ codes ".aria2")
    ⊎ (name ≡ payload_in d base ++ codes ".aria2__temp")

abbrev names_in : Download → List ℕ → ℕ → List (List ℕ)
names_in d base total =
    (payload_in d base ++ codes ".aria2") ∷ (payload_in d base ++ codes ".aria2__temp")
    ∷ map (λ (file : FileLen). name_of (folder_in d) file.path) (files_of_subject d.subject base total)

written : (d : Download) (base name : List ℕ) (total : ℕ) → IsNameIn d base name → Contains (names_in d base total) name
written d base name total is =
    ⊎_elim
    (λ (file : IsFileName d d.subject base name).
    behind _ _ name _ (in_map (λ (f : FileLen). name_of (folder_in d) f.path) (files_of_subject d.subject base total) name
    (file_listed d d.subject base name total file)))
    (λ (beside : (name ≡ payload_in d base ++ codes ".aria2") ⊎ (name ≡ payload_in d base ++ codes ".aria2__temp")).
    ⊎_elim
    (λ (control : name ≡ payload_in d base ++ codes ".aria2"). (zero, omega arith, sym control))
    (λ (temporary : name ≡ payload_in d base ++ codes ".aria2__temp"). (suc zero, omega arith, sym temporary)) beside)
    is

writes : (d : Download) (base name : List ℕ) (total : ℕ) → Contains (names_in d base total) name → IsNameIn d base name
writes d base name total (zero, within, there) = inr (inl (sym there))
writes d base name total (suc zero, within, there) = inr (inr (sym there))
writes d base name total (suc (suc k), within, there) =
    inl (file_named d d.subject base name total
    (of_map (λ (f : FileLen). name_of (folder_in d) f.path) (files_of_subject d.subject base total) name
    (k, omega arith, there)))

-- the names of the want of a download
names_are : (d : Download) (l : PayloadLengths) (want : Want) → IsWantOf d l want
    → names_in d want.base l.total ≡ names_of_want want
names_are d l want is =
    let P : List ℕ → List FileLen → List (List ℕ) = λ (dir : List ℕ) (files : List FileLen).
    (name_of dir (want.base ∷ []) ++ codes ".aria2") ∷ (name_of dir (want.base ∷ []) ++ codes ".aria2__temp")
    ∷ map (λ (file : FileLen). name_of dir file.path) files in
    ap (λ (dir : List ℕ). P dir (files_of_subject d.subject want.base l.total)) (sym is.dir) ∙ ap (P want.dir) (sym is.layout)

pub name_written : (d : Download) (l : PayloadLengths) (want : Want) → IsWantOf d l want → (name : List ℕ)
    → WritesName d name → Contains (names_of_want want) name
name_written d l want is name w =
    let same : w.base ≡ want.base = same_base d d.subject w.base want.base w.named is.base in
    subst (λ (names : List (List ℕ)). Contains names name) (names_are d l want is)
    (written d want.base name l.total (subst (λ (base : List ℕ). IsNameIn d base name) same w.is))

pub writes_name : (d : Download) (l : PayloadLengths) (want : Want) → IsWantOf d l want → (name : List ℕ)
    → Contains (names_of_want want) name → WritesName d name
writes_name d l want is name has =
    record {
      base = want.base;
      named = is.base;
      is = writes d want.base name l.total
          (subst (λ (names : List (List ℕ)). Contains names name) (sym (names_are d l want is)) has);
    }

-- ---- two downloads

pub wants_share : (d e : Download) (l m : PayloadLengths) (one other : Want) → IsWantOf d l one → IsWantOf e m other
    → ShareName d e → share_names one other ≡ true
wants_share d e l m one other is his share =
    let ours = name_written d l one is share.name share.first in
    let theirs = name_written e m other his share.name share.second in
    let there : list_any (bytes_eq share.name) (names_of_want other) ≡ true =
    list_any-from_Any (bytes_eq share.name) (names_of_want other)
    (theirs.0, share.name, theirs.1, theirs.2, (bytes_eq-Decides share.name share.name).1 refl) in
    list_any-from_Any (λ (name : List ℕ). list_any (bytes_eq name) (names_of_want other)) (names_of_want one)
    (ours.0, share.name, ours.1, ours.2, there)

pub share_by_wants : (d e : Download) (l m : PayloadLengths) (one other : Want) → IsWantOf d l one → IsWantOf e m other
    → share_names one other ≡ true → ShareName d e
share_by_wants d e l m one other is his shares =
    let ours = Any-from_list_any (λ (name : List ℕ). list_any (bytes_eq name) (names_of_want other)) (names_of_want one)
    shares in
    let theirs = Any-from_list_any (bytes_eq ours.1) (names_of_want other) ours.4 in
    let same : ours.1 ≡ theirs.1 = (bytes_eq-Decides ours.1 theirs.1).0 theirs.4 in
    record {
      name = ours.1;
      first = writes_name d l one is ours.1 (ours.0, ours.2, ours.3);
      second = subst (WritesName e) (sym same) (writes_name e m other his theirs.1 (theirs.0, theirs.2, theirs.3));
    }
