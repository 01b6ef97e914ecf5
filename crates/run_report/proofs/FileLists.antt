-- The files of a payload, one more.
use Rattle.std.proofs.Common.{◌≡◌, ◌∙◌, ℕ, Some, None, ◌+◌, ◌<◌, List, [], ◌∷◌, ◌++◌, length, get_or, take, sym, ap, arith}
use Rattle.std.proofs.lemmas.List.{length-take-le, take_more}
use Rattle.std.proofs.lemmas.List.Sums.{sum_by-cons, sum_by_more}
use Rattle.std.proofs.lemmas.Option.{same_Some}
use Rattle.file_choice.specs.Selected.{is_selected}
use Rattle.machine_core.specs.Openings.{meta_of_subject}
use Rattle.machine_core.specs.Starts.{Download, Subject, Listed, Unlisted}
use Rattle.metainfo.specs.declared.meta.Meta.{Meta}
use Rattle.option_set.specs.Values.{text_of_word}
use Rattle.option_set.specs.declared.kinds.Word.TheVariants.{SelectFile}
use Rattle.span_map.specs.Layout.{total_of}
use Rattle.span_map.specs.declared.files.FileLen.{FileLen}
use Rattle.run_report.specs.Files.{FileFacts, file_view, file_views_from, is_file_selected}
use Rattle.run_report.specs.declared.views.FileView.{FileView}

views_push : (facts : FileFacts) (place first : ℕ) (files : List FileLen) (file : FileLen)
    → file_views_from facts place first (files ++ file ∷ [])
    ≡ file_views_from facts place first files
    ++ file_view facts (place + length files) (first + total_of files) file ∷ []
views_push facts place first [] file =
    ap (λ (p : ℕ). file_view facts p first file ∷ []) (let e : place ≡ place + 0 = omega arith in e)
    ∙ ap (λ (f : ℕ). file_view facts (place + 0) f file ∷ []) (let e : first ≡ first + 0 = omega arith in e)
views_push facts place first (one ∷ files) file =
    let total : total_of (one ∷ files) ≡ one.len + total_of files = sum_by-cons (λ (f : FileLen). f.len) one files in
    ap (λ (views : List FileView). file_view facts place first one ∷ views)
    (views_push facts (place + 1) (first + one.len) files file
    ∙ ap (λ (p : ℕ). file_views_from facts (place + 1) (first + one.len) files
    ++ file_view facts p (first + one.len + total_of files) file ∷ [])
    (let e : place + 1 + length files ≡ place + length (one ∷ files) = omega arith in e)
    ∙ ap (λ (f : ℕ). file_views_from facts (place + 1) (first + one.len) files
    ++ file_view facts (place + length (one ∷ files)) f file ∷ [])
    (let e : first + one.len + total_of files ≡ first + total_of (one ∷ files) = omega arith in e))

pub views_more : (facts : FileFacts) (files : List FileLen) (i : ℕ) (d : FileLen) → i < length files
    → file_views_from facts 0 0 (take (i + 1) files)
    ≡ file_views_from facts 0 0 (take i files) ++ file_view facts i (total_of (take i files)) (get_or files i d) ∷ []
views_more facts files i d within =
    let long : length (take i files) ≡ i = length-take-le i files (omega arith) in
    ap (file_views_from facts 0 0) (take_more files i d within)
    ∙ (views_push facts 0 0 (take i files) (get_or files i d)
    ∙ ap (λ (p : ℕ). file_views_from facts 0 0 (take i files)
    ++ file_view facts p (0 + total_of (take i files)) (get_or files i d) ∷ [])
    (let e : 0 + length (take i files) ≡ i = omega arith in e)
    ∙ ap (λ (f : ℕ). file_views_from facts 0 0 (take i files) ++ file_view facts i f (get_or files i d) ∷ [])
    (let e : 0 + total_of (take i files) ≡ total_of (take i files) = omega arith in e))

-- ---- which are selected

pub selected_is : (d : Download) (s : Subject) (meta : Meta) (number : ℕ) → meta_of_subject s ≡ Some meta
    → is_selected (text_of_word d.options SelectFile) (length meta.layout) number ≡ is_file_selected d s number
selected_is d (Listed m uris) meta number is =
    ap (λ (x : Meta). is_selected (text_of_word d.options SelectFile) (length x.layout) number)
    (sym (same_Some m meta is))
selected_is d (Unlisted uris) meta number is = absurd (let e : None ≡ Some meta = is in cc)

pub total_more : (files : List FileLen) (i : ℕ) (d : FileLen) → i < length files
    → total_of (take i files) + (get_or files i d).len ≡ total_of (take (i + 1) files)
total_more files i d within = sym (sum_by_more (λ (f : FileLen). f.len) files i d within)
