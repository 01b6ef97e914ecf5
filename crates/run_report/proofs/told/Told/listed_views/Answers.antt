use Rattle.std.proofs.Common.{ℕ, ◌∙◌, ◌+◌, ◌<◌, ◌∷◌, ◌++◌, Bool, List, Option, [], ap, arith, get_or, length, sym, take}
use Rattle.std.specs.Prelude.{option_copied}
use Rattle.std.proofs.lemmas.List.FromFn.{get_or-map-range_with_len, length-map-range_with_len}
use Rattle.file_choice.specs.Selected.{is_selected}
use Rattle.option_set.specs.Values.{text_of_word}
use Rattle.option_set.specs.declared.kinds.Word.TheVariants.{SelectFile}
use Rattle.span_map.specs.Layout.{total_of}
use Rattle.span_map.specs.declared.files.FileLen.{FileLen}
use Rattle.run_report.specs.Files.{file_view, file_views_from}
use Rattle.run_report.specs.Told.{ToldView, facts_told}
use Rattle.run_report.specs.declared.views.FileView.{FileView}
use Rattle.run_report.proofs.FileLists.{selected_is, total_more, views_more}
use Rattle.run_report.proofs.told.Told.listed_views.Goals as goal

pub index-requires : goal.index-requires
index-requires c =
    let files = c.files-files.result.now in
    let long = ap (λ (bits : List Bool). length bits) c.in_ok-flags.ensures
    ∙ length-map-range_with_len (is_selected (option_copied c.text.result) (length files)) 1 (length files) in
    omega (arith, long, c.in_ok-flags.flags.ok.0)

pub file_view-requires-clause-selected : goal.file_view-requires-clause-selected
file_view-requires-clause-selected c =
    let files = c.files-files.result.now in
    let place = c.loop-place.place in
    let within : place < length files = omega arith in
    c.index.ensures
    ∙ (ap (λ (bits : List Bool). get_or bits place c.index.result.now) c.in_ok-flags.ensures
    ∙ (get_or-map-range_with_len (is_selected (option_copied c.text.result) (length files)) 1 (length files) place (place + 1)
    c.index.result.now within (omega arith)
    ∙ (ap (λ (text : Option (List ℕ)). is_selected text (length files) (place + 1))
    (c.text.ensures.value ∙ ap (λ (t : ToldView). text_of_word t.download.options SelectFile) c.self.view_is)
    ∙ (ap (λ (all : List FileLen). is_selected (text_of_word c.args.self.now.download.options SelectFile) (length all) (place + 1))
    c.files-files.ensures.value
    ∙ selected_is c.args.self.now.download c.args.self.now.download.subject c.args.meta.now (place + 1) c.requires))))

pub loop-place-preserved : goal.loop-place-preserved
loop-place-preserved c =
    let facts = facts_told c.args.self.now in
    let files = c.files-files.result.now in
    let place = c.loop-place.place in
    let file = c.index-files-place.result in
    let within : place < length files = omega arith in
    let before = file_views_from facts 0 0 (take place files) in
    let view = c.in_ok-view.ensures
    ∙ (ap (λ (first : ℕ). file_view facts place first file) c.loop-place.invariant.first
    ∙ ap (λ (f : FileLen). file_view facts place (total_of (take place files)) f) c.index-files-place.is) in
    record {
      views = c.in_ok-push.ensures.ok
          ∙ (ap (λ (views : List FileView). views ++ c.in_ok-view.view ∷ []) c.loop-place.invariant.views
          ∙ (ap (λ (v : FileView). before ++ v ∷ []) view ∙ sym (views_more facts files place file within)));
      first = ap (λ (first : ℕ). first + file.len) c.loop-place.invariant.first
          ∙ (ap (λ (f : FileLen). total_of (take place files) + f.len) c.index-files-place.is
          ∙ total_more files place file within);
    }
