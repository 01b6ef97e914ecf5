-- A history has one summary.
use Rattle.std.proofs.Common.{◌≡◌, ◌∙◌, ℕ, Bool, true, false, List, [], ◌∷◌, ◌++◌, ap, subst, sym, take}
use Rattle.std.specs.Prelude.{Some, slice_get}
use Rattle.dl_kinds.specs.declared.gid.Gid.{Gid}
use Rattle.machine_core.proofs.Sharing.{same_base}
use Rattle.machine_core.specs.FileNames.{folder_in}
use Rattle.machine_core.specs.Replays.{gids_in}
use Rattle.machine_core.specs.Starts.{Download, RunStart, Subject, Listed, Unlisted}
use Rattle.machine_core.specs.declared.events.Event.{Event}
use Rattle.payload_files.specs.Names.{name_of}
use Rattle.run_report.specs.Lines.{AreLines, IsDownloadLine, IsSummaryOf, fields_of, heading, line_with}
use Rattle.run_report.specs.Paths.{IsPathBy, IsPathOf, IsRootName}

-- ---- paths

roots_one : (download : Download) (one other : List ℕ) → IsRootName download one → IsRootName download other
    → one ≡ other
roots_one download one other a b =
    let same = same_base download download.subject a.base b.base a.named b.named in
    a.path_is ∙ ap (λ (base : List ℕ). name_of (folder_in download) (base ∷ [])) same ∙ sym b.path_is

paths_one : (download : Download) (subject : Subject) (known : Bool) (one other : List ℕ)
    → IsPathBy download subject known one → IsPathBy download subject known other → one ≡ other
paths_one download (Listed meta uris) known one other a b = roots_one download one other a b
paths_one download (Unlisted uris) true one other a b = roots_one download one other a b
paths_one download (Unlisted uris) false one other a b =
    let first : slice_get uris 0 ≡ Some one = a in
    let second : slice_get uris 0 ≡ Some other = b in
    cc (first, second)

-- ---- lines

lines_one : (start : RunStart) (past : List Event) (gid : Gid) (one other : List ℕ) → IsDownloadLine start past gid one
    → IsDownloadLine start past gid other → one ≡ other
lines_one start past gid one other a b =
    let first = a.added in
    let second = b.added in
    let same : b.download ≡ a.download = cc (first, second) in
    let path = paths_one a.download a.download.subject _ a.path b.path a.path_is
    (subst (λ (d : Download). IsPathOf d _ b.path) same b.path_is) in
    a.text ∙ ap (line_with gid (fields_of start past gid)) path ∙ sym b.text

texts_one : (start : RunStart) (past : List Event) (gids : List Gid) (one other : List ℕ)
    → AreLines start past gids one → AreLines start past gids other → one ≡ other
texts_one start past [] one other a b = a ∙ sym b
texts_one start past (gid ∷ gids) one other a b =
    let line = lines_one start past gid a.first b.first a.is_first b.is_first in
    let rest = texts_one start past gids a.rest b.rest a.is_rest b.is_rest in
    a.text_is ∙ ap (λ (l : List ℕ). l ++ a.rest) line ∙ ap (λ (r : List ℕ). b.first ++ r) rest ∙ sym b.text_is

pub summary_one : (start : RunStart) (past : List Event) (count : ℕ) (one other : List ℕ)
    → IsSummaryOf start past count one → IsSummaryOf start past count other → one ≡ other
summary_one start past count one other a b =
    a.text_is ∙ ap (λ (l : List ℕ). heading ++ l)
    (texts_one start past (take count (gids_in start past)) a.lines b.lines a.are b.are) ∙ sym b.text_is
