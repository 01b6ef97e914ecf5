-- Which pieces of a metainfo file's payload are to come (aria2 manual, `--select-file`).
use Rattle.std.specs.Prelude.{◌≡◌, ◌<◌, ℕ, true, Contains, List, Some}
use Rattle.dl_kinds.specs.Plan.{piece_of, pieces_of}
use Rattle.dl_kinds.specs.declared.claims.Claim.{Claim}
use Rattle.dl_kinds.specs.declared.gid.Gid.{Gid}
use Rattle.file_choice.specs.Selected.{is_wanted_piece}
use Rattle.machine_core.specs.RunLegal.{IsLegal, download_in}
use Rattle.machine_core.specs.Starts.{Download, Listed, RunStart}
use Rattle.machine_core.specs.declared.events.Event.{Event}
use Rattle.machine_core.specs.declared.events.Event.TheVariants.{Claimed}
use Rattle.metainfo.specs.declared.meta.Meta.{Meta}
use Rattle.option_set.specs.Values.{OptionValues, text_of_word}
use Rattle.option_set.specs.declared.kinds.Word.TheVariants.{SelectFile}
use Rattle.piece_table.specs.Changes.{is_in}

-- the options choose the piece: it holds a byte of a file that they select
pub record IsChosenPiece (meta : Meta) (options : OptionValues) (piece : ℕ) : Type 0 where
  pub within : piece < pieces_of meta.plan.total meta.plan.piece_len
  pub wanted : is_wanted_piece meta.layout (text_of_word options SelectFile) meta.plan.total
      meta.plan.piece_len piece ≡ true

-- each block of a claim is of a piece that the download's options choose
abbrev pub ClaimsAreOfChosen : Type 0
ClaimsAreOfChosen =
    (start : RunStart) (past : List Event) (gid : Gid) (download : Download) (meta : Meta) (uris : List (List ℕ))
    → IsLegal start past → download_in start past gid ≡ Some download → download.subject ≡ Listed meta uris
    → (claim : Claim) → Contains past (Claimed gid claim)
    → (block : ℕ) → is_in block claim.run ≡ true
    → IsChosenPiece meta download.options (piece_of meta.plan.piece_len block)
