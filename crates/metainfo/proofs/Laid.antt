-- What the layout answers is what rules 7 and 8 give.
use Rattle.std.proofs.Common.{◌≡◌, ℕ, List, map, Some, Ok, Err, Result, refl, sym, ap, ◌∙◌}
use Rattle.std.proofs.lemmas.Bool.{le-leb, lt-leb}
use Rattle.bencode_core.specs.Placed.{Placed}
use Rattle.span_map.specs.Layout.{IsLayout, IsRefused, total_of}
use Rattle.span_map.specs.declared.files.FileLen.{FileLen}
use Rattle.span_map.specs.declared.files.LayoutErr.TheVariants.{TooLong}
use Rattle.metainfo.specs.declared.refusals.Key.TheVariants.{Length}
use Rattle.metainfo.specs.declared.refusals.MetaErr.{MetaErr}
use Rattle.metainfo.specs.declared.refusals.MetaErr.TheVariants.{BadPath, TooLarge}
use Rattle.metainfo.specs.Kept.{kept_file, all_kept}
use Rattle.metainfo.specs.Refusals.{◌>>=◌}
use Rattle.metainfo.specs.Rules.{laid_out, paths_fit, sum_fits, files_in, layout_in}
use Rattle.metainfo.specs.Tests.{bad_file}
use Rattle.metainfo.proofs.Fitting.{good}
use Rattle.metainfo.proofs.Keeping.{kept_laid_out}

pub is_laid_out : (files : List FileLen) → IsLayout files → laid_out files ≡ Ok files
unfolding laid_out paths_fit sum_fits
is_laid_out files layout = rw (good files layout.paths, le-leb (total_of files) 4398046511104 layout.bounded) refl

pub bad_laid_out : (files : List FileLen) (i : ℕ) → bad_file files ≡ Some i → laid_out files ≡ Err (BadPath i)
unfolding laid_out paths_fit
bad_laid_out files i bad = rw bad refl

pub long_laid_out : (files : List FileLen) → IsRefused files TooLong → laid_out files ≡ Err (TooLarge Length)
unfolding laid_out paths_fit sum_fits
long_laid_out files refused = rw (good files refused.1, lt-leb (total_of files) 4398046511104 refused.2) refl

layout_by : (files : List FileLen) (read : Result (List FileLen) MetaErr) → all_kept read ≡ Ok files → (read >>= laid_out) ≡ laid_out files
layout_by files (Ok fs) is = let same : map kept_file fs ≡ files = cc in sym (kept_laid_out fs) ∙ ap laid_out same
layout_by files (Err e) is = cc

-- the files as they are kept have the layout
pub kept_layout : (name : List ℕ) (dict : Placed) (files : List FileLen) → all_kept (files_in name dict) ≡ Ok files → layout_in name dict ≡ laid_out files
unfolding layout_in
kept_layout name dict files is = layout_by files (files_in name dict) is
