use Rattle.std.proofs.Common.{◌≡◌, ◌∙◌, ◌+◌, ◌<◌, ◌&&◌, ◌||◌, ℕ, Bool, true, false, Some, List, ap, sym, refl, arith, length, get_or, map, slice_get, take}
use Rattle.std.specs.Prelude.{option_copied}
use Rattle.std.specs.List.{range_with_len}
use Rattle.std.proofs.lemmas.Grind.{common_steps}
use Rattle.std.proofs.lemmas.List.{get_or_read, take_all}
use Rattle.std.proofs.lemmas.List.FromFn.{fill_by_all, get_or-map-range_with_len, length-map-range_with_len}
use Rattle.std.proofs.lemmas.Option.{get_or_from_slice_get}
use Rattle.dl_kinds.specs.Plan.{pieces_of}
use Rattle.bit_rows.specs.declared.row.BitRow.{BitRow}
use Rattle.span_map.specs.declared.files.FileLen.{FileLen}
use Rattle.file_choice.specs.Selected.{holds_byte_of, holds_selected, is_selected, is_wanted_piece}
use Rattle.file_choice.proofs.Held.{file_next, kept}
use Rattle.file_choice.proofs.pieces.wanted_row.Goals as goal
use Rattle.file_choice.proofs.pieces.wanted_row.Goals.{then-index, else-index}

pub index-requires : goal.index-requires
index-requires c =
    let files = c.files-files.result.now in
    let l = ap (λ (flags : List Bool). length flags) c.in_ok-flags.ensures
    ∙ length-map-range_with_len (is_selected (option_copied c.args.select) (length files)) 1 (length files) in
    omega (arith, l, c.loop-place-test.true)

pub loop-place-preserved : goal.loop-place-preserved
loop-place-preserved c =
    let plan = c.args.plan.now in
    let files = c.files-files.result.now in
    let select = is_selected (option_copied c.args.select) (length files) in
    let place = c.loop-place.place in
    let file = c.index-files-place.result in
    let flag : c.index.result.now ≡ select (1 + place) =
    get_or_read c.in_ok-flags.flags.items place c.index.result.now
    (let l = ap (λ (flags : List Bool). length flags) c.in_ok-flags.ensures ∙ length-map-range_with_len select 1 (length files) in omega (arith, l, c.loop-place-test.true))
    c.index.ensures false
    ∙ (ap (λ (flags : List Bool). get_or flags place false) c.in_ok-flags.ensures
    ∙ get_or-map-range_with_len select 1 (length files) place (1 + place) false c.loop-place-test.true refl) in
    let next = λ (new : List Bool) (value : Bool) (is : c.index.result.now ≡ value) (piece : ℕ) (below : piece < plan.pieces)
    (step : (was : Bool) → slice_get c.loop-place.row piece ≡ Some was
    → slice_get new piece ≡ Some (was || (value && holds_byte_of plan.total plan.piece_len piece c.loop-place.start file.len))).
    file_next plan.total plan.piece_len select c.loop-place.start place files file c.loop-place.row new
    c.loop-place-test.true c.index-files-place.is c.loop-place.invariant.start value (sym is ∙ flag) piece (c.loop-place.invariant.pieces piece below) step in
    elim c.if-index.branch [
      | then-index w ↦ record {
        start = grind (arith, common_steps, c.loop-place.invariant.start, c.index-files-place.is);
        long = ap (λ (row : BitRow). length row) w.row-is ∙ (w.mark.ensures.long ∙ c.loop-place.invariant.long);
        pieces = λ piece below. ap (λ (row : List Bool). slice_get row piece) w.row-is
            ∙ next w.mark.new.row true w.if-index.true piece below (λ was at. w.mark.ensures.each piece was at);
      }
      | else-index w ↦ record {
        start = grind (arith, common_steps, c.loop-place.invariant.start, c.index-files-place.is);
        long = ap (λ (row : BitRow). length row) w.row-is ∙ c.loop-place.invariant.long;
        pieces = λ piece below. ap (λ (row : List Bool). slice_get row piece) w.row-is
            ∙ next c.loop-place.row false w.if-index.false piece below
            (λ was at. kept c.loop-place.row piece (holds_byte_of plan.total plan.piece_len piece c.loop-place.start file.len) was at);
      }
    ]

pub returns : goal.returns
returns c =
    let plan = c.args.plan.now in
    let files = c.files-files.result.now in
    let all : take c.loop-place.place files ≡ files = take_all c.loop-place.place files c.loop-place-test.false in
    let each = λ (piece : ℕ) (below : piece < plan.pieces).
    get_or_from_slice_get c.loop-place.row piece _ false
    (c.loop-place.invariant.pieces piece below
    ∙ ap (λ (fs : List FileLen). Some (holds_selected plan.total plan.piece_len (is_selected (option_copied c.args.select) (length files)) piece 1 0 fs)) all) in
    fill_by_all (is_wanted_piece files (option_copied c.args.select) plan.total plan.piece_len) c.loop-place.row plan.pieces false
    c.loop-place.invariant.long each
    ∙ (ap (λ n. map (is_wanted_piece files (option_copied c.args.select) plan.total plan.piece_len) (range_with_len 0 n)) plan.pieces_are
    ∙ ap (λ (fs : List FileLen). map (is_wanted_piece fs (option_copied c.args.select) plan.total plan.piece_len) (range_with_len 0 (pieces_of plan.total plan.piece_len))) c.files-files.ensures.value)
