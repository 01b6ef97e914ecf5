use Rattle.std.proofs.Common.{◌∙◌, List, Bool, true, length, sym, ap, arith}
use Rattle.std.proofs.lemmas.List.{length-set}
use Rattle.std.proofs.lemmas.Bool.{false≢true}
use Rattle.payload_files.specs.Names.{IsOther}
use Rattle.resume_core.specs.Openings.{MatchesPiece}
use Rattle.resume_core.specs.Wants.{files_in}
use Rattle.resume_core.proofs.Moved.{store_cause_moved}
use Rattle.resume_core.proofs.Filed.{files_kept}
use Rattle.resume_core.proofs.Past.{past_on}
use Rattle.resume_core.proofs.Places.{row_on, row_past}
use Rattle.resume_core.proofs.Surveys.{lens_same}
use Rattle.resume_core.proofs.matching.matching_pieces.Goals as goal
use Rattle.resume_core.proofs.matching.matching_pieces.Goals.{then-branch, else-branch}

pub is_matching-requires-clause-lens : goal.is_matching-requires-clause-lens
is_matching-requires-clause-lens g c told =
    let d = g.D.Disk in
    c.requires.lens told
    ∙ lens_same c.args.want.now.dir c.args.want.now.layout (d.state c.args.disk.now).seen
    (d.state c.loop-piece.disk).seen
    (c.loop-piece.invariant.looks told).stays.seen

pub returns-in_err-is_matching-clause-looks : goal.returns-in_err-is_matching-clause-looks
returns-in_err-is_matching-clause-looks g c told =
    let d = g.D.Disk in
    past_on (IsOther c.args.want.now.dir c.args.want.now.layout) (d.state c.args.disk.now) (d.state c.loop-piece.disk)
    (d.state c.is_matching.new.disk) (c.loop-piece.invariant.looks told) (c.is_matching.ensures.looks told)

pub loop-piece-preserved : goal.loop-piece-preserved
loop-piece-preserved g c =
    let d = g.D.Disk in
    let want = c.args.want.now in
    let start = (d.state c.args.disk.now).seen in
    let middle = (d.state c.loop-piece.disk).seen in
    let at = MatchesPiece want (files_in want start) in
    elim c.if-branch.branch [
      | then-branch w ↦ record {
        len = ap (λ (r : List Bool). length r) (w.row-is ∙ w.set.ensures)
            ∙ length-set c.loop-piece.row c.loop-piece.piece true ∙ c.loop-piece.invariant.len;
        exact = λ told. (row_on c.loop-piece.row c.if-branch.row c.loop-piece.piece at
            (c.loop-piece.invariant.exact told)
            (omega (arith, c.loop-piece-test.true, c.loop-piece.invariant.len))
            (rw (sym (files_kept want start middle (c.loop-piece.invariant.looks told).stays.seen))
            ((c.in_ok-is_matching.ensures.matches told).0 w.if-branch.true)) (w.row-is ∙ w.set.ensures)).1;
        looks = λ told. past_on (IsOther want.dir want.layout) (d.state c.args.disk.now) (d.state c.loop-piece.disk)
            (d.state c.is_matching.new.disk) (c.loop-piece.invariant.looks told) (c.is_matching.ensures.looks told);
        faults = c.in_ok-is_matching.ensures.cause.done ∙ c.loop-piece.invariant.faults;
      }
      | else-branch w ↦ record {
        len = ap (λ (r : List Bool). length r) w.row-is ∙ c.loop-piece.invariant.len;
        exact = λ told. (row_past c.loop-piece.row c.if-branch.row c.loop-piece.piece at
            (c.loop-piece.invariant.exact told)
            (λ is. false≢true (sym w.if-branch.false ∙ (c.in_ok-is_matching.ensures.matches told).1
            (rw (files_kept want start middle (c.loop-piece.invariant.looks told).stays.seen) is))) w.row-is).1;
        looks = λ told. past_on (IsOther want.dir want.layout) (d.state c.args.disk.now) (d.state c.loop-piece.disk)
            (d.state c.is_matching.new.disk) (c.loop-piece.invariant.looks told) (c.is_matching.ensures.looks told);
        faults = c.in_ok-is_matching.ensures.cause.done ∙ c.loop-piece.invariant.faults;
      }
    ]

pub returns-in_err-is_matching-clause-cause : goal.returns-in_err-is_matching-clause-cause
returns-in_err-is_matching-clause-cause g c =
    store_cause_moved _ _ _ c.in_err-is_matching.field-0.0 c.from_residual-in_err-is_matching.result
    c.in_err-is_matching.ensures.cause c.loop-piece.invariant.faults c.from_residual-in_err-is_matching.ensures.1
