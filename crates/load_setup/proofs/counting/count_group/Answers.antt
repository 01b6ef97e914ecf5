use Rattle.std.proofs.Common.{◌∙◌, ◌+◌, ◌≤◌, List, ℕ, Bool, arith, length, ap, sym}
use Rattle.std.specs.List.{count_by}
use Rattle.verify_piece.specs.Checks.{comparisons}
use Rattle.load_setup.specs.Payload.{pieces_in}
use Rattle.load_setup.proofs.Groups.{group_right, part_long, pieces_long}
use Rattle.load_setup.proofs.counting.count_group.Goals as goal

pub check_all-requires-after_bounds : goal.check_all-requires-after_bounds
check_all-requires-after_bounds g c κs within =
    let inside : c.args.first + 16 ≤ length c.args.digests.now = omega (arith, c.requires.within, c.requires.all) in
    ap (λ (ds : List (List ℕ)). length ds) c.in_ok-group_of.ensures
    ∙ part_long c.args.digests.now c.args.first 16 inside
    ∙ sym (ap (λ (ps : List (List ℕ)). length ps) (c.deref.ensures.value ∙ c.in_ok-pieces.ensures) ∙ pieces_long c.args.payload.now c.args.first 16)

pub returns : goal.returns
returns g c =
    let digests = c.args.digests.now in
    let payload = c.args.payload.now in
    let first = c.args.first in
    let inside : first + 16 ≤ length digests = omega (arith, c.requires.within, c.requires.all) in
    c.count_true.ensures
    ∙ ap (λ (answers : List Bool). count_by (λ answer. answer) answers)
    (c.deref-2.ensures.value ∙ c.in_ok-answers.ensures
    ∙ ap (λ (ps : List (List ℕ)). comparisons ps c.in_ok-group_of.field-0) (c.deref.ensures.value ∙ c.in_ok-pieces.ensures)
    ∙ ap (λ (ds : List (List ℕ)). comparisons (pieces_in payload first 16) ds) c.in_ok-group_of.ensures)
    ∙ group_right digests payload first 16 inside
