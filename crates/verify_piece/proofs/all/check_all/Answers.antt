use Rattle.std.proofs.Common.{◌≡◌, ◌∙◌, length, arith}
use Rattle.verify_piece.proofs.Answers.{rewritten, are_comparisons}
use Rattle.verify_piece.proofs.all.check_all.Goals as goal

pub returns : goal.returns
returns g c =
    let many : length c.compare.new.answers ≡ c.in_ok-answers.answers.len = omega arith in
    let each : length c.compare.new.answers ≡ length c.args.pieces.now = omega (arith, c.in_ok-answers.ensures.len) in
    rewritten c.compare.new.answers c.in_ok-answers.answers.items c.in_ok-answers.answers.len many
    ∙ are_comparisons c.args.pieces.now c.args.digests.now c.compare.new.answers c.requires each c.compare.ensures
