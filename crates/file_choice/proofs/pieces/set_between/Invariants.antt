use Rattle.file_choice.specs.Sweeps.{IsSetBetween}
use Rattle.file_choice.proofs.pieces.set_between.Given as goal

abbrev pub invariant-loop-place : goal.invariant-loop-place
invariant-loop-place l = IsSetBetween l.first l.place l.fn.row l.row
