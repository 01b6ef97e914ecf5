use Rattle.std.proofs.Common.{refl}
use Rattle.body_frames.specs.Lines.{line_text}
use Rattle.body_frames.proofs.line.OpenLine.new.Goals as goal

pub returns : goal.returns
unfolding line_text
returns c = record { len = refl; all = refl }
