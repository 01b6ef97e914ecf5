use Rattle.piece_table.proofs.Keeping.{kept_afresh}
use Rattle.piece_table.proofs.laws.kept_is_afresh.Goals as goal

pub returns : goal.returns
returns c = kept_afresh
