use Rattle.link_source.proofs.Numbers.{no_number}
use Rattle.link_source.proofs.requests.split_number.Goals as goal

pub returns-in_err-number : goal.returns-in_err-number
returns-in_err-number c = rw c.from_residual-in_err-number.ensures (no_number _ _ _ _ c.requires c.in_ok-front.ensures.0 c.in_ok-front.ensures.1 c.in_err-number.ensures)
