use Rattle.console_session.proofs.Replying.{of_the_history}
use Rattle.console_session.proofs.laws.replies_are_of_the_history.Goals as goal

pub returns : goal.returns
returns g = of_the_history
