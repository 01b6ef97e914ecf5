use Rattle.dl_history.proofs.Unopened.{account_any}
use Rattle.dl_history.proofs.laws.unopened_accounts_are_alike.Goals as goal

pub returns : goal.returns
returns c = account_any
