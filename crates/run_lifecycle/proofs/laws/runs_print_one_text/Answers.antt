use Rattle.run_lifecycle.proofs.Printed.{prints_text}
use Rattle.run_lifecycle.proofs.laws.runs_print_one_text.Goals as goal

pub returns : goal.returns
returns g c words gids doors disk out ended out' runs = prints_text runs
