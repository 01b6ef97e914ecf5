use Rattle.console_http.proofs.Plain.{refused_over_http}
use Rattle.console_http.proofs.laws.upgrades_are_refused_over_http.Goals as goal

pub returns : goal.returns
returns g = refused_over_http
