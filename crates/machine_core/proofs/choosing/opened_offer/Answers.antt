use Rattle.std.proofs.Common.{ℕ, List, subst}
use Rattle.one_download.specs.Grants.{HasNoChoice, situation_with}
use Rattle.one_download.specs.declared.choices.Split.{Split}
use Rattle.machine_core.specs.KeptOffers.{split_by}
use Rattle.machine_core.proofs.Keeping.{none_opened}
use Rattle.machine_core.proofs.choosing.opened_offer.Goals as goal

pub returns-in-None-choice-clause-none : goal.returns-in-None-choice-clause-none
returns-in-None-choice-clause-none c =
    let x = c.args.entry.now in
    none_opened c.args.handed.now.pieces c.args.listed x c.args.now.0 c.in-None.ensures.none
    (subst (λ (hosts : List ℕ). HasNoChoice (situation_with x.state (split_by x.options) hosts) c.args.now.0) c.deref.ensures.value
    (subst (λ (split : Split). HasNoChoice (situation_with x.state split c.deref.result.now) c.args.now.0)
    c.split_of.ensures.value c.in-None-choice.ensures.none))
