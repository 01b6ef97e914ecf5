use Rattle.std.proofs.Common.{sym, ap, ◌∙◌}
use Rattle.std.specs.Prelude.{option_copied}
use Rattle.stored_run.proofs.Grants.{none_reads}
use Rattle.stored_run.proofs.jobs.text_at.Goals as goal

pub returns-in-None : goal.returns-in-None
returns-in-None c =
    sym (none_reads c.args.texts.now c.args.place (sym c.get.ensures ∙ ap option_copied c.in-None.is))
