use Rattle.std.proofs.Common.{◌∙◌}
use Rattle.std.specs.Prelude.{option_copied}
use Rattle.link_source.proofs.Answering.{some_map, unknown_by}
use Rattle.link_source.proofs.mirrors.is_unknown.Goals as goal

pub returns : goal.returns
returns c =
    unknown_by c.args.mirrors.now c.args.host.now c.args.port (option_copied c.find_mirror.result) c.is_none.result
    (some_map (λ mirror. mirror.now) c.find_mirror.result ∙ c.is_none.ensures) c.find_mirror.ensures
