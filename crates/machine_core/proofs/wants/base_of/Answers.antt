use Rattle.std.proofs.Common.{◌∙◌, subst, sym}
use Rattle.std.proofs.lemmas.Option.{get_or_from_slice_get}
use Rattle.link_source.specs.Endpoint.{IsUsable}
use Rattle.machine_core.proofs.wants.base_of.Goals as goal

pub name_of_url-requires : goal.name_of_url-requires
name_of_url-requires c =
    subst IsUsable
    (get_or_from_slice_get c.args.uris.now 0 c.at.result.now c.at.result.now c.at.ensures ∙ sym c.as_str.ensures)
    (c.requires.usable 0 c.at.result.now c.requires.some)
