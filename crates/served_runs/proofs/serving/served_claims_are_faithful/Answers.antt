use Rattle.served_runs.proofs.Faithful.{served_faithfully}
use Rattle.served_runs.proofs.Lengths.{lengths_right}
use Rattle.served_runs.proofs.Rightly.{ServingLaws}
use Rattle.served_runs.proofs.serving.served_claims_are_faithful.Goals as goal

pub returns : goal.returns
returns c =
    let laws : ServingLaws = record {
      comes = c.served_comes.ensures.comes;
      sizes = c.served_sizes_are_told.ensures.told;
      none = c.clean_mirrors_stay.ensures.none_used;
      keep = c.mirrors_hold_alike.ensures.kept;
      leads = c.mirrors_hold_alike.ensures.leads;
      lengths = c.mirrors_hold_alike.ensures.sizes;
      among = c.mirrors_hold_alike.ensures.among;
      given = c.parts_of_payloads_are_given.ensures.given;
      lead = c.parts_of_payloads_are_given.ensures.among;
    } in
    record {
      claims = served_faithfully laws c.downloads_stay.ensures.downloads c.downloads_stay.ensures.lengths
          c.plan_laws.ensures.follow c.claims_are_of_chosen_pieces.ensures;
      lengths = lengths_right laws c.downloads_stay.ensures.downloads c.downloads_stay.ensures.lengths;
    }
