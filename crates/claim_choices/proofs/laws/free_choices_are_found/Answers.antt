use Rattle.claim_choices.proofs.Choices.{block_choices_are_found, free_claims_are_found, probe_mirrors_are_found}
use Rattle.claim_choices.proofs.laws.free_choices_are_found.Goals as goal

pub returns : goal.returns
returns c = record {
  claims = free_claims_are_found;
  choices = block_choices_are_found;
  probes = probe_mirrors_are_found;
}
