use Rattle.part_fetches.proofs.Lengths.{fetched_fits, part_fits_own}
use Rattle.part_fetches.proofs.laws.fetched_bytes_fit_their_parts.Goals as goal

pub returns : goal.returns
returns c = record {
  fits = fetched_fits c.answers_fill_what_is_asked.ensures.fill c.fetched_bytes_fit_their_part.ensures;
  own = part_fits_own c.answers_fill_what_is_asked.ensures.fill c.fetched_bytes_fit_their_part.ensures;
}
