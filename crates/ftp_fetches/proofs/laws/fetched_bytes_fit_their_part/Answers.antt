use Rattle.ftp_fetches.proofs.Fits.{fetched_fits}
use Rattle.ftp_fetches.proofs.laws.fetched_bytes_fit_their_part.Goals as goal

pub returns : goal.returns
returns c = fetched_fits
