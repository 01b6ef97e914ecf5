use Rattle.fetch_session.proofs.Stepping.{handed_front}
use Rattle.fetch_session.proofs.laws.handed_bytes_are_fetched.Goals as goal

pub returns : goal.returns
returns c = handed_front
