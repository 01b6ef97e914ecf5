use Rattle.range_http.proofs.RangeLemmas.{number_exact, range_exact}
use Rattle.range_http.proofs.laws.numbers_and_ranges_are_read.Goals as goal

pub returns : goal.returns
returns c = record { numbers = number_exact; ranges = range_exact }
