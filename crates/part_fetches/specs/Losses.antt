-- What a loss says of the parts that were asked for.
use Rattle.std.specs.Prelude.{◌≡◌, ℕ, List, []}
use Rattle.link_source.specs.Exchanges.{Exchange}
use Rattle.span_map.specs.declared.jobs.JobPart.{JobPart}
use Rattle.reply_reader.specs.declared.loss.Loss.{Loss}
use Rattle.reply_reader.specs.declared.loss.Loss.TheVariants.{Link, NoMemory}
use Rattle.request_chain.specs.Plans.{Open, Lost}
use Rattle.part_fetches.specs.Fetched.{Fetched}

-- what each loss says of the streams that were used, where so many faults of the link are counted now
abbrev pub TellsLoss : List JobPart → List Exchange → List ℕ → ℕ → Loss → Type 0
TellsLoss parts used bytes faults (Link count) = Fetched parts used bytes Open [] × (count ≡ faults)
TellsLoss parts used bytes faults NoMemory = Unit {0}
TellsLoss parts used bytes faults loss = Fetched parts used bytes (Lost loss) []
