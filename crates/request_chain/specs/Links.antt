-- What a chain tells of its link.
use Rattle.std.specs.Prelude.{◌≡◌, ℕ}
use Rattle.dl_kinds.specs.Counts.{Rose}
use Rattle.reply_reader.specs.declared.loss.Loss.{Loss}
use Rattle.reply_reader.specs.declared.loss.Loss.TheVariants.{Link}

-- a loss by a failed link comes only where the count of faults rose, and has that count
abbrev pub CountsLinkLoss : ℕ → ℕ → Loss → Type 0
CountsLinkLoss before now loss = (count : ℕ) → loss ≡ Link count → Rose before now × (count ≡ now)
