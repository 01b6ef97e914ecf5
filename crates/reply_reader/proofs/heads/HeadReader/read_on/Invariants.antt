use Rattle.std.proofs.Common.{◌≡◌, ℕ, ◌-◌, List}
use Rattle.reply_reader.specs.Heads.{IsBehindInterims}
use Rattle.reply_reader.proofs.heads.HeadReader.read_on.Given as goal

abbrev pub invariant-turns : goal.invariant-turns
invariant-turns l = record {
  behind : (received : List ℕ) → IsBehindInterims received l.fn.self → IsBehindInterims received l.self;
  line : l.self.line ≡ l.fn.self.line;
}

abbrev pub decreases-turns : goal.decreases-turns
decreases-turns l = 8 - l.self.interims
