use Rattle.std.proofs.Common.{◌<◌, ◌≤◌, ℕ, take}
use Rattle.std.specs.Prelude.{IsTrue}
use Rattle.range_http.specs.EmptyLine.{ends_in_empty_line}
use Rattle.range_http.proofs.empty_line.has_empty_line.Given as goal

abbrev pub invariant-loop-last : goal.invariant-loop-last
invariant-loop-last l = (n : ℕ) → l.from < n → n ≤ l.last → IsTrue (ends_in_empty_line (take n l.bytes)) → ⊥
