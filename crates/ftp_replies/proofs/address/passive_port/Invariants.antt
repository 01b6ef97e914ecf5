use Rattle.std.proofs.Common.{ℕ, ◌<◌, drop}
use Rattle.ftp_replies.specs.Addresses.{IsAddress}
use Rattle.ftp_replies.proofs.address.passive_port.Given as goal

abbrev pub invariant-loop-at : goal.invariant-loop-at
invariant-loop-at l = (place : ℕ) → place < l.at → (high low : ℕ) → IsAddress (drop place l.line) high low → ⊥
