use Rattle.std.proofs.Common.{◌≡◌, ℕ, ◌<◌, true, get_or}
use Rattle.httparse.specs.Grammar.{is_token_byte}
use Rattle.http_heads.proofs.target.token_len.Given as goal

abbrev pub invariant-loop-len : goal.invariant-loop-len
invariant-loop-len l = (k : ℕ) → k < l.len → is_token_byte (get_or l.bytes k 0) ≡ true
