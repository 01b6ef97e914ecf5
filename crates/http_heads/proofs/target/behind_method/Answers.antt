use Rattle.std.proofs.Common.{ℕ, List, ◌+◌, arith, sym, subst}
use Rattle.httparse.specs.Pieces.{Method}
use Rattle.http_heads.proofs.TargetLemmas.{method_at, no_method, whole_rest}
use Rattle.http_heads.proofs.target.behind_method.Goals as goal
use Rattle.http_heads.proofs.target.behind_method.Goals.{else-len-gt0-via-then-len-gt0+then-len-bytes+else-bytes-len-eq32, else-len-gt0-via-then-len-gt0+else-len-bytes, else-len-gt0-via-else-len-gt0}

pub returns-then-bytes-len-eq32-clause-some : goal.returns-then-bytes-len-eq32-clause-some
returns-then-bytes-len-eq32-clause-some c =
    let bytes = c.args.bytes.now in
    let len = c.token_len-len.result in
    let P : List ℕ → Type 0 = λ rest. (method : List ℕ) × Method method bytes rest in
    subst P (sym (whole_rest bytes (len + 1)))
    (method_at bytes len c.token_len-len.ensures c.if-len-gt0.true c.if-len-bytes.true c.if-bytes-len-eq32.true)

pub returns-else-len-gt0-clause-none : goal.returns-else-len-gt0-clause-none
returns-else-len-gt0-clause-none c =
    no_method c.args.bytes.now c.token_len-len.result c.token_len-len.ensures λ some inside space.
    elim c.else-len-gt0.branch [
      | else-len-gt0-via-then-len-gt0+then-len-bytes+else-bytes-len-eq32 w ↦ w.if-bytes-len-eq32.false space
      | else-len-gt0-via-then-len-gt0+else-len-bytes w ↦ omega (arith, inside, w.if-len-bytes.false)
      | else-len-gt0-via-else-len-gt0 w ↦ omega (arith, some, w.if-len-gt0.false)
    ]
