use Rattle.std.proofs.Common.{◌≡◌, inl, inr, arith}
use Rattle.request_stream.proofs.HeadParts.{version_ended}
use Rattle.request_stream.proofs.parts.behind_version.Goals as goal

pub returns-then-byte-eq49 : goal.returns-then-byte-eq49
returns-then-byte-eq49 c = λ front len h.
    let seven : c.args.count ≡ 7 = omega (arith, h.0, c.requires) in
    elim c.if-byte-eq49.either [
      | inl zero ↦ version_ended front c.args.count c.args.byte 0 seven zero (omega arith) h.1
      | inr one ↦ version_ended front c.args.count c.args.byte 1 seven one.1 (omega arith) h.1
    ]
