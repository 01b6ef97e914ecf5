use Rattle.std.proofs.Common.{◌≡◌, ◌<◌, ◌/◌, length, get_or, slice_get, arith, sym, ap, subst, ◌∙◌}
use Rattle.std.proofs.lemmas.List.{get_or_read}
use Rattle.bit_rows.proofs.Rows.{HasNone, none_is_true, none_is_false, passed_byte, length-row_of}
use Rattle.bit_rows.proofs.row.BitRow.others.Goals as goal
use Rattle.bit_rows.proofs.row.BitRow.others.Goals.{then-wanted, else-wanted}

pub returns-then-index-other-clause-passed : goal.returns-then-index-other-clause-passed
returns-then-index-other-clause-passed c = λ place from before is.
    let r = c.self.inside in
    let bytes = r.bytes.items in
    let long = length-row_of bytes r.len c.self.invariant.fits in
    let within : c.args.at / 8 < length bytes = omega (arith, ap length c.self.view_is, c.self.invariant.fits) in
    let byte : get_or bytes (c.args.at / 8) 0 ≡ c.if-wanted.other =
    sym (get_or_read bytes (c.args.at / 8) c.index.result.now within c.index.ensures 0) ∙ c.if-index-other.true in
    let none : HasNone (get_or bytes (c.args.at / 8) 0) c.args.wanted =
    elim c.if-wanted.branch [
      | then-wanted w ↦ subst (λ b. HasNone b c.args.wanted) (sym (byte ∙ w.other-is)) (subst (HasNone 0) (sym w.if-wanted.true) none_is_true)
      | else-wanted w ↦ subst (λ b. HasNone b c.args.wanted) (sym (byte ∙ w.other-is)) (subst (HasNone 255) (sym w.if-wanted.false) none_is_false)
    ] in
    passed_byte bytes r.len c.args.at place c.args.wanted c.self.invariant.fits c.if-at-eq0.true from before none (ap (λ row. slice_get row place) c.self.view_is ∙ is)
