use Rattle.std.proofs.Common.{◌≡◌, ◌<◌, length, drop, arith}
use Rattle.std.proofs.lemmas.List.{length-drop}
use Rattle.control_file.proofs.Steps.{control_is, control_wrong}
use Rattle.control_file.proofs.reading.read_all.Goals as goal

pub returns : goal.returns
returns c =
    let fields = c.read_progress.new.fields in
    let ended : length (drop fields.at fields.bytes.now) ≡ 0 =
    omega (arith, length-drop fields.at fields.bytes.now, c.if-fields.false) in
    control_is c.args.bytes.now _ _ _ _ _ _ _ _ _ _ c.in_ok-order.ensures c.in_ok-ext.ensures c.in_ok-plan.ensures
    c.in_ok-pieces.ensures ended

pub returns-then-fields : goal.returns-then-fields
returns-then-fields c =
    let fields = c.read_progress.new.fields in
    let more : 0 < length (drop fields.at fields.bytes.now) =
    omega (arith, length-drop fields.at fields.bytes.now, c.if-fields.true) in
    control_wrong c.args.bytes.now _ _ _ _ _ _ _ _ _ _ c.in_ok-order.ensures c.in_ok-ext.ensures c.in_ok-plan.ensures
    c.in_ok-pieces.ensures more
