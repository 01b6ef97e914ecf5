use Rattle.std.proofs.Common.{arith, ◌≡◌, sym, ◌∙◌}
use Rattle.link_source.proofs.Reading.{asks_read, asks_spelled, one_request}
use Rattle.link_source.proofs.requests.read_request.Goals as goal
use Rattle.link_source.proofs.requests.read_request.Goals.{in_default-via-in-Some+else-split_request, in_default-via-in_default}

pub returns-in-Some : goal.returns-in-Some
returns-in-Some c =
    asks_read _ _ _ _ _ _ _ (c.as_bytes.ensures.value ∙ c.in_ok-between.ensures) c.in-Some.ensures.0 c.if-split_request.true c.in-Some.ensures.2

pub returns : goal.returns
returns c = λ target first last asks.
    let spelling = asks_spelled _ _ _ _ _ _ _ (c.as_bytes.ensures.value ∙ c.in_ok-between.ensures) asks in
    elim c.in_default.branch [
      | in_default-via-in-Some+else-split_request w ↦
          (let same = one_request _ _ _ _ _ _ _ w.in-Some.ensures.1 w.in-Some.ensures.2 (omega arith) asks.bounded (sym w.in-Some.ensures.0 ∙ spelling) in
          let firsts : w.in-Some.asked.first ≡ first = same.1 in
          let lasts : w.in-Some.asked.last ≡ last = same.2 in
          omega arith)
      | in_default-via-in_default w ↦ w.in_default.ensures target first last (omega arith) asks.bounded spelling
    ]
