use Rattle.std.proofs.Common.{true, false, ◌∙◌, sym, ap}
use Rattle.range_http.proofs.FramingLemmas.{length_framing-first}
use Rattle.range_http.specs.Range.{number_of}
use Rattle.range_http.proofs.framing.length_of.Goals as goal

pub returns-then-all_write : goal.returns-then-all_write
returns-then-all_write c =
    length_framing-first _ c.in-Some.first.now c.next.new.self c.in_ok-number.number true
    (sym c.get_all.ensures.value ∙ (sym c.iter-values.ensures ∙ c.in-Some.ensures.steps))
    (c.in_ok-number.ensures ∙ ap number_of c.as_bytes.ensures.value) c.if-all_write.ensures

pub returns-else-all_write : goal.returns-else-all_write
returns-else-all_write c =
    length_framing-first _ c.in-Some.first.now c.next.new.self c.in_ok-number.number false
    (sym c.get_all.ensures.value ∙ (sym c.iter-values.ensures ∙ c.in-Some.ensures.steps))
    (c.in_ok-number.ensures ∙ ap number_of c.as_bytes.ensures.value) c.if-all_write.ensures
