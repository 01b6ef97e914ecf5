use Rattle.std.proofs.Common.{◌∙◌, ◌||◌, ℕ, List, sym, ap, get_or}
use Rattle.std.proofs.lemmas.List.Folds.{list_any_at, list_any_more}
use Rattle.std.proofs.lemmas.Option.{get_or_from_slice_get, slice_get_within}
use Rattle.std.specs.Prelude.{bytes_eq}
use Rattle.reply_values.proofs.members.has_text.Goals as goal

pub returns-then-eq : goal.returns-then-eq
returns-then-eq c =
    let texts = c.args.texts.now in
    let i = c.loop-place.place in
    let text = c.at.result.now in
    let is_name = λ (text : List ℕ). bytes_eq text c.args.name.now in
    sym (list_any_at is_name texts i text (slice_get_within texts i text c.at.ensures)
    (ap is_name (get_or_from_slice_get texts i text text c.at.ensures ∙ sym c.as_str.ensures) ∙ (sym c.eq.ensures ∙ c.if-eq.true)))

pub loop-place-preserved : goal.loop-place-preserved
loop-place-preserved c =
    let texts = c.args.texts.now in
    let i = c.loop-place.place in
    let text = c.at.result.now in
    let is_name = λ (text : List ℕ). bytes_eq text c.args.name.now in
    list_any_more is_name texts i text (slice_get_within texts i text c.at.ensures)
    ∙ (ap (λ b. b || is_name (get_or texts i text)) c.loop-place.invariant
    ∙ (ap is_name (get_or_from_slice_get texts i text text c.at.ensures ∙ sym c.as_str.ensures) ∙ (sym c.eq.ensures ∙ c.if-eq.false)))
