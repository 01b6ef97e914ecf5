use Rattle.std.proofs.Common.{inl, inr, refl, subst}
use Rattle.command_meanings.specs.Meanings.{HaveMeaning}
use Rattle.aria_top.proofs.Meant.{err_not_load, has_found, lacks_found, line_not_load, none_not_load}
use Rattle.aria_top.proofs.running.by_meaning.Goals as goal

pub returns-in-Ok-Some-Load : goal.returns-in-Ok-Some-Load
returns-in-Ok-Some-Load g c =
    let at = c.in-Ok-Some-Load in
    inl (
      at.n,
      subst (HaveMeaning _) at.field-0-0-is (has_found _ at.field-0 at.field-0-0 at.field-0-is at.ensures.means),
      c.load.ensures _ _,
    )

pub returns-in-Ok-Some-Download : goal.returns-in-Ok-Some-Download
returns-in-Ok-Some-Download g c =
    let at = c.in-Ok-Some-Download in
    inr (
      λ n ask. line_not_load _ at.field-0 at.field-0-0 at.line n at.is at.field-0-is at.field-0-0-is
          (c.meaning_of.ensures.load n ask),
      inr (inl c.download.ensures),
    )

pub returns-in-Ok-Some-Serve : goal.returns-in-Ok-Some-Serve
returns-in-Ok-Some-Serve g c =
    let at = c.in-Ok-Some-Serve in
    let meant = subst (HaveMeaning _) at.field-0-0-is (has_found _ at.field-0 at.field-0-0 at.field-0-is at.ensures.means) in
    inr (λ n ask. absurd (meant.alone.load n ask), inr (inr (inl (at.line, meant, c.serve.ensures _ _))))

pub returns-in-Ok-Some-Check : goal.returns-in-Ok-Some-Check
returns-in-Ok-Some-Check g c =
    let at = c.in-Ok-Some-Check in
    let meant = subst (HaveMeaning _) at.field-0-0-is (has_found _ at.field-0 at.field-0-0 at.field-0-is at.ensures.means) in
    inr (λ n ask. absurd (meant.alone.load n ask), inr (inr (inr (at.line, meant, c.check.ensures _ _))))

pub returns-in-Ok-None : goal.returns-in-Ok-None
returns-in-Ok-None g c =
    let at = c.in-Ok-None in
    inr (
      λ n ask. none_not_load _ at.field-0 n at.is at.field-0-is (c.meaning_of.ensures.load n ask),
      inl (c.refused.ensures _ _ (inl (refl, lacks_found _ at.field-0 at.field-0-is at.ensures.means))),
    )

pub returns-in-Err : goal.returns-in-Err
returns-in-Err g c =
    inr (λ n ask. err_not_load _ _ n c.in-Err.is (c.meaning_of.ensures.load n ask), inl (c.refused-in-Err.ensures _ _ (inr refl)))
