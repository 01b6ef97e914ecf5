use Rattle.std.proofs.Common.{◌∷◌, ◌≡◌, ◌<◌, List, ℕ, zero, suc, refl, sym, ap, ◌∙◌, map, length, take, arith}
use Rattle.metainfo.specs.Kept.{kept_part}
use Rattle.std.proofs.lemmas.Bool.{eqb-true, eqb-false}
use Rattle.std.proofs.Math.Seq.{take-length}
use Rattle.metainfo.specs.Rules.{strings_among}
use Rattle.metainfo.proofs.Steps.{part_more, no_string, short_path, no_short_path}
use Rattle.metainfo.proofs.files.path_of.Goals as goal
use Rattle.metainfo.proofs.files.path_of.Goals.{in-Some+in_ok-kept_text+in_ok-push-2, in_default, then-is_empty-via-then-is_empty, then-is_empty-via-else-is_empty+then-items-ge-MAX_PARTS}

above_zero : (n : ℕ) → (n ≡ 0 → ⊥) → 0 < n
above_zero zero some = absurd (some refl)
above_zero (suc n) some = omega arith

pub loop-item-preserved : goal.loop-item-preserved
loop-item-preserved c =
    elim c.match-string.branch [
      | in-Some+in_ok-kept_text+in_ok-push-2 w ↦
          rw (w.path-is, w.in_ok-push-2.ensures.ok, w.in_ok-kept_text.ensures, c.loop-item.invariant)
          (part_more c.args.name.now c.args.items.now c.loop-item.item-index c.item-item.result w.in-Some.part.now c.loop-item-test.true c.item-item.is (sym w.in-Some.ensures))
      | in_default w ↦
          rw w.path-is
          (c.loop-item.invariant
          ∙ ap (λ (l : List (List ℕ)). c.args.name.now ∷ map kept_part l) (sym (no_string c.args.items.now c.loop-item.item-index c.item-item.result c.loop-item-test.true c.item-item.is (sym w.in_default.ensures))))
    ]

pub returns-then-is_empty : goal.returns-then-is_empty
returns-then-is_empty c =
    c.new-path.ensures
    ∙ no_short_path c.args.name.now c.args.items.now c.requires.strings (λ some.
    elim c.then-is_empty.branch [
      | then-is_empty-via-then-is_empty w ↦ omega (arith, some, eqb-true (length c.args.items.now) 0 (sym c.is_empty.ensures ∙ w.if-is_empty.true))
      | then-is_empty-via-else-is_empty+then-items-ge-MAX_PARTS w ↦ omega (arith, w.if-items-ge-MAX_PARTS.true)
    ])

pub returns : goal.returns
returns c =
    let read : c.loop-item.item-index ≡ length c.args.items.now = omega arith in
    let some = eqb-false (length c.args.items.now) 0 (sym c.is_empty.ensures ∙ c.if-is_empty.false) in
    c.loop-item.invariant
    ∙ ap (λ (n : ℕ). c.args.name.now ∷ map kept_part (strings_among (take n c.args.items.now))) read
    ∙ ap (λ l. c.args.name.now ∷ map kept_part (strings_among l)) (take-length c.args.items.now)
    ∙ short_path c.args.name.now c.args.items.now c.requires.text c.requires.strings (above_zero (length c.args.items.now) some) (omega arith)
