use Rattle.std.proofs.Common.{rules, None, ◌∙◌, sym}
use Rattle.std.specs.Ordering.{nat_cmp}
use Rattle.std.specs.Cmp.Lexicographic.{slice_cmp}
use Rattle.std.proofs.lemmas.Fn.{always_returns_same}
use Rattle.meta_v2.proofs.Keys.{no_text, text_there}
use Rattle.meta_v2.proofs.layers.layer_text.Goals as goal

pub returns-in-Ok : goal.returns-in-Ok
returns-in-Ok c =
    c.string.ensures
    ∙ sym (text_there None c.args.layers.now c.args.root.now c.in-Ok.place _ c.requires c.in-Ok.ensures.bound
    (c.in-Ok.ensures.position (λ m. slice_cmp nat_cmp m.0.now c.args.root.now) (always_returns_same _ _ _ (λ a r g called. search rules))
    c.index-layers-place.result))

pub returns-in-Err : goal.returns-in-Err
returns-in-Err c =
    sym (no_text None c.args.layers.now c.args.root.now c.in-Err.field-0 c.requires
    (c.in-Err.ensures.position (λ m. slice_cmp nat_cmp m.0.now c.args.root.now) (always_returns_same _ _ _ (λ a r g called. search rules))))
