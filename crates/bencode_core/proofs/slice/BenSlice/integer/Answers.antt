use Rattle.std.proofs.Common.{◌≡◌, ℤ, List, ℕ, [], Option, Some, None, ◌∙◌, ap, sym}
use Rattle.bencode_core.specs.Placed.{integer_of}
use Rattle.bencode_core.proofs.Numbers.{some_is}
use Rattle.bencode_core.proofs.Sliced.{sliced, slice_integer}
use Rattle.bencode_core.proofs.slice.BenSlice.integer.Goals as goal

pub returns-in_err-integer_at-in-Integer : goal.returns-in_err-integer_at-in-Integer
returns-in_err-integer_at-in-Integer c =
    let bad : ◌≡◌ {A = Option (Option ℤ × List ℕ)} None (Some (integer_of c.args.self.now.value, [])) = c.in_err-integer_at-in-Integer.ensures ∙ slice_integer c.args.self.now.value c.self.inside.bytes.now (sliced c.self.inside.place c.self.inside.bytes.now c.args.self.now c.self.invariant c.self.view_is) (sym c.in-Integer.ensures) in
    absurd cc

pub returns-in_ok-integer_at-in-Integer : goal.returns-in_ok-integer_at-in-Integer
returns-in_ok-integer_at-in-Integer c =
    ap (λ (n : Option ℤ × List ℕ). n.0) (some_is _ _ (c.in_ok-integer_at-in-Integer.ensures ∙ slice_integer c.args.self.now.value c.self.inside.bytes.now (sliced c.self.inside.place c.self.inside.bytes.now c.args.self.now c.self.invariant c.self.view_is) (sym c.in-Integer.ensures)))
