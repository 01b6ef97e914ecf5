use Rattle.std.proofs.Common.{◌≡◌, List, ℕ, [], Option, Some, None, ◌∙◌, ap, sym}
use Rattle.bencode_core.proofs.Numbers.{some_is}
use Rattle.bencode_core.proofs.Sliced.{sliced, slice_string}
use Rattle.bencode_core.proofs.slice.BenSlice.string.Goals as goal

pub returns-in_err-string_at-in-String : goal.returns-in_err-string_at-in-String
returns-in_err-string_at-in-String c =
    let s = slice_string c.args.self.now.value c.self.inside.bytes.now (sliced c.self.inside.place c.self.inside.bytes.now c.args.self.now c.self.invariant c.self.view_is) (sym c.in-String.ensures) in
    let bad : ◌≡◌ {A = Option (List ℕ × List ℕ)} None (Some (s.0, [])) = c.in_err-string_at-in-String.ensures ∙ s.2 in
    absurd cc

pub returns-in_ok-string_at-in-String : goal.returns-in_ok-string_at-in-String
returns-in_ok-string_at-in-String c =
    let s = slice_string c.args.self.now.value c.self.inside.bytes.now (sliced c.self.inside.place c.self.inside.bytes.now c.args.self.now c.self.invariant c.self.view_is) (sym c.in-String.ensures) in
    ap (λ (n : List ℕ × List ℕ). Some n.0) (some_is _ _ (c.in_ok-string_at-in-String.ensures ∙ s.2)) ∙ sym s.1
