use Rattle.std.proofs.Common.{◌≡◌, ◌∙◌, ℕ, zero, suc, Bool, true, false, List, replicate, length, [], Some, None, sym, ap, subst, slice_get, arith}
use Rattle.std.proofs.lemmas.Option.{slice_get_past}
use Rattle.std.proofs.lemmas.List.{length-replicate}
use Rattle.tests_claims.proofs.rig.bare.Goals as goal

none_true : (n i : ℕ) → slice_get (replicate n false) i ≡ Some true → ⊥
none_true zero i is = let e : None ≡ Some true = sym (slice_get_past [] i (omega arith)) ∙ is in cc
none_true (suc n) zero is = let e : Some false ≡ Some true = is in cc
none_true (suc n) (suc i) is = none_true n i is

pub new-requires-3 : goal.new-requires-3
new-requires-3 c = record {
  pieces = ap length c.in_ok-verified.ensures ∙ length-replicate c.args.plan.pieces false ∙ c.args.plan.pieces_are;
  blocks = ap length c.in_ok-blocks.ensures ∙ length-replicate c.blocks-2.result false ∙ c.blocks-2.ensures.value;
  full = λ piece is. absurd (none_true c.args.plan.pieces piece (subst (λ (row : List Bool). slice_get row piece ≡ Some true) c.in_ok-verified.ensures is));
}
