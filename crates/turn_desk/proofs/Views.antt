-- A view among all that changes and has no turn.
use Rattle.std.proofs.Common.{◌≡◌, ℕ, ◌<◌, true, false, List, set, ap, sym, ◌∙◌, subst}
use mathlib.Core.Logic.{dite}
use mathlib.Core.Option.{some, none, some-injective, some-ne-none}
use mathlib.Core.Option as maybe
use native.Mathlib.Decide.{ℕ_discrete}
use lib.ListN.{get_elem?}
use Rattle.atomic_table.specs.Table.{State}
use Rattle.atomic_table.proofs.Lists.{set_here, set_else}
use Rattle.turn_desk.specs.declared.served.Served.{Ghosts as ServedSays}
use Rattle.turn_desk.specs.declared.turn.Turn.{Turn}
use Rattle.turn_desk.specs.declared.turn.Given.{Given}
use Rattle.turn_desk.specs.declared.rule.Slot.{Slot}
use Rattle.turn_desk.specs.declared.rule.SeatView.{SeatView}
use Rattle.turn_desk.specs.Rule.{HasNumber, LiesHome, IsRuled}
use Rattle.turn_desk.proofs.Places.{true_not_false, at_lt, each_set}

module _ {S T O A E : Type 0} (says : ServedSays S T O A E) (given : Given T E) (passes : ℕ) where
  abbrev V : Type 0
  V = SeatView T O A E

  abbrev Ts : Type 0
  Ts = List (Turn O A E)

  abbrev H : Type 0
  H = Slot S O A

  abbrev St : Type 0
  St = State H V

  abbrev R : St → Type 0
  R = IsRuled says given passes

  abbrev L : Ts → List V → maybe.Option H → Type 0
  L = LiesHome says given

  -- a view changes that has no turn before or after
  pub lies_still : (turns : Ts) (vs : List V) (id : ℕ) (v w : V) (h : maybe.Option H) → get_elem? vs id ≡ some v
      → v.has_turn ≡ false → w.has_turn ≡ false → L turns vs h → L turns (set vs id w) h
  lies_still turns vs id v w (some h) at f f' l =
      (l.0, each_set (λ _ d. d.has_turn ≡ false) vs id w f' (λ j d n e. l.1 j d e))
  lies_still turns vs id v w none at f f' l =
      dite (ℕ_discrete l.0 id)
      (λ e. true_not_false v.has_turn
      (subst (λ (d : V). d.has_turn ≡ true) (some-injective l.1 v (sym l.2 ∙ (ap (get_elem? vs) e ∙ at))) l.3) f)
      (λ n. (l.0, l.1, set_else vs id l.0 w n ∙ l.2, l.3))

  -- a view changes and has what it had
  pub had_still : (vs : List V) (id : ℕ) (v w : V) (owner : ℕ → ℕ) → get_elem? vs id ≡ some v
      → ((k : ℕ) → HasNumber k v → HasNumber k w)
      → ((k : ℕ) → k < passes → (d : V) × (get_elem? vs (owner k) ≡ some d) × HasNumber k d) → (k : ℕ) → k < passes
      → (d : V) × (get_elem? (set vs id w) (owner k) ≡ some d) × HasNumber k d
  had_still vs id v w owner at more had k lt =
      let o = had k lt in
      dite (ℕ_discrete (owner k) id)
      (λ e. (
        w,
        ap (get_elem? (set vs id w)) e
            ∙ set_here vs id w (at_lt vs id v at),
        more k (subst (HasNumber k) (some-injective o.0 v (sym o.1 ∙ (ap (get_elem? vs) e ∙ at))) o.2),
      ))
      (λ n. (o.0, set_else vs id (owner k) w n ∙ o.1, o.2))
