-- What a finding leaves of the other pieces of a download.
use Rattle.std.proofs.Common.{◌≡◌, ◌≢◌, ℕ, Bool, true, List, ◌∷◌, refl, ap, ◌∙◌}
use Rattle.std.specs.Prelude.{◌&&◌, ◌||◌}
use Rattle.std.proofs.lemmas.Bool.{ne_eqb}
use Rattle.piece_table.specs.declared.giver.Giver.{Giver}
use Rattle.dl_history.specs.HistoryLaws.{IsFullIn}
use Rattle.dl_history.specs.OwnEvents.{OwnEvent, Settles}
use Rattle.dl_history.specs.PayloadParts.{is_settled_in, is_verified_in}

-- of a piece the one history says what the other does
pub record TellsSame (total len : ℕ) (was own : List OwnEvent) (p : ℕ) : Type 0 where
  pub full : IsFullIn total len own p → IsFullIn total len was p
  pub still : IsFullIn total len was p → IsFullIn total len own p
  pub verified : is_verified_in own p ≡ is_verified_in was p
  pub settled : is_settled_in len own p ≡ is_settled_in len was p

pub tells_itself : (total len : ℕ) (own : List OwnEvent) (p : ℕ) → TellsSame total len own own p
tells_itself total len own p = record { full = λ h. h; still = λ h. h; verified = refl; settled = refl }

pub tells_after : (total len : ℕ) (was own : List OwnEvent) (p q : ℕ) (giver : Giver) → p ≢ q
    → TellsSame total len was own q → TellsSame total len was (Settles p true giver ∷ own) q
tells_after total len was own p q giver apart is = record {
  full = λ h. is.full h;
  still = λ h. is.still h;
  verified = ap (λ (t : Bool). t && true || is_verified_in own q) (ne_eqb p q apart) ∙ is.verified;
  settled = ap (λ (t : Bool). t || is_settled_in len own q) (ne_eqb p q apart) ∙ is.settled;
}
