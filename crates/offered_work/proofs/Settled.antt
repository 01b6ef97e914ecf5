-- A full piece that isn't verified wasn't settled since its last landing, where each that is found wrong is cleared.
use Rattle.std.proofs.Common.{◌≡◌, ℕ, Bool, true, false, cond, List, [], ◌∷◌, refl, subst}
use Rattle.std.specs.Prelude.{◌&&◌, ◌||◌, ◌==◌, not}
use Rattle.std.specs.List.{list_any}
use Rattle.std.proofs.lemmas.Bool.{eq-eqb}
use Rattle.dl_kinds.specs.Plan.{piece_of}
use Rattle.dl_kinds.specs.declared.runs.Run.{Run}
use Rattle.piece_table.specs.Changes.{From, Absent, is_in, is_present}
use Rattle.piece_table.specs.declared.giver.Giver.{Giver}
use Rattle.dl_history.proofs.Bools.{not_true, true_not_false}
use Rattle.dl_history.proofs.Early.{early}
use Rattle.dl_history.proofs.Members.{has_any}
use Rattle.dl_history.proofs.Sole.{run_has}
use Rattle.dl_history.specs.OwnEvents.{Checks, Clears, Grants, Halts, Lands, Loses, Opens, OwnEvent, Saves, Settles, Sizes}
use Rattle.dl_history.specs.OwnLegal.{LegalOwn}
use Rattle.dl_history.specs.PayloadParts.{counts, is_alive, is_landed_in, is_run_on, is_settled_in, is_verified_in, lands_on, settles_piece, source_by}
use Rattle.dl_history.specs.StandingClaims.{blocks_in, since}
use Rattle.offered_work.proofs.Uncleared.{clears_piece, finds_wrong, is_uncleared}

module _ (total len p b : ℕ) (alive : ℕ → Bool) (here : piece_of len b ≡ p) where
  -- a block of the piece is landed, the piece isn't verified, and was cleared since it was last found wrong
  abbrev IsAnew : List OwnEvent → Type 0
  IsAnew own = is_present (source_by alive p b own) ≡ true → is_verified_in own p ≡ false → is_uncleared p own ≡ false
      → is_settled_in len own p ≡ true → ⊥

  landing_by : (id m : ℕ) (run : Run) (own : List OwnEvent) (t : Bool) → is_run_on len run p ≡ t → IsAnew own
      → is_present (source_by alive p b (Lands id m run ∷ own)) ≡ true → is_verified_in own p ≡ false
      → is_uncleared p own ≡ false
      → list_any (settles_piece p) (cond t [] (Lands id m run ∷ since (lands_on len p) own)) ≡ true → ⊥
  landing_by id m run own true is rest landed un cleared settled = absurd cc
  landing_by id m run own false is rest landed un cleared settled =
      let out : is_in b run ≡ false = not_true (is_in b run) (λ inside.
      true_not_false (is_run_on len run p)
      (has_any (λ (x : ℕ). piece_of len x == p) (blocks_in run) b (run_has run b inside)
      (eq-eqb (piece_of len b) p here)) is) in
      rest (subst (λ (t : Bool).
      is_present (cond (t && counts alive own p id) (From m) (source_by alive p b own)) ≡ true)
      out landed) un cleared settled

  settling_by : (q : ℕ) (right : Bool) (giver : Giver) (own : List OwnEvent) (t : Bool) → (q == p) ≡ t → IsAnew own
      → is_present (source_by alive p b own) ≡ true → (t && right || is_verified_in own p) ≡ false
      → (t && not right || is_uncleared p own) ≡ false → (t || is_settled_in len own p) ≡ true → ⊥
  settling_by q true giver own true is rest landed un cleared settled = absurd cc
  settling_by q false giver own true is rest landed un cleared settled = absurd cc
  settling_by q right giver own false is rest landed un cleared settled = rest landed un cleared settled

  clearing_by : (q : ℕ) (own : List OwnEvent) (t : Bool) → (q == p) ≡ t → IsAnew own
      → is_present (cond t Absent (source_by alive p b own)) ≡ true → is_verified_in own p ≡ false
      → list_any (finds_wrong p) (cond t [] (Clears q ∷ since (clears_piece p) own)) ≡ false
      → is_settled_in len own p ≡ true → ⊥
  clearing_by q own true is rest landed un cleared settled = absurd cc
  clearing_by q own false is rest landed un cleared settled = rest landed un cleared settled

  pub anew_by : (own : List OwnEvent) → LegalOwn total len own → IsAnew own
  anew_by [] legal landed un cleared settled = absurd cc
  anew_by (Opens verified blocks now ∷ own) legal landed un cleared settled =
      true_not_false (is_settled_in len own p) settled ((early total len own legal.0 legal.1.first).unsettled p)
  anew_by (Grants cl ∷ own) legal landed un cleared settled = anew_by own legal.0 landed un cleared settled
  anew_by (Lands id m run ∷ own) legal landed un cleared settled =
      landing_by id m run own (is_run_on len run p) refl (anew_by own legal.0) landed un cleared settled
  anew_by (Settles q right giver ∷ own) legal landed un cleared settled =
      settling_by q right giver own (q == p) refl (anew_by own legal.0) landed un cleared settled
  anew_by (Clears q ∷ own) legal landed un cleared settled =
      clearing_by q own (q == p) refl (anew_by own legal.0) landed un cleared settled
  anew_by (Loses c m q mark ∷ own) legal landed un cleared settled = anew_by own legal.0 landed un cleared settled
  anew_by (Sizes c told ∷ own) legal landed un cleared settled = anew_by own legal.0 landed un cleared settled
  anew_by (Saves now ∷ own) legal landed un cleared settled = anew_by own legal.0 landed un cleared settled
  anew_by (Checks right ∷ own) legal landed un cleared settled = anew_by own legal.0 landed un cleared settled
  anew_by (Halts ends ∷ own) legal landed un cleared settled = anew_by own legal.0 landed un cleared settled

pub anew : (total len p b : ℕ) (own : List OwnEvent) → LegalOwn total len own → piece_of len b ≡ p
    → is_landed_in len own b ≡ true → is_verified_in own p ≡ false → is_uncleared p own ≡ false
    → is_settled_in len own p ≡ false
anew total len p b own legal here landed un cleared =
    not_true (is_settled_in len own p) (λ settled.
    anew_by total len p b (is_alive own) here own legal
    (subst (λ (q : ℕ). is_present (source_by (is_alive own) q b own) ≡ true) here landed) un cleared settled)
