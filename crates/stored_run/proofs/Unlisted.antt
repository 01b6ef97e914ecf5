-- A block that isn't landed is listed by no save.
use Rattle.std.proofs.Common.{◌≡◌, cond, ◌≢◌, ◌⊎◌, inl, inr, ⊎_elim, ℕ, ◌<◌, Bool, true, false, List, [], ◌∷◌, refl, sym, ap, ◌∙◌}
use Rattle.std.specs.Prelude.{◌&&◌, ◌||◌, not, slice_index_or}
use Rattle.std.proofs.lemmas.Bool.{cases_eq}
use Rattle.dl_kinds.specs.Plan.{IsPlan, blocks_of, piece_of}
use Rattle.dl_kinds.specs.PlanLaws.{BlocksAreOfPieces}
use Rattle.dl_kinds.specs.declared.runs.Moment.{Moment}
use Rattle.piece_table.specs.Changes.{Absent, Unknown, is_present}
use Rattle.piece_table.specs.Progress.{Progress}
use Rattle.piece_table.specs.declared.giver.Giver.{Giver}
use Rattle.dl_history.specs.AccountLaws.{AccountsMatchEvents}
use Rattle.dl_history.specs.HistoryLaws.{FindsWrong, HistoriesAreSound, IsFullIn}
use Rattle.dl_history.specs.Listings.{is_block_listed, last_listing}
use Rattle.dl_history.specs.OwnEvents.{OwnEvent, Opens, Grants, Lands, Settles, Clears, Loses, Sizes, Saves, Checks, Halts}
use Rattle.dl_history.specs.OwnLegal.{LegalOwn}
use Rattle.dl_history.specs.PayloadParts.{is_landed_in, is_opened, is_sole_in, is_verified_in, is_wrong_in}
use Rattle.dl_history.proofs.Below.{get_or-row_by}
use Rattle.dl_history.proofs.Bools.{and_left, true_not_false}

listed_so : (landed verified sole wrong : Bool) → landed ≡ true → sole ≡ false → wrong ≡ false
    → (is_present (cond landed Unknown Absent) && (verified || not sole && not wrong)) ≡ true
listed_so true true sole wrong h i j = refl
listed_so true false false false h i j = refl
listed_so true false true wrong h i j = absurd cc
listed_so true false false true h i j = absurd cc
listed_so false verified sole wrong h i j = absurd cc

module _ (sound : HistoriesAreSound) (accounts : AccountsMatchEvents) (of_pieces : BlocksAreOfPieces) (total len b : ℕ)
    (plan : IsPlan total len) (below : b < blocks_of total len) where
  -- a save would list the block, or its piece is full
  abbrev LastsIn : List OwnEvent → Type 0
  LastsIn own = (is_block_listed len own b ≡ true) ⊎ IsFullIn total len own (piece_of len b)

  abbrev is_listed_last : List OwnEvent → Bool
  is_listed_last own = slice_index_or (last_listing total len own).blocks b false

  -- an event that neither clears its piece nor finds it wrong
  lasts : (own : List OwnEvent) (e : OwnEvent) → LegalOwn total len (e ∷ own) → (FindsWrong (piece_of len b) e → ⊥)
      → e ≢ Clears (piece_of len b) → LastsIn own → LastsIn (e ∷ own)
  lasts own e legal right kept (inl listed) = inl (sound.listed total len own e b plan legal below right listed)
  lasts own e legal right kept (inr full) = inr (sound.full total len own e (piece_of len b) legal kept full)

  settled_lasts : (own : List OwnEvent) (piece : ℕ) (right : Bool) (giver : Giver) → LegalOwn total len (Settles piece right giver ∷ own)
      → LastsIn own → LastsIn (Settles piece right giver ∷ own)
  settled_lasts own piece true giver legal is =
      lasts own (Settles piece true giver) legal (λ wrong. absurd (let no = wrong.1 in cc)) (λ is. absurd cc) is
  settled_lasts own piece false giver legal is = ⊎_elim
      (λ (same : piece ≡ piece_of len b). inr (sound.full total len own (Settles piece false giver) (piece_of len b) legal
      (λ is. absurd cc) (λ x inside here. legal.1.full x inside (here ∙ sym same))))
      (λ (apart : piece ≢ piece_of len b).
      lasts own (Settles piece false giver) legal (λ wrong. apart wrong.0) (λ is. absurd cc) is)
      (cases_eq piece (piece_of len b))

  cleared_lasts : (own : List OwnEvent) (piece : ℕ) → LegalOwn total len (Clears piece ∷ own) → is_listed_last own ≡ true
      → LastsIn own → LastsIn (Clears piece ∷ own)
  cleared_lasts own piece legal listed is = ⊎_elim
      (λ (same : piece_of len b ≡ piece). true_not_false (is_listed_last own) listed (legal.1.unlisted b below same))
      (λ (apart : piece_of len b ≢ piece). lasts own (Clears piece) legal (λ wrong. wrong)
      (λ is. apart (sym (let same : Clears piece ≡ Clears (piece_of len b) = is in cc))) is)
      (cases_eq (piece_of len b) piece)

  -- nothing was settled before the opening
  opened_lasts : (own : List OwnEvent) (verified blocks : List Bool) (now : Moment)
      → LegalOwn total len (Opens verified blocks now ∷ own) → slice_index_or blocks b false ≡ true
      → LastsIn (Opens verified blocks now ∷ own)
  opened_lasts own verified blocks now legal listed =
      let un : is_opened own ≡ false = legal.1.first in
      let matches = accounts total len own (λ is. true_not_false (is_opened own) is un) legal.0 in
      let piece = matches.pieces (piece_of len b) (of_pieces total len b plan below).piece in
      let nothing = matches.nothing un in
      let sole : is_sole_in own (piece_of len b) ≡ false =
      sym piece.sole ∙ ap (λ (p : Progress). slice_index_or p.sole (piece_of len b) false) nothing in
      let wrong : is_wrong_in own (piece_of len b) ≡ false =
      sym piece.wrong ∙ ap (λ (p : Progress). slice_index_or p.wrong (piece_of len b) false) nothing in
      inl (listed_so (slice_index_or blocks b false) (slice_index_or verified (piece_of len b) false || is_verified_in own (piece_of len b))
      (is_sole_in own (piece_of len b)) (is_wrong_in own (piece_of len b)) listed sole wrong)

  pub last_lasts : (own : List OwnEvent) → LegalOwn total len own → is_listed_last own ≡ true → LastsIn own
  last_lasts [] legal listed = absurd cc
  last_lasts (Opens verified blocks now ∷ own) legal listed = opened_lasts own verified blocks now legal listed
  last_lasts (Saves now ∷ own) legal listed =
      inl (sym (get_or-row_by (is_block_listed len own) (blocks_of total len) b false below) ∙ listed)
  last_lasts (Settles piece right giver ∷ own) legal listed =
      settled_lasts own piece right giver legal (last_lasts own legal.0 listed)
  last_lasts (Clears piece ∷ own) legal listed = cleared_lasts own piece legal listed (last_lasts own legal.0 listed)
  last_lasts (Grants claim ∷ own) legal listed =
      lasts own (Grants claim) legal (λ wrong. wrong) (λ is. absurd cc) (last_lasts own legal.0 listed)
  last_lasts (Lands id mirror run ∷ own) legal listed =
      lasts own (Lands id mirror run) legal (λ wrong. wrong) (λ is. absurd cc) (last_lasts own legal.0 listed)
  last_lasts (Loses id mirror piece mark ∷ own) legal listed =
      lasts own (Loses id mirror piece mark) legal (λ wrong. wrong) (λ is. absurd cc) (last_lasts own legal.0 listed)
  last_lasts (Sizes id told ∷ own) legal listed =
      lasts own (Sizes id told) legal (λ wrong. wrong) (λ is. absurd cc) (last_lasts own legal.0 listed)
  last_lasts (Checks right ∷ own) legal listed =
      lasts own (Checks right) legal (λ wrong. wrong) (λ is. absurd cc) (last_lasts own legal.0 listed)
  last_lasts (Halts ends ∷ own) legal listed =
      lasts own (Halts ends) legal (λ wrong. wrong) (λ is. absurd cc) (last_lasts own legal.0 listed)

  lasts_landed : (own : List OwnEvent) → LastsIn own → is_landed_in len own b ≡ true
  lasts_landed own (inl listed) =
      and_left (is_landed_in len own b)
      (is_verified_in own (piece_of len b) || not (is_sole_in own (piece_of len b)) && not (is_wrong_in own (piece_of len b)))
      listed
  lasts_landed own (inr full) = full b below refl

  pub unlanded_unlisted : (own : List OwnEvent) → LegalOwn total len own → is_landed_in len own b ≡ false
      → slice_index_or (last_listing total len own).blocks b false ≡ false
  unlanded_unlisted own legal unlanded = by (is_listed_last own) refl
    where
      by : (t : Bool) → is_listed_last own ≡ t → is_listed_last own ≡ false
      by true is = true_not_false (is_landed_in len own b) (lasts_landed own (last_lasts own legal is)) unlanded
      by false is = is
