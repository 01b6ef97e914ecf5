-- The worked history is legal.
use Rattle.std.proofs.Common.{◌≡◌, ℕ, zero, suc, ◌<◌, true, false, None, Some, List, [], ◌∷◌, refl, sym, subst, inl, inr, arith}
use Rattle.std.specs.Prelude.{◌↔◌, All, Contains, slice_get, slice_index_or}
use Rattle.std.proofs.lemmas.List.Elements.{All-cons, All-nil}
use Rattle.dl_kinds.specs.Plan.{piece_of}
use Rattle.dl_kinds.specs.declared.claims.Claim.{Claim}
use Rattle.piece_table.specs.Changes.{From, IsGiver, MayBeFrom, Unknown, is_in}
use Rattle.piece_table.specs.Progress.{IsStart, piece_part}
use Rattle.piece_table.specs.declared.giver.Giver.{Giver}
use Rattle.piece_table.specs.declared.giver.Giver.TheVariants.{Mixed, One}
use Rattle.dl_history.proofs.Early.{below_end}
use Rattle.dl_history.specs.Listings.{last_listing}
use Rattle.dl_history.specs.OwnEvents.{Grants, Lands, Opens, OwnEvent, Saves, Settles}
use Rattle.dl_history.specs.OwnLegal.{IsNewClaim, IsWrongLast, LegalOwn, MayClaim, MayClear, MayLand, MaySettle}
use Rattle.dl_history.specs.PayloadParts.{is_landed_in, is_opened, is_settled_in, is_sole_in, is_verified_in, sources_in}
use Rattle.dl_history.specs.StandingClaims.{is_open_since, standing_claims}
use Rattle.dl_history.specs.Worked.{claim_at, run_at, start_at}
use Rattle.work_bounds.specs.WorkedBounds.{always_wrong, given_wrong, old_block_wrong}

-- the claim of the one block
abbrev whole : ℕ → Claim
whole mirror = claim_at mirror mirror None (run_at 0 1)

only_block : (P : ℕ → Type 0) (b : ℕ) → b < 1 → P 0 → P b
only_block P zero below here = here
only_block P (suc b) below here = absurd (omega arith)

in_whole : (P : ℕ → Type 0) (b : ℕ) → is_in b (run_at 0 1) ≡ true → P 0 → P b
in_whole P b inside here = only_block P b (below_end b (run_at 0 1) inside) here

may_claim : (m : ℕ) (own : List OwnEvent) → IsNewClaim own (whole m) → is_opened own ≡ true
    → is_landed_in 16384 own 0 ≡ false → is_sole_in own 0 ≡ true → standing_claims own ≡ []
    → MayClaim 5 16384 own (whole m)
may_claim m own fresh opened unlanded sole idle =
    record {
      fresh = fresh;
      opened = opened;
      some = omega arith;
      within = omega arith;
      unlanded = λ b inside. in_whole (λ x. is_landed_in 16384 own x ≡ false) b inside unlanded;
      pieces = inr (record {
        piece = 0;
        sole = sole;
        exact = λ b below. only_block (λ x. (is_in x (run_at 0 1) ≡ true) ↔ (piece_of 16384 x ≡ 0)) b below
            (λ h. refl, λ h. refl);
        free = λ b inside. subst (λ (xs : List Claim). All (λ claim. is_open_since own claim b ≡ false) xs) (sym idle)
            (All-nil (λ claim. is_open_since own claim b ≡ false));
      });
    }

may_land : (m : ℕ) (own : List OwnEvent) → standing_claims own ≡ whole m ∷ [] → is_open_since own (whole m) 0 ≡ true
    → MayLand own m m (run_at 0 1)
may_land m own stands opened =
    record {
      claim = whole m;
      stands = subst (λ (xs : List Claim). Contains xs (whole m)) (sym stands) (0, omega arith, refl);
      id_is = refl;
      mirror_is = refl;
      some = omega arith;
      open_in = λ b inside. in_whole (λ x. is_open_since own (whole m) x ≡ true) b inside opened;
    }

may_settle : (own : List OwnEvent) (giver : Giver) → is_opened own ≡ true → is_landed_in 16384 own 0 ≡ true
    → is_verified_in own 0 ≡ false → is_settled_in 16384 own 0 ≡ false
    → IsGiver (piece_part 5 16384 (sources_in 5 16384 own) 0) giver → MaySettle 5 16384 own 0 giver
may_settle own giver opened landed unverified anew givers =
    record {
      opened = opened;
      within = omega arith;
      full = λ b below here. only_block (λ x. is_landed_in 16384 own x ≡ true) b below landed;
      unverified = unverified;
      anew = anew;
      givers = givers;
    }

may_clear : (own : List OwnEvent) → IsWrongLast 16384 0 own
    → slice_index_or (last_listing 5 16384 own).blocks 0 false ≡ false → MayClear 5 16384 own 0
may_clear own wrong unlisted =
    record {
      within = omega arith;
      cause = inr wrong;
      unlisted = λ b below here.
          only_block (λ x. slice_index_or (last_listing 5 16384 own).blocks x false ≡ false) b below unlisted;
    }

-- what was there at the opening is of no known mirror
unknown_mixed : (m : ℕ) → All (MayBeFrom m) (Unknown ∷ []) → ⊥
unknown_mixed m all = neither (all 0 Unknown (omega arith))
  where
    neither : MayBeFrom m Unknown → ⊥
    neither (inl bad) = absurd (let e = bad in cc)
    neither (inr bad) = absurd (let e = bad in cc)

one_gave : (m : ℕ) → IsGiver (From m ∷ []) (One m)
one_gave m = ((0, omega arith, refl), All-cons (MayBeFrom m) (From m) [] (inr refl) (All-nil (MayBeFrom m)))

none_verified : (piece : ℕ) → slice_get (false ∷ []) piece ≡ Some true → ⊥
none_verified zero h = absurd (let e = h in cc)
none_verified (suc piece) h = absurd (let e = h in cc)

starts : IsStart 5 16384 (false ∷ []) (true ∷ [])
starts = record { pieces = refl; blocks = refl; full = λ piece h. absurd (none_verified piece h) }

old_legal : LegalOwn 5 16384 old_block_wrong
old_legal = (
  (
    (
      (tt, record { start = starts; first = refl; idle = refl }),
      may_settle (Opens (false ∷ []) (true ∷ []) start_at ∷ []) Mixed refl refl refl refl unknown_mixed,
    ),
    record { opened = refl; going = refl },
  ),
  may_clear (Saves start_at ∷ Settles 0 false Mixed ∷ Opens (false ∷ []) (true ∷ []) start_at ∷ []) (inl
      (refl, refl)) refl,
)

first_legal : LegalOwn 5 16384 (given_wrong 0 old_block_wrong)
first_legal = (
  (
    (
      (
        old_legal,
        inr (may_claim 0 old_block_wrong (All-nil (λ (c : Claim). c.id < 0)) refl refl refl refl),
      ),
      may_land 0 (Grants (whole 0) ∷ old_block_wrong) refl refl,
    ),
    may_settle (Lands 0 0 (run_at 0 1) ∷ Grants (whole 0) ∷ old_block_wrong) (One 0) refl refl refl refl (one_gave 0),
  ),
  may_clear (Settles 0 false (One 0) ∷ Lands 0 0 (run_at 0 1) ∷ Grants (whole 0) ∷ old_block_wrong) (inl
      (refl, refl)) refl,
)

second_legal : LegalOwn 5 16384 (given_wrong 1 (given_wrong 0 old_block_wrong))
second_legal =
    let before = given_wrong 0 old_block_wrong in (
      (
        (
          (
            first_legal,
            inr (may_claim 1 before (All-cons (λ (c : Claim). c.id < 1) (whole 0) [] (omega arith)
                (All-nil (λ (c : Claim). c.id < 1))) refl refl refl refl),
          ),
          may_land 1 (Grants (whole 1) ∷ before) refl refl,
        ),
        may_settle (Lands 1 1 (run_at 0 1) ∷ Grants (whole 1) ∷ before) (One 1) refl refl refl refl (one_gave 1),
      ),
      may_clear (Settles 0 false (One 1) ∷ Lands 1 1 (run_at 0 1) ∷ Grants (whole 1) ∷ before) (inl (refl, refl)) refl,
    )

pub always_wrong_legal : LegalOwn 5 16384 always_wrong
always_wrong_legal = (second_legal, λ h. refl)
