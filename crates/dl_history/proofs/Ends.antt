-- What each event leaves of the standing claims.
use Rattle.std.proofs.Common.{◌≡◌, ◌≢◌, ℕ, Bool, true, false, cond, eqb, List, [], ◌∷◌, ap, refl}
use Rattle.std.specs.Prelude.{◌&&◌, ◌||◌, not, find}
use Rattle.std.specs.List.{list_any}
use Rattle.std.specs.Option.{is_some}
use Rattle.std.proofs.lemmas.Bool.{ne_eqb}
use Rattle.dl_kinds.specs.declared.runs.Run.{Run}
use Rattle.dl_kinds.specs.declared.marks.Mark.{Mark}
use Rattle.piece_table.specs.Changes.{is_in}
use Rattle.dl_kinds.specs.declared.claims.Claim.{Claim}
use Rattle.dl_history.proofs.Bools.{and_both, and_left, and_right, not_or}
use Rattle.dl_history.proofs.Members.{find_more}
use Rattle.dl_history.specs.OwnEvents.{Grants, Lands, Loses, OwnEvent, Sizes}
use Rattle.dl_history.specs.StandingClaims.{blocks_in, ends_claim, first_open_since, grants_claim, is_open_since, is_probe, is_standing, lands_block, since}

-- the claim ended since its grant
abbrev pub has_ended : List OwnEvent → Claim → Bool
has_ended own g = list_any (ends_claim g.id) (since (grants_claim g.id) own)

-- a block of it came since its grant
abbrev pub has_come : List OwnEvent → Claim → ℕ → Bool
has_come own g b = list_any (lands_block b) (since (grants_claim g.id) own)

-- it has an open block, or is a probe
abbrev pub has_more : List OwnEvent → Claim → Bool
has_more own g = is_probe g || is_some (first_open_since own g)

-- a block that is open after a landing was so before
pub open_before : (own : List OwnEvent) (c m : ℕ) (run : Run) (g : Claim) (b : ℕ)
    → is_open_since (Lands c m run ∷ own) g b ≡ true
    → is_open_since own g b ≡ true
open_before own c m run g b h =
    and_both (is_in b g.run) (not (has_come own g b))
    (and_left (is_in b g.run) (not (is_in b run || has_come own g b)) h)
    (not_or (is_in b run) (has_come own g b) (and_right (is_in b g.run) (not (is_in b run || has_come own g b)) h))

or_more : (p a b : Bool) → (a ≡ true → b ≡ true) → (p || a) ≡ true → (p || b) ≡ true
or_more true a b more h = refl
or_more false a b more h = more h

pub stood_before_landing : (own : List OwnEvent) (c m : ℕ) (run : Run) (g : Claim)
    → is_standing (Lands c m run ∷ own) g ≡ true
    → is_standing own g ≡ true
stood_before_landing own c m run g h =
    and_both (not (has_ended own g)) (has_more own g)
    (and_left (not (has_ended own g)) (has_more (Lands c m run ∷ own) g) h)
    (or_more (is_probe g) (is_some (first_open_since (Lands c m run ∷ own) g)) (is_some (first_open_since own g))
    (find_more (is_open_since (Lands c m run ∷ own) g) (is_open_since own g) (blocks_in g.run)
    (open_before own c m run g))
    (and_right (not (has_ended own g)) (has_more (Lands c m run ∷ own) g) h))

stood_before_end : (own : List OwnEvent) (g : Claim) (t : Bool)
    → (not (t || has_ended own g) && has_more own g) ≡ true
    → is_standing own g ≡ true
stood_before_end own g t h =
    and_both (not (has_ended own g)) (has_more own g)
    (not_or t (has_ended own g) (and_left (not (t || has_ended own g)) (has_more own g) h))
    (and_right (not (t || has_ended own g)) (has_more own g) h)

pub stood_before_loss : (own : List OwnEvent) (c m p : ℕ) (mark : Mark) (g : Claim)
    → is_standing (Loses c m p mark ∷ own) g ≡ true → is_standing own g ≡ true
stood_before_loss own c m p mark g h = stood_before_end own g (eqb c g.id) h

pub stood_before_sizing : (own : List OwnEvent) (c total : ℕ) (g : Claim)
    → is_standing (Sizes c total ∷ own) g ≡ true → is_standing own g ≡ true
stood_before_sizing own c total g h = stood_before_end own g (eqb c g.id) h

-- an older claim is as it was after a grant
pub open_after_grant : (own : List OwnEvent) (cl g : Claim) (b : ℕ) → cl.id ≢ g.id
    → is_open_since (Grants cl ∷ own) g b ≡ is_open_since own g b
open_after_grant own cl g b apart =
    ap
    (λ (e : Bool). is_in b g.run
    && not (list_any (lands_block b) (cond e [] (Grants cl ∷ since (grants_claim g.id) own))))
    (ne_eqb cl.id g.id apart)

pub standing_after_grant : (own : List OwnEvent) (cl g : Claim) → cl.id ≢ g.id
    → is_standing (Grants cl ∷ own) g ≡ is_standing own g
standing_after_grant own cl g apart =
    ap (λ (e : Bool).
    not (list_any (ends_claim g.id) (cond e [] (Grants cl ∷ since (grants_claim g.id) own)))
    && (is_probe g || is_some (find (λ b. is_in b g.run
    && not (list_any (lands_block b) (cond e [] (Grants cl ∷ since (grants_claim g.id) own)))) (blocks_in g.run))))
    (ne_eqb cl.id g.id apart)

pub new_open : (own : List OwnEvent) (cl : Claim) (b : ℕ) → is_open_since (Grants cl ∷ own) cl b ≡ true
    → is_in b cl.run ≡ true
new_open own cl b h = and_left (is_in b cl.run) (not (has_come (Grants cl ∷ own) cl b)) h
