-- Before its opening a download has probes alone.
use Rattle.std.proofs.Common.{◌≡◌, ℕ, ◌+◌, ◌<◌, ◌≤◌, Bool, true, false, cond, eqb, None, List, [], ◌∷◌, refl, sym, ◌∙◌, subst, ⊎_elim, arith}
use Rattle.std.specs.Prelude.{not, nat_lt, nat_le}
use Rattle.std.specs.List.{filter_map}
use Rattle.std.proofs.lemmas.Bool.{eq-eqb, eqb-true}
use Rattle.std.proofs.lemmas.Bool.Decides.{nat_tests}
use Rattle.dl_kinds.specs.declared.claims.Claim.{Claim}
use Rattle.dl_kinds.specs.declared.runs.Run.{Run}
use Rattle.piece_table.specs.Changes.{is_in, Source, Absent}
use Rattle.dl_history.proofs.Bools.{and_both, and_left, and_right, true_not_false}
use Rattle.dl_history.proofs.Ends.{has_come, standing_after_grant, stood_before_landing, stood_before_loss, stood_before_sizing}
use Rattle.dl_history.proofs.Members.{Has, has_all, has_filter, has_from, in_filter}
use Rattle.dl_history.specs.Listings.{last_listing, last_saved, no_listing}
use Rattle.dl_history.specs.OwnEvents.{Checks, Clears, Grants, Halts, Lands, Loses, Opens, OwnEvent, Saves, Settles, Sizes}
use Rattle.dl_history.specs.OwnLegal.{LegalOwn, MayClaim, MayProbe}
use Rattle.dl_history.specs.PayloadParts.{finding_on, is_opened, is_settled_in, is_sole_in, is_verified_in, source_by}
use Rattle.dl_history.specs.StandingClaims.{granted_claims, is_probe, is_standing, standing_claims}

-- a number of the run is below its end
pub below_end : (b : ℕ) (run : Run) → is_in b run ≡ true → b < run.first + run.count
below_end b run h = let less = and_right (nat_le run.first b) (nat_lt b (run.first + run.count)) h in
    grind (arith, nat_tests)

pub first_in : (run : Run) → 1 ≤ run.count → is_in run.first run ≡ true
first_in run some =
    let p : nat_le run.first run.first ≡ true = grind (arith, nat_tests) in
    let q : nat_lt run.first (run.first + run.count) ≡ true = grind (arith, nat_tests) in
    and_both (nat_le run.first run.first) (nat_lt run.first (run.first + run.count)) p q

-- a probe has no block
pub probe_shut : (g : Claim) (b : ℕ) → is_probe g ≡ true → is_in b g.run ≡ true → ⊥
probe_shut g b is inside =
    let none : g.run.count ≡ 0 = eqb-true g.run.count 0 is in
    let below = below_end b g.run inside in
    let from = and_left (nat_le g.run.first b) (nat_lt b (g.run.first + g.run.count)) inside in
    let low : g.run.first ≤ b = grind (arith, nat_tests) in
    omega (arith, none)

pub record Early (len : ℕ) (own : List OwnEvent) : Type 0 where
  pub probes : (g : Claim) → Has (granted_claims own) g → is_probe g ≡ true
  pub sole : (p : ℕ) → is_sole_in own p ≡ false
  pub verified : (p : ℕ) → is_verified_in own p ≡ false
  pub findings : (p : ℕ) → filter_map (finding_on p) own ≡ []
  pub unsettled : (p : ℕ) → is_settled_in len own p ≡ false
  pub absent : (f : ℕ → Bool) (p b : ℕ) → source_by f p b own ≡ Absent
  pub saved : last_saved own ≡ None
  pub listing : (total : ℕ) → last_listing total len own ≡ no_listing

early_clear : (t : Bool) (x : Source) → x ≡ Absent → cond t Absent x ≡ Absent
early_clear true x is = refl
early_clear false x is = is

pub early : (total len : ℕ) (own : List OwnEvent) → LegalOwn total len own → is_opened own ≡ false → Early len own
early total len [] legal un = record {
  probes = λ g h. absurd h;
  sole = λ p. refl;
  verified = λ p. refl;
  findings = λ p. refl;
  unsettled = λ p. refl;
  absent = λ f p b. refl;
  saved = refl;
  listing = λ t. refl;
}
early total len (Opens verified blocks now ∷ own) legal un = absurd cc
early total len (Grants cl ∷ own) legal un =
    let e = early total len own legal.0 un in
    record {
      probes = λ g h.
          ⊎_elim
          (λ (is : cl ≡ g).
          ⊎_elim
          (λ (may : MayProbe own cl). subst (λ (x : Claim). is_probe x ≡ true) is (eq-eqb cl.run.count 0 may.count))
          (λ (may : MayClaim total len own cl). true_not_false (is_opened own) may.opened un)
          legal.1)
          (λ (old : Has (granted_claims own) g). e.probes g old)
          h;
      sole = e.sole;
      verified = e.verified;
      findings = e.findings;
      unsettled = e.unsettled;
      absent = e.absent;
      saved = e.saved;
      listing = e.listing;
    }
early total len (Lands c m run ∷ own) legal un =
    let e = early total len own legal.0 un in
    let may = legal.1 in
    let there = has_filter (is_standing own) (granted_claims own) may.claim
    (has_from (standing_claims own) may.claim may.stands.0 may.stands.1 may.stands.2) in
    let o = may.open_in run.first (first_in run may.some) in
    absurd (probe_shut may.claim run.first (e.probes may.claim there.0)
    (and_left (is_in run.first may.claim.run) (not (has_come own may.claim run.first)) o))
early total len (Settles p right giver ∷ own) legal un = true_not_false (is_opened own) legal.1.opened un
early total len (Clears p ∷ own) legal un =
    let e = early total len own legal.0 un in
    record {
      probes = e.probes;
      sole = e.sole;
      verified = e.verified;
      findings = e.findings;
      unsettled = e.unsettled;
      absent = λ f q b. early_clear (eqb p q) (source_by f q b own) (e.absent f q b);
      saved = e.saved;
      listing = e.listing;
    }
early total len (Loses c m p mark ∷ own) legal un =
    let e = early total len own legal.0 un in
    record {
      probes = e.probes;
      sole = e.sole;
      verified = e.verified;
      findings = e.findings;
      unsettled = e.unsettled;
      absent = e.absent;
      saved = e.saved;
      listing = e.listing;
    }
early total len (Sizes c told ∷ own) legal un =
    let e = early total len own legal.0 un in
    record {
      probes = e.probes;
      sole = e.sole;
      verified = e.verified;
      findings = e.findings;
      unsettled = e.unsettled;
      absent = e.absent;
      saved = e.saved;
      listing = e.listing;
    }
early total len (Saves now ∷ own) legal un = true_not_false (is_opened own) legal.1.opened un
early total len (Checks right ∷ own) legal un = true_not_false (is_opened own) legal.1.opened un
early total len (Halts ends ∷ own) legal un =
    let e = early total len own legal.0 un in
    record {
      probes = e.probes;
      sole = e.sole;
      verified = e.verified;
      findings = e.findings;
      unsettled = e.unsettled;
      absent = e.absent;
      saved = e.saved;
      listing = e.listing;
    }

-- ---- what follows for a download that is opened

pub not_false : (t : Bool) → (t ≡ false → ⊥) → t ≡ true
not_false true h = refl
not_false false h = absurd (h refl)

-- a claim with a block in its run came after the opening
pub opened_by_block : (total len : ℕ) (own : List OwnEvent) (g : Claim) (b : ℕ) → LegalOwn total len own
    → Has (granted_claims own) g → is_in b g.run ≡ true → is_opened own ≡ true
opened_by_block total len own g b legal has inside =
    not_false (is_opened own) (λ un. probe_shut g b ((early total len own legal un).probes g has) inside)

pub opened_by_sole : (total len : ℕ) (own : List OwnEvent) (p : ℕ) → LegalOwn total len own → is_sole_in own p ≡ true
    → is_opened own ≡ true
opened_by_sole total len own p legal is =
    not_false (is_opened own) (λ un. true_not_false (is_sole_in own p) is ((early total len own legal un).sole p))

pub opened_by_verified : (total len : ℕ) (own : List OwnEvent) (p : ℕ) → LegalOwn total len own
    → is_verified_in own p ≡ true
    → is_opened own ≡ true
opened_by_verified total len own p legal is =
    not_false (is_opened own)
    (λ un. true_not_false (is_verified_in own p) is ((early total len own legal un).verified p))

-- a probe that stands is one of a download that isn't opened
pub probe_early : (total len : ℕ) (own : List OwnEvent) → LegalOwn total len own → (g : Claim)
    → Has (granted_claims own) g
    → is_standing own g ≡ true → is_probe g ≡ true → is_opened own ≡ false
probe_early total len [] legal g hg sg is = absurd hg
probe_early total len (Opens verified blocks now ∷ own) legal g hg sg is =
    absurd (subst (λ (xs : List Claim). Has xs g) legal.1.idle
    (in_filter (is_standing own) (granted_claims own) g hg sg))
probe_early total len (Grants cl ∷ own) legal g hg sg is =
    ⊎_elim
    (λ (may : MayProbe own cl). may.unopened)
    (λ (may : MayClaim total len own cl).
    ⊎_elim
    (λ (same : cl ≡ g).
    let none : g.run.count ≡ 0 = eqb-true g.run.count 0 is in
    let some : 1 ≤ g.run.count = subst (λ (x : Claim). 1 ≤ x.run.count) same may.some in absurd (omega arith))
    (λ (old : Has (granted_claims own) g).
    let less : g.id < cl.id = has_all (λ (y : Claim). y.id < cl.id) (granted_claims own) g may.fresh old in
    probe_early total len own legal.0 g old
    (sym (standing_after_grant own cl g (λ e. absurd (omega (arith, e)))) ∙ sg) is)
    hg)
    legal.1
probe_early total len (Lands c m run ∷ own) legal g hg sg is =
    probe_early total len own legal.0 g hg (stood_before_landing own c m run g sg) is
probe_early total len (Settles p right giver ∷ own) legal g hg sg is = probe_early total len own legal.0 g hg sg is
probe_early total len (Clears p ∷ own) legal g hg sg is = probe_early total len own legal.0 g hg sg is
probe_early total len (Loses c m p mark ∷ own) legal g hg sg is =
    probe_early total len own legal.0 g hg (stood_before_loss own c m p mark g sg) is
probe_early total len (Sizes c told ∷ own) legal g hg sg is =
    probe_early total len own legal.0 g hg (stood_before_sizing own c told g sg) is
probe_early total len (Saves now ∷ own) legal g hg sg is = probe_early total len own legal.0 g hg sg is
probe_early total len (Checks right ∷ own) legal g hg sg is = probe_early total len own legal.0 g hg sg is
probe_early total len (Halts ends ∷ own) legal g hg sg is = absurd cc
