-- What is kept of a download before its opening, and that what it begins with doesn't matter once it is opened.
use Rattle.std.specs.Prelude.{find}
use Rattle.std.specs.List.{range_with_len}
use Rattle.std.proofs.lemmas.Bool.{eqb-true}
use Rattle.std.proofs.Common.{inl, ◌+◌, ◌≡◌, ◌≢◌, ℕ, Bool, true, false, cond, eqb, Option, Some, None, List, [], ◌∷◌, get_or, refl, sym, ap, ◌∙◌, ⊎_elim}
use Rattle.std.specs.Prelude.{◌||◌, not}
use Rattle.std.specs.List.{filter_map}
use Rattle.std.proofs.lemmas.Bool.{eq-eqb}
use Rattle.dl_kinds.specs.Plan.{piece_of}
use Rattle.dl_kinds.specs.declared.claims.Claim.{Claim}
use Rattle.piece_table.specs.Progress.{Progress}
use Rattle.piece_table.specs.Changes.{is_in}
use Rattle.piece_table.specs.declared.giver.Giver.{Giver}
use Rattle.dl_kinds.specs.declared.runs.Run.{Run}
use Rattle.dl_kinds.specs.declared.runs.Moment.{Moment}
use Rattle.dl_history.proofs.Bools.{and_left, true_not_false}
use Rattle.dl_history.proofs.Early.{early, first_in, not_false, opened_by_block}
use Rattle.dl_history.proofs.Ends.{has_come}
use Rattle.dl_history.proofs.Following.{from_start}
use Rattle.dl_history.proofs.Listed.{loss_keeps, soles_keep}
use Rattle.dl_history.proofs.Members.{has_filter, has_from}
use Rattle.dl_history.specs.Accounts.{Account, account_of, after_finding, after_halt, after_landing, after_loss, after_save, after_sizing, at_opening, first_still_open, no_progress, with_claim, without_claim, without_piece, without_sole, without_sole_at, without_soles}
use Rattle.dl_history.specs.Listings.{no_listing}
use Rattle.dl_history.specs.OwnEvents.{Checks, Clears, Grants, Halts, Lands, Loses, Opens, OwnEvent, Saves, Settles, Sizes}
use Rattle.dl_history.specs.OwnLegal.{IsLossOf, IsWrongLast, LegalOwn, MayClaim, MayClear, MayLand, MayProbe}
use Rattle.dl_history.specs.PayloadParts.{finding_on, is_opened, is_sole_in}
use Rattle.dl_history.specs.StandingClaims.{first_open_since, granted_claims, is_open_since, is_probe, is_standing, piece_of_first, standing_claims}

-- ---- a clearing comes after the opening

found_step : (t : Bool) (right : Bool) (q p : ℕ) (own : List OwnEvent) (giver : Giver) → eqb q p ≡ t
    → filter_map (finding_on p) (Settles q right giver ∷ own) ≡ [] → filter_map (finding_on p) own ≡ []
found_step true right q p own giver is none = absurd (let e = rw is at none in cc)
found_step false right q p own giver is none = rw is at none

not_found : (t : Bool) (right : Bool) (q p : ℕ) (own : List OwnEvent) (giver : Giver) → eqb q p ≡ t → t ≡ true
    → filter_map (finding_on p) (Settles q right giver ∷ own) ≡ [] → ⊥
not_found true right q p own giver is sure none = absurd (let e = rw is at none in cc)
not_found false right q p own giver is sure none = absurd cc

wrong_found : (len p : ℕ) (own : List OwnEvent) → IsWrongLast len p own → filter_map (finding_on p) own ≡ [] → ⊥
wrong_found len p [] w none = w
wrong_found len p (Opens verified blocks now ∷ own) w none = w
wrong_found len p (Grants cl ∷ own) w none = wrong_found len p own w none
wrong_found len p (Lands c m run ∷ own) w none = wrong_found len p own w.1 none
wrong_found len p (Settles q right giver ∷ own) w none =
    ⊎_elim
    (λ (now : (q ≡ p) × (right ≡ false)). not_found (eqb q p) right q p own giver refl (eq-eqb q p now.0) none)
    (λ (old : (q ≢ p) × IsWrongLast len p own). wrong_found len p own old.1
    (found_step (eqb q p) right q p own giver refl none))
    w
wrong_found len p (Clears q ∷ own) w none = wrong_found len p own w.1 none
wrong_found len p (Loses c m q mark ∷ own) w none = wrong_found len p own w none
wrong_found len p (Sizes c told ∷ own) w none = wrong_found len p own w none
wrong_found len p (Saves now ∷ own) w none = wrong_found len p own w none
wrong_found len p (Checks right ∷ own) w none = wrong_found len p own w none
wrong_found len p (Halts ends ∷ own) w none = wrong_found len p own w none

pub loss_sole : (p : ℕ) (own : List OwnEvent) → IsLossOf p own → is_sole_in own p ≡ true
loss_sole p [] w = absurd w
loss_sole p (Opens verified blocks now ∷ own) w = absurd w
loss_sole p (Grants cl ∷ own) w = absurd w
loss_sole p (Lands c m run ∷ own) w = absurd w
loss_sole p (Settles q right giver ∷ own) w = absurd w
loss_sole p (Clears q ∷ own) w = absurd w
loss_sole p (Loses c m q mark ∷ own) w = w.1
loss_sole p (Sizes c told ∷ own) w = absurd w
loss_sole p (Saves now ∷ own) w = absurd w
loss_sole p (Checks right ∷ own) w = absurd w
loss_sole p (Halts ends ∷ own) w = absurd w

pub cleared_opened : (total len : ℕ) (own : List OwnEvent) (p : ℕ) → LegalOwn total len own → MayClear total len own p
    → is_opened own ≡ true
cleared_opened total len own p legal may =
    not_false (is_opened own)
    (λ un.
    let e = early total len own legal un in
    ⊎_elim
    (λ (loss : IsLossOf p own). true_not_false (is_sole_in own p) (loss_sole p own loss) (e.sole p))
    (λ (w : IsWrongLast len p own). wrong_found len p own w (e.findings p))
    may.cause)

pub landed_opened : (total len : ℕ) (own : List OwnEvent) (c m : ℕ) (run : Run) → LegalOwn total len own
    → MayLand own c m run → is_opened own ≡ true
landed_opened total len own c m run legal may =
    let there = has_filter (is_standing own) (granted_claims own) may.claim
    (has_from (standing_claims own) may.claim may.stands.0 may.stands.1 may.stands.2) in
    let o = may.open_in run.first (first_in run may.some) in
    opened_by_block total len own may.claim run.first legal there.0
    (and_left (is_in run.first may.claim.run) (not (has_come own may.claim run.first)) o)

-- ---- before the opening

-- the claims and the values are those of any account, and nothing else is kept
pub record Bare (own : List OwnEvent) (k start : Account) : Type 0 where
  pub progress : k.progress ≡ no_progress
  pub settled : k.settled ≡ []
  pub listing : k.listing ≡ no_listing
  pub saved : k.saved ≡ None
  pub standing : k.standing ≡ start.standing
  pub next : k.next ≡ start.next
  pub told : k.told ≡ start.told
  pub checked : k.checked ≡ start.checked
  pub ended : k.ended ≡ start.ended

bare_sole : (k : Account) (p : ℕ) → k.progress ≡ no_progress → (without_sole k p).progress ≡ no_progress
bare_sole k p is = ap (λ (t : Bool). (cond t (without_piece k p) k).progress)
    (ap (λ (q : Progress). get_or q.sole p false) is) ∙ is

bare_at : (k : Account) (o : Option ℕ) → k.progress ≡ no_progress → (without_sole_at k o).progress ≡ no_progress
bare_at k None is = is
bare_at k (Some b) is = bare_sole k (piece_of k.progress.piece_len b) is

bare_soles : (k : Account) (gs : List Claim) → k.progress ≡ no_progress → (without_soles k gs).progress ≡ no_progress
bare_soles k [] is = is
bare_soles k (g ∷ gs) is = bare_at (without_soles k gs) (first_still_open k g) (bare_soles k gs is)

pub bare : (total len : ℕ) (own : List OwnEvent) → LegalOwn total len own → is_opened own ≡ false
    → Bare own (account_of total len own) (from_start total len own)
bare total len [] legal un =
    record {
      progress = refl;
      settled = refl;
      listing = refl;
      saved = refl;
      standing = refl;
      next = refl;
      told =
          refl;
      checked = refl;
      ended = refl;
    }
bare total len (Opens verified blocks now ∷ own) legal un = absurd cc
bare total len (Grants cl ∷ own) legal un =
    let b = bare total len own legal.0 un in
    record {
      progress = b.progress;
      settled = b.settled;
      listing = b.listing;
      saved = b.saved;
      standing = ap (λ (gs : List Claim). cl ∷ gs) b.standing;
      next = ap (λ (n : ℕ). cond (is_probe cl) n (cl.id + 1)) b.next;
      told = b.told;
      checked = b.checked;
      ended = b.ended;
    }
bare total len (Lands c m run ∷ own) legal un =
    true_not_false (is_opened own) (landed_opened total len own c m run legal.0 legal.1) un
bare total len (Settles p right giver ∷ own) legal un = true_not_false (is_opened own) legal.1.opened un
bare total len (Clears p ∷ own) legal un =
    true_not_false (is_opened own) (cleared_opened total len own p legal.0 legal.1) un
bare total len (Loses c m p mark ∷ own) legal un =
    let b = bare total len own legal.0 un in
    let k = record (account_of total len own) { standing = without_claim c (account_of total len own).standing } in
    let s = record (from_start total len own) { standing = without_claim c (from_start total len own).standing } in
    record {
      progress = bare_sole k p b.progress;
      settled = loss_keeps (λ (k : Account). k.settled) (λ k q. refl) k p ∙ b.settled;
      listing = loss_keeps (λ (k : Account). k.listing) (λ k q. refl) k p ∙ b.listing;
      saved = loss_keeps (λ (k : Account). k.saved) (λ k q. refl) k p ∙ b.saved;
      standing = loss_keeps (λ (k : Account). k.standing) (λ k q. refl) k p ∙ ap (without_claim c) b.standing
          ∙ sym (loss_keeps (λ (k : Account). k.standing) (λ k q. refl) s p);
      next = loss_keeps (λ (k : Account). k.next) (λ k q. refl) k p ∙ b.next
          ∙ sym (loss_keeps (λ (k : Account). k.next) (λ k q. refl) s p);
      told = loss_keeps (λ (k : Account). k.told) (λ k q. refl) k p ∙ b.told
          ∙ sym (loss_keeps (λ (k : Account). k.told) (λ k q. refl) s p);
      checked = loss_keeps (λ (k : Account). k.checked) (λ k q. refl) k p ∙ b.checked
          ∙ sym (loss_keeps (λ (k : Account). k.checked) (λ k q. refl) s p);
      ended = loss_keeps (λ (k : Account). k.ended) (λ k q. refl) k p ∙ b.ended
          ∙ sym (loss_keeps (λ (k : Account). k.ended) (λ k q. refl) s p);
    }
bare total len (Sizes c told ∷ own) legal un =
    let b = bare total len own legal.0 un in
    record {
      progress = b.progress;
      settled = b.settled;
      listing = b.listing;
      saved = b.saved;
      standing = ap (without_claim c) b.standing;
      next = b.next;
      told = refl;
      checked = b.checked;
      ended = b.ended;
    }
bare total len (Saves now ∷ own) legal un = true_not_false (is_opened own) legal.1.opened un
bare total len (Checks right ∷ own) legal un = true_not_false (is_opened own) legal.1.opened un
bare total len (Halts ends ∷ own) legal un =
    let b = bare total len own legal.0 un in
    let k = account_of total len own in
    let s = from_start total len own in
    record {
      progress = bare_soles k k.standing b.progress;
      settled = soles_keep (λ (k : Account). k.settled) (λ k q. refl) k k.standing ∙ b.settled;
      listing = soles_keep (λ (k : Account). k.listing) (λ k q. refl) k k.standing ∙ b.listing;
      saved = soles_keep (λ (k : Account). k.saved) (λ k q. refl) k k.standing ∙ b.saved;
      standing = refl;
      next = soles_keep (λ (k : Account). k.next) (λ k q. refl) k k.standing ∙ b.next
          ∙ sym (soles_keep (λ (k : Account). k.next) (λ k q. refl) s s.standing);
      told = soles_keep (λ (k : Account). k.told) (λ k q. refl) k k.standing ∙ b.told
          ∙ sym (soles_keep (λ (k : Account). k.told) (λ k q. refl) s s.standing);
      checked = soles_keep (λ (k : Account). k.checked) (λ k q. refl) k k.standing ∙ b.checked
          ∙ sym (soles_keep (λ (k : Account). k.checked) (λ k q. refl) s s.standing);
      ended = ap (λ (t : Bool). ends || t) b.ended;
    }

-- ---- once it is opened

same_opening : (total len : ℕ) (own : List OwnEvent) (k s : Account) (verified blocks : List Bool) (now : Moment)
    → Bare own k s
    → at_opening total len k verified blocks now ≡ at_opening total len s verified blocks now
same_opening total len own k s verified blocks now b =
    rw (b.standing, b.next, b.told, b.checked, b.ended) refl

pub as_from_start : (total len : ℕ) (own : List OwnEvent) → LegalOwn total len own → is_opened own ≡ true
    → account_of total len own ≡ from_start total len own
as_from_start total len [] legal opened = absurd cc
as_from_start total len (Opens verified blocks now ∷ own) legal opened =
    same_opening total len own (account_of total len own) (from_start total len own) verified blocks now
    (bare total len own legal.0 legal.1.first)
as_from_start total len (Grants cl ∷ own) legal opened = ap (λ (k : Account). with_claim k cl)
    (as_from_start total len own legal.0 opened)
as_from_start total len (Lands c m run ∷ own) legal opened =
    ap (λ (k : Account). after_landing k m run) (as_from_start total len own legal.0 opened)
as_from_start total len (Settles p right giver ∷ own) legal opened =
    ap (λ (k : Account). after_finding k p right giver) (as_from_start total len own legal.0 opened)
as_from_start total len (Clears p ∷ own) legal opened = ap (λ (k : Account). without_piece k p)
    (as_from_start total len own legal.0 opened)
as_from_start total len (Loses c m p mark ∷ own) legal opened =
    ap (λ (k : Account). after_loss k c p) (as_from_start total len own legal.0 opened)
as_from_start total len (Sizes c told ∷ own) legal opened =
    ap (λ (k : Account). after_sizing k c told) (as_from_start total len own legal.0 opened)
as_from_start total len (Saves now ∷ own) legal opened = ap (λ (k : Account). after_save k now)
    (as_from_start total len own legal.0 opened)
as_from_start total len (Checks right ∷ own) legal opened =
    ap (λ (k : Account). record k { checked = Some right }) (as_from_start total len own legal.0 opened)
as_from_start total len (Halts ends ∷ own) legal opened =
    ap (λ (k : Account). after_halt k ends) (as_from_start total len own legal.0 opened)

-- ---- any lengths

probe_first : (len len' : ℕ) (own : List OwnEvent) (g : Claim) → is_probe g ≡ true
    → piece_of_first len (first_open_since own g) ≡ piece_of_first len' (first_open_since own g)
probe_first len len' own g is =
    let none : first_open_since own g ≡ None =
    ap (λ (n : ℕ). find (is_open_since own g) (range_with_len g.run.first n)) (eqb-true g.run.count 0 is) in
    ap (piece_of_first len) none ∙ sym (ap (piece_of_first len') none)

pub any_lengths : (total len total' len' : ℕ) (own : List OwnEvent) → LegalOwn total len own → is_opened own ≡ false
    → LegalOwn total' len' own
any_lengths total len total' len' [] legal un = tt
any_lengths total len total' len' (Opens verified blocks now ∷ own) legal un = absurd cc
any_lengths total len total' len' (Grants cl ∷ own) legal un = (
  any_lengths total len total' len' own legal.0 un,
  ⊎_elim
      (λ (may : MayProbe own cl). inl may)
      (λ (may : MayClaim total len own cl). true_not_false (is_opened own) may.opened un)
      legal.1,
)
any_lengths total len total' len' (Lands c m run ∷ own) legal un =
    true_not_false (is_opened own) (landed_opened total len own c m run legal.0 legal.1) un
any_lengths total len total' len' (Settles p right giver ∷ own) legal un =
    true_not_false (is_opened own) legal.1.opened un
any_lengths total len total' len' (Clears p ∷ own) legal un =
    true_not_false (is_opened own) (cleared_opened total len own p legal.0 legal.1) un
any_lengths total len total' len' (Loses c m p mark ∷ own) legal un =
    let may = legal.1 in
    let there = has_filter (is_standing own) (granted_claims own) may.claim
    (has_from (standing_claims own) may.claim may.stands.0 may.stands.1 may.stands.2) in (
      any_lengths total len total' len' own legal.0 un,
      record {
        claim = may.claim;
        stands = may.stands;
        id_is = may.id_is;
        mirror_is = may.mirror_is;
        piece_is = probe_first len' len own may.claim ((early total len own legal.0 un).probes may.claim there.0)
            ∙ may.piece_is;
      },
    )
any_lengths total len total' len' (Sizes c told ∷ own) legal un =
    (any_lengths total len total' len' own legal.0 un, legal.1)
any_lengths total len total' len' (Saves now ∷ own) legal un = true_not_false (is_opened own) legal.1.opened un
any_lengths total len total' len' (Checks right ∷ own) legal un = true_not_false (is_opened own) legal.1.opened un
any_lengths total len total' len' (Halts ends ∷ own) legal un =
    (any_lengths total len total' len' own legal.0 un, legal.1)

-- what is kept before the opening doesn't go by lengths
pub account_any : (total len total' len' : ℕ) (own : List OwnEvent) → LegalOwn total len own → is_opened own ≡ false
    → account_of total len own ≡ account_of total' len' own
account_any total len total' len' [] legal un = refl
account_any total len total' len' (Opens verified blocks now ∷ own) legal un = absurd cc
account_any total len total' len' (Grants cl ∷ own) legal un =
    ap (λ (k : Account). with_claim k cl) (account_any total len total' len' own legal.0 un)
account_any total len total' len' (Lands c m run ∷ own) legal un =
    true_not_false (is_opened own) (landed_opened total len own c m run legal.0 legal.1) un
account_any total len total' len' (Settles p right giver ∷ own) legal un =
    true_not_false (is_opened own) legal.1.opened un
account_any total len total' len' (Clears p ∷ own) legal un =
    true_not_false (is_opened own) (cleared_opened total len own p legal.0 legal.1) un
account_any total len total' len' (Loses c m p mark ∷ own) legal un =
    ap (λ (k : Account). after_loss k c p) (account_any total len total' len' own legal.0 un)
account_any total len total' len' (Sizes c told ∷ own) legal un =
    ap (λ (k : Account). after_sizing k c told) (account_any total len total' len' own legal.0 un)
account_any total len total' len' (Saves now ∷ own) legal un = true_not_false (is_opened own) legal.1.opened un
account_any total len total' len' (Checks right ∷ own) legal un = true_not_false (is_opened own) legal.1.opened un
account_any total len total' len' (Halts ends ∷ own) legal un =
    ap (λ (k : Account). after_halt k ends) (account_any total len total' len' own legal.0 un)
