-- The row of the pieces that were settled since their last landing.
use Rattle.std.proofs.Common.{◌≡◌, ◌≢◌, ℕ, ◌<◌, Bool, true, false, cond, Option, Some, None, List, [], ◌∷◌, length, get_or, set, refl, sym, ap, ◌∙◌, ⊎_elim, arith}
use Rattle.std.specs.Prelude.{◌&&◌, ◌||◌, not}
use Rattle.std.proofs.lemmas.Bool.{cases_eq, ne_eqb, eq-eqb}
use Rattle.std.proofs.lemmas.List.{length-replicate, get_or-replicate, length-set, get_or-set_same, get_or-set_other}
use Rattle.std.proofs.lemmas.List.FromFn.{length-map-range_with_len}
use Rattle.dl_kinds.specs.Plan.{pieces_of, piece_of, IsPlan}
use Rattle.dl_kinds.specs.declared.claims.Claim.{Claim}
use Rattle.dl_kinds.specs.declared.runs.Run.{Run}
use Rattle.piece_table.specs.Progress.{Progress}
use Rattle.piece_table.specs.declared.giver.Giver.{Giver}
use Rattle.dl_history.proofs.Below.{Below, get_or-row_by}
use Rattle.dl_history.proofs.Bools.{as_before, no_more}
use Rattle.dl_history.proofs.Early.{early}
use Rattle.dl_history.proofs.Following.{follows, from_start}
use Rattle.dl_history.proofs.Keeping.{afresh}
use Rattle.dl_history.specs.Accounts.{Account, first_still_open, unsettled_by, without_claim, without_piece, without_sole_at, without_soles}
use Rattle.dl_history.specs.OwnEvents.{Checks, Clears, Grants, Halts, Lands, Loses, Opens, OwnEvent, Saves, Settles, Sizes}
use Rattle.dl_history.specs.OwnLegal.{LegalOwn}
use Rattle.dl_history.specs.PayloadParts.{is_run_on, is_settled_in}

pub record SettledRow (total len : ℕ) (own : List OwnEvent) (k : Account) : Type 0 where
  pub long : length k.settled ≡ pieces_of total len
  pub each : (p : ℕ) → p < pieces_of total len → get_or k.settled p false ≡ is_settled_in len own p

landed_settled : (len : ℕ) (own : List OwnEvent) (p c m : ℕ) (run : Run) (t : Bool) → is_run_on len run p ≡ t
    → (is_settled_in len own p && not t) ≡ is_settled_in len (Lands c m run ∷ own) p
landed_settled len own p c m run true is = rw is (no_more (is_settled_in len own p))
landed_settled len own p c m run false is = rw is (as_before (is_settled_in len own p))

settled_by : (laws : Below) (total len : ℕ) (own : List OwnEvent) (q : ℕ) (row : List Bool)
    → length row ≡ pieces_of total len
    → q < pieces_of total len → ((p : ℕ) → p < pieces_of total len → get_or row p false ≡ is_settled_in len own p)
    → (right : Bool) (giver : Giver) (p : ℕ) → p < pieces_of total len
    → get_or (set row q true) p false ≡ is_settled_in len (Settles q right giver ∷ own) p
settled_by laws total len own q row long within each right giver p below =
    ⊎_elim
    (λ (here : p ≡ q).
    ap (λ (n : ℕ). get_or (set row q true) n false) here ∙ get_or-set_same row q true false (omega (arith, long))
    ∙ sym (ap (λ (t : Bool). t || is_settled_in len own p) (eq-eqb q p (sym here))))
    (λ (other : p ≢ q).
    get_or-set_other row q p true false other ∙ each p below
    ∙ sym (ap (λ (t : Bool). t || is_settled_in len own p) (ne_eqb q p (λ e. other (sym e)))))
    (cases_eq p q)

sole_settled : (k : Account) (p : ℕ) (t : Bool) → (cond t (without_piece k p) k).settled ≡ k.settled
sole_settled k p true = refl
sole_settled k p false = refl

soles_settled_at : (k : Account) (o : Option ℕ) → (without_sole_at k o).settled ≡ k.settled
soles_settled_at k None = refl
soles_settled_at k (Some b) = sole_settled k (piece_of k.progress.piece_len b)
    (get_or k.progress.sole (piece_of k.progress.piece_len b) false)

pub soles_settled : (k : Account) (gs : List Claim) → (without_soles k gs).settled ≡ k.settled
soles_settled k [] = refl
soles_settled k (g ∷ gs) = soles_settled_at (without_soles k gs) (first_still_open k g) ∙ soles_settled k gs

row_same : (total len : ℕ) (own own' : List OwnEvent) (k k' : Account) → SettledRow total len own k
    → k'.settled ≡ k.settled
    → ((p : ℕ) → is_settled_in len own' p ≡ is_settled_in len own p) → SettledRow total len own' k'
row_same total len own own' k k' row same alike =
    record {
      long = ap length same ∙ row.long;
      each = λ p below. ap (λ (xs : List Bool). get_or xs p false) same ∙ row.each p below ∙ sym (alike p);
    }

pub settled_row : (laws : Below) (total len : ℕ) (own : List OwnEvent) → IsPlan total len → LegalOwn total len own
    → SettledRow total len own (from_start total len own)
settled_row laws total len [] plan legal =
    record {
      long = length-replicate (pieces_of total len) false;
      each = λ p below. get_or-replicate (pieces_of total len) p false false below;
    }
settled_row laws total len (Opens verified blocks now ∷ own) plan legal =
    let long : length verified ≡ pieces_of total len = legal.1.start.pieces in
    record {
      long = length-replicate (length verified) false ∙ long;
      each = λ p below. get_or-replicate (length verified) p false false (omega (arith, long))
          ∙ sym ((early total len own legal.0 legal.1.first).unsettled p);
    }
settled_row laws total len (Grants cl ∷ own) plan legal =
    row_same total len own (Grants cl ∷ own) (from_start total len own) (from_start total len (Grants cl ∷ own))
    (settled_row laws total len own plan legal.0) refl (λ p. refl)
settled_row laws total len (Lands c m run ∷ own) plan legal =
    let row = settled_row laws total len own plan legal.0 in
    let k = from_start total len own in
    let f = follows laws total len own plan legal.0 in
    let len_is : k.progress.piece_len ≡ len = ap (λ (p : Progress). p.piece_len) f.table
    ∙ (afresh laws total len own plan legal.0).piece_len_is in
    let long : length (unsettled_by k.progress.piece_len run k.settled) ≡ length k.settled =
    length-map-range_with_len (λ p. get_or k.settled p false && not (is_run_on k.progress.piece_len run p)) 0
    (length k.settled) in
    record {
      long = long ∙ row.long;
      each = λ p below.
          get_or-row_by (λ q. get_or k.settled q false && not (is_run_on k.progress.piece_len run q))
          (length k.settled) p false (omega (arith, row.long))
          ∙ ap (λ (n : ℕ). get_or k.settled p false && not (is_run_on n run p)) len_is
          ∙ ap (λ (t : Bool). t && not (is_run_on len run p)) (row.each p below)
          ∙ landed_settled len own p c m run (is_run_on len run p) refl;
    }
settled_row laws total len (Settles q right giver ∷ own) plan legal =
    let row = settled_row laws total len own plan legal.0 in
    let k = from_start total len own in
    record {
      long = length-set k.settled q true ∙ row.long;
      each = settled_by laws total len own q k.settled row.long legal.1.within row.each right giver;
    }
settled_row laws total len (Clears q ∷ own) plan legal =
    row_same total len own (Clears q ∷ own) (from_start total len own) (from_start total len (Clears q ∷ own))
    (settled_row laws total len own plan legal.0) refl (λ p. refl)
settled_row laws total len (Loses c m q mark ∷ own) plan legal =
    let k = from_start total len own in
    row_same total len own (Loses c m q mark ∷ own) k (from_start total len (Loses c m q mark ∷ own))
    (settled_row laws total len own plan legal.0)
    (sole_settled (record k { standing = without_claim c k.standing }) q (get_or k.progress.sole q false)) (λ p. refl)
settled_row laws total len (Sizes c told ∷ own) plan legal =
    row_same total len own (Sizes c told ∷ own) (from_start total len own) (from_start total len (Sizes c told ∷ own))
    (settled_row laws total len own plan legal.0) refl (λ p. refl)
settled_row laws total len (Saves now ∷ own) plan legal =
    row_same total len own (Saves now ∷ own) (from_start total len own) (from_start total len (Saves now ∷ own))
    (settled_row laws total len own plan legal.0) refl (λ p. refl)
settled_row laws total len (Checks right ∷ own) plan legal =
    row_same total len own (Checks right ∷ own) (from_start total len own) (from_start total len (Checks right ∷ own))
    (settled_row laws total len own plan legal.0) refl (λ p. refl)
settled_row laws total len (Halts ends ∷ own) plan legal =
    let k = from_start total len own in
    row_same total len own (Halts ends ∷ own) k (from_start total len (Halts ends ∷ own))
    (settled_row laws total len own plan legal.0) (soles_settled k k.standing) (λ p. refl)
