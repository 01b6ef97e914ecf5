-- A save lists what the last one does, until there is news.
use Rattle.std.proofs.Common.{◌≡◌, ℕ, ◌<◌, Bool, true, false, cond, List, [], ◌∷◌, length, get_or, map, refl, sym, ap, ◌∙◌, arith}
use Rattle.std.specs.Prelude.{◌&&◌, ◌||◌, not}
use Rattle.std.specs.List.{range_with_len}
use Rattle.std.proofs.lemmas.List.{get_or_default, same_lists}
use Rattle.std.proofs.lemmas.List.FromFn.{length-map-range_with_len}
use Rattle.dl_kinds.specs.Plan.{blocks_of, piece_of, pieces_of}
use Rattle.dl_kinds.specs.declared.claims.Claim.{Claim}
use Rattle.dl_kinds.specs.declared.runs.Moment.{Moment}
use Rattle.piece_table.specs.Changes.{Absent, Unknown, is_present, is_wrong_last}
use Rattle.dl_history.proofs.Below.{get_or-row_by}
use Rattle.dl_history.proofs.Bools.{true_not_false}
use Rattle.dl_history.proofs.Early.{Early, early, not_false}
use Rattle.dl_history.proofs.Listed.{rows_same}
use Rattle.dl_history.proofs.Table.{sized_early}
use Rattle.dl_history.proofs.Wrong.{landed_claims}
use Rattle.dl_history.specs.Listings.{is_block_listed, last_listing, listing_in}
use Rattle.dl_history.specs.OwnEvents.{Checks, Clears, Grants, Halts, Lands, Loses, Opens, OwnEvent, Saves, Settles, Sizes}
use Rattle.dl_history.specs.OwnLegal.{LegalOwn}
use Rattle.dl_history.specs.PayloadParts.{is_landed_in, is_opened, is_sole_in, is_verified_in, is_wrong_in}
use Rattle.work_bounds.specs.SavesDue.{UnsavedHaveNews, has_news}

-- a row that agrees with a function at each place
row_is : (row : List Bool) (f : ℕ → Bool) (n : ℕ) → length row ≡ n
    → ((x : ℕ) → x < n → get_or row x false ≡ f x) → row ≡ map f (range_with_len 0 n)
row_is row f n long each =
    let same = length-map-range_with_len f 0 n in
    same_lists row (map f (range_with_len 0 n)) (long ∙ sym same)
    (λ k d below.
    let within : k < n = omega arith in
    get_or_default row k d false below ∙ each k within ∙ sym (get_or-row_by f n k d within))

kept_listed : (present x : Bool) → (present && (x || (not false && not false))) ≡ present
kept_listed true true = refl
kept_listed true false = refl
kept_listed false x = refl

present_so : (t : Bool) → is_present (cond t Unknown Absent) ≡ t
present_so true = refl
present_so false = refl

-- at the opening all that is there is listed
opened_listed : (total len : ℕ) (own : List OwnEvent) (verified blocks : List Bool) (now : Moment) (b : ℕ)
    → Early len own
    → get_or blocks b false ≡ is_block_listed len (Opens verified blocks now ∷ own) b
opened_listed total len own verified blocks now b e =
    let p = piece_of len b in
    sym (
    ap (λ (t : Bool). is_landed_in len (Opens verified blocks now ∷ own) b
    && (is_verified_in (Opens verified blocks now ∷ own) p || not t && not (is_wrong_in own p))) (e.sole p)
    ∙ ap (λ (t : Bool). is_landed_in len (Opens verified blocks now ∷ own) b
    && (is_verified_in (Opens verified blocks now ∷ own) p || not false && not t)) (ap is_wrong_last (e.findings p))
    ∙ kept_listed (is_landed_in len (Opens verified blocks now ∷ own) b)
    (is_verified_in (Opens verified blocks now ∷ own) p)
    ∙ present_so (get_or blocks b false)
    )

or_none : (t x : Bool) → x ≡ false → (t || x) ≡ t
or_none true x off = refl
or_none false x off = off

opens_saved : (total len : ℕ) (own : List OwnEvent) (verified blocks : List Bool) (now : Moment)
    → LegalOwn total len (Opens verified blocks now ∷ own)
    → last_listing total len (Opens verified blocks now ∷ own) ≡ listing_in total len (Opens verified blocks now ∷ own)
opens_saved total len own verified blocks now legal =
    let e = early total len own legal.0 legal.1.first in
    let pieces = row_is verified (is_verified_in (Opens verified blocks now ∷ own)) (pieces_of total len)
    legal.1.start.pieces (λ p below. sym (or_none (get_or verified p false) (is_verified_in own p) (e.verified p))) in
    let listed = row_is blocks (is_block_listed len (Opens verified blocks now ∷ own)) (blocks_of total len)
    legal.1.start.blocks (λ b below. opened_listed total len own verified blocks now b e) in
    ap (λ (xs : List Bool). record { pieces = xs; blocks = blocks }) pieces
    ∙ ap (λ (xs : List Bool). record {
      pieces = map (is_verified_in (Opens verified blocks now ∷ own)) (range_with_len 0 (pieces_of total len));
      blocks = xs;
    }) listed

-- a claim changes nothing
granted_saved : (total len : ℕ) (own : List OwnEvent) (cl : Claim) → LegalOwn total len (Grants cl ∷ own)
    → listing_in total len own ≡ listing_in total len (Grants cl ∷ own)
granted_saved total len own cl legal =
    ap (λ (xs : List Bool). record {
      pieces = map (is_verified_in own) (range_with_len 0 (pieces_of total len));
      blocks = xs;
    })
    (rows_same (is_block_listed len own) (is_block_listed len (Grants cl ∷ own)) 0 (blocks_of total len)
    (λ b below.
    ap (λ (t : Bool). t && (is_verified_in own (piece_of len b) || not (is_sole_in own (piece_of len b))
    && not (is_wrong_in own (piece_of len b))))
    (sym (landed_claims total len own cl legal b (omega arith)))))

pub saved_quiet : (total len : ℕ) (own : List OwnEvent) → LegalOwn total len own → is_opened own ≡ true
    → has_news own ≡ false → last_listing total len own ≡ listing_in total len own
saved_quiet total len [] legal opened quiet = absurd (let bad = opened in cc)
saved_quiet total len (Opens verified blocks now ∷ own) legal opened quiet =
    opens_saved total len own verified blocks now legal
saved_quiet total len (Grants cl ∷ own) legal opened quiet =
    saved_quiet total len own legal.0 opened quiet ∙ granted_saved total len own cl legal
saved_quiet total len (Lands c m run ∷ own) legal opened quiet = absurd (let bad = quiet in cc)
saved_quiet total len (Settles q right giver ∷ own) legal opened quiet = absurd (let bad = quiet in cc)
saved_quiet total len (Clears q ∷ own) legal opened quiet = absurd (let bad = quiet in cc)
saved_quiet total len (Loses c m q mark ∷ own) legal opened quiet = absurd (let bad = quiet in cc)
saved_quiet total len (Sizes c told ∷ own) legal opened quiet =
    true_not_false (is_opened own) opened (sized_early total len own c legal.0 legal.1)
saved_quiet total len (Saves now ∷ own) legal opened quiet = refl
saved_quiet total len (Checks right ∷ own) legal opened quiet = saved_quiet total len own legal.0 opened quiet
saved_quiet total len (Halts ends ∷ own) legal opened quiet = absurd (let bad = quiet in cc)

pub unsaved_have_news : UnsavedHaveNews
unsaved_have_news total len own legal opened unsaved =
    not_false (has_news own) (λ quiet. unsaved (saved_quiet total len own legal opened quiet))
