-- What the last save lists, and the other values that each event sets.
use Rattle.std.proofs.Common.{◌≡◌, ℕ, zero, suc, ◌+◌, ◌<◌, Bool, true, false, cond, Option, Some, None, List, [], ◌∷◌, length, get_or, map, refl, ap, ◌∙◌, arith}
use Rattle.std.specs.Prelude.{◌&&◌, ◌||◌, not}
use Rattle.std.specs.List.{range_with_len}
use Rattle.std.proofs.lemmas.List.{length-map}
use Rattle.std.proofs.lemmas.List.FromFn.{length-map-range_with_len}
use Rattle.dl_kinds.specs.Plan.{pieces_of, blocks_of, piece_of, IsPlan}
use Rattle.dl_kinds.specs.declared.claims.Claim.{Claim}
use Rattle.piece_table.specs.Changes.{sources_of, is_present, source_of}
use Rattle.piece_table.specs.Progress.{Progress}
use Rattle.dl_history.proofs.Below.{Below, piece_below}
use Rattle.dl_history.proofs.Following.{follows, from_start}
use Rattle.dl_history.proofs.Keeping.{afresh, blocks_at, changed_right, right_changes, rows, soles, table_at, verified_at, verifieds, wrongs}
use Rattle.dl_history.proofs.TableChanges.{changes_of}
use Rattle.dl_history.specs.Accounts.{Account, first_still_open, listing_of, without_claim, without_piece, without_sole, without_sole_at, without_soles}
use Rattle.dl_history.specs.Listings.{Listing, is_block_listed, last_listing, last_saved, listing_in}
use Rattle.dl_history.specs.OwnEvents.{Checks, Clears, Grants, Halts, Lands, Loses, Opens, OwnEvent, Saves, Settles, Sizes}
use Rattle.dl_history.specs.OwnLegal.{LegalOwn}
use Rattle.dl_history.specs.PayloadParts.{is_ended, is_verified_in, last_check, told_total}

-- ---- values that the end of a claim leaves

sole_keeps : {A : Type 0} (f : Account → A) → ((k : Account) (p : ℕ) → f (without_piece k p) ≡ f k)
    → (k : Account) (p : ℕ) (t : Bool) → f (cond t (without_piece k p) k) ≡ f k
sole_keeps f same k p true = same k p
sole_keeps f same k p false = refl

pub loss_keeps : {A : Type 0} (f : Account → A) → ((k : Account) (p : ℕ) → f (without_piece k p) ≡ f k)
    → (k : Account) (p : ℕ) → f (without_sole k p) ≡ f k
loss_keeps f same k p = sole_keeps f same k p (get_or k.progress.sole p false)

soles_keep_at : {A : Type 0} (f : Account → A) → ((k : Account) (p : ℕ) → f (without_piece k p) ≡ f k)
    → (k : Account) (o : Option ℕ) → f (without_sole_at k o) ≡ f k
soles_keep_at f same k None = refl
soles_keep_at f same k (Some b) = loss_keeps f same k (piece_of k.progress.piece_len b)

pub soles_keep : {A : Type 0} (f : Account → A) → ((k : Account) (p : ℕ) → f (without_piece k p) ≡ f k)
    → (k : Account) (gs : List Claim) → f (without_soles k gs) ≡ f k
soles_keep f same k [] = refl
soles_keep f same k (g ∷ gs) = soles_keep_at f same (without_soles k gs) (first_still_open k g)
    ∙ soles_keep f same k gs

-- ---- what a table lists

pub rows_same : {A : Type 0} (f h : ℕ → A) (a n : ℕ) → ((x : ℕ) → x < a + n → f x ≡ h x)
    → map f (range_with_len a n) ≡ map h (range_with_len a n)
rows_same f h a zero same = refl
rows_same f h a (suc n) same = rw (same a (omega arith), rows_same f h (a + 1) n (λ x below. same x (omega arith)))
    refl

abbrev pub lists_block : Progress → ℕ → Bool
lists_block p b =
    let piece = piece_of p.piece_len b in
    get_or p.landed b false
    && (get_or p.verified piece false || not (get_or p.sole piece false) && not (get_or p.wrong piece false))

listings_same : (a b : Listing) → a.pieces ≡ b.pieces → a.blocks ≡ b.blocks → a ≡ b
listings_same a b pieces blocks =
    ap (λ (xs : List Bool). record { pieces = xs; blocks = a.blocks }) pieces
    ∙ ap (λ (xs : List Bool). record { pieces = b.pieces; blocks = xs }) blocks

table_listing : (laws : Below) (total len : ℕ) (own : List OwnEvent) → IsPlan total len → LegalOwn total len own
    → listing_of (table_at total len own) ≡ listing_in total len own
table_listing laws total len own plan legal =
    let t = table_at total len own in
    let a = afresh laws total len own plan legal in
    let pieces : t.verified ≡ map (is_verified_in own) (range_with_len 0 (pieces_of total len)) =
    a.pieces ∙ rows_same (λ x. get_or (verified_at total len own) x false || changed_right (changes_of len own) x)
    (is_verified_in own) 0 (pieces_of total len)
    (λ x below. right_changes total len own legal x (omega arith)) in
    let many : length t.landed ≡ blocks_of total len =
    ap length a.blocks
    ∙ (length-map (sources_of total len (blocks_at total len own) (changes_of len own)) is_present
    ∙ length-map-range_with_len (source_of len (blocks_at total len own) (changes_of len own)) 0
    (blocks_of total len)) in
    let each : (b : ℕ) → b < blocks_of total len → lists_block t b ≡ is_block_listed len own b =
    λ b below.
    let inside : piece_of len b < pieces_of total len = piece_below laws total len b plan below in
    ap (λ (n : ℕ). get_or t.landed b false
    && (get_or t.verified (piece_of n b) false || not (get_or t.sole (piece_of n b) false)
    && not (get_or t.wrong (piece_of n b) false))) a.piece_len_is
    ∙ rw (
      rows laws total len own plan legal b below,
      verifieds laws total len own plan legal (piece_of len b) inside,
      soles laws total len own plan legal (piece_of len b) inside,
      wrongs laws total len own plan legal (piece_of len b) inside,
    ) refl in
    let blocks : map (lists_block t) (range_with_len 0 (length t.landed)) ≡ map (is_block_listed len own)
    (range_with_len 0 (blocks_of total len)) =
    ap (λ (n : ℕ). map (lists_block t) (range_with_len 0 n)) many
    ∙ rows_same (lists_block t) (is_block_listed len own) 0 (blocks_of total len) (λ x below. each x (omega arith)) in
    listings_same (listing_of t) (listing_in total len own) pieces blocks

-- ---- every event

pub record Values (total len : ℕ) (own : List OwnEvent) (k : Account) : Type 0 where
  pub listing : k.listing ≡ last_listing total len own
  pub saved : k.saved ≡ last_saved own
  pub told : k.told ≡ told_total own
  pub checked : k.checked ≡ last_check own
  pub ended : k.ended ≡ is_ended own

pub values : (laws : Below) (total len : ℕ) (own : List OwnEvent) → IsPlan total len → LegalOwn total len own
    → Values total len own (from_start total len own)
values laws total len [] plan legal =
    record { listing = refl; saved = refl; told = refl; checked = refl; ended = refl }
values laws total len (Opens verified blocks now ∷ own) plan legal =
    let v = values laws total len own plan legal.0 in
    record { listing = refl; saved = refl; told = v.told; checked = v.checked; ended = v.ended }
values laws total len (Grants cl ∷ own) plan legal =
    let v = values laws total len own plan legal.0 in
    record { listing = v.listing; saved = v.saved; told = v.told; checked = v.checked; ended = v.ended }
values laws total len (Lands c m run ∷ own) plan legal =
    let v = values laws total len own plan legal.0 in
    record { listing = v.listing; saved = v.saved; told = v.told; checked = v.checked; ended = v.ended }
values laws total len (Settles p right giver ∷ own) plan legal =
    let v = values laws total len own plan legal.0 in
    record { listing = v.listing; saved = v.saved; told = v.told; checked = v.checked; ended = v.ended }
values laws total len (Clears p ∷ own) plan legal =
    let v = values laws total len own plan legal.0 in
    record { listing = v.listing; saved = v.saved; told = v.told; checked = v.checked; ended = v.ended }
values laws total len (Loses c m p mark ∷ own) plan legal =
    let v = values laws total len own plan legal.0 in
    let k = record (from_start total len own) { standing = without_claim c (from_start total len own).standing } in
    record {
      listing = loss_keeps (λ (k : Account). k.listing) (λ k q. refl) k p ∙ v.listing;
      saved = loss_keeps (λ (k : Account). k.saved) (λ k q. refl) k p ∙ v.saved;
      told = loss_keeps (λ (k : Account). k.told) (λ k q. refl) k p ∙ v.told;
      checked = loss_keeps (λ (k : Account). k.checked) (λ k q. refl) k p ∙ v.checked;
      ended = loss_keeps (λ (k : Account). k.ended) (λ k q. refl) k p ∙ v.ended;
    }
values laws total len (Sizes c told ∷ own) plan legal =
    let v = values laws total len own plan legal.0 in
    record { listing = v.listing; saved = v.saved; told = refl; checked = v.checked; ended = v.ended }
values laws total len (Saves now ∷ own) plan legal =
    let v = values laws total len own plan legal.0 in
    let f = follows laws total len own plan legal.0 in
    record {
      listing = ap listing_of f.table ∙ table_listing laws total len own plan legal.0;
      saved = refl;
      told = v.told;
      checked = v.checked;
      ended = v.ended;
    }
values laws total len (Checks right ∷ own) plan legal =
    let v = values laws total len own plan legal.0 in
    record { listing = v.listing; saved = v.saved; told = v.told; checked = refl; ended = v.ended }
values laws total len (Halts ends ∷ own) plan legal =
    let v = values laws total len own plan legal.0 in
    let k = from_start total len own in
    record {
      listing = soles_keep (λ (k : Account). k.listing) (λ k q. refl) k k.standing ∙ v.listing;
      saved = soles_keep (λ (k : Account). k.saved) (λ k q. refl) k k.standing ∙ v.saved;
      told = soles_keep (λ (k : Account). k.told) (λ k q. refl) k k.standing ∙ v.told;
      checked = soles_keep (λ (k : Account). k.checked) (λ k q. refl) k k.standing ∙ v.checked;
      ended = ap (λ (t : Bool). ends || t) v.ended;
    }
