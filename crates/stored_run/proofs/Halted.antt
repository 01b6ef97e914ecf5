-- A save would list the same once no claim stands any more.
use Rattle.std.proofs.Common.{◌≡◌, ◌<◌, ◌+◌, ℕ, zero, suc, Bool, true, false, List, [], ◌∷◌, ◌++◌, refl, sym, ap, ◌∙◌, subst, arith}
use Rattle.std.specs.Prelude.{◌&&◌, ◌||◌, ◌==◌, not, map, filter, if◌then◌else◌}
use Rattle.std.specs.List.{list_any, range_with_len}
use Rattle.std.proofs.lemmas.List.FromFn.{map-range_with_len_more}
use Rattle.dl_history.specs.HistoryLaws.{HistoriesAreSound}
use Rattle.dl_history.specs.Listings.{Listing, is_block_listed, listing_in}
use Rattle.dl_history.specs.OwnEvents.{OwnEvent, Opens, Grants, Lands, Settles, Clears, Loses, Sizes, Saves, Checks, Halts}
use Rattle.dl_history.specs.OwnLegal.{LegalOwn}
use Rattle.dl_history.specs.PayloadParts.{counts, is_alive, is_landed_in, is_sole_in, is_verified_in, is_wrong_in, source_by}
use Rattle.dl_history.specs.StandingClaims.{granted_claims, has_given_all, is_standing, stands_in}
use Rattle.dl_kinds.specs.Plan.{IsPlan, blocks_of, piece_of, pieces_of}
use Rattle.dl_kinds.specs.declared.claims.Claim.{Claim}
use Rattle.piece_table.specs.Changes.{Source, Absent, From, is_in, is_present}

-- ---- rows

row_same : (f g : ℕ → Bool) (n : ℕ) → ((i : ℕ) → i < n → f i ≡ g i)
    → map f (range_with_len 0 n) ≡ map g (range_with_len 0 n)
row_same f g zero same = refl
row_same f g (suc n) same =
    let next : n + 1 ≡ suc n = omega arith in
    subst (λ (m : ℕ). map f (range_with_len 0 m) ≡ map g (range_with_len 0 m)) next
    (map-range_with_len_more f 0 n n (omega arith)
    ∙ (ap (λ (row : List Bool). row ++ f n ∷ []) (row_same f g n (λ i below. same i (omega (arith, below))))
    ∙ (ap (λ (b : Bool). map g (range_with_len 0 n) ++ b ∷ []) (same n (omega arith))
    ∙ sym (map-range_with_len_more g 0 n n (omega arith)))))

bools_same : (a b : Bool) → (a ≡ true → b ≡ true) → (b ≡ true → a ≡ true) → a ≡ b
bools_same true true to from = refl
bools_same true false to from = absurd (let f : false ≡ true = to refl in cc)
bools_same false true to from = absurd (let f : false ≡ true = from refl in cc)
bools_same false false to from = refl

-- ---- fewer claims count

if_less : (c d : Bool) (mirror : ℕ) (x y : Source) → (c ≡ true → d ≡ true) → (is_present x ≡ true → is_present y ≡ true)
    → is_present (if c then From mirror else x) ≡ true → is_present (if d then From mirror else y) ≡ true
if_less true true mirror x y up more is = refl
if_less true false mirror x y up more is = absurd (let f : false ≡ true = up refl in cc)
if_less false true mirror x y up more is = refl
if_less false false mirror x y up more is = more is

absent_less : (c : Bool) (x y : Source) → (is_present x ≡ true → is_present y ≡ true)
    → is_present (if c then Absent else x) ≡ true → is_present (if c then Absent else y) ≡ true
absent_less true x y more is = is
absent_less false x y more is = more is

and_less : (a s x y : Bool) → (x ≡ true → y ≡ true) → (a && (not s || x)) ≡ true → (a && (not s || y)) ≡ true
and_less false s x y up is = is
and_less true false x y up is = refl
and_less true true x y up is = up is

source_less : (few many : ℕ → Bool) (p b : ℕ) → ((c : ℕ) → few c ≡ true → many c ≡ true) → (own : List OwnEvent)
    → is_present (source_by few p b own) ≡ true → is_present (source_by many p b own) ≡ true
source_less few many p b up [] is = is
source_less few many p b up (Opens verified blocks now ∷ own) is = is
source_less few many p b up (Grants claim ∷ own) is = source_less few many p b up own is
source_less few many p b up (Lands id mirror run ∷ own) is =
    if_less (is_in b run && counts few own p id) (is_in b run && counts many own p id) mirror (source_by few p b own)
    (source_by many p b own) (and_less (is_in b run) (is_sole_in own p) (few id) (many id) (up id))
    (source_less few many p b up own) is
source_less few many p b up (Settles piece right giver ∷ own) is = source_less few many p b up own is
source_less few many p b up (Clears piece ∷ own) is =
    absent_less (piece == p) (source_by few p b own) (source_by many p b own) (source_less few many p b up own) is
source_less few many p b up (Loses id mirror piece mark ∷ own) is = source_less few many p b up own is
source_less few many p b up (Sizes id total ∷ own) is = source_less few many p b up own is
source_less few many p b up (Saves now ∷ own) is = source_less few many p b up own is
source_less few many p b up (Checks right ∷ own) is = source_less few many p b up own is
source_less few many p b up (Halts ends ∷ own) is = source_less few many p b up own is

-- ---- no claim stands

none_stand : (ends : Bool) (own : List OwnEvent) (c : ℕ) (claims : List Claim)
    → list_any (λ (claim : Claim). claim.id == c) (filter (is_standing (Halts ends ∷ own)) claims) ≡ false
none_stand ends own c [] = refl
none_stand ends own c (claim ∷ claims) = none_stand ends own c claims

or_given : (a b n : Bool) → n ≡ false → (n || b) ≡ true → (a || b) ≡ true
or_given true b n none is = refl
or_given false b true none is = absurd cc
or_given false b false none is = is

alive_less : (ends : Bool) (own : List OwnEvent) (c : ℕ) → is_alive (Halts ends ∷ own) c ≡ true → is_alive own c ≡ true
alive_less ends own c is =
    or_given (stands_in own c) (has_given_all own c) (stands_in (Halts ends ∷ own) c)
    (none_stand ends own c (granted_claims own)) is

-- ---- the listing

and_first_less : (x y r : Bool) → (x ≡ true → y ≡ true) → (x && r) ≡ true → (y && r) ≡ true
and_first_less false y r up is = absurd cc
and_first_less true true r up is = is
and_first_less true false r up is = absurd (let f : false ≡ true = up refl in cc)

block_less : (len : ℕ) (ends : Bool) (own : List OwnEvent) (b : ℕ) → is_block_listed len (Halts ends ∷ own) b ≡ true
    → is_block_listed len own b ≡ true
block_less len ends own b is =
    let p = piece_of len b in
    and_first_less (is_landed_in len (Halts ends ∷ own) b) (is_landed_in len own b)
    (is_verified_in own p || not (is_sole_in own p) && not (is_wrong_in own p))
    (source_less (is_alive (Halts ends ∷ own)) (is_alive own) p b (alive_less ends own) own) is

pub listing_halted : HistoriesAreSound → (total len : ℕ) (ends : Bool) (own : List OwnEvent) → IsPlan total len
    → LegalOwn total len (Halts ends ∷ own) → listing_in total len (Halts ends ∷ own) ≡ listing_in total len own
listing_halted sound total len ends own plan legal =
    let listing : List Bool → Listing = λ blocks. record {
      pieces = map (is_verified_in own) (range_with_len 0 (pieces_of total len));
      blocks = blocks;
    } in
    ap listing
    (row_same (is_block_listed len (Halts ends ∷ own)) (is_block_listed len own) (blocks_of total len)
    (λ b below. bools_same (is_block_listed len (Halts ends ∷ own) b) (is_block_listed len own b)
    (block_less len ends own b)
    (sound.listed total len own (Halts ends) b plan legal below (λ wrong. wrong))))
