-- Where the table has blocks from, as each event leaves it.
use Rattle.std.proofs.Common.{◌≡◌, ◌≢◌, ◌⊎◌, ℕ, ◌+◌, ◌*◌, ◌<◌, ◌≤◌, Bool, true, false, cond, eqb, List, ◌∷◌, length, get_or, map, refl, sym, ap, ◌∙◌, subst, inl, inr, ⊎_elim, arith}
use Rattle.std.specs.Prelude.{◌&&◌, All, not}
use Rattle.std.specs.List.{range_with_len}
use Rattle.std.proofs.lemmas.List.FromFn.{length-map-range_with_len}
use Rattle.std.proofs.lemmas.Nat.{div-add-mod'}
use Rattle.std.proofs.lemmas.Bool.{ne_eqb, eq-eqb}
use Rattle.dl_kinds.proofs.Cuts.{blocks_within, number, place_within, some_blocks}
use Rattle.dl_kinds.specs.Plan.{blocks_of, blocks_of_piece, full_blocks, piece_of, pieces_of, place_of}
use Rattle.dl_kinds.specs.declared.claims.Claim.{Claim}
use Rattle.dl_kinds.specs.declared.marks.Mark.{Mark}
use Rattle.piece_table.proofs.Parts.{get_or-part, length-part}
use Rattle.piece_table.specs.Changes.{Absent, Clear, From, MakeSole, Settle, Source, is_present, source_of}
use Rattle.piece_table.specs.Progress.{piece_part}
use Rattle.piece_table.specs.declared.giver.Giver.{Giver}
use Rattle.dl_history.proofs.Below.{get_or-row_by}
use Rattle.dl_history.proofs.Facts.{facts}
use Rattle.dl_history.proofs.Members.{Has}
use Rattle.dl_history.proofs.Progress.{absent_source}
use Rattle.dl_history.proofs.Table.{gone_cases, table_says}
use Rattle.dl_history.proofs.TableChanges.{blocks_at_start, changes_of, table_source}
use Rattle.dl_history.specs.OwnEvents.{Checks, Clears, Grants, Halts, Lands, Loses, Opens, OwnEvent, Saves, Settles, Sizes}
use Rattle.dl_history.specs.OwnLegal.{LegalOwn}
use Rattle.dl_history.specs.PayloadParts.{is_landed_in, is_mixed, is_sole_in, source_in, sources_in}
use Rattle.dl_history.specs.StandingClaims.{granted_claims, is_open_since, is_standing, standing_claims}

-- ---- one event

-- blocks come
abbrev pub brings_blocks : OwnEvent → Bool
brings_blocks (Opens verified blocks now) = true
brings_blocks (Lands id mirror run) = true
brings_blocks e = false

-- the block goes, or is from where it was
abbrev pub GoesOrStays : ℕ → List OwnEvent → OwnEvent → ℕ → Type 0
GoesOrStays len own e b =
    (table_source len (e ∷ own) b ≡ Absent) ⊎ (table_source len (e ∷ own) b ≡ table_source len own b)

pub found_source : (len : ℕ) (own : List OwnEvent) (p : ℕ) (right : Bool) (giver : Giver) (b : ℕ)
    → table_source len (Settles p right giver ∷ own) b ≡ table_source len own b
found_source len own p right giver b = found_where (not right && is_mixed giver)
  where
    found_where : (t : Bool) → source_of len (blocks_at_start own)
        (cond t (MakeSole p ∷ Settle p right ∷ changes_of len own) (Settle p right ∷ changes_of len own)) b
        ≡ table_source len own b
    found_where true = refl
    found_where false = refl

goes_where : (t : Bool) (x : Source) → (cond t Absent x ≡ Absent) ⊎ (cond t Absent x ≡ x)
goes_where true x = inl refl
goes_where false x = inr refl

lost_where : (len : ℕ) (own : List OwnEvent) (q b : ℕ) (t : Bool)
    → (source_of len (blocks_at_start own) (cond t (Clear q ∷ changes_of len own) (changes_of len own)) b ≡ Absent)
    ⊎ (source_of len (blocks_at_start own) (cond t (Clear q ∷ changes_of len own) (changes_of len own)) b
    ≡ table_source len own b)
lost_where len own q b true = goes_where (eqb (piece_of len b) q) (table_source len own b)
lost_where len own q b false = inr refl

pub goes_or_stays : (len : ℕ) (own : List OwnEvent) (e : OwnEvent) (b : ℕ) → brings_blocks e ≡ false
    → GoesOrStays len own e b
goes_or_stays len own (Opens verified blocks now) b quiet = absurd cc
goes_or_stays len own (Grants claim) b quiet = inr refl
goes_or_stays len own (Lands id mirror run) b quiet = absurd cc
goes_or_stays len own (Settles p right giver) b quiet = inr (found_source len own p right giver b)
goes_or_stays len own (Clears p) b quiet = goes_where (eqb (piece_of len b) p) (table_source len own b)
goes_or_stays len own (Loses id mirror p mark) b quiet = lost_where len own p b (is_sole_in own p)
goes_or_stays len own (Sizes id total) b quiet = inr refl
goes_or_stays len own (Saves now) b quiet = inr refl
goes_or_stays len own (Checks right) b quiet = inr refl
goes_or_stays len own (Halts ends) b quiet = ⊎_elim (λ h. inl h.3) (λ h. inr h.1)
    (gone_cases len own b (standing_claims own))

-- a clearing or a loss of another piece leaves it
pub clear_apart : (len : ℕ) (own : List OwnEvent) (q b : ℕ) → piece_of len b ≢ q
    → table_source len (Clears q ∷ own) b ≡ table_source len own b
clear_apart len own q b apart = ap (λ (t : Bool). cond t Absent (table_source len own b)) (ne_eqb
    (piece_of len b) q apart)

pub clear_here : (len : ℕ) (own : List OwnEvent) (q b : ℕ) → piece_of len b ≡ q
    → table_source len (Clears q ∷ own) b ≡ Absent
clear_here len own q b here = ap (λ (t : Bool). cond t Absent (table_source len own b)) (eq-eqb (piece_of len b) q here)

loss_apart_where : (len : ℕ) (own : List OwnEvent) (q b : ℕ) (t : Bool) → piece_of len b ≢ q
    → source_of len (blocks_at_start own) (cond t (Clear q ∷ changes_of len own) (changes_of len own)) b
    ≡ table_source len own b
loss_apart_where len own q b true apart = clear_apart len own q b apart
loss_apart_where len own q b false apart = refl

pub loss_apart : (len : ℕ) (own : List OwnEvent) (id mirror q : ℕ) (mark : Mark)
    (b : ℕ) → piece_of len b ≢ q
    → table_source len (Loses id mirror q mark ∷ own) b ≡ table_source len own b
loss_apart len own id mirror q mark b apart = loss_apart_where len own q b (is_sole_in own q) apart

-- of a sole piece it goes
pub loss_of_sole : (len : ℕ) (own : List OwnEvent) (id mirror q : ℕ)
    (mark : Mark) (b : ℕ)
    → is_sole_in own q ≡ true → piece_of len b ≡ q → table_source len (Loses id mirror q mark ∷ own) b ≡ Absent
loss_of_sole len own id mirror q mark b sole here =
    ap (λ (t : Bool). source_of len (blocks_at_start own) (cond t (Clear q ∷ changes_of len own)
    (changes_of len own)) b)
    sole ∙ clear_here len own q b here

-- what is from a mirror was so before, but for what it brings
pub was_from : (len : ℕ) (own : List OwnEvent) (e : OwnEvent) (b m : ℕ) → brings_blocks e ≡ false
    → table_source len (e ∷ own) b ≡ From m → table_source len own b ≡ From m
was_from len own e b m quiet is =
    ⊎_elim
    (λ (gone : table_source len (e ∷ own) b ≡ Absent). absurd (let x : Absent ≡ From m = sym gone ∙ is in cc))
    (λ (same : table_source len (e ∷ own) b ≡ table_source len own b). sym same ∙ is)
    (goes_or_stays len own e b quiet)

-- ---- landed blocks

pub landed_so : (total len : ℕ) (own : List OwnEvent) (b : ℕ) → LegalOwn total len own → b < blocks_of total len
    → is_landed_in len own b ≡ is_present (table_source len own b)
landed_so total len own b legal below = ap is_present (sym (table_says total len own legal b below))

pub unlanded_absent : (total len : ℕ) (own : List OwnEvent) (b : ℕ) → LegalOwn total len own → b < blocks_of total len
    → is_landed_in len own b ≡ false → table_source len own b ≡ Absent
unlanded_absent total len own b legal below un =
    absent_source (table_source len own b) (sym (landed_so total len own b legal below) ∙ un)

-- an open block of a claim that stands isn't there
pub open_absent : (total len : ℕ) (own : List OwnEvent) (g : Claim) (b : ℕ) → LegalOwn total len own
    → b < blocks_of total len → Has (granted_claims own) g → is_standing own g ≡ true → is_open_since own g b ≡ true
    → table_source len own b ≡ Absent
open_absent total len own g b legal below has stands opened =
    unlanded_absent total len own b legal below ((facts total len own legal).unlanded g b has stands opened)

-- ---- the blocks of a piece

number_is : (len p b : ℕ) → piece_of len b ≡ p → p * full_blocks len + place_of len b ≡ b
number_is len p b here = ap (λ (n : ℕ). n * full_blocks len + place_of len b) (sym here)
    ∙ div-add-mod' b (full_blocks len)

length_row : {A : Type 0} (f : ℕ → A) (n : ℕ) → length (map f (range_with_len 0 n)) ≡ n
length_row f n = length-map-range_with_len f 0 n

-- what holds of the sources of a piece holds of each block's
pub of_block : (total len : ℕ) (own : List OwnEvent) (P : Source → Type 0) (p b : ℕ) → 1 ≤ len
    → p < pieces_of total len → All P (piece_part total len (sources_in total len own) p)
    → b < blocks_of total len → piece_of len b ≡ p → P (source_in len own b)
of_block total len own P p b some known all below here =
    let xs = sources_in total len own in
    let at = p * full_blocks len in
    let n = blocks_of_piece total len p in
    let place : place_of len b < n = subst (λ (q : ℕ). place_of len b < blocks_of_piece total len q) here
    (place_within total len b some below) in
    let sum : at + place_of len b ≡ b = number_is len p b here in
    let long : length xs ≡ blocks_of total len = length_row (source_in len own) (blocks_of total len) in
    let fits : at + n ≤ length xs = let w = blocks_within total len p some known in omega (arith, w, long) in
    let value : get_or (piece_part total len xs p) (place_of len b) Absent ≡ source_in len own b =
    get_or-part xs at n (place_of len b) Absent place
    ∙ ap (λ (k : ℕ). get_or xs k Absent) sum
    ∙ get_or-row_by (source_in len own) (blocks_of total len) b Absent below in
    subst P value (all (place_of len b) Absent (let e = length-part xs at n fits in omega arith))

-- and the other way round
pub of_piece : (total len : ℕ) (own : List OwnEvent) (P : Source → Type 0) (p : ℕ) → 1 ≤ len
    → p < pieces_of total len
    → ((b : ℕ) → b < blocks_of total len → piece_of len b ≡ p → P (source_in len own b))
    → All P (piece_part total len (sources_in total len own) p)
of_piece total len own P p some known each k d below =
    let xs = sources_in total len own in
    let at = p * full_blocks len in
    let n = blocks_of_piece total len p in
    let long : length xs ≡ blocks_of total len = length_row (source_in len own) (blocks_of total len) in
    let w = blocks_within total len p some known in
    let fits : at + n ≤ length xs = omega (arith, w, long) in
    let e = length-part xs at n fits in
    let inside : k < n = omega arith in
    let is = number total len p k some inside in
    let within : at + k < blocks_of total len = omega arith in
    let value : get_or (piece_part total len xs p) k d ≡ source_in len own (at + k) =
    get_or-part xs at n k d inside ∙ get_or-row_by (source_in len own) (blocks_of total len) (at + k) d within in
    subst P (sym value) (each (at + k) within is.of)

-- a piece has a block
pub record FirstBlock (total len p : ℕ) : Type 0 where
  pub block : ℕ
  pub below : block < blocks_of total len
  pub here : piece_of len block ≡ p

pub first_of : (total len p : ℕ) → 1 ≤ len → p < pieces_of total len → FirstBlock total len p
first_of total len p some known =
    let many = some_blocks total len p some known in
    let is = number total len p 0 some many in
    let w = blocks_within total len p some known in
    record { block = p * full_blocks len + 0; below = omega arith; here = is.of }
