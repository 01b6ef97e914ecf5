-- What is kept of a download, over its events.
use Rattle.std.proofs.Common.{◌≡◌, ℕ, ◌+◌, ◌<◌, ◌≤◌, Bool, true, false, cond, Option, Some, None, List, [], ◌∷◌, refl, sym, ap, ◌∙◌, arith}
use Rattle.std.specs.Prelude.{slice_index_or}
use Rattle.std.specs.List.{cons_option}
use Rattle.std.specs.Option.{is_some, option_map_or}
use Rattle.std.proofs.lemmas.List.Elements.{All-head, All-tail}
use Rattle.dl_kinds.specs.declared.claims.Claim.{Claim}
use Rattle.dl_kinds.specs.Plan.{piece_of}
use Rattle.mirror_blame.specs.Laws.{CountedGiveTries}
use Rattle.mirror_blame.specs.Marks.{counted}
use Rattle.mirror_blame.specs.declared.blame.Blame.{Blame}
use Rattle.dl_history.specs.Accounts.{Account, account_of, first_still_open, without_claim, without_piece, without_sole, without_sole_at, without_soles}
use Rattle.dl_history.specs.OwnEvents.{Opens, Grants, Lands, Settles, Clears, Loses, Sizes, Saves, Checks, Halts}
use Rattle.dl_history.specs.PayloadParts.{blame_in, blames_in}
use Rattle.dl_history.specs.StandingClaims.{granted_claims, is_probe}
use Rattle.one_download.specs.DownloadLaws.{AccountsTellOpening, MarksAreCounted, NewNumbersMayBeGranted}
use Rattle.one_download.specs.DownloadViews.{with_blame}

-- ---- marks

counted_more : CountedGiveTries → (max_tries : ℕ) (blames : List Blame) (blame : Option Blame)
    → option_map_or (with_blame max_tries (counted max_tries blames)) blame (counted max_tries blames)
    ≡ counted max_tries (cons_option blame blames)
counted_more same max_tries blames None = refl
counted_more same max_tries blames (Some blame) = rw (same max_tries blame.mirror blame.piece blames) refl

pub marks_counted : CountedGiveTries → MarksAreCounted
marks_counted same max_tries own e = counted_more same max_tries (blames_in own) (blame_in e)

-- ---- numbers

next_sole : (k : Account) (piece : ℕ) → (without_sole k piece).next ≡ k.next
next_sole k piece =
    elim (slice_index_or k.progress.sole piece false) as
    (λ (b : Bool). (cond b (without_piece k piece) k).next ≡ k.next) [ true ↦ refl | false ↦ refl ]

next_sole_at : (k : Account) (block : Option ℕ) → (without_sole_at k block).next ≡ k.next
next_sole_at k None = refl
next_sole_at k (Some b) = next_sole k (piece_of k.progress.piece_len b)

next_soles : (k : Account) (standing : List Claim) → (without_soles k standing).next ≡ k.next
next_soles k [] = refl
next_soles k (claim ∷ others) =
    next_sole_at (without_soles k others) (first_still_open k claim) ∙ next_soles k others

next_claim : (b : Bool) (next number id : ℕ) → next ≤ id → number < id → cond b next (number + 1) ≤ id
next_claim true next number id below under = below
next_claim false next number id below under = omega arith

pub next_below : NewNumbersMayBeGranted
next_below total len [] id all = omega arith
next_below total len (Opens verified blocks now ∷ own) id all = next_below total len own id all
next_below total len (Grants claim ∷ own) id all =
    next_claim (is_probe claim) (account_of total len own).next claim.id id
    (next_below total len own id (All-tail (λ (c : Claim). c.id < id) claim (granted_claims own) all))
    (All-head (λ (c : Claim). c.id < id) claim (granted_claims own) all)
next_below total len (Lands c mirror run ∷ own) id all = next_below total len own id all
next_below total len (Settles piece right giver ∷ own) id all = next_below total len own id all
next_below total len (Clears piece ∷ own) id all = next_below total len own id all
next_below total len (Loses c mirror piece mark ∷ own) id all =
    let k = account_of total len own in
    let same = next_sole (record k { standing = without_claim c k.standing }) piece in
    let below = next_below total len own id all in
    omega arith
next_below total len (Sizes c told ∷ own) id all = next_below total len own id all
next_below total len (Saves now ∷ own) id all = next_below total len own id all
next_below total len (Checks right ∷ own) id all = next_below total len own id all
next_below total len (Halts ends ∷ own) id all =
    let k = account_of total len own in
    let same = next_soles k k.standing in
    let below = next_below total len own id all in
    omega arith

-- ---- the opening

saved_sole : (k : Account) (piece : ℕ) → (without_sole k piece).saved ≡ k.saved
saved_sole k piece =
    elim (slice_index_or k.progress.sole piece false) as
    (λ (b : Bool). (cond b (without_piece k piece) k).saved ≡ k.saved) [ true ↦ refl | false ↦ refl ]

saved_sole_at : (k : Account) (block : Option ℕ) → (without_sole_at k block).saved ≡ k.saved
saved_sole_at k None = refl
saved_sole_at k (Some b) = saved_sole k (piece_of k.progress.piece_len b)

saved_soles : (k : Account) (standing : List Claim) → (without_soles k standing).saved ≡ k.saved
saved_soles k [] = refl
saved_soles k (claim ∷ others) =
    saved_sole_at (without_soles k others) (first_still_open k claim) ∙ saved_soles k others

pub opening_told : AccountsTellOpening
opening_told total len [] legal = refl
opening_told total len (Opens verified blocks now ∷ own) legal = refl
opening_told total len (Grants claim ∷ own) legal = opening_told total len own legal.0
opening_told total len (Lands c mirror run ∷ own) legal = opening_told total len own legal.0
opening_told total len (Settles piece right giver ∷ own) legal = opening_told total len own legal.0
opening_told total len (Clears piece ∷ own) legal = opening_told total len own legal.0
opening_told total len (Loses c mirror piece mark ∷ own) legal =
    let k = account_of total len own in
    ap is_some (saved_sole (record k { standing = without_claim c k.standing }) piece)
    ∙ opening_told total len own legal.0
opening_told total len (Sizes c told ∷ own) legal = opening_told total len own legal.0
opening_told total len (Saves now ∷ own) legal = sym legal.1.opened
opening_told total len (Checks right ∷ own) legal = opening_told total len own legal.0
opening_told total len (Halts ends ∷ own) legal =
    let k = account_of total len own in
    ap is_some (saved_soles k k.standing) ∙ opening_told total len own legal.0
