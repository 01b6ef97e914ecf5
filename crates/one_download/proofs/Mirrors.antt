-- The claims and the givers of a download stay those of its mirrors.
use Rattle.std.proofs.Common.{◌≡◌, ℕ, zero, suc, ◌<◌, Bool, true, false, cond, eqb, Option, Some, None, List, [], ◌∷◌, All, length, get_or, set, refl, sym, subst}
use Rattle.std.specs.Prelude.{slice_index_or}
use Rattle.std.specs.List.{range_with_len}
use Rattle.std.proofs.lemmas.List.Elements.{All-cons, All-filter, All-head, All-map, All-nil, All-tail}
use Rattle.dl_kinds.specs.Plan.{piece_of}
use Rattle.dl_kinds.specs.declared.claims.Claim.{Claim}
use Rattle.dl_kinds.specs.declared.runs.Moment.{Moment}
use Rattle.dl_kinds.specs.declared.runs.Run.{Run}
use Rattle.piece_table.specs.Progress.{Progress, landed_count}
use Rattle.piece_table.specs.Steps.{giver_at_start, givers_after, has_gained, landed_by, with_giver}
use Rattle.piece_table.specs.declared.giver.Giver.{Giver}
use Rattle.piece_table.specs.declared.giver.Giver.TheVariants.{Nobody, One, Mixed}
use Rattle.dl_history.specs.Accounts.{Account, after_finding, after_halt, after_landing, after_loss, after_save, at_opening, first_still_open, with_claim, with_finding, without_claim, without_piece, without_sole, without_sole_at, without_soles}
use Rattle.one_download.specs.DownloadParts.{IsGiverAmong, IsOfMirrors}

-- ---- lists

all_at : (P : Giver → Type 0) (xs : List Giver) (i : ℕ) (d : Giver) → All P xs → P d → P (get_or xs i d)
all_at P [] i d all default = default
all_at P (x ∷ xs) zero d all default = All-head P x xs all
all_at P (x ∷ xs) (suc i) d all default = all_at P xs i d (All-tail P x xs all) default

all_set : (P : Giver → Type 0) (xs : List Giver) (i : ℕ) (v : Giver) → All P xs → P v → All P (set xs i v)
all_set P [] i v all new = all
all_set P (x ∷ xs) zero v all new = All-cons P v xs new (All-tail P x xs all)
all_set P (x ∷ xs) (suc i) v all new =
    All-cons P x (set xs i v) (All-head P x xs all) (all_set P xs i v (All-tail P x xs all) new)

-- ---- givers

among_if : (mirrors : ℕ) (b : Bool) (g h : Giver) → IsGiverAmong mirrors g → IsGiverAmong mirrors h
    → IsGiverAmong mirrors (cond b g h)
among_if mirrors true g h first second = first
among_if mirrors false g h first second = second

among_with : (mirrors mirror : ℕ) (g : Giver) → IsGiverAmong mirrors g → mirror < mirrors
    → IsGiverAmong mirrors (with_giver g mirror)
among_with mirrors mirror Nobody is known = known
among_with mirrors mirror (One other) is known = among_if mirrors (eqb other mirror) (One mirror) Mixed known tt
among_with mirrors mirror Mixed is known = tt

givers_landed : (mirrors mirror : ℕ) (p : Progress) (after : List Bool) → All (IsGiverAmong mirrors) p.givers
    → mirror < mirrors → All (IsGiverAmong mirrors) (givers_after p after mirror)
givers_landed mirrors mirror p after all known =
    All-map (IsGiverAmong mirrors)
    (λ (piece : ℕ).
    let giver = slice_index_or p.givers piece Nobody in
    cond (has_gained p.total p.piece_len p.landed after piece) (with_giver giver mirror) giver)
    (range_with_len 0 (length p.givers))
    (λ k d below.
    let piece : ℕ = slice_index_or (range_with_len 0 (length p.givers)) k d in
    let giver : Giver = slice_index_or p.givers piece Nobody in
    let is : IsGiverAmong mirrors giver = all_at (IsGiverAmong mirrors) p.givers piece Nobody all tt in
    among_if mirrors (has_gained p.total p.piece_len p.landed after piece) (with_giver giver mirror) giver
    (among_with mirrors mirror giver is known) is)

givers_found : (p : Progress) (piece : ℕ) (right : Bool) (giver : Giver)
    → (with_finding p piece right giver).givers ≡ p.givers
givers_found p piece true giver = refl
givers_found p piece false Nobody = refl
givers_found p piece false (One mirror) = refl
givers_found p piece false Mixed = refl

-- ---- each event

pub of_landing : (mirrors : ℕ) (k : Account) (mirror : ℕ) (run : Run) → IsOfMirrors mirrors k → mirror < mirrors
    → IsOfMirrors mirrors (after_landing k mirror run)
of_landing mirrors k mirror run of known =
    record {
      saved = of.saved;
      claims = All-filter _ (λ (claim : Claim). claim.mirror < mirrors) k.standing of.claims;
      givers = givers_landed mirrors mirror k.progress (landed_by k.progress run mirror).landed of.givers known;
    }

pub of_finding : (mirrors : ℕ) (k : Account) (piece : ℕ) (right : Bool) (giver : Giver) → IsOfMirrors mirrors k
    → IsOfMirrors mirrors (after_finding k piece right giver)
of_finding mirrors k piece right giver of =
    record {
      saved = of.saved;
      claims = of.claims;
      givers = subst (All (IsGiverAmong mirrors)) (sym (givers_found k.progress piece right giver)) of.givers;
    }

pub of_clearing : (mirrors : ℕ) (k : Account) (piece : ℕ) → IsOfMirrors mirrors k
    → IsOfMirrors mirrors (without_piece k piece)
of_clearing mirrors k piece of =
    record {
      saved = of.saved;
      claims = of.claims;
      givers = all_set (IsGiverAmong mirrors) k.progress.givers piece Nobody of.givers tt;
    }

of_sole : (mirrors : ℕ) (k : Account) (piece : ℕ) → IsOfMirrors mirrors k → IsOfMirrors mirrors (without_sole k piece)
of_sole mirrors k piece of =
    elim (slice_index_or k.progress.sole piece false) as
    (λ (b : Bool). IsOfMirrors mirrors (cond b (without_piece k piece) k)) [
      | true ↦ of_clearing mirrors k piece of
      | false ↦ of
    ]

pub of_loss : (mirrors : ℕ) (k : Account) (id piece : ℕ) → IsOfMirrors mirrors k
    → IsOfMirrors mirrors (after_loss k id piece)
of_loss mirrors k id piece of =
    of_sole mirrors (record k { standing = without_claim id k.standing }) piece
    (record {
      saved = of.saved;
      claims = All-filter _ (λ (claim : Claim). claim.mirror < mirrors) k.standing of.claims;
      givers = of.givers;
    })

of_sole_at : (mirrors : ℕ) (k : Account) (block : Option ℕ) → IsOfMirrors mirrors k
    → IsOfMirrors mirrors (without_sole_at k block)
of_sole_at mirrors k None of = of
of_sole_at mirrors k (Some b) of = of_sole mirrors k (piece_of k.progress.piece_len b) of

of_soles : (mirrors : ℕ) (k : Account) (standing : List Claim) → IsOfMirrors mirrors k
    → IsOfMirrors mirrors (without_soles k standing)
of_soles mirrors k [] of = of
of_soles mirrors k (claim ∷ others) of =
    of_sole_at mirrors (without_soles k others) (first_still_open k claim) (of_soles mirrors k others of)

pub of_halt : (mirrors : ℕ) (k : Account) (ends : Bool) → IsOfMirrors mirrors k → IsOfMirrors mirrors (after_halt k ends)
of_halt mirrors k ends of =
    let more = of_soles mirrors k k.standing of in
    record {
      saved = more.saved;
      claims = All-nil (λ (claim : Claim). claim.mirror < mirrors);
      givers = more.givers;
    }

pub of_save : (mirrors : ℕ) (k : Account) (now : Moment) → IsOfMirrors mirrors k → IsOfMirrors mirrors (after_save k now)
of_save mirrors k now of = record { saved = refl; claims = of.claims; givers = of.givers }

pub of_check : (mirrors : ℕ) (k : Account) (right : Bool) → IsOfMirrors mirrors k
    → IsOfMirrors mirrors (record k { checked = Some right })
of_check mirrors k right of = record { saved = of.saved; claims = of.claims; givers = of.givers }

pub of_grant : (mirrors : ℕ) (k : Account) (claim : Claim) → IsOfMirrors mirrors k → claim.mirror < mirrors
    → IsOfMirrors mirrors (with_claim k claim)
of_grant mirrors k claim of known =
    record {
      saved = of.saved;
      claims = All-cons (λ (c : Claim). c.mirror < mirrors) claim k.standing known of.claims;
      givers = of.givers;
    }

pub of_opening : (mirrors total len : ℕ) (k : Account) (verified blocks : List Bool) (now : Moment) → k.standing ≡ []
    → IsOfMirrors mirrors (at_opening total len k verified blocks now)
of_opening mirrors total len k verified blocks now idle =
    record {
      saved = refl;
      claims = subst (All (λ (claim : Claim). claim.mirror < mirrors)) (sym idle)
          (All-nil (λ (claim : Claim). claim.mirror < mirrors));
      givers = All-map (IsGiverAmong mirrors) (λ (piece : ℕ). giver_at_start (landed_count total len blocks piece))
          (range_with_len 0 (length verified))
          (λ k d below.
          let piece : ℕ = slice_index_or (range_with_len 0 (length verified)) k d in
          among_if mirrors (eqb (landed_count total len blocks piece) 0) Nobody Mixed tt tt);
    }
