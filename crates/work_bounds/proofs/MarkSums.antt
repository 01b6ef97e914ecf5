-- How many marks a piece has, and all pieces.
use Rattle.std.proofs.Common.{◌≡◌, ◌⊎◌, ℕ, ◌*◌, ◌<◌, ◌≤◌, max, true, false, eqb, List, [], ◌∷◌, length, sym, ap, ◌∙◌, subst, ⊎_elim, arith}
use Rattle.std.specs.Prelude.{find}
use Rattle.std.specs.List.{range_with_len}
use Rattle.std.proofs.lemmas.Bool.{cases_Bool, eqb-true}
use Rattle.dl_kinds.proofs.Cuts.{piece_within}
use Rattle.dl_kinds.specs.Plan.{piece_of, pieces_of}
use Rattle.dl_kinds.specs.declared.claims.Claim.{Claim}
use Rattle.dl_kinds.specs.declared.marks.Mark.{Mark}
use Rattle.piece_table.specs.declared.giver.Giver.TheVariants.{Nobody, One, Mixed}
use Rattle.mirror_blame.specs.declared.blame.Blame.{Blame}
use Rattle.dl_history.proofs.Early.{early}
use Rattle.dl_history.proofs.Givers.{from_granted}
use Rattle.dl_history.proofs.Members.{Has, has_filter}
use Rattle.dl_history.proofs.Table.{lost_block, table_says}
use Rattle.dl_history.specs.OwnEvents.{Checks, Clears, Grants, Halts, Lands, Loses, Opens, OwnEvent, Saves, Settles, Sizes}
use Rattle.dl_history.specs.PayloadParts.{blames_in, checksum_mark, is_alive, is_opened}
use Rattle.dl_history.specs.StandingClaims.{first_open_since, granted_claims, is_open_since, is_probe, is_standing, piece_of_first}
use Rattle.work_bounds.proofs.Marks.{marks_fit, one_gave}
use Rattle.work_bounds.proofs.Ordered.{GrantsHaveTries, Ordered, earlier, loser}
use Rattle.work_bounds.proofs.Sources.{first_of}
use Rattle.work_bounds.proofs.Tallies.{few_in_all, few_long, tally}

-- the mirror of each claim is one of the download's
pub granted_known : (len mirrors tries : ℕ) (own : List OwnEvent) (g : Claim) → GrantsHaveTries len mirrors tries own
    → Has (granted_claims own) g → g.mirror < mirrors
granted_known len mirrors tries [] g grants has = absurd has
granted_known len mirrors tries (Opens verified blocks now ∷ own) g grants has =
    granted_known len mirrors tries own g grants.0 has
granted_known len mirrors tries (Grants cl ∷ own) g grants has =
    ⊎_elim
    (λ (new : cl ≡ g). subst (λ (x : Claim). x.mirror < mirrors) new grants.1.known)
    (λ (old : Has (granted_claims own) g). granted_known len mirrors tries own g grants.0 old)
    has
granted_known len mirrors tries (Lands c m run ∷ own) g grants has = granted_known len mirrors tries own g grants.0 has
granted_known len mirrors tries (Settles q right giver ∷ own) g grants has =
    granted_known len mirrors tries own g grants.0 has
granted_known len mirrors tries (Clears q ∷ own) g grants has = granted_known len mirrors tries own g grants.0 has
granted_known len mirrors tries (Loses c m q mark ∷ own) g grants has =
    granted_known len mirrors tries own g grants.0 has
granted_known len mirrors tries (Sizes c told ∷ own) g grants has = granted_known len mirrors tries own g grants.0 has
granted_known len mirrors tries (Saves now ∷ own) g grants has = granted_known len mirrors tries own g grants.0 has
granted_known len mirrors tries (Checks right ∷ own) g grants has = granted_known len mirrors tries own g grants.0 has
granted_known len mirrors tries (Halts ends ∷ own) g grants has = granted_known len mirrors tries own g grants.0 has

-- ---- where a mark is

-- a mark of a known mirror, for a piece of the payload; before the opening for the first one
pub record IsMarkOf (total len mirrors : ℕ) (own : List OwnEvent) (m p : ℕ) : Type 0 where
  pub known : m < mirrors
  pub early : is_opened own ≡ false → p ≡ 0
  pub within : p < max (pieces_of total len) 1

-- .. so also after another event
still_mark : (total len mirrors : ℕ) (own : List OwnEvent) (e : OwnEvent) (m p : ℕ)
    → (is_opened (e ∷ own) ≡ false → is_opened own ≡ false)
    → IsMarkOf total len mirrors own m p → IsMarkOf total len mirrors (e ∷ own) m p
still_mark total len mirrors own e m p un is =
    record { known = is.known; early = λ h. is.early (un h); within = is.within }

probe_first : (len : ℕ) (own : List OwnEvent) (g : Claim) → is_probe g ≡ true
    → piece_of_first len (first_open_since own g) ≡ 0
probe_first len own g is =
    ap (λ (n : ℕ). piece_of_first len (find (is_open_since own g) (range_with_len g.run.first n)))
    (eqb-true g.run.count 0 is)

pub lost_mark : (total len mirrors tries : ℕ) (own : List OwnEvent) (c m q : ℕ) (mark : Mark)
    → Ordered total len mirrors tries (Loses c m q mark ∷ own) → IsMarkOf total len mirrors own m q
lost_mark total len mirrors tries own c m q mark o =
    let may = o.legal.1 in
    let there = has_filter (is_standing own) (granted_claims own) may.claim (loser len own c m q may) in
    let first : is_opened own ≡ false → q ≡ 0 =
    λ un. sym may.piece_is ∙ probe_first len own may.claim ((early total len own o.legal.0 un).probes may.claim there.0)
    in
    record {
      known = subst (λ (x : ℕ). x < mirrors) may.mirror_is
          (granted_known len mirrors tries own may.claim o.grants.0 there.0);
      early = first;
      within = ⊎_elim
          (λ (opened : is_opened own ≡ true).
          let lb = lost_block total len own c m q o.legal.0 may opened in
          let below = piece_within total len lb.block (o.plan opened).some lb.below in
          let is = lb.piece_is in
          omega arith)
          (λ (un : is_opened own ≡ false). let is = first un in omega arith)
          (cases_Bool (is_opened own));
    }

found_mark : (total len mirrors tries : ℕ) (own : List OwnEvent) (q n : ℕ)
    → Ordered total len mirrors tries (Settles q false (One n) ∷ own) → IsMarkOf total len mirrors own n q
found_mark total len mirrors tries own q n o =
    let may = o.legal.1 in
    let plan = o.plan may.opened in
    let first = first_of total len q plan.some may.within in
    let from = one_gave total len own q n plan o.legal.0 may first.block first.below first.here in
    let gave = from_granted total len own o.legal.0 (is_alive own) (piece_of len first.block) first.block n
    (sym (table_says total len own o.legal.0 first.block first.below) ∙ from) in
    record {
      known = subst (λ (x : ℕ). x < mirrors) gave.2 (granted_known len mirrors tries own gave.0 o.grants.0 gave.1);
      early = λ un. absurd (let e : true ≡ false = sym may.opened ∙ un in cc);
      within = let w = may.within in omega arith;
    }

first_unopened : {P : Type 0} → true ≡ false → P
first_unopened e = absurd (let bad = e in cc)

pub mark_is : (total len mirrors tries : ℕ) (own : List OwnEvent) → Ordered total len mirrors tries own
    → (x : Blame) → Has (blames_in own) x → IsMarkOf total len mirrors own x.mirror x.piece
mark_is total len mirrors tries [] o x has = absurd has
mark_is total len mirrors tries (Opens verified blocks now ∷ own) o x has =
    still_mark total len mirrors own (Opens verified blocks now) x.mirror x.piece (λ e. first_unopened e)
    (mark_is total len mirrors tries own (earlier total len mirrors tries (Opens verified blocks now) own o) x has)
mark_is total len mirrors tries (Grants cl ∷ own) o x has =
    still_mark total len mirrors own (Grants cl) x.mirror x.piece (λ e. e)
    (mark_is total len mirrors tries own (earlier total len mirrors tries (Grants cl) own o) x has)
mark_is total len mirrors tries (Lands c m run ∷ own) o x has =
    still_mark total len mirrors own (Lands c m run) x.mirror x.piece (λ e. e)
    (mark_is total len mirrors tries own (earlier total len mirrors tries (Lands c m run) own o) x has)
mark_is total len mirrors tries (Settles q true giver ∷ own) o x has =
    still_mark total len mirrors own (Settles q true giver) x.mirror x.piece (λ e. e)
    (mark_is total len mirrors tries own (earlier total len mirrors tries (Settles q true giver) own o) x has)
mark_is total len mirrors tries (Settles q false Nobody ∷ own) o x has =
    still_mark total len mirrors own (Settles q false Nobody) x.mirror x.piece (λ e. e)
    (mark_is total len mirrors tries own (earlier total len mirrors tries (Settles q false Nobody) own o) x has)
mark_is total len mirrors tries (Settles q false (One n) ∷ own) o x has =
    still_mark total len mirrors own (Settles q false (One n)) x.mirror x.piece (λ e. e)
    (⊎_elim
    (λ (new : record { mirror = n; piece = q; mark = checksum_mark } ≡ x).
    subst (λ (y : Blame). IsMarkOf total len mirrors own y.mirror y.piece) new
    (found_mark total len mirrors tries own q n o))
    (λ (old : Has (blames_in own) x).
    mark_is total len mirrors tries own (earlier total len mirrors tries (Settles q false (One n)) own o) x old)
    has)
mark_is total len mirrors tries (Settles q false Mixed ∷ own) o x has =
    still_mark total len mirrors own (Settles q false Mixed) x.mirror x.piece (λ e. e)
    (mark_is total len mirrors tries own (earlier total len mirrors tries (Settles q false Mixed) own o) x has)
mark_is total len mirrors tries (Clears q ∷ own) o x has =
    still_mark total len mirrors own (Clears q) x.mirror x.piece (λ e. e)
    (mark_is total len mirrors tries own (earlier total len mirrors tries (Clears q) own o) x has)
mark_is total len mirrors tries (Loses c m q mark ∷ own) o x has =
    still_mark total len mirrors own (Loses c m q mark) x.mirror x.piece (λ e. e)
    (⊎_elim
    (λ (new : record { mirror = m; piece = q; mark = mark } ≡ x).
    subst (λ (y : Blame). IsMarkOf total len mirrors own y.mirror y.piece) new
    (lost_mark total len mirrors tries own c m q mark o))
    (λ (old : Has (blames_in own) x).
    mark_is total len mirrors tries own (earlier total len mirrors tries (Loses c m q mark) own o) x old)
    has)
mark_is total len mirrors tries (Sizes c told ∷ own) o x has =
    still_mark total len mirrors own (Sizes c told) x.mirror x.piece (λ e. e)
    (mark_is total len mirrors tries own (earlier total len mirrors tries (Sizes c told) own o) x has)
mark_is total len mirrors tries (Saves now ∷ own) o x has =
    still_mark total len mirrors own (Saves now) x.mirror x.piece (λ e. e)
    (mark_is total len mirrors tries own (earlier total len mirrors tries (Saves now) own o) x has)
mark_is total len mirrors tries (Checks right ∷ own) o x has =
    still_mark total len mirrors own (Checks right) x.mirror x.piece (λ e. e)
    (mark_is total len mirrors tries own (earlier total len mirrors tries (Checks right) own o) x has)
mark_is total len mirrors tries (Halts ends ∷ own) o x has =
    still_mark total len mirrors own (Halts ends) x.mirror x.piece (λ e. e)
    (mark_is total len mirrors tries own (earlier total len mirrors tries (Halts ends) own o) x has)

-- ---- sums

-- the marks for a piece
abbrev pub blamed : List OwnEvent → ℕ → ℕ
blamed own p = tally (λ (x : Blame). eqb x.piece p) (blames_in own)

pub few_blamed : (total len mirrors tries : ℕ) (own : List OwnEvent) → Ordered total len mirrors tries own → (p : ℕ)
    → blamed own p ≤ mirrors * tries
few_blamed total len mirrors tries own o p =
    few_in_all (λ (x : Blame). x.mirror) (λ (x : Blame). eqb x.piece p) mirrors tries (blames_in own)
    (λ x has is. (mark_is total len mirrors tries own o x has).known)
    (λ k below. (marks_fit total len mirrors tries own o).each k p)

-- .. and for all
pub few_marks : (total len mirrors tries : ℕ) (own : List OwnEvent) → Ordered total len mirrors tries own
    → length (blames_in own) ≤ max (pieces_of total len) 1 * (mirrors * tries)
few_marks total len mirrors tries own o =
    few_long (λ (x : Blame). x.piece) (max (pieces_of total len) 1) (mirrors * tries) (blames_in own)
    (λ x has. (mark_is total len mirrors tries own o x has).within)
    (λ k below. few_blamed total len mirrors tries own o k)

-- before the opening they are for the first piece
pub few_early : (total len mirrors tries : ℕ) (own : List OwnEvent) → Ordered total len mirrors tries own
    → is_opened own ≡ false → length (blames_in own) ≤ mirrors * tries
few_early total len mirrors tries own o un =
    let all = few_long (λ (x : Blame). x.piece) 1 (mirrors * tries) (blames_in own)
    (λ x has. let is = (mark_is total len mirrors tries own o x has).early un in omega arith)
    (λ k below. few_blamed total len mirrors tries own o k) in
    omega arith
