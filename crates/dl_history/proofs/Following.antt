-- What is kept of a download follows each of its events.
use Rattle.std.proofs.Common.{◌≡◌, ◌≢◌, ◌⊎◌, ℕ, ◌+◌, ◌<◌, ◌≤◌, Bool, true, false, cond, Option, Some, None, List, [], ◌∷◌, refl, sym, ap, ◌∙◌, subst, inl, inr, ⊎_elim, arith}
use Rattle.std.specs.Prelude.{◌&&◌, not, nat_le}
use Rattle.std.specs.Option.{is_some}
use Rattle.std.specs.List.{list_any}
use Rattle.std.proofs.lemmas.List.{get_or_past}
use Rattle.std.proofs.lemmas.List.FromFn.{length-map-range_with_len}
use Rattle.std.proofs.lemmas.Bool.{cases_lt, eq-eqb}
use Rattle.dl_kinds.specs.Plan.{piece_of, blocks_of}
use Rattle.dl_kinds.specs.declared.runs.Moment.{Moment}
use Rattle.piece_table.specs.Changes.{Change, Settle, MakeSole, is_in}
use Rattle.piece_table.specs.declared.giver.Giver.{Giver}
use Rattle.dl_kinds.specs.declared.claims.Claim.{Claim}
use Rattle.std.specs.Prelude.{replicate, filter, length}
use Rattle.std.proofs.Common.{get_or}
use Rattle.std.proofs.lemmas.List.{length-replicate, length-set}
use Rattle.dl_kinds.specs.Plan.{pieces_of, IsPlan}
use Rattle.piece_table.specs.Progress.{Progress}
use Rattle.piece_table.specs.Steps.{started, settled, cleared, made_sole}
use Rattle.piece_table.specs.Afresh.{after_changes}
use Rattle.dl_history.proofs.Below.{Below, piece_below}
use Rattle.dl_history.proofs.Bools.{and_both, and_left, or_left, or_right, true_not_false}
use Rattle.dl_history.proofs.Early.{below_end, early, not_false, probe_shut}
use Rattle.dl_history.proofs.Ends.{has_come, has_ended, has_more, standing_after_grant, stood_before_sizing}
use Rattle.dl_history.proofs.Facts.{facts, grant_facts}
use Rattle.dl_history.proofs.Follows.{Follows, clears_follows, closed_le_set, filter_same_on, first_same, gone_no, gone_none, gone_yes, has_first, lands_follows, loses_cases, none_stand, rest_sized, under, zero_row}
use Rattle.dl_history.proofs.Keeping.{afresh, blocks_at, changed_sole, loss_piece, soles, table_at, verified_at}
use Rattle.dl_history.proofs.Members.{Has, has_all, has_filter}
use Rattle.dl_history.proofs.Sole.{found, in_run, unfound}
use Rattle.dl_history.proofs.TableChanges.{changes_of, gone}
use Rattle.dl_history.proofs.Whole.{since_new, since_old}
use Rattle.dl_history.proofs.Wrong.{landed_claims, landed_sizes}
use Rattle.dl_history.specs.Accounts.{Account, after_finding, after_halt, after_own, after_save, after_sizing, at_opening, first_still_open, new_account, with_claim, without_sole, without_sole_at, without_soles}
use Rattle.dl_history.specs.OwnEvents.{Checks, Clears, Grants, Halts, Lands, Loses, Opens, OwnEvent, Saves, Settles, Sizes}
use Rattle.dl_history.specs.OwnLegal.{LegalOwn, MayBeLost, MayClaim, MayProbe}
use Rattle.dl_history.specs.PayloadParts.{is_landed_in, is_mixed, is_sole_in}
use Rattle.dl_history.specs.StandingClaims.{blocks_in, ends_claim, first_open_since, granted_claims, grants_claim, is_open_since, is_probe, is_standing, lands_block, since, standing_claims}

-- ---- a verdict

verdict_table : (p : ℕ) (right w : Bool) (progress : Progress) (st : Progress) (changes : List Change)
    → progress ≡ after_changes st changes → (t : Bool) → (not right && w) ≡ t
    → ◌≡◌ {A = Progress} (cond (not right && w) (made_sole (settled progress p right) p) (settled progress p right))
    (after_changes st (cond (not right && w) (MakeSole p ∷ Settle p right ∷ changes) (Settle p right ∷ changes)))
verdict_table p right w progress st changes is true t = rw (t, is) refl
verdict_table p right w progress st changes is false t = rw (t, is) refl

settles_follows : (total len : ℕ) (own : List OwnEvent) (k : Account) (p : ℕ) (right : Bool) (giver : Giver)
    → Follows total len own k → Follows total len (Settles p right giver ∷ own) (after_finding k p right giver)
settles_follows total len own k p right giver f =
    record {
      table = verdict_table p right (is_mixed giver) k.progress
          (started total len (verified_at total len own) (blocks_at total len own)) (changes_of len own) f.table
          (not right && is_mixed giver) refl;
      standing_are = f.standing_are;
      long = f.long;
      older = f.older;
      next_from = f.next_from;
      closed_le = f.closed_le;
      open_is = f.open_is;
    }

-- ---- the opening

opens_follows : (laws : Below) (total len : ℕ) (own : List OwnEvent) (k : Account) (verified blocks : List Bool)
    (now : Moment) → IsPlan total len → LegalOwn total len (Opens verified blocks now ∷ own) → Follows total len own k
    → Follows total len (Opens verified blocks now ∷ own) (at_opening total len k verified blocks now)
opens_follows laws total len own k verified blocks now plan legal f =
    record {
      table = refl;
      standing_are = f.standing_are;
      long = length-replicate (length verified) 0 ∙ legal.1.start.pieces;
      older = f.older;
      next_from = f.next_from;
      closed_le = λ p. let z = zero_row (length verified) p in omega arith;
      open_is =
          λ g b hg sg below inside. absurd
          (probe_shut g b ((early total len own legal.0 legal.1.first).probes g hg) inside);
    }

-- ---- events that leave the claims and the blocks

saves_follows : (total len : ℕ) (own : List OwnEvent) (k : Account) (now : Moment) → Follows total len own k
    → Follows total len (Saves now ∷ own) (after_save k now)
saves_follows total len own k now f =
    record {
      table = f.table;
      standing_are = f.standing_are;
      long = f.long;
      older = f.older;
      next_from =
          f.next_from;
      closed_le = f.closed_le;
      open_is = f.open_is;
    }

checks_follows : (total len : ℕ) (own : List OwnEvent) (k : Account) (right : Bool) → Follows total len own k
    → Follows total len (Checks right ∷ own) (record k { checked = Some right })
checks_follows total len own k right f =
    record {
      table = f.table;
      standing_are = f.standing_are;
      long = f.long;
      older = f.older;
      next_from =
          f.next_from;
      closed_le = f.closed_le;
      open_is = f.open_is;
    }

sizes_follows : (total len : ℕ) (own : List OwnEvent) (k : Account) (c told : ℕ)
    → LegalOwn total len (Sizes c told ∷ own) → Follows total len own k
    → Follows total len (Sizes c told ∷ own) (after_sizing k c told)
sizes_follows total len own k c told legal f =
    record {
      table = f.table;
      standing_are = rest_sized own c told k.standing f.standing_are;
      long = f.long;
      older = f.older;
      next_from = f.next_from;
      closed_le = f.closed_le;
      open_is = λ g b hg sg below inside.
          rw (landed_sizes total len own c told legal b)
          (f.open_is g b hg (stood_before_sizing own c told g sg) below inside);
    }

-- ---- a grant

new_open_first : (own : List OwnEvent) (cl : Claim) → 1 ≤ cl.run.count
    → is_some (first_open_since (Grants cl ∷ own) cl) ≡ true
new_open_first own cl some =
    let own' = Grants cl ∷ own in
    let has : Has (blocks_in cl.run) cl.run.first = has_first cl.run.first cl.run.count some in
    let fo : is_open_since own' cl cl.run.first ≡ true =
    and_both (is_in cl.run.first cl.run) (not (has_come own' cl cl.run.first)) (in_run cl.run cl.run.first has)
    (ap not (since_new own cl cl.run.first)) in
    not_false (is_some (first_open_since own' cl))
    (λ none. true_not_false (is_open_since own' cl cl.run.first) fo
    (unfound (is_open_since own' cl) (blocks_in cl.run) none cl.run.first has))

new_stands : (total len : ℕ) (own : List OwnEvent) (cl : Claim) → MayProbe own cl ⊎ MayClaim total len own cl
    → is_standing (Grants cl ∷ own) cl ≡ true
new_stands total len own cl may =
    let own' = Grants cl ∷ own in
    let nd : not (has_ended own' cl) ≡ true =
    ap (λ (e : Bool). not (list_any (ends_claim cl.id) (cond e [] (Grants cl ∷ since (grants_claim cl.id) own))))
    (eq-eqb cl.id cl.id refl) in
    and_both (not (has_ended own' cl)) (has_more own' cl) nd
    (⊎_elim
    (λ (probe : MayProbe own cl). or_left (is_probe cl) (is_some (first_open_since own' cl))
    (eq-eqb cl.run.count 0 probe.count))
    (λ (claim : MayClaim total len own cl). or_right (is_probe cl) (is_some (first_open_since own' cl))
    (new_open_first own cl claim.some))
    may)

cond_true : {A : Type 0} (t : Bool) (x y : A) → t ≡ true → cond t x y ≡ x
cond_true t x y is = ap (λ (e : Bool). cond e x y) is

below_next : (t : Bool) (n m x : ℕ) → (t ≡ true → x < n) → (t ≡ false → x < m) → x < cond t n m
below_next true n m x probe real = probe refl
below_next false n m x probe real = real refl

most_next : (t : Bool) (n m x : ℕ) → x ≤ n → x ≤ m → x ≤ cond t n m
most_next true n m x a b = a
most_next false n m x a b = b

abbrev pub NextFrom : List OwnEvent → ℕ → Type 0
NextFrom own n = (n ≡ 0) ⊎ ((g : Claim) × Has (granted_claims own) g × (g.id + 1 ≡ n))

next_case : (t : Bool) (own : List OwnEvent) (cl : Claim) (n : ℕ) → NextFrom own n
    → NextFrom (Grants cl ∷ own) (cond t n (cl.id + 1))
next_case true own cl n (inl none) = inl none
next_case true own cl n (inr some) = inr (some.0, inr some.1, some.2)
next_case false own cl n from = inr (cl, inl refl, refl)

claims_follows : (laws : Below) (total len : ℕ) (own : List OwnEvent) (k : Account) (cl : Claim) → IsPlan total len
    → LegalOwn total len (Grants cl ∷ own) → Follows total len own k
    → Follows total len (Grants cl ∷ own) (with_claim k cl)
claims_follows laws total len own k cl plan legal f =
    let own' = Grants cl ∷ own in
    let may = grant_facts total len own cl legal.1 in
    let fresh : (g : Claim) → Has (granted_claims own) g → g.id < cl.id = λ g h. has_all (λ (x : Claim). x.id < cl.id)
    (granted_claims own) g may.fresh h in
    let older : (g : Claim) → Has (granted_claims own) g
    → cl.id ≢ g.id = λ g h e. absurd (let o = fresh g h in omega (arith, e)) in
    let next_le : k.next ≤ cl.id =
    ⊎_elim
    (λ (z : k.next ≡ 0). omega arith)
    (λ (n : (g : Claim) × Has (granted_claims own) g × (g.id + 1 ≡ k.next)). let o = fresh n.0 n.1 in let e = n.2 in
    omega arith)
    f.next_from in
    record {
      table = f.table;
      standing_are =
          ap (λ (xs : List Claim). cl ∷ xs)
          (f.standing_are ∙ filter_same_on (is_standing own) (is_standing own') (granted_claims own)
          (λ g h. sym (standing_after_grant own cl g (older g h))))
          ∙ sym (cond_true (is_standing own' (cl)) (cl ∷ filter (is_standing own') (granted_claims own))
          (filter (is_standing own') (granted_claims own)) (new_stands total len own cl legal.1));
      long = f.long;
      older = λ g h real.
          ⊎_elim
          (λ (is : cl ≡ g).
          let e : cl.id ≡ g.id = ap (λ (x : Claim). x.id) is in
          below_next (is_probe cl) k.next (cl.id + 1) g.id
          (λ probe. true_not_false (is_probe g) (subst (λ (x : Claim). is_probe x ≡ true) is probe) real)
          (λ r. omega arith))
          (λ (old : Has (granted_claims own) g).
          below_next (is_probe cl) k.next (cl.id + 1) g.id (λ probe. f.older g old real)
          (λ r. let o = fresh g old in omega arith))
          h;
      next_from = next_case (is_probe cl) own cl k.next f.next_from;
      closed_le = λ p. most_next (is_probe cl) k.next (cl.id + 1) (get_or k.closed p 0) (f.closed_le p)
          (let o = f.closed_le p in omega arith);
      open_is = λ g b hg sg below inside.
          ⊎_elim
          (λ (is : cl ≡ g).
          subst (λ (x : Claim).
          (not (is_landed_in len own' b) && nat_le (get_or k.closed (piece_of len b) 0) x.id) ≡ not
          (list_any (lands_block b) (since (grants_claim x.id) own'))) is
          (let inside' : is_in b cl.run ≡ true = subst (λ (x : Claim). is_in b x.run ≡ true) (sym is) inside in
          let free : is_landed_in len own' b ≡ false = landed_claims total len own cl legal b below
          ∙ may.unlanded b inside' in
          let le : nat_le (get_or k.closed (piece_of len b) 0) cl.id ≡ true =
          under (get_or k.closed (piece_of len b) 0) cl.id (let o = f.closed_le (piece_of len b) in omega arith)
          in
          rw (free, le, since_new own cl b) refl))
          (λ (old : Has (granted_claims own) g).
          rw (landed_claims total len own cl legal b below, since_old own cl b g.id (older g old))
          (f.open_is g b old (sym (standing_after_grant own cl g (older g old)) ∙ sg) below inside))
          hg;
    }

-- ---- a halt

pub record Dropped (total len : ℕ) (own : List OwnEvent) (k : Account) (gs : List Claim) (d : Account) : Type 0 where
  pub table : d.progress ≡ after_changes (started total len (verified_at total len own) (blocks_at total len own))
      (gone len own gs (changes_of len own))
  pub sole : d.progress.sole ≡ k.progress.sole
  pub piece_len : d.progress.piece_len ≡ k.progress.piece_len
  pub long : length d.closed ≡ length k.closed
  pub next : d.next ≡ k.next
  pub closed_le : (p : ℕ) → get_or d.closed p 0 ≤ k.next

drops_one : (total len : ℕ) (own : List OwnEvent) (k d : Account) (gs : List Claim) (g : Claim) (b p : ℕ)
    → first_open_since own g ≡ Some b → piece_of len b ≡ p → Dropped total len own k gs d
    → (s : Bool) → is_sole_in own p ≡ s → get_or d.progress.sole p false ≡ s
    → Dropped total len own k (g ∷ gs) (without_sole d p)
drops_one total len own k d gs g b p first here f true is flag =
    rw flag (record {
      table = ap (λ (q : Progress). cleared q p) f.table
          ∙ ap (after_changes (started total len (verified_at total len own) (blocks_at total len own)))
          (sym (gone_yes len own g gs b p (changes_of len own) first here is));
      sole = f.sole;
      piece_len = f.piece_len;
      long = length-set d.closed p d.next ∙ f.long;
      next = f.next;
      closed_le = rw f.next (closed_le_set d.closed p k.next f.closed_le);
    })
drops_one total len own k d gs g b p first here f false is flag =
    rw flag (record {
      table = f.table ∙ ap (after_changes (started total len (verified_at total len own) (blocks_at total len own)))
          (sym (gone_no len own g gs b p (changes_of len own) first here is));
      sole = f.sole;
      piece_len = f.piece_len;
      long = f.long;
      next = f.next;
      closed_le = f.closed_le;
    })

drops_first : (laws : Below) (total len : ℕ) (own : List OwnEvent) (k : Account) → IsPlan total len
    → LegalOwn total len own → Follows total len own k → (d : Account) (gs : List Claim) (g : Claim)
    → Has (granted_claims own) g
    → Dropped total len own k gs d → (o : Option ℕ) → first_open_since own g ≡ o
    → Dropped total len own k (g ∷ gs) (without_sole_at d o)
drops_first laws total len own k plan legal f d gs g hg rest None is =
    record {
      table = rest.table
          ∙ ap (after_changes (started total len (verified_at total len own) (blocks_at total len own)))
          (sym (gone_none len own g gs (changes_of len own) is));
      sole = rest.sole;
      piece_len = rest.piece_len;
      long = rest.long;
      next = rest.next;
      closed_le = rest.closed_le;
    }
drops_first laws total len own k plan legal f d gs g hg rest (Some b) is =
    let o = found (is_open_since own g) (blocks_in g.run) b is in
    let inside : b < blocks_of total len = let x = (facts total len own legal).within g hg in let e =
    below_end b g.run (and_left (is_in b g.run) _ o.1) in omega arith in
    let in_plan : piece_of len b < pieces_of total len = piece_below laws total len b plan inside in
    let len_is : d.progress.piece_len ≡ len = rest.piece_len
    ∙ (ap (λ (p : Progress). p.piece_len) f.table ∙ (afresh laws total len own plan legal).piece_len_is) in
    let flag : get_or d.progress.sole (piece_of len b) false ≡ is_sole_in own (piece_of len b) =
    ap (λ (xs : List Bool). get_or xs (piece_of len b) false) rest.sole
    ∙ (ap (λ (q : Progress). get_or q.sole (piece_of len b) false) f.table
    ∙ soles laws total len own plan legal (piece_of len b) in_plan) in
    subst (λ (n : ℕ). Dropped total len own k (g ∷ gs) (without_sole d (piece_of n b))) (sym len_is)
    (drops_one total len own k d gs g b (piece_of len b) is refl rest (is_sole_in own (piece_of len b)) refl flag)

drops_all : (laws : Below) (total len : ℕ) (own : List OwnEvent) (k : Account) → IsPlan total len
    → LegalOwn total len own → Follows total len own k → (gs : List Claim)
    → ((g : Claim) → Has gs g → Has (standing_claims own) g)
    → Dropped total len own k gs (without_soles k gs)
drops_all laws total len own k plan legal f [] sub =
    record { table = f.table; sole = refl; piece_len = refl; long = refl; next = refl; closed_le = f.closed_le }
drops_all laws total len own k plan legal f (g ∷ gs) sub =
    let rest = drops_all laws total len own k plan legal f gs (λ x h. sub x (inr h)) in
    let there = has_filter (is_standing own) (granted_claims own) g (sub g (inl refl)) in
    drops_first laws total len own k plan legal f (without_soles k gs) gs g there.0 rest (first_still_open k g)
    (sym (first_same laws total len own k plan legal f g there.0 there.1))

halts_follows : (laws : Below) (total len : ℕ) (own : List OwnEvent) (k : Account) (ends : Bool) → IsPlan total len
    → LegalOwn total len own → Follows total len own k → Follows total len (Halts ends ∷ own) (after_halt k ends)
halts_follows laws total len own k ends plan legal f =
    let d = drops_all laws total len own k plan legal f (standing_claims own) (λ g h. h) in
    let at : without_soles k k.standing ≡ without_soles k (standing_claims own) =
    ap (without_soles k) f.standing_are in
    rw at (record {
      table = d.table;
      standing_are = sym (none_stand (granted_claims own) (is_standing (Halts ends ∷ own)) (λ g h. refl));
      long = d.long ∙ f.long;
      older = λ g h real. rw d.next (f.older g h real);
      next_from = rw d.next f.next_from;
      closed_le = rw d.next d.closed_le;
      open_is = λ g b hg sg below inside. absurd cc;
    })

-- ---- all of them

-- the sole row at the piece of a loss
flag_at : (laws : Below) (total len : ℕ) (own : List OwnEvent) (c m p : ℕ) → IsPlan total len → LegalOwn total len own
    → MayBeLost len own c m p
    → (t : Bool) → is_sole_in own p ≡ t → get_or (table_at total len own).sole p false ≡ t
flag_at laws total len own c m p plan legal may true is = soles laws total len own plan legal p
    (loss_piece laws total len own c m p plan legal may is) ∙ is
flag_at laws total len own c m p plan legal may false is =
    ⊎_elim
    (λ (below : p < pieces_of total len). soles laws total len own plan legal p below ∙ is)
    (λ (past : pieces_of total len ≤ p).
    let row = (afresh laws total len own plan legal).sole in
    get_or_past (table_at total len own).sole p false
    (let long : length (table_at total len own).sole ≡ pieces_of total len = ap length row
    ∙ length-map-range_with_len (changed_sole (changes_of len own)) 0 (pieces_of total len) in omega arith))
    (cases_lt p (pieces_of total len))

-- what is kept where nothing is landed or verified at first
abbrev pub start : ℕ → ℕ → Account
start total len =
    record new_account {
      progress = started total len (replicate (pieces_of total len) false) (replicate (blocks_of total len) false);
      closed = replicate (pieces_of total len) 0;
      settled = replicate (pieces_of total len) false;
    }

abbrev pub from_start : ℕ → ℕ → List OwnEvent → Account
from_start total len [] = start total len
from_start total len (e ∷ before) = after_own total len (from_start total len before) e

pub follows : (laws : Below) (total len : ℕ) (own : List OwnEvent) → IsPlan total len → LegalOwn total len own
    → Follows total len own (from_start total len own)
follows laws total len [] plan legal =
    record {
      table = refl;
      standing_are = refl;
      long = length-replicate (pieces_of total len) 0;
      older = λ g h real. absurd h;
      next_from = inl refl;
      closed_le = λ p. zero_row (pieces_of total len) p;
      open_is = λ g b hg sg below inside. absurd hg;
    }
follows laws total len (Opens verified blocks now ∷ own) plan legal =
    opens_follows laws total len own (from_start total len own) verified blocks now plan legal
    (follows laws total len own plan legal.0)
follows laws total len (Grants cl ∷ own) plan legal = claims_follows laws total len own (from_start total len own) cl
    plan legal (follows laws total len own plan legal.0)
follows laws total len (Lands c m run ∷ own) plan legal = lands_follows laws total len own (from_start total len own)
    c m run plan legal (follows laws total len own plan legal.0)
follows laws total len (Settles p right giver ∷ own) plan legal =
    settles_follows total len own (from_start total len own) p right giver (follows laws total len own plan legal.0)
follows laws total len (Clears p ∷ own) plan legal = clears_follows laws total len own (from_start total len own) p
    plan legal (follows laws total len own plan legal.0)
follows laws total len (Loses c m p mark ∷ own) plan legal =
    let f = follows laws total len own plan legal.0 in
    loses_cases laws total len own (from_start total len own) c m p mark plan legal f (is_sole_in own p) refl
    (ap (λ (q : Progress). get_or q.sole p false) f.table ∙ flag_at laws total len own c m p plan legal.0 legal.1
    (is_sole_in own p) refl)
follows laws total len (Sizes c told ∷ own) plan legal = sizes_follows total len own (from_start total len own) c told
    legal (follows laws total len own plan legal.0)
follows laws total len (Saves now ∷ own) plan legal = saves_follows total len own (from_start total len own) now
    (follows laws total len own plan legal.0)
follows laws total len (Checks right ∷ own) plan legal = checks_follows total len own (from_start total len own) right
    (follows laws total len own plan legal.0)
follows laws total len (Halts ends ∷ own) plan legal = halts_follows laws total len own (from_start total len own)
    ends plan legal.0 (follows laws total len own plan legal.0)
