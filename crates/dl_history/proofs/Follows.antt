-- What is kept of a download follows its events.
use Rattle.std.proofs.Common.{◌≡◌, ◌≢◌, ◌⊎◌, ℕ, zero, suc, ◌+◌, ◌<◌, ◌≤◌, Bool, true, false, cond, eqb, Option, Some, None, List, [], ◌∷◌, refl, sym, ap, ◌∙◌, inl, inr, ⊎_elim, arith}
use Rattle.std.specs.Prelude.{◌&&◌, ◌||◌, ◌==◌, not, nat_le}
use Rattle.std.specs.Option.{is_some}
use Rattle.std.specs.List.{list_any, range_with_len}
use Rattle.std.proofs.lemmas.Bool.{cases_eq, ne_eqb, eq-eqb}
use Rattle.std.proofs.lemmas.Bool.Decides.{nat_tests}
use Rattle.dl_kinds.specs.Plan.{piece_of, blocks_of}
use Rattle.dl_kinds.specs.declared.runs.Run.{Run}
use Rattle.dl_kinds.specs.declared.marks.Mark.{Mark}
use Rattle.piece_table.specs.Changes.{Change, Clear, is_in}
use Rattle.dl_kinds.specs.declared.claims.Claim.{Claim}
use Rattle.std.specs.Prelude.{replicate, filter, length}
use Rattle.std.proofs.Common.{get_or, set}
use Rattle.std.proofs.lemmas.List.{length-set, get_or-set_same, get_or-set_other}
use Rattle.dl_kinds.specs.Plan.{pieces_of, IsPlan}
use Rattle.piece_table.specs.Progress.{Progress}
use Rattle.piece_table.specs.Steps.{started, landed_by, cleared}
use Rattle.piece_table.specs.Afresh.{after_changes}
use Rattle.dl_history.proofs.Below.{Below}
use Rattle.dl_history.proofs.Bools.{and_left, not_true, open_after, true_not_false}
use Rattle.dl_history.proofs.Early.{below_end, probe_shut}
use Rattle.dl_history.proofs.Ends.{has_ended, has_more, stood_before_landing, stood_before_loss}
use Rattle.dl_history.proofs.Facts.{facts}
use Rattle.dl_history.proofs.Keeping.{afresh, blocks_at, loss_piece, rows, table_at, verified_at}
use Rattle.dl_history.proofs.Members.{Has, filters, find_same}
use Rattle.dl_history.proofs.TableChanges.{changes_of, gone}
use Rattle.dl_history.proofs.Wrong.{clear_shut, landed_clears, landed_lands, landed_loses, loss_shut}
use Rattle.dl_history.specs.Accounts.{Account, after_landing, after_loss, first_still_open, is_busy, is_still_open, unsettled_by, without_claim, without_piece}
use Rattle.dl_history.specs.OwnEvents.{Clears, Lands, Loses, OwnEvent, Sizes}
use Rattle.dl_history.specs.OwnLegal.{LegalOwn}
use Rattle.dl_history.specs.PayloadParts.{is_landed_in, is_sole_in}
use Rattle.dl_history.specs.StandingClaims.{blocks_in, first_open_since, granted_claims, grants_claim, is_open_since, is_probe, is_standing, lands_block, since, standing_claims}

shut_side : (i x : Bool) → i ≡ true → (i && not x) ≡ false → not x ≡ false
shut_side true x is h = h
shut_side false x is h = absurd cc

pub closed_le_set : (xs : List ℕ) (p next : ℕ) → ((q : ℕ) → get_or xs q 0 ≤ next) → (q : ℕ)
    → get_or (set xs p next) q 0 ≤ next
closed_le_set [] p next le q = le q
closed_le_set (x ∷ xs) zero next le zero = omega arith
closed_le_set (x ∷ xs) zero next le (suc q) = le (suc q)
closed_le_set (x ∷ xs) (suc p) next le zero = le zero
closed_le_set (x ∷ xs) (suc p) next le (suc q) = closed_le_set xs p next (λ r. le (suc r)) q

pub has_first : (a n : ℕ) → 1 ≤ n → Has (range_with_len a n) a
has_first a zero some = absurd (omega arith)
has_first a (suc n) some = inl refl

pub filter_same_on : (p q : Claim → Bool) (xs : List Claim) → ((x : Claim) → Has xs x → p x ≡ q x)
    → filter p xs ≡ filter q xs
filter_same_on p q [] same = refl
filter_same_on p q (y ∷ ys) same = rw (same y (inl refl), filter_same_on p q ys (λ x h. same x (inr h))) refl

pub none_stand : (xs : List Claim) (p : Claim → Bool) → ((x : Claim) → Has xs x → p x ≡ false) → filter p xs ≡ []
none_stand [] p none = refl
none_stand (y ∷ ys) p none = rw (none y (inl refl)) (none_stand ys p (λ x h. none x (inr h)))

pub under : (a b : ℕ) → a ≤ b → nat_le a b ≡ true
under a b less = grind (arith, nat_tests)

pub zero_row : (n p : ℕ) → get_or (replicate n 0) p 0 ≤ 0
zero_row zero p = omega arith
zero_row (suc n) zero = omega arith
zero_row (suc n) (suc p) = zero_row n p

pub gone_yes : (len : ℕ) (own : List OwnEvent) (g : Claim) (gs : List Claim) (b p : ℕ) (xs : List Change)
    → first_open_since own g ≡ Some b → piece_of len b ≡ p → is_sole_in own p ≡ true
    → gone len own (g ∷ gs) xs ≡ Clear p ∷ gone len own gs xs
gone_yes len own g gs b p xs first here is = rw (first, here, is) refl

pub gone_no : (len : ℕ) (own : List OwnEvent) (g : Claim) (gs : List Claim) (b p : ℕ) (xs : List Change)
    → first_open_since own g ≡ Some b → piece_of len b ≡ p → is_sole_in own p ≡ false
    → gone len own (g ∷ gs) xs ≡ gone len own gs xs
gone_no len own g gs b p xs first here is = rw (first, here, is) refl

pub gone_none : (len : ℕ) (own : List OwnEvent) (g : Claim) (gs : List Claim) (xs : List Change)
    → first_open_since own g ≡ None → gone len own (g ∷ gs) xs ≡ gone len own gs xs
gone_none len own g gs xs first = rw first refl

-- what is kept: the table that the changes make, the standing claims, and which of their blocks clearings closed
pub record Follows (total len : ℕ) (own : List OwnEvent) (k : Account) : Type 0 where
  pub table : k.progress ≡ table_at total len own
  pub standing_are : k.standing ≡ standing_claims own
  pub long : length k.closed ≡ pieces_of total len
  pub older : (g : Claim) → Has (granted_claims own) g → is_probe g ≡ false → g.id < k.next
  pub next_from : (k.next ≡ 0) ⊎ ((g : Claim) × Has (granted_claims own) g × (g.id + 1 ≡ k.next))
  pub closed_le : (p : ℕ) → get_or k.closed p 0 ≤ k.next
  pub open_is : (g : Claim) (b : ℕ) → Has (granted_claims own) g → is_standing own g ≡ true → b < blocks_of total len
      → is_in b g.run ≡ true
      → (not (is_landed_in len own b) && nat_le (get_or k.closed (piece_of len b) 0) g.id) ≡ not
      (list_any (lands_block b) (since (grants_claim g.id) own))

-- ---- the open blocks are the kept ones

three : (i l c x : Bool) → i ≡ true → (not l && c) ≡ not x → ((i && not l) && c) ≡ (i && not x)
three true l c x is h = h
three false l c x is h = absurd cc

three_not : (i l c x : Bool) → i ≡ false → ((i && not l) && c) ≡ (i && not x)
three_not true l c x is = absurd cc
three_not false l c x is = refl

opens_cases : (total len : ℕ) (own : List OwnEvent) (landed : List Bool) (closed : List ℕ) (g : Claim)
    → g.run.first + g.run.count ≤ blocks_of total len
    → ((b : ℕ) → b < blocks_of total len → get_or landed b false ≡ is_landed_in len own b)
    → ((b : ℕ) → b < blocks_of total len → is_in b g.run ≡ true
    → (not (is_landed_in len own b) && nat_le (get_or closed (piece_of len b) 0) g.id) ≡ not
    (list_any (lands_block b) (since (grants_claim g.id) own)))
    → (x : ℕ) (t : Bool) → is_in x g.run ≡ t
    → (is_in x g.run && not (get_or landed x false) && nat_le (get_or closed (piece_of len x) 0) g.id) ≡ is_open_since
    own g x
opens_cases total len own landed closed g within rows each x true is =
    let below : x < blocks_of total len = let e = below_end x g.run is in omega arith in
    three (is_in x g.run) (get_or landed x false) (nat_le (get_or closed (piece_of len x) 0) g.id)
    (list_any (lands_block x) (since (grants_claim g.id) own)) is
    (rw (rows x below) (each x below is))
opens_cases total len own landed closed g within rows each x false is =
    three_not (is_in x g.run) (get_or landed x false) (nat_le (get_or closed (piece_of len x) 0) g.id)
    (list_any (lands_block x) (since (grants_claim g.id) own)) is

-- the kept claim has the open blocks that the history says
pub opens_same : (total len : ℕ) (own : List OwnEvent) (k : Account) (g : Claim)
    → g.run.first + g.run.count ≤ blocks_of total len → k.progress.piece_len ≡ len
    → ((b : ℕ) → b < blocks_of total len → get_or k.progress.landed b false ≡ is_landed_in len own b)
    → ((b : ℕ) → b < blocks_of total len → is_in b g.run ≡ true
    → (not (is_landed_in len own b) && nat_le (get_or k.closed (piece_of len b) 0) g.id) ≡ not
    (list_any (lands_block b) (since (grants_claim g.id) own)))
    → (x : ℕ) → is_still_open k g x ≡ is_open_since own g x
opens_same total len own k g within len_is rows each x =
    ap (λ (n : ℕ). is_in x g.run && not (get_or k.progress.landed x false)
    && nat_le (get_or k.closed (piece_of n x) 0) g.id) len_is
    ∙ opens_cases total len own k.progress.landed k.closed g within rows each x (is_in x g.run) refl

pub first_same : (laws : Below) (total len : ℕ) (own : List OwnEvent) (k : Account) → IsPlan total len
    → LegalOwn total len own → Follows total len own k → (g : Claim) → Has (granted_claims own) g
    → is_standing own g ≡ true
    → first_still_open k g ≡ first_open_since own g
first_same laws total len own k plan legal f g hg sg =
    find_same (is_still_open k g) (is_open_since own g) (blocks_in g.run)
    (opens_same total len own k g ((facts total len own legal).within g hg)
    (ap (λ (p : Progress). p.piece_len) f.table ∙ (afresh laws total len own plan legal).piece_len_is)
    (λ b below. ap (λ (p : Progress). get_or p.landed b false) f.table ∙ rows laws total len own plan legal b below)
    (λ b below. f.open_is g b hg sg below))

-- ---- a landing

busy_cases : (own : List OwnEvent) (c m : ℕ) (run : Run) (g : Claim) (busy t : Bool) → is_standing own g ≡ t
    → (t ≡ true → busy ≡ has_more (Lands c m run ∷ own) g)
    → (is_standing own g && busy) ≡ is_standing (Lands c m run ∷ own) g
busy_cases own c m run g busy true is same =
    let nd = and_left (not (has_ended own g)) (has_more own g) is in
    rw (is, nd) (same refl)
busy_cases own c m run g busy false is same =
    rw is (sym
    (not_true (is_standing (Lands c m run ∷ own) g)
    (λ s. true_not_false (is_standing own g) (stood_before_landing own c m run g s) is)))

pub lands_follows : (laws : Below) (total len : ℕ) (own : List OwnEvent) (k : Account) (c m : ℕ) (run : Run)
    → IsPlan total len → LegalOwn total len (Lands c m run ∷ own) → Follows total len own k
    → Follows total len (Lands c m run ∷ own) (after_landing k m run)
lands_follows laws total len own k c m run plan legal f =
    let own' = Lands c m run ∷ own in
    let k1 : Account =
    record k { progress = landed_by k.progress run m; settled = unsettled_by k.progress.piece_len run k.settled }
    in
    let table : k1.progress ≡ table_at total len own' = ap (λ (p : Progress). landed_by p run m) f.table in
    let each : (g : Claim) → Has (granted_claims own) g → is_standing own g ≡ true → (b : ℕ) → b < blocks_of total len
    → is_in b g.run ≡ true
    → (not (is_landed_in len own' b) && nat_le (get_or k.closed (piece_of len b) 0) g.id) ≡ not
    (is_in b run || list_any (lands_block b) (since (grants_claim g.id) own)) =
    λ g hg sg b below inside.
    rw (landed_lands total len own c m run legal b below)
    (open_after (is_in b run) (is_landed_in len own b) (nat_le (get_or k.closed (piece_of len b) 0) g.id)
    (list_any (lands_block b) (since (grants_claim g.id) own)) (f.open_is g b hg sg below inside)) in
    record {
      table = table;
      standing_are =
          ap (filter (is_busy k1)) f.standing_are
          ∙ filters (is_busy k1) (is_standing own) (is_standing own') (granted_claims own)
          (λ g hg. busy_cases own c m run g (is_busy k1 g) (is_standing own g) refl
          (λ sg. ap (λ (o : Option ℕ). is_probe g || is_some o)
          (find_same (is_still_open k1 g) (is_open_since own' g) (blocks_in g.run)
          (opens_same total len own' k1 g ((facts total len own legal.0).within g hg)
          (ap (λ (p : Progress). p.piece_len) table ∙ (afresh laws total len own' plan legal).piece_len_is)
          (λ b below. ap (λ (p : Progress). get_or p.landed b false) table
          ∙ rows laws total len own' plan legal b below)
          (each g hg sg)))));
      long = f.long;
      older = f.older;
      next_from = f.next_from;
      closed_le = f.closed_le;
      open_is = λ g b hg sg below inside. each g hg (stood_before_landing own c m run g sg) b below inside;
    }

-- ---- a loss

and_zero : (a : Bool) → (a && false) ≡ false
and_zero true = refl
and_zero false = refl

loss_filter : (e d y : Bool) (a b : ℕ) → eqb a b ≡ e → eqb b a ≡ e
    → ((not d && y) && not (eqb b a)) ≡ (not (eqb a b || d) && y)
loss_filter true d y a b p q = rw (p, q) (and_zero (not d && y))
loss_filter false true y a b p q = rw p refl
loss_filter false false true a b p q = rw (p, q) refl
loss_filter false false false a b p q = rw p refl

sym_eqb : (a b : ℕ) → eqb b a ≡ eqb a b
sym_eqb a b = ⊎_elim (λ (is : a ≡ b). eq-eqb b a (sym is) ∙ sym (eq-eqb a b is))
    (λ (other : a ≢ b). ne_eqb b a (λ e. other (sym e)) ∙ sym (ne_eqb a b other)) (cases_eq a b)

rest_standing : (own : List OwnEvent) (c m p : ℕ) (mark : Mark) (standing_now : List Claim)
    → standing_now ≡ standing_claims own → without_claim c standing_now ≡ standing_claims (Loses c m p mark ∷ own)
rest_standing own c m p mark now are =
    ap (without_claim c) are
    ∙ filters (λ (g : Claim). not (g.id == c)) (is_standing own) (is_standing (Loses c m p mark ∷ own))
    (granted_claims own)
    (λ g hg. loss_filter (eqb c g.id) (has_ended own g) (has_more own g) c g.id refl (sym_eqb c g.id))

over : (next claim : ℕ) → claim < next → nat_le next claim ≡ false
over next claim less = not_true (nat_le next claim)
    (λ h. absurd (let e : next ≤ claim = grind (arith, nat_tests) in omega arith))

pub rest_sized : (own : List OwnEvent) (c told : ℕ) (now : List Claim) → now ≡ standing_claims own
    → without_claim c now ≡ standing_claims (Sizes c told ∷ own)
rest_sized own c told now are =
    ap (without_claim c) are
    ∙ filters (λ (g : Claim). not (g.id == c)) (is_standing own) (is_standing (Sizes c told ∷ own))
    (granted_claims own)
    (λ g hg. loss_filter (eqb c g.id) (has_ended own g) (has_more own g) c g.id refl (sym_eqb c g.id))

pub loses_cases : (laws : Below) (total len : ℕ) (own : List OwnEvent) (k : Account) (c m p : ℕ) (mark : Mark)
    → IsPlan total len → LegalOwn total len (Loses c m p mark ∷ own) → Follows total len own k
    → (s : Bool) → is_sole_in own p ≡ s → get_or k.progress.sole p false ≡ s
    → Follows total len (Loses c m p mark ∷ own) (after_loss k c p)
loses_cases laws total len own k c m p mark plan legal f false is flag =
    let own' = Loses c m p mark ∷ own in
    rw flag (record {
      table = f.table ∙ ap (after_changes (started total len (verified_at total len own) (blocks_at total len own)))
          (sym (ap (λ (t : Bool). cond t (Clear p ∷ changes_of len own) (changes_of len own)) is));
      standing_are = rest_standing own c m p mark k.standing f.standing_are;
      long = f.long;
      older = f.older;
      next_from = f.next_from;
      closed_le = f.closed_le;
      open_is = λ g b hg sg below inside.
          rw (landed_loses total len own c m p mark legal b (λ sole here. true_not_false (is_sole_in own p) sole is))
          (f.open_is g b hg (stood_before_loss own c m p mark g sg) below inside);
    })
loses_cases laws total len own k c m p mark plan legal f true is flag =
    let own' = Loses c m p mark ∷ own in
    let in_plan : p < pieces_of total len = loss_piece laws total len own c m p plan legal.0 legal.1 is in
    rw flag (record {
      table = ap (λ (q : Progress). cleared q p) f.table
          ∙ ap (after_changes (started total len (verified_at total len own) (blocks_at total len own)))
          (sym (ap (λ (t : Bool). cond t (Clear p ∷ changes_of len own) (changes_of len own)) is));
      standing_are = rest_standing own c m p mark k.standing f.standing_are;
      long = length-set k.closed p k.next ∙ f.long;
      older = f.older;
      next_from = f.next_from;
      closed_le = closed_le_set k.closed p k.next f.closed_le;
      open_is = λ g b hg sg below inside.
          ⊎_elim
          (λ (here : piece_of len b ≡ p).
          let top : get_or (set k.closed p k.next) (piece_of len b) 0 ≡ k.next =
          ap (λ (n : ℕ). get_or (set k.closed p k.next) n 0) here
          ∙ get_or-set_same k.closed p k.next 0 (omega (arith, f.long)) in
          let shut : is_open_since own g b ≡ false =
          not_true (is_open_since own g b) (loss_shut total len own c m p mark legal.0 legal.1 g b hg sg is here) in
          rw (top, over k.next g.id (f.older g hg (not_true (is_probe g) (λ is. probe_shut g b is inside))))
          (and_zero (not (is_landed_in len own' b))
          ∙ sym (shut_side (is_in b g.run) (list_any (lands_block b) (since (grants_claim g.id) own)) inside
          shut)))
          (λ (other : piece_of len b ≢ p).
          rw (
            get_or-set_other k.closed p (piece_of len b) k.next 0 other,
            landed_loses total len own c m p mark legal
                b (λ sole here. other here),
          )
          (f.open_is g b hg (stood_before_loss own c m p mark g sg) below inside))
          (cases_eq (piece_of len b) p);
    })

-- ---- a clearing

pub clears_follows : (laws : Below) (total len : ℕ) (own : List OwnEvent) (k : Account) (p : ℕ) → IsPlan total len
    → LegalOwn total len (Clears p ∷ own) → Follows total len own k
    → Follows total len (Clears p ∷ own) (without_piece k p)
clears_follows laws total len own k p plan legal f =
    record {
      table = ap (λ (q : Progress). cleared q p) f.table;
      standing_are = f.standing_are;
      long = length-set k.closed p k.next ∙ f.long;
      older = f.older;
      next_from = f.next_from;
      closed_le = closed_le_set k.closed p k.next f.closed_le;
      open_is = λ g b hg sg below inside.
          ⊎_elim
          (λ (here : piece_of len b ≡ p).
          let top : get_or (set k.closed p k.next) (piece_of len b) 0 ≡ k.next =
          ap (λ (n : ℕ). get_or (set k.closed p k.next) n 0) here
          ∙ get_or-set_same k.closed p k.next 0 (let w = legal.1.within in omega (arith, f.long)) in
          let shut : is_open_since own g b ≡ false = clear_shut total len own p legal.0 legal.1.cause g b hg sg below
          here in
          rw (top, over k.next g.id (f.older g hg (not_true (is_probe g) (λ is. probe_shut g b is inside))))
          (and_zero (not (is_landed_in len (Clears p ∷ own) b))
          ∙ sym (shut_side (is_in b g.run) (list_any (lands_block b) (since (grants_claim g.id) own)) inside
          shut)))
          (λ (other : piece_of len b ≢ p).
          rw (
            get_or-set_other k.closed p (piece_of len b) k.next 0 other,
            landed_clears len own p b
                (λ e. other (sym e)),
          )
          (f.open_is g b hg sg below inside))
          (cases_eq (piece_of len b) p);
    }
