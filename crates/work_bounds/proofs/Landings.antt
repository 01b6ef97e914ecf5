-- How often a block lands.
use Rattle.std.proofs.Common.{◌≡◌, ◌≢◌, ◌⊎◌, ℕ, suc, ◌+◌, ◌*◌, ◌<◌, ◌≤◌, Bool, true, false, cond, eqb, List, [], ◌∷◌, refl, sym, ap, ◌∙◌, subst, inl, inr, ⊎_elim, arith}
use Rattle.std.specs.Prelude.{◌&&◌, not}
use Rattle.std.proofs.lemmas.Bool.{cases_eq, eq-eqb, eqb-true}
use Rattle.dl_kinds.specs.Plan.{blocks_of, piece_of}
use Rattle.dl_kinds.specs.declared.claims.Claim.{Claim}
use Rattle.dl_kinds.specs.declared.marks.Mark.{Mark}
use Rattle.dl_kinds.specs.declared.runs.Moment.{Moment}
use Rattle.dl_kinds.specs.declared.runs.Run.{Run}
use Rattle.piece_table.specs.Changes.{Absent, Source, given, is_in, is_present}
use Rattle.piece_table.specs.declared.giver.Giver.{Giver}
use Rattle.dl_history.proofs.Bools.{and_left, and_right, not_true}
use Rattle.dl_history.proofs.Early.{below_end, early, first_in}
use Rattle.dl_history.proofs.Ends.{has_come}
use Rattle.dl_history.proofs.Facts.{facts}
use Rattle.dl_history.proofs.Members.{Has, has_filter}
use Rattle.dl_history.proofs.TableChanges.{table_source}
use Rattle.dl_history.specs.OwnEvents.{Checks, Clears, Grants, Halts, Lands, Loses, Opens, OwnEvent, Saves, Settles, Sizes}
use Rattle.dl_history.specs.OwnLegal.{IsLossOf, IsWrongLast, LegalOwn, MayLand}
use Rattle.dl_history.specs.PayloadParts.{is_alive, is_sole_in}
use Rattle.dl_history.specs.StandingClaims.{granted_claims, is_standing, lands_block}
use Rattle.work_bounds.proofs.Findings.{few_fails, losses, wrongs}
use Rattle.work_bounds.proofs.Ordered.{Ordered, earlier, lander}
use Rattle.work_bounds.proofs.Pauses.{halts, none_rests, pauses, pauses_few, rests}
use Rattle.work_bounds.proofs.Sources.{clear_apart, clear_here, found_source, loss_apart, loss_of_sole, open_absent, unlanded_absent}
use Rattle.work_bounds.proofs.Tallies.{few_in_all, tally, tally_more}

abbrev source_bit : Source → ℕ
source_bit x = cond (is_present x) 1 0

-- 1 where the block is there, and where the download rests
abbrev pub presence : ℕ → List OwnEvent → ℕ → ℕ
presence len own b = cond (is_present (table_source len own b)) 1 0

abbrev pub slack : ℕ → List OwnEvent → ℕ → ℕ
slack len own b = cond (rests own) 1 (presence len own b)

-- how often its blocks may have gone, and it may be there
abbrev pub room : ℕ → List OwnEvent → ℕ → ℕ
room len own b = wrongs own (piece_of len b) + losses own (piece_of len b) + pauses own + slack len own b

abbrev pub landings : List OwnEvent → ℕ → ℕ
landings own b = tally (lands_block b) own

-- after a wrong finding there is room for one more
pub record LandingsFit (len : ℕ) (own : List OwnEvent) (b : ℕ) : Type 0 where
  pub few : landings own b ≤ room len own b
  pub due : IsWrongLast len (piece_of len b) own → landings own b + 1 ≤ room len own b

bit : (t : Bool) → cond t 1 0 ≤ 1
bit true = omega arith
bit false = omega arith

slack_bit : (t u : Bool) → cond t 1 (cond u 1 0) ≤ 1
slack_bit true u = omega arith
slack_bit false u = bit u

slack_less : (t : Bool) (m n : ℕ) → m ≤ n → cond t 1 m ≤ cond t 1 n
slack_less true m n le = omega arith
slack_less false m n le = le

-- an event after which there is no less room
wider : (len : ℕ) (own : List OwnEvent) (e : OwnEvent) (b : ℕ) → LandingsFit len own b
    → landings (e ∷ own) b ≡ landings own b → room len own b ≤ room len (e ∷ own) b
    → (IsWrongLast len (piece_of len b) (e ∷ own) → IsWrongLast len (piece_of len b) own)
    → LandingsFit len (e ∷ own) b
wider len own e b fit same more was =
    record {
      few = let f = fit.few in omega arith;
      due = λ w. let f = fit.due (was w) in omega arith;
    }

-- ---- the opening, a grant

absent_presence : (len : ℕ) (own : List OwnEvent) (b : ℕ) → table_source len own b ≡ Absent → presence len own b ≡ 0
absent_presence len own b gone = ap (λ (s : Source). cond (is_present s) 1 0) gone

opens_fit : (total len : ℕ) (own : List OwnEvent) (verified blocks : List Bool)
    (now : Moment) (b : ℕ)
    → LegalOwn total len (Opens verified blocks now ∷ own) → b < blocks_of total len → LandingsFit len own b
    → LandingsFit len (Opens verified blocks now ∷ own) b
opens_fit total len own verified blocks now b legal below fit =
    let gone = unlanded_absent total len own b legal.0 below
    (ap is_present ((early total len own legal.0 legal.1.first).absent (is_alive own) (piece_of len b) b)) in
    let none = absent_presence len own b gone in
    let s = slack_less (rests own) (presence len own b) (presence len (Opens verified blocks now ∷ own) b)
    (omega arith) in
    wider len own (Opens verified blocks now) b fit refl (omega arith) (λ w. absurd w)

grant_room : (t : Bool) (r k h x : ℕ) → x ≤ 1 → k + cond t 1 0 ≤ h → r + k + cond t 1 x ≤ r + h + x
grant_room true r k h x small le = omega arith
grant_room false r k h x small le = omega arith

grants_fit : (len : ℕ) (own : List OwnEvent) (cl : Claim) (b : ℕ)
    → LandingsFit len own b → LandingsFit len (Grants cl ∷ own) b
grants_fit len own cl b fit =
    wider len own (Grants cl) b fit refl
    (grant_room (rests own) (wrongs own (piece_of len b) + losses own (piece_of len b)) (pauses own) (halts own)
    (presence len own b) (bit (is_present (table_source len own b))) (pauses_few own)) (λ w. w)

-- ---- a landing

absent_bit : (x : Source) → x ≡ Absent → source_bit x ≡ 0
absent_bit x gone = ap source_bit gone

given_bit : (x : Source) (m : ℕ) → x ≡ Absent → source_bit (given x m) ≡ 1
given_bit x m gone = ap (λ (s : Source). source_bit (given s m)) gone

landed_cases : (t : Bool) (n r : ℕ) (x : Source) (m : ℕ) → (t ≡ true → x ≡ Absent) → n ≤ r + source_bit x
    → cond t (suc n) n ≤ r + source_bit (cond t (given x m) x)
landed_cases true n r x m gone le =
    let e = absent_bit x (gone refl) in
    let f = given_bit x m (gone refl) in
    omega arith
landed_cases false n r x m gone le = le

landed_due : (t : Bool) (n r : ℕ) (x : Source) (m : ℕ) → t ≡ false → n + 1 ≤ r + source_bit x
    → cond t (suc n) n + 1 ≤ r + source_bit (cond t (given x m) x)
landed_due true n r x m off le = absurd cc
landed_due false n r x m off le = le

lands_fit : (total len mirrors tries : ℕ) (own : List OwnEvent) (c m : ℕ) (run : Run) (b : ℕ)
    → Ordered total len mirrors tries (Lands c m run ∷ own) → b < blocks_of total len → LandingsFit len own b
    → (t : Bool) → rests own ≡ t → LandingsFit len (Lands c m run ∷ own) b
lands_fit total len mirrors tries own c m run b o below fit true is =
    absurd (none_rests own is o.legal.1.claim (lander own c m run o.legal.1))
lands_fit total len mirrors tries own c m run b o below fit false is =
    let may = o.legal.1 in
    let there = has_filter (is_standing own) (granted_claims own) may.claim (lander own c m run may) in
    let p = piece_of len b in
    let r = wrongs own p + losses own p + pauses own in
    let x = table_source len own b in
    let as_it_is : slack len own b ≡ presence len own b = ap (λ (t : Bool). cond t 1 (presence len own b)) is in
    let after : slack len (Lands c m run ∷ own) b ≡ presence len (Lands c m run ∷ own) b =
    ap (λ (t : Bool). cond t 1 (presence len (Lands c m run ∷ own) b)) is in
    record {
      few = let f : landings own b ≤ r + presence len own b = let g = fit.few in omega arith in
          let h = landed_cases (is_in b run) (landings own b) r x m
          (λ here. open_absent total len own may.claim b o.legal.0 below there.0 there.1 (may.open_in b here)) f in
          omega arith;
      due = λ w.
          let f : landings own b + 1 ≤ r + presence len own b = let g = fit.due w.1 in omega arith in
          let off : is_in b run ≡ false = not_true (is_in b run) (λ here. w.0 b here refl) in
          let h = landed_due (is_in b run) (landings own b) r x m off f in
          omega arith;
    }

-- ---- a finding

more_than : (t : Bool) (n : ℕ) → n ≤ cond t (suc n) n
more_than true n = omega arith
more_than false n = omega arith

found_slack : (len : ℕ) (own : List OwnEvent) (q : ℕ) (right : Bool) (giver : Giver) (b : ℕ)
    → slack len (Settles q right giver ∷ own) b ≡ slack len own b
found_slack len own q right giver b =
    ap (λ (s : Source). cond (rests own) 1 (cond (is_present s) 1 0)) (found_source len own q right giver b)

right_fit : (len : ℕ) (own : List OwnEvent) (q : ℕ) (giver : Giver) (b : ℕ) → LandingsFit len own b
    → LandingsFit len (Settles q true giver ∷ own) b
right_fit len own q giver b fit =
    let s = found_slack len own q true giver b in
    wider len own (Settles q true giver) b fit refl (omega arith)
    (λ w.
    ⊎_elim
    (λ (now : (q ≡ piece_of len b) × (true ≡ false)). absurd (let e = now.1 in cc))
    (λ (old : (q ≢ piece_of len b) × IsWrongLast len (piece_of len b) own). old.1)
    w)

wrong_fit : (len : ℕ) (own : List OwnEvent) (q : ℕ) (giver : Giver) (b : ℕ) → LandingsFit len own b
    → LandingsFit len (Settles q false giver ∷ own) b
wrong_fit len own q giver b fit =
    let p = piece_of len b in
    let s = found_slack len own q false giver b in
    let m = more_than (eqb q p) (wrongs own p) in
    record {
      few = let f = fit.few in omega arith;
      due = λ w.
          ⊎_elim
          (λ (now : (q ≡ p) × (false ≡ false)).
          let f = fit.few in
          let e : cond (eqb q p) (suc (wrongs own p)) (wrongs own p) ≡ suc (wrongs own p) =
          ap (λ (t : Bool). cond t (suc (wrongs own p)) (wrongs own p)) (eq-eqb q p now.0) in
          omega arith)
          (λ (old : (q ≢ p) × IsWrongLast len p own). let f = fit.due old.1 in omega arith)
          w;
    }

-- ---- a clearing

-- after the loss of a sole piece nothing of it is there
lost_absent : (len : ℕ) (own : List OwnEvent) (p b : ℕ) → IsLossOf p own → piece_of len b ≡ p
    → table_source len own b ≡ Absent
lost_absent len [] p b loss here = absurd loss
lost_absent len (Opens verified blocks now ∷ own) p b loss here = absurd loss
lost_absent len (Grants cl ∷ own) p b loss here = absurd loss
lost_absent len (Lands c m run ∷ own) p b loss here = absurd loss
lost_absent len (Settles q right giver ∷ own) p b loss here = absurd loss
lost_absent len (Clears q ∷ own) p b loss here = absurd loss
lost_absent len (Loses c m q mark ∷ own) p b loss here =
    loss_of_sole len own c m q mark b (subst (λ (x : ℕ). is_sole_in own x ≡ true) (sym loss.0) loss.1)
    (here ∙ sym loss.0)
lost_absent len (Sizes c told ∷ own) p b loss here = absurd loss
lost_absent len (Saves now ∷ own) p b loss here = absurd loss
lost_absent len (Checks right ∷ own) p b loss here = absurd loss
lost_absent len (Halts ends ∷ own) p b loss here = absurd loss

gone_room : (t : Bool) (n r x : ℕ) → x ≤ 1 → (n + 1 ≤ r + cond t 1 x) ⊎ ((n ≤ r + cond t 1 x) × (x ≡ 0))
    → n ≤ r + cond t 1 0
gone_room true n r x small (inl le) = omega arith
gone_room true n r x small (inr le) = le.0
gone_room false n r x small (inl le) = omega arith
gone_room false n r x small (inr le) = let a = le.0 in let b = le.1 in omega arith

clears_fit_here : (total len : ℕ) (own : List OwnEvent) (q b : ℕ) → LegalOwn total len (Clears q ∷ own)
    → q ≡ piece_of len b
    → LandingsFit len own b → LandingsFit len (Clears q ∷ own) b
clears_fit_here total len own q b legal is fit =
    let p = piece_of len b in
    let r = wrongs own p + losses own p + pauses own in
    let gone : slack len (Clears q ∷ own) b ≡ cond (rests own) 1 0 =
    ap (λ (s : Source). cond (rests own) 1 (cond (is_present s) 1 0)) (clear_here len own q b (sym is)) in
    let h : landings own b ≤ r + cond (rests own) 1 0 =
    gone_room (rests own) (landings own b) r (presence len own b) (bit (is_present (table_source len own b)))
    (⊎_elim
    (λ (loss : IsLossOf q own).
    inr (fit.few, absent_presence len own b (lost_absent len own q b loss (sym is))))
    (λ (w : IsWrongLast len q own). inl (fit.due (subst (λ (x : ℕ). IsWrongLast len x own) is w)))
    legal.1.cause) in
    record { few = omega arith; due = λ w. absurd (w.0 is) }

clears_fit_apart : (len : ℕ) (own : List OwnEvent) (q b : ℕ) → q ≢ piece_of len b → LandingsFit len own b
    → LandingsFit len (Clears q ∷ own) b
clears_fit_apart len own q b apart fit =
    let s : slack len (Clears q ∷ own) b ≡ slack len own b =
    ap (λ (x : Source). cond (rests own) 1 (cond (is_present x) 1 0)) (clear_apart len own q b (λ e. apart (sym e))) in
    wider len own (Clears q) b fit refl (omega arith) (λ w. w.1)

-- ---- a loss

loses_fit_here : (len : ℕ) (own : List OwnEvent) (c m q : ℕ) (mark : Mark) (b : ℕ) → q ≡ piece_of len b
    → LandingsFit len own b → LandingsFit len (Loses c m q mark ∷ own) b
loses_fit_here len own c m q mark b is fit =
    let p = piece_of len b in
    let e : cond (eqb q p) (suc (losses own p)) (losses own p) ≡ suc (losses own p) =
    ap (λ (t : Bool). cond t (suc (losses own p)) (losses own p)) (eq-eqb q p is) in
    let s = slack_bit (rests own) (is_present (table_source len own b)) in
    wider len own (Loses c m q mark) b fit refl (omega arith) (λ w. w)

loses_fit_apart : (len : ℕ) (own : List OwnEvent) (c m q : ℕ) (mark : Mark) (b : ℕ) → q ≢ piece_of len b
    → LandingsFit len own b → LandingsFit len (Loses c m q mark ∷ own) b
loses_fit_apart len own c m q mark b apart fit =
    let p = piece_of len b in
    let s : slack len (Loses c m q mark ∷ own) b ≡ slack len own b =
    ap (λ (x : Source). cond (rests own) 1 (cond (is_present x) 1 0))
    (loss_apart len own c m q mark b (λ e. apart (sym e))) in
    let more = more_than (eqb q p) (losses own p) in
    wider len own (Loses c m q mark) b fit refl (omega arith) (λ w. w)

-- ---- every event

pub landings_fit : (total len mirrors tries : ℕ) (own : List OwnEvent) → Ordered total len mirrors tries own → (b : ℕ)
    → b < blocks_of total len → LandingsFit len own b
landings_fit total len mirrors tries [] o b below = record { few = omega arith; due = λ w. absurd w }
landings_fit total len mirrors tries (Opens verified blocks now ∷ own) o b below =
    opens_fit total len own verified blocks now b o.legal below
    (landings_fit total len mirrors tries own (earlier total len mirrors tries
    (Opens verified blocks now) own o) b below)
landings_fit total len mirrors tries (Grants cl ∷ own) o b below =
    grants_fit len own cl b
    (landings_fit total len mirrors tries own (earlier total len mirrors tries (Grants cl) own o) b below)
landings_fit total len mirrors tries (Lands c m run ∷ own) o b below =
    lands_fit total len mirrors tries own c m run b o below
    (landings_fit total len mirrors tries own (earlier total len mirrors tries (Lands c m run) own o) b below)
    (rests own) refl
landings_fit total len mirrors tries (Settles q true giver ∷ own) o b below =
    right_fit len own q giver b
    (landings_fit total len mirrors tries own (earlier total len mirrors tries (Settles q true giver) own o) b below)
landings_fit total len mirrors tries (Settles q false giver ∷ own) o b below =
    wrong_fit len own q giver b
    (landings_fit total len mirrors tries own (earlier total len mirrors tries (Settles q false giver) own o) b below)
landings_fit total len mirrors tries (Clears q ∷ own) o b below =
    let fit = landings_fit total len mirrors tries own (earlier total len mirrors tries (Clears q) own o) b below in
    ⊎_elim
    (λ (is : q ≡ piece_of len b). clears_fit_here total len own q b o.legal is fit)
    (λ (apart : q ≢ piece_of len b). clears_fit_apart len own q b apart fit)
    (cases_eq q (piece_of len b))
landings_fit total len mirrors tries (Loses c m q mark ∷ own) o b below =
    let fit = landings_fit total len mirrors tries own (earlier total len mirrors tries
    (Loses c m q mark) own o) b below in
    ⊎_elim
    (λ (is : q ≡ piece_of len b). loses_fit_here len own c m q mark b is fit)
    (λ (apart : q ≢ piece_of len b). loses_fit_apart len own c m q mark b apart fit)
    (cases_eq q (piece_of len b))
landings_fit total len mirrors tries (Sizes c told ∷ own) o b below =
    wider len own (Sizes c told) b
    (landings_fit total len mirrors tries own (earlier total len mirrors tries (Sizes c told) own o) b below)
    refl (omega arith) (λ w. w)
landings_fit total len mirrors tries (Saves now ∷ own) o b below =
    wider len own (Saves now) b
    (landings_fit total len mirrors tries own (earlier total len mirrors tries (Saves now) own o) b below)
    refl (omega arith) (λ w. w)
landings_fit total len mirrors tries (Checks right ∷ own) o b below =
    wider len own (Checks right) b
    (landings_fit total len mirrors tries own (earlier total len mirrors tries (Checks right) own o) b below)
    refl (omega arith) (λ w. w)
landings_fit total len mirrors tries (Halts ends ∷ own) o b below =
    let s = slack_bit (rests own) (is_present (table_source len own b)) in
    wider len own (Halts ends) b
    (landings_fit total len mirrors tries own (earlier total len mirrors tries (Halts ends) own o) b below)
    refl (omega arith) (λ w. w)

pub few_landings : (total len mirrors tries : ℕ) (own : List OwnEvent) → Ordered total len mirrors tries own → (b : ℕ)
    → b < blocks_of total len → landings own b ≤ mirrors * tries + 2 + pauses own
few_landings total len mirrors tries own o b below =
    let f = (landings_fit total len mirrors tries own o b below).few in
    let r = few_fails total len mirrors tries own o (piece_of len b) in
    let s = slack_bit (rests own) (is_present (table_source len own b)) in
    omega arith

-- ---- all landings

abbrev pub is_landing : OwnEvent → Bool
is_landing (Lands id mirror run) = true
is_landing e = false

abbrev pub first_block : OwnEvent → ℕ
first_block (Lands id mirror run) = run.first
first_block e = 0

pub record FirstLands (total len : ℕ) (e : OwnEvent) : Type 0 where
  pub below : first_block e < blocks_of total len
  pub lands : lands_block (first_block e) e ≡ true

pub first_lands : (total len : ℕ) (own : List OwnEvent) (c m : ℕ) (run : Run) → LegalOwn total len own
    → MayLand own c m run
    → FirstLands total len (Lands c m run)
first_lands total len own c m run legal may =
    let inside = first_in run may.some in
    let there = has_filter (is_standing own) (granted_claims own) may.claim (lander own c m run may) in
    let claimed = and_left (is_in run.first may.claim.run) (not (has_come own may.claim run.first))
    (may.open_in run.first inside) in
    let w = (facts total len own legal).within may.claim there.0 in
    let e = below_end run.first may.claim.run claimed in
    record { below = omega arith; lands = inside }

other_event : {P : Type 0} (x e : OwnEvent) → x ≡ e → is_landing x ≡ false → is_landing e ≡ true → P
other_event x e same off is = absurd (let bad : true ≡ false = sym is ∙ (ap is_landing (sym same) ∙ off) in cc)

pub landings_first : (total len : ℕ) (own : List OwnEvent) → LegalOwn total len own → (e : OwnEvent) → Has own e
    → is_landing e ≡ true → FirstLands total len e
landings_first total len [] legal e has is = absurd has
landings_first total len (x ∷ own) legal e (inr has) is = landings_first total len own legal.0 e has is
landings_first total len (Lands c m run ∷ own) legal e (inl same) is =
    subst (FirstLands total len) same (first_lands total len own c m run legal.0 legal.1)
landings_first total len (Opens verified blocks now ∷ own) legal e (inl same) is = other_event
    (Opens verified blocks now) e same refl is
landings_first total len (Grants cl ∷ own) legal e (inl same) is = other_event (Grants cl) e same refl is
landings_first total len (Settles q right giver ∷ own) legal e (inl same) is = other_event
    (Settles q right giver) e same refl is
landings_first total len (Clears q ∷ own) legal e (inl same) is = other_event (Clears q) e same refl is
landings_first total len (Loses c m q mark ∷ own) legal e (inl same) is = other_event (Loses c m q mark) e same refl is
landings_first total len (Sizes c told ∷ own) legal e (inl same) is = other_event (Sizes c told) e same refl is
landings_first total len (Saves now ∷ own) legal e (inl same) is = other_event (Saves now) e same refl is
landings_first total len (Checks right ∷ own) legal e (inl same) is = other_event (Checks right) e same refl is
landings_first total len (Halts ends ∷ own) legal e (inl same) is = other_event (Halts ends) e same refl is

class_lands : (k : ℕ) (e : OwnEvent) → (is_landing e ≡ true → lands_block (first_block e) e ≡ true)
    → (eqb (first_block e) k && is_landing e) ≡ true → lands_block k e ≡ true
class_lands k e first is =
    subst (λ (n : ℕ). lands_block n e ≡ true) (eqb-true (first_block e) k (and_left (eqb (first_block e) k)
    (is_landing e) is))
    (first (and_right (eqb (first_block e) k) (is_landing e) is))

pub few_landings_in_all : (total len mirrors tries : ℕ) (own : List OwnEvent) → Ordered total len mirrors tries own
    → tally is_landing own ≤ blocks_of total len * (mirrors * tries + 2 + pauses own)
few_landings_in_all total len mirrors tries own o =
    few_in_all first_block is_landing (blocks_of total len) (mirrors * tries + 2 + pauses own) own
    (λ e has is. (landings_first total len own o.legal e has is).below)
    (λ k below.
    let more = tally_more (λ e. eqb (first_block e) k && is_landing e) (lands_block k) own
    (λ e has is. class_lands k e (λ landing. (landings_first total len own o.legal e has landing).lands) is) in
    let f = few_landings total len mirrors tries own o k below in
    omega arith)
