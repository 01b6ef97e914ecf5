-- How many marks a turn's events hold against a mirror for a piece.
use Rattle.std.proofs.Common.{◌≡◌, ◌⊎◌, ⊎_elim, inl, inr, ℕ, suc, ◌+◌, ◌≤◌, ◌++◌, Bool, true, false, cond, Option, Some, None, List, [], ◌∷◌, refl, sym, ap, ◌∙◌, subst, arith}
use Rattle.std.specs.Prelude.{Contains, ◌==◌, ◌&&◌, count_by}
use Rattle.std.specs.List.{cons_option}
use Rattle.std.proofs.lemmas.Bool.{eqb-true}
use Rattle.std.proofs.lemmas.List.Sums.{sum_by-cons}
use Rattle.dl_history.proofs.Bools.{and_left, and_right, not_true}
use Rattle.dl_history.specs.OwnEvents.{Checks, Clears, Grants, Halts, Lands, Loses, Opens, OwnEvent, Saves, Settles, Sizes}
use Rattle.dl_history.specs.PayloadParts.{blame_in, blames_in}
use Rattle.dl_kinds.specs.declared.gid.Gid.{Gid}
use Rattle.dl_kinds.specs.declared.marks.Mark.{Mark}
use Rattle.engine_turns.specs.Phases.{AndThen, BreaksOff, ContinuesWith, Phase}
use Rattle.engine_turns.specs.Told.{history_after}
use Rattle.engine_turns.specs.declared.outcome.Outcome.TheVariants.{Went}
use Rattle.machine_core.proofs.Parts.{gid_is}
use Rattle.machine_core.specs.OwnParts.{halted_where, halts_by, own_of}
use Rattle.machine_core.specs.Replays.{is_same_gid}
use Rattle.machine_core.specs.RunLegal.{marks_in}
use Rattle.machine_core.specs.Starts.{RunStart}
use Rattle.machine_core.specs.declared.events.Event.{Event}
use Rattle.machine_core.specs.declared.events.Event.TheVariants.{Called, Opened, Sized, Claimed, Landed, Settled, Cleared, Lost, Checked, Saved, Ended, Left, Stopped}
use Rattle.mirror_blame.specs.Marks.{is_of}
use Rattle.mirror_blame.specs.declared.blame.Blame.{Blame}
use Rattle.piece_table.specs.declared.giver.Giver.{Giver}
use Rattle.piece_table.specs.declared.giver.Giver.TheVariants.{Mixed, Nobody, One}
use Rattle.stored_run.proofs.OfOne.{AllowsOnly, Each}

-- ---- sums

count_more : {A : Type 0} (p : A → Bool) (x : A) (xs : List A) → count_by p (x ∷ xs) ≡ cond (p x) 1 0 + count_by p xs
count_more p x xs = sum_by-cons (λ y. cond (p y) 1 0) x xs

count_both : {A : Type 0} (p : A → Bool) (xs ys : List A) → count_by p (xs ++ ys) ≡ count_by p xs + count_by p ys
count_both p [] ys = omega arith
count_both p (x ∷ xs) ys =
    let more = count_more p x (xs ++ ys) in
    let here = count_more p x xs in
    let rest = count_both p xs ys in
    omega (arith, more, here, rest)

-- ---- events that mark

module _ (gid : Gid) (mirror piece : ℕ) where
  abbrev pub marking : Event → Bool
  marking (Lost other id m p mark) = is_same_gid gid other && (m == mirror && p == piece)
  marking (Settled other p false (One m)) = is_same_gid gid other && (m == mirror && p == piece)
  marking e = false

  abbrev pub marked : List Event → ℕ
  marked events = count_by marking events

  -- such an event is a loss, or the finding of a piece that the mirror alone gave
  abbrev pub MarksIt : Event → Type 0
  MarksIt e = ((id : ℕ) × (mark : Mark) × (e ≡ Lost gid id mirror piece mark)) ⊎ (e ≡ Settled gid piece false (One mirror))

  same_parts : (other : Gid) (m p : ℕ) → (is_same_gid gid other && (m == mirror && p == piece)) ≡ true
      → (other ≡ gid) × (m ≡ mirror) × (p ≡ piece)
  same_parts other m p is =
      let rest = and_right (is_same_gid gid other) (m == mirror && p == piece) is in (
        gid_is gid other (and_left (is_same_gid gid other) (m == mirror && p == piece) is),
        eqb-true m mirror (and_left (m == mirror) (p == piece) rest),
        eqb-true p piece (and_right (m == mirror) (p == piece) rest),
      )

  found_is : (other : Gid) (p : ℕ) (right : Bool) (giver : Giver) → marking (Settled other p right giver) ≡ true
      → MarksIt (Settled other p right giver)
  found_is other p true giver is = absurd cc
  found_is other p false Nobody is = absurd cc
  found_is other p false Mixed is = absurd cc
  found_is other p false (One m) is =
      let same = same_parts other m p is in
      inr (λ i. Settled (same.0 i) (same.2 i) false (One (same.1 i)))

  pub marks_is : (e : Event) → marking e ≡ true → MarksIt e
  marks_is (Lost other id m p mark) is =
      let same = same_parts other m p is in
      inl (id, mark, λ i. Lost (same.0 i) id (same.1 i) (same.2 i) mark)
  marks_is (Settled other p right giver) is = found_is other p right giver is
  marks_is (Called session asked now) is = absurd cc
  marks_is (Opened other verified blocks now) is = absurd cc
  marks_is (Sized other id total) is = absurd cc
  marks_is (Claimed other claim) is = absurd cc
  marks_is (Landed other id n run now) is = absurd cc
  marks_is (Cleared other p) is = absurd cc
  marks_is (Checked other right) is = absurd cc
  marks_is (Saved other now) is = absurd cc
  marks_is (Ended other how) is = absurd cc
  marks_is Left is = absurd cc
  marks_is Stopped is = absurd cc

  pub marked_none : (events : List Event) → ((e : Event) → Contains events e → ¬ MarksIt e) → marked events ≡ 0
  marked_none [] none = refl
  marked_none (e ∷ events) none =
      count_more marking e events
      ∙ (λ i. cond (not_true (marking e) (λ is. none e (0, omega arith, refl) (marks_is e is)) i) 1 0
      + marked_none events (λ x there. none x (suc there.0, (let within = there.1 in omega (arith, within)), there.2)) i)

  -- none of them marks, or one does
  pub marked_some : (events : List Event) → (marked events ≡ 0) ⊎ ((e : Event) × Contains events e × MarksIt e)
  marked_some [] = inl refl
  marked_some (e ∷ events) = by (marking e) refl (marked_some events)
    where
      by : (b : Bool) → marking e ≡ b → (marked events ≡ 0) ⊎ ((x : Event) × Contains events x × MarksIt x)
          → (marked (e ∷ events) ≡ 0) ⊎ ((x : Event) × Contains (e ∷ events) x × MarksIt x)
      by true is rest = inr (e, (0, omega arith, refl), marks_is e is)
      by false is (inl none) = inl (count_more marking e events ∙ (λ i. cond (is i) 1 0 + none i))
      by false is (inr some) =
          inr (some.0, (suc some.1.0, (let within = some.1.1 in omega (arith, within)), some.1.2), some.2)

  -- ---- phases

  abbrev pub FewMarks : ℕ → Phase → Type 0
  FewMarks most P = (past events : List Event) (o : _) → P past events o → marked events ≤ most

  each_none : (events : List Event) → Each (λ e. ¬ MarksIt e) events → marked events ≡ 0
  each_none [] all = refl
  each_none (e ∷ events) (here, all) =
      count_more marking e events
      ∙ (λ i. cond (not_true (marking e) (λ is. here (marks_is e is)) i) 1 0 + each_none events all i)

  pub few_none : (P : Phase) → AllowsOnly (λ e. ¬ MarksIt e) P → FewMarks 0 P
  few_none P only past events o is = let none = each_none events (only past events o is) in omega (arith, none)

  pub few_one : (e : Event) → marked (e ∷ []) ≤ 1
  few_one e = let more = count_more marking e [] in let some = at_most (marking e) in omega (arith, more, some)
    where
      at_most : (b : Bool) → cond b 1 0 ≤ 1
      at_most true = omega arith
      at_most false = omega arith

  pub few_then : (a b : ℕ) (P Q : Phase) → FewMarks a P → FewMarks b Q → FewMarks (a + b) (AndThen P Q)
  few_then a b P Q first second past events o is = ⊎_elim
      (λ (off : BreaksOff P past events o). let few = first past events o off.0 in omega (arith, few))
      (λ (on : ContinuesWith P Q past events o).
      let one = first past on.front Went on.first in
      let two = second (history_after past on.front) on.rest o on.second in
      let both = count_both marking on.front on.rest in
      let cut = ap marked on.cut in
      omega (arith, one, two, both, cut)) is

  -- ---- histories

  module _ (start : RunStart) where
    abbrev pub count : List Event → ℕ
    count past = count_by (is_of mirror piece) (marks_in start past gid)

    abbrev own_count : List OwnEvent → ℕ
    own_count own = count_by (is_of mirror piece) (blames_in own)

    quiet : (t : Bool) (x : OwnEvent) (own : List OwnEvent) → blame_in x ≡ None
        → own_count (cond t (x ∷ own) own) ≤ own_count own + 0
    quiet true x own none =
        subst (λ (o : Option Blame). count_by (is_of mirror piece) (cons_option o (blames_in own)) ≤ own_count own + 0)
        (sym none) (omega arith)
    quiet false x own none = omega arith

    halted : (t : Bool) (own : List OwnEvent) → own_count (halted_where t own) ≤ own_count own + 0
    halted true own = omega arith
    halted false own = omega arith

    loud : (t : Bool) (x : OwnEvent) (blame : Blame) (own : List OwnEvent) → blame_in x ≡ Some blame
        → own_count (cond t (x ∷ own) own) ≤ own_count own + cond (t && is_of mirror piece blame) 1 0
    loud true x blame own is =
        subst (λ (o : Option Blame). count_by (is_of mirror piece) (cons_option o (blames_in own))
        ≤ own_count own + cond (is_of mirror piece blame) 1 0)
        (sym is)
        (let more = count_more (is_of mirror piece) blame (blames_in own) in omega (arith, more))
    loud false x blame own is = omega arith

    found_one : (other : Gid) (p : ℕ) (right : Bool) (giver : Giver) (past : List Event)
        → count (Settled other p right giver ∷ past) ≤ count past + cond (marking (Settled other p right giver)) 1 0
    found_one other p true giver past = quiet (is_same_gid gid other) (Settles p true giver) (own_of start past gid) refl
    found_one other p false Nobody past = quiet (is_same_gid gid other) (Settles p false Nobody) (own_of start past gid) refl
    found_one other p false Mixed past = quiet (is_same_gid gid other) (Settles p false Mixed) (own_of start past gid) refl
    found_one other p false (One m) past =
        loud (is_same_gid gid other) (Settles p false (One m)) _ (own_of start past gid) refl

    one_more : (e : Event) (past : List Event) → count (e ∷ past) ≤ count past + cond (marking e) 1 0
    one_more (Called session asked now) past =
        halted (halts_by start past (Called session asked now) asked gid) (own_of start past gid)
    one_more (Opened other verified blocks now) past =
        quiet (is_same_gid gid other) (Opens verified blocks now) (own_of start past gid) refl
    one_more (Sized other id total) past = quiet (is_same_gid gid other) (Sizes id total) (own_of start past gid) refl
    one_more (Claimed other claim) past = quiet (is_same_gid gid other) (Grants claim) (own_of start past gid) refl
    one_more (Landed other id n run now) past = quiet (is_same_gid gid other) (Lands id n run) (own_of start past gid) refl
    one_more (Settled other p right giver) past = found_one other p right giver past
    one_more (Cleared other p) past = quiet (is_same_gid gid other) (Clears p) (own_of start past gid) refl
    one_more (Lost other id m p mark) past =
        loud (is_same_gid gid other) (Loses id m p mark) _ (own_of start past gid) refl
    one_more (Checked other right) past = quiet (is_same_gid gid other) (Checks right) (own_of start past gid) refl
    one_more (Saved other now) past = quiet (is_same_gid gid other) (Saves now) (own_of start past gid) refl
    one_more (Ended other how) past = quiet (is_same_gid gid other) (Halts true) (own_of start past gid) refl
    one_more Left past = omega arith
    one_more Stopped past = omega arith

    pub count_after : (events past : List Event) → count (history_after past events) ≤ count past + marked events
    count_after [] past = omega arith
    count_after (e ∷ events) past =
        let here = one_more e past in
        let rest = count_after events (e ∷ past) in
        let more = count_more marking e events in
        omega (arith, here, rest, more)
