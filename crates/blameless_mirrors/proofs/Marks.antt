-- What holds marks against a mirror of a download.
use Rattle.std.proofs.Common.{◌≡◌, ◌⊎◌, ⊎_elim, inl, inr, ℕ, zero, suc, ◌+◌, ◌<◌, ◌≤◌, Bool, true, false, cond, Option, Some, None, List, [], ◌∷◌, refl, sym, ap, ◌∙◌, subst, arith}
use Rattle.std.specs.Prelude.{Contains, ◌==◌, count_by}
use Rattle.std.specs.List.{cons_option}
use Rattle.std.proofs.lemmas.Bool.{eqb-true}
use Rattle.std.proofs.lemmas.List.Sums.{sum_by-cons}
use Rattle.dl_kinds.specs.declared.gid.Gid.{Gid}
use Rattle.dl_kinds.specs.declared.marks.Mark.{Mark}
use Rattle.dl_history.proofs.Bools.{and_left, not_true}
use Rattle.dl_history.specs.OwnEvents.{Checks, Clears, Grants, Halts, Lands, Loses, Opens, OwnEvent, Saves, Settles, Sizes}
use Rattle.dl_history.specs.PayloadParts.{blame_in, blames_in, checksum_mark}
use Rattle.machine_core.proofs.Parts.{gid_is}
use Rattle.machine_core.specs.OwnParts.{halted_where, halts_by, own_of}
use Rattle.machine_core.specs.Replays.{is_same_gid}
use Rattle.machine_core.specs.RunLegal.{IsLegal, IsDeadIn, MayBeEnded, MayFollow, download_in, marks_in, mirrors_by, tries_in}
use Rattle.machine_core.specs.Starts.{Download, RunStart}
use Rattle.machine_core.specs.declared.ends.End.TheVariants.{Dead}
use Rattle.machine_core.specs.declared.events.Event.{Event}
use Rattle.machine_core.specs.declared.events.Event.TheVariants.{Called, Opened, Sized, Claimed, Landed, Settled, Cleared, Lost, Checked, Saved, Ended, Left, Stopped}
use Rattle.mirror_blame.specs.Marks.{IsEligible, is_of}
use Rattle.mirror_blame.specs.declared.blame.Blame.{Blame}
use Rattle.piece_table.specs.declared.giver.Giver.{Giver}
use Rattle.piece_table.specs.declared.giver.Giver.TheVariants.{Mixed, Nobody, One}
use Rattle.stored_run.proofs.Left.{one_of}
use Rattle.stored_run.proofs.PlainEvents.{gid_added}
use Rattle.stored_run.specs.RunFollows.{RunFollows}

-- ---- lists

pub first_or : {A : Type 0} (x y : A) (xs : List A) → Contains (x ∷ xs) y → (x ≡ y) ⊎ Contains xs y
first_or x y xs (zero, within, is) = inl is
first_or x y xs (suc n, within, is) = inr (n, omega (arith, within), is)

pub behind : {A : Type 0} (x y : A) (xs : List A) → Contains xs y → Contains (x ∷ xs) y
behind x y xs there = (suc there.0, (let within = there.1 in omega (arith, within)), there.2)

count_none : (p : Blame → Bool) (xs : List Blame) → ((x : Blame) → Contains xs x → p x ≡ false) → count_by p xs ≡ 0
count_none p [] none = refl
count_none p (x ∷ xs) none =
    sum_by-cons (λ (y : Blame). cond (p y) 1 0) x xs
    ∙ (λ i. cond (none x (0, omega arith, refl) i) 1 0 + count_none p xs (λ y there. none y (behind x y xs there)) i)

-- ---- the cause of a mark

-- the finding of a piece that the mirror alone gave, or the loss of a claim at it
abbrev pub MarksBy : List Event → Gid → Blame → Type 0
MarksBy past gid blame =
    Contains past (Settled gid blame.piece false (One blame.mirror))
    ⊎ ((id : ℕ) × Contains past (Lost gid id blame.mirror blame.piece blame.mark))

marks_later : (e : Event) (past : List Event) (gid : Gid) (blame : Blame) → MarksBy past gid blame
    → MarksBy (e ∷ past) gid blame
marks_later e past gid blame (inl found) = inl (behind e _ past found)
marks_later e past gid blame (inr lost) = inr (lost.0, behind e _ past lost.1)

module _ (start : RunStart) (gid : Gid) (blame : Blame) where
  abbrev Marked : List OwnEvent → Type 0
  Marked own = Contains (blames_in own) blame

  -- an event that marks no one
  quiet_mark : (t : Bool) (x : OwnEvent) (own : List OwnEvent) → blame_in x ≡ None → Marked (cond t (x ∷ own) own) → Marked own
  quiet_mark true x own none there =
      subst (λ (o : Option Blame). Contains (cons_option o (blames_in own)) blame) none there
  quiet_mark false x own none there = there

  halted_mark : (t : Bool) (own : List OwnEvent) → Marked (halted_where t own) → Marked own
  halted_mark true own there = there
  halted_mark false own there = there

  lost_mark : (other : Gid) (id n piece : ℕ) (mark : Mark) (past : List Event) (t : Bool) → is_same_gid gid other ≡ t
      → Marked (cond t (Loses id n piece mark ∷ own_of start past gid) (own_of start past gid))
      → (Marked (own_of start past gid) → MarksBy past gid blame) → MarksBy (Lost other id n piece mark ∷ past) gid blame
  lost_mark other id n piece mark past true same there rest = ⊎_elim
      (λ (here : record { mirror = n; piece = piece; mark = mark } ≡ blame).
      let g : other ≡ gid = gid_is gid other same in
      inr (id, (0, omega arith, λ i. Lost (g i) id (here i).mirror (here i).piece (here i).mark)))
      (λ (later : Marked (own_of start past gid)).
      marks_later (Lost other id n piece mark) past gid blame (rest later))
      (first_or (record { mirror = n; piece = piece; mark = mark }) blame (blames_in (own_of start past gid)) there)
  lost_mark other id n piece mark past false same there rest =
      marks_later (Lost other id n piece mark) past gid blame (rest there)

  found_mark : (other : Gid) (piece : ℕ) (right : Bool) (giver : Giver) (past : List Event) (t : Bool)
      → is_same_gid gid other ≡ t
      → Marked (cond t (Settles piece right giver ∷ own_of start past gid) (own_of start past gid))
      → (Marked (own_of start past gid) → MarksBy past gid blame) → MarksBy (Settled other piece right giver ∷ past) gid blame
  found_mark other piece right giver past false same there rest =
      marks_later (Settled other piece right giver) past gid blame (rest there)
  found_mark other piece true giver past true same there rest =
      marks_later (Settled other piece true giver) past gid blame (rest there)
  found_mark other piece false Nobody past true same there rest =
      marks_later (Settled other piece false Nobody) past gid blame (rest there)
  found_mark other piece false Mixed past true same there rest =
      marks_later (Settled other piece false Mixed) past gid blame (rest there)
  found_mark other piece false (One n) past true same there rest = ⊎_elim
      (λ (here : record { mirror = n; piece = piece; mark = checksum_mark } ≡ blame).
      let g : other ≡ gid = gid_is gid other same in
      inl (0, omega arith, λ i. Settled (g i) (here i).piece false (One (here i).mirror)))
      (λ (later : Marked (own_of start past gid)).
      marks_later (Settled other piece false (One n)) past gid blame (rest later))
      (first_or (record { mirror = n; piece = piece; mark = checksum_mark }) blame (blames_in (own_of start past gid)) there)

  -- whatever marks a mirror stands in the history
  pub mark_cause : (past : List Event) → Contains (marks_in start past gid) blame → MarksBy past gid blame
  mark_cause [] there = absurd (let within = there.1 in omega (arith, within))
  mark_cause (Called session asked now ∷ past) there =
      marks_later (Called session asked now) past gid blame
      (mark_cause past (halted_mark (halts_by start past (Called session asked now) asked gid) (own_of start past gid) there))
  mark_cause (Opened other verified blocks now ∷ past) there =
      marks_later (Opened other verified blocks now) past gid blame
      (mark_cause past (quiet_mark (is_same_gid gid other) (Opens verified blocks now) (own_of start past gid) refl there))
  mark_cause (Sized other id total ∷ past) there =
      marks_later (Sized other id total) past gid blame
      (mark_cause past (quiet_mark (is_same_gid gid other) (Sizes id total) (own_of start past gid) refl there))
  mark_cause (Claimed other claim ∷ past) there =
      marks_later (Claimed other claim) past gid blame
      (mark_cause past (quiet_mark (is_same_gid gid other) (Grants claim) (own_of start past gid) refl there))
  mark_cause (Landed other id n run now ∷ past) there =
      marks_later (Landed other id n run now) past gid blame
      (mark_cause past (quiet_mark (is_same_gid gid other) (Lands id n run) (own_of start past gid) refl there))
  mark_cause (Settled other piece right giver ∷ past) there =
      found_mark other piece right giver past (is_same_gid gid other) refl there (mark_cause past)
  mark_cause (Cleared other piece ∷ past) there =
      marks_later (Cleared other piece) past gid blame
      (mark_cause past (quiet_mark (is_same_gid gid other) (Clears piece) (own_of start past gid) refl there))
  mark_cause (Lost other id n piece mark ∷ past) there =
      lost_mark other id n piece mark past (is_same_gid gid other) refl there (mark_cause past)
  mark_cause (Checked other right ∷ past) there =
      marks_later (Checked other right) past gid blame
      (mark_cause past (quiet_mark (is_same_gid gid other) (Checks right) (own_of start past gid) refl there))
  mark_cause (Saved other now ∷ past) there =
      marks_later (Saved other now) past gid blame
      (mark_cause past (quiet_mark (is_same_gid gid other) (Saves now) (own_of start past gid) refl there))
  mark_cause (Ended other how ∷ past) there =
      marks_later (Ended other how) past gid blame
      (mark_cause past (quiet_mark (is_same_gid gid other) (Halts true) (own_of start past gid) refl there))
  mark_cause (Left ∷ past) there = marks_later Left past gid blame (mark_cause past there)
  mark_cause (Stopped ∷ past) there = marks_later Stopped past gid blame (mark_cause past there)

-- ---- a mirror that nothing marks

-- nothing in the history marks the mirror
abbrev pub NothingMarks : List Event → Gid → ℕ → Type 0
NothingMarks past gid mirror =
    ((piece : ℕ) → ¬ Contains past (Settled gid piece false (One mirror)))
    × ((id piece : ℕ) (mark : Mark) → ¬ Contains past (Lost gid id mirror piece mark))

nothing_before : (e : Event) (past : List Event) (gid : Gid) (mirror : ℕ) → NothingMarks (e ∷ past) gid mirror
    → NothingMarks past gid mirror
nothing_before e past gid mirror none =
    (λ piece there. none.0 piece (behind e _ past there), λ id piece mark there. none.1 id piece mark (behind e _ past there))

pub unmarked_eligible : (start : RunStart) (past : List Event) (gid : Gid) (mirror : ℕ) → NothingMarks past gid mirror
    → (tries piece : ℕ) → 1 ≤ tries → IsEligible tries (marks_in start past gid) mirror piece
unmarked_eligible start past gid mirror none tries piece some =
    let count : count_by (is_of mirror piece) (marks_in start past gid) ≡ 0 =
    count_none (is_of mirror piece) (marks_in start past gid)
    (λ blame there. not_true (is_of mirror piece blame) (λ is.
    let its : blame.mirror ≡ mirror = eqb-true blame.mirror mirror (and_left (blame.mirror == mirror) (blame.piece == piece) is) in
    ⊎_elim
    (λ (found : Contains past (Settled gid blame.piece false (One blame.mirror))).
    none.0 blame.piece
    (subst (λ (n : ℕ). Contains past (Settled gid blame.piece false (One n))) its found))
    (λ (lost : (id : ℕ) × Contains past (Lost gid id blame.mirror blame.piece blame.mark)).
    none.1 lost.0 blame.piece blame.mark
    (subst (λ (n : ℕ). Contains past (Lost gid lost.0 n blame.piece blame.mark)) its lost.1))
    (mark_cause start gid blame past there))) in
    omega (arith, count, some)

-- so the download doesn't end as dead
module _ (laws : RunFollows) (start : RunStart) (gid : Gid) (mirror : ℕ) (download : Download)
    (known : mirror < mirrors_by download.subject) (some : 1 ≤ tries_in download) where
  never_here : (past : List Event) (piece : ℕ) (mark : Mark) → download_in start (Ended gid (Dead piece mark) ∷ past) gid ≡ Some download
      → MayBeEnded start past gid (Dead piece mark) → NothingMarks past gid mirror → ⊥
  never_here past piece mark added may none =
      let d = may.own.download in
      let stays = laws.downloads start past (Ended gid (Dead piece mark)) gid d may.own.added in
      let same : d ≡ download = let e : Some d ≡ Some download = sym stays ∙ added in cc in
      let dead : IsDeadIn start past download piece mark = subst (λ (x : Download). IsDeadIn start past x piece mark) same may.cause in
      let its : download.gid ≡ gid =
      gid_added start past gid download (may.own.added ∙ ap (λ (x : Download). Some x) same) in
      dead.dead mirror known
      (subst (λ (g : Gid). IsEligible (tries_in download) (marks_in start past g) mirror piece) (sym its)
      (unmarked_eligible start past gid mirror none (tries_in download) piece some))

  pub never_dead : (past : List Event) → IsLegal start past
      → ((d : Download) → download_in start past gid ≡ Some d → d ≡ download) → NothingMarks past gid mirror
      → (piece : ℕ) (mark : Mark) → ¬ Contains past (Ended gid (Dead piece mark))
  never_dead [] legal same none piece mark there = absurd (let within = there.1 in omega (arith, within))
  never_dead (e ∷ past) legal same none piece mark there = ⊎_elim
      (λ (here : e ≡ Ended gid (Dead piece mark)).
      let may : MayBeEnded start past gid (Dead piece mark) = subst (MayFollow start past) here legal.1 in
      let stays = laws.downloads start past e gid may.own.download may.own.added in
      let its = same may.own.download stays in
      never_here past piece mark
      (subst (λ (x : Event). download_in start (x ∷ past) gid ≡ Some download) here
      (stays ∙ ap (λ (x : Download). Some x) its)) may (nothing_before e past gid mirror none))
      (λ (before : Contains past (Ended gid (Dead piece mark))).
      never_dead past legal.0 (λ d added. same d (laws.downloads start past e gid d added))
      (nothing_before e past gid mirror none) piece mark before)
      (one_of e (Ended gid (Dead piece mark)) past there)
