-- How often the disk failed, in the turns of all doors together.
use Rattle.std.proofs.Common.{◌≡◌, ℕ, zero, suc, ◌+◌, ◌≤◌, ◌<◌, List, [], ◌∷◌, ◌++◌, append_assoc, Bool, true, false, cond, eqb, refl, ap, sym, ◌∙◌, subst, arith}
use Rattle.std.proofs.lemmas.Bool.{eqb-true}
use Rattle.console_http.specs.Visits.{RoseBy}
use Rattle.dl_disk.specs.declared.disk.Disk.{Ghosts as DiskSays}
use Rattle.turn_desk.specs.Turns.{AreTurns, last_mark, turns_by}
use Rattle.turn_desk.specs.declared.turn.Given.{Given}
use Rattle.turn_desk.specs.declared.turn.Stamp.{Stamp}
use Rattle.range_origin.specs.Keeping.{disk_faults_in, failures_told}
use Rattle.range_origin.specs.Shelves.{AsksFolder, CausesFault}
use Rattle.range_origin.specs.Talking.{ShelfTurn, fault_told, look_failed, looks_failed, read_failed, reads_failed}
use Rattle.range_origin.specs.Visits.{Answered, AreTurnsFor, AreTurnsOf, Visit}
use Rattle.range_origin.proofs.Turning.{looks-append, reads-append}
use Rattle.range_origin.specs.declared.shelf.Ask.{Ask}
use Rattle.range_origin.specs.declared.shelf.Ask.TheVariants.{Length, Read}
use Rattle.range_origin.specs.declared.shelf.Folder.{Folder}
use Rattle.range_origin.specs.declared.shelf.Told.{Told}
use Rattle.range_origin.specs.declared.shelf.Told.TheVariants.{Length as ToldLength, Bytes, Fault, NoMemory}

module _ {D : Type 0} where
  -- in how many of the turns the disk failed
  abbrev pub failures : List (ShelfTurn D) → ℕ
  failures turns = looks_failed turns + reads_failed turns

  -- ---- one door

  told_looks : (answers : List Answered) (turns : List (ShelfTurn D)) → AreTurnsFor answers turns
      → looks_failed turns ≡ failures_told answers
  told_looks [] turns are = ap looks_failed are
  told_looks (answer ∷ answers) turns are =
      let cut = ap looks_failed are.2 in
      let both = looks-append are.0 are.1 in
      let first = are.3 in
      let rest = told_looks answers are.1 are.4 in
      omega (arith, cut, both, first, rest)

  pub told_failures : (visits : List Visit) (turns : List (ShelfTurn D)) → AreTurnsOf visits turns
      → failures turns ≡ disk_faults_in visits
  told_failures [] turns are = ap failures are
  told_failures (visit ∷ visits) turns are =
      let cut = ap failures are.2 in
      let looks = looks-append are.0 are.1 in
      let reads = reads-append are.0 are.1 in
      let mine = told_looks visit.answers are.0 are.3.looks in
      let own = are.3.reads in
      let rest = told_failures visits are.1 are.4 in
      omega (arith, cut, looks, reads, mine, own, rest)

  -- ---- all doors

  -- in the turns of so many passes, numbered from this one on
  abbrev pub failures_by : ℕ → ℕ → List (ShelfTurn D) → ℕ
  failures_by base zero turns = 0
  failures_by base (suc count) turns = failures (turns_by base turns) + failures_by (suc base) count turns

  by_none : (base count : ℕ) (turns : List (ShelfTurn D)) → turns ≡ [] → failures_by base count turns ≡ 0
  by_none base zero turns none = refl
  by_none base (suc count) turns none =
      let here : failures (turns_by base turns) ≡ 0 = ap (λ ts. failures (turns_by base ts)) none in
      let rest = by_none (suc base) count turns none in
      omega (arith, here, rest)

  -- a turn of a pass before them is none of theirs
  by_later : (base count : ℕ) (t : ShelfTurn D) (turns : List (ShelfTurn D)) → t.pass < base
      → failures_by base count (t ∷ turns) ≡ failures_by base count turns
  by_later base zero t turns low = refl
  by_later base (suc count) t turns low =
      let rest = by_later (suc base) count t turns (omega (arith, low)) in
      let here : turns_by base (t ∷ turns) ≡ turns_by base turns = other (eqb t.pass base) refl in
      let same = ap failures here in
      omega (arith, rest, same)
    where
      other : (b : Bool) → eqb t.pass base ≡ b → cond b (t ∷ turns_by base turns) (turns_by base turns) ≡ turns_by base turns
      other true is = absurd (let at = eqb-true t.pass base is in omega (arith, at, low))
      other false is = refl

  by_one : (base count : ℕ) (t : ShelfTurn D) (turns : List (ShelfTurn D))
      → failures_by base count (t ∷ turns) ≤ failures (t ∷ []) + failures_by base count turns
  by_one base zero t turns = omega arith
  by_one base (suc count) t turns = split (by_one (suc base) count t turns) (eqb t.pass base) refl
    where
      split : failures_by (suc base) count (t ∷ turns) ≤ failures (t ∷ []) + failures_by (suc base) count turns
          → (b : Bool) → eqb t.pass base ≡ b
          → failures (cond b (t ∷ turns_by base turns) (turns_by base turns)) + failures_by (suc base) count (t ∷ turns) ≤ failures (t ∷ []) + (failures (turns_by base turns) + failures_by (suc base) count turns)
      split later true is =
          let at = eqb-true t.pass base is in
          let rest = by_later (suc base) count t turns (omega (arith, at)) in
          omega (arith, rest)
      split later false is = omega (arith, later)

  pub by_all : (base count : ℕ) (turns : List (ShelfTurn D)) → failures_by base count turns ≤ failures turns
  by_all base count [] = let none = by_none base count [] refl in omega (arith, none)
  by_all base count (t ∷ turns) =
      let first = by_one base count t turns in
      let rest = by_all base count turns in
      omega (arith, first, rest)

-- ---- the disk's own count

one_failure : (ask : Ask) (told : Told) → look_failed ask told + read_failed ask told ≡ fault_told told
one_failure (Length name) told = omega arith
one_failure (Read name at room) told = omega arith

rose_by_one : (told : Told) (before after : ℕ) → CausesFault told before after → RoseBy (fault_told told) before after
rose_by_one (Fault count) before after cause = cause.0
rose_by_one (ToldLength len) before after same = omega (arith, same)
rose_by_one (Bytes bytes) before after same = omega (arith, same)
rose_by_one NoMemory before after same = omega (arith, same)

rose_both : (m n : ℕ) (before middle now : ℕ) → RoseBy m before middle → RoseBy n middle now → RoseBy (m + n) before now
rose_both m n before middle now first then = omega (arith, first, then)

pub rose_less : (m n : ℕ) (before now : ℕ) → n ≤ m → RoseBy m before now → RoseBy n before now
rose_less m n before now few rose = omega (arith, few, rose)

mark_behind : {D : Type 0} (mark : Stamp) (turns : List (ShelfTurn D)) (t : ShelfTurn D)
    → last_mark mark (turns ++ t ∷ []) ≡ t.after
mark_behind mark [] t = refl
mark_behind mark (u ∷ turns) t = mark_behind u.after turns t

module _ {D : Type 0} (says : DiskSays D) (given : Given (Folder D) (Folder D)) (turns : List (ShelfTurn D))
    (are : AreTurns (AsksFolder says) given turns) where
  -- the mark behind the first of them, and what rose from there on
  rose_from : (earlier rest : List (ShelfTurn D)) → turns ≡ earlier ++ rest
      → RoseBy (failures rest) (last_mark given.mark earlier).faults (last_mark (last_mark given.mark earlier) rest).faults
  rose_from earlier [] cut = omega arith
  rose_from earlier (t ∷ rest) cut =
      let turn = are earlier t rest cut in
      let start = (last_mark given.mark earlier).faults in
      let before : t.before.faults ≡ start = ap (λ (m : Stamp). m.faults) turn.mark in
      let first = subst (λ n. RoseBy (fault_told t.answer) n t.after.faults) before
      (rose_by_one t.answer t.before.faults t.after.faults turn.tied.cause) in
      let later = rose_from (earlier ++ t ∷ []) rest (cut ∙ sym (append_assoc earlier (t ∷ []) rest)) in
      let end = (last_mark t.after rest).faults in
      let then : RoseBy (failures rest) t.after.faults end =
      subst (λ (m : Stamp). RoseBy (failures rest) m.faults (last_mark m rest).faults) (mark_behind given.mark earlier t) later in
      let one = one_failure t.op t.answer in
      let both = rose_both (fault_told t.answer) (failures rest) start t.after.faults end first then in
      rose_less (fault_told t.answer + failures rest) (failures (t ∷ rest)) start end (omega (arith, one)) both

  pub rose_in_all : RoseBy (failures turns) given.mark.faults (last_mark given.mark turns).faults
  rose_in_all = rose_from [] turns refl
