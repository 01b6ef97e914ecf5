-- Turns at the desk of the folder.
use Rattle.std.proofs.Common.{◌≡◌, ℕ, ◌+◌, List, [], ◌∷◌, ◌++◌, refl, ◌∙◌, subst, arith}
use Rattle.std.specs.Prelude.{IsTrue}
use Rattle.dl_disk.specs.declared.disk.Disk.{Ghosts as DiskSays}
use Rattle.turn_desk.specs.Laws.{NoTurnsChangeNothing, OneTurnGoes, TurnsAddUp}
use Rattle.turn_desk.specs.Sights.{Took}
use Rattle.turn_desk.specs.declared.turn.Given.{Given}
use Rattle.range_origin.specs.Shelves.{AsksFolder, FitsAsk, IsAsked, IsTold}
use Rattle.range_origin.specs.Talking.{ShelfSight, ShelfTurn, TookTurns, fault_told, look_failed, looks_failed, read_failed, reads_failed}
use Rattle.range_origin.specs.declared.shelf.Ask.{Ask}
use Rattle.range_origin.specs.declared.shelf.Ask.TheVariants.{Length, Read}
use Rattle.range_origin.specs.declared.shelf.Folder.{Folder}
use Rattle.range_origin.specs.declared.shelf.Told.{Told}

pub looks-append : {D : Type 0} (first then : List (ShelfTurn D)) → looks_failed (first ++ then) ≡ looks_failed first + looks_failed then
looks-append [] then = omega arith
looks-append (t ∷ first) then = let is = looks-append first then in omega (arith, is)

pub reads-append : {D : Type 0} (first then : List (ShelfTurn D)) → reads_failed (first ++ then) ≡ reads_failed first + reads_failed then
reads-append [] then = omega arith
reads-append (t ∷ first) then = let is = reads-append first then in omega (arith, is)

module _ {D : Type 0} (says : DiskSays D) where
  pub took_none : NoTurnsChangeNothing (AsksFolder says) → (s : ShelfSight D) → TookTurns says s 0 0 s
  took_none none s = record { mine = []; went = none s; looks_are = refl; reads_are = refl }

  pub took_look : OneTurnGoes (AsksFolder says) → (s s' : ShelfSight D) (name : List ℕ) (told : Told)
      → Took (AsksFolder says) s (Length name) told s' → TookTurns says s (fault_told told) 0 s'
  took_look one s s' name told took =
      let look : look_failed took.turn.op took.turn.answer ≡ fault_told told = λ i. look_failed (took.op_is i) (took.answer_is i) in
      let read : read_failed took.turn.op took.turn.answer ≡ 0 = λ i. read_failed (took.op_is i) (took.answer_is i) in
      record {
        mine = took.turn ∷ [];
        went = one s s' (Length name) told took;
        looks_are = omega (arith, look);
        reads_are = omega (arith, read);
      }

  pub took_read : OneTurnGoes (AsksFolder says) → (s s' : ShelfSight D) (name : List ℕ) (at : ℕ) (room : List ℕ) (told : Told)
      → Took (AsksFolder says) s (Read name at room) told s' → TookTurns says s 0 (fault_told told) s'
  took_read one s s' name at room told took =
      let look : look_failed took.turn.op took.turn.answer ≡ 0 = λ i. look_failed (took.op_is i) (took.answer_is i) in
      let read : read_failed took.turn.op took.turn.answer ≡ fault_told told = λ i. read_failed (took.op_is i) (took.answer_is i) in
      record {
        mine = took.turn ∷ [];
        went = one s s' (Read name at room) told took;
        looks_are = omega (arith, look);
        reads_are = omega (arith, read);
      }

  pub took_both : TurnsAddUp (AsksFolder says) → (s t u : ShelfSight D) (m n k l : ℕ) → TookTurns says s m k t
      → TookTurns says t n l u → TookTurns says s (m + n) (k + l) u
  took_both add s t u m n k l first then =
      let a = first.looks_are in
      let b = then.looks_are in
      let c = first.reads_are in
      let d = then.reads_are in
      let looks = looks-append first.mine then.mine in
      let reads = reads-append first.mine then.mine in
      record {
        mine = first.mine ++ then.mine;
        went = add s t u first.mine then.mine first.went then.went;
        looks_are = omega (arith, a, b, looks);
        reads_are = omega (arith, c, d, reads);
      }

  pub took_as : (s s' : ShelfSight D) (m n k l : ℕ) → m ≡ n → k ≡ l → TookTurns says s m k s' → TookTurns says s n l s'
  took_as s s' m n k l looks reads took =
      record { mine = took.mine; went = took.went; looks_are = took.looks_are ∙ looks; reads_are = took.reads_are ∙ reads }

  -- a turn that was taken tells of the files at the start
  asked_of : (s s' : ShelfSight D) (op : Ask) (told : Told) → (took : Took (AsksFolder says) s op told s')
      → IsAsked says s'.given.start took.turn
  asked_of s s' op told took = (took.knows.whole (s.seen ++ took.between) took.turn [] took.seen).tied

  pub fits_of : (s s' : ShelfSight D) (op : Ask) (told : Told) → Took (AsksFolder says) s op told s' → FitsAsk op told
  fits_of s s' op told took =
      let asked = asked_of s s' op told took in
      subst (λ op. FitsAsk op told) took.op_is (subst (FitsAsk took.turn.op) took.answer_is asked.fits)

  pub told_of : (s s' : ShelfSight D) (op : Ask) (told : Told) → Took (AsksFolder says) s op told s' → IsTrue says.tells
      → IsTold (says.state s.given.start.disk).seen s.given.start.dir op told
  told_of s s' op told took tells =
      let asked = asked_of s s' op told took in
      let P : Given (Folder D) (Folder D) → Type 0 = λ given. IsTold (says.state given.start.disk).seen given.start.dir op told in
      subst P took.given
      (subst (λ op. IsTold (says.state s'.given.start.disk).seen s'.given.start.dir op told) took.op_is
      (subst (IsTold (says.state s'.given.start.disk).seen s'.given.start.dir took.turn.op) took.answer_is (asked.told tells)))
