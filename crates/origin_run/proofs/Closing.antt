-- What was done at all doors, once their desk is closed.
use Rattle.std.proofs.Common.{◌≡◌, ℕ, zero, suc, ◌+◌, List, [], ◌∷◌, ◌++◌, Some, length, map, refl, sym, ap, ◌∙◌, subst, arith, slice_get}
use Rattle.std.specs.List.{AllByRecursion}
use Rattle.console_http.specs.Visits.{RoseBy}
use Rattle.console_session.specs.declared.serving.Transcript.{Transcript}
use Rattle.desk_participants.specs.Seats.{edge_of, participants_from}
use Rattle.desk_participants.specs.Uses.{AllTookPart, AreUsed, Use, UsedInTurns}
use Rattle.desk_participants.proofs.Uses.{came_in, pass_in, same_some, some_at, used_in_turns}
use Rattle.dl_disk.specs.Files.{Files, IsSame}
use Rattle.dl_disk.specs.declared.disk.Disk.{Ghosts as DiskSays}
use Rattle.door_source.specs.declared.Doors.{Ghosts as DoorSays}
use Rattle.range_origin.specs.Keeping.{KeepsDoor}
use Rattle.range_origin.specs.Shelves.{AsksFolder, IsAsked, IsShelfAfter, folder_at, mark_of, shelf_name}
use Rattle.range_origin.specs.Talking.{ShelfSight, ShelfTurn}
use Rattle.range_origin.specs.Visits.{AreTurnsOf}
use Rattle.range_origin.specs.declared.shelf.Folder.{Folder}
use Rattle.turn_desk.specs.Passes.{IsClosed, IsNewPass}
use Rattle.turn_desk.specs.Solo.{first_sight}
use Rattle.turn_desk.specs.Turns.{last_mark, turns_by}
use Rattle.turn_desk.specs.declared.turn.Given.{Given}
use Rattle.turn_desk.specs.declared.turn.Stamp.{Stamp}
use Rattle.origin_run.specs.Doors.{IsServedDoor, IsTranscript, ServedDoor, ServesDoorAt, disk_faults_at}
use Rattle.origin_run.specs.Folders.{FolderGiven, FolderLeft, FolderServed, files_given}
use Rattle.origin_run.specs.Sharing.{IsFresh, Keeper, ShelfDesk, ShelfPass}
use Rattle.origin_run.proofs.Counting.{by_all, failures, failures_by, rose_in_all, rose_less, told_failures}

-- the turns that a new pass had
had_none : {D : Type 0} (solo : ShelfSight D) (desk : ShelfDesk D) (door : ℕ) (pass : ShelfPass D) → solo.own ≡ []
    → IsNewPass solo desk (0 + door) pass → pass.own ≡ []
had_none solo desk zero pass none new = new.first (omega arith) ∙ none
had_none solo desk (suc door) pass none new = new.others (omega arith)

-- ---- from uses to doors

module _ {D A K : Type 0} (disk : DiskSays D) (doors : DoorSays A) (given : FolderGiven D A K) (left : FolderLeft D A K)
    (turns : List (ShelfTurn D)) where
  -- the door of this number was served, by the turns of its number
  pub record IsServedBy (number : ℕ) (one : ServedDoor A K) : Type 0 where
    pub door_is : IsServedDoor doors disk.tells (files_given disk doors given left) number one
    pub own : AreTurnsOf one.visits (turns_by number turns)

  pub record AreServed (base : ℕ) (uses : List (Use A K Transcript)) : Type 0 where
    pub served : List (ServedDoor A K)
    pub uses_are : uses ≡ map (λ (one : ServedDoor A K). one.used) served
    pub each : (number : ℕ) (one : ServedDoor A K) → slice_get served number ≡ Some one → IsServedBy (base + number) one

  pub all_served : (base : ℕ) (uses : List (Use A K Transcript))
      → ((number : ℕ) (one : Use A K Transcript) → slice_get uses number ≡ Some one
      → (door : ServedDoor A K) × (one ≡ door.used) × IsServedBy (base + number) door)
      → AreServed base uses
  all_served base [] has = record { served = []; uses_are = refl; each = λ number one no. absurd (nothing number one no) }
    where
      nothing : (number : ℕ) (one : ServedDoor A K) → slice_get [] number ≡ Some one → ⊥
      nothing number one e = cc
  all_served base (first_use ∷ uses) has =
      let first = has 0 first_use refl in
      let rest = all_served (suc base) uses (λ number one there.
      let its = has (suc number) one there in
      let shift : base + suc number ≡ suc base + number = omega arith in
      (its.0, its.1, subst (λ n. IsServedBy n its.0) shift its.2)) in
      record {
        served = first.0 ∷ rest.served;
        uses_are = λ i. first.1 i ∷ rest.uses_are i;
        each = either first rest;
      }
    where
      either : (first : (door : ServedDoor A K) × (first_use ≡ door.used) × IsServedBy (base + 0) door) (rest : AreServed (suc base) uses)
          (number : ℕ) (one : ServedDoor A K) → slice_get (first.0 ∷ rest.served) number ≡ Some one → IsServedBy (base + number) one
      either first rest zero one there = subst (IsServedBy (base + 0)) (same_some first.0 one there) first.2
      either first rest (suc number) one there =
          let shift : suc base + number ≡ base + suc number = omega arith in
          subst (λ n. IsServedBy n one) shift (rest.each number one there)

  -- what replies and connections tell of the disk's faults are turns of the doors
  all_told : (base : ℕ) (served : List (ServedDoor A K))
      → ((number : ℕ) (one : ServedDoor A K) → slice_get served number ≡ Some one → IsServedBy (base + number) one)
      → disk_faults_at served ≡ failures_by base (length served) turns
  all_told base [] each = refl
  all_told base (one ∷ served) each =
      let none : base + 0 ≡ base = omega arith in
      let own = subst (λ n. AreTurnsOf one.visits (turns_by n turns)) none (each 0 one refl).own in
      let first = told_failures one.visits (turns_by base turns) own in
      let rest = all_told (suc base) served (λ number other there.
      let shift : base + suc number ≡ suc base + number = omega arith in
      subst (λ n. IsServedBy n other) shift (each (suc number) other there)) in
      omega (arith, first, rest)

-- ---- all together

module _ {D A K : Type 0} (disk : DiskSays D) (doors : DoorSays A) (dir : List ℕ) (at : D) (solo : ShelfSight D) (desk : ShelfDesk D)
    (olds news : List (A × K)) (transcripts : List Transcript) (left : FolderLeft D A K) (kp passes' : List (ShelfPass D))
    (ks' : List (Keeper D A K)) (turns : List (ShelfTurn D)) (fresh : IsFresh disk dir at solo) (desk_is : desk.given ≡ solo.given)
    (same : length kp ≡ length olds)
    (new : (place : ℕ) (pass : ShelfPass D) → slice_get kp place ≡ Some pass → IsNewPass solo desk (0 + place) pass)
    (took : AllTookPart desk (ServesDoorAt disk doors) (participants_from 0 kp olds) ks')
    (edges : map edge_of ks' ≡ news) (came : map came_in ks' ≡ map Some transcripts)
    (passes_are : map Some passes' ≡ map pass_in ks')
    (closed : IsClosed (AsksFolder disk) desk passes' turns)
    (doors_left : left.doors ≡ news) (transcripts_left : left.transcripts ≡ transcripts) where
  abbrev given : FolderGiven D A K
  given = record { dir = dir; disk = at; doors = olds }

  by_doors : UsedInTurns (ServesDoorAt disk doors) solo desk turns 0 olds news transcripts
  by_doors =
      used_in_turns desk (ServesDoorAt disk doors) (AsksFolder disk) solo 0 kp olds news ks' transcripts turns passes'
      (λ n s s' e e' y did. did.0.kept.went.number) same new took edges came
      (λ place pass is.
      let none : 0 + place ≡ place = omega arith in
      ap (slice_get passes') none ∙ some_at (map pass_in ks') passes' place pass passes_are is) closed

  start_is : desk.given.start ≡ folder_at disk at dir
  start_is = ap (λ (g : Given (Folder D) (Folder D)). g.start) desk_is ∙ fresh.start

  door_served : (number : ℕ) (one : Use A K Transcript) → slice_get by_doors.uses number ≡ Some one
      → (door : ServedDoor A K) × (one ≡ door.used) × IsServedBy disk doors given left turns (0 + number) door
  door_served number one there =
      let with = by_doors.each number one there in
      let its = with.did.0 in
      let none : number ≡ 0 + number = omega arith in
      let door : ServedDoor A K = record { used = one; visits = its.visits; end = its.end } in
      let below : Folder D → Files = λ f name. (disk.state f.disk).seen (shelf_name f.dir name) in
      let files = ap below start_is in
      let mine : turns_by (0 + number) turns ≡ its.kept.mine =
      with.own
      ∙ (its.kept.went.own
      ∙ ap (λ (ts : List (ShelfTurn D)). ts ++ its.kept.mine) (had_none solo desk number with.from fresh.own with.new)) in (
        door,
        refl,
        record {
          door_is = record {
            kept = subst (λ fs. KeepsDoor disk.tells fs doors its.visits (Some its.end) one.old.0 one.new.0) files its.kept.door_is;
            clock = with.did.1;
            transcript = subst (λ n. IsTranscript n its.visits its.end one.came) none its.transcript;
          };
          own = subst (AreTurnsOf its.visits) (sym mine) its.kept.turns;
        },
      )

  doors_served : AreServed disk doors given left turns 0 by_doors.uses
  doors_served = all_served disk doors given left turns 0 by_doors.uses door_served

  many_served : length doors_served.served ≡ length by_doors.uses
  many_served = length_of doors_served.served by_doors.uses doors_served.uses_are
    where
      length_of : (served : List (ServedDoor A K)) (uses : List (Use A K Transcript))
          → uses ≡ map (λ (one : ServedDoor A K). one.used) served → length served ≡ length uses
      length_of served uses are = sym (ap length are ∙ mapped served)
        where
          mapped : (them : List (ServedDoor A K)) → length (map (λ (one : ServedDoor A K). one.used) them) ≡ length them
          mapped [] = refl
          mapped (one ∷ them) = let rest = mapped them in omega (arith, rest)

  module _ (first : D) (its_dir : List ℕ) (end : D) (after : IsShelfAfter disk first its_dir end turns)
      (begins : folder_at disk first its_dir ≡ desk.given.start) (ends : mark_of disk end ≡ last_mark desk.given.mark turns)
      (left_is : left.disk ≡ end) where
    folder_is : folder_at disk first its_dir ≡ folder_at disk at dir
    folder_is = begins ∙ start_is

    first_is : first ≡ at
    first_is = ap (λ (f : Folder D). f.disk) folder_is

    rose : RoseBy (disk_faults_at doors_served.served) (disk.faults at) (disk.faults left.disk)
    rose =
        let before : desk.given.mark.faults ≡ disk.faults at =
        ap (λ (g : Given (Folder D) (Folder D)). g.mark.faults) desk_is ∙ ap (λ (m : Stamp). m.faults) fresh.mark in
        let behind : (last_mark desk.given.mark turns).faults ≡ disk.faults left.disk =
        ap (λ (m : Stamp). m.faults) (sym ends) ∙ ap disk.faults (sym left_is) in
        let all = rose_in_all disk desk.given turns closed.whole in
        let here = subst (λ n. RoseBy (failures turns) (disk.faults at) n) behind
        (subst (λ n. RoseBy (failures turns) n (last_mark desk.given.mark turns).faults) before all) in
        let told = all_told disk doors given left turns 0 doors_served.served doors_served.each in
        let few = by_all 0 (length doors_served.served) turns in
        rose_less (failures turns) (disk_faults_at doors_served.served) (disk.faults at) (disk.faults left.disk) (omega (arith, told, few)) here

    pub folder_served : FolderServed disk doors given left
    folder_served = record {
      served = doors_served.served;
      used = used_by;
      each = λ number one there. by_number number one (doors_served.each number one there);
      turns = turns;
      asked = subst (λ f. AllByRecursion (IsAsked disk f) turns) folder_is after.each;
      own = λ number one there. own_by number one (doors_served.each number one there);
      same = λ tells.
          subst (λ d. IsSame (disk.state at).seen (disk.state d).seen) (sym left_is)
          (subst (λ d. IsSame (disk.state d).seen (disk.state end).seen) first_is (after.same tells));
      faults = rose;
    }
      where
        by_number : (number : ℕ) (one : ServedDoor A K) → IsServedBy disk doors given left turns (0 + number) one
            → IsServedDoor doors disk.tells (files_given disk doors given left) number one
        by_number number one is =
            let none : 0 + number ≡ number = omega arith in
            subst (λ n. IsServedDoor doors disk.tells (files_given disk doors given left) n one) none is.door_is

        own_by : (number : ℕ) (one : ServedDoor A K) → IsServedBy disk doors given left turns (0 + number) one
            → AreTurnsOf one.visits (turns_by number turns)
        own_by number one is =
            let none : 0 + number ≡ number = omega arith in
            subst (λ n. AreTurnsOf one.visits (turns_by n turns)) none is.own

        used_by : AreUsed olds left.doors left.transcripts (map (λ (one : ServedDoor A K). one.used) doors_served.served)
        used_by =
            subst (λ ts. AreUsed olds left.doors ts (map (λ (one : ServedDoor A K). one.used) doors_served.served)) (sym transcripts_left)
            (subst (λ ds. AreUsed olds ds transcripts (map (λ (one : ServedDoor A K). one.used) doors_served.served)) (sym doors_left)
            (subst (AreUsed olds news transcripts) doors_served.uses_are by_doors.used))

-- ---- nothing was done

pub nil_of : {A : Type 0} (xs : List A) → length xs ≡ 0 → xs ≡ []
nil_of [] none = refl
nil_of (x ∷ xs) some = absurd (omega (arith, some))

module _ {D A K : Type 0} (disk : DiskSays D) (doors : DoorSays A) (dir : List ℕ) (at : D) (left : FolderLeft D A K) where
  -- no door was there
  pub nobody_served : (olds : List (A × K)) → olds ≡ [] → left.doors ≡ olds → left.transcripts ≡ [] → left.disk ≡ at
      → FolderServed disk doors (record { dir = dir; disk = at; doors = olds }) left
  nobody_served olds none no_doors untold same = record {
    served = [];
    used = record { olds_are = none; news_are = no_doors ∙ none; came_are = untold };
    each = λ number one no. absurd (nothing number one no);
    turns = [];
    asked = tt;
    own = λ number one no. absurd (nothing number one no);
    same = λ tells. subst (λ d. IsSame (disk.state at).seen (disk.state d).seen) (sym same) (λ name. refl);
    faults = subst (λ d. RoseBy 0 (disk.faults at) (disk.faults d)) (sym same) (omega arith);
  }
    where
      nothing : (number : ℕ) (one : ServedDoor A K) → slice_get [] number ≡ Some one → ⊥
      nothing number one e = cc

-- the disk of a shelf that served no turn is the one that it got
module _ {D : Type 0} (disk : DiskSays D) (dir : List ℕ) (at : D) (solo : ShelfSight D) (fresh : IsFresh disk dir at solo) where
  pub still_there : (first : D) (its_dir : List ℕ) (end : D) → IsShelfAfter disk first its_dir end solo.seen
      → folder_at disk first its_dir ≡ solo.given.start → end ≡ at
  still_there first its_dir end after begins =
      after.still fresh.seen ∙ ap (λ (f : Folder D). f.disk) (begins ∙ fresh.start)

-- a desk that was just made for it is fresh
module _ {D : Type 0} (disk : DiskSays D) (dir its_dir : List ℕ) (at first end : D) (solo : ShelfSight D)
    (given : Given (Folder D) (Folder D)) where
  pub fresh_desk : solo ≡ first_sight given → given.start ≡ folder_at disk first its_dir → given.mark ≡ mark_of disk end
      → first ≡ at → end ≡ at → its_dir ≡ dir → IsFresh disk dir at solo
  fresh_desk made start mark first_is end_is dir_is = record {
    start = ap (λ (s : ShelfSight D). s.given.start) made ∙ (start ∙ (λ i. folder_at disk (first_is i) (dir_is i)));
    mark = ap (λ (s : ShelfSight D). s.given.mark) made ∙ (mark ∙ ap (mark_of disk) end_is);
    seen = ap (λ (s : ShelfSight D). s.seen) made;
    own = ap (λ (s : ShelfSight D). s.own) made;
  }
