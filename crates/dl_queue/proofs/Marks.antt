-- What it leaves that all of a list stand alike.
use Rattle.std.proofs.Common.{◌≡◌, ◌<◌, ◌≤◌, ◌+◌, ◌-◌, ◌==◌, ℕ, cond, zero, suc, Bool, true, false, not, List, [], ◌∷◌, length, map, filter, Option, None, Some, refl, sym, ◌∙◌, ap, arith, true≢false}
use Rattle.dl_kinds.specs.declared.gid.Gid.{Gid}
use Rattle.dl_kinds.specs.declared.status.Status.{Status}
use Rattle.dl_kinds.specs.declared.status.Status.TheVariants.{Active, Waiting, Paused}
use Rattle.number_list.specs.Order.{lists_number, NoneTwice}
use Rattle.dl_queue.specs.declared.kinds.Added.{Added}
use Rattle.dl_queue.specs.declared.kinds.Queued.{Queued}
use Rattle.dl_queue.specs.declared.kinds.Stopped.{Stopped}
use Rattle.dl_queue.specs.Lists.{QueueLists}
use Rattle.dl_queue.specs.Endings.{ending_by_standing}
use Rattle.dl_queue.specs.Calls.{as_paused}
use Rattle.dl_queue.specs.Held.{gid_numbered, standing_at, stands_active, stands_queued, stands_ready, stands_stopped, queued_download, stopped_download, QueueParts, lists_of, AreParts, AreNumbersOf}
use Rattle.dl_queue.proofs.Numbers.{first_listed, rest_listed}
use Rattle.dl_queue.proofs.Standing.{active_numbers, waiting_numbers, stopped_numbers}
use Rattle.dl_queue.proofs.Moves.{map_same, filter_same}
use Rattle.dl_queue.proofs.Steps.{same_lists}

-- each of the numbers stands so, and all others as they stood
abbrev pub AreMarked : List (Option Status) → List ℕ → Option Status → List (Option Status) → Type 0
AreMarked old numbers standing new =
    (m : ℕ) → 0 < m → standing_at new m ≡ cond (lists_number numbers m) standing (standing_at old m)

are_tested : (b : Bool) (test : Option Status → Bool) (s standing : Option Status) → (b ≡ true → test s ≡ test standing)
    → test s ≡ test (cond b standing s)
are_tested true test s standing same = same refl
are_tested false test s standing same = refl

marked_are : (test : Option Status → Bool) (old new : List (Option Status)) (numbers all : List ℕ) (standing : Option Status)
    → AreMarked old numbers standing new → ((m : ℕ) → 0 < m → lists_number all m ≡ test (standing_at old m))
    → ((m : ℕ) → 0 < m → lists_number numbers m ≡ true → test (standing_at old m) ≡ test standing)
    → (m : ℕ) → 0 < m → lists_number all m ≡ test (standing_at new m)
marked_are test old new numbers all standing marked are same m counts =
    are m counts ∙ are_tested (lists_number numbers m) test (standing_at old m) standing (same m counts)
    ∙ ap test (sym (marked m counts))

unmarked : (old new : List (Option Status)) (numbers : List ℕ) (standing : Option Status) (m : ℕ) → AreMarked old numbers standing new
    → 0 < m → lists_number numbers m ≡ false → standing_at new m ≡ standing_at old m
unmarked old new numbers standing m marked counts fresh =
    marked m counts ∙ ap (λ b. cond b standing (standing_at old m)) fresh

marked_so : (old new : List (Option Status)) (numbers : List ℕ) (standing : Option Status) (m : ℕ) → AreMarked old numbers standing new
    → 0 < m → lists_number numbers m ≡ true → standing_at new m ≡ standing
marked_so old new numbers standing m marked counts listed =
    marked m counts ∙ ap (λ b. cond b standing (standing_at old m)) listed

-- in which lists one can't stand that stands in another
queued_not : (s : Option Status) → stands_queued s ≡ true → (stands_active s ≡ false) × (stands_stopped s ≡ false)
queued_not None any = cc
queued_not (Some Waiting) any = (refl, refl)
queued_not (Some Paused) any = (refl, refl)
queued_not (Some other) any = cc

stopped_not : (s : Option Status) → stands_stopped s ≡ true → (stands_active s ≡ false) × (stands_queued s ≡ false)
stopped_not None any = cc
stopped_not (Some Active) any = cc
stopped_not (Some Waiting) any = cc
stopped_not (Some Paused) any = cc
stopped_not (Some other) any = (refl, refl)

pub record Marked (limit : ℕ) (new : QueueParts) (lists : QueueLists) : Type 0 where
  pub parts_are : AreParts new
  pub lists_are : lists_of limit new ≡ lists

filter_none : (p : ℕ → Bool) (numbers : List ℕ) → ((m : ℕ) → lists_number numbers m ≡ true → p m ≡ false) → filter p numbers ≡ []
filter_none p [] none = refl
filter_none p (y ∷ numbers) none =
    ap (λ b. cond b (y ∷ filter p numbers) (filter p numbers)) (none y (first_listed y numbers))
    ∙ filter_none p numbers (λ m listed. none m (rest_listed y numbers m listed))

filter_all : (p : ℕ → Bool) (numbers : List ℕ) → ((m : ℕ) → lists_number numbers m ≡ true → p m ≡ true) → filter p numbers ≡ numbers
filter_all p [] all = refl
filter_all p (y ∷ numbers) all =
    ap (λ b. cond b (y ∷ filter p numbers) (filter p numbers)) (all y (first_listed y numbers))
    ∙ ap (λ l. y ∷ l) (filter_all p numbers (λ m listed. all m (rest_listed y numbers m listed)))

map_of_map : {X Y : Type 0} (g : X → Y) (f : ℕ → X) (numbers : List ℕ) → map g (map f numbers) ≡ map (λ m. g (f m)) numbers
map_of_map g f [] = refl
map_of_map g f (y ∷ numbers) = ap (λ l. g (f y) ∷ l) (map_of_map g f numbers)

-- all waiting downloads stand alike
waiting_marked : (limit : ℕ) (parts : QueueParts) (standings : List (Option Status)) (ready : List ℕ) (status : Status) → AreParts parts
    → length standings ≡ length parts.standings → AreMarked parts.standings parts.waiting (Some status) standings
    → stands_queued (Some status) ≡ true → stands_active (Some status) ≡ false → stands_stopped (Some status) ≡ false
    → ready ≡ filter (λ m. stands_ready (standing_at standings m)) parts.waiting
    → Marked limit record parts { ready = ready; standings = standings }
    record (lists_of limit parts) { waiting = map (as_paused (not (stands_ready (Some status)))) (lists_of limit parts).waiting }
waiting_marked limit parts standings ready status are len marked queued active stopped ready_is =
    let s = λ (m : ℕ). standing_at parts.standings m in
    let queued_s : (m : ℕ) → 0 < m → lists_number parts.waiting m ≡ true → stands_queued (s m) ≡ true =
    λ m counts listed. sym (are.waiting_are m counts) ∙ listed in
    let not_waiting_stopped : (m : ℕ) → lists_number parts.stopped m ≡ true → lists_number parts.waiting m ≡ false = λ m listed.
    let counts = (stopped_numbers parts are m listed).0 in
    are.waiting_are m counts ∙ (stopped_not (s m) (sym (are.stopped_are m counts) ∙ listed)).1 in
    record {
      parts_are = record {
        many = len ∙ are.many;
        few = are.few;
        apart = are.apart;
        active_apart = are.active_apart;
        waiting_apart = are.waiting_apart;
        stopped_apart = are.stopped_apart;
        active_are = marked_are stands_active parts.standings standings parts.waiting parts.active (Some status) marked are.active_are
            (λ m counts listed. (queued_not (s m) (queued_s m counts listed)).0 ∙ sym active);
        waiting_are = marked_are stands_queued parts.standings standings parts.waiting parts.waiting (Some status) marked are.waiting_are
            (λ m counts listed. queued_s m counts listed ∙ sym queued);
        ready_are = ready_is;
        stopped_are = marked_are stands_stopped parts.standings standings parts.waiting parts.stopped (Some status) marked are.stopped_are
            (λ m counts listed. (queued_not (s m) (queued_s m counts listed)).1 ∙ sym stopped);
      };
      lists_are = same_lists limit parts.added _ _ _ _ _ _ refl
          (map_same (queued_download parts.added standings)
          (λ m. as_paused (not (stands_ready (Some status))) (queued_download parts.added parts.standings m)) parts.waiting
          (λ m listed. ap (λ t. let q : Queued = record { gid = gid_numbered parts.added m; paused = not (stands_ready t) } in q)
          (marked_so parts.standings standings parts.waiting (Some status) m marked (waiting_numbers parts are m listed).0 listed))
          ∙ sym (map_of_map (as_paused (not (stands_ready (Some status)))) (queued_download parts.added parts.standings) parts.waiting))
          (map_same (stopped_download parts.added standings) (stopped_download parts.added parts.standings) parts.stopped
          (λ m listed. ap (λ t. let d : Stopped = record { gid = gid_numbered parts.added m; ending = ending_by_standing t } in d)
          (unmarked parts.standings standings parts.waiting (Some status) m marked (stopped_numbers parts are m listed).0
          (not_waiting_stopped m listed))));
    }

pub all_paused : (limit : ℕ) (parts : QueueParts) (standings : List (Option Status)) → AreParts parts
    → length standings ≡ length parts.standings → AreMarked parts.standings parts.waiting (Some Paused) standings
    → Marked limit record parts { ready = []; standings = standings }
    record (lists_of limit parts) { waiting = map (as_paused true) (lists_of limit parts).waiting }
all_paused limit parts standings are len marked =
    waiting_marked limit parts standings [] Paused are len marked refl refl refl
    (sym (filter_none (λ m. stands_ready (standing_at standings m)) parts.waiting (λ m listed. ap stands_ready
    (marked_so parts.standings standings parts.waiting (Some Paused) m marked (waiting_numbers parts are m listed).0 listed))))

pub all_waiting : (limit : ℕ) (parts : QueueParts) (standings : List (Option Status)) → AreParts parts
    → length standings ≡ length parts.standings → AreMarked parts.standings parts.waiting (Some Waiting) standings
    → Marked limit record parts { ready = parts.waiting; standings = standings }
    record (lists_of limit parts) { waiting = map (as_paused false) (lists_of limit parts).waiting }
all_waiting limit parts standings are len marked =
    waiting_marked limit parts standings parts.waiting Waiting are len marked refl refl refl
    (sym (filter_all (λ m. stands_ready (standing_at standings m)) parts.waiting (λ m listed. ap stands_ready
    (marked_so parts.standings standings parts.waiting (Some Waiting) m marked (waiting_numbers parts are m listed).0 listed))))

-- all stopped downloads leave the lists
gone_tested : (b : Bool) (s : Option Status) → b ≡ stands_stopped s → false ≡ stands_stopped (cond b None s)
gone_tested true s is = refl
gone_tested false s is = is

pub all_gone : (limit : ℕ) (parts : QueueParts) (standings : List (Option Status)) → AreParts parts
    → length standings ≡ length parts.standings → AreMarked parts.standings parts.stopped None standings
    → Marked limit record parts { stopped = []; standings = standings }
    record (lists_of limit parts) { stopped = [] }
all_gone limit parts standings are len marked =
    let s = λ (m : ℕ). standing_at parts.standings m in
    let stopped_s : (m : ℕ) → 0 < m → lists_number parts.stopped m ≡ true → stands_stopped (s m) ≡ true =
    λ m counts listed. sym (are.stopped_are m counts) ∙ listed in
    let stays : (m : ℕ) → lists_number parts.waiting m ≡ true → standing_at standings m ≡ s m = λ m listed.
    let counts = (waiting_numbers parts are m listed).0 in
    unmarked parts.standings standings parts.stopped None m marked counts
    (are.stopped_are m counts ∙ (queued_not (s m) (sym (are.waiting_are m counts) ∙ listed)).1) in
    record {
      parts_are = record {
        many = len ∙ are.many;
        few = are.few;
        apart = are.apart;
        active_apart = are.active_apart;
        waiting_apart = are.waiting_apart;
        stopped_apart = (refl, tt);
        active_are = marked_are stands_active parts.standings standings parts.stopped parts.active None marked are.active_are
            (λ m counts listed. (stopped_not (s m) (stopped_s m counts listed)).0);
        waiting_are = marked_are stands_queued parts.standings standings parts.stopped parts.waiting None marked are.waiting_are
            (λ m counts listed. (stopped_not (s m) (stopped_s m counts listed)).1);
        ready_are = are.ready_are ∙ sym (filter_same (λ m. stands_ready (standing_at standings m)) (λ m. stands_ready (s m)) parts.waiting
            (λ m listed. ap stands_ready (stays m listed)));
        stopped_are = λ m counts. gone_tested (lists_number parts.stopped m) (s m) (are.stopped_are m counts)
            ∙ ap stands_stopped (sym (marked m counts));
      };
      lists_are = same_lists limit parts.added _ _ _ _ _ _ refl
          (map_same (queued_download parts.added standings) (queued_download parts.added parts.standings) parts.waiting
          (λ m listed. ap (λ t. let q : Queued = record { gid = gid_numbered parts.added m; paused = not (stands_ready t) } in q) (stays m listed)))
          refl;
    }
