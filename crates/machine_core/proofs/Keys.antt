-- The download that a key names.
use Rattle.std.proofs.Common.{◌≡◌, ℕ, Bool, true, false, cond, Some, None, ◌<◌, List, [], ◌∷◌, ◌++◌, length, refl, sym, ap, ◌∙◌, subst, ⊎_elim, arith}
use Rattle.std.specs.Prelude.{Contains, IsSome, Result, Ok, Err, count_by, filter, map, nat_lt}
use Rattle.std.specs.List.{position_or_len}
use Rattle.std.proofs.lemmas.Bool.Decides.{nat_tests}
use Rattle.std.proofs.lemmas.List.Elements.{Contains-append_left, Contains-append_right}
use Rattle.std.proofs.lemmas.List.Folds.{find_at}
use Rattle.std.proofs.lemmas.List.Sums.{length-filter, sum_by-append, sum_by-cons}
use Rattle.dl_kinds.specs.declared.gid.Gid.{Gid}
use Rattle.dl_kinds.specs.declared.gid_key.GidKey.{GidKey}
use Rattle.dl_kinds.specs.declared.status.Status.{Status}
use Rattle.dl_queue.specs.Calls.{Finds, QueueCall, after, count_named, names_gid}
use Rattle.dl_queue.specs.Lists.{QueueLists}
use Rattle.dl_queue.specs.Places.{active_place, is_gid, is_queued, is_stopped, queued_place, status_of, stopped_place}
use Rattle.dl_queue.specs.declared.kinds.Queued.{Queued}
use Rattle.dl_queue.specs.declared.kinds.QueueErr.{QueueErr}
use Rattle.dl_queue.specs.declared.kinds.QueueErr.TheVariants.{Ambiguous, Full, NoMemory, NotFound, SameGid, WrongStatus}
use Rattle.dl_queue.specs.declared.kinds.Stopped.{Stopped}
use Rattle.machine_core.specs.Answers.{find_keyed, sole_gid}
use Rattle.machine_core.specs.CallParts.{queue_keyed}
use Rattle.machine_core.specs.Replays.{keyed_gid, only_one, queued_gids}
use Rattle.machine_core.proofs.Lists.{IsFound, behind, contains_cases, element_at, found, front}
use Rattle.machine_core.proofs.Parts.{gid_is}

-- ---- how many a key names

count_map : {A B : Type 0} (p : B → Bool) (f : A → B) (xs : List A)
    → count_by p (map f xs) ≡ count_by (λ (x : A). p (f x)) xs
count_map p f [] = refl
count_map p f (x ∷ xs) =
    let h = count_map p f xs in
    omega (arith, sum_by-cons (λ y. cond (p y) 1 0) (f x) (map f xs), sum_by-cons (λ y. cond (p (f y)) 1 0) x xs)

named_count : (queue : QueueLists) (key : GidKey)
    → length (filter (names_gid key) (queued_gids queue)) ≡ count_named queue key
named_count queue key =
    let waiting = map (λ (q : Queued). q.gid) queue.waiting in
    let stopped = map (λ (s : Stopped). s.gid) queue.stopped in
    let named : Gid → ℕ = λ g. cond (names_gid key g) 1 0 in
    let all = length-filter (names_gid key) (queued_gids queue) in
    let first = sum_by-append named (queue.active ++ waiting) stopped in
    let second = sum_by-append named queue.active waiting in
    let w = count_map (names_gid key) (λ (q : Queued). q.gid) queue.waiting in
    let s = count_map (names_gid key) (λ (s : Stopped). s.gid) queue.stopped in
    omega arith

-- ---- a download with a status is in the lists

first_there : {A : Type 0} (p : A → Bool) (xs : List A) → position_or_len p xs < length xs → (x : A) × IsFound p xs x
first_there p xs within =
    let e = element_at xs (position_or_len p xs) within in
    (e.0, found p xs e.0 (find_at p xs ∙ e.1))

contains_map : {A B : Type 0} (f : A → B) (xs : List A) (x : A) → Contains xs x → Contains (map f xs) (f x)
contains_map f [] x there = absurd (let w = there.1 in omega arith)
contains_map f (y ∷ xs) x there =
    ⊎_elim (λ (is : y ≡ x). front (f y) (map f xs) (f x) (ap f is))
    (λ (more : Contains xs x). behind (f y) (map f xs) (f x) (contains_map f xs x more))
    (contains_cases y xs x there)

in_active : (queue : QueueLists) (gid : Gid) → active_place gid queue.active < length queue.active
    → Contains queue.active gid
in_active queue gid within =
    let f = first_there (is_gid gid) queue.active within in
    subst (λ (g : Gid). Contains queue.active g) (gid_is gid f.0 f.1.passes) f.1.there

in_waiting : (queue : QueueLists) (gid : Gid) → queued_place gid queue.waiting < length queue.waiting
    → Contains (map (λ (q : Queued). q.gid) queue.waiting) gid
in_waiting queue gid within =
    let f = first_there (is_queued gid) queue.waiting within in
    subst (λ (g : Gid). Contains (map (λ (q : Queued). q.gid) queue.waiting) g) (gid_is gid f.0.gid f.1.passes)
    (contains_map (λ (q : Queued). q.gid) queue.waiting f.0 f.1.there)

in_stopped : (queue : QueueLists) (gid : Gid) → stopped_place gid queue.stopped < length queue.stopped
    → Contains (map (λ (s : Stopped). s.gid) queue.stopped) gid
in_stopped queue gid within =
    let f = first_there (is_stopped gid) queue.stopped within in
    subst (λ (g : Gid). Contains (map (λ (s : Stopped). s.gid) queue.stopped) g) (gid_is gid f.0.gid f.1.passes)
    (contains_map (λ (s : Stopped). s.gid) queue.stopped f.0 f.1.there)

below : (a b : ℕ) → nat_lt a b ≡ true → a < b
below a b is = grind (arith, nat_tests)

listed_by : (queue : QueueLists) (gid : Gid) (a b c : Bool) (x y z : Status)
    → nat_lt (active_place gid queue.active) (length queue.active) ≡ a
    → nat_lt (queued_place gid queue.waiting) (length queue.waiting) ≡ b
    → nat_lt (stopped_place gid queue.stopped) (length queue.stopped) ≡ c
    → IsSome (cond a (Some x) (cond b (Some y) (cond c (Some z) None))) → Contains (queued_gids queue) gid
listed_by queue gid true b c x y z p q r some =
    Contains-append_left (queue.active ++ map (λ (q : Queued). q.gid) queue.waiting) _ gid
    (Contains-append_left queue.active _ gid (in_active queue gid (below _ _ p)))
listed_by queue gid false true c x y z p q r some =
    Contains-append_left (queue.active ++ map (λ (q : Queued). q.gid) queue.waiting) _ gid
    (Contains-append_right queue.active _ gid (in_waiting queue gid (below _ _ q)))
listed_by queue gid false false true x y z p q r some =
    Contains-append_right (queue.active ++ map (λ (q : Queued). q.gid) queue.waiting) _ gid
    (in_stopped queue gid (below _ _ r))
listed_by queue gid false false false x y z p q r some = absurd (let s = some in cc)

pub is_listed_gid : (queue : QueueLists) (gid : Gid) → IsSome (status_of queue gid) → Contains (queued_gids queue) gid
is_listed_gid queue gid some = listed_by queue gid _ _ _ _ _ _ refl refl refl some

-- ---- the one that is named

kept_where : {A : Type 0} (p : A → Bool) (y : A) (ys : List A) (x : A) (t : Bool) → p y ≡ t
    → Contains (y ∷ ys) x → p x ≡ true → (Contains ys x → Contains (filter p ys) x)
    → Contains (cond t (y ∷ filter p ys) (filter p ys)) x
kept_where p y ys x true is there passes rest =
    ⊎_elim (λ (same : y ≡ x). front y (filter p ys) x same)
    (λ (more : Contains ys x). behind y (filter p ys) x (rest more)) (contains_cases y ys x there)
kept_where p y ys x false is there passes rest =
    ⊎_elim (λ (same : y ≡ x). absurd (let s : p y ≡ true = ap p same ∙ passes in cc))
    (λ (more : Contains ys x). rest more) (contains_cases y ys x there)

in_filter : {A : Type 0} (p : A → Bool) (xs : List A) (x : A) → Contains xs x → p x ≡ true → Contains (filter p xs) x
in_filter p [] x there passes = there
in_filter p (y ∷ ys) x there passes =
    kept_where p y ys x (p y) refl there passes (λ more. in_filter p ys x more passes)

only : (xs : List Gid) (gid : Gid) → length xs ≡ 1 → Contains xs gid → sole_gid xs ≡ Ok gid
only [] gid one there = absurd (omega arith)
only (x ∷ []) gid one there =
    ⊎_elim (λ (is : x ≡ gid). ap (λ (g : Gid). Ok g) is)
    (λ (more : Contains [] gid). absurd (let w = more.1 in omega arith)) (contains_cases x [] gid there)
only (x ∷ y ∷ xs) gid one there = absurd (omega arith)

none_named : (xs : List Gid) → length xs ≡ 0 → sole_gid xs ≡ Err NotFound
none_named [] none = refl
none_named (x ∷ xs) none = absurd (omega arith)

several : (xs : List Gid) (count : ℕ) → length xs ≡ count → 1 < count → sole_gid xs ≡ Err (Ambiguous count)
several [] count is more = absurd (omega arith)
several (x ∷ []) count is more = absurd (omega arith)
several (x ∷ y ∷ xs) count is more = ap (λ (n : ℕ). Err (Ambiguous n)) is

-- looking up a key answers what the definition does
pub find_is : (queue : QueueLists) (key : GidKey) (r : Result Gid QueueErr) → Finds queue key r
    → r ≡ find_keyed queue key
find_is queue key (Ok gid) f =
    sym (only (filter (names_gid key) (queued_gids queue)) gid (named_count queue key ∙ f.0)
    (in_filter (names_gid key) (queued_gids queue) gid (is_listed_gid queue gid f.1) f.2))
find_is queue key (Err NotFound) f =
    sym (none_named (filter (names_gid key) (queued_gids queue)) (named_count queue key ∙ f))
find_is queue key (Err (Ambiguous count)) f =
    sym (several (filter (names_gid key) (queued_gids queue)) count (named_count queue key ∙ f.0) f.1)
find_is queue key (Err (WrongStatus status)) f = absurd f
find_is queue key (Err SameGid) f = absurd f
find_is queue key (Err (Full count)) f = absurd f
find_is queue key (Err NoMemory) f = absurd f

-- ---- whether one is named

sole_found : (xs : List Gid) (gid : Gid) → sole_gid xs ≡ Ok gid → only_one xs ≡ Some gid
sole_found [] gid is = absurd cc
sole_found (x ∷ []) gid is = let same : x ≡ gid = cc in ap (λ (g : Gid). Some g) same
sole_found (x ∷ y ∷ xs) gid is = absurd cc

sole_none : (xs : List Gid) (e : QueueErr) → sole_gid xs ≡ Err e → only_one xs ≡ None
sole_none [] e is = refl
sole_none (x ∷ []) e is = absurd cc
sole_none (x ∷ y ∷ xs) e is = refl

pub keyed_found : (queue : QueueLists) (key : GidKey) (gid : Gid) → find_keyed queue key ≡ Ok gid
    → keyed_gid queue key ≡ Some gid
keyed_found queue key gid is = sole_found (filter (names_gid key) (queued_gids queue)) gid is

pub keyed_none : (queue : QueueLists) (key : GidKey) (e : QueueErr) → find_keyed queue key ≡ Err e
    → keyed_gid queue key ≡ None
keyed_none queue key e is = sole_none (filter (names_gid key) (queued_gids queue)) e is

-- the queue after a call of the download that a key names, or of none
pub queue_found : (queue new : QueueLists) (queue_call : Gid → QueueCall) (key : GidKey) (gid : Gid)
    → find_keyed queue key ≡ Ok gid → new ≡ after queue (queue_call gid)
    → new ≡ queue_keyed queue queue_call (keyed_gid queue key)
queue_found queue new queue_call key gid found is =
    is ∙ ap (queue_keyed queue queue_call) (sym (keyed_found queue key gid found))

pub queue_missed : (queue : QueueLists) (queue_call : Gid → QueueCall) (key : GidKey) (e : QueueErr)
    → find_keyed queue key ≡ Err e → queue ≡ queue_keyed queue queue_call (keyed_gid queue key)
queue_missed queue queue_call key e missed =
    ap (queue_keyed queue queue_call) (sym (keyed_none queue key e missed))
