-- Whether an element of a list passes a test, and the first place where one does.
use Rattle.std.proofs.Common.{◌≡◌, ◌≢◌, ℕ, zero, suc, Bool, true, false, cond, Option, Some, None, ◌+◌, ◌-◌, ◌≤◌, List, [], ◌∷◌, length, refl, sym, ap, ◌∙◌, arith}
use Rattle.std.specs.Prelude.{◌==◌, ◌&&◌, ◌||◌, Err, find, map, nat_lt, not}
use Rattle.std.specs.Option.{is_none, is_some, ok_or, unwrap_or}
use Rattle.std.specs.List.{list_any, position_or_len, range_with_len}
use Rattle.std.proofs.lemmas.Bool.Decides.{nat_tests}
use Rattle.dl_kinds.specs.declared.gid.Gid.{Gid}
use Rattle.dl_kinds.specs.declared.status.Status.{Status}
use Rattle.dl_kinds.specs.declared.status.Status.TheVariants as status
use Rattle.dl_queue.specs.Calls.{added_place, adding_place, was_added}
use Rattle.dl_queue.specs.Endings.{ended_status}
use Rattle.dl_queue.specs.Lists.{QueueLists}
use Rattle.dl_queue.specs.Places.{is_gid, queued_at, queued_place, queued_status, status_of, stopped_at, stopped_place}
use Rattle.dl_queue.specs.declared.kinds.Added.{Added}
use Rattle.dl_queue.specs.declared.kinds.Ending.{Ending}
use Rattle.dl_queue.specs.declared.kinds.Ending.TheVariants as ending
use Rattle.dl_queue.specs.declared.kinds.QueueErr.{QueueErr}
use Rattle.dl_queue.specs.declared.kinds.QueueErr.TheVariants.{NotFound}
use Rattle.dl_queue.specs.declared.kinds.Queued.{Queued}
use Rattle.machine_core.specs.MachineParts.{added_as}
use Rattle.machine_core.specs.Replays.{gid_number, has_active, is_free_number}
use Rattle.machine_core.specs.Starts.{Download}

same_below : (n k : ℕ) (t : Bool) → nat_lt n k ≡ t → nat_lt n k ≡ nat_lt (1 + n) (suc k)
same_below n k true is = let on : nat_lt (1 + n) (suc k) ≡ true = grind (arith, nat_tests) in is ∙ sym on
same_below n k false is = let off : nat_lt (1 + n) (suc k) ≡ false = grind (arith, nat_tests) in is ∙ sym off

below_where : (t any : Bool) (n k : ℕ) → any ≡ nat_lt n k → (t || any) ≡ nat_lt (cond (not t) (1 + n) 0) (suc k)
below_where true any n k is = let on : nat_lt 0 (suc k) ≡ true = grind (arith, nat_tests) in sym on
below_where false any n k is = is ∙ same_below n k (nat_lt n k) refl

pub any_below : {A : Type 0} (p : A → Bool) (xs : List A) → list_any p xs ≡ nat_lt (position_or_len p xs) (length xs)
any_below p [] = refl
any_below p (x ∷ xs) = below_where (p x) (list_any p xs) (position_or_len p xs) (length xs) (any_below p xs)

-- ---- the active list

queued_not : (q : Queued) (t : Bool) → q.paused ≡ t → queued_status q ≢ status.Active
queued_not q true is same = absurd (let s : queued_status q ≡ status.Paused = rw is refl in cc)
queued_not q false is same = absurd (let s : queued_status q ≡ status.Waiting = rw is refl in cc)

ended_not : (e : Ending) → ended_status e ≢ status.Active
ended_not ending.Failed same = absurd cc
ended_not ending.Complete same = absurd cc
ended_not ending.Removed same = absurd cc

standing_cases : (a b c : Bool) (x y : Status) → x ≢ status.Active → y ≢ status.Active → (s : Status)
    → cond a (Some status.Active) (cond b (Some x) (cond c (Some y) None)) ≡ Some s
    → (s ≡ status.Active → a ≡ true) × (s ≢ status.Active → a ≡ false)
standing_cases true b c x y p q s is = (λ same. refl, λ other. absurd (other (let e : status.Active ≡ s = cc in sym e)))
standing_cases false true c x y p q s is =
    let e : x ≡ s = cc in (λ same. absurd (p (e ∙ same)), λ other. refl)
standing_cases false false true x y p q s is =
    let e : y ≡ s = cc in (λ same. absurd (q (e ∙ same)), λ other. refl)
standing_cases false false false x y p q s is = absurd cc

none_standing : (a b c : Bool) (x y : Status)
    → cond a (Some status.Active) (cond b (Some x) (cond c (Some y) None)) ≡ None → a ≡ false
none_standing true b c x y is = absurd cc
none_standing false b c x y is = refl

pub active_by : (queue : QueueLists) (gid : Gid) (s : Status) → status_of queue gid ≡ Some s
    → (s ≡ status.Active → has_active queue gid ≡ true) × (s ≢ status.Active → has_active queue gid ≡ false)
active_by queue gid s is =
    let k = standing_cases _ _ _ _ _ (queued_not (queued_at gid queue.waiting (queued_place gid queue.waiting)) _ refl)
    (ended_not (stopped_at gid queue.stopped (stopped_place gid queue.stopped)).ending) s is in
    (λ same. any_below (is_gid gid) queue.active ∙ k.0 same, λ other. any_below (is_gid gid) queue.active ∙ k.1 other)

pub none_active_by : (queue : QueueLists) (gid : Gid) → status_of queue gid ≡ None → has_active queue gid ≡ false
none_active_by queue gid is = any_below (is_gid gid) queue.active
    ∙ none_standing _ (nat_lt (queued_place gid queue.waiting) (length queue.waiting))
    (nat_lt (stopped_place gid queue.stopped) (length queue.stopped))
    (queued_status (queued_at gid queue.waiting (queued_place gid queue.waiting)))
    (ended_status (stopped_at gid queue.stopped (stopped_place gid queue.stopped)).ending) is

-- ---- numbers of gids

any_added : (number : ℕ) (ds : List Download)
    → list_any (λ (a : Added). a.gid.0 == number) (map added_as ds) ≡ list_any (λ (d : Download). d.gid.0 == number) ds
any_added number [] = refl
any_added number (d ∷ ds) = ap (λ (t : Bool). (d.gid.0 == number) || t) (any_added number ds)

-- the number is used by a download
pub used_by : (added : List Added) (number : ℕ) (ds : List Download) → added ≡ map added_as ds
    → list_any (λ (d : Download). d.gid.0 == number) ds ≡ was_added added (record { 0 = number })
used_by added number ds is =
    sym (any_added number ds)
    ∙ (ap (λ (all : List Added). list_any (λ (a : Added). a.gid.0 == number) all) (sym is)
    ∙ any_below (λ (a : Added). a.gid.0 == number) added)

-- ---- the first number that is free

abbrev pub first_free : ℕ → List Download → ℕ → ℕ → Option ℕ
first_free gids ds from count = find (is_free_number ds) (map (gid_number gids) (range_with_len from count))

pub next_number : (gids : ℕ) (ds : List Download) (from count : ℕ) → 1 ≤ count
    → is_free_number ds (gid_number gids from) ≡ false
    → first_free gids ds from count ≡ first_free gids ds (from + 1) (count - 1)
next_number gids ds from zero some un = absurd (omega arith)
next_number gids ds from (suc n) some un =
    let less : suc n - 1 ≡ n = omega arith in
    rw un (ap (λ (m : ℕ). first_free gids ds (from + 1) m) (sym less))

pub this_number : (gids : ℕ) (ds : List Download) (from count : ℕ) → 1 ≤ count
    → is_free_number ds (gid_number gids from) ≡ true
    → first_free gids ds from count ≡ Some (gid_number gids from)
this_number gids ds from zero some on = absurd (omega arith)
this_number gids ds from (suc n) some on = rw on refl

pub no_status : (o : Option Status) (e : QueueErr) → Err e ≡ ok_or o NotFound → o ≡ None
no_status None e is = refl
no_status (Some s) e is = absurd cc

pub decided : (r t : Bool) → (r ≡ true → t ≡ true) → (r ≡ false → t ≡ false) → r ≡ t
decided true t on off = sym (on refl)
decided false t on off = sym (off refl)

none_cond : (t : Bool) (n : ℕ) → is_none (cond t (Some n) None) ≡ not t
none_cond true n = refl
none_cond false n = refl

both_is : (zero used : Bool) → zero ≡ false → not used ≡ (not zero && not used)
both_is true used off = absurd cc
both_is false used off = refl

pub free_is : (added : List Added) (number : ℕ) (ds : List Download) (o : Option ℕ) (r : Bool) → added ≡ map added_as ds
    → number ≢ 0 → o ≡ adding_place added (record { 0 = number }) → r ≡ is_none o → r ≡ is_free_number ds number
free_is added number ds o r is some place none =
    let off : (number == 0) ≡ false = grind (arith, nat_tests) in
    none
    ∙ (ap is_none place
    ∙ (none_cond (was_added added (record { 0 = number })) (added_place (record { 0 = number }) added)
    ∙ (ap not (sym (used_by added number ds is))
    ∙ both_is (number == 0) (list_any (λ (d : Download). d.gid.0 == number) ds) off)))

pub made_here : (gids : ℕ) (ds : List Download) (place n number : ℕ) (made : Option ℕ)
    → made ≡ first_free gids ds place n → 1 ≤ n → number ≡ gid_number gids place → is_free_number ds number ≡ true
    → number ≡ unwrap_or made 0
made_here gids ds place n number made is some number_is free =
    number_is
    ∙ ap (λ (o : Option ℕ). unwrap_or o 0)
    (sym (is ∙ this_number gids ds place n some (ap (is_free_number ds) (sym number_is) ∙ free)))

pub made_next : (gids : ℕ) (ds : List Download) (place n m number : ℕ) (made : Option ℕ)
    → made ≡ first_free gids ds place n → 1 ≤ n → n - 1 ≡ m → number ≡ gid_number gids place
    → is_free_number ds number ≡ false → made ≡ first_free gids ds (place + 1) m
made_next gids ds place n m number made is some less number_is used =
    is
    ∙ (next_number gids ds place n some (ap (is_free_number ds) (sym number_is) ∙ used)
    ∙ ap (λ (k : ℕ). first_free gids ds (place + 1) k) less)

pub none_of : (o : Option ℕ) (r : Bool) → is_some o ≡ not r → r ≡ is_none o
none_of None true is = refl
none_of None false is = absurd cc
none_of (Some n) true is = absurd cc
none_of (Some n) false is = refl
