-- What it leaves that one download stands elsewhere.
use Rattle.std.proofs.Common.{◌≡◌, ◌≢◌, ◌<◌, ◌≤◌, ◌+◌, ◌-◌, ◌==◌, ◌||◌, ◌&&◌, ℕ, cond, get_or, take, drop, zero, suc, Bool, true, false, not, List, [], ◌∷◌, ◌++◌, length, map, filter, find, unwrap_or, Option, None, Some, refl, sym, ◌∙◌, ap, subst, arith, eq-eqb, true≢false}
use Rattle.std.proofs.Math.ListN.{set, length-set}
use Rattle.std.proofs.lemmas.List.{map-append, take-map, drop-map}
use borrow.Author.Tests.{eqb-true}
use Rattle.std.proofs.lemmas.Bool.{eqb-false, ne_eqb}
use Rattle.std.specs.Prelude.{insert, remove, slice_get}
use Rattle.dl_kinds.specs.declared.gid.Gid.{Gid}
use Rattle.dl_kinds.specs.declared.status.Status.{Status}
use Rattle.dl_kinds.specs.declared.status.Status.TheVariants.{Active, Waiting, Paused}
use Rattle.number_list.specs.Order.{lists_number, number_place, NoneTwice}
use Rattle.dl_queue.specs.declared.kinds.Added.{Added}
use Rattle.dl_queue.specs.declared.kinds.Queued.{Queued}
use Rattle.dl_queue.specs.declared.kinds.Stopped.{Stopped}
use Rattle.dl_queue.specs.Lists.{QueueLists}
use Rattle.dl_queue.specs.Endings.{ending_by_standing}
use Rattle.dl_queue.specs.Places.{active_place, queued_place, stopped_place, status_of}
use Rattle.dl_queue.specs.Held.{gid_numbered, standing_at, stands_active, stands_queued, stands_ready, stands_stopped, queued_download, stopped_download, QueueParts, lists_of, AreParts, AreNumbersOf}
use Rattle.dl_queue.proofs.Numbers.{first_listed, rest_listed, neither, either_left, either_right, marked_there, marked_elsewhere}
use Rattle.dl_queue.proofs.Standing.{IsNumber, active_numbers, waiting_numbers, stopped_numbers, active_place_is, queued_place_is, stopped_place_is, status_is}

-- what numbers stand for, where most stand for the same
pub map_same : {X : Type 0} (f g : ℕ → X) (numbers : List ℕ) → ((m : ℕ) → lists_number numbers m ≡ true → f m ≡ g m)
    → map f numbers ≡ map g numbers
map_same f g [] each = refl
map_same f g (y ∷ numbers) each =
    ap (λ h. h ∷ map f numbers) (each y (first_listed y numbers))
    ∙ ap (λ t. g y ∷ t) (map_same f g numbers (λ m listed. each m (rest_listed y numbers m listed)))

pub filter_same : (p q : ℕ → Bool) (numbers : List ℕ) → ((m : ℕ) → lists_number numbers m ≡ true → p m ≡ q m)
    → filter p numbers ≡ filter q numbers
filter_same p q [] each = refl
filter_same p q (y ∷ numbers) each =
    let rest = filter_same p q numbers (λ m listed. each m (rest_listed y numbers m listed)) in
    ap (λ b. cond b (y ∷ filter p numbers) (filter p numbers)) (each y (first_listed y numbers))
    ∙ ap (λ l. cond (q y) (y ∷ l) l) rest

pub map_removed : {X : Type 0} (f : ℕ → X) (numbers : List ℕ) (i : ℕ) → map f (remove numbers i) ≡ remove (map f numbers) i
map_removed f numbers i = map-append f (take i numbers) (drop (suc i) numbers)
    ∙ ap (λ l. l ++ map f (drop (suc i) numbers)) (sym (take-map f i numbers)) ∙ ap (λ l. take i (map f numbers) ++ l) (sym (drop-map f (suc i) numbers))

pub map_inserted : {X : Type 0} (f : ℕ → X) (numbers : List ℕ) (i x : ℕ) → map f (insert numbers i x) ≡ insert (map f numbers) i (f x)
map_inserted f numbers i x = map-append f (take i numbers) (x ∷ drop i numbers)
    ∙ ap (λ l. l ++ f x ∷ map f (drop i numbers)) (sym (take-map f i numbers)) ∙ ap (λ l. take i (map f numbers) ++ f x ∷ l) (sym (drop-map f i numbers))

-- how all others stand
pub stays : (standings : List (Option Status)) (n m : ℕ) (standing : Option Status) → 0 < n → 0 < m → (m == n) ≡ false
    → standing_at (set standings (n - 1) standing) m ≡ standing_at standings m
stays standings n m standing counts counted other = marked_elsewhere standings n m standing counts counted other

pub other_number : (numbers : List ℕ) (n m : ℕ) → lists_number numbers n ≡ false → lists_number numbers m ≡ true → (m == n) ≡ false
other_number numbers n m fresh listed =
    ne_eqb m n (λ same. true≢false (sym listed ∙ ap (lists_number numbers) same ∙ fresh))

-- all of a list that doesn't have the number stand as they stood
pub others_stay : (standings : List (Option Status)) (n : ℕ) (standing : Option Status) (numbers : List ℕ) → 0 < n
    → AreNumbersOf standings numbers → lists_number numbers n ≡ false → (m : ℕ) → lists_number numbers m ≡ true
    → standing_at (set standings (n - 1) standing) m ≡ standing_at standings m
others_stay standings n standing numbers counts their fresh m listed =
    stays standings n m standing counts (their m listed).0 (other_number numbers n m fresh listed)

-- which stand in a list, after one stands elsewhere
kept_tested : (b : Bool) (test : Option Status → Bool) (standings : List (Option Status)) (n m : ℕ) (standing : Option Status) → (m == n) ≡ b
    → 0 < n → n ≤ length standings → 0 < m → test (standing_at standings n) ≡ test standing
    → test (standing_at standings m) ≡ test (standing_at (set standings (n - 1) standing) m)
kept_tested true test standings n m standing is counts within counted same =
    let one = eqb-true m n is in
    ap (λ k. test (standing_at standings k)) one ∙ same ∙ ap test (sym (marked_there standings n standing counts within))
    ∙ ap (λ k. test (standing_at (set standings (n - 1) standing) k)) (sym one)
kept_tested false test standings n m standing is counts within counted same =
    ap test (sym (stays standings n m standing counts counted is))

pub are_kept : (test : Option Status → Bool) (standings : List (Option Status)) (numbers : List ℕ) (n : ℕ) (standing : Option Status)
    → 0 < n → n ≤ length standings → ((m : ℕ) → 0 < m → lists_number numbers m ≡ test (standing_at standings m))
    → test (standing_at standings n) ≡ test standing
    → (m : ℕ) → 0 < m → lists_number numbers m ≡ test (standing_at (set standings (n - 1) standing) m)
are_kept test standings numbers n standing counts within are same m counted =
    are m counted ∙ kept_tested (m == n) test standings n m standing refl counts within counted same

less_tested : (b : Bool) (test : Option Status → Bool) (standings : List (Option Status)) (numbers : List ℕ) (n m : ℕ)
    (standing : Option Status) → (m == n) ≡ b → 0 < n → n ≤ length standings → 0 < m
    → lists_number numbers m ≡ test (standing_at standings m) → test standing ≡ false
    → (not b && lists_number numbers m) ≡ test (standing_at (set standings (n - 1) standing) m)
less_tested true test standings numbers n m standing is counts within counted are none =
    sym (ap (λ k. test (standing_at (set standings (n - 1) standing) k)) (eqb-true m n is)
    ∙ ap test (marked_there standings n standing counts within) ∙ none)
less_tested false test standings numbers n m standing is counts within counted are none =
    are ∙ ap test (sym (stays standings n m standing counts counted is))

pub are_less : (test : Option Status → Bool) (standings : List (Option Status)) (numbers less : List ℕ) (n : ℕ)
    (standing : Option Status) → 0 < n → n ≤ length standings
    → ((m : ℕ) → 0 < m → lists_number numbers m ≡ test (standing_at standings m))
    → ((m : ℕ) → lists_number less m ≡ (not (m == n) && lists_number numbers m)) → test standing ≡ false
    → (m : ℕ) → 0 < m → lists_number less m ≡ test (standing_at (set standings (n - 1) standing) m)
are_less test standings numbers less n standing counts within are lists none m counted =
    lists m ∙ less_tested (m == n) test standings numbers n m standing refl counts within counted (are m counted) none

more_tested : (b : Bool) (test : Option Status → Bool) (standings : List (Option Status)) (numbers : List ℕ) (n m : ℕ)
    (standing : Option Status) → (m == n) ≡ b → 0 < n → n ≤ length standings → 0 < m
    → lists_number numbers m ≡ test (standing_at standings m) → test standing ≡ true
    → (b || lists_number numbers m) ≡ test (standing_at (set standings (n - 1) standing) m)
more_tested true test standings numbers n m standing is counts within counted are some =
    sym (ap (λ k. test (standing_at (set standings (n - 1) standing) k)) (eqb-true m n is)
    ∙ ap test (marked_there standings n standing counts within) ∙ some)
more_tested false test standings numbers n m standing is counts within counted are some =
    are ∙ ap test (sym (stays standings n m standing counts counted is))

pub are_more : (test : Option Status → Bool) (standings : List (Option Status)) (numbers more : List ℕ) (n : ℕ)
    (standing : Option Status) → 0 < n → n ≤ length standings
    → ((m : ℕ) → 0 < m → lists_number numbers m ≡ test (standing_at standings m))
    → ((m : ℕ) → lists_number more m ≡ ((m == n) || lists_number numbers m)) → test standing ≡ true
    → (m : ℕ) → 0 < m → lists_number more m ≡ test (standing_at (set standings (n - 1) standing) m)
are_more test standings numbers more n standing counts within are lists some m counted =
    lists m ∙ more_tested (m == n) test standings numbers n m standing refl counts within counted (are m counted) some

-- what a list is after a change of the standing of a number that it doesn't have
pub queued_same : (added : List Added) (standings : List (Option Status)) (n : ℕ) (standing : Option Status) (numbers : List ℕ) → 0 < n
    → AreNumbersOf standings numbers → lists_number numbers n ≡ false
    → map (queued_download added (set standings (n - 1) standing)) numbers ≡ map (queued_download added standings) numbers
queued_same added standings n standing numbers counts their fresh =
    map_same (queued_download added (set standings (n - 1) standing)) (queued_download added standings) numbers
    (λ m listed. ap (λ s. let q : Queued = record { gid = gid_numbered added m; paused = not (stands_ready s) } in q)
    (others_stay standings n standing numbers counts their fresh m listed))

pub stopped_same : (added : List Added) (standings : List (Option Status)) (n : ℕ) (standing : Option Status) (numbers : List ℕ) → 0 < n
    → AreNumbersOf standings numbers → lists_number numbers n ≡ false
    → map (stopped_download added (set standings (n - 1) standing)) numbers ≡ map (stopped_download added standings) numbers
stopped_same added standings n standing numbers counts their fresh =
    map_same (stopped_download added (set standings (n - 1) standing)) (stopped_download added standings) numbers
    (λ m listed. ap (λ s. let d : Stopped = record { gid = gid_numbered added m; ending = ending_by_standing s } in d)
    (others_stay standings n standing numbers counts their fresh m listed))

pub ready_same : (standings : List (Option Status)) (n : ℕ) (standing : Option Status) (numbers : List ℕ) → 0 < n
    → AreNumbersOf standings numbers → lists_number numbers n ≡ false
    → filter (λ m. stands_ready (standing_at (set standings (n - 1) standing) m)) numbers
    ≡ filter (λ m. stands_ready (standing_at standings m)) numbers
ready_same standings n standing numbers counts their fresh =
    filter_same (λ m. stands_ready (standing_at (set standings (n - 1) standing) m)) (λ m. stands_ready (standing_at standings m)) numbers
    (λ m listed. ap stands_ready (others_stay standings n standing numbers counts their fresh m listed))
