-- What is read of whole lists of a queue.
use Rattle.std.proofs.Common.{◌≡◌, ◌≢◌, ◌<◌, ◌≤◌, ◌+◌, ◌-◌, ◌*◌, ◌==◌, ◌||◌, ℕ, cond, get_or, take, drop, zero, suc, nat_lt, Bool, true, false, not, List, [], ◌∷◌, ◌++◌, length, map, filter, find, unwrap_or, count_by, Option, None, Some, IsSome, IfSome, IsTrue, refl, sym, ◌∙◌, ap, subst, arith, eq-eqb, true≢false}
use borrow.Author.Tests.{eqb-true, ltb-true, ltb-false}
use Rattle.std.proofs.lemmas.Bool.{eqb-false, ne_eqb, lt-ltb}
use Rattle.std.proofs.lemmas.List.{length-map, map-append}
use Rattle.std.proofs.lemmas.List.Sums.{sum_by-cons, count_by-le-length}
use Rattle.std.proofs.lemmas.Map.Steps.{length-le_from_distinct_below}
use Rattle.std.specs.List.{position_or_len, IsDistinct, AllByRecursion}
use Rattle.std.specs.Option.{option_or}
use Rattle.std.specs.Prelude.{insert, remove, slice_get}
use Rattle.dl_kinds.specs.declared.gid.Gid.{Gid}
use Rattle.dl_kinds.specs.declared.gid_key.GidKey.{GidKey}
use Rattle.dl_kinds.specs.declared.status.Status.{Status}
use Rattle.dl_kinds.specs.declared.status.Status.TheVariants.{Active, Waiting, Paused, Failed, Complete, Removed}
use Rattle.number_list.specs.Order.{lists_number, number_place, NoneTwice}
use Rattle.dl_queue.specs.declared.kinds.TheConstants.{MAX_DOWNLOADS}
use Rattle.dl_queue.specs.declared.kinds.Added.{Added}
use Rattle.dl_queue.specs.declared.kinds.Queued.{Queued}
use Rattle.dl_queue.specs.declared.kinds.Stopped.{Stopped}
use Rattle.dl_queue.specs.declared.named.Named.{Named}
use Rattle.dl_queue.specs.Lists.{QueueLists}
use Rattle.dl_queue.specs.Places.{is_ready, active_place, queued_place, stopped_place, status_of}
use Rattle.dl_queue.specs.Calls.{names_gid, count_named, added_place, was_added}
use Rattle.dl_queue.specs.Held.{number_in, gid_numbered, standing_at, stands_active, stands_queued, stands_ready, stands_stopped, queued_download, stopped_download, QueueParts, lists_of, AreParts, AreNumbersOf}
use Rattle.dl_queue.specs.Named.{AreNamed, IsListedNamed, AreNamedIn, IsNamedIn}
use Rattle.dl_queue.specs.NextUp.{MovesUp, StandsLast}
use Rattle.dl_queue.proofs.Numbers.{first_listed, rest_listed, neither, either_left, either_right}
use Rattle.dl_queue.proofs.Standing.{IsNumber, active_numbers, waiting_numbers, stopped_numbers, of_added, active_place_is, queued_place_is, stopped_place_is, status_is, place_tells}
use Rattle.dl_queue.proofs.Readies.{place_first, place_rest}
use Rattle.dl_queue.proofs.Moves.{map_removed}

-- a list of numbers of downloads is no longer than all downloads
others : (x : ℕ) (numbers : List ℕ) → lists_number numbers x ≡ false → AllByRecursion (λ y. (x == y) ≡ false) numbers
others x [] fresh = tt
others x (y ∷ numbers) fresh =
    let both = neither (x == y) (lists_number numbers x) fresh in
    (both.0, others x numbers both.1)

distinct : (numbers : List ℕ) → NoneTwice numbers → IsDistinct ◌==◌ numbers
unfolding IsDistinct
distinct [] apart = tt
distinct (x ∷ numbers) apart = (others x numbers apart.0, distinct numbers apart.1)

below_all : (top : ℕ) (numbers : List ℕ) → ((m : ℕ) → lists_number numbers m ≡ true → (0 < m) × (m ≤ top)) → (q : ℕ)
    → lists_number (0 ∷ numbers) q ≡ true → q < top + 1
below_all top numbers their q listed = tested (q == 0) refl listed where
  tested : (b : Bool) → (q == 0) ≡ b → (b || lists_number numbers q) ≡ true → q < top + 1
  tested true is any = let zero_q = eqb-true q 0 is in omega (arith, zero_q)
  tested false is any = let it = their q any in omega (arith, it.1)

pub few_numbers : {X : Type 0} (elements : List X) (numbers : List ℕ) → NoneTwice (0 ∷ numbers) → AreNumbersOf elements numbers
    → length numbers ≤ length elements
few_numbers elements numbers apart their =
    let most = length-le_from_distinct_below (0 ∷ numbers) (length elements + 1) (distinct (0 ∷ numbers) apart)
    (below_all (length elements) numbers their) in
    omega (arith, most)

pub few_active : (parts : QueueParts) → AreParts parts → length parts.active ≤ MAX_DOWNLOADS
few_active parts are =
    let few = few_numbers parts.standings parts.active are.active_apart (active_numbers parts are) in
    omega (arith, few, are.many, are.few)

pub few_waiting : (parts : QueueParts) → AreParts parts → length parts.waiting ≤ MAX_DOWNLOADS
few_waiting parts are =
    let few = few_numbers parts.standings parts.waiting are.waiting_apart (waiting_numbers parts are) in
    omega (arith, few, are.many, are.few)

pub few_stopped : (parts : QueueParts) → AreParts parts → length parts.stopped ≤ MAX_DOWNLOADS
few_stopped parts are =
    let few = few_numbers parts.standings parts.stopped are.stopped_apart (stopped_numbers parts are) in
    omega (arith, few, are.many, are.few)

-- how many downloads are named
count_of_map : {X : Type 0} (p : X → Bool) (f : ℕ → X) (numbers : List ℕ)
    → count_by p (map f numbers) ≡ count_by (λ m. p (f m)) numbers
count_of_map p f [] = refl
count_of_map p f (y ∷ numbers) =
    sum_by-cons (λ x. cond (p x) 1 0) (f y) (map f numbers)
    ∙ ap (λ k. cond (p (f y)) 1 0 + k) (count_of_map p f numbers)
    ∙ sym (sum_by-cons (λ m. cond (p (f m)) 1 0) y numbers)

number_of_its_gid : (parts : QueueParts) → AreParts parts → (numbers : List ℕ) → AreNumbersOf parts.standings numbers → (n : ℕ)
    → lists_number numbers n ≡ true → IsNumber parts.added (gid_numbered parts.added n) n
number_of_its_gid parts are numbers their n listed =
    let it = of_added parts are numbers their n listed in
    record { counts = it.0; within = it.1; gid_is = refl }

some_standing : (test : Option Status → Bool) → test None ≡ false → (s : Option Status) → test s ≡ true → IsSome s
some_standing test none None stands = absurd (true≢false (sym stands ∙ none))
some_standing test none (Some status) stands = refl

named_stands : (limit : ℕ) (parts : QueueParts) → AreParts parts → (key : GidKey) (test : Option Status → Bool) (numbers : List ℕ)
    → test None ≡ false → AreNumbersOf parts.standings numbers
    → ((m : ℕ) → 0 < m → lists_number numbers m ≡ test (standing_at parts.standings m))
    → (n : ℕ) → IsListedNamed parts.added key numbers n → IsNamedIn (lists_of limit parts) key n
named_stands limit parts are key test numbers none their listed n its =
    let number = number_of_its_gid parts are numbers their n its.listed in
    record {
      named = its.named;
      status = subst (λ (s : Option Status). IsSome s) (sym (status_is limit parts are (gid_numbered parts.added n) n number))
          (some_standing test none (standing_at parts.standings n) (sym (listed n number.counts) ∙ its.listed));
      counts = number.counts;
      within = number.within;
    }

pub record Sums (a b both : Named) : Type 0 where
  pub count : both.count ≡ a.count + b.count
  pub number : both.number ≡ option_or a.number b.number

none_of : (m : ℕ) → (0 < m → false ≡ true) → m ≡ 0
none_of zero one = refl
none_of (suc m) one = let no : false ≡ true = one (omega arith) in cc

some_of : (a b : Option ℕ) (m n : ℕ) → (0 < m → IsSome a) → (0 < n → IsSome b) → 0 < m + n → IsSome (option_or a b)
some_of (Some x) b m n one other some = refl
some_of None b m n one other some = other (let none : m ≡ 0 = none_of m one in omega (arith, none, some))

counted_of : (a b : Option ℕ) (m n : ℕ) → (IsSome a → 0 < m) → (IsSome b → 0 < n) → IsSome (option_or a b) → 0 < m + n
counted_of (Some x) b m n one other some = let more = one refl in omega (arith, more)
counted_of None b m n one other some = let more = other some in omega (arith, more)

one_of : (a b : Option ℕ) (P Q R : ℕ → Type 0) → ((x : ℕ) → P x → R x) → ((x : ℕ) → Q x → R x)
    → IfSome a P → IfSome b Q → IfSome (option_or a b) R
one_of (Some x) b P Q R first second one other = first x one
one_of None (Some x) P Q R first second one other = second x other
one_of None None P Q R first second one other = tt

pub named_count : (added : List Added) (key : GidKey) (numbers : List ℕ) (found : Named) → AreNamed added key numbers found
    → found.count ≤ length numbers
named_count added key numbers found its =
    let most = count_by-le-length (λ m. names_gid key (gid_numbered added m)) numbers in omega (arith, its.count, most)

pub all_in_queue : (limit : ℕ) (parts : QueueParts) → AreParts parts → (key : GidKey) (active queued stopped unfinished found : Named)
    → AreNamed parts.added key parts.active active → AreNamed parts.added key parts.waiting queued
    → AreNamed parts.added key parts.stopped stopped → Sums active queued unfinished → Sums unfinished stopped found
    → AreNamedIn (lists_of limit parts) key found
all_in_queue limit parts are key active queued stopped unfinished found first second third two three =
    let some_two = λ (some : 0 < unfinished.count). subst (λ (o : Option ℕ). IsSome o) (sym two.number)
    (some_of active.number queued.number active.count queued.count first.some second.some (omega (arith, two.count, some))) in
    let counted_two : IsSome unfinished.number → 0 < unfinished.count = λ one.
    let more = counted_of active.number queued.number active.count queued.count first.counted second.counted
    (subst (λ (o : Option ℕ). IsSome o) two.number one) in
    omega (arith, two.count, more) in
    let one_two = subst (λ (o : Option ℕ). IfSome o (IsNamedIn (lists_of limit parts) key)) (sym two.number)
    (one_of active.number queued.number (IsListedNamed parts.added key parts.active) (IsListedNamed parts.added key parts.waiting)
    (IsNamedIn (lists_of limit parts) key)
    (named_stands limit parts are key stands_active parts.active refl (active_numbers parts are) are.active_are)
    (named_stands limit parts are key stands_queued parts.waiting refl (waiting_numbers parts are) are.waiting_are)
    first.one second.one) in
    record {
      count = omega (
        arith,
        two.count,
        three.count,
        first.count,
        second.count,
        third.count,
        count_of_map (names_gid key) (gid_numbered parts.added) parts.active,
        count_of_map (λ (d : Queued). names_gid key d.gid) (queued_download parts.added parts.standings) parts.waiting,
        count_of_map (λ (d : Stopped). names_gid key d.gid) (stopped_download parts.added parts.standings) parts.stopped,
      );
      some = λ some. subst (λ (o : Option ℕ). IsSome o) (sym three.number)
          (some_of unfinished.number stopped.number unfinished.count stopped.count some_two third.some (omega (arith, three.count, some)));
      counted = λ one.
          let more = counted_of unfinished.number stopped.number unfinished.count stopped.count counted_two third.counted
          (subst (λ (o : Option ℕ). IsSome o) three.number one) in
          omega (arith, three.count, more);
      one = subst (λ (o : Option ℕ). IfSome o (IsNamedIn (lists_of limit parts) key)) (sym three.number)
          (one_of unfinished.number stopped.number (IsNamedIn (lists_of limit parts) key) (IsListedNamed parts.added key parts.stopped)
          (IsNamedIn (lists_of limit parts) key) (λ n its. its)
          (named_stands limit parts are key stands_stopped parts.stopped refl (stopped_numbers parts are) are.stopped_are)
          one_two third.one);
      few = omega (
        arith,
        two.count,
        three.count,
        named_count parts.added key parts.active active first,
        named_count parts.added key parts.waiting queued second,
        named_count parts.added key parts.stopped stopped third,
        few_active parts are,
        few_waiting parts are,
        few_stopped parts are,
      );
    }

-- the first of those that pass
first_passes : (p : ℕ → Bool) (numbers : List ℕ) (n : ℕ) → slice_get (filter p numbers) 0 ≡ Some n → p n ≡ true
first_passes p [] n is = cc
first_passes p (y ∷ numbers) n is = step (p y) refl is (first_passes p numbers n) where
  step : (s : Bool) → p y ≡ s → slice_get (cond s (y ∷ filter p numbers) (filter p numbers)) 0 ≡ Some n
      → (slice_get (filter p numbers) 0 ≡ Some n → p n ≡ true) → p n ≡ true
  step true at some rest = let same : y ≡ n = cc in ap p (sym same) ∙ at
  step false at some rest = rest some

pub first_is_place : {X : Type 0} (q : X → Bool) (f : ℕ → X) (p : ℕ → Bool) (numbers : List ℕ) (n : ℕ)
    → ((m : ℕ) → q (f m) ≡ p m) → slice_get (filter p numbers) 0 ≡ Some n
    → position_or_len q (map f numbers) ≡ number_place numbers n
first_is_place q f p [] n same is = refl
first_is_place q f p (y ∷ numbers) n same is =
    ap (λ t. cond (not t) (1 + position_or_len q (map f numbers)) 0) (same y)
    ∙ step (p y) refl is (first_is_place q f p numbers n same) (first_passes p (y ∷ numbers) n is) where
      step : (s : Bool) → p y ≡ s → slice_get (cond s (y ∷ filter p numbers) (filter p numbers)) 0 ≡ Some n
          → (slice_get (filter p numbers) 0 ≡ Some n → position_or_len q (map f numbers) ≡ number_place numbers n) → p n ≡ true
          → cond (not (p y)) (1 + position_or_len q (map f numbers)) 0 ≡ number_place (y ∷ numbers) n
      step true at some rest passes =
          let first : y ≡ n = cc in
          ap (λ t. cond (not t) (1 + position_or_len q (map f numbers)) 0) at
          ∙ sym (place_first y numbers n (eq-eqb n y (sym first)))
      step false at some rest passes =
          let other : (n == y) ≡ false = ne_eqb n y (λ one. true≢false (sym passes ∙ ap p one ∙ at)) in
          ap (λ t. cond (not t) (1 + position_or_len q (map f numbers)) 0) at
          ∙ ap (λ k. 1 + k) (rest some) ∙ sym (place_rest y numbers n other)

pub none_is_past : {X : Type 0} (q : X → Bool) (f : ℕ → X) (p : ℕ → Bool) (numbers : List ℕ)
    → ((m : ℕ) → q (f m) ≡ p m) → slice_get (filter p numbers) 0 ≡ None
    → length (map f numbers) ≤ position_or_len q (map f numbers)
none_is_past q f p [] same is = omega arith
none_is_past q f p (y ∷ numbers) same is =
    let here = ap (λ t. cond (not t) (1 + position_or_len q (map f numbers)) 0) (same y) in
    step (p y) refl is (none_is_past q f p numbers same) here where
      step : (s : Bool) → p y ≡ s → slice_get (cond s (y ∷ filter p numbers) (filter p numbers)) 0 ≡ None
          → (slice_get (filter p numbers) 0 ≡ None → length (map f numbers) ≤ position_or_len q (map f numbers))
          → position_or_len q (map f (y ∷ numbers)) ≡ cond (not (p y)) (1 + position_or_len q (map f numbers)) 0
          → length (map f (y ∷ numbers)) ≤ position_or_len q (map f (y ∷ numbers))
      step true at some rest here = cc
      step false at some rest here =
          let now = here ∙ ap (λ t. cond (not t) (1 + position_or_len q (map f numbers)) 0) at in
          omega (arith, now, rest some)

got_listed : (numbers : List ℕ) (i n : ℕ) → slice_get numbers i ≡ Some n → lists_number numbers n ≡ true
got_listed [] i n is = cc
got_listed (y ∷ numbers) zero n is = let same : y ≡ n = cc in either_left (n == y) (lists_number numbers n) (eq-eqb n y (sym same))
got_listed (y ∷ numbers) (suc i) n is = rest_listed y numbers n (got_listed numbers i n is)

not_not : (b : Bool) → not (not b) ≡ b
not_not true = refl
not_not false = refl

added_of : (added : List Added) (gid : Gid) (n : ℕ) → IsNumber added gid n → added_place gid added + 1 ≡ n → was_added added gid ≡ true
added_of added gid n its place = lt-ltb (added_place gid added) (length added) (omega (arith, place, its.within))

pub moves_up : (limit : ℕ) (parts : QueueParts) → AreParts parts → (n : ℕ) → slice_get parts.ready 0 ≡ Some n
    → MovesUp (lists_of limit parts) (gid_numbered parts.added n)
moves_up limit parts are n is =
    let p = λ (m : ℕ). stands_ready (standing_at parts.standings m) in
    let first = ap (λ l. slice_get l 0) (sym are.ready_are) ∙ is in
    let passes = first_passes p parts.waiting n first in
    let place = first_is_place is_ready (queued_download parts.added parts.standings) p parts.waiting n
    (λ m. not_not (stands_ready (standing_at parts.standings m))) first in
    let listed = first_listed_in p parts.waiting n first in
    let number = number_of_its_gid parts are parts.waiting (waiting_numbers parts are) n listed in
    let its_place = queued_place_is parts are (gid_numbered parts.added n) n number in
    let tells = ltb-true (number_place parts.waiting n) (length (map (queued_download parts.added parts.standings) parts.waiting))
    (place_tells (queued_download parts.added parts.standings) parts.waiting n ∙ listed) in
    record {
      known = added_of parts.added (gid_numbered parts.added n) n number (are.apart n number.counts number.within);
      stands = status_is limit parts are (gid_numbered parts.added n) n number ∙ waits (standing_at parts.standings n) passes;
      place = its_place ∙ sym place;
      within = omega (arith, place, tells);
    } where
      waits : (s : Option Status) → stands_ready s ≡ true → s ≡ Some Waiting
      waits None stands = cc
      waits (Some Waiting) stands = refl
      waits (Some other) stands = cc

      first_listed_in : (p : ℕ → Bool) (numbers : List ℕ) (n : ℕ) → slice_get (filter p numbers) 0 ≡ Some n → lists_number numbers n ≡ true
      first_listed_in p [] n is = cc
      first_listed_in p (y ∷ numbers) n is = step (p y) is (first_listed_in p numbers n) where
        step : (s : Bool) → slice_get (cond s (y ∷ filter p numbers) (filter p numbers)) 0 ≡ Some n
            → (slice_get (filter p numbers) 0 ≡ Some n → lists_number numbers n ≡ true) → lists_number (y ∷ numbers) n ≡ true
        step true some rest = let same : y ≡ n = cc in either_left (n == y) (lists_number numbers n) (eq-eqb n y (sym same))
        step false some rest = rest_listed y numbers n (rest some)

pub none_moves_up : (limit : ℕ) (parts : QueueParts) → AreParts parts → slice_get parts.ready 0 ≡ None
    → length (lists_of limit parts).waiting ≤ position_or_len is_ready (lists_of limit parts).waiting
none_moves_up limit parts are is =
    none_is_past is_ready (queued_download parts.added parts.standings) (λ (m : ℕ). stands_ready (standing_at parts.standings m)) parts.waiting
    (λ m. not_not (stands_ready (standing_at parts.standings m))) (ap (λ l. slice_get l 0) (sym are.ready_are) ∙ is)

pub ready_number : (parts : QueueParts) → AreParts parts → (n : ℕ) → slice_get parts.ready 0 ≡ Some n
    → (0 < n) × (n ≤ length parts.added)
ready_number parts are n is =
    of_added parts are parts.waiting (waiting_numbers parts are) n
    (first_in (λ (m : ℕ). stands_ready (standing_at parts.standings m)) parts.waiting n (ap (λ l. slice_get l 0) (sym are.ready_are) ∙ is)) where
      first_in : (p : ℕ → Bool) (numbers : List ℕ) (n : ℕ) → slice_get (filter p numbers) 0 ≡ Some n → lists_number numbers n ≡ true
      first_in p [] n is = cc
      first_in p (y ∷ numbers) n is = step (p y) is (first_in p numbers n) where
        step : (s : Bool) → slice_get (cond s (y ∷ filter p numbers) (filter p numbers)) 0 ≡ Some n
            → (slice_get (filter p numbers) 0 ≡ Some n → lists_number numbers n ≡ true) → lists_number (y ∷ numbers) n ≡ true
        step true some rest = let same : y ≡ n = cc in either_left (n == y) (lists_number numbers n) (eq-eqb n y (sym same))
        step false some rest = rest_listed y numbers n (rest some)

-- the last active download
last_apart : (numbers : List ℕ) (n : ℕ) → NoneTwice numbers → slice_get numbers (length numbers - 1) ≡ Some n
    → (remove numbers (number_place numbers n)) ++ n ∷ [] ≡ numbers
last_apart [] n apart is = cc
last_apart (y ∷ []) n apart is =
    let same : y ≡ n = cc in
    ap (λ k. remove (y ∷ []) k ++ n ∷ []) (place_first y [] n (eq-eqb n y (sym same))) ∙ ap (λ k. k ∷ []) (sym same)
last_apart (y ∷ z ∷ numbers) n apart is =
    let one : length (y ∷ z ∷ numbers) - 1 ≡ suc (length (z ∷ numbers) - 1) = omega arith in
    let last : slice_get (z ∷ numbers) (length (z ∷ numbers) - 1) ≡ Some n = ap (slice_get (y ∷ z ∷ numbers)) (sym one) ∙ is in
    let listed = got_listed (z ∷ numbers) (length (z ∷ numbers) - 1) n last in
    let other : (n == y) ≡ false = ne_eqb n y (λ same. true≢false (sym listed ∙ ap (lists_number (z ∷ numbers)) same ∙ apart.0)) in
    let k = number_place (z ∷ numbers) n in
    let next : 1 + k ≡ suc k = omega arith in
    ap (λ i. remove (y ∷ z ∷ numbers) i ++ n ∷ []) (place_rest y (z ∷ numbers) n other ∙ next)
    ∙ ap (λ l. y ∷ l) (last_apart (z ∷ numbers) n apart.1 last)

pub stands_last : (limit : ℕ) (parts : QueueParts) → AreParts parts → (n : ℕ)
    → slice_get parts.active (length parts.active - 1) ≡ Some n → StandsLast (lists_of limit parts) (gid_numbered parts.added n)
stands_last limit parts are n is =
    let listed = got_listed parts.active (length parts.active - 1) n is in
    let number = number_of_its_gid parts are parts.active (active_numbers parts are) n listed in
    let gid = gid_numbered parts.added in
    record {
      known = added_of parts.added (gid n) n number (are.apart n number.counts number.within);
      stands = status_is limit parts are (gid n) n number
          ∙ is_active (standing_at parts.standings n) (sym (are.active_are n number.counts) ∙ listed);
      last = ap (λ k. remove (map gid parts.active) k ++ gid n ∷ []) (active_place_is parts are (gid n) n number)
          ∙ ap (λ l. l ++ gid n ∷ []) (sym (map_removed gid parts.active (number_place parts.active n)))
          ∙ sym (map-append gid (remove parts.active (number_place parts.active n)) (n ∷ []))
          ∙ ap (map gid) (last_apart parts.active n are.active_apart.1 is);
    } where
      is_active : (s : Option Status) → stands_active s ≡ true → s ≡ Some Active
      is_active None stands = cc
      is_active (Some Active) stands = refl
      is_active (Some other) stands = cc

pub active_number : (parts : QueueParts) → AreParts parts → (n : ℕ) → slice_get parts.active (length parts.active - 1) ≡ Some n
    → (0 < n) × (n ≤ length parts.added)
active_number parts are n is =
    of_added parts are parts.active (active_numbers parts are) n (got_listed parts.active (length parts.active - 1) n is)

pub none_active : {X : Type 0} (f : ℕ → X) (numbers : List ℕ) → slice_get numbers (length numbers - 1) ≡ None → map f numbers ≡ []
none_active f [] is = refl
none_active f (y ∷ []) is = cc
none_active f (y ∷ z ∷ numbers) is =
    let one : length (y ∷ z ∷ numbers) - 1 ≡ suc (length (z ∷ numbers) - 1) = omega arith in
    let no = none_active f (z ∷ numbers) (ap (slice_get (y ∷ z ∷ numbers)) (sym one) ∙ is) in cc
