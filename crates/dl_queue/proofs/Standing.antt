-- Where a download stands, by its number.
use Rattle.std.proofs.Common.{◌≡◌, ◌≢◌, ◌<◌, ◌≤◌, ◌+◌, ◌-◌, ◌==◌, ◌||◌, ◌&&◌, ℕ, cond, get_or, zero, suc, nat_lt, nat_eq, Bool, true, false, not, List, [], ◌∷◌, ◌++◌, length, map, filter, Option, None, Some, refl, sym, ◌∙◌, ap, subst, arith, eq-eqb, true≢false}
use borrow.Author.Tests.{eqb-true, ltb-true, ltb-false}
use Rattle.std.proofs.lemmas.Bool.{eqb-false, ne_eqb, lt-ltb, le-ltb}
use Rattle.std.proofs.lemmas.List.{get_or_past}
use Rattle.std.specs.List.{position_or_len}
use Rattle.dl_kinds.specs.declared.gid.Gid.{Gid}
use Rattle.dl_kinds.specs.declared.status.Status.{Status}
use Rattle.dl_kinds.specs.declared.status.Status.TheVariants.{Active, Waiting, Paused, Failed, Complete, Removed}
use Rattle.number_list.specs.Order.{lists_number, number_place, NoneTwice}
use Rattle.dl_queue.specs.declared.kinds.Added.{Added}
use Rattle.dl_queue.specs.declared.kinds.Queued.{Queued}
use Rattle.dl_queue.specs.declared.kinds.Stopped.{Stopped}
use Rattle.dl_queue.specs.Endings.{ended_status, ending_by_status, ending_by_standing}
use Rattle.dl_queue.specs.Places.{is_gid, is_queued, is_stopped, active_place, queued_place, stopped_place, queued_at, stopped_at, queued_status, status_of}
use Rattle.dl_queue.specs.Calls.{added_place, was_added}
use Rattle.dl_queue.specs.Held.{number_in, gid_numbered, standing_at, stands_active, stands_queued, stands_ready, stands_stopped, queued_download, stopped_download, QueueParts, lists_of, AreParts, AreNumbersOf}
use Rattle.dl_queue.proofs.Numbers.{first_listed, rest_listed, neither, either_left, either_right}

-- the gid of a number
pub record IsNumber (added : List Added) (gid : Gid) (number : ℕ) : Type 0 where
  pub counts : 0 < number
  pub within : number ≤ length added
  pub gid_is : gid_numbered added number ≡ gid

pub same_gid : (a b : Gid) → a.0 ≡ b.0 → a ≡ b
same_gid a b same = ap (λ (k : ℕ). let g : Gid = record { 0 = k } in g) same

any_gid : Gid
any_gid = record { 0 = 0 }

gid_tested : (b : Bool) (d : Added) (added : List Added) (gid : Gid) → (d.gid.0 == gid.0) ≡ b
    → (added_place gid added < length added → get_or (map (λ e. e.gid) added) (added_place gid added) record { 0 = 0 } ≡ gid)
    → cond (not b) (1 + added_place gid added) 0 < suc (length added)
    → get_or (map (λ e. e.gid) (d ∷ added)) (cond (not b) (1 + added_place gid added) 0) record { 0 = 0 } ≡ gid
gid_tested true d added gid test rest within = same_gid d.gid gid (eqb-true d.gid.0 gid.0 test)
gid_tested false d added gid test rest within =
    let one : 1 + added_place gid added ≡ suc (added_place gid added) = omega arith in
    ap (λ k. get_or (map (λ e. e.gid) (d ∷ added)) k record { 0 = 0 }) one ∙ rest (omega (arith, within))

gid_there : (added : List Added) (gid : Gid) → added_place gid added < length added
    → get_or (map (λ e. e.gid) added) (added_place gid added) record { 0 = 0 } ≡ gid
gid_there [] gid within = let none : ⊥ = omega (arith, within) in absurd none
gid_there (d ∷ added) gid within = gid_tested (d.gid.0 == gid.0) d added gid refl (gid_there added gid) within

number_tested : (b : Bool) (added : List Added) (gid : Gid) (number : ℕ) → nat_lt (added_place gid added) (length added) ≡ b
    → cond b (Some (added_place gid added + 1)) None ≡ Some number → IsNumber added gid number
number_tested false added gid number test is = cc
number_tested true added gid number test is =
    let there = ltb-true (added_place gid added) (length added) test in
    let same : added_place gid added + 1 ≡ number = cc in
    let before : number - 1 ≡ added_place gid added = omega (arith, same) in
    record {
      counts = omega (arith, same);
      within = omega (arith, same, there);
      gid_is = ap (λ k. get_or (map (λ e. e.gid) added) k record { 0 = 0 }) before ∙ gid_there added gid there;
    }

pub number_is : (added : List Added) (gid : Gid) (number : ℕ) → number_in added gid ≡ Some number → IsNumber added gid number
number_is added gid number is = number_tested (was_added added gid) added gid number refl is

-- two numbers are one where their gids are
pub same_number : (added : List Added)
    → ((number : ℕ) → 0 < number → number ≤ length added → added_place (gid_numbered added number) added + 1 ≡ number)
    → (m n : ℕ) → 0 < m → m ≤ length added → 0 < n → n ≤ length added
    → ((gid_numbered added m).0 == (gid_numbered added n).0) ≡ (n == m)
same_number added apart m n m_counts m_within n_counts n_within = tested (n == m) refl where
  tested : (b : Bool) → (n == m) ≡ b → ((gid_numbered added m).0 == (gid_numbered added n).0) ≡ b
  tested true test =
      eq-eqb (gid_numbered added m).0 (gid_numbered added n).0 (ap (λ k. (gid_numbered added k).0) (sym (eqb-true n m test)))
  tested false test = ne_eqb (gid_numbered added m).0 (gid_numbered added n).0 (λ same.
      let one = ap (λ (g : Gid). added_place g added) (same_gid (gid_numbered added m) (gid_numbered added n) same) in
      eqb-false n m test (omega (arith, one, apart m m_counts m_within, apart n n_counts n_within)))

-- places in a list of what numbers stand for
pub place_of_map : {X : Type 0} (p : X → Bool) (f : ℕ → X) (n : ℕ) (numbers : List ℕ)
    → ((m : ℕ) → lists_number numbers m ≡ true → p (f m) ≡ (n == m))
    → position_or_len p (map f numbers) ≡ number_place numbers n
place_of_map p f n [] each = refl
place_of_map p f n (y ∷ numbers) each =
    ap (λ t. cond (not t) (1 + position_or_len p (map f numbers)) 0) (each y (first_listed y numbers))
    ∙ ap (λ k. cond (not (n == y)) (1 + k) 0)
    (place_of_map p f n numbers (λ m listed. each m (rest_listed y numbers m listed)))

pub no_place : {X : Type 0} (p : X → Bool) (f : ℕ → X) (numbers : List ℕ)
    → ((m : ℕ) → lists_number numbers m ≡ true → p (f m) ≡ false)
    → position_or_len p (map f numbers) ≡ length (map f numbers)
no_place p f [] each = refl
no_place p f (y ∷ numbers) each =
    let here : position_or_len p (map f (y ∷ numbers)) ≡ 1 + position_or_len p (map f numbers) =
    ap (λ t. cond (not t) (1 + position_or_len p (map f numbers)) 0) (each y (first_listed y numbers)) in
    omega (arith, here, no_place p f numbers (λ m listed. each m (rest_listed y numbers m listed)))

place_step : (b t : Bool) (m k : ℕ) → nat_lt m k ≡ t → nat_lt (cond (not b) (1 + m) 0) (suc k) ≡ (b || t)
place_step true t m k rest = lt-ltb 0 (suc k) (omega arith)
place_step false true m k rest = let less = ltb-true m k rest in lt-ltb (1 + m) (suc k) (omega (arith, less))
place_step false false m k rest = let most = ltb-false m k rest in le-ltb (1 + m) (suc k) (omega (arith, most))

pub place_tells : {X : Type 0} (f : ℕ → X) (numbers : List ℕ) (n : ℕ)
    → nat_lt (number_place numbers n) (length (map f numbers)) ≡ lists_number numbers n
place_tells f [] n = refl
place_tells f (y ∷ numbers) n =
    place_step (n == y) (lists_number numbers n) (number_place numbers n) (length (map f numbers)) (place_tells f numbers n)

got_tested : {X : Type 0} (b : Bool) (f : ℕ → X) (y : ℕ) (numbers : List ℕ) (n : ℕ) (d : X) → (n == y) ≡ b
    → (lists_number numbers n ≡ true → get_or (map f numbers) (number_place numbers n) d ≡ f n)
    → (b || lists_number numbers n) ≡ true
    → get_or (map f (y ∷ numbers)) (cond (not b) (1 + number_place numbers n) 0) d ≡ f n
got_tested true f y numbers n d test rest listed = ap f (sym (eqb-true n y test))
got_tested false f y numbers n d test rest listed =
    let one : 1 + number_place numbers n ≡ suc (number_place numbers n) = omega arith in
    ap (λ k. get_or (map f (y ∷ numbers)) k d) one ∙ rest listed

pub got_of_map : {X : Type 0} (f : ℕ → X) (numbers : List ℕ) (n : ℕ) (d : X) → lists_number numbers n ≡ true
    → get_or (map f numbers) (number_place numbers n) d ≡ f n
got_of_map f [] n d listed = cc
got_of_map f (y ∷ numbers) n d listed = got_tested (n == y) f y numbers n d refl (got_of_map f numbers n d) listed

-- numbers that stand somewhere are of downloads
stands_within : (test : Option Status → Bool) (standings : List (Option Status)) (m : ℕ) → test None ≡ false
    → 0 < m → test (standing_at standings m) ≡ true → m ≤ length standings
stands_within test standings m none counts stands = tested (nat_lt (m - 1) (length standings)) refl where
  tested : (b : Bool) → nat_lt (m - 1) (length standings) ≡ b → m ≤ length standings
  tested true is = let less = ltb-true (m - 1) (length standings) is in omega (arith, less, counts)
  tested false is =
      let past = ltb-false (m - 1) (length standings) is in
      absurd (true≢false (sym stands ∙ ap test (get_or_past standings (m - 1) None past) ∙ none))

counted_up : (numbers : List ℕ) (m : ℕ) → lists_number numbers 0 ≡ false → lists_number numbers m ≡ true → 0 < m
counted_up numbers zero fresh listed = absurd (true≢false (sym listed ∙ fresh))
counted_up numbers (suc m) fresh listed = omega arith

pub are_numbers : (test : Option Status → Bool) (standings : List (Option Status)) (numbers : List ℕ) → test None ≡ false
    → NoneTwice (0 ∷ numbers) → ((m : ℕ) → 0 < m → lists_number numbers m ≡ test (standing_at standings m))
    → AreNumbersOf standings numbers
are_numbers test standings numbers none apart are = λ m listed.
    let counts = counted_up numbers m apart.0 listed in
    (counts, stands_within test standings m none counts (sym (are m counts) ∙ listed))

pub of_added : (parts : QueueParts) → AreParts parts → (numbers : List ℕ) → AreNumbersOf parts.standings numbers
    → AreNumbersOf parts.added numbers
of_added parts are numbers their = λ m listed. let it = their m listed in (it.0, omega (arith, it.1, are.many))

pub active_numbers : (parts : QueueParts) → AreParts parts → AreNumbersOf parts.standings parts.active
active_numbers parts are = are_numbers stands_active parts.standings parts.active refl are.active_apart are.active_are

pub waiting_numbers : (parts : QueueParts) → AreParts parts → AreNumbersOf parts.standings parts.waiting
waiting_numbers parts are = are_numbers stands_queued parts.standings parts.waiting refl are.waiting_apart are.waiting_are

pub stopped_numbers : (parts : QueueParts) → AreParts parts → AreNumbersOf parts.standings parts.stopped
stopped_numbers parts are = are_numbers stands_stopped parts.standings parts.stopped refl are.stopped_apart are.stopped_are

-- the gids of listed numbers are apart
pub tells_number : (parts : QueueParts) → AreParts parts → (gid : Gid) (n : ℕ) → IsNumber parts.added gid n → (numbers : List ℕ)
    → AreNumbersOf parts.standings numbers → (m : ℕ) → lists_number numbers m ≡ true
    → ((gid_numbered parts.added m).0 == gid.0) ≡ (n == m)
tells_number parts are gid n its numbers their m listed =
    let it = of_added parts are numbers their m listed in
    ap (λ (g : Gid). (gid_numbered parts.added m).0 == g.0) (sym its.gid_is)
    ∙ same_number parts.added are.apart m n it.0 it.1 its.counts its.within

pub active_place_is : (parts : QueueParts) → AreParts parts → (gid : Gid) (n : ℕ) → IsNumber parts.added gid n
    → active_place gid (map (gid_numbered parts.added) parts.active) ≡ number_place parts.active n
active_place_is parts are gid n its =
    place_of_map (is_gid gid) (gid_numbered parts.added) n parts.active
    (tells_number parts are gid n its parts.active (active_numbers parts are))

pub queued_place_is : (parts : QueueParts) → AreParts parts → (gid : Gid) (n : ℕ) → IsNumber parts.added gid n
    → queued_place gid (map (queued_download parts.added parts.standings) parts.waiting) ≡ number_place parts.waiting n
queued_place_is parts are gid n its =
    place_of_map (is_queued gid) (queued_download parts.added parts.standings) n parts.waiting
    (tells_number parts are gid n its parts.waiting (waiting_numbers parts are))

pub stopped_place_is : (parts : QueueParts) → AreParts parts → (gid : Gid) (n : ℕ) → IsNumber parts.added gid n
    → stopped_place gid (map (stopped_download parts.added parts.standings) parts.stopped) ≡ number_place parts.stopped n
stopped_place_is parts are gid n its =
    place_of_map (is_stopped gid) (stopped_download parts.added parts.standings) n parts.stopped
    (tells_number parts are gid n its parts.stopped (stopped_numbers parts are))

-- the status of a download is how it stands
picked : (s : Option Status) (a w t : Bool) (q : Queued) (e : Stopped) → a ≡ stands_active s → w ≡ stands_queued s
    → t ≡ stands_stopped s → (stands_queued s ≡ true → q.paused ≡ not (stands_ready s))
    → (stands_stopped s ≡ true → e.ending ≡ ending_by_standing s)
    → cond a (Some Active) (cond w (Some (queued_status q)) (cond t (Some (ended_status e.ending)) None)) ≡ s
picked None a w t q e a_is w_is t_is queued ended =
    ap (λ b. cond b (Some Active) (cond w (Some (queued_status q)) (cond t (Some (ended_status e.ending)) None))) a_is
    ∙ ap (λ b. cond b (Some (queued_status q)) (cond t (Some (ended_status e.ending)) None)) w_is
    ∙ ap (λ b. cond b (Some (ended_status e.ending)) None) t_is
picked (Some Active) a w t q e a_is w_is t_is queued ended =
    ap (λ b. cond b (Some Active) (cond w (Some (queued_status q)) (cond t (Some (ended_status e.ending)) None))) a_is
picked (Some Waiting) a w t q e a_is w_is t_is queued ended =
    ap (λ b. cond b (Some Active) (cond w (Some (queued_status q)) (cond t (Some (ended_status e.ending)) None))) a_is
    ∙ ap (λ b. cond b (Some (queued_status q)) (cond t (Some (ended_status e.ending)) None)) w_is
    ∙ ap (λ b. Some (cond b Paused Waiting)) (queued refl)
picked (Some Paused) a w t q e a_is w_is t_is queued ended =
    ap (λ b. cond b (Some Active) (cond w (Some (queued_status q)) (cond t (Some (ended_status e.ending)) None))) a_is
    ∙ ap (λ b. cond b (Some (queued_status q)) (cond t (Some (ended_status e.ending)) None)) w_is
    ∙ ap (λ b. Some (cond b Paused Waiting)) (queued refl)
picked (Some Failed) a w t q e a_is w_is t_is queued ended =
    ap (λ b. cond b (Some Active) (cond w (Some (queued_status q)) (cond t (Some (ended_status e.ending)) None))) a_is
    ∙ ap (λ b. cond b (Some (queued_status q)) (cond t (Some (ended_status e.ending)) None)) w_is
    ∙ ap (λ b. cond b (Some (ended_status e.ending)) None) t_is ∙ ap (λ k. Some (ended_status k)) (ended refl)
picked (Some Complete) a w t q e a_is w_is t_is queued ended =
    ap (λ b. cond b (Some Active) (cond w (Some (queued_status q)) (cond t (Some (ended_status e.ending)) None))) a_is
    ∙ ap (λ b. cond b (Some (queued_status q)) (cond t (Some (ended_status e.ending)) None)) w_is
    ∙ ap (λ b. cond b (Some (ended_status e.ending)) None) t_is ∙ ap (λ k. Some (ended_status k)) (ended refl)
picked (Some Removed) a w t q e a_is w_is t_is queued ended =
    ap (λ b. cond b (Some Active) (cond w (Some (queued_status q)) (cond t (Some (ended_status e.ending)) None))) a_is
    ∙ ap (λ b. cond b (Some (queued_status q)) (cond t (Some (ended_status e.ending)) None)) w_is
    ∙ ap (λ b. cond b (Some (ended_status e.ending)) None) t_is ∙ ap (λ k. Some (ended_status k)) (ended refl)

pub status_is : (limit : ℕ) (parts : QueueParts) → AreParts parts → (gid : Gid) (n : ℕ) → IsNumber parts.added gid n
    → status_of (lists_of limit parts) gid ≡ standing_at parts.standings n
status_is limit parts are gid n its =
    let s = standing_at parts.standings n in
    let lists = lists_of limit parts in
    let queued = queued_download parts.added parts.standings in
    let stopped = stopped_download parts.added parts.standings in
    let w_place = queued_place_is parts are gid n its in
    let t_place = stopped_place_is parts are gid n its in
    let q = queued_at gid lists.waiting (queued_place gid lists.waiting) in
    let e = stopped_at gid lists.stopped (stopped_place gid lists.stopped) in
    picked s (nat_lt (active_place gid lists.active) (length lists.active)) (nat_lt (queued_place gid lists.waiting) (length lists.waiting))
    (nat_lt (stopped_place gid lists.stopped) (length lists.stopped)) q e
    (ap (λ k. nat_lt k (length lists.active)) (active_place_is parts are gid n its)
    ∙ place_tells (gid_numbered parts.added) parts.active n ∙ are.active_are n its.counts)
    (ap (λ k. nat_lt k (length lists.waiting)) w_place ∙ place_tells queued parts.waiting n ∙ are.waiting_are n its.counts)
    (ap (λ k. nat_lt k (length lists.stopped)) t_place ∙ place_tells stopped parts.stopped n ∙ are.stopped_are n its.counts)
    (λ stands. ap (λ (d : Queued). d.paused) (ap (λ k. queued_at gid lists.waiting k) w_place
    ∙ got_of_map queued parts.waiting n record { gid = gid; paused = false } (are.waiting_are n its.counts ∙ stands)))
    (λ stands. ap (λ (d : Stopped). d.ending) (ap (λ k. stopped_at gid lists.stopped k) t_place
    ∙ got_of_map stopped parts.stopped n (stopped_at gid [] 0) (are.stopped_are n its.counts ∙ stands)))

-- a download that wasn't added stands nowhere
nowhere : (added : List Added) (gid : Gid) (numbers : List ℕ)
    → ((number : ℕ) → 0 < number → number ≤ length added → added_place (gid_numbered added number) added + 1 ≡ number)
    → AreNumbersOf added numbers → was_added added gid ≡ false → (m : ℕ) → lists_number numbers m ≡ true
    → ((gid_numbered added m).0 == gid.0) ≡ false
nowhere added gid numbers apart their fresh m listed = ne_eqb (gid_numbered added m).0 gid.0 (λ same.
    let it = their m listed in
    let one = apart m it.0 it.1 in
    let place = ap (λ (g : Gid). added_place g added) (same_gid (gid_numbered added m) gid same) in
    let past = ltb-false (added_place gid added) (length added) fresh in
    omega (arith, one, place, past, it.1))

none_stands : {X : Type 0} (p : X → Bool) (f : ℕ → X) (numbers : List ℕ)
    → ((m : ℕ) → lists_number numbers m ≡ true → p (f m) ≡ false)
    → nat_lt (position_or_len p (map f numbers)) (length (map f numbers)) ≡ false
none_stands p f numbers each =
    le-ltb (position_or_len p (map f numbers)) (length (map f numbers)) (omega (arith, no_place p f numbers each))

number_none : (b : Bool) (n : ℕ) → cond b (Some n) None ≡ None → b ≡ false
number_none true n is = cc
number_none false n is = refl

pub no_status : (limit : ℕ) (parts : QueueParts) → AreParts parts → (gid : Gid) → number_in parts.added gid ≡ None
    → status_of (lists_of limit parts) gid ≡ None
no_status limit parts are gid is =
    let fresh = number_none (was_added parts.added gid) (added_place gid parts.added + 1) is in
    let lists = lists_of limit parts in
    picked None (nat_lt (active_place gid lists.active) (length lists.active))
    (nat_lt (queued_place gid lists.waiting) (length lists.waiting))
    (nat_lt (stopped_place gid lists.stopped) (length lists.stopped))
    (queued_at gid lists.waiting (queued_place gid lists.waiting)) (stopped_at gid lists.stopped (stopped_place gid lists.stopped))
    (none_stands (is_gid gid) (gid_numbered parts.added) parts.active
    (nowhere parts.added gid parts.active are.apart (of_added parts are parts.active (active_numbers parts are)) fresh))
    (none_stands (is_queued gid) (queued_download parts.added parts.standings) parts.waiting
    (nowhere parts.added gid parts.waiting are.apart (of_added parts are parts.waiting (waiting_numbers parts are)) fresh))
    (none_stands (is_stopped gid) (stopped_download parts.added parts.standings) parts.stopped
    (nowhere parts.added gid parts.stopped are.apart (of_added parts are parts.stopped (stopped_numbers parts are)) fresh))
    (λ stands. cc) (λ stands. cc)
