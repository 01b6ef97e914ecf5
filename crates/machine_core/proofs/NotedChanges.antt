-- The notices of one event, download by download.
use Rattle.std.proofs.Common.{◌≡◌, ◌≢◌, ℕ, zero, suc, Option, Some, None, ◌+◌, ◌<◌, ◌≤◌, List, [], ◌∷◌, ◌++◌, drop, length, map, set, slice_get, refl, sym, ap, ◌∙◌, ⊎_elim, arith}
use Rattle.std.specs.List.{cons_option}
use Rattle.std.proofs.lemmas.List.{append-nil, length-set}
use Rattle.std.proofs.lemmas.Bool.{cases_eq}
use Rattle.std.proofs.lemmas.Option.{same_Some, slice_get_within}
use Rattle.dl_kinds.specs.declared.gid.Gid.{Gid}
use Rattle.dl_kinds.specs.declared.status.Status.{Status}
use Rattle.dl_queue.specs.Lists.{QueueLists}
use Rattle.dl_queue.specs.Places.{status_of}
use Rattle.dl_queue.specs.declared.kinds.Added.{Added}
use Rattle.machine_core.specs.NoticeLogs.{AreNotedTo, change_of, changes, statuses_in, TellsOne}
use Rattle.machine_core.specs.Notices.{placed}
use Rattle.machine_core.specs.declared.notices.Notice.{Notice}
use Rattle.machine_core.specs.declared.notices.PlacedNotice.{PlacedNotice}
use Rattle.machine_core.proofs.Lists.{element_at, slice_get-set_other, slice_get-set_same}

-- the first `n` downloads are noted, and with the notices of the others all are told
pub record NotesTo (n : ℕ) (queue : QueueLists) (event nth : ℕ) (old new : List (Option Status))
    (was is : List PlacedNotice) : Type 0 where
  pub noted : AreNotedTo n queue old new
  pub told : is ++ placed event nth (changes (drop n old) queue (drop n queue.added))
      ≡ was ++ placed event 0 (changes old queue queue.added)
  pub few : nth ≤ n

pub none_noted : (queue : QueueLists) (event : ℕ) (old : List (Option Status)) (was : List PlacedNotice)
    → NotesTo 0 queue event 0 old old was was
none_noted queue event old was =
    record {
      noted = record { many = refl; noted = λ i download less there. absurd (omega arith); others = λ i least. refl };
      told = refl;
      few = omega arith;
    }

drop_suc : {A : Type 0} (xs : List A) (n : ℕ) (x : A) → slice_get xs n ≡ Some x → drop n xs ≡ x ∷ drop (suc n) xs
drop_suc [] n x is = absurd (let s = is in cc)
drop_suc {A = A} (y ∷ xs) zero x is = ap (λ (z : A). z ∷ xs) (same_Some y x is)
drop_suc (y ∷ xs) (suc n) x is = drop_suc xs n x is

drop_one : {A : Type 0} (xs : List A) (n : ℕ) (x : A) → slice_get xs n ≡ Some x → drop n xs ≡ x ∷ drop (n + 1) xs
drop_one xs n x is =
    let next : suc n ≡ n + 1 = omega arith in drop_suc xs n x is ∙ ap (λ (k : ℕ). x ∷ drop k xs) next

pub one_noted : (n : ℕ) (queue : QueueLists) (event nth next : ℕ) (old new : List (Option Status))
    (was is told : List PlacedNotice) (download : Added) (before : Option Status)
    → NotesTo n queue event nth old new was is → slice_get queue.added n ≡ Some download
    → slice_get new n ≡ Some before
    → TellsOne event (change_of before (status_of queue download.gid) download.gid) nth next is told
    → next ≤ nth + 1
    → NotesTo (n + 1) queue event next old (set new n (status_of queue download.gid)) was told
one_noted n queue event nth next old new was is told download before k there at tells most =
    let status = status_of queue download.gid in
    let old_at : slice_get old n ≡ Some before = sym (k.noted.others n (omega arith)) ∙ at in
    let within = slice_get_within new n before at in
    let rest = changes (drop (n + 1) old) queue (drop (n + 1) queue.added) in
    let step : changes (drop n old) queue (drop n queue.added)
    ≡ cons_option (change_of before status download.gid) rest =
    ap (λ (xs : List (Option Status)). changes xs queue (drop n queue.added)) (drop_one old n before old_at)
    ∙ ap (λ (ds : List Added). changes (before ∷ drop (n + 1) old) queue ds) (drop_one queue.added n download there) in
    record {
      noted = record {
        many = length-set new n status ∙ k.noted.many;
        noted = λ i other less here.
            ⊎_elim
            (λ (same : i ≡ n).
            let other_is : download ≡ other =
            same_Some download other (sym there ∙ (ap (slice_get queue.added) (sym same) ∙ here)) in
            ap (slice_get (set new n status)) same
            ∙ (slice_get-set_same new n status within ∙ ap (λ (d : Added). Some (status_of queue d.gid)) other_is))
            (λ (apart : i ≢ n).
            slice_get-set_other new n i status apart ∙ k.noted.noted i other (omega arith) here)
            (cases_eq i n);
        others = λ i least.
            slice_get-set_other new n i status (λ same. omega arith) ∙ k.noted.others i (omega arith);
      };
      told = tells rest ∙ (ap (λ (ns : List Notice). is ++ placed event nth ns) (sym step) ∙ k.told);
      few = let f = k.few in omega arith;
    }

-- ---- all of them

statuses_are : (queue : QueueLists) (added : List Added) (new : List (Option Status)) → length new ≡ length added
    → ((i : ℕ) (download : Added) → slice_get added i ≡ Some download
    → slice_get new i ≡ Some (status_of queue download.gid))
    → new ≡ statuses_in queue added
statuses_are queue [] [] many each = refl
statuses_are queue [] (s ∷ new) many each = absurd (omega arith)
statuses_are queue (d ∷ added) [] many each = absurd (omega arith)
statuses_are queue (d ∷ added) (s ∷ new) many each =
    ap (λ (ss : List (Option Status)). s ∷ ss)
    (statuses_are queue added new (omega arith) (λ i download there. each (suc i) download there))
    ∙ ap (λ (t : Option Status). t ∷ statuses_in queue added) (same_Some s (status_of queue d.gid) (each 0 d refl))

pub all_seen : (n : ℕ) (queue : QueueLists) (event nth : ℕ) (old new : List (Option Status))
    (was is : List PlacedNotice) → NotesTo n queue event nth old new was is → length queue.added ≤ n
    → length old ≡ length queue.added → new ≡ statuses_in queue queue.added
all_seen n queue event nth old new was is k past many =
    statuses_are queue queue.added new (k.noted.many ∙ many)
    (λ i download there.
    let w = slice_get_within queue.added i download there in k.noted.noted i download (omega arith) there)

drop_past : {A : Type 0} (xs : List A) (n : ℕ) → length xs ≤ n → drop n xs ≡ []
drop_past [] zero past = refl
drop_past [] (suc n) past = refl
drop_past (x ∷ xs) zero past = absurd (omega arith)
drop_past (x ∷ xs) (suc n) past = drop_past xs n (omega arith)

pub all_told : (n : ℕ) (queue : QueueLists) (event nth : ℕ) (old new : List (Option Status))
    (was is : List PlacedNotice) → NotesTo n queue event nth old new was is → length queue.added ≤ n
    → length old ≡ length queue.added → is ≡ was ++ placed event 0 (changes old queue queue.added)
all_told n queue event nth old new was is k past many =
    let none : changes (drop n old) queue (drop n queue.added) ≡ [] =
    ap (λ (xs : List (Option Status)). changes xs queue (drop n queue.added)) (drop_past old n (omega arith)) in
    sym (append-nil is) ∙ (ap (λ (ns : List Notice). is ++ placed event nth ns) (sym none) ∙ k.told)
