-- The log of notices goes through a journal.
use Rattle.std.proofs.Common.{◌≡◌, ℕ, zero, suc, Some, ◌+◌, ◌<◌, ◌≤◌, List, [], ◌∷◌, ◌++◌, length, reverse, take, slice_get, refl, sym, ap, ◌∙◌, subst, arith}
use Rattle.std.proofs.lemmas.List.{length-reverse, length-take-le, reverse-append}
use Rattle.std.proofs.lemmas.Option.{same_Some, slice_get_within}
use Rattle.dl_queue.specs.Lists.{QueueLists}
use Rattle.option_set.specs.Values.{OptionValues}
use Rattle.machine_core.specs.NoticeLogs.{CatchesUp, FollowsQueue, IsSameLog, KeepsLog, KeepsLogged, StaysLogged, statuses_in, TakesIn}
use Rattle.machine_core.specs.Replays.{replay_of}
use Rattle.machine_core.specs.Starts.{RunStart}
use Rattle.machine_core.specs.declared.events.Event.{Event}
use Rattle.machine_core.specs.declared.notice_log.NoticeLog.{NoticeLog}

take_suc : {A : Type 0} (xs : List A) (n : ℕ) (x : A) → slice_get xs n ≡ Some x → take (suc n) xs ≡ take n xs ++ x ∷ []
take_suc [] n x is = absurd (let s = is in cc)
take_suc {A = A} (y ∷ xs) zero x is = ap (λ (z : A). z ∷ []) (same_Some y x is)
take_suc {A = A} (y ∷ xs) (suc n) x is = ap (λ (zs : List A). y ∷ zs) (take_suc xs n x is)

-- the history goes on with the event at the next place
one_more : (events : List Event) (n : ℕ) (e : Event) → slice_get events n ≡ Some e
    → reverse (take (n + 1) events) ≡ e ∷ reverse (take n events)
one_more events n e is =
    let next : n + 1 ≡ suc n = omega arith in
    ap (λ (k : ℕ). reverse (take k events)) next
    ∙ (ap reverse (take_suc events n e is) ∙ reverse-append (take n events) (e ∷ []))

-- one event more is gone through
pub stays_on : (gids : ℕ) (events : List Event) (e : Event) (first old new : NoticeLog)
    → StaysLogged gids events first old → slice_get events old.covered ≡ Some e → TakesIn gids e old new
    → new.covered ≡ old.covered + 1 → StaysLogged gids events first new
stays_on gids events e first old new s there t covered =
    record {
      stays = λ start gids_is k0.
          let k = s.stays start gids_is k0 in
          let w = slice_get_within events old.covered e there in
          let within = k.within in
          let many : old.covered ≡ length (reverse (take old.covered events)) =
          sym (length-reverse (take old.covered events) ∙ length-take-le old.covered events within) in
          record {
            within = omega arith;
            log_is = subst (λ (es : List Event). KeepsLog start es new)
                (sym (ap (λ (n : ℕ). reverse (take n events)) covered ∙ one_more events old.covered e there))
                (t.takes start (reverse (take old.covered events)) gids_is many k.log_is);
          };
    }
