-- The calls that set options.
use Rattle.std.proofs.Common.{add-one, ◌≡◌, ◌≢◌, ℕ, zero, suc, Bool, true, false, cond, Some, None, ◌+◌, ◌≤◌, drop, List, [], ◌∷◌, ◌++◌, length, set, slice_get, refl, sym, ap, ◌∙◌, subst, ⊎_elim, arith}
use Rattle.std.specs.Prelude.{◌&&◌, IfOk, OnOk, Result, Ok, Err, not}
use Rattle.std.specs.Option.{option_and_then}
use Rattle.std.proofs.lemmas.Bool.{cases_eq}
use Rattle.std.proofs.lemmas.List.{length-set}
use Rattle.std.proofs.lemmas.Option.{same_Some, slice_get_within}
use Rattle.dl_kinds.specs.declared.gid.Gid.{Gid}
use Rattle.dl_kinds.specs.declared.gid_key.GidKey.{GidKey}
use Rattle.dl_history.specs.OwnEvents.{OwnEvent}
use Rattle.dl_history.specs.PayloadParts.{told_total}
use Rattle.dl_history.specs.StandingClaims.{granted_claims}
use Rattle.dl_queue.specs.Calls.{SetLimit, adding_place, after}
use Rattle.dl_queue.specs.Lists.{QueueLists}
use Rattle.dl_queue.specs.declared.kinds.Added.{Added}
use Rattle.option_set.specs.Values.{OptionValues, number_value, with_setting}
use Rattle.option_set.specs.declared.kinds.Num.TheVariants as num
use Rattle.option_set.specs.declared.setting.Assigned.{Assigned}
use Rattle.machine_core.specs.Answers.{keyed_answer}
use Rattle.machine_core.specs.CallParts.{AreHaltedWhere, AreSetWhere, CallParts, IsApplied, StandInOrder, set_if, with_call_parts}
use Rattle.machine_core.specs.Choices.{is_keyed, options_now}
use Rattle.machine_core.specs.MachineParts.{KeepsDownload, subject_of_event}
use Rattle.machine_core.specs.OwnParts.{PayloadLengths, halted_where, halts_by, own_of}
use Rattle.machine_core.specs.Replays.{has_active, is_same_gid, keyed_gid, queue_in, replay_of, with_settings}
use Rattle.machine_core.specs.RunLegal.{known_lengths}
use Rattle.machine_core.specs.Starts.{Download}
use Rattle.machine_core.specs.declared.applied.Applied.{Applied}
use Rattle.machine_core.specs.declared.applied.Applied.TheVariants.{Fine}
use Rattle.machine_core.specs.declared.calls.Call.{Call}
use Rattle.machine_core.specs.declared.calls.Call.TheVariants as call
use Rattle.machine_core.specs.declared.entries.Entry.{Entry}
use Rattle.machine_core.specs.declared.events.Event.TheVariants.{Called}
use Rattle.machine_core.proofs.CallHalts.{none_halts, same_gid_at, stays_in}
use Rattle.machine_core.proofs.Called.{call_keeps}
use Rattle.machine_core.proofs.Leaving.{call_stays}
use Rattle.machine_core.proofs.Lists.{element_at, read-more, slice_get-set_other, slice_get-set_same}
use Rattle.machine_core.proofs.Parts.{gid_is}
use Rattle.machine_core.proofs.Steps.{homes_stay, lengths_of, untouched}
use Rattle.machine_core.proofs.Logged.{logged_on}

-- ---- entries

set_false : (t : Bool) (settings : List Assigned) (x : Entry) → t ≡ false → set_if t settings x ≡ x
set_false true settings x is = absurd cc
set_false false settings x is = refl

set_true : (t : Bool) (settings : List Assigned) (x : Entry) → t ≡ true
    → set_if t settings x ≡ record x { options = with_settings x.options settings }
set_true true settings x is = refl
set_true false settings x is = absurd cc

pub none_set : (test : Gid → Bool) (settings : List Assigned) (xs : List Entry)
    → ((i : ℕ) (x : Entry) → slice_get xs i ≡ Some x → test x.gid ≡ false) → AreSetWhere test settings xs xs
none_set test settings xs none =
    record {
      many = refl;
      each = λ i x there.
          there ∙ ap (λ (y : Entry). Some y) (sym (set_false (test x.gid) settings x (none i x there)));
    }

apart_keyed : (added : List Added) (xs : List Entry) (gid : Gid) (at i : ℕ) (y : Entry) → StandInOrder added xs
    → adding_place added gid ≡ Some at → slice_get xs i ≡ Some y → i ≢ at → (t : Bool)
    → is_same_gid y.gid gid ≡ t → t ≡ false
apart_keyed added xs gid at i y order place here other false same = refl
apart_keyed added xs gid at i y order place here other true same =
    absurd (other (same_Some i at
    (sym (order.each i y here) ∙ (ap (adding_place added) (sym (gid_is y.gid gid same)) ∙ place))))

pub none_keyed : (added : List Added) (xs : List Entry) (gid : Gid) (i : ℕ) (y : Entry) → StandInOrder added xs
    → adding_place added gid ≡ None → slice_get xs i ≡ Some y → (t : Bool) → is_same_gid y.gid gid ≡ t → t ≡ false
none_keyed added xs gid i y order place here false same = refl
none_keyed added xs gid i y order place here true same =
    absurd (let p : Some i ≡ None =
    sym (order.each i y here) ∙ (ap (adding_place added) (sym (gid_is y.gid gid same)) ∙ place) in cc)

-- the options of the download at a place are set
pub one_set : (added : List Added) (gid : Gid) (settings : List Assigned) (xs : List Entry) (at : ℕ) (x : Entry)
    (options : OptionValues) → StandInOrder added xs → adding_place added gid ≡ Some at → slice_get xs at ≡ Some x
    → options ≡ with_settings x.options settings
    → AreSetWhere (is_keyed (Some gid)) settings xs (set xs at (record x { options = options }))
one_set added gid settings xs at x options order place there is =
    let new : Entry = record x { options = options } in
    record {
      many = length-set xs at new;
      each = λ i y here.
          ⊎_elim
          (λ (same : i ≡ at).
          let y_is : x ≡ y = same_Some x y (sym there ∙ (ap (slice_get xs) (sym same) ∙ here)) in
          ap (slice_get (set xs at new)) same
          ∙ (slice_get-set_same xs at new (slice_get_within xs at x there)
          ∙ (ap (λ (o : OptionValues). Some (record x { options = o })) is
          ∙ subst (λ (z : Entry). Some (record x { options = with_settings x.options settings })
          ≡ Some (set_if (is_keyed (Some gid) z.gid) settings z)) y_is
          (ap (λ (z : Entry). Some z)
          (sym (set_true (is_keyed (Some gid) x.gid) settings x
          (same_gid_at added x.gid gid at (order.each at x there) place)))))))
          (λ (other : i ≢ at).
          slice_get-set_other xs at i new other
          ∙ (here ∙ ap (λ (z : Entry). Some z)
          (sym (set_false (is_keyed (Some gid) y.gid) settings y
          (apart_keyed added xs gid at i y order place here other _ refl)))))
          (cases_eq i at);
    }

-- ---- changeOption

keeps_set : (t : Bool) (own : List OwnEvent) (l : PayloadLengths) (v : OptionValues) (settings : List Assigned)
    (d : Download) (x : Entry) → KeepsDownload own l v d x
    → KeepsDownload own l (cond t (with_settings v settings) v) d (set_if t settings x)
keeps_set true own l v settings d x k =
    record {
      gid = k.gid;
      options_are = ap (λ (o : OptionValues). with_settings o settings) k.options_are;
      account = k.account;
      marks = k.marks;
      mirrors = k.mirrors;
      max_tries = k.max_tries;
      hosts = k.hosts;
      wanted = k.wanted;
      known = k.known;
    }
keeps_set false own l v settings d x k = k

called_set : (t : Bool) (settings : List Assigned) (x : Entry) → (set_if t settings x).called ≡ x.called
called_set true settings x = refl
called_set false settings x = refl

room_set : (t : Bool) (settings : List Assigned) (x : Entry)
    → x.state.mark_spare ≤ (set_if t settings x).state.mark_spare
room_set true settings x = omega arith
room_set false settings x = omega arith

and_not : (a : Bool) → (a && not a) ≡ false
and_not true = refl
and_not false = refl

pub setting_applied : (key : GidKey) (settings : List Assigned) (gids place : ℕ) (old new : CallParts)
    (applied : Applied) → new.queue ≡ old.queue → new.global ≡ old.global → new.shut ≡ old.shut
    → AreSetWhere (is_keyed (keyed_gid old.queue key)) settings old.entries new.entries
    → applied ≡ keyed_answer old.queue key (λ gid. Fine)
    → IsApplied (call.ChangeOption key settings) gids place old new applied
setting_applied key settings gids place old new applied queue global shut h answer =
    record {
      keeps = λ past s session now room gids_is place_is k may room_is.
          let e = Called session (call.ChangeOption key settings) now in
          let r = replay_of s.start past in
          let test : Gid → Bool = is_keyed (keyed_gid (queue_in s.start past) key) in
          let same : (gid : Gid) → is_keyed (keyed_gid old.queue key) gid ≡ test gid =
          λ gid. ap (λ (q : QueueLists). is_keyed (keyed_gid q key) gid) k.queue.queue_is in
          let own_same : (gid : Gid) → own_of s.start (e ∷ past) gid ≡ own_of s.start past gid =
          λ gid. ap (λ (t : Bool). halted_where t (own_of s.start past gid)) (and_not (has_active r.queue gid)) in
          record {
            legal = (k.legal, may);
            queue = record {
              queue_is = queue ∙ k.queue.queue_is;
              global_is = global ∙ k.queue.global_is;
              shut_is = shut ∙ k.queue.shut_is;
              added = k.queue.added;
            };
            downloads = record {
              many = h.many ∙ k.downloads.many;
              each = λ i d y added there.
                  let w = slice_get_within new.entries i y there in
                  let m = h.many in
                  let x = element_at old.entries i (omega arith) in
                  let kept = k.downloads.each i d x.0 added x.1 in
                  let y_is : set_if (is_keyed (keyed_gid old.queue key) x.0.gid) settings x.0 ≡ y =
                  same_Some _ y (sym (h.each i x.0 x.1) ∙ there) in
                  let set_is : set_if (test d.gid) settings x.0 ≡ y =
                  ap (λ (t : Bool). set_if t settings x.0) (sym (same x.0.gid ∙ ap test kept.gid)) ∙ y_is in
                  subst (λ (z : Entry). KeepsDownload (own_of s.start (e ∷ past) d.gid)
                  (known_lengths s.start (e ∷ past) d.gid) (options_now s.start (e ∷ past) d) d z) set_is
                  (untouched (own_of s.start past d.gid) (own_of s.start (e ∷ past) d.gid)
                  (known_lengths s.start past d.gid) (known_lengths s.start (e ∷ past) d.gid)
                  (options_now s.start (e ∷ past) d) (options_now s.start (e ∷ past) d) d
                  (set_if (test d.gid) settings x.0) (own_same d.gid)
                  (lengths_of s.start past e d.gid refl (ap told_total (own_same d.gid))) refl
                  (keeps_set (test d.gid) (own_of s.start past d.gid) (known_lengths s.start past d.gid)
                  (options_now s.start past d) settings d x.0 kept));
            };
            apart = k.apart;
            called = λ i d y added there.
                let w = slice_get_within new.entries i y there in
                let m = h.many in
                let x = element_at old.entries i (omega arith) in
                let y_is : set_if (is_keyed (keyed_gid old.queue key) x.0.gid) settings x.0 ≡ y =
                same_Some _ y (sym (h.each i x.0 x.1) ∙ there) in
                subst (λ (n : ℕ). option_and_then subject_of_event (slice_get (s.events ++ e ∷ []) n) ≡ Some d.subject)
                (sym (called_set (is_keyed (keyed_gid old.queue key) x.0.gid) settings x.0)
                ∙ ap (λ (z : Entry). z.called) y_is)
                (read-more subject_of_event s.events (e ∷ []) x.0.called d.subject (k.called i d x.0 added x.1));
            homes = homes_stay s.start past e s.homes (λ g. ap granted_claims (own_same g)) (λ g is. is) k.homes;
            ends = record { left_is = k.ends.left_is; stopped_is = k.ends.stopped_is };
            room_is = room_is;
            log_is = logged_on s.start s.events e s.log k.log_is;
          };
      answer = λ past s gids_is k.
          answer ∙ ap (λ (q : QueueLists). keyed_answer q key (λ gid. Fine)) k.queue.queue_is;
      rooms = λ i was there. (
        set_if (is_keyed (keyed_gid old.queue key) was.gid) settings was,
        h.each i was there,
        room_set (is_keyed (keyed_gid old.queue key) was.gid) settings was,
      );
    }

-- ---- changeGlobalOption

pub limiting_applied : (settings : List Assigned) (gids place : ℕ) (old new : CallParts)
    → new.global ≡ with_settings old.global settings
    → new.queue ≡ after old.queue (SetLimit (number_value new.global num.MaxConcurrentDownloads))
    → new.shut ≡ old.shut → new.entries ≡ old.entries
    → IsApplied (call.ChangeGlobalOption settings) gids place old new Fine
limiting_applied settings gids place old new global queue shut entries =
    record {
      keeps = λ past s session now room gids_is place_is k may room_is.
          let e = Called session (call.ChangeGlobalOption settings) now in
          let r = replay_of s.start past in
          let global_is : new.global ≡ with_settings r.global settings =
          global ∙ ap (λ (v : OptionValues). with_settings v settings) k.queue.global_is in
          let limit : QueueLists → OptionValues → QueueLists =
          λ q v. after q (SetLimit (number_value v num.MaxConcurrentDownloads)) in
          let queue_is : new.queue ≡ limit r.queue (with_settings r.global settings) =
          queue
          ∙ (ap (λ (q : QueueLists). limit q new.global) k.queue.queue_is
          ∙ ap (λ (v : OptionValues). limit r.queue v) global_is) in
          call_keeps past (with_call_parts s old) session (call.ChangeGlobalOption settings) now room new k may
          (record {
            queue_is = queue_is;
            global_is = global_is;
            shut_is = shut ∙ k.queue.shut_is;
            added = k.queue.added;
          })
          refl (λ d. refl)
          (subst (λ (xs : List Entry). AreHaltedWhere
          (λ gid. halts_by s.start past e (call.ChangeGlobalOption settings) gid) old.entries xs) (sym entries)
          (none_halts (length old.entries) (λ gid. halts_by s.start past e (call.ChangeGlobalOption settings) gid)
          old.entries
          (λ i x below there.
          stays_in r.queue (limit r.queue (with_settings r.global settings)) x.gid
          (call_stays r.queue
          (SetLimit (number_value (with_settings r.global settings) num.MaxConcurrentDownloads)) refl x.gid))))
          room_is;
      answer = λ past s gids_is k. refl;
      rooms = λ i was there. (was, ap (λ (xs : List Entry). slice_get xs i) entries ∙ there, omega arith);
    }

-- ---- settings, one by one

drop_suc : {A : Type 0} (xs : List A) (i : ℕ) (x : A) → slice_get xs i ≡ Some x → drop i xs ≡ x ∷ drop (suc i) xs
drop_suc [] i x is = absurd (let s = is in cc)
drop_suc {A = A} (y ∷ xs) zero x is = ap (λ (z : A). z ∷ xs) (same_Some y x is)
drop_suc (y ∷ xs) (suc i) x is = drop_suc xs i x is

drop_past : {A : Type 0} (xs : List A) (i : ℕ) → slice_get xs i ≡ None → drop (suc i) xs ≡ drop i xs
drop_past [] zero is = refl
drop_past [] (suc i) is = refl
drop_past (y ∷ xs) zero is = absurd cc
drop_past (y ∷ xs) (suc i) is = drop_past xs i is

-- the option of the setting at a place gets its value
pub set_here : (v v' : OptionValues) (xs : List Assigned) (i : ℕ) (x y : Assigned) → slice_get xs i ≡ Some x → y ≡ x
    → v' ≡ with_setting v y → with_settings v' (drop (i + 1) xs) ≡ with_settings v (drop i xs)
set_here v v' xs i x y at same is =
    let next : drop i xs ≡ x ∷ drop (i + 1) xs = rw add-one (drop_suc xs i x at) in
    ap (λ (w : OptionValues). with_settings w (drop (i + 1) xs)) (is ∙ ap (with_setting v) same)
    ∙ ap (with_settings v) (sym next)

pub set_none : (v : OptionValues) (xs : List Assigned) (i : ℕ) → slice_get xs i ≡ None
    → with_settings v (drop (i + 1) xs) ≡ with_settings v (drop i xs)
set_none v xs i none =
    let next : drop (i + 1) xs ≡ drop i xs = rw add-one (drop_past xs i none) in ap (with_settings v) next

-- the answer of changeOption, where there is one
pub setting_ok : {E : Type 0} (r : Result Applied E) (actual : Call) (key : GidKey) (settings : List Assigned)
    (gids place : ℕ) (old new : CallParts) → actual ≡ call.ChangeOption key settings → new.queue ≡ old.queue
    → new.global ≡ old.global → new.shut ≡ old.shut
    → OnOk r (AreSetWhere (is_keyed (keyed_gid old.queue key)) settings old.entries new.entries)
    → IfOk r (λ answer. answer ≡ keyed_answer old.queue key (λ gid. Fine))
    → IfOk r (IsApplied actual gids place old new)
setting_ok (Ok a) actual key settings gids place old new is queue global shut entries answer =
    subst (λ (x : Call). IsApplied x gids place old new a) (sym is)
    (setting_applied key settings gids place old new a queue global shut entries answer)
setting_ok (Err e) actual key settings gids place old new is queue global shut entries answer = tt
