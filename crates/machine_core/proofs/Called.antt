-- What a call keeps of a machine.
use Rattle.std.proofs.Common.{◌≡◌, ℕ, Bool, true, false, cond, Some, None, ◌<◌, ◌≤◌, List, [], ◌∷◌, ◌++◌, length, slice_get, refl, sym, ap, ◌∙◌, subst, arith}
use Rattle.std.specs.Prelude.{◌||◌, map, nat_lt}
use Rattle.std.specs.List.{position_or_len}
use Rattle.std.specs.Option.{is_some, option_and_then}
use Rattle.std.proofs.lemmas.Bool.Decides.{nat_tests}
use Rattle.std.proofs.lemmas.Option.{slice_get_within}
use Rattle.dl_kinds.specs.declared.gid.Gid.{Gid}
use Rattle.dl_kinds.specs.declared.runs.Moment.{Moment}
use Rattle.dl_queue.specs.Calls.{added_place, adding_place}
use Rattle.dl_queue.specs.Lists.{QueueLists}
use Rattle.dl_queue.specs.declared.kinds.Added.{Added}
use Rattle.dl_history.specs.OwnEvents.{OwnEvent}
use Rattle.dl_history.specs.StandingClaims.{granted_claims}
use Rattle.option_set.specs.Values.{OptionValues}
use Rattle.machine_core.specs.CallParts.{AreHaltedWhere, CallParts, ComesTo, IsApplied, IsHaltedIf, IsPlainCall, KeepMarkRooms, StandInOrder, called_state, leaves_active, with_call_parts}
use Rattle.machine_core.specs.Choices.{options_now}
use Rattle.machine_core.specs.MachineParts.{HaveOwnGids, KeepsDownload, KeepsQueue, KeepsRun, MachineState, added_as, kept_room, subject_of_event}
use Rattle.machine_core.specs.OwnParts.{PayloadLengths, halted_where, halts_by, is_shutdown, own_of}
use Rattle.machine_core.specs.Replays.{Replay, after_call, download_of, is_download, replay_of}
use Rattle.machine_core.specs.RunLegal.{MayFollow, known_lengths}
use Rattle.machine_core.specs.Starts.{RunStart, Download}
use Rattle.machine_core.specs.declared.applied.Applied.{Applied}
use Rattle.machine_core.specs.declared.calls.Call.{Call}
use Rattle.machine_core.specs.declared.entries.Entry.{Entry}
use Rattle.machine_core.specs.declared.events.Event.{Event}
use Rattle.machine_core.specs.declared.events.Event.TheVariants.{Called}
use Rattle.machine_core.proofs.CallHalts.{halts_same}
use Rattle.machine_core.proofs.Halting.{halts_on}
use Rattle.machine_core.proofs.Homes.{length_added, place_same}
use Rattle.machine_core.proofs.Lists.{element_at, read-more}
use Rattle.machine_core.proofs.Rooms.{place_is}
use Rattle.machine_core.proofs.Staying.{halted_told}
use Rattle.machine_core.proofs.Steps.{homes_stay, lengths_of}
use Rattle.machine_core.proofs.Logged.{logged_on}

-- ---- entries

keeps_if : (t : Bool) (own : List OwnEvent) (l : PayloadLengths) (v : OptionValues) (d : Download) (x y : Entry)
    → KeepsDownload own l v d x → IsHaltedIf t x y → KeepsDownload (halted_where t own) l v d y
keeps_if true own l v d x y k h = halts_on own l v d x y k h
keeps_if false own l v d x y k h = subst (λ (z : Entry). KeepsDownload own l v d z) (sym h) k

called_if : (t : Bool) (x y : Entry) → IsHaltedIf t x y → y.called ≡ x.called
called_if true x y h = ap (λ (z : Entry). z.called) h.is
called_if false x y h = ap (λ (z : Entry). z.called) h

room_if : (t : Bool) (x y : Entry) → IsHaltedIf t x y → x.state.mark_spare ≤ y.state.mark_spare
room_if true x y h =
    let s = ap (λ (z : Entry). z.state.mark_spare) h.is in
    let m = h.rest.mark_spare in
    omega arith
room_if false x y h = let s = ap (λ (z : Entry). z.state.mark_spare) h in omega arith

pub halted_granted : (t : Bool) (own : List OwnEvent) → granted_claims (halted_where t own) ≡ granted_claims own
halted_granted true own = refl
halted_granted false own = refl

pub halted_rooms : (test : Gid → Bool) (xs ys : List Entry) → AreHaltedWhere test xs ys → KeepMarkRooms xs ys
halted_rooms test xs ys h i was there =
    let w = slice_get_within xs i was there in
    let m = h.many in
    let e = element_at ys i (omega arith) in
    (e.0, e.1, room_if (test was.gid) was e.0 (h.each i was e.0 w there e.1))

-- ---- a call that adds no download and sets no options of one

-- the queue and the global options after a call
abbrev pub KeepsAfter : RunStart → List Event → Call → CallParts → Type 0
KeepsAfter start past asked p =
    KeepsQueue (after_call start (replay_of start past) asked) p.queue p.global p.shut

pub call_keeps : (past : List Event) (s : MachineState) (session : ℕ) (asked : Call) (now : Moment) (room : ℕ)
    (new : CallParts) → KeepsRun past s → MayFollow s.start past (Called session asked now)
    → KeepsAfter s.start past asked new
    → (after_call s.start (replay_of s.start past) asked).downloads ≡ (replay_of s.start past).downloads
    → ((d : Download) → options_now s.start (Called session asked now ∷ past) d ≡ options_now s.start past d)
    → AreHaltedWhere (λ gid. halts_by s.start past (Called session asked now) asked gid) s.entries new.entries
    → kept_room s.start.doors s.left s.stopped ≤ room
    → KeepsRun (Called session asked now ∷ past) (called_state s (Called session asked now) room new)
call_keeps past s session asked now room new k may queue same options h room_is =
    let e = Called session asked now in
    let test : Gid → Bool = λ gid. halts_by s.start past e asked gid in
    record {
      legal = (k.legal, may);
      queue = queue;
      downloads = record {
        many = h.many ∙ (k.downloads.many ∙ ap (λ (ds : List Download). length ds) (sym same));
        each = λ i d y added there.
            let was_added : slice_get (replay_of s.start past).downloads i ≡ Some d =
            ap (λ (ds : List Download). slice_get ds i) (sym same) ∙ added in
            let w = slice_get_within new.entries i y there in
            let m = h.many in
            let x = element_at s.entries i (omega arith) in
            let kept = k.downloads.each i d x.0 was_added x.1 in
            let halted = h.each i x.0 y (slice_get_within s.entries i x.0 x.1) x.1 there in
            let own = own_of s.start past d.gid in
            subst
            (λ (l : PayloadLengths). KeepsDownload (halted_where (test d.gid) own) l (options_now s.start (e ∷ past) d) d y)
            (sym (lengths_of s.start past e d.gid same (halted_told (test d.gid) own)))
            (subst
            (λ (v : OptionValues). KeepsDownload (halted_where (test d.gid) own) (known_lengths s.start past d.gid) v d y)
            (sym (options d))
            (keeps_if (test d.gid) own (known_lengths s.start past d.gid) (options_now s.start past d) d x.0 y kept
            (subst (λ (g : Gid). IsHaltedIf (test g) x.0 y) kept.gid halted)));
      };
      apart = subst (λ (ds : List Download). HaveOwnGids ds) (sym same) k.apart;
      called = λ i d y added there.
          let was_added : slice_get (replay_of s.start past).downloads i ≡ Some d =
          ap (λ (ds : List Download). slice_get ds i) (sym same) ∙ added in
          let w = slice_get_within new.entries i y there in
          let m = h.many in
          let x = element_at s.entries i (omega arith) in
          let halted = h.each i x.0 y (slice_get_within s.entries i x.0 x.1) x.1 there in
          subst (λ (n : ℕ). option_and_then subject_of_event (slice_get (s.events ++ e ∷ []) n) ≡ Some d.subject)
          (sym (called_if (test x.0.gid) x.0 y halted))
          (read-more subject_of_event s.events (e ∷ []) x.0.called d.subject (k.called i d x.0 was_added x.1));
      homes = homes_stay s.start past e s.homes (λ g. halted_granted (test g) (own_of s.start past g))
          (λ g there. ap (λ (ds : List Download). is_some (download_of ds g)) same ∙ there) k.homes;
      ends = record { left_is = k.ends.left_is; stopped_is = k.ends.stopped_is };
      room_is = room_is;
      log_is = logged_on s.start s.events e s.log k.log_is;
    }

-- ---- a plain call

-- the queue that is kept is the replay's
plain_queue : (start : RunStart) (r : Replay) (asked : Call) (old new : CallParts)
    → KeepsQueue r old.queue old.global old.shut → ComesTo new.queue new.shut r (after_call start r asked)
    → new.queue.added ≡ old.queue.added → new.global ≡ old.global
    → KeepsQueue (after_call start r asked) new.queue new.global new.shut
plain_queue start r asked old new k c added global =
    record {
      queue_is = sym c.queue_is;
      global_is = global ∙ (k.global_is ∙ sym c.global_is);
      shut_is = sym c.shut_is;
      added = ap (λ (q : QueueLists). q.added) c.queue_is
          ∙ (added ∙ (ap (λ (q : QueueLists). q.added) k.queue_is
          ∙ (k.added ∙ ap (λ (ds : List Download). map added_as ds) (sym c.downloads_is))));
    }

plain_halts : (shut : Bool) (a b c d : QueueLists) (gid : Gid) → a ≡ c → b ≡ d
    → (shut || leaves_active a b gid) ≡ (shut || leaves_active c d gid)
plain_halts shut a b c d gid p q = rw (p, q) refl

pub plain_applied : (asked : Call) (gids place : ℕ) (old new : CallParts) (applied : Applied)
    → new.global ≡ old.global
    → IsPlainCall asked old.queue new.queue old.shut new.shut old.entries new.entries applied
    → IsApplied asked gids place old new applied
plain_applied asked gids place old new applied global p =
    record {
      keeps = λ past s session now room gids_is place_is k may room_is.
          let r = replay_of s.start past in
          let c = p.comes s.start r (sym k.queue.queue_is) (sym k.queue.shut_is) in
          call_keeps past (with_call_parts s old) session asked now room new k may
          (plain_queue s.start r asked old new k.queue c p.added global) c.downloads_is
          (λ d. p.options s.start past session now d)
          (halts_same (λ gid. is_shutdown asked || leaves_active old.queue new.queue gid)
          (λ gid. halts_by s.start past (Called session asked now) asked gid) old.entries new.entries
          (λ gid. plain_halts (is_shutdown asked) old.queue new.queue r.queue (after_call s.start r asked).queue gid
          k.queue.queue_is (sym c.queue_is)) p.halts)
          room_is;
      answer = λ past s gids_is k. p.answer s.start (replay_of s.start past) (sym k.queue.queue_is);
      rooms = halted_rooms (λ gid. is_shutdown asked || leaves_active old.queue new.queue gid) old.entries new.entries
          p.halts;
    }

-- ---- entries stand in order

some_where : (p n : ℕ) → p < n → cond (nat_lt p n) (Some p) None ≡ Some p
some_where p n within = let on : nat_lt p n ≡ true = grind (arith, nat_tests) in rw on refl

placed : (ds : List Download) (gid : Gid) (at : ℕ) → position_or_len (is_download gid) ds ≡ at → at < length ds
    → adding_place (map added_as ds) gid ≡ Some at
placed ds gid at is within =
    let place = place_same gid ds ∙ is in
    let many = length_added ds in
    some_where (added_place gid (map added_as ds)) (length (map added_as ds)) (omega arith) ∙ ap (λ (n : ℕ). Some n) place

pub in_order : (past : List Event) (s : MachineState) → KeepsRun past s → StandInOrder s.queue.added s.entries
in_order past s k =
    let ds = (replay_of s.start past).downloads in
    let added : s.queue.added ≡ map added_as ds = ap (λ (q : QueueLists). q.added) k.queue.queue_is ∙ k.queue.added in
    record {
      many = k.downloads.many ∙ (sym (length_added ds) ∙ ap (λ (xs : List Added). length xs) (sym added));
      each = λ i x there.
          let w = slice_get_within s.entries i x there in
          let m = k.downloads.many in
          let d = element_at ds i (omega arith) in
          let kept = k.downloads.each i d.0 x d.1 there in
          ap (λ (xs : List Added). adding_place xs x.gid) added
          ∙ placed ds x.gid i (place_is ds x.gid i d.0 k.apart d.1 (sym kept.gid)) (slice_get_within ds i d.0 d.1);
    }
