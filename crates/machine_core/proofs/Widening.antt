-- More room, and nothing else.
use Rattle.std.proofs.Common.{◌≡◌, ◌≢◌, ◌⊎◌, ℕ, zero, suc, Bool, true, false, Some, ◌<◌, ◌≤◌, List, [], ◌∷◌, length, get_or, map, set, slice_get, reverse, refl, sym, ap, ◌∙◌, subst, inl, inr, ⊎_elim, arith}
use Rattle.std.specs.Prelude.{◌||◌, All, IsSome, OnOk, Option, Result, Ok, Err, nat_lt, slice_index_or}
use Rattle.std.specs.List.{list_any}
use Rattle.std.specs.Option.{option_and_then}
use Rattle.std.proofs.lemmas.Bool.{cases_eq}
use Rattle.std.proofs.lemmas.Bool.Decides.{nat_tests}
use Rattle.std.proofs.lemmas.List.{length-set}
use Rattle.std.proofs.lemmas.List.Elements.{All-head, All-tail}
use Rattle.std.proofs.lemmas.Option.{cond_some, same_Some, slice_get_read, slice_get_within}
use Rattle.dl_kinds.specs.declared.gid.Gid.{Gid}
use Rattle.dl_queue.specs.Calls.{added_place, adding_place, was_added}
use Rattle.dl_queue.specs.declared.kinds.Added.{Added}
use Rattle.one_download.specs.DownloadViews.{DownloadView, IsRoomier}
use Rattle.machine_core.specs.Choices.{options_now}
use Rattle.machine_core.specs.MachineParts.{KeepsDownload, KeepsRun, MachineState, kept_room, subject_of_event}
use Rattle.machine_core.specs.MachineViews.{MachineView, place_in}
use Rattle.machine_core.specs.OwnParts.{own_of}
use Rattle.machine_core.specs.Replays.{is_same_gid, replay_of}
use Rattle.machine_core.specs.RunLegal.{known_lengths}
use Rattle.machine_core.specs.Starts.{Download}
use Rattle.machine_core.specs.TurnRooms.{AreRoomier, EachActiveHas, HasEntry, HasMarksForTurn, HasTurnMarkRoom, IsRoomierEntry, IsRoomierRun}
use Rattle.machine_core.specs.declared.entries.Entry.{Entry}
use Rattle.machine_core.specs.declared.events.Event.{Event}
use Rattle.machine_core.proofs.Here.{Here, Seen, view_of}
use Rattle.machine_core.proofs.Homes.{place_found}
use Rattle.machine_core.proofs.Lists.{element_at, slice_get-set_other, slice_get-set_same}
use Rattle.machine_core.proofs.Parts.{gid_is}
use Rattle.machine_core.proofs.Rooms.{own_spare}

-- ---- entries

pub same_entry : (x : Entry) → IsRoomierEntry x x
same_entry x =
    record { state = x.state; is = refl; rest = record { same = refl; spare = omega arith; mark_spare = omega arith } }

pub none_roomier : (xs : List Entry) → AreRoomier xs xs
none_roomier xs =
    record {
      many = refl;
      each = λ i was is there here.
          subst (λ (y : Entry). IsRoomierEntry was y) (same_Some was is (sym there ∙ here)) (same_entry was);
    }

onto_entry : (old x y : Entry) (d : DownloadView) → IsRoomierEntry old x → IsRoomier x.state d
    → y ≡ record x { state = d } → IsRoomierEntry old y
onto_entry old x y d r more is =
    let state_is = ap (λ (e : Entry). e.state) r.is in
    let rest : IsRoomier r.state d = subst (λ (v : DownloadView). IsRoomier v d) state_is more in
    record {
      state = d;
      is = is ∙ ap (λ (e : Entry). record e { state = d }) r.is;
      rest = record {
        same = rest.same ∙ ap (λ (v : DownloadView). record v { spare = d.spare; mark_spare = d.mark_spare }) r.rest.same;
        spare = omega (arith, r.rest.spare, rest.spare);
        mark_spare = omega (arith, r.rest.mark_spare, rest.mark_spare);
      };
    }

pub one_roomier : (old xs : List Entry) (at : ℕ) (x : Entry) (d : DownloadView) → AreRoomier old xs
    → slice_get xs at ≡ Some x → IsRoomier x.state d → AreRoomier old (set xs at (record x { state = d }))
one_roomier old xs at x d k there more =
    let new : Entry = record x { state = d } in
    record {
      many = length-set xs at new ∙ k.many;
      each = λ i was is before here.
          ⊎_elim
          (λ (same : i ≡ at).
          let y_is : is ≡ new =
          same_Some is new
          (sym here ∙ (ap (slice_get (set xs at new)) same
          ∙ slice_get-set_same xs at new (slice_get_within xs at x there))) in
          onto_entry was x is d (k.each i was x before (ap (slice_get xs) same ∙ there)) more y_is)
          (λ (other : i ≢ at). k.each i was is before (sym (slice_get-set_other xs at i new other) ∙ here))
          (cases_eq i at);
    }

-- ---- each active download

-- an entry that stands at the place of an added download
pub entry_there : (added : List Added) (old xs : List Entry) (gid : Gid) (at : ℕ) (x : Entry)
    → length old ≡ length added → AreRoomier old xs → Some at ≡ adding_place added gid → x ≡ get_or xs at x
    → slice_get xs at ≡ Some x
entry_there added old xs gid at x all r placed is =
    let parts = cond_some _ _ at (sym placed) in
    let many = r.many in
    let same : added_place gid added ≡ at = parts.1 in
    let below : nat_lt (added_place gid added) (length added) ≡ true = parts.0 in
    let within : at < length xs = grind (arith, nat_tests) in
    slice_get_read xs (length xs) at x refl within is

pub entry_at : (added : List Added) (xs : List Entry) (gid : Gid) (at : ℕ) (x : Entry) → length xs ≡ length added
    → Some at ≡ adding_place added gid → x ≡ get_or xs at x → slice_get xs at ≡ Some x
entry_at added xs gid at x all placed is = entry_there added xs xs gid at x all (none_roomier xs) placed is

-- a download of a list of those that were added has a place
pub head_placed : (added : List Added) (gid : Gid) (left rest : List Gid) (o : Option ℕ) → left ≡ gid ∷ rest
    → All (λ (g : Gid). was_added added g ≡ true) left → o ≡ adding_place added gid → IsSome o
head_placed added gid left rest o steps all is =
    let here = All-head (λ (g : Gid). was_added added g ≡ true) gid rest
    (subst (λ (gs : List Gid). All (λ (g : Gid). was_added added g ≡ true) gs) steps all) in
    rw (is, here) refl

pub tail_added : (added : List Added) (gid : Gid) (left rest : List Gid) → left ≡ gid ∷ rest
    → All (λ (g : Gid). was_added added g ≡ true) left → All (λ (g : Gid). was_added added g ≡ true) rest
tail_added added gid left rest steps all =
    All-tail (λ (g : Gid). was_added added g ≡ true) gid rest
    (subst (λ (gs : List Gid). All (λ (g : Gid). was_added added g ≡ true) gs) steps all)

-- more room for one leaves each its room
still_room : (Is : Entry → Type 0) (added : List Added) (xs : List Entry) (at : ℕ) (x : Entry) (d : DownloadView) (gid : Gid)
    → slice_get xs at ≡ Some x → Is (record x { state = d }) → HasEntry Is added xs gid
    → HasEntry Is added (set xs at (record x { state = d })) gid
still_room Is added xs at x d gid there room h =
    let new : Entry = record x { state = d } in
    ⊎_elim
    (λ (same : h.place ≡ at). record {
      place = h.place;
      at = h.at;
      entry = new;
      there = ap (slice_get (set xs at new)) same ∙ slice_get-set_same xs at new (slice_get_within xs at x there);
      is = room;
    })
    (λ (other : h.place ≢ at). record {
      place = h.place;
      at = h.at;
      entry = h.entry;
      there = slice_get-set_other xs at h.place new other ∙ h.there;
      is = h.is;
    })
    (cases_eq h.place at)

here_or_left : (Is : Entry → Type 0) (added : List Added) (xs : List Entry) (at : ℕ) (x : Entry) (d : DownloadView) (g gid : Gid)
    (rest : List Gid) (t : Bool) → is_same_gid g gid ≡ t
    → slice_get xs at ≡ Some x → Is (record x { state = d }) → adding_place added gid ≡ Some at
    → (t || list_any (is_same_gid g) rest) ≡ true
    → (list_any (is_same_gid g) rest ≡ true) ⊎ HasEntry Is added (set xs at (record x { state = d })) g
here_or_left Is added xs at x d g gid rest true same there room placed any =
    let new : Entry = record x { state = d } in
    inr (record {
      place = at;
      at = subst (λ (h : Gid). adding_place added h ≡ Some at) (gid_is g gid same) placed;
      entry = new;
      there = slice_get-set_same xs at new (slice_get_within xs at x there);
      is = room;
    })
here_or_left Is added xs at x d g gid rest false same there room placed any = inl any

pub one_done : (Is : Entry → Type 0) (added : List Added) (xs : List Entry) (at : ℕ) (x : Entry) (d : DownloadView) (g gid : Gid)
    (left rest : List Gid) → left ≡ gid ∷ rest → slice_get xs at ≡ Some x → Is (record x { state = d })
    → adding_place added gid ≡ Some at
    → (list_any (is_same_gid g) left ≡ true) ⊎ HasEntry Is added xs g
    → (list_any (is_same_gid g) rest ≡ true) ⊎ HasEntry Is added (set xs at (record x { state = d })) g
one_done Is added xs at x d g gid left rest steps there room placed was =
    ⊎_elim
    (λ (any : list_any (is_same_gid g) left ≡ true).
    here_or_left Is added xs at x d g gid rest (is_same_gid g gid) refl there room placed
    (sym (ap (list_any (is_same_gid g)) steps) ∙ any))
    (λ (h : HasEntry Is added xs g). inr (still_room Is added xs at x d g there room h))
    was

pub all_done : (Is : Entry → Type 0) (added : List Added) (xs : List Entry) (g : Gid) (left : List Gid) → left ≡ []
    → (list_any (is_same_gid g) left ≡ true) ⊎ HasEntry Is added xs g → HasEntry Is added xs g
all_done Is added xs g left none was =
    ⊎_elim
    (λ (any : list_any (is_same_gid g) left ≡ true).
    absurd (let f : false ≡ true = sym (ap (list_any (is_same_gid g)) none) ∙ any in cc))
    (λ (h : HasEntry Is added xs g). h)
    was

-- ---- the run

keeps_entry : (s : MachineState) (d : Download) (x y : Entry) (past : List Event) → IsRoomierEntry x y
    → KeepsDownload (own_of s.start past d.gid) (known_lengths s.start past d.gid) (options_now s.start past d) d x
    → KeepsDownload (own_of s.start past d.gid) (known_lengths s.start past d.gid) (options_now s.start past d) d y
keeps_entry s d x y past r k =
    let same = r.rest.same in
    subst (λ (z : Entry). KeepsDownload (own_of s.start past d.gid) (known_lengths s.start past d.gid)
    (options_now s.start past d) d z) (sym r.is)
    (record {
      gid = k.gid;
      options_are = k.options_are;
      account = ap (λ (v : DownloadView). v.account) same ∙ k.account;
      marks = ap (λ (v : DownloadView). v.marks) same ∙ k.marks;
      mirrors = ap (λ (v : DownloadView). v.mirrors) same ∙ k.mirrors;
      max_tries = ap (λ (v : DownloadView). v.max_tries) same ∙ k.max_tries;
      hosts = k.hosts;
      wanted = λ opened. ap (λ (v : DownloadView). v.wanted) same ∙ k.wanted opened;
      known = k.known;
    })

-- the call that added it
abbrev AddedBy : MachineState → Download → Entry → Type 0
AddedBy s d x = option_and_then subject_of_event (slice_get s.events x.called) ≡ Some d.subject

roomier_kept : (s : MachineState) (ys : List Entry) (room : ℕ) → KeepsRun (reverse s.events) s
    → AreRoomier s.entries ys → kept_room s.start.doors s.left s.stopped ≤ room
    → KeepsRun (reverse s.events) (record s { entries = ys; room = room })
roomier_kept s ys room k r some =
    let past = reverse s.events in
    let entry : (i : ℕ) (y : Entry) → slice_get ys i ≡ Some y → (x : Entry) × (slice_get s.entries i ≡ Some x) =
    λ i y here.
    let w = slice_get_within ys i y here in
    let many = r.many in
    element_at s.entries i (omega arith) in
    record {
      legal = k.legal;
      queue = k.queue;
      downloads = record {
        many = r.many ∙ k.downloads.many;
        each = λ i d y added here.
            let e = entry i y here in
            keeps_entry s d e.0 y past (r.each i e.0 y e.1 here) (k.downloads.each i d e.0 added e.1);
      };
      apart = k.apart;
      called = λ i d y added here.
          let e = entry i y here in
          subst (λ (z : Entry). AddedBy s d z) (sym (r.each i e.0 y e.1 here).is) (k.called i d e.0 added e.1);
      homes = k.homes;
      ends = k.ends;
      room_is = some;
      log_is = k.log_is;
    }

pub roomier_run : (s : MachineState) (v : MachineView) (events : List Event) (ys : List Entry) (room : ℕ) → Seen s v
    → events ≡ s.events → AreRoomier s.entries ys → s.room ≤ room
    → KeepsRun (reverse events) (record s { events = events; entries = ys; room = room })
roomier_run s v events ys room seen is r more =
    let some = seen.keeps.room_is in
    subst (λ (es : List Event). KeepsRun (reverse es) (record s { events = es; entries = ys; room = room })) (sym is)
    (roomier_kept s ys room seen.keeps r (omega arith))

abbrev spare_at : Entry → ℕ
spare_at x = x.state.mark_spare

no_less : (xs ys : List Entry) → AreRoomier xs ys → (i : ℕ)
    → slice_index_or (map spare_at xs) i 0 ≤ slice_index_or (map spare_at ys) i 0
no_less [] ys r i = omega arith
no_less (x ∷ xs) [] r i = absurd (let many = r.many in omega arith)
no_less (x ∷ xs) (y ∷ ys) r zero =
    let e = r.each 0 x y refl refl in
    let more = e.rest.mark_spare in
    let is : y.state.mark_spare ≡ e.state.mark_spare = ap spare_at e.is in
    omega arith
no_less (x ∷ xs) (y ∷ ys) r (suc i) =
    no_less xs ys
    (record {
      many = let many = r.many in omega arith;
      each = λ j was is there here. r.each (suc j) was is there here;
    }) i

pub roomier_seen : (s : MachineState) (v : MachineView) (events : List Event) (ys : List Entry) (room : ℕ) → Seen s v
    → events ≡ s.events → AreRoomier s.entries ys → s.room ≤ room
    → IsRoomierRun v (view_of (record s { events = events; entries = ys; room = room }))
roomier_seen s v events ys room seen is r more =
    subst (λ (w : MachineView). IsRoomierRun w (view_of (record s { events = events; entries = ys; room = room })))
    seen.view_is
    (subst (λ (es : List Event). IsRoomierRun (view_of s) (view_of (record s { events = es; entries = ys; room = room })))
    (sym is)
    (record {
      start_is = refl;
      past_is = refl;
      spare = omega arith;
      mark_spare = λ gid. no_less s.entries ys r (place_in s.start (reverse s.events) gid);
    }))

pub turn_marks : (s : MachineState) (v : MachineView) (events : List Event) (ys : List Entry) (room : ℕ) → Seen s v
    → events ≡ s.events → AreRoomier s.entries ys → s.room ≤ room → EachActiveHas HasMarksForTurn s.queue ys
    → HasTurnMarkRoom (view_of (record s { events = events; entries = ys; room = room }))
turn_marks s v events ys room seen is r more have =
    let some = seen.keeps.room_is in
    let k = roomier_kept s ys room seen.keeps r (omega arith) in
    subst (λ (es : List Event). HasTurnMarkRoom (view_of (record s { events = es; entries = ys; room = room }))) (sym is)
    (λ gid active.
    let h = have gid (ap (λ q. list_any (is_same_gid gid) q.active) seen.keeps.queue.queue_is ∙ active) in
    let f = place_found gid (replay_of s.start (reverse s.events)).downloads s.queue.added h.place
    (ap (λ q. q.added) seen.keeps.queue.queue_is ∙ seen.keeps.queue.added) h.at in
    let here : Here (record s { entries = ys; room = room }) gid h.place h.entry =
    record { download = f.0; is = record { added = f.1; there = h.there; gid_is = f.2 } } in
    let same = own_spare (record s { entries = ys; room = room }) gid h.place h.entry k here in
    let enough = h.is in
    omega arith)

pub if_ok : {A B : Type 0} (r : Result A B) (P Q : Type 0) → OnOk r P → (P → Q) → OnOk r Q
if_ok (Ok x) P Q h f = f h
if_ok (Err e) P Q h f = tt
