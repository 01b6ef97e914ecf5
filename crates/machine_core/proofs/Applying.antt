-- A call that is applied keeps the machine's run.
use Rattle.std.proofs.Common.{◌≡◌, ℕ, zero, suc, ◌<◌, ◌≤◌, List, [], ◌∷◌, ◌++◌, length, reverse, refl, sym, ap, ◌∙◌, subst, ⊎_elim, arith}
use Rattle.std.specs.Prelude.{map, slice_index_or}
use Rattle.std.specs.List.{position_or_len}
use Rattle.std.proofs.lemmas.Bool.{cases_lt}
use Rattle.std.proofs.lemmas.List.{reverse-append}
use Rattle.dl_kinds.specs.declared.gid.Gid.{Gid}
use Rattle.dl_kinds.specs.declared.runs.Moment.{Moment}
use Rattle.machine_core.specs.Answers.{applied_by}
use Rattle.machine_core.specs.CallParts.{CallParts, IsApplied, KeepMarkRooms, StandInOrder, with_call_parts}
use Rattle.machine_core.specs.MachineParts.{KeepsRun, MachineState}
use Rattle.machine_core.specs.MachineViews.{MachineView, mark_spare_in, place_in}
use Rattle.machine_core.specs.Replays.{after_call, is_download, replay_of}
use Rattle.machine_core.specs.RunLegal.{MayFollow}
use Rattle.machine_core.specs.Starts.{RunStart, Download}
use Rattle.machine_core.specs.declared.applied.Applied.{Applied}
use Rattle.machine_core.specs.declared.calls.Call.{Call}
use Rattle.machine_core.specs.declared.entries.Entry.{Entry}
use Rattle.machine_core.specs.declared.events.Event.{Event}
use Rattle.machine_core.specs.declared.events.Event.TheVariants.{Called}
use Rattle.machine_core.proofs.Called.{in_order}
use Rattle.machine_core.proofs.Here.{Seen, may_here}
use Rattle.machine_core.proofs.Lists.{element_at}
use Rattle.machine_core.proofs.Parts.{Adds, call_adds, place_stays}
use Rattle.machine_core.proofs.Rooms.{read_spare}

pub ordered : (s : MachineState) (v : MachineView) → Seen s v → StandInOrder s.queue.added s.entries
ordered s v seen = in_order (reverse s.events) s seen.keeps

-- the parts of a machine that a call changes
abbrev pub parts_of : MachineState → CallParts
parts_of s = record { queue = s.queue; global = s.global; shut = s.shut; entries = s.entries }

-- ---- the call came

pub called_run : (s : MachineState) (v : MachineView) (session : ℕ) (asked : Call) (now : Moment) (place : ℕ)
    (new : CallParts) (applied : Applied) (events : List Event) (room : ℕ) → Seen s v
    → place ≡ length s.events → IsApplied asked s.start.gids place (parts_of s) new applied
    → MayFollow v.start v.past (Called session asked now)
    → events ≡ s.events ++ Called session asked now ∷ [] → s.room ≤ room
    → KeepsRun (reverse events) (record (with_call_parts s new) { events = events; room = room })
called_run s v session asked now place new applied events room seen place_is a may is more =
    let e = Called session asked now in
    let some = seen.keeps.room_is in
    let k = a.keeps (reverse s.events) s session now room refl (sym place_is) seen.keeps
    (may_here s v e seen may) (omega arith) in
    subst (λ (es : List Event). KeepsRun (reverse es) (record (with_call_parts s new) { events = es; room = room }))
    (sym is)
    (subst
    (λ (p : List Event). KeepsRun p (record (with_call_parts s new) { events = s.events ++ e ∷ []; room = room }))
    (sym (reverse-append s.events (e ∷ []))) k)

pub called_answer : (s : MachineState) (v : MachineView) (asked : Call) (place : ℕ) (new : CallParts)
    (applied : Applied) → Seen s v → IsApplied asked s.start.gids place (parts_of s) new applied
    → applied ≡ applied_by v.start v.past asked
called_answer s v asked place new applied seen a =
    subst (λ (w : MachineView). applied ≡ applied_by w.start w.past asked) seen.view_is
    (a.answer (reverse s.events) s refl seen.keeps)

-- ---- room for marks

abbrev spare_in : Entry → ℕ
spare_in x = x.state.mark_spare

none_past : (xs : List Entry) (i : ℕ) → length xs ≤ i → slice_index_or (map spare_in xs) i 0 ≡ 0
none_past [] zero past = refl
none_past [] (suc i) past = refl
none_past (x ∷ xs) zero past = absurd (omega arith)
none_past (x ∷ xs) (suc i) past = none_past xs i (omega arith)

no_less : (old new : List Download) (xs ys : List Entry) (gid : Gid) → Adds old new → length xs ≡ length old
    → KeepMarkRooms xs ys
    → slice_index_or (map spare_in xs) (position_or_len (is_download gid) old) 0
    ≤ slice_index_or (map spare_in ys) (position_or_len (is_download gid) new) 0
no_less old new xs ys gid adds many rooms =
    ⊎_elim
    (λ (within : position_or_len (is_download gid) old < length old).
    let x = element_at xs (position_or_len (is_download gid) old) (omega arith) in
    let y = rooms (position_or_len (is_download gid) old) x.0 x.1 in
    let before = read_spare xs (position_or_len (is_download gid) old) x.0 x.1 in
    let behind : slice_index_or (map spare_in ys) (position_or_len (is_download gid) new) 0 ≡ y.0.state.mark_spare =
    ap (λ (i : ℕ). slice_index_or (map spare_in ys) i 0) (place_stays old new gid adds within)
    ∙ read_spare ys (position_or_len (is_download gid) old) y.0 y.1 in
    let more = y.2 in
    omega arith)
    (λ (past : length old ≤ position_or_len (is_download gid) old).
    let none = none_past xs (position_or_len (is_download gid) old) (omega arith) in omega arith)
    (cases_lt (position_or_len (is_download gid) old) (length old))

pub called_rooms : (s : MachineState) (v new : MachineView) (session : ℕ) (asked : Call) (now : Moment) (place : ℕ)
    (t : CallParts) (applied : Applied) (events : List Event) → Seen s v
    → IsApplied asked s.start.gids place (parts_of s) t applied
    → events ≡ s.events ++ Called session asked now ∷ []
    → new.start ≡ s.start → new.past ≡ reverse events → new.mark_spares ≡ map spare_in t.entries
    → (gid : Gid) → mark_spare_in v gid ≤ mark_spare_in new gid
called_rooms s v new session asked now place t applied events seen a is start_is past_is marks gid =
    let e = Called session asked now in
    let r = replay_of s.start (reverse s.events) in
    let downloads : (replay_of new.start new.past).downloads ≡ (after_call s.start r asked).downloads =
    ap (λ (st : RunStart). (replay_of st new.past).downloads) start_is
    ∙ ap (λ (p : List Event). (replay_of s.start p).downloads)
    (past_is ∙ (ap reverse is ∙ reverse-append s.events (e ∷ []))) in
    let after : mark_spare_in new gid
    ≡ slice_index_or (map spare_in t.entries) (position_or_len (is_download gid) (after_call s.start r asked).downloads) 0 =
    ap (λ (ms : List ℕ). slice_index_or ms (place_in new.start new.past gid) 0) marks
    ∙ ap (λ (ds : List Download). slice_index_or (map spare_in t.entries) (position_or_len (is_download gid) ds) 0)
    downloads in
    let before : mark_spare_in v gid
    ≡ slice_index_or (map spare_in s.entries) (position_or_len (is_download gid) r.downloads) 0 =
    ap (λ (w : MachineView). mark_spare_in w gid) (sym seen.view_is) in
    let less = no_less r.downloads (after_call s.start r asked).downloads s.entries t.entries gid
    (call_adds s.start r asked) seen.keeps.downloads.many a.rooms in
    omega arith
