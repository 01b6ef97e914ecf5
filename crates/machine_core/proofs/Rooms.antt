-- Room for the marks of each download, and what a step appends.
use Rattle.std.proofs.Common.{◌≡◌, ◌≢◌, ℕ, Bool, true, Option, Some, ◌+◌, ◌≤◌, List, [], ◌∷◌, ◌++◌, length, set, slice_get, reverse, refl, sym, ap, ◌∙◌, subst, arith}
use Rattle.std.specs.Prelude.{Contains, find, map, slice_index_or}
use Rattle.std.specs.List.{position_or_len}
use Rattle.std.specs.Option.{option_map, unwrap_or}
use Rattle.std.proofs.lemmas.Bool.{eq-eqb}
use Rattle.std.proofs.lemmas.List.{reverse-append}
use Rattle.std.proofs.lemmas.List.Folds.{find_at}
use Rattle.std.proofs.lemmas.Option.{get_or_from_slice_get, same_Some, slice_get-map, slice_get_read, slice_get_within, unwrap_or-slice_get}
use Rattle.dl_kinds.specs.declared.claims.Claim.{Claim}
use Rattle.dl_kinds.specs.declared.gid.Gid.{Gid}
use Rattle.one_download.specs.DownloadViews.{DownloadView}
use Rattle.option_set.specs.Values.{OptionValues}
use Rattle.piece_table.specs.declared.giver.Giver.{Giver}
use Rattle.machine_core.specs.Choices.{options_now}
use Rattle.machine_core.specs.MachineParts.{HaveOwnGids, KeepsRun, MachineState}
use Rattle.machine_core.specs.MachineViews.{Appends, IsFindingOf, IsNext, MachineView, StandsUnder, UsesMarkRoomAt, UsesMarkRoomOf, mark_spare_in, place_in}
use Rattle.machine_core.specs.Replays.{is_download, replay_of}
use Rattle.machine_core.specs.RunLegal.{MayFollow, download_in}
use Rattle.machine_core.specs.Starts.{Download}
use Rattle.machine_core.specs.declared.entries.Entry.{Entry}
use Rattle.machine_core.specs.declared.events.Event.{Event}
use Rattle.machine_core.specs.declared.events.Event.TheVariants.{Settled}
use Rattle.machine_core.proofs.Here.{Here, Seen, view_of}
use Rattle.machine_core.proofs.Lists.{find_one, found, slice_get-set_same, slice_get-set_other}
use Rattle.machine_core.proofs.Parts.{gid_is}

-- ---- the place of a gid

one_download : (ds : List Download) (gid : Gid) (at : ℕ) (d y : Download) → HaveOwnGids ds → slice_get ds at ≡ Some d
    → d.gid ≡ gid → Contains ds y → is_download gid y ≡ true → y ≡ d
one_download ds gid at d y apart there d_is has passes =
    let y_there : slice_get ds has.0 ≡ Some y = slice_get_read ds (length ds) has.0 y refl has.1 (sym has.2) in
    let same : has.0 ≡ at = apart has.0 at y d y_there there (gid_is gid y.gid passes ∙ sym d_is) in
    same_Some y d (sym y_there ∙ (ap (slice_get ds) same ∙ there))

pub place_is : (ds : List Download) (gid : Gid) (at : ℕ) (d : Download) → HaveOwnGids ds → slice_get ds at ≡ Some d
    → d.gid ≡ gid → position_or_len (is_download gid) ds ≡ at
place_is ds gid at d apart there d_is =
    let has : Contains ds d =
    (at, slice_get_within ds at d there, get_or_from_slice_get ds at d d there) in
    let first : find (is_download gid) ds ≡ Some d =
    find_one (is_download gid) ds d has (eq-eqb d.gid.0 gid.0 (ap (λ (g : Gid). g.0) d_is))
    (λ y here passes. one_download ds gid at d y apart there d_is here passes) in
    apart (position_or_len (is_download gid) ds) at d d (sym (find_at (is_download gid) ds) ∙ first) there refl

-- the place of one isn't that of another
elsewhere : (ds : List Download) (other gid : Gid) (at : ℕ) (d : Download) → position_or_len (is_download other) ds ≡ at
    → slice_get ds at ≡ Some d → d.gid ≡ gid → other ≡ gid
elsewhere ds other gid at d is there d_is =
    let f = found (is_download other) ds d (find_at (is_download other) ds ∙ (ap (slice_get ds) is ∙ there)) in
    sym (gid_is other d.gid f.passes) ∙ d_is

-- ---- room

abbrev spare_of : Entry → ℕ
spare_of x = x.state.mark_spare

pub read_spare : (xs : List Entry) (at : ℕ) (x : Entry) → slice_get xs at ≡ Some x
    → slice_index_or (map spare_of xs) at 0 ≡ x.state.mark_spare
read_spare xs at x there =
    get_or_from_slice_get (map spare_of xs) at (spare_of x) 0
    (slice_get-map spare_of xs at ∙ ap (option_map spare_of) there)

other_spare : (xs : List Entry) (at i : ℕ) (y : Entry) → i ≢ at
    → slice_index_or (map spare_of (set xs at y)) i 0 ≡ slice_index_or (map spare_of xs) i 0
other_spare xs at i y apart =
    sym (unwrap_or-slice_get (map spare_of (set xs at y)) i 0)
    ∙ (ap (λ (o : Option ℕ). unwrap_or o 0)
    (slice_get-map spare_of (set xs at y) i
    ∙ (ap (option_map spare_of) (slice_get-set_other xs at i y apart) ∙ sym (slice_get-map spare_of xs i)))
    ∙ unwrap_or-slice_get (map spare_of xs) i 0)

pub own_spare : (s : MachineState) (gid : Gid) (at : ℕ) (x : Entry) → KeepsRun (reverse s.events) s → Here s gid at x
    → mark_spare_in (view_of s) gid ≡ x.state.mark_spare
own_spare s gid at x k h =
    ap (λ (i : ℕ). slice_index_or (map spare_of s.entries) i 0)
    (place_is (replay_of s.start (reverse s.events)).downloads gid at h.download k.apart h.is.added h.is.gid_is)
    ∙ read_spare s.entries at x h.is.there

pub room_here : (s : MachineState) (v : MachineView) (gid : Gid) (at : ℕ) (x : Entry) → Seen s v → Here s gid at x
    → 1 ≤ mark_spare_in v gid → 1 ≤ x.state.mark_spare
room_here s v gid at x seen h some =
    let same : mark_spare_in v gid ≡ x.state.mark_spare =
    ap (λ (w : MachineView). mark_spare_in w gid) (sym seen.view_is) ∙ own_spare s gid at x seen.keeps h in
    omega arith

pub uses_room : (s : MachineState) (v new : MachineView) (gid : Gid) (at : ℕ) (x : Entry) (d : DownloadView)
    → Seen s v → Here s gid at x
    → (replay_of new.start new.past).downloads ≡ (replay_of s.start (reverse s.events)).downloads
    → new.mark_spares ≡ map spare_of (set s.entries at (record x { state = d }))
    → x.state.mark_spare ≤ d.mark_spare + 1 → UsesMarkRoomOf v new gid
uses_room s v new gid at x d seen h downloads marks less =
    let ds = (replay_of s.start (reverse s.events)).downloads in
    let y : Entry = record x { state = d } in
    let read : (g : Gid) → mark_spare_in new g
    ≡ slice_index_or (map spare_of (set s.entries at y)) (position_or_len (is_download g) ds) 0 =
    λ g. ap (λ (ms : List ℕ). slice_index_or ms (place_in new.start new.past g) 0) marks
    ∙ ap (λ (xs : List Download). slice_index_or (map spare_of (set s.entries at y)) (position_or_len (is_download g) xs) 0)
    downloads in
    let here : position_or_len (is_download gid) ds ≡ at =
    place_is ds gid at h.download seen.keeps.apart h.is.added h.is.gid_is in
    let now : mark_spare_in new gid ≡ d.mark_spare =
    read gid
    ∙ (ap (λ (i : ℕ). slice_index_or (map spare_of (set s.entries at y)) i 0) here
    ∙ read_spare (set s.entries at y) at y
    (slice_get-set_same s.entries at y (slice_get_within s.entries at x h.is.there))) in
    let was : mark_spare_in v gid ≡ x.state.mark_spare =
    ap (λ (w : MachineView). mark_spare_in w gid) (sym seen.view_is) ∙ own_spare s gid at x seen.keeps h in
    record {
      own = omega arith;
      others = λ other apart.
          read other
          ∙ (other_spare s.entries at (position_or_len (is_download other) ds) y
          (λ same. apart (elsewhere ds other gid at h.download same h.is.added h.is.gid_is))
          ∙ ap (λ (w : MachineView). mark_spare_in w other) seen.view_is);
    }

-- ---- what is appended

pub appends : (s : MachineState) (v new : MachineView) (e : Event) (Is : Event → Type 0) (events : List Event)
    → Seen s v → Is e → MayFollow s.start (reverse s.events) e → events ≡ s.events ++ e ∷ []
    → new.past ≡ reverse events → new.start ≡ s.start → Appends v new Is
appends s v new e Is events seen is may events_is past_is start_is =
    record {
      event = e;
      is = is;
      may = subst (λ (w : MachineView). MayFollow w.start w.past e) seen.view_is may;
      past_is = past_is ∙ (ap reverse events_is ∙ (reverse-append s.events (e ∷ [])
          ∙ ap (λ (w : MachineView). e ∷ w.past) seen.view_is));
      start_is = start_is ∙ ap (λ (w : MachineView). w.start) seen.view_is;
    }

-- the downloads stay
pub downloads_after : (s : MachineState) (v : MachineView) (e : Event) (events : List Event) → Seen s v
    → events ≡ s.events ++ e ∷ [] → (replay_of s.start (e ∷ reverse s.events)).downloads ≡ (replay_of s.start (reverse s.events)).downloads
    → (replay_of s.start (reverse events)).downloads ≡ (replay_of s.start (reverse s.events)).downloads
downloads_after s v e events seen is same =
    ap (λ (p : List Event). (replay_of s.start p).downloads) (ap reverse is ∙ reverse-append s.events (e ∷ [])) ∙ same

-- ---- a finding

pub record Finding (v : MachineView) (gid : Gid) (piece : ℕ) (right : Bool) : Type 0 where
  pub giver : Giver
  pub may : MayFollow v.start v.past (Settled gid piece right giver)

pub finding_next : (v : MachineView) (gid : Gid) (piece : ℕ) (right : Bool) → IsNext v (IsFindingOf gid piece right)
    → Finding v gid piece right
finding_next v gid piece right (e, is, may) =
    record { giver = is.0; may = subst (λ (x : Event). MayFollow v.start v.past x) is.1 may }

-- ---- a loss

pub other_home : (v new : MachineView) (id : ℕ) (gid : Gid) (claim : Claim) → StandsUnder v id gid claim
    → UsesMarkRoomOf v new gid → UsesMarkRoomAt v new id
other_home v new id gid claim stands uses other twin there =
    subst (λ (g : Gid). UsesMarkRoomOf v new g) (sym (stands.one other twin there.stands there.id_is).0) uses

-- ---- options

-- the download at the place of a gid is the one that was added under it
pub added_here : (s : MachineState) (v : MachineView) (gid : Gid) (at : ℕ) (x : Entry) → Seen s v
    → (h : Here s gid at x) → download_in s.start (reverse s.events) gid ≡ Some h.download
added_here s v gid at x seen h =
    let ds = (replay_of s.start (reverse s.events)).downloads in
    let d = h.download in
    let has : Contains ds d =
    (at, slice_get_within ds at d h.is.added, get_or_from_slice_get ds at d d h.is.added) in
    find_one (is_download gid) ds d has (eq-eqb d.gid.0 gid.0 (ap (λ (g : Gid). g.0) h.is.gid_is))
    (λ y here passes. one_download ds gid at d y seen.keeps.apart h.is.added h.is.gid_is here passes)

pub options_here : (s : MachineState) (v : MachineView) (gid : Gid) (at : ℕ) (x : Entry) → Seen s v → Here s gid at x
    → Some x.options ≡ option_map (options_now v.start v.past) (download_in v.start v.past gid)
options_here s v gid at x seen h =
    let kept = seen.keeps.downloads.each at h.download x h.is.added h.is.there in
    subst (λ (w : MachineView). Some x.options ≡ option_map (options_now w.start w.past) (download_in w.start w.past gid))
    seen.view_is
    (ap (λ (o : OptionValues). Some o) kept.options_are
    ∙ sym (ap (option_map (options_now s.start (reverse s.events))) (added_here s v gid at x seen h)))
