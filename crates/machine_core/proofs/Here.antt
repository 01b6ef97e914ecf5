-- What a step on one download needs of what is kept, and what it keeps.
use Rattle.std.proofs.Common.{◌≡◌, ◌≢◌, ℕ, suc, Bool, true, false, cond, Option, Some, None, ◌+◌, ◌-◌, ◌<◌, ◌≤◌, List, [], ◌∷◌, ◌++◌, length, get_or, set, slice_get, reverse, refl, sym, ap, ◌∙◌, subst, arith}
use Rattle.std.specs.Prelude.{All, Contains, ◌↔◌, IfNone, IfSome, IsNone, count_by, map}
use Rattle.std.specs.List.{list_any}
use Rattle.std.specs.Option.{is_some, option_and_then}
use Rattle.std.proofs.Math.Seq.{map-set_same}
use Rattle.std.proofs.lemmas.List.Sums.{sum_by-cons}
use Rattle.std.proofs.lemmas.List.{get_or_default}
use Rattle.std.proofs.lemmas.Option.{none-some, slice_get_read, slice_get_within}
use Rattle.std.proofs.lemmas.List.Elements.{All-contains, All-contains_itself, All-weaker}
use Rattle.dl_kinds.specs.Plan.{piece_of}
use Rattle.dl_kinds.specs.declared.claims.Claim.{Claim}
use Rattle.dl_kinds.specs.declared.gid.Gid.{Gid}
use Rattle.dl_kinds.specs.declared.marks.Mark.{Mark}
use Rattle.dl_kinds.specs.declared.runs.Moment.{Moment}
use Rattle.dl_kinds.specs.declared.runs.Run.{Run}
use Rattle.dl_queue.specs.Calls.{after}
use Rattle.dl_queue.specs.Lists.{QueueLists}
use Rattle.dl_history.specs.AccountLaws.{UnopenedAccountsAreAlike}
use Rattle.dl_history.specs.Accounts.{Account, after_finding, after_halt, after_landing, after_loss, after_save, after_sizing, first_still_open, without_piece}
use Rattle.dl_history.specs.OwnEvents.{OwnEvent, Lands, Settles, Loses, Sizes, Saves}
use Rattle.dl_history.specs.OwnLegal.{MayBeLost}
use Rattle.dl_history.specs.PayloadParts.{is_opened}
use Rattle.dl_history.specs.StandingClaims.{first_open_since, granted_claims, standing_claims}
use Rattle.one_download.specs.DownloadLaws.{AccountsTellOpening}
use Rattle.one_download.specs.DownloadViews.{DownloadView, IsFullUnverified, IsOpenAt, IsUnverified, MayBlame, StaysSetUp, StaysUnmarked, is_opened_by, marks_after, standing_under}
use Rattle.piece_table.specs.declared.giver.Giver.{Giver}
use Rattle.machine_core.specs.MachineParts.{AreHalted, IsHalted, KeepsRun, MachineState, kept_room, subject_of_event}
use Rattle.machine_core.specs.MachineViews.{IsPlaceOf, MachineView, IsFirstOpen, StandsNowhere, StandsSomewhere, StandsUnder, account_of_gid, is_added_in, standing_in}
use Rattle.machine_core.specs.OwnParts.{own_of}
use Rattle.machine_core.specs.Replays.{replay_of, stop_of}
use Rattle.machine_core.specs.RunLegal.{IsLaterThan, doors_left, is_left, is_stop, MayBeChecked, MayBeCleared, MayBeSettled, MayFollow, MayOwn, download_in, known_lengths, mirrors_by}
use Rattle.machine_core.specs.Starts.{Download}
use Rattle.machine_core.specs.declared.ends.End.{End}
use Rattle.machine_core.specs.declared.entries.Entry.{Entry}
use Rattle.machine_core.specs.declared.events.Event.{Event}
use Rattle.machine_core.specs.declared.events.Event.TheVariants.{Sized, Landed, Settled, Cleared, Lost, Checked, Saved, Ended, Left, Stopped}
use Rattle.machine_core.proofs.Fitting.{IsKnown, LandingFits, clearing_fits, first_by, known, landing_fits, losing_fits, losing_piece, mirror_known, probe_piece, settling_by, settling_fits, under_number}
use Rattle.machine_core.proofs.Halting.{stop_step}
use Rattle.machine_core.proofs.Homes.{home_none, home_stands, standing_granted}
use Rattle.machine_core.proofs.Legal.{Laws}
use Rattle.machine_core.proofs.Lists.{read-more}
use Rattle.machine_core.proofs.Steps.{IsAt, MarksFollow}
use Rattle.machine_core.proofs.Turns.{checking, clearing, ending, finding, landing, losing, onto, saving, sizing}
use Rattle.machine_core.proofs.Logged.{logged_on}

-- what contracts see of what is kept
abbrev pub view_of : MachineState → MachineView
view_of s =
    record {
      start = s.start;
      past = reverse s.events;
      spare = s.room - kept_room s.start.doors s.left s.stopped;
      mark_spares = map (λ (x : Entry). x.state.mark_spare) s.entries;
    }

-- a machine whose run is kept, as contracts see it
pub record Seen (s : MachineState) (v : MachineView) : Type 0 where
  pub keeps : KeepsRun (reverse s.events) s
  pub view_is : view_of s ≡ v

pub record Here (s : MachineState) (gid : Gid) (at : ℕ) (x : Entry) : Type 0 where
  pub download : Download
  pub is : IsAt s.start (reverse s.events) s.entries gid at download x

pub sees : (s : MachineState) (v : MachineView) → KeepsRun (reverse s.events) s → view_of s ≡ v → Seen s v
sees s v keeps view_is = record { keeps = keeps; view_is = view_is }

some_of : (P : ℕ → Type 0) (o : Option ℕ) (at : ℕ) → o ≡ Some at → IfSome o P → P at
some_of P o at is h = rw is at h

pub within : (s : MachineState) (v : MachineView) (gid : Gid) (o : Option ℕ) (at : ℕ) → Seen s v
    → IfSome o (IsPlaceOf v gid) → o ≡ Some at → at < length s.entries
within s v gid o at seen found is =
    let p : IsPlaceOf (view_of s) gid at =
    subst (λ (w : MachineView). IsPlaceOf w gid at) (sym seen.view_is) (some_of (IsPlaceOf v gid) o at is found) in
    let w = slice_get_within (replay_of s.start (reverse s.events)).downloads at p.download p.added in
    let many = seen.keeps.downloads.many in
    omega arith

pub here : (s : MachineState) (v : MachineView) (gid : Gid) (o : Option ℕ) (at : ℕ) (x : Entry) → Seen s v
    → IfSome o (IsPlaceOf v gid) → o ≡ Some at → x ≡ get_or s.entries at x → Here s gid at x
here s v gid o at x seen found is x_is =
    let p : IsPlaceOf (view_of s) gid at =
    subst (λ (w : MachineView). IsPlaceOf w gid at) (sym seen.view_is) (some_of (IsPlaceOf v gid) o at is found) in
    record {
      download = p.download;
      is = record {
        added = p.added;
        there = slice_get_read s.entries (length s.entries) at x refl (within s v gid o at seen found is) x_is;
        gid_is = p.gid_is;
      };
    }

-- the download at a place, as contracts see it
pub added_seen : (s : MachineState) (v : MachineView) (gid : Gid) (at : ℕ) (x : Entry) → Seen s v → (h : Here s gid at x)
    → slice_get (replay_of v.start v.past).downloads at ≡ Some h.download
added_seen s v gid at x seen h =
    subst (λ (w : MachineView). slice_get (replay_of w.start w.past).downloads at ≡ Some h.download) seen.view_is h.is.added

pub place_below : (s : MachineState) (v : MachineView) (gid : Gid) (at : ℕ) (x : Entry) → Seen s v → Here s gid at x
    → at < length (replay_of v.start v.past).downloads
place_below s v gid at x seen h =
    slice_get_within (replay_of v.start v.past).downloads at h.download (added_seen s v gid at x seen h)

-- an event that may come next by what contracts see
pub may_here : (s : MachineState) (v : MachineView) (e : Event) → Seen s v → MayFollow v.start v.past e
    → MayFollow s.start (reverse s.events) e
may_here s v e seen may = subst (λ (w : MachineView). MayFollow w.start w.past e) (sym seen.view_is) may

pub known_here : Laws → AccountsTellOpening → (s : MachineState) (v : MachineView) (gid : Gid) (at : ℕ) (x : Entry)
    → Seen s v → Here s gid at x
    → IsKnown (known_lengths s.start (reverse s.events) gid).total (known_lengths s.start (reverse s.events) gid).piece_len
    (own_of s.start (reverse s.events) gid) x.state.account
known_here laws tells s v gid at x seen h = known laws tells (reverse s.events) s gid at h.download x seen.keeps h.is

-- ---- what the step needs

pub clear_here : Laws → AccountsTellOpening → (s : MachineState) (v : MachineView) (gid : Gid) (piece at : ℕ) (x : Entry)
    → Seen s v → Here s gid at x → MayFollow v.start v.past (Cleared gid piece)
    → IsUnverified x.state.account.progress piece
clear_here laws tells s v gid piece at x seen h may =
    let m : MayBeCleared s.start (reverse s.events) gid piece = may_here s v (Cleared gid piece) seen may in
    clearing_fits laws _ _ _ x.state.account piece (known_here laws tells s v gid at x seen h) m.own.may

pub save_here : Laws → AccountsTellOpening → (s : MachineState) (v : MachineView) (gid : Gid) (now : Moment) (at : ℕ)
    (x : Entry) → Seen s v → Here s gid at x → MayFollow v.start v.past (Saved gid now)
    → is_opened_by x.state.account ≡ true
save_here laws tells s v gid now at x seen h may =
    let m : MayOwn s.start (reverse s.events) gid (Saves now) × IsLaterThan (reverse s.events) now =
    may_here s v (Saved gid now) seen may in
    (known_here laws tells s v gid at x seen h).opened ∙ m.0.may.opened

pub check_here : Laws → AccountsTellOpening → (s : MachineState) (v : MachineView) (gid : Gid) (right : Bool) (at : ℕ)
    (x : Entry) → Seen s v → Here s gid at x → MayFollow v.start v.past (Checked gid right)
    → is_opened_by x.state.account ≡ true
check_here laws tells s v gid right at x seen h may =
    let m : MayBeChecked s.start (reverse s.events) gid right = may_here s v (Checked gid right) seen may in
    (known_here laws tells s v gid at x seen h).opened ∙ m.own.may.opened

pub settle_here : Laws → AccountsTellOpening → (s : MachineState) (v : MachineView) (gid : Gid) (piece : ℕ) (right : Bool)
    (giver : Giver) (at : ℕ) (x : Entry) → Seen s v → Here s gid at x
    → MayFollow v.start v.past (Settled gid piece right giver)
    → IsFullUnverified x.state.account.progress piece
settle_here laws tells s v gid piece right giver at x seen h may =
    let m : MayBeSettled s.start (reverse s.events) gid (Settles piece right giver) right =
    may_here s v (Settled gid piece right giver) seen may in
    settling_fits _ _ _ x.state.account piece giver (known_here laws tells s v gid at x seen h) m.own.may

-- the finding with the giver that is kept may come next
pub settle_may : Laws → AccountsTellOpening → (s : MachineState) (v : MachineView) (gid : Gid) (piece : ℕ) (right : Bool)
    (giver kept : Giver) (at : ℕ) (x : Entry) → Seen s v → Here s gid at x
    → MayFollow v.start v.past (Settled gid piece right giver) → slice_get x.state.account.progress.givers piece ≡ Some kept
    → MayFollow s.start (reverse s.events) (Settled gid piece right kept)
settle_may laws tells s v gid piece right giver kept at x seen h may is =
    let m : MayBeSettled s.start (reverse s.events) gid (Settles piece right giver) right =
    may_here s v (Settled gid piece right giver) seen may in
    record {
      own = record {
        download = m.own.download;
        added = m.own.added;
        may = settling_by _ _ _ x.state.account piece giver kept (known_here laws tells s v gid at x seen h) m.own.may is;
      };
      right_is = m.right_is;
    }

pub land_here : Laws → AccountsTellOpening → (s : MachineState) (v : MachineView) (gid : Gid) (id mirror : ℕ) (run : Run)
    (now : Moment) (at : ℕ) (x : Entry) → Seen s v → Here s gid at x
    → MayFollow v.start v.past (Landed gid id mirror run now) → LandingFits x.state.account run
land_here laws tells s v gid id mirror run now at x seen h may =
    let m : MayOwn s.start (reverse s.events) gid (Lands id mirror run) × IsLaterThan (reverse s.events) now =
    may_here s v (Landed gid id mirror run now) seen may in
    landing_fits laws _ _ _ x.state.account id mirror run (known_here laws tells s v gid at x seen h) m.0.may

-- the mirror of a claim that stands is one of the download's
pub mirror_here : (s : MachineState) (v : MachineView) (gid : Gid) (id mirror : ℕ) (run : Run)
    (now : Moment) (at : ℕ) (x : Entry) → Seen s v → Here s gid at x
    → MayFollow v.start v.past (Landed gid id mirror run now) → mirror < x.state.mirrors
mirror_here s v gid id mirror run now at x seen h may =
    let m : MayOwn s.start (reverse s.events) gid (Lands id mirror run) × IsLaterThan (reverse s.events) now =
    may_here s v (Landed gid id mirror run now) seen may in
    let kept = seen.keeps.downloads.each at h.download x h.is.added h.is.there in
    let all = subst (λ (g : Gid). All (λ (c : Claim). c.mirror < mirrors_by h.download.subject)
    (granted_claims (own_of s.start (reverse s.events) g))) h.is.gid_is kept.known in
    let below = mirror_known (mirrors_by h.download.subject) (own_of s.start (reverse s.events) gid) m.0.may.claim all
    m.0.may.stands in
    let is = m.0.may.mirror_is in
    let many = kept.mirrors in
    omega arith

pub size_here : Laws → AccountsTellOpening → (s : MachineState) (v : MachineView) (gid : Gid) (id total : ℕ) (at : ℕ)
    (x : Entry) → Seen s v → Here s gid at x → MayFollow v.start v.past (Sized gid id total)
    → is_opened (own_of s.start (reverse s.events) gid) ≡ false
size_here laws tells s v gid id total at x seen h may =
    let m : MayOwn s.start (reverse s.events) gid (Sizes id total) = may_here s v (Sized gid id total) seen may in
    laws.sound.sized _ _ (own_of s.start (reverse s.events) gid) id (known_here laws tells s v gid at x seen h).legal m.may

-- ---- what it keeps

pub room_left : (s : MachineState) (v : MachineView) (room : ℕ) → Seen s v → 1 ≤ v.spare → room ≡ s.room - 1
    → kept_room s.start.doors s.left s.stopped ≤ room
room_left s v room seen some is =
    let same : s.room - kept_room s.start.doors s.left s.stopped ≡ v.spare =
    ap (λ (w : MachineView). w.spare) seen.view_is in
    omega arith

pub marks_same : (entries : List Entry) (at : ℕ) (x : Entry) (v : DownloadView) → x ≡ get_or entries at x
    → v.mark_spare ≡ x.state.mark_spare
    → map (λ (e : Entry). e.state.mark_spare) (set entries at (record x { state = v }))
    ≡ map (λ (e : Entry). e.state.mark_spare) entries
marks_same entries at x v is same =
    map-set_same (λ (e : Entry). e.state.mark_spare) entries at (record x { state = v }) x
    (same ∙ ap (λ (e : Entry). e.state.mark_spare) is)

pub clears : MarksFollow → (s : MachineState) (v : MachineView) (gid : Gid) (piece at : ℕ) (x : Entry) (d : DownloadView)
    (events : List Event) (room : ℕ) → Seen s v → Here s gid at x → MayFollow v.start v.past (Cleared gid piece)
    → d.account ≡ without_piece x.state.account piece → StaysUnmarked x.state d
    → 1 ≤ v.spare → events ≡ s.events ++ Cleared gid piece ∷ [] → room ≡ s.room - 1
    → KeepsRun (reverse events)
    (record s { events = events; entries = set s.entries at (record x { state = d }); room = room })
clears law s v gid piece at x d events room seen h may account rest some is room_is =
    onto s (record s { entries = set s.entries at (record x { state = d }); room = room }) (Cleared gid piece) events is
    (clearing law (reverse s.events) s gid piece at h.download x d room seen.keeps h.is
    (may_here s v (Cleared gid piece) seen may) account rest (room_left s v room seen some room_is))

pub saves : MarksFollow → (s : MachineState) (v : MachineView) (gid : Gid) (now : Moment) (at : ℕ) (x : Entry)
    (d : DownloadView) (events : List Event) (room : ℕ) → Seen s v → Here s gid at x
    → MayFollow v.start v.past (Saved gid now)
    → d.account ≡ after_save x.state.account now → StaysUnmarked x.state d
    → 1 ≤ v.spare → events ≡ s.events ++ Saved gid now ∷ [] → room ≡ s.room - 1
    → KeepsRun (reverse events)
    (record s { events = events; entries = set s.entries at (record x { state = d }); room = room })
saves law s v gid now at x d events room seen h may account rest some is room_is =
    onto s (record s { entries = set s.entries at (record x { state = d }); room = room }) (Saved gid now) events is
    (saving law (reverse s.events) s gid now at h.download x d room seen.keeps h.is
    (may_here s v (Saved gid now) seen may) account rest (room_left s v room seen some room_is))

pub checks : MarksFollow → (s : MachineState) (v : MachineView) (gid : Gid) (right : Bool) (at : ℕ) (x : Entry)
    (d : DownloadView) (events : List Event) (room : ℕ) → Seen s v → Here s gid at x
    → MayFollow v.start v.past (Checked gid right)
    → d.account ≡ record x.state.account { checked = Some right } → StaysUnmarked x.state d
    → 1 ≤ v.spare → events ≡ s.events ++ Checked gid right ∷ [] → room ≡ s.room - 1
    → KeepsRun (reverse events)
    (record s { events = events; entries = set s.entries at (record x { state = d }); room = room })
checks law s v gid right at x d events room seen h may account rest some is room_is =
    onto s (record s { entries = set s.entries at (record x { state = d }); room = room }) (Checked gid right) events is
    (checking law (reverse s.events) s gid right at h.download x d room seen.keeps h.is
    (may_here s v (Checked gid right) seen may) account rest (room_left s v room seen some room_is))

pub settles : MarksFollow → (s : MachineState) (v : MachineView) (gid : Gid) (piece : ℕ) (right : Bool) (giver : Giver)
    (at : ℕ) (x : Entry) (d : DownloadView) (events : List Event) (room : ℕ) → Seen s v → Here s gid at x
    → MayFollow s.start (reverse s.events) (Settled gid piece right giver)
    → d.account ≡ after_finding x.state.account piece right giver
    → d.marks ≡ marks_after x.state.max_tries x.state.marks (Settles piece right giver) → StaysSetUp x.state d
    → 1 ≤ v.spare → events ≡ s.events ++ Settled gid piece right giver ∷ [] → room ≡ s.room - 1
    → KeepsRun (reverse events)
    (record s { events = events; entries = set s.entries at (record x { state = d }); room = room })
settles law s v gid piece right giver at x d events room seen h may account marks rest some is room_is =
    onto s (record s { entries = set s.entries at (record x { state = d }); room = room })
    (Settled gid piece right giver) events is
    (finding law (reverse s.events) s gid piece right giver at h.download x d room seen.keeps h.is may account marks
    rest (room_left s v room seen some room_is))

pub lands : MarksFollow → (s : MachineState) (v : MachineView) (gid : Gid) (id mirror : ℕ) (run : Run) (now : Moment)
    (at : ℕ) (x : Entry) (d : DownloadView) (events : List Event) (room : ℕ) → Seen s v → Here s gid at x
    → MayFollow v.start v.past (Landed gid id mirror run now)
    → d.account ≡ after_landing x.state.account mirror run → StaysUnmarked x.state d
    → 1 ≤ v.spare → events ≡ s.events ++ Landed gid id mirror run now ∷ [] → room ≡ s.room - 1
    → KeepsRun (reverse events)
    (record s { events = events; entries = set s.entries at (record x { state = d }); room = room })
lands law s v gid id mirror run now at x d events room seen h may account rest some is room_is =
    onto s (record s { entries = set s.entries at (record x { state = d }); room = room })
    (Landed gid id mirror run now) events is
    (landing law (reverse s.events) s gid id mirror run now at h.download x d room seen.keeps h.is
    (may_here s v (Landed gid id mirror run now) seen may) account rest (room_left s v room seen some room_is))

pub sizes : Laws → AccountsTellOpening → UnopenedAccountsAreAlike → (s : MachineState) (v : MachineView) (gid : Gid)
    (id total : ℕ) (at : ℕ) (x : Entry) (d : DownloadView) (events : List Event) (room : ℕ) → Seen s v
    → Here s gid at x → MayFollow v.start v.past (Sized gid id total)
    → d.account ≡ after_sizing x.state.account id total → StaysUnmarked x.state d
    → 1 ≤ v.spare → events ≡ s.events ++ Sized gid id total ∷ [] → room ≡ s.room - 1
    → KeepsRun (reverse events)
    (record s { events = events; entries = set s.entries at (record x { state = d }); room = room })
sizes laws tells alike s v gid id total at x d events room seen h may account rest some is room_is =
    onto s (record s { entries = set s.entries at (record x { state = d }); room = room })
    (Sized gid id total) events is
    (sizing alike (reverse s.events) s gid id total at h.download x d room seen.keeps h.is
    (may_here s v (Sized gid id total) seen may) (known_here laws tells s v gid at x seen h)
    (size_here laws tells s v gid id total at x seen h may) account rest (room_left s v room seen some room_is))

pub ends : MarksFollow → (s : MachineState) (v : MachineView) (gid : Gid) (how : End) (queue : QueueLists) (at : ℕ)
    (x : Entry) (d : DownloadView) (events : List Event) (room : ℕ) → Seen s v → Here s gid at x
    → MayFollow v.start v.past (Ended gid how) → queue ≡ after s.queue (stop_of gid how)
    → d.account ≡ after_halt x.state.account true → StaysUnmarked x.state d
    → 1 ≤ v.spare → events ≡ s.events ++ Ended gid how ∷ [] → room ≡ s.room - 1
    → KeepsRun (reverse events)
    (record s { events = events; queue = queue; entries = set s.entries at (record x { state = d }); room = room })
ends law s v gid how queue at x d events room seen h may queue_is account rest some is room_is =
    onto s (record s { queue = queue; entries = set s.entries at (record x { state = d }); room = room })
    (Ended gid how) events is
    (ending law (reverse s.events) s gid how queue at h.download x d room seen.keeps h.is
    (may_here s v (Ended gid how) seen may) queue_is account rest (room_left s v room seen some room_is))

-- ---- claims by their numbers

pub told_some : {A : Type 0} (P : A → Type 0) (o : Option A) (x : A) → o ≡ Some x → IfSome o P → P x
told_some P o x is h = rw is at h

pub if_none : {A : Type 0} (o : Option A) (P : Type 0) → P → IfNone o P
if_none None P p = p
if_none (Some x) P p = tt

nowhere : (s : MachineState) (v : MachineView) (id : ℕ) → Seen s v
    → ((gid : Gid) (claim : Claim) → Contains (standing_claims (own_of s.start (reverse s.events) gid)) claim
    → claim.id ≡ id → ⊥)
    → StandsNowhere v id
nowhere s v id seen none =
    subst (λ (w : MachineView). StandsNowhere w id) seen.view_is
    (λ gid. All-weaker (Contains (standing_in (view_of s) gid)) (λ (c : Claim). c.id ≢ id)
    (λ c there same. none gid c there same) (standing_in (view_of s) gid)
    (All-contains_itself (standing_in (view_of s) gid)))

pub unhomed : (s : MachineState) (v : MachineView) (id : ℕ) → Seen s v → slice_get s.homes id ≡ None
    → StandsNowhere v id
unhomed s v id seen none =
    nowhere s v id seen
    (λ gid claim there same.
    none-some gid
    (sym none
    ∙ (ap (slice_get s.homes) (sym same)
    ∙ seen.keeps.homes.own gid claim
    (standing_granted (own_of s.start (reverse s.events) gid) claim there))))

-- the download of each claim was added
pub home_added : {P : Type 0} (s : MachineState) (v : MachineView) (id : ℕ) (gid : Gid) → Seen s v
    → slice_get s.homes id ≡ Some gid → download_in v.start v.past gid ≡ None → P
home_added s v id gid seen home none =
    let some = seen.keeps.homes.added id gid home in
    let gone : download_in s.start (reverse s.events) gid ≡ None =
    subst (λ (w : MachineView). download_in w.start w.past gid ≡ None) (sym seen.view_is) none in
    absurd (let f : is_some (download_in s.start (reverse s.events) gid) ≡ false = ap is_some gone in cc)

pub unfound : Laws → AccountsTellOpening → (s : MachineState) (v : MachineView) (id : ℕ) (gid : Gid) (at : ℕ) (x : Entry)
    → Seen s v → Here s gid at x → slice_get s.homes id ≡ Some gid → standing_under x.state.account id ≡ None
    → StandsNowhere v id
unfound laws tells s v id gid at x seen h home none =
    nowhere s v id seen
    (home_none laws tells (reverse s.events) s gid at h.download x id seen.keeps h.is home none)

pub stands_here : Laws → AccountsTellOpening → (s : MachineState) (v : MachineView) (id : ℕ) (gid : Gid) (claim : Claim)
    (at : ℕ) (x : Entry) → Seen s v → Here s gid at x → slice_get s.homes id ≡ Some gid
    → standing_under x.state.account id ≡ Some claim → StandsUnder v id gid claim
stands_here laws tells s v id gid claim at x seen h home is =
    let k = home_stands laws tells (reverse s.events) s gid at h.download x claim id seen.keeps h.is home is in
    subst (λ (w : MachineView). StandsUnder w id gid claim) seen.view_is
    (record { stands = k.stands; id_is = k.id_is; one = k.one })

-- ---- the run stops, a door closes

cons_same : {x y : ℕ} {xs ys : List ℕ} → x ≡ y → xs ≡ ys → x ∷ xs ≡ y ∷ ys
cons_same p q = cc

left_more : (n : ℕ) (past : List Event) → n ≡ count_by is_left past → n + 1 ≡ count_by is_left (Left ∷ past)
left_more n past is = omega (arith, sum_by-cons (λ (e : Event). cond (is_left e) 1 0) Left past)

left_room : (doors left : ℕ) (stopped : Bool) (was room : ℕ) → kept_room doors left stopped ≤ was → room ≡ was - 1
    → 1 ≤ doors - left → kept_room doors (left + 1) stopped ≤ room
left_room doors left true was room some is more = omega arith
left_room doors left false was room some is more = omega arith

same_spares : (x y : Entry) → IsHalted x y → y.state.mark_spare ≡ x.state.mark_spare
same_spares x y h = ap (λ (e : Entry). e.state.mark_spare) h.is ∙ h.rest.mark_spare

same_map : (xs ys : List Entry) → length ys ≡ length xs
    → ((i : ℕ) (x y : Entry) → slice_get xs i ≡ Some x → slice_get ys i ≡ Some y → y.state.mark_spare ≡ x.state.mark_spare)
    → map (λ (e : Entry). e.state.mark_spare) ys ≡ map (λ (e : Entry). e.state.mark_spare) xs
same_map [] [] many same = refl
same_map [] (y ∷ ys) many same = absurd (omega arith)
same_map (x ∷ xs) [] many same = absurd (omega arith)
same_map (x ∷ xs) (y ∷ ys) many same =
    cons_same (same 0 x y refl refl)
    (same_map xs ys (omega arith) (λ i a b there here. same (suc i) a b there here))

pub halted_marks : (xs ys : List Entry) → AreHalted xs ys
    → map (λ (e : Entry). e.state.mark_spare) ys ≡ map (λ (e : Entry). e.state.mark_spare) xs
halted_marks xs ys h =
    same_map xs ys h.many
    (λ i x y there here. same_spares x y (h.each i x y (slice_get_within xs i x there) there here))

-- room is kept for the stop, until it comes
stop_room : (doors left : ℕ) (stopped : Bool) (room : ℕ) → kept_room doors left stopped ≤ room → stopped ≡ false
    → kept_room doors left true ≤ room - 1
stop_room doors left true room some un = absurd cc
stop_room doors left false room some un = omega arith

pub stops : (s : MachineState) (v : MachineView) (ys : List Entry) (events : List Event) (room : ℕ) → Seen s v
    → AreHalted s.entries ys → MayFollow v.start v.past Stopped
    → events ≡ s.events ++ Stopped ∷ [] → room ≡ s.room - 1
    → KeepsRun (reverse events) (record s { events = events; entries = ys; stopped = true; room = room })
stops s v ys events room seen h may is room_is =
    let m : list_any is_stop (reverse s.events) ≡ false = may_here s v Stopped seen may in
    let kept = stop_room s.start.doors s.left s.stopped s.room seen.keeps.room_is (seen.keeps.ends.stopped_is ∙ m) in
    onto s (record s { entries = ys; stopped = true; room = room }) Stopped events is
    (stop_step (reverse s.events) s ys room seen.keeps h m (omega arith))

-- .. and for each door
pub leaves : (s : MachineState) (v : MachineView) (events : List Event) (room : ℕ) → Seen s v
    → MayFollow v.start v.past Left → events ≡ s.events ++ Left ∷ [] → room ≡ s.room - 1
    → KeepsRun (reverse events) (record s { events = events; left = s.left + 1; room = room })
leaves s v events room seen may is room_is =
    let m : 1 ≤ doors_left s.start (reverse s.events) = may_here s v Left seen may in
    let k = seen.keeps in
    let left_is = k.ends.left_is in
    let some = k.room_is in
    onto s (record s { left = s.left + 1; room = room }) Left events is
    (record {
      legal = (k.legal, m);
      queue = k.queue;
      downloads = record {
        many = k.downloads.many;
        each = λ i d x added there. k.downloads.each i d x added there;
      };
      apart = k.apart;
      called = λ i d x added there.
          read-more subject_of_event s.events (Left ∷ []) x.called d.subject (k.called i d x added there);
      homes = record {
        many = k.homes.many;
        own = λ g claim there. k.homes.own g claim there;
        added = λ id g at. k.homes.added id g at;
      };
      ends = record { left_is = left_more s.left (reverse s.events) left_is; stopped_is = k.ends.stopped_is };
      room_is = left_room s.start.doors s.left s.stopped s.room room some room_is (subst (λ (n : ℕ). 1 ≤ s.start.doors - n) (sym left_is) m);
      log_is = logged_on s.start s.events Left s.log k.log_is;
    })

-- ---- losses

pub lose_here : Laws → AccountsTellOpening → (s : MachineState) (v : MachineView) (gid : Gid) (id mirror piece : ℕ)
    (mark : Mark) (at : ℕ) (x : Entry) → Seen s v → Here s gid at x
    → MayFollow v.start v.past (Lost gid id mirror piece mark)
    → is_opened_by x.state.account ≡ true → IsOpenAt x.state.account id piece
lose_here laws tells s v gid id mirror piece mark at x seen h may =
    let m : MayOwn s.start (reverse s.events) gid (Loses id mirror piece mark) =
    may_here s v (Lost gid id mirror piece mark) seen may in
    losing_fits laws _ _ _ x.state.account id mirror piece (known_here laws tells s v gid at x seen h) m.may

pub blame_here : Laws → AccountsTellOpening → (s : MachineState) (v : MachineView) (gid : Gid) (id mirror piece : ℕ)
    (mark : Mark) (at : ℕ) (x : Entry) → Seen s v → Here s gid at x
    → MayFollow v.start v.past (Lost gid id mirror piece mark) → MayBlame x.state mirror piece
blame_here laws tells s v gid id mirror piece mark at x seen h may =
    let m : MayOwn s.start (reverse s.events) gid (Loses id mirror piece mark) =
    may_here s v (Lost gid id mirror piece mark) seen may in
    let kept = seen.keeps.downloads.each at h.download x h.is.added h.is.there in
    let all = subst (λ (g : Gid). All (λ (c : Claim). c.mirror < mirrors_by h.download.subject)
    (granted_claims (own_of s.start (reverse s.events) g))) h.is.gid_is kept.known in
    let below = mirror_known (mirrors_by h.download.subject) (own_of s.start (reverse s.events) gid) m.may.claim all
    m.may.stands in
    let is = m.may.mirror_is in
    let many = kept.mirrors in
    record {
      mirror_is = omega arith;
      piece_is = losing_piece laws _ _ _ x.state.account id mirror piece (known_here laws tells s v gid at x seen h) m.may;
    }

-- what the download tells of the piece
pub record TellsPiece (k : Account) (id piece : ℕ) : Type 0 where
  pub opened : is_opened_by k ≡ true → (claim : Claim) (block : ℕ) → standing_under k id ≡ Some claim
      → first_still_open k claim ≡ Some block → piece ≡ piece_of k.progress.piece_len block
  pub unopened : is_opened_by k ≡ false → piece ≡ 0

piece_by : Laws → (total len : ℕ) (own : List OwnEvent) (k : Account) (id mirror piece told : ℕ)
    → IsKnown total len own k → MayBeLost len own id mirror piece → TellsPiece k id told → (t : Bool)
    → is_opened_by k ≡ t → told ≡ piece
piece_by laws total len own k id mirror piece told kn may tell true opened =
    let at = losing_fits laws total len own k id mirror piece kn may opened in
    tell.opened opened at.claim at.block at.stands at.first ∙ at.piece_is
piece_by laws total len own k id mirror piece told kn may tell false un =
    tell.unopened un ∙ probe_piece laws total len own id mirror piece kn.legal may (sym kn.opened ∙ un)

pub piece_told : Laws → AccountsTellOpening → (s : MachineState) (v : MachineView) (gid : Gid)
    (id mirror piece told : ℕ) (mark : Mark) (at : ℕ) (x : Entry) → Seen s v → Here s gid at x
    → MayFollow v.start v.past (Lost gid id mirror piece mark) → TellsPiece x.state.account id told
    → MayFollow v.start v.past (Lost gid id mirror told mark)
piece_told laws tells s v gid id mirror piece told mark at x seen h may tell =
    let m : MayOwn s.start (reverse s.events) gid (Loses id mirror piece mark) =
    may_here s v (Lost gid id mirror piece mark) seen may in
    subst (λ (p : ℕ). MayFollow v.start v.past (Lost gid id mirror p mark))
    (sym (piece_by laws _ _ _ x.state.account id mirror piece told (known_here laws tells s v gid at x seen h) m.may tell
    (is_opened_by x.state.account) refl))
    may

pub loses : MarksFollow → (s : MachineState) (v : MachineView) (gid : Gid) (id mirror piece : ℕ) (mark : Mark)
    (at : ℕ) (x : Entry) (d : DownloadView) (events : List Event) (room : ℕ) → Seen s v → Here s gid at x
    → MayFollow v.start v.past (Lost gid id mirror piece mark)
    → d.account ≡ after_loss x.state.account id piece
    → d.marks ≡ marks_after x.state.max_tries x.state.marks (Loses id mirror piece mark) → StaysSetUp x.state d
    → 1 ≤ v.spare → events ≡ s.events ++ Lost gid id mirror piece mark ∷ [] → room ≡ s.room - 1
    → KeepsRun (reverse events)
    (record s { events = events; entries = set s.entries at (record x { state = d }); room = room })
loses law s v gid id mirror piece mark at x d events room seen h may account marks rest some is room_is =
    onto s (record s { entries = set s.entries at (record x { state = d }); room = room })
    (Lost gid id mirror piece mark) events is
    (losing law (reverse s.events) s gid id mirror piece mark at h.download x d room seen.keeps h.is
    (may_here s v (Lost gid id mirror piece mark) seen may) account marks rest (room_left s v room seen some room_is))

-- the same entry is read twice
pub told_piece : (xs : List Entry) (at : ℕ) (x y : Entry) (id piece : ℕ) → x ≡ get_or xs at x → y ≡ get_or xs at y
    → at < length xs → TellsPiece x.state.account id piece → TellsPiece y.state.account id piece
told_piece xs at x y id piece x_is y_is inside tell =
    subst (λ (z : Entry). TellsPiece z.state.account id piece)
    (x_is ∙ (get_or_default xs at x y inside ∙ sym y_is)) tell

-- ---- reads

pub somewhere : (v : MachineView) (id : ℕ) (gid : Gid) (claim : Claim) → StandsUnder v id gid claim
    → StandsSomewhere v id
somewhere v id gid claim stands = (gid, claim, stands)

-- of one claim under a number
same_claim : (v : MachineView) (id : ℕ) (gid other : Gid) (claim twin : Claim) (block : Option ℕ)
    → StandsUnder v id gid claim → StandsUnder v id other twin
    → block ≡ first_open_since (own_of v.start v.past gid) claim
    → block ≡ first_open_since (own_of v.start v.past other) twin
same_claim v id gid other claim twin block stands there is =
    let one = stands.one other twin there.stands there.id_is in
    subst (λ (g : Gid). block ≡ first_open_since (own_of v.start v.past g) twin) (sym one.0)
    (subst (λ (c : Claim). block ≡ first_open_since (own_of v.start v.past gid) c) (sym one.1) is)

pub not_nowhere : {P : Type 0} (v : MachineView) (id : ℕ) (gid : Gid) (claim : Claim) → StandsUnder v id gid claim
    → StandsNowhere v id → P
not_nowhere v id gid claim stands none =
    absurd (All-contains (λ (c : Claim). c.id ≢ id) (standing_in v gid) claim (none gid) stands.stands stands.id_is)

pub no_first : (v : MachineView) (id : ℕ) → StandsNowhere v id → IsFirstOpen v id None
no_first v id none =
    record { stands = λ gid claim there. not_nowhere v id gid claim there none; none = λ n. refl }

pub first_here : Laws → AccountsTellOpening → (s : MachineState) (v : MachineView) (id : ℕ) (gid : Gid) (claim : Claim)
    (at : ℕ) (x : Entry) (block : Option ℕ) → Seen s v → Here s gid at x → StandsUnder v id gid claim
    → block ≡ option_and_then (first_still_open x.state.account) (standing_under x.state.account id)
    → IsFirstOpen v id block
first_here laws tells s v id gid claim at x block seen h stands is =
    let kn = known_here laws tells s v gid at x seen h in
    let own = own_of s.start (reverse s.events) gid in
    let there : Contains (standing_claims own) claim =
    subst (λ (w : MachineView). Contains (standing_in w gid) claim) (sym seen.view_is) stands.stands in
    let under = under_number laws _ _ own x.state.account id claim kn there stands.id_is in
    let first : block ≡ first_open_since own claim =
    is ∙ (ap (option_and_then (first_still_open x.state.account)) under ∙ first_by _ _ own x.state.account claim kn there) in
    let told : block ≡ first_open_since (own_of v.start v.past gid) claim =
    subst (λ (w : MachineView). block ≡ first_open_since (own_of w.start w.past gid) claim) seen.view_is first in
    record {
      stands = λ other twin here. same_claim v id gid other claim twin block stands here told;
      none = λ n. not_nowhere v id gid claim stands n;
    }

pub account_here : (s : MachineState) (v : MachineView) (gid : Gid) (at : ℕ) (x : Entry) → Seen s v → Here s gid at x
    → x.state.account ≡ account_of_gid v gid
account_here s v gid at x seen h =
    let kept = seen.keeps.downloads.each at h.download x h.is.added h.is.there in
    subst (λ (w : MachineView). x.state.account ≡ account_of_gid w gid) seen.view_is
    (subst (λ (g : Gid). x.state.account ≡ account_of_gid (view_of s) g) h.is.gid_is kept.account)

pub opened_here : Laws → AccountsTellOpening → (s : MachineState) (v : MachineView) (gid : Gid) (at : ℕ) (x : Entry)
    → Seen s v → Here s gid at x → is_opened_by x.state.account ≡ is_opened (own_of v.start v.past gid)
opened_here laws tells s v gid at x seen h =
    subst (λ (w : MachineView). is_opened_by x.state.account ≡ is_opened (own_of w.start w.past gid)) seen.view_is
    (known_here laws tells s v gid at x seen h).opened

pub unadded : {P : Type 0} (v : MachineView) (gid : Gid) → download_in v.start v.past gid ≡ None
    → is_added_in v gid ≡ true → P
unadded v gid none some = absurd (let f : is_added_in v gid ≡ false = ap is_some none in cc)

pub doors_here : (s : MachineState) (v : MachineView) → Seen s v → s.start.doors - s.left ≡ doors_left v.start v.past
doors_here s v seen =
    subst (λ (w : MachineView). s.start.doors - s.left ≡ doors_left w.start w.past) seen.view_is
    (ap (λ (n : ℕ). s.start.doors - n) seen.keeps.ends.left_is)

pub stands_added : {P : Type 0} (s : MachineState) (v : MachineView) (id : ℕ) (gid : Gid) (claim : Claim) → Seen s v
    → StandsUnder v id gid claim → download_in v.start v.past gid ≡ None → P
stands_added s v id gid claim seen stands none =
    let there : Contains (standing_claims (own_of s.start (reverse s.events) gid)) claim =
    subst (λ (w : MachineView). Contains (standing_in w gid) claim) (sym seen.view_is) stands.stands in
    home_added s v claim.id gid seen
    (seen.keeps.homes.own gid claim (standing_granted (own_of s.start (reverse s.events) gid) claim there)) none

pub some_opened : {A : Type 0} (o : Option A) (t opened : Bool) → IsNone o ↔ (t ≡ false) → t ≡ opened
    → IfSome o (λ _. opened ≡ true)
some_opened None t opened none is = tt
some_opened (Some x) true opened none is = sym is
some_opened (Some x) false opened none is = absurd (let n : IsNone (Some x) = none.1 refl in cc)

pub none_opened : {A : Type 0} (o : Option A) (t opened : Bool) → IsNone o ↔ (t ≡ false) → t ≡ opened
    → IfNone o (opened ≡ false)
none_opened None t opened none is = sym is ∙ none.0 refl
none_opened (Some x) t opened none is = tt
