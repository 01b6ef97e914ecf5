-- Each download has a gid of its own.
use Rattle.std.proofs.Common.{◌≡◌, ◌⊎◌, inl, inr, ℕ, Bool, true, false, Option, Some, None, List, [], ◌∷◌, ◌++◌, map, refl, sym, ap, ◌∙◌, subst}
use Rattle.std.specs.Prelude.{◌==◌, All, box_value, not}
use Rattle.std.specs.List.{list_any}
use Rattle.std.specs.Option.{is_some}
use Rattle.std.proofs.lemmas.Bool.{eq-eqb, ne_eqb}
use Rattle.std.proofs.lemmas.List.{append-nil, append_assoc}
use Rattle.std.proofs.lemmas.List.Elements.{All-cons, All-nil, All-weaker}
use Rattle.dl_kinds.specs.declared.gid.Gid.{Gid}
use Rattle.dl_queue.specs.Calls.{QueueCall, Add, ChangePosition, Forget, Pause, Remove, Unpause, refusal, was_added}
use Rattle.dl_queue.specs.declared.kinds.QueueErr.{QueueErr}
use Rattle.machine_core.specs.MachineParts.{added_as}
use Rattle.machine_core.specs.Replays.{Replay, after_call, download_of, is_download, next_gid, replay_of, with_call_of, with_download, with_settings, keyed_gid}
use Rattle.machine_core.specs.Starts.{Download, RunStart, Subject, Listed, Unlisted}
use Rattle.machine_core.specs.declared.calls.Call.{Call}
use Rattle.machine_core.specs.declared.calls.Call.TheVariants as call
use Rattle.machine_core.specs.declared.events.Event.{Event}
use Rattle.machine_core.specs.declared.events.Event.TheVariants.{Called, Opened, Sized, Claimed, Landed, Settled, Cleared, Lost, Checked, Saved, Ended, Left, Stopped}
use Rattle.option_set.specs.Values.{OptionValues, number_value}
use Rattle.option_set.specs.declared.kinds.Num.TheVariants as num
use Rattle.option_set.specs.declared.setting.Assigned.{Assigned}
use Rattle.engine_turns.specs.Levels.{downloads_of}
use Rattle.engine_turns.specs.Told.{history_after}
use Rattle.engine_turns.proofs.Going.{added_are, any_added, any_known, is_added}

-- one download at most is added, under a new gid
abbrev pub AddsNew : List Download → List Download → Type 0
AddsNew old new = (new ≡ old) ⊎ ((d : Download) × (new ≡ old ++ d ∷ []) × (download_of old d.gid ≡ None))

none_known : (o : Option Download) (gid : Gid) (ds : List Download) → download_of ds gid ≡ o
    → list_any (is_added gid) (map added_as ds) ≡ false → o ≡ None
none_known None gid ds is none = refl
none_known (Some d) gid ds is none = absurd (let some : true ≡ false = sym (any_known gid ds d is) ∙ none in cc)

-- what isn't refused has a new gid
not_refused : (r : Replay) (gid : Gid) (options : OptionValues) (paused : Bool) (position : Option ℕ)
    → r.queue.added ≡ map added_as r.downloads → refusal r.queue (Add gid options paused position) ≡ None
    → download_of r.downloads gid ≡ None
not_refused r gid options paused position are none = by (was_added r.queue.added gid) refl
  where
    by : (b : Bool) → was_added r.queue.added gid ≡ b → download_of r.downloads gid ≡ None
    by true is = absurd (let refused = (rw is at none) in cc)
    by false is = none_known (download_of r.downloads gid) gid r.downloads refl
        (sym (ap (λ xs. list_any (is_added gid) xs) are) ∙ (sym (any_added gid r.queue.added) ∙ is))

download_adds : (start : RunStart) (r : Replay) (subject : Subject) (settings : List Assigned) (position : Option ℕ)
    → r.queue.added ≡ map added_as r.downloads
    → AddsNew r.downloads (with_download start r subject settings position).downloads
download_adds start r subject settings position are = by (refusal r.queue new) refl
  where
    options : OptionValues
    options = with_settings r.global settings

    gid : Gid
    gid = next_gid start r.downloads options

    new : QueueCall
    new = Add gid options (not (number_value options num.Pause == 0)) position

    by : (o : Option QueueErr) → refusal r.queue new ≡ o
        → AddsNew r.downloads (with_download start r subject settings position).downloads
    by None is = rw is (inr (
      record { gid = gid; subject = subject; options = options },
      refl,
      not_refused r gid options (not (number_value options num.Pause == 0)) position are is,
    ))
    by (Some e) is = rw is (inl refl)

keyed_adds : (r : Replay) (queue_call : Gid → QueueCall) (o : Option Gid)
    → AddsNew r.downloads (with_call_of r queue_call o).downloads
keyed_adds r queue_call None = inl refl
keyed_adds r queue_call (Some gid) = inl refl

call_adds_new : (start : RunStart) (r : Replay) (asked : Call) → r.queue.added ≡ map added_as r.downloads
    → AddsNew r.downloads (after_call start r asked).downloads
call_adds_new start r (call.AddUri uris options position) are = download_adds start r (Unlisted uris) options position are
call_adds_new start r (call.AddTorrent meta uris options position) are =
    download_adds start r (Listed (box_value meta) uris) options position are
call_adds_new start r (call.Remove key) are = keyed_adds r Remove (keyed_gid r.queue key)
call_adds_new start r (call.Pause key) are = keyed_adds r Pause (keyed_gid r.queue key)
call_adds_new start r (call.Unpause key) are = keyed_adds r Unpause (keyed_gid r.queue key)
call_adds_new start r (call.RemoveResult key) are = keyed_adds r Forget (keyed_gid r.queue key)
call_adds_new start r (call.ChangePosition key position how) are =
    keyed_adds r (λ gid. ChangePosition gid position how) (keyed_gid r.queue key)
call_adds_new start r call.PauseAll are = inl refl
call_adds_new start r call.UnpauseAll are = inl refl
call_adds_new start r (call.ChangeGlobalOption options) are = inl refl
call_adds_new start r call.Purge are = inl refl
call_adds_new start r call.Shutdown are = inl refl
call_adds_new start r other are = inl refl

pub event_adds : (start : RunStart) (past : List Event) (e : Event)
    → AddsNew (downloads_of start past) (downloads_of start (e ∷ past))
event_adds start past (Called session asked now) =
    call_adds_new start (replay_of start past) asked (added_are start past)
event_adds start past (Opened gid verified blocks now) = inl refl
event_adds start past (Sized gid id total) = inl refl
event_adds start past (Claimed gid claim) = inl refl
event_adds start past (Landed gid id mirror run now) = inl refl
event_adds start past (Settled gid piece right giver) = inl refl
event_adds start past (Cleared gid piece) = inl refl
event_adds start past (Lost gid id mirror piece mark) = inl refl
event_adds start past (Checked gid right) = inl refl
event_adds start past (Saved gid now) = inl refl
event_adds start past (Ended gid how) = inl refl
event_adds start past Left = inl refl
event_adds start past Stopped = inl refl

-- ---- all of them

-- none has the gid of one behind it
abbrev pub AreApart : List Download → Type 0
AreApart [] = Unit {0}
AreApart (d ∷ ds) = (download_of ds d.gid ≡ None) × AreApart ds

found_more : (gid : Gid) (old : List Download) (d x : Download) → download_of old gid ≡ Some x
    → download_of (old ++ d ∷ []) gid ≡ Some x
found_more gid [] d x is = absurd cc
found_more gid (y ∷ old) d x is = by (is_download gid y) refl (found_more gid old d x)
  where
    by : (b : Bool) → is_download gid y ≡ b
        → (download_of old gid ≡ Some x → download_of (old ++ d ∷ []) gid ≡ Some x)
        → download_of (y ∷ old ++ d ∷ []) gid ≡ Some x
    by true here rest = rw here (rw here at is)
    by false here rest = rw here (rest (rw here at is))

-- what isn't found among more wasn't among fewer
none_before : (gid : Gid) (old : List Download) (d : Download) → download_of (old ++ d ∷ []) gid ≡ None
    → download_of old gid ≡ None
none_before gid old d none = by (download_of old gid) refl
  where
    by : (o : Option Download) → download_of old gid ≡ o → download_of old gid ≡ None
    by None is = is
    by (Some x) is = absurd (let some : Some x ≡ None = sym (found_more gid old d x is) ∙ none in cc)

none_behind_first : (gid : Gid) (x : Download) (ds : List Download) → download_of (x ∷ ds) gid ≡ None
    → (is_download gid x ≡ false) × (download_of ds gid ≡ None)
none_behind_first gid x ds none = by (is_download gid x) refl
  where
    by : (b : Bool) → is_download gid x ≡ b → (is_download gid x ≡ false) × (download_of ds gid ≡ None)
    by true is = absurd (let some : Some x ≡ None = (rw is at none) in cc)
    by false is = (is, (rw is at none))

turned : (a b : ℕ) → (a == b) ≡ false → (b == a) ≡ false
turned a b is = ne_eqb b a (λ same. let yes : true ≡ false = sym (eq-eqb a b (sym same)) ∙ is in absurd cc)

found_last : (gid : Gid) (ds : List Download) (d : Download) → is_download gid d ≡ false → download_of ds gid ≡ None
    → download_of (ds ++ d ∷ []) gid ≡ None
found_last gid [] d other none = rw other refl
found_last gid (x ∷ ds) d other none =
    let both = none_behind_first gid x ds none in
    let first = both.0 in
    rw first (found_last gid ds d other both.1)

apart_more : (ds : List Download) (d : Download) → AreApart ds → download_of ds d.gid ≡ None → AreApart (ds ++ d ∷ [])
apart_more [] d apart none = (refl, tt)
apart_more (x ∷ ds) d apart none =
    let both = none_behind_first d.gid x ds none in (
      found_last x.gid ds d (turned x.gid.0 d.gid.0 both.0) apart.0,
      apart_more ds d apart.1 both.1,
    )

apart_then : (old new : List Download) → AddsNew old new → AreApart old → AreApart new
apart_then old new (inl same) apart = subst AreApart (sym same) apart
apart_then old new (inr more) apart = subst AreApart (sym more.1) (apart_more old more.0 apart more.2)

pub downloads_apart : (start : RunStart) (past : List Event) → AreApart (downloads_of start past)
downloads_apart start [] = tt
downloads_apart start (e ∷ past) =
    apart_then (downloads_of start past) (downloads_of start (e ∷ past)) (event_adds start past e)
    (downloads_apart start past)

-- ---- over the events of a turn

-- those that were there, and new ones behind them
pub record GrowsByNew (old new : List Download) : Type 0 where
  pub more : List Download
  pub is : new ≡ old ++ more
  pub fresh : All (λ d. download_of old d.gid ≡ None) more

fresh_before : (old : List Download) (d : Download) (more : List Download)
    → All (λ x. download_of (old ++ d ∷ []) x.gid ≡ None) more → All (λ x. download_of old x.gid ≡ None) more
fresh_before old d more all =
    All-weaker (λ (x : Download). download_of (old ++ d ∷ []) x.gid ≡ None) (λ x. download_of old x.gid ≡ None)
    (λ x none. none_before x.gid old d none) more all

grows_on : (old mid new : List Download) → AddsNew old mid → GrowsByNew mid new → GrowsByNew old new
grows_on old mid new (inl same) grows = subst (λ ds. GrowsByNew ds new) same grows
grows_on old mid new (inr adds) grows =
    let fresh = subst (λ (ds : List Download). All (λ x. download_of ds x.gid ≡ None) grows.more) adds.1 grows.fresh in
    record {
      more = adds.0 ∷ grows.more;
      is = grows.is ∙ (ap (λ (ds : List Download). ds ++ grows.more) adds.1 ∙ append_assoc old (adds.0 ∷ []) grows.more);
      fresh = All-cons (λ (x : Download). download_of old x.gid ≡ None) adds.0 grows.more adds.2
          (fresh_before old adds.0 grows.more fresh);
    }

pub downloads_grow : (start : RunStart) (past events : List Event)
    → GrowsByNew (downloads_of start past) (downloads_of start (history_after past events))
downloads_grow start past [] =
    record {
      more = [];
      is = sym (append-nil (downloads_of start past));
      fresh = All-nil (λ (x : Download). download_of (downloads_of start past) x.gid ≡ None);
    }
downloads_grow start past (e ∷ events) =
    grows_on (downloads_of start past) (downloads_of start (e ∷ past))
    (downloads_of start (history_after (e ∷ past) events)) (event_adds start past e)
    (downloads_grow start (e ∷ past) events)

-- each is found by its gid
first_found : (gid : Gid) (front : List Download) (d : Download) (ds : List Download) → is_download gid d ≡ true
    → is_some (download_of (front ++ d ∷ ds) gid) ≡ true
first_found gid [] d ds is = rw is refl
first_found gid (x ∷ front) d ds is = by (is_download gid x) refl (first_found gid front d ds is)
  where
    by : (b : Bool) → is_download gid x ≡ b → is_some (download_of (front ++ d ∷ ds) gid) ≡ true
        → is_some (download_of (x ∷ front ++ d ∷ ds) gid) ≡ true
    by true here rest = rw here refl
    by false here rest = rw here rest

found_behind : (front ds : List Download) → All (λ d. is_some (download_of (front ++ ds) d.gid) ≡ true) ds
found_behind front [] = All-nil (λ (d : Download). is_some (download_of (front ++ []) d.gid) ≡ true)
found_behind front (x ∷ ds) =
    All-cons (λ (d : Download). is_some (download_of (front ++ x ∷ ds) d.gid) ≡ true) x ds
    (first_found x.gid front x ds (eq-eqb x.gid.0 x.gid.0 refl))
    (subst (λ (all : List Download). All (λ d. is_some (download_of all d.gid) ≡ true) ds)
    (append_assoc front (x ∷ []) ds) (found_behind (front ++ x ∷ []) ds))

pub each_found : (ds : List Download) → All (λ d. is_some (download_of ds d.gid) ≡ true) ds
each_found ds = found_behind [] ds
