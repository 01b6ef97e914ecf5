-- No two downloads of a run have one gid, and they are few.
use Rattle.std.proofs.Common.{◌≡◌, ◌≤◌, ◌<◌, ◌==◌, ◌⊎◌, inl, inr, ⊎_elim, ℕ, zero, suc, Bool, true, false, cond, Option, Some, None, List, [], ◌∷◌, ◌++◌, length, map, slice_get, refl, sym, ap, ◌∙◌, arith}
use Rattle.std.specs.Prelude.{box_value, nat_le, not}
use Rattle.std.specs.List.{list_any}
use Rattle.std.proofs.lemmas.Bool.{eq-eqb, leb-false}
use Rattle.std.proofs.lemmas.List.{length-append, length-map}
use Rattle.std.proofs.lemmas.Option.{same_Some}
use Rattle.dl_kinds.specs.declared.gid.Gid.{Gid}
use Rattle.dl_kinds.specs.declared.gid_key.GidKey.{GidKey}
use Rattle.dl_queue.specs.Calls.{QueueCall, Add, Remove, Pause, Unpause, ChangePosition, Forget, refusal, was_added}
use Rattle.dl_queue.specs.declared.kinds.Added.{Added}
use Rattle.dl_queue.specs.declared.kinds.QueueErr.{QueueErr}
use Rattle.dl_queue.specs.declared.kinds.QueueErr.TheVariants.{SameGid, Full}
use Rattle.dl_queue.specs.declared.kinds.TheConstants.{MAX_DOWNLOADS}
use Rattle.machine_core.specs.MachineParts.{HaveOwnGids, added_as}
use Rattle.machine_core.specs.Replays.{Replay, after_call, keyed_gid, next_gid, replay_of, with_download, with_keyed, with_settings}
use Rattle.machine_core.specs.Starts.{Download, RunStart, Subject, Listed, Unlisted}
use Rattle.machine_core.specs.declared.calls.Call.{Call}
use Rattle.machine_core.specs.declared.calls.Call.TheVariants as call
use Rattle.machine_core.specs.declared.events.Event.{Event}
use Rattle.machine_core.specs.declared.events.Event.TheVariants.{Called, Opened, Sized, Claimed, Landed, Settled, Cleared, Lost, Checked, Saved, Ended, Left, Stopped}
use Rattle.option_set.specs.Values.{OptionValues, number_value}
use Rattle.option_set.specs.declared.kinds.Num.TheVariants as num
use Rattle.option_set.specs.declared.setting.Assigned.{Assigned}
use Rattle.engine_turns.proofs.Going.{added_are, any_added, is_added}

-- ---- one more

last_cases : (ds : List Download) (d : Download) (i : ℕ) (y : Download) → slice_get (ds ++ d ∷ []) i ≡ Some y
    → (slice_get ds i ≡ Some y) ⊎ ((i ≡ length ds) × (y ≡ d))
last_cases [] d zero y is = inr (refl, sym (same_Some d y is))
last_cases [] d (suc i) y is = absurd (let s = is in cc)
last_cases (z ∷ ds) d zero y is = inl is
last_cases (z ∷ ds) d (suc i) y is =
    ⊎_elim (λ (there : slice_get ds i ≡ Some y). inl there)
    (λ (last : (i ≡ length ds) × (y ≡ d)). inr (ap suc last.0, last.1)) (last_cases ds d i y is)

-- none of those that were added has the gid
abbrev IsNew : List Download → Gid → Type 0
IsNew ds gid = (i : ℕ) (d : Download) → slice_get ds i ≡ Some d → d.gid ≡ gid → ⊥

apart_more : (ds : List Download) (d : Download) → HaveOwnGids ds → IsNew ds d.gid → HaveOwnGids (ds ++ d ∷ [])
apart_more ds d apart new i j one other first second same =
    ⊎_elim
    (λ (a : slice_get ds i ≡ Some one).
    ⊎_elim (λ (b : slice_get ds j ≡ Some other). apart i j one other a b same)
    (λ (b : (j ≡ length ds) × (other ≡ d)).
    absurd (new i one a (same ∙ ap (λ (x : Download). x.gid) b.1)))
    (last_cases ds d j other second))
    (λ (a : (i ≡ length ds) × (one ≡ d)).
    ⊎_elim
    (λ (b : slice_get ds j ≡ Some other).
    absurd (new j other b (sym same ∙ ap (λ (x : Download). x.gid) a.1)))
    (λ (b : (j ≡ length ds) × (other ≡ d)). a.0 ∙ sym b.0)
    (last_cases ds d j other second))
    (last_cases ds d i one first)

-- ---- a download that the queue takes

found_on : (gid : Gid) (x : Download) (ds : List Download) (i : ℕ) (d : Download) (b : Bool) → (x.gid.0 == gid.0) ≡ b
    → list_any (is_added gid) (map added_as ds) ≡ true → list_any (is_added gid) (map added_as (x ∷ ds)) ≡ true
found_on gid x ds i d true here rest = rw here refl
found_on gid x ds i d false here rest = rw here rest

there_any : (gid : Gid) (ds : List Download) (i : ℕ) (d : Download) → slice_get ds i ≡ Some d → d.gid ≡ gid
    → list_any (is_added gid) (map added_as ds) ≡ true
there_any gid [] i d there is = absurd (let s = there in cc)
there_any gid (x ∷ ds) zero d there is =
    let same : x ≡ d = same_Some x d there in
    let here : (x.gid.0 == gid.0) ≡ true =
    eq-eqb x.gid.0 gid.0 (ap (λ (y : Download). y.gid.0) same ∙ ap (λ (g : Gid). g.0) is) in
    rw here refl
there_any gid (x ∷ ds) (suc i) d there is =
    found_on gid x ds i d (x.gid.0 == gid.0) refl (there_any gid ds i d there is)

new_where : (added : Bool) (o : Option QueueErr) → cond added (Some SameGid) o ≡ None → added ≡ false
new_where true o is = absurd cc
new_where false o is = refl

few_where : (added full : Bool) (n : ℕ) → cond added (Some SameGid) (cond full (Some (Full n)) None) ≡ None → full ≡ false
few_where true full n is = absurd cc
few_where false true n is = absurd cc
few_where false false n is = refl

-- ---- every history

pub record AreFewApart (ds : List Download) : Type 0 where
  pub apart : HaveOwnGids ds
  pub few : length ds ≤ MAX_DOWNLOADS

keyed_same : (replay : Replay) (key : GidKey) (c : Gid → QueueCall) → AreFewApart replay.downloads
    → AreFewApart (with_keyed replay key c).downloads
keyed_same replay key c are = by (keyed_gid replay.queue key) refl
  where
    by : (k : Option Gid) → keyed_gid replay.queue key ≡ k → AreFewApart (with_keyed replay key c).downloads
    by None is = rw is are
    by (Some gid) is = rw is are

download_apart : (start : RunStart) (replay : Replay) (subject : Subject) (settings : List Assigned)
    (position : Option ℕ) → replay.queue.added ≡ map added_as replay.downloads → AreFewApart replay.downloads
    → AreFewApart (with_download start replay subject settings position).downloads
download_apart start replay subject settings position kept are = by (refusal replay.queue new) refl
  where
    options : OptionValues
    options = with_settings replay.global settings

    gid : Gid
    gid = next_gid start replay.downloads options

    new : QueueCall
    new = Add gid options (not (number_value options num.Pause == 0)) position

    added : Download
    added = record { gid = gid; subject = subject; options = options }

    unknown : refusal replay.queue new ≡ None → IsNew replay.downloads gid
    unknown none i d there is =
        let un : was_added replay.queue.added gid ≡ false = new_where (was_added replay.queue.added gid) _ none in
        let any : list_any (is_added gid) (map added_as replay.downloads) ≡ true =
        there_any gid replay.downloads i d there is in
        let yes : was_added replay.queue.added gid ≡ true =
        any_added gid replay.queue.added ∙ (ap (list_any (is_added gid)) kept ∙ any) in
        let f : true ≡ false = sym yes ∙ un in
        absurd cc

    below : refusal replay.queue new ≡ None → length replay.downloads < MAX_DOWNLOADS
    below none =
        let off = few_where (was_added replay.queue.added gid) (nat_le MAX_DOWNLOADS (length replay.queue.added))
        (length replay.queue.added) none in
        let less = leb-false MAX_DOWNLOADS (length replay.queue.added) off in
        let many : length replay.queue.added ≡ length replay.downloads =
        ap (λ (xs : List Added). length xs) kept ∙ length-map replay.downloads added_as in
        omega arith

    by : (r : Option QueueErr) → refusal replay.queue new ≡ r
        → AreFewApart (with_download start replay subject settings position).downloads
    by None is =
        let many = length-append replay.downloads (added ∷ []) in
        let less = below is in
        let is_few : length (replay.downloads ++ added ∷ []) ≤ MAX_DOWNLOADS = omega arith in
        rw is (record { apart = apart_more replay.downloads added are.apart (unknown is); few = is_few })
    by (Some e) is = rw is are

call_apart : (start : RunStart) (replay : Replay) (asked : Call)
    → replay.queue.added ≡ map added_as replay.downloads → AreFewApart replay.downloads
    → AreFewApart (after_call start replay asked).downloads
call_apart start replay (call.AddUri uris options position) kept are =
    download_apart start replay (Unlisted uris) options position kept are
call_apart start replay (call.AddTorrent meta uris options position) kept are =
    download_apart start replay (Listed (box_value meta) uris) options position kept are
call_apart start replay (call.Remove key) kept are = keyed_same replay key Remove are
call_apart start replay (call.Pause key) kept are = keyed_same replay key Pause are
call_apart start replay (call.Unpause key) kept are = keyed_same replay key Unpause are
call_apart start replay call.PauseAll kept are = are
call_apart start replay call.UnpauseAll kept are = are
call_apart start replay (call.ChangeOption key options) kept are = are
call_apart start replay (call.ChangeGlobalOption options) kept are = are
call_apart start replay (call.TellStatus key) kept are = are
call_apart start replay call.TellActive kept are = are
call_apart start replay (call.TellWaiting offset num) kept are = are
call_apart start replay (call.TellStopped offset num) kept are = are
call_apart start replay (call.GetUris key) kept are = are
call_apart start replay (call.GetFiles key) kept are = are
call_apart start replay (call.GetOption key) kept are = are
call_apart start replay call.GetGlobalOption kept are = are
call_apart start replay call.GetGlobalStat kept are = are
call_apart start replay (call.ChangePosition key position how) kept are =
    keyed_same replay key (λ gid. ChangePosition gid position how) are
call_apart start replay call.Purge kept are = are
call_apart start replay (call.RemoveResult key) kept are = keyed_same replay key Forget are
call_apart start replay call.GetVersion kept are = are
call_apart start replay call.Shutdown kept are = are

pub few_apart : (start : RunStart) (past : List Event) → AreFewApart (replay_of start past).downloads
few_apart start [] = record { apart = λ i j one other first second same. absurd (let s = first in cc); few = omega arith }
few_apart start (Called session asked now ∷ past) =
    call_apart start (replay_of start past) asked (added_are start past) (few_apart start past)
few_apart start (Opened gid verified blocks now ∷ past) = few_apart start past
few_apart start (Sized gid id total ∷ past) = few_apart start past
few_apart start (Claimed gid claim ∷ past) = few_apart start past
few_apart start (Landed gid id mirror run now ∷ past) = few_apart start past
few_apart start (Settled gid piece right giver ∷ past) = few_apart start past
few_apart start (Cleared gid piece ∷ past) = few_apart start past
few_apart start (Lost gid id mirror piece mark ∷ past) = few_apart start past
few_apart start (Checked gid right ∷ past) = few_apart start past
few_apart start (Saved gid now ∷ past) = few_apart start past
few_apart start (Ended gid how ∷ past) = few_apart start past
few_apart start (Left ∷ past) = few_apart start past
few_apart start (Stopped ∷ past) = few_apart start past
