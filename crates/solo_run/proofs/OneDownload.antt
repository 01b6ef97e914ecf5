-- An orderly run has one download, and its events are that one's.
use Rattle.std.proofs.Common.{◌≡◌, ◌⊎◌, ℕ, suc, ◌+◌, ◌≤◌, Bool, true, false, cond, Option, Some, None, List, [], ◌∷◌, ◌++◌, refl, sym, ap, ◌∙◌, subst, inl, inr, arith}
use Rattle.std.specs.Prelude.{◌==◌, not}
use Rattle.std.proofs.lemmas.Bool.{eq-eqb}
use Rattle.dl_kinds.specs.declared.gid.Gid.{Gid}
use Rattle.dl_kinds.specs.declared.runs.Moment.{Moment}
use Rattle.dl_queue.specs.Calls.{Add}
use Rattle.dl_history.specs.OwnEvents.{Checks, Clears, Grants, Halts, Lands, Loses, Opens, OwnEvent, Saves, Settles, Sizes}
use Rattle.machine_core.proofs.Parts.{gid_is}
use Rattle.machine_core.specs.OwnParts.{own_of, with_own}
use Rattle.machine_core.specs.Replays.{Replay, download_of, is_refused, is_same_gid, next_gid, replay_of, replay_start, with_call, with_download, with_settings}
use Rattle.machine_core.specs.RunLegal.{DownloadsStay, IsLegal, download_in}
use Rattle.machine_core.specs.Starts.{Download, RunStart, Subject}
use Rattle.machine_core.specs.declared.calls.Call.{Call}
use Rattle.machine_core.specs.declared.calls.Call.TheVariants.{AddTorrent, AddUri}
use Rattle.machine_core.specs.declared.events.Event.{Event}
use Rattle.machine_core.specs.declared.events.Event.TheVariants.{Called, Checked, Claimed, Cleared, Ended, Landed, Left, Lost, Opened, Saved, Settled, Sized, Stopped}
use Rattle.option_set.specs.Values.{number_value}
use Rattle.option_set.specs.declared.kinds.Num.TheVariants as num
use Rattle.option_set.specs.declared.setting.Assigned.{Assigned}
use Rattle.work_bounds.proofs.Tallies.{tally}
use Rattle.work_bounds.specs.WorkLimits.{is_check}
use Rattle.solo_run.proofs.RunOrder.{called_own, either_way}
use Rattle.solo_run.proofs.Steps.{Adds, OrderlyRun}

-- ---- it is one

abbrev pub AreFew : List Download → Type 0
AreFew downloads = (downloads ≡ []) ⊎ ((d : Download) × (downloads ≡ d ∷ []))

either_list : (t : Bool) (none some : Replay) → none.downloads ≡ [] → AreFew some.downloads
    → AreFew (cond t none some).downloads
either_list true none some is few = inl is
either_list false none some is few = few

added_few : (start : RunStart) (subject : Subject) (options : List Assigned) (position : Option ℕ)
    → AreFew (with_download start (replay_start start) subject options position).downloads
added_few start subject options position =
    let chosen = with_settings start.global options in
    let d : Download = record { gid = next_gid start [] chosen; subject = subject; options = chosen } in
    let queue_call = Add d.gid chosen (not (number_value chosen num.Pause == 0)) position in
    either_list (is_refused (replay_start start).queue queue_call) (replay_start start)
    (record (with_call (replay_start start) queue_call) { downloads = [] ++ d ∷ [] }) refl (inr (d, refl))

called_few : (start : RunStart) (before : List Event) (session : ℕ) (call : Call) (now : Moment) → before ≡ []
    → Adds call → AreFew (replay_of start (Called session call now ∷ before)).downloads
called_few start before session (AddUri uris options position) now first adds =
    subst (λ (p : List Event). AreFew (replay_of start (Called session (AddUri uris options position) now ∷ p)).downloads)
    (sym first) (added_few start _ options position)
called_few start before session (AddTorrent meta uris options position) now first adds =
    subst (λ (p : List Event). AreFew (replay_of start (Called session (AddTorrent meta uris options position) now ∷ p)).downloads)
    (sym first) (added_few start _ options position)
called_few start before session other now first adds = absurd adds

pub downloads_few : (start : RunStart) (past : List Event) → OrderlyRun start past
    → AreFew (replay_of start past).downloads
downloads_few start [] is = inl refl
downloads_few start (Called session call now ∷ before) is = called_few start before session call now is.1.0 is.1.1
downloads_few start (Ended other how ∷ before) is = downloads_few start before is.0
downloads_few start (Stopped ∷ before) is = downloads_few start before is.0
downloads_few start (Left ∷ before) is = downloads_few start before is.0
downloads_few start (Opened other v b n ∷ before) is = downloads_few start before is.0
downloads_few start (Sized other i t ∷ before) is = downloads_few start before is.0
downloads_few start (Claimed other c ∷ before) is = downloads_few start before is.0
downloads_few start (Landed other i m r n ∷ before) is = downloads_few start before is.0
downloads_few start (Settled other p r g ∷ before) is = downloads_few start before is.0
downloads_few start (Cleared other p ∷ before) is = downloads_few start before is.0
downloads_few start (Lost other i m p k ∷ before) is = downloads_few start before is.0
downloads_few start (Checked other r ∷ before) is = downloads_few start before is.0
downloads_few start (Saved other n ∷ before) is = downloads_few start before is.0

-- no other download was added
abbrev pub IsSole : RunStart → List Event → Gid → Type 0
IsSole start past gid = (other : Gid) (d : Download) → download_in start past other ≡ Some d → other ≡ gid

found_in_one : (d e : Download) (gid : Gid) (t : Bool) → is_same_gid gid d.gid ≡ t → cond t (Some d) None ≡ Some e
    → d.gid ≡ gid
found_in_one d e gid true same is = gid_is gid d.gid same
found_in_one d e gid false same is = absurd cc

found_few : (downloads : List Download) (gid : Gid) (d : Download) → AreFew downloads
    → download_of downloads gid ≡ Some d → (other : Gid) (e : Download) → download_of downloads other ≡ Some e
    → other ≡ gid
found_few downloads gid d (inl none) found other e also =
    absurd (let is : None ≡ Some d = sym (ap (λ ds. download_of ds gid) none) ∙ found in cc)
found_few downloads gid d (inr one) found other e also =
    sym (found_in_one one.0 e other (is_same_gid other one.0.gid) refl
    (sym (ap (λ ds. download_of ds other) one.1) ∙ also))
    ∙ found_in_one one.0 d gid (is_same_gid gid one.0.gid) refl (sym (ap (λ ds. download_of ds gid) one.1) ∙ found)

pub sole_is : (start : RunStart) (past : List Event) (gid : Gid) (d : Download) → OrderlyRun start past
    → download_in start past gid ≡ Some d → IsSole start past gid
sole_is start past gid d is found =
    found_few (replay_of start past).downloads gid d (downloads_few start past is) found

-- ---- its events

-- what an event is to its download; calls and leaving doors are none of its
abbrev pub own_event : Event → OwnEvent
own_event (Called session asked now) = Halts false
own_event (Opened gid verified blocks now) = Opens verified blocks now
own_event (Sized gid id total) = Sizes id total
own_event (Claimed gid claim) = Grants claim
own_event (Landed gid id mirror run now) = Lands id mirror run
own_event (Settled gid piece right giver) = Settles piece right giver
own_event (Cleared gid piece) = Clears piece
own_event (Lost gid id mirror piece mark) = Loses id mirror piece mark
own_event (Checked gid right) = Checks right
own_event (Saved gid now) = Saves now
own_event (Ended gid how) = Halts true
own_event Left = Halts false
own_event Stopped = Halts false

-- how many events pass
abbrev pub tally_events : (OwnEvent → Bool) → List Event → ℕ
tally_events test past = tally (λ e. test (own_event e)) past

one_more : (t : Bool) (k m n : ℕ) → k ≤ m + n → cond t (suc k) k ≤ cond t (suc m) m + n
one_more true k m n le = omega (arith, le)
one_more false k m n le = le

first_count : (t : Bool) (k n extra : ℕ) → k ≡ 0 → cond t 1 0 ≤ extra → cond t (suc k) k ≤ n + extra
first_count true k n extra none le = omega (arith, none, le)
first_count false k n extra none le = omega (arith, none)

module _ (stay : DownloadsStay) (start : RunStart) (none : start.doors ≡ 0) (gid : Gid) (test : OwnEvent → Bool)
    (extra : ℕ) (called : cond (test (Halts false)) 1 0 ≤ extra) where
  abbrev AreOwn : ℕ → List OwnEvent → Type 0
  AreOwn k own = k ≤ tally test own + extra

  sole_before : (past : List Event) (e : Event) → IsSole start (e ∷ past) gid → IsSole start past gid
  sole_before past e sole other d found = sole other d (stay start past e other d found)

  of_it : (past : List Event) (e : Event) (other : Gid) (x : OwnEvent) (d : Download) (k : ℕ)
      → IsSole start past gid → download_in start past other ≡ Some d → AreOwn k (own_of start past gid)
      → AreOwn (cond (test x) (suc k) k) (with_own other gid x (own_of start past gid))
  of_it past e other x d k sole found few =
      let same : is_same_gid gid other ≡ true = eq-eqb other.0 gid.0 (ap (λ (g : Gid). g.0) (sole other d found)) in
      subst (λ (t : Bool). AreOwn (cond (test x) (suc k) k) (cond t (x ∷ own_of start past gid) (own_of start past gid)))
      (sym same) (one_more (test x) k (tally test (own_of start past gid)) extra few)

  -- as many as the download has, and the call
  pub tallied : (past : List Event) → IsLegal start past → OrderlyRun start past → IsSole start past gid
      → AreOwn (tally_events test past) (own_of start past gid)
  tallied [] legal is sole = omega arith
  tallied (Called session call now ∷ before) legal is sole =
      first_count (test (Halts false)) (tally_events test before)
      (tally test (own_of start (Called session call now ∷ before) gid)) extra
      (ap (tally_events test) is.1.0) called
  tallied (Opened other v b n ∷ before) legal is sole =
      let down = sole_before before (Opened other v b n) sole in
      of_it before (Opened other v b n) other (Opens v b n) legal.1.download (tally_events test before) down legal.1.added
      (tallied before legal.0 is.0 down)
  tallied (Sized other i t ∷ before) legal is sole =
      let down = sole_before before (Sized other i t) sole in
      of_it before (Sized other i t) other (Sizes i t) legal.1.download (tally_events test before) down legal.1.added
      (tallied before legal.0 is.0 down)
  tallied (Claimed other c ∷ before) legal is sole =
      let down = sole_before before (Claimed other c) sole in
      of_it before (Claimed other c) other (Grants c) legal.1.download (tally_events test before) down legal.1.added
      (tallied before legal.0 is.0 down)
  tallied (Landed other i m r n ∷ before) legal is sole =
      let down = sole_before before (Landed other i m r n) sole in
      of_it before (Landed other i m r n) other (Lands i m r) legal.1.0.download (tally_events test before) down legal.1.0.added
      (tallied before legal.0 is.0 down)
  tallied (Settled other p r g ∷ before) legal is sole =
      let down = sole_before before (Settled other p r g) sole in
      of_it before (Settled other p r g) other (Settles p r g) legal.1.own.download (tally_events test before) down legal.1.own.added
      (tallied before legal.0 is.0 down)
  tallied (Cleared other p ∷ before) legal is sole =
      let down = sole_before before (Cleared other p) sole in
      of_it before (Cleared other p) other (Clears p) legal.1.own.download (tally_events test before) down legal.1.own.added
      (tallied before legal.0 is.0 down)
  tallied (Lost other i m p k ∷ before) legal is sole =
      let down = sole_before before (Lost other i m p k) sole in
      of_it before (Lost other i m p k) other (Loses i m p k) legal.1.download (tally_events test before) down legal.1.added
      (tallied before legal.0 is.0 down)
  tallied (Checked other r ∷ before) legal is sole =
      let down = sole_before before (Checked other r) sole in
      of_it before (Checked other r) other (Checks r) legal.1.own.download (tally_events test before) down legal.1.own.added
      (tallied before legal.0 is.0 down)
  tallied (Saved other n ∷ before) legal is sole =
      let down = sole_before before (Saved other n) sole in
      of_it before (Saved other n) other (Saves n) legal.1.0.download (tally_events test before) down legal.1.0.added
      (tallied before legal.0 is.0 down)
  tallied (Ended other how ∷ before) legal is sole =
      let down = sole_before before (Ended other how) sole in
      of_it before (Ended other how) other (Halts true) legal.1.own.download (tally_events test before) down legal.1.own.added
      (tallied before legal.0 is.0 down)
  tallied (Left ∷ before) legal is sole = absurd (let some = legal.1 in omega (arith, some, none))
  tallied (Stopped ∷ before) legal is sole =
      one_more (test (Halts false)) (tally_events test before) (tally test (own_of start before gid)) extra
      (tallied before legal.0 is.0 (sole_before before Stopped sole))

-- checks of the download are events of the run
pub checks_told : (start : RunStart) (gid : Gid) (past : List Event) → OrderlyRun start past
    → tally is_check (own_of start past gid) ≤ tally_events is_check past
checks_told start gid [] is = omega arith
checks_told start gid (Called session call now ∷ before) is =
    subst (λ (own : List OwnEvent). tally is_check own ≤ tally_events is_check before)
    (sym (called_own start before session call now gid is.1)) (checks_told start gid before is.0)
checks_told start gid (Left ∷ before) is = checks_told start gid before is.0
checks_told start gid (Stopped ∷ before) is = checks_told start gid before is.0
checks_told start gid (Checked other r ∷ before) is =
    let few = checks_told start gid before is.0 in
    either_way (λ (own : List OwnEvent). tally is_check own ≤ suc (tally_events is_check before))
    (is_same_gid gid other) (Checks r) (own_of start before gid) (omega (arith, few)) (omega (arith, few))
checks_told start gid (Opened other v b n ∷ before) is =
    let few = checks_told start gid before is.0 in
    either_way (λ (own : List OwnEvent). tally is_check own ≤ tally_events is_check before)
    (is_same_gid gid other) (Opens v b n) (own_of start before gid) few few
checks_told start gid (Sized other i t ∷ before) is =
    let few = checks_told start gid before is.0 in
    either_way (λ (own : List OwnEvent). tally is_check own ≤ tally_events is_check before)
    (is_same_gid gid other) (Sizes i t) (own_of start before gid) few few
checks_told start gid (Claimed other c ∷ before) is =
    let few = checks_told start gid before is.0 in
    either_way (λ (own : List OwnEvent). tally is_check own ≤ tally_events is_check before)
    (is_same_gid gid other) (Grants c) (own_of start before gid) few few
checks_told start gid (Landed other i m r n ∷ before) is =
    let few = checks_told start gid before is.0 in
    either_way (λ (own : List OwnEvent). tally is_check own ≤ tally_events is_check before)
    (is_same_gid gid other) (Lands i m r) (own_of start before gid) few few
checks_told start gid (Settled other p r g ∷ before) is =
    let few = checks_told start gid before is.0 in
    either_way (λ (own : List OwnEvent). tally is_check own ≤ tally_events is_check before)
    (is_same_gid gid other) (Settles p r g) (own_of start before gid) few few
checks_told start gid (Cleared other p ∷ before) is =
    let few = checks_told start gid before is.0 in
    either_way (λ (own : List OwnEvent). tally is_check own ≤ tally_events is_check before)
    (is_same_gid gid other) (Clears p) (own_of start before gid) few few
checks_told start gid (Lost other i m p k ∷ before) is =
    let few = checks_told start gid before is.0 in
    either_way (λ (own : List OwnEvent). tally is_check own ≤ tally_events is_check before)
    (is_same_gid gid other) (Loses i m p k) (own_of start before gid) few few
checks_told start gid (Saved other n ∷ before) is =
    let few = checks_told start gid before is.0 in
    either_way (λ (own : List OwnEvent). tally is_check own ≤ tally_events is_check before)
    (is_same_gid gid other) (Saves n) (own_of start before gid) few few
checks_told start gid (Ended other how ∷ before) is =
    let few = checks_told start gid before is.0 in
    either_way (λ (own : List OwnEvent). tally is_check own ≤ tally_events is_check before)
    (is_same_gid gid other) (Halts true) (own_of start before gid) few few
