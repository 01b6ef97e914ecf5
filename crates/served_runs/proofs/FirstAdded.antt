-- What a run has behind its first call, where that adds a download.
use Rattle.std.proofs.Common.{◌≡◌, ◌≤◌, ℕ, zero, suc, ◌-◌, Bool, true, false, cond, List, [], ◌∷◌, Some, None, refl, ap, ◌∙◌, arith}
use Rattle.std.specs.Prelude.{◌==◌, box_value, not}
use Rattle.std.proofs.lemmas.Bool.{eq-eqb}
use Rattle.dl_kinds.specs.declared.gid.Gid.{Gid}
use Rattle.dl_kinds.specs.declared.runs.Moment.{Moment}
use Rattle.dl_queue.specs.Rising.{left_waiting, risen}
use Rattle.machine_core.specs.Replays.{next_gid, queue_in, replay_of, with_settings}
use Rattle.machine_core.specs.RunLegal.{download_in}
use Rattle.machine_core.specs.Starts.{Download, Listed, RunStart, Subject, Unlisted}
use Rattle.machine_core.specs.declared.calls.Call.{Call}
use Rattle.machine_core.specs.declared.calls.Call.TheVariants as call
use Rattle.machine_core.specs.declared.events.Event.{Event}
use Rattle.machine_core.specs.declared.events.Event.TheVariants.{Called}
use Rattle.option_set.specs.Values.{number_value}
use Rattle.option_set.specs.declared.kinds.Num.TheVariants.{MaxConcurrentDownloads, Pause}
use Rattle.option_set.specs.declared.setting.Assigned.{Assigned}

-- the call adds it, with these settings, at the end of the queue
abbrev pub AddsFirst : Call → Subject → List Assigned → Type 0
AddsFirst (call.AddTorrent m its_uris its_settings position) subject settings =
    (Listed (box_value m) its_uris ≡ subject) × (its_settings ≡ settings) × (position ≡ None)
AddsFirst (call.AddUri its_uris its_settings position) subject settings =
    (Unlisted its_uris ≡ subject) × (its_settings ≡ settings) × (position ≡ None)
AddsFirst other subject settings = ⊥

-- it is the only one, and active
pub record AddedFirst (start : RunStart) (past : List Event) (subject : Subject) (settings : List Assigned) : Type 0 where
  pub download : Download
  pub added : download_in start past download.gid ≡ Some download
  pub alone : (replay_of start past).downloads ≡ download ∷ []
  pub subject_is : download.subject ≡ subject
  pub options : download.options ≡ with_settings start.global settings
  pub active : (queue_in start past).active ≡ download.gid ∷ []
  pub waiting : (queue_in start past).waiting ≡ []
  pub unshut : (replay_of start past).shut ≡ false

risen_none : (free : ℕ) → risen free [] ≡ []
risen_none zero = refl
risen_none (suc n) = refl

left_none : (free : ℕ) → left_waiting free [] ≡ []
left_none zero = refl
left_none (suc n) = refl

risen_one : (free : ℕ) (g : Gid) (paused : Bool) → 1 ≤ free → paused ≡ false
    → risen free (record { gid = g; paused = paused } ∷ []) ≡ g ∷ []
risen_one zero g paused some is = absurd (omega (arith, some))
risen_one (suc n) g true some is = absurd cc
risen_one (suc n) g false some is = λ i. g ∷ risen_none n i

left_one : (free : ℕ) (g : Gid) (paused : Bool) → 1 ≤ free → paused ≡ false
    → left_waiting free (record { gid = g; paused = paused } ∷ []) ≡ []
left_one zero g paused some is = absurd (omega (arith, some))
left_one (suc n) g true some is = absurd cc
left_one (suc n) g false some is = left_none n

pub first_added : (start : RunStart) (session : ℕ) (asked : Call) (now : Moment) (subject : Subject) (settings : List Assigned)
    → AddsFirst asked subject settings → 1 ≤ number_value start.global MaxConcurrentDownloads
    → number_value (with_settings start.global settings) Pause ≡ 0
    → AddedFirst start (Called session asked now ∷ []) subject settings
first_added start session (call.AddTorrent m its_uris its_settings None) now subject settings is some unpaused =
    let chosen = with_settings start.global its_settings in
    let gid = next_gid start [] chosen in
    let d : Download = record { gid = gid; subject = Listed (box_value m) its_uris; options = chosen } in
    let free : ℕ = number_value start.global MaxConcurrentDownloads - 0 in
    let goes : not (number_value chosen Pause == 0) ≡ false =
    ap (λ (n : ℕ). not (n == 0)) (ap (λ (s : List Assigned). number_value (with_settings start.global s) Pause) is.1 ∙ unpaused) in
    let paused : Bool = not (number_value chosen Pause == 0) in
    record {
      download = d;
      added = ap (λ (t : Bool). cond t (Some d) None) (eq-eqb gid.0 gid.0 refl);
      alone = refl;
      subject_is = is.0;
      options = ap (with_settings start.global) is.1;
      active = risen_one free gid paused (omega (arith, some)) goes;
      waiting = left_one free gid paused (omega (arith, some)) goes;
      unshut = refl;
    }
first_added start session (call.AddTorrent m its_uris its_settings (Some position)) now subject settings is some unpaused =
    absurd (let never : Some position ≡ None = is.2 in cc)
first_added start session (call.AddUri its_uris its_settings None) now subject settings is some unpaused =
    let chosen = with_settings start.global its_settings in
    let gid = next_gid start [] chosen in
    let d : Download = record { gid = gid; subject = Unlisted its_uris; options = chosen } in
    let free : ℕ = number_value start.global MaxConcurrentDownloads - 0 in
    let goes : not (number_value chosen Pause == 0) ≡ false =
    ap (λ (n : ℕ). not (n == 0)) (ap (λ (s : List Assigned). number_value (with_settings start.global s) Pause) is.1 ∙ unpaused) in
    let paused : Bool = not (number_value chosen Pause == 0) in
    record {
      download = d;
      added = ap (λ (t : Bool). cond t (Some d) None) (eq-eqb gid.0 gid.0 refl);
      alone = refl;
      subject_is = is.0;
      options = ap (with_settings start.global) is.1;
      active = risen_one free gid paused (omega (arith, some)) goes;
      waiting = left_one free gid paused (omega (arith, some)) goes;
      unshut = refl;
    }
first_added start session (call.AddUri its_uris its_settings (Some position)) now subject settings is some unpaused =
    absurd (let never : Some position ≡ None = is.2 in cc)
first_added start session other now subject settings is some unpaused = absurd is
