-- Each mirror of a download has a host, and there are few enough.
use Rattle.std.proofs.Common.{◌≡◌, ℕ, Option, Some, None, ◌-◌, ◌≤◌, get_or, List, [], ◌∷◌, length, map, slice_get, reverse, refl, sym, ap, ◌∙◌, subst, arith}
use Rattle.std.specs.Prelude.{All}
use Rattle.std.specs.Option.{option_and_then}
use Rattle.std.proofs.lemmas.List.{get_or-reverse, length-append, length-map, length-reverse}
use Rattle.std.proofs.lemmas.List.Elements.{All-cons, All-get_or, All-nil}
use Rattle.std.proofs.lemmas.Option.{get_or_from_slice_get, same_Some, slice_get_within}
use Rattle.dl_kinds.specs.declared.claims.TheConstants.{MAX_MIRRORS}
use Rattle.mirror_hosts.specs.Hosts.{distinct_hosts, host_numbers, host_place, url_host}
use Rattle.machine_core.specs.Choices.{mirror_urls}
use Rattle.machine_core.specs.KeptOffers.{HaveHosts}
use Rattle.machine_core.specs.LawfulCalls.{IsLawful}
use Rattle.machine_core.specs.MachineParts.{MachineState, subject_of_call, subject_of_event}
use Rattle.machine_core.specs.MachineViews.{MachineView}
use Rattle.machine_core.specs.Replays.{replay_of}
use Rattle.machine_core.specs.RunLegal.{IsLegal, MayFollow, mirrors_by}
use Rattle.machine_core.specs.Starts.{RunStart, Subject, Listed, Unlisted}
use Rattle.machine_core.specs.declared.calls.Call.{Call}
use Rattle.machine_core.specs.declared.calls.Call.TheVariants as call
use Rattle.machine_core.specs.declared.events.Event.{Event}
use Rattle.machine_core.specs.declared.events.Event.TheVariants.{Called, Opened, Sized, Claimed, Landed, Settled, Cleared, Lost, Checked, Saved, Ended, Left, Stopped}
use Rattle.machine_core.proofs.Here.{Seen}
use Rattle.machine_core.proofs.Lists.{element_at}

-- ---- a lawful call has few mirrors

abbrev FewMirrors : Event → Type 0
FewMirrors e = (subject : Subject) → subject_of_event e ≡ Some subject → mirrors_by subject ≤ MAX_MIRRORS

few_called : (asked : Call) (subject : Subject) → IsLawful asked → subject_of_call asked ≡ Some subject
    → mirrors_by subject ≤ MAX_MIRRORS
few_called (call.AddUri uris options position) subject lawful is =
    subst (λ (s : Subject). mirrors_by s ≤ MAX_MIRRORS) (same_Some (Unlisted uris) subject is) lawful.0.few
few_called (call.AddTorrent meta uris options position) subject lawful is =
    subst (λ (s : Subject). mirrors_by s ≤ MAX_MIRRORS) (same_Some _ subject is) lawful.mirrors.few
few_called (call.Remove key) subject lawful is = absurd cc
few_called (call.Pause key) subject lawful is = absurd cc
few_called (call.Unpause key) subject lawful is = absurd cc
few_called call.PauseAll subject lawful is = absurd cc
few_called call.UnpauseAll subject lawful is = absurd cc
few_called (call.ChangeOption key options) subject lawful is = absurd cc
few_called (call.ChangeGlobalOption options) subject lawful is = absurd cc
few_called (call.TellStatus key) subject lawful is = absurd cc
few_called call.TellActive subject lawful is = absurd cc
few_called (call.TellWaiting offset num) subject lawful is = absurd cc
few_called (call.TellStopped offset num) subject lawful is = absurd cc
few_called (call.GetUris key) subject lawful is = absurd cc
few_called (call.GetFiles key) subject lawful is = absurd cc
few_called (call.GetOption key) subject lawful is = absurd cc
few_called call.GetGlobalOption subject lawful is = absurd cc
few_called call.GetGlobalStat subject lawful is = absurd cc
few_called (call.ChangePosition key position how) subject lawful is = absurd cc
few_called call.Purge subject lawful is = absurd cc
few_called (call.RemoveResult key) subject lawful is = absurd cc
few_called call.GetVersion subject lawful is = absurd cc
few_called call.Shutdown subject lawful is = absurd cc

few_by : (start : RunStart) (past : List Event) (e : Event) → MayFollow start past e → FewMirrors e
few_by start past (Called session asked now) may subject is = few_called asked subject may.0 is
few_by start past (Opened gid verified blocks now) may subject is = absurd cc
few_by start past (Sized gid id total) may subject is = absurd cc
few_by start past (Claimed gid claim) may subject is = absurd cc
few_by start past (Landed gid id mirror run now) may subject is = absurd cc
few_by start past (Settled gid piece right giver) may subject is = absurd cc
few_by start past (Cleared gid piece) may subject is = absurd cc
few_by start past (Lost gid id mirror piece mark) may subject is = absurd cc
few_by start past (Checked gid right) may subject is = absurd cc
few_by start past (Saved gid now) may subject is = absurd cc
few_by start past (Ended gid how) may subject is = absurd cc
few_by start past Left may subject is = absurd cc
few_by start past Stopped may subject is = absurd cc

few_in : (start : RunStart) (past : List Event) → IsLegal start past → All FewMirrors past
few_in start [] legal = All-nil FewMirrors
few_in start (e ∷ before) legal =
    All-cons FewMirrors e before (few_by start before e legal.1) (few_in start before legal.0)

-- what holds of the events holds of the one at a place, from the first one on
few_there : (events : List Event) (place : ℕ) (e : Event) → slice_get events place ≡ Some e
    → All FewMirrors (reverse events) → FewMirrors e
few_there events place e at all =
    let within = slice_get_within events place e at in
    let long : length (reverse events) ≡ length events = length-reverse events in
    let back : ℕ = length events - 1 - place in
    let mirrored : get_or (reverse events) back e ≡ get_or events (length events - 1 - back) e =
    get_or-reverse events back e (omega arith) in
    let same : length events - 1 - back ≡ place = omega arith in
    let read : get_or (reverse events) back e ≡ e =
    mirrored ∙ (ap (λ (k : ℕ). get_or events k e) same ∙ get_or_from_slice_get events place e e at) in
    subst FewMirrors read (All-get_or FewMirrors (reverse events) back e (omega arith) all)

few_of : (o : Option Event) (subject : Subject) → ((e : Event) → o ≡ Some e → FewMirrors e)
    → option_and_then subject_of_event o ≡ Some subject → mirrors_by subject ≤ MAX_MIRRORS
few_of None subject few is = absurd cc
few_of (Some e) subject few is = few e refl subject is

-- ---- each has a host

pub count_urls : (subject : Subject) → length (mirror_urls subject) ≡ mirrors_by subject
count_urls (Listed meta uris) = length-append meta.seeds uris
count_urls (Unlisted uris) = refl

pub count_hosts : (urls : List (List ℕ)) → length (host_numbers urls) ≡ length urls
count_hosts urls =
    length-map (map url_host urls) (host_place (distinct_hosts [] (map url_host urls))) ∙ length-map urls url_host

pub hosted : (s : MachineState) (v : MachineView) → Seen s v → HaveHosts s.entries
hosted s v seen i x there =
    let k = seen.keeps in
    let w = slice_get_within s.entries i x there in
    let many = k.downloads.many in
    let d = element_at (replay_of s.start (reverse s.events)).downloads i (omega arith) in
    let kept = k.downloads.each i d.0 x d.1 there in
    let each : length x.hosts.items ≡ mirrors_by d.0.subject =
    ap (λ (hosts : List ℕ). length hosts) kept.hosts ∙ (count_hosts (mirror_urls d.0.subject) ∙ count_urls d.0.subject) in
    let few : mirrors_by d.0.subject ≤ MAX_MIRRORS =
    few_of (slice_get s.events x.called) d.0.subject
    (λ e at. few_there s.events x.called e at (few_in s.start (reverse s.events) k.legal)) (k.called i d.0 x d.1 there) in
    record { each = each ∙ sym kept.mirrors; few = omega arith }
