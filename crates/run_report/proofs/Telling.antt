-- A download that was read is the one of the run.
use Rattle.std.proofs.Common.{◌≡◌, ◌∙◌, ℕ, Option, Some, None, List, refl, sym, ap}
use Rattle.std.specs.Prelude.{IfOk, IsSome, Result, Ok, Err}
use Rattle.std.specs.Option.{is_some, option_map}
use Rattle.std.proofs.lemmas.Option.{same_Some}
use Rattle.dl_history.specs.StandingClaims.{standing_claims}
use Rattle.dl_kinds.specs.declared.gid.Gid.{Gid}
use Rattle.dl_kinds.specs.declared.runs.Moment.{Moment}
use Rattle.option_set.specs.Values.{OptionValues}
use Rattle.machine_core.proofs.Lists.{found}
use Rattle.machine_core.proofs.Parts.{gid_is}
use Rattle.machine_core.proofs.Sharing.{same_base}
use Rattle.machine_core.specs.MachineViews.{MachineView, standing_in}
use Rattle.machine_core.specs.OwnParts.{own_of}
use Rattle.machine_core.specs.Replays.{is_download, replay_of}
use Rattle.machine_core.specs.RunLegal.{download_in, known_lengths}
use Rattle.machine_core.specs.Starts.{Download, RunStart, Subject}
use Rattle.machine_core.specs.MachineParts.{subject_of_call}
use Rattle.machine_core.specs.declared.calls.Call.{Call}
use Rattle.machine_core.specs.declared.events.Event.{Event}
use Rattle.run_report.specs.Files.{file_views}
use Rattle.run_report.specs.Replies.{files_reply, uris_reply}
use Rattle.run_report.specs.Statuses.{status_view, status_view_of}
use Rattle.run_report.specs.Subjects.{AreNames}
use Rattle.run_report.specs.Told.{IsReadOf, ToldView}
use Rattle.run_report.specs.Uris.{uri_views}
use Rattle.run_report.specs.declared.kinds.Reply.TheVariants as reply

-- ---- the download

pub added_is : (o : Option Download) (s : Option Subject)
    → s ≡ option_map (λ (d : Download). d.subject) o → IsSome s → (d : Download) × (o ≡ Some d)
added_is None s is some = absurd (let f : is_some s ≡ is_some {T = Subject} None = ap (λ (x : Option Subject). is_some x) is in cc)
added_is (Some d) s is some = (d, refl)

same_gid : (start : RunStart) (past : List Event) (gid : Gid) (d : Download) → download_in start past gid ≡ Some d
    → d.gid ≡ gid
same_gid start past gid d added =
    gid_is gid d.gid (found (is_download gid) (replay_of start past).downloads d added).passes

pub same_download : (start : RunStart) (past : List Event) (gid : Gid) (d : Download) (subject : Subject)
    (options : OptionValues) → download_in start past gid ≡ Some d → d.subject ≡ subject → d.options ≡ options
    → d ≡ record { gid = gid; subject = subject; options = options }
same_download start past gid d subject options added subject_is options_is =
    ap (λ (g : Gid). record { gid = g; subject = d.subject; options = d.options }) (same_gid start past gid d added)
    ∙ (ap (λ (s : Subject). record { gid = gid; subject = s; options = d.options }) subject_is
    ∙ ap (λ (o : OptionValues). record { gid = gid; subject = subject; options = o }) options_is)

-- the download that a call added, with the options that it began with
pub read_by : (start : RunStart) (past : List Event) (gid : Gid) (call : Call) (subject : Subject) (options : OptionValues)
    → subject_of_call call ≡ option_map (λ (d : Download). d.subject) (download_in start past gid)
    → IsSome (subject_of_call call) → subject_of_call call ≡ Some subject
    → option_map (λ (d : Download). d.options) (download_in start past gid) ≡ Some options
    → download_in start past gid ≡ Some (record { gid = gid; subject = subject; options = options })
read_by start past gid call subject options is some subject_is options_is =
    let d = added_is (download_in start past gid) (subject_of_call call) is some in
    d.1 ∙ ap (λ (x : Download). Some x)
    (same_download start past gid d.0 subject options d.1
    (same_Some d.0.subject subject
    (sym (ap (option_map (λ (x : Download). x.subject)) d.1) ∙ (sym is ∙ subject_is)))
    (same_Some d.0.options options (sym (ap (option_map (λ (x : Download). x.options)) d.1) ∙ options_is)))

-- ---- what is told of it

named_by : (machine : MachineView) (gid : Gid) (t : ToldView) (names : Gid → List ℕ) → IsReadOf machine gid t
    → AreNames machine.start machine.past names → t.name ≡ names gid
named_by machine gid t names read are =
    same_base t.download t.download.subject t.name (names gid) read.named (are gid t.download read.added)

pub told_status : (machine : MachineView) (gid : Gid) (now : Moment) (t : ToldView) (names : Gid → List ℕ)
    → IsReadOf machine gid t → AreNames machine.start machine.past names
    → Some (status_view t.machine.start t.machine.past now t.name t.download.gid t.download)
    ≡ status_view_of machine.start machine.past now names gid
told_status machine gid now t names read are =
    ap (λ (m : MachineView). Some (status_view m.start m.past now t.name t.download.gid t.download)) read.machine_is
    ∙ (ap (λ (name : List ℕ). Some (status_view machine.start machine.past now name t.download.gid t.download))
    (named_by machine gid t names read are)
    ∙ (ap (λ (g : Gid). Some (status_view machine.start machine.past now (names gid) g t.download)) read.gid_is
    ∙ sym (ap (option_map (status_view machine.start machine.past now (names gid) gid)) read.added)))

pub told_uris : (machine : MachineView) (gid : Gid) (t : ToldView) → IsReadOf machine gid t
    → Some (reply.Uris (uri_views (standing_in t.machine t.download.gid) t.download.subject 0))
    ≡ uris_reply machine.start machine.past gid
told_uris machine gid t read =
    ap (λ (m : MachineView). Some (reply.Uris (uri_views (standing_in m t.download.gid) t.download.subject 0)))
    read.machine_is
    ∙ (ap (λ (g : Gid). Some (reply.Uris (uri_views (standing_in machine g) t.download.subject 0))) read.gid_is
    ∙ sym (ap (option_map (λ (d : Download).
    reply.Uris (uri_views (standing_claims (own_of machine.start machine.past gid)) d.subject 0))) read.added))

pub told_files : (machine : MachineView) (gid : Gid) (t : ToldView) (names : Gid → List ℕ) → IsReadOf machine gid t
    → AreNames machine.start machine.past names
    → Some (reply.Files (file_views t.download t.name (known_lengths t.machine.start t.machine.past t.download.gid)
    (own_of t.machine.start t.machine.past t.download.gid)))
    ≡ files_reply machine.start machine.past names gid
told_files machine gid t names read are =
    ap (λ (m : MachineView). Some (reply.Files (file_views t.download t.name
    (known_lengths m.start m.past t.download.gid) (own_of m.start m.past t.download.gid)))) read.machine_is
    ∙ (ap (λ (name : List ℕ). Some (reply.Files (file_views t.download name
    (known_lengths machine.start machine.past t.download.gid) (own_of machine.start machine.past t.download.gid))))
    (named_by machine gid t names read are)
    ∙ (ap (λ (g : Gid). Some (reply.Files (file_views t.download (names gid)
    (known_lengths machine.start machine.past g) (own_of machine.start machine.past g)))) read.gid_is
    ∙ sym (ap (option_map (λ (d : Download). reply.Files (file_views d (names gid)
    (known_lengths machine.start machine.past gid) (own_of machine.start machine.past gid)))) read.added)))

-- ---- names

-- what a result is for each list of names, it is for all of them
pub for_all_names : {N R E : Type 0} (Are : N → Type 0) (P : N → R → Type 0) (result : Result R E)
    → ((names : N) → Are names → IfOk result (P names))
    → IfOk result (λ answer. (names : N) → Are names → P names answer)
for_all_names Are P (Ok answer) is = is
for_all_names Are P (Err e) is = tt
