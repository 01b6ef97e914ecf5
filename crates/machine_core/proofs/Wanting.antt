-- The wants of downloads.
use Rattle.std.proofs.Common.{◌≡◌, ◌⊎◌, ◌∙◌, ℕ, Option, Some, None, ◌-◌, List, [], ◌∷◌, ⊎_elim, length, get_or, reverse, slice_get, refl, sym, ap, subst, arith}
use Rattle.std.specs.Prelude.{All, IfSome}
use Rattle.std.specs.Option.{option_and_then}
use Rattle.std.proofs.lemmas.List.{get_or-reverse, length-reverse}
use Rattle.std.proofs.lemmas.List.Elements.{All-cons, All-nil}
use Rattle.std.proofs.lemmas.Option.{get_or_from_slice_get, same_Some, slice_get_within}
use Rattle.control_file.specs.Wants.{IsBehind, IsWant}
use Rattle.control_file.specs.declared.want.Want.{Want}
use Rattle.dl_kinds.specs.Plan.{pieces_of}
use Rattle.dl_kinds.specs.declared.gid.Gid.{Gid}
use Rattle.dl_kinds.specs.declared.plan.Plan.{Plan}
use Rattle.metainfo.specs.Info.{AreBehind, IsSingle, IsSound, info_of}
use Rattle.metainfo.specs.declared.meta.Meta.{Meta}
use Rattle.span_map.specs.Layout.{IsLayout, total_of}
use Rattle.span_map.specs.declared.files.FileLen.{FileLen}
use Rattle.machine_core.specs.DownloadWants.{HasWant, IsLawfulEvent, IsWantOf, WantsStay}
use Rattle.machine_core.specs.MachineParts.{MachineState, subject_of_event}
use Rattle.machine_core.specs.MachineViews.{MachineView}
use Rattle.machine_core.specs.Openings.{lengths_of_plan, lengths_with}
use Rattle.machine_core.specs.OwnParts.{PayloadLengths, payload_lengths_of}
use Rattle.machine_core.specs.RunLegal.{IsLegal, MayFollow, download_in}
use Rattle.machine_core.specs.Reads.{downloads_in}
use Rattle.machine_core.specs.Starts.{Download, RunStart}
use Rattle.machine_core.specs.declared.entries.Entry.{Entry}
use Rattle.machine_core.specs.declared.events.Event.{Event}
use Rattle.machine_core.specs.declared.events.Event.TheVariants.{Called, Opened, Sized, Claimed, Landed, Settled, Cleared, Lost, Checked, Saved, Ended, Left, Stopped}
use Rattle.machine_core.proofs.Here.{Here, Seen}
use Rattle.machine_core.proofs.Legal.{Laws}
use Rattle.machine_core.proofs.Rooms.{added_here}
use Rattle.machine_core.proofs.Staying.{downloads_stay, lengths_stay}
use Rattle.machine_core.proofs.Twins.{Stands}

-- each path of a sound metainfo file begins with its name
behind_name : (name : List ℕ) (files : List FileLen) → IsSingle name files ⊎ AreBehind name files
    → All (λ (file : FileLen). IsBehind name file.path) files
behind_name name files paths =
    ⊎_elim
    (λ (one : IsSingle name files).
    subst (λ (fs : List FileLen). All (λ (file : FileLen). IsBehind name file.path) fs) (sym one.1)
    (All-cons (λ (file : FileLen). IsBehind name file.path) (record { path = name ∷ []; len = one.0 }) [] ([], refl)
    (All-nil (λ (file : FileLen). IsBehind name file.path))))
    (λ (all : AreBehind name files).
    λ k d within. let p = all k d within in (p.0 ∷ p.1, p.2))
    paths

pub listed_is_want : (meta : Meta) (want : Want) → IsSound (info_of meta) → want.base ≡ meta.name
    → want.layout ≡ meta.layout → want.plan ≡ meta.plan → want.digests ≡ meta.digests
    → (hash : List ℕ) → want.info_hash ≡ Some hash → length hash ≡ 20 → IsWant want
listed_is_want meta want sound base layout plan digests hash hash_is long =
    record {
      layout = subst IsLayout (sym layout) sound.layout;
      total = ap total_of layout ∙ (sym sound.total ∙ ap (λ (p : Plan). p.total) (sym plan));
      plan = want.plan.is_plan;
      pieces = want.plan.pieces_are;
      hash = rw hash_is long;
      digests = λ listed. ap (λ (ds : List (List ℕ)). length ds) digests ∙ (sound.count ∙ (ap (λ (p : Plan). pieces_of p.total p.piece_len) (sym plan) ∙ sym want.plan.pieces_are));
      unlisted = λ none. absurd (let e : Some hash ≡ None = sym hash_is ∙ none in cc);
      behind = subst (λ (b : List ℕ). All (λ (file : FileLen). IsBehind b file.path) want.layout) (sym base)
          (subst (λ (fs : List FileLen). All (λ (file : FileLen). IsBehind meta.name file.path) fs) (sym layout) (behind_name meta.name meta.layout sound.paths));
    }

-- ---- lawful calls

lawful_after : (start : RunStart) (past : List Event) (e : Event) → MayFollow start past e → IsLawfulEvent e
lawful_after start past (Called session asked now) may = may.0
lawful_after start past (Opened gid verified blocks now) may = tt
lawful_after start past (Sized gid id total) may = tt
lawful_after start past (Claimed gid claim) may = tt
lawful_after start past (Landed gid id mirror run now) may = tt
lawful_after start past (Settled gid piece right giver) may = tt
lawful_after start past (Cleared gid piece) may = tt
lawful_after start past (Lost gid id mirror piece mark) may = tt
lawful_after start past (Checked gid right) may = tt
lawful_after start past (Saved gid now) may = tt
lawful_after start past (Ended gid how) may = tt
lawful_after start past Left may = tt
lawful_after start past Stopped may = tt

all_lawful : (start : RunStart) (past : List Event) → IsLegal start past → All IsLawfulEvent past
all_lawful start [] legal = All-nil IsLawfulEvent
all_lawful start (e ∷ past) legal =
    All-cons IsLawfulEvent e past (lawful_after start past e legal.1) (all_lawful start past legal.0)

-- each event of a legal journal
pub lawful_at : (start : RunStart) (events : List Event) (i : ℕ) (e : Event) → IsLegal start (reverse events)
    → slice_get events i ≡ Some e → IsLawfulEvent e
lawful_at start events i e legal there =
    let within = slice_get_within events i e there in
    let long = length-reverse events in
    let back = length events - 1 - i in
    let same : get_or (reverse events) back e ≡ e =
    get_or-reverse events back e (omega arith)
    ∙ (ap (λ (k : ℕ). get_or events k e) (let k : length events - 1 - back ≡ i = omega arith in k)
    ∙ get_or_from_slice_get events i e e there) in
    subst IsLawfulEvent same (all_lawful start (reverse events) legal back e (omega arith))

pub lawful_here : (s : MachineState) (v : MachineView) (i : ℕ) (e : Event) → Seen s v → slice_get s.events i ≡ Some e
    → IsLawfulEvent e
lawful_here s v i e seen there = lawful_at s.start s.events i e seen.keeps.legal there

-- ---- the want of a download

pub plan_of_meta : (m : Option Meta) (n : ℕ) (told : Option ℕ) (l : PayloadLengths) → lengths_with m n told ≡ Some l
    → IfSome m (λ meta. lengths_of_plan meta.plan ≡ l)
plan_of_meta None n told l is = tt
plan_of_meta (Some meta) n told l is = same_Some (lengths_of_plan meta.plan) l is

pub subject_here : (s : MachineState) (v : MachineView) (gid : Gid) (at : ℕ) (x : Entry) (e : Event) → Seen s v
    → (h : Here s gid at x) → slice_get s.events x.called ≡ Some e → subject_of_event e ≡ Some h.download.subject
subject_here s v gid at x e seen h there =
    sym (ap (option_and_then subject_of_event) there) ∙ seen.keeps.called at h.download x h.is.added h.is.there

-- .. of the download at a place
pub subject_there : (s : MachineState) (v : MachineView) (at : ℕ) (x : Entry) (e : Event) → Seen s v
    → (st : Stands s v at x) → slice_get s.events x.called ≡ Some e
    → (d : Download) → slice_get (downloads_in v) at ≡ Some d → subject_of_event e ≡ Some d.subject
subject_there s v at x e seen st there d added =
    subject_here s v st.download.gid at x e seen st.here there
    ∙ ap (λ (b : Download). Some b.subject) (st.same ∙ same_Some st.download d (sym st.seen_added ∙ added))

pub has_want : (s : MachineState) (v : MachineView) (gid : Gid) (at : ℕ) (x : Entry) (plan : Plan) (want : Want)
    (told : Option PayloadLengths) → Seen s v → (h : Here s gid at x) → told ≡ payload_lengths_of v.start v.past gid
    → told ≡ Some (lengths_of_plan plan) → IsWantOf h.download (lengths_of_plan plan) want
    → HasWant v.start v.past gid want
has_want s v gid at x plan want told seen h told_is plan_is is =
    record {
      download = h.download;
      added = subst (λ (w : MachineView). download_in w.start w.past gid ≡ Some h.download) seen.view_is
          (added_here s v gid at x seen h);
      lengths = lengths_of_plan plan;
      known = sym told_is ∙ plan_is;
      is = is;
    }

pub want_stays : Laws → WantsStay
want_stays laws start past event gid want legal h =
    record {
      download = h.download;
      added = downloads_stay start past event gid h.download h.added;
      lengths = h.lengths;
      known = lengths_stay laws start past event gid h.lengths legal h.known;
      is = h.is;
    }
