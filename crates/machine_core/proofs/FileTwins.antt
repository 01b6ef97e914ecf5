-- Downloads that write one file.
use Rattle.std.proofs.Common.{◌≡◌, ◌∙◌, ℕ, Bool, true, false, Option, Some, None, ◌<◌, List, length, reverse, slice_get, refl, sym, ap, subst, arith}
use Rattle.std.specs.Prelude.{IfNone, IfOk, MatchBool, Result, Ok, Err}
use Rattle.std.specs.List.{position_or_len}
use Rattle.std.proofs.lemmas.List.Folds.{find_at}
use Rattle.std.proofs.lemmas.Option.{same_Some, slice_get_within}
use Rattle.control_file.specs.declared.want.Want.{Want}
use Rattle.dl_kinds.specs.Plan.{IsPlan}
use Rattle.dl_kinds.specs.declared.gid.Gid.{Gid}
use Rattle.resume_core.specs.Sharing.{share_names}
use Rattle.dl_history.specs.PayloadParts.{is_opened}
use Rattle.machine_core.specs.Clashes.{HasClash, HasFileAt, IsBeforeOpening, IsBesideAt, IsClash, IsClear, IsFileTwin, IsHashTwin, SharesNoName}
use Rattle.machine_core.specs.DownloadWants.{HasWant}
use Rattle.machine_core.specs.FileNames.{ShareName}
use Rattle.machine_core.specs.MachineParts.{MachineState}
use Rattle.machine_core.specs.MachineViews.{MachineView}
use Rattle.machine_core.specs.Openings.{HasPlan}
use Rattle.machine_core.specs.OwnParts.{PayloadLengths, own_of}
use Rattle.machine_core.specs.Reads.{downloads_in}
use Rattle.machine_core.specs.Replays.{is_download, replay_of}
use Rattle.machine_core.specs.RunLegal.{IsEndCause, IsOpenedBeside, IsOpening, MayFollow, download_in, known_lengths}
use Rattle.machine_core.specs.Starts.{Download}
use Rattle.machine_core.specs.Wanted.{wanted_pieces}
use Rattle.machine_core.specs.declared.ends.End.{End}
use Rattle.machine_core.specs.declared.ends.End.TheVariants as end
use Rattle.machine_core.specs.declared.entries.Entry.{Entry}
use Rattle.machine_core.specs.declared.events.Event.TheVariants.{Ended}
use Rattle.machine_core.proofs.Here.{Seen}
use Rattle.machine_core.proofs.Legal.{Laws, parts}
use Rattle.machine_core.proofs.Lists.{found}
use Rattle.machine_core.proofs.Parts.{gid_is}
use Rattle.machine_core.proofs.Sharing.{share_by_wants, wants_share}
use Rattle.machine_core.proofs.Rooms.{added_here}
use Rattle.machine_core.proofs.Twins.{Stands}

-- the download under a gid has it
added_gid : (v : MachineView) (gid : Gid) (d : Download) → download_in v.start v.past gid ≡ Some d → d.gid ≡ gid
added_gid v gid d added = gid_is gid d.gid (found (is_download gid) (downloads_in v) d added).passes

-- the download at a place is the one under its gid
pub under_gid : (s : MachineState) (v : MachineView) (at : ℕ) (x : Entry) → Seen s v → (st : Stands s v at x)
    → download_in v.start v.past st.download.gid ≡ Some st.download
under_gid s v at x seen st =
    subst (λ (w : MachineView). download_in w.start w.past st.download.gid ≡ Some st.download) seen.view_is
    (added_here s v st.download.gid at x seen st.here ∙ ap Some st.same)

-- a download that is opened has a plan
pub opened_plan : Laws → (s : MachineState) (v : MachineView) (gid : Gid) → Seen s v
    → is_opened (own_of v.start v.past gid) ≡ true → HasPlan v gid
opened_plan laws s v gid seen opened =
    let was : is_opened (own_of s.start (reverse s.events) gid) ≡ true =
    subst (λ (w : MachineView). is_opened (own_of w.start w.past gid) ≡ true) (sym seen.view_is) opened in
    let p = (parts laws s.start (reverse s.events) gid seen.keeps.legal).planned was in
    subst (λ (w : MachineView). HasPlan w gid) seen.view_is
    (record { lengths = p.lengths; known = p.known; plan = p.plan })

-- ---- one place

match_test : (b t : Bool) (P : Type 0) → b ≡ t → (t ≡ true → P) → (P → t ≡ true) → MatchBool b P (P → ⊥)
match_test true t P is to from = to (sym is)
match_test false t P is to from = λ p. (let f : false ≡ true = is ∙ from p in cc)

pub match_true : (b : Bool) (P Q : Type 0) → b ≡ true → MatchBool b P Q → P
match_true true P Q is h = h
match_true false P Q is h = absurd cc

pub match_false : (b : Bool) (P Q : Type 0) → b ≡ false → MatchBool b P Q → Q
match_false false P Q is h = h
match_false true P Q is h = absurd cc

pub told_none : {A : Type 0} (P : Type 0) (o : Option A) → o ≡ None → IfNone o P → P
told_none P o is h = rw is at h

pub if_ok : {A E : Type 0} (P Q : A → Type 0) (r : Result A E) → ((x : A) → P x → Q x) → IfOk r P → IfOk r Q
if_ok P Q (Ok x) to h = to x h
if_ok P Q (Err e) to h = tt

pub not_beside : (v : MachineView) (gid : Gid) (at : ℕ) → (IsBesideAt v gid at → ⊥) → HasFileAt v gid at → ⊥
not_beside v gid at none h = none (record { download = h.download; added = h.added; beside = h.beside })

at_place : (s : MachineState) (v : MachineView) (at : ℕ) (x : Entry) (d : Download) → (st : Stands s v at x)
    → slice_get (downloads_in v) at ≡ Some d → d ≡ st.download
at_place s v at x d st added = same_Some d st.download (sym added ∙ st.seen_added)

-- one that is opened has a want
pub no_want : Laws → (s : MachineState) (v : MachineView) (gid : Gid) (at : ℕ) (x : Entry) → Seen s v
    → Stands s v at x → (HasPlan v x.gid → ⊥) → HasFileAt v gid at → ⊥
no_want laws s v gid at x seen st none h =
    let same : h.download.gid ≡ x.gid =
    ap (λ (d : Download). d.gid) (at_place s v at x h.download st h.added) ∙ sym st.gid_is in
    none (subst (HasPlan v) same (opened_plan laws s v h.download.gid seen h.beside.opened))

-- the wants share a name just where it writes a file of the other
pub file_at : (s : MachineState) (v : MachineView) (gid : Gid) (at : ℕ) (x : Entry) (want other : Want) (b : Bool)
    → Seen s v → Stands s v at x → HasWant v.start v.past gid want → IsBesideAt v gid at
    → HasWant v.start v.past x.gid other → b ≡ share_names want other
    → MatchBool b (HasFileAt v gid at) (HasFileAt v gid at → ⊥)
file_at s v gid at x want other b seen st ours beside theirs is =
    let twin : theirs.download ≡ st.download =
    same_Some theirs.download st.download
    (sym theirs.added
    ∙ (ap (download_in v.start v.past) st.gid_is ∙ under_gid s v at x seen st)) in
    match_test b (share_names want other) (HasFileAt v gid at) is
    (λ shares. record {
      download = beside.download;
      added = beside.added;
      beside = beside.beside;
      own = ours.download;
      own_added = ours.added;
      shared = subst (λ (d : Download). ShareName ours.download d)
          (twin ∙ sym (at_place s v at x beside.download st beside.added))
          (share_by_wants ours.download theirs.download ours.lengths theirs.lengths want other ours.is theirs.is shares);
    })
    (λ h. wants_share ours.download theirs.download ours.lengths theirs.lengths want other ours.is theirs.is
    (subst (λ (d : Download). ShareName d theirs.download)
    (same_Some h.own ours.download (sym h.own_added ∙ ours.added))
    (subst (λ (d : Download). ShareName h.own d)
    (at_place s v at x h.download st h.added ∙ sym twin) h.shared)))

-- ---- all downloads

pub file_twin : (s : MachineState) (v : MachineView) (gid : Gid) (at : ℕ) (x : Entry) → Seen s v → Stands s v at x
    → HasFileAt v gid at → IsFileTwin v gid x.gid
file_twin s v gid at x seen st h =
    let same : h.download ≡ st.download = at_place s v at x h.download st h.added in
    subst (λ (g : Gid). IsFileTwin v gid g) (ap (λ (d : Download). d.gid) same ∙ sym st.gid_is)
    (record {
      download = h.own;
      added = h.own_added;
      same = record {
        beside = subst (λ (g : Gid). IsOpenedBeside v.start v.past g h.download.gid)
            (sym (added_gid v gid h.own h.own_added)) h.beside;
        twin = h.download;
        added = subst (λ (d : Download). download_in v.start v.past d.gid ≡ Some d) (sym same) (under_gid s v at x seen st);
        shared = h.shared;
      };
    })

pub no_file_twin : (s : MachineState) (v : MachineView) (gid : Gid) (n : ℕ) → Seen s v
    → length s.entries ≡ n → ((i : ℕ) → i < n → HasFileAt v gid i → ⊥) → (other : Gid) → IsFileTwin v gid other → ⊥
no_file_twin s v gid n seen long none other t =
    let ds = downloads_in v in
    let i = position_or_len (is_download other) ds in
    let at : slice_get ds i ≡ Some t.same.twin = sym (find_at (is_download other) ds) ∙ t.same.added in
    let many = seen.keeps.downloads.many in
    let same_len : length ds ≡ length (replay_of s.start (reverse s.events)).downloads =
    ap (λ (w : MachineView). length (replay_of w.start w.past).downloads) (sym seen.view_is) in
    let within = slice_get_within ds i t.same.twin at in
    none i (omega arith) (record {
      download = t.same.twin;
      added = at;
      beside = subst (λ (g : Gid). IsOpenedBeside v.start v.past gid g) (sym (added_gid v other t.same.twin t.same.added))
          (subst (λ (g : Gid). IsOpenedBeside v.start v.past g other) (added_gid v gid t.download t.added) t.same.beside);
      own = t.download;
      own_added = t.added;
      shared = t.same.shared;
    })

-- ---- the clash

pub hash_clash : (v : MachineView) (gid other : Gid) → IsHashTwin v gid other → HasClash v gid (end.SameHash other)
hash_clash v gid other t = record { download = t.download; added = t.added; clash = t.same }

pub file_clash : (v : MachineView) (gid other : Gid) → ((twin : Gid) → IsHashTwin v gid twin → ⊥)
    → IsFileTwin v gid other → HasClash v gid (end.SameFile other)
file_clash v gid other none t =
    record {
      download = t.download;
      added = t.added;
      clash = (t.same, λ twin same. none twin (record { download = t.download; added = t.added; same = same }));
    }

no_clash : (v : MachineView) (gid : Gid) (d : Download) → download_in v.start v.past gid ≡ Some d
    → ((twin : Gid) → IsHashTwin v gid twin → ⊥) → ((twin : Gid) → IsFileTwin v gid twin → ⊥)
    → (how : End) → IsClash v.start v.past d how → ⊥
no_clash v gid d added hash file (end.SameHash other) h = hash other (record { download = d; added = added; same = h })
no_clash v gid d added hash file (end.SameFile other) h = file other (record { download = d; added = added; same = h.0 })
no_clash v gid d added hash file how h = h

pub clear : (v : MachineView) (gid : Gid) → ((twin : Gid) → IsHashTwin v gid twin → ⊥)
    → ((twin : Gid) → IsFileTwin v gid twin → ⊥) → IsClear v gid
clear v gid hash file d added = no_clash v gid d added hash file

is_false : (b : Bool) → (b ≡ true → ⊥) → b ≡ false
is_false true none = absurd (none refl)
is_false false none = refl

pub shares_none : (v : MachineView) (gid : Gid) → (HasPlan v gid → (twin : Gid) → IsFileTwin v gid twin → ⊥)
    → SharesNoName v gid
shares_none v gid none want other twin ours beside theirs =
    let plan : HasPlan v gid =
    record {
      lengths = ours.lengths;
      known = ours.known;
      plan = subst (λ (l : PayloadLengths). IsPlan l.total l.piece_len) ours.is.plan want.plan.is_plan;
    } in
    is_false (share_names want twin)
    (λ shares. none plan other (record {
      download = ours.download;
      added = ours.added;
      same = record {
        beside = subst (λ (g : Gid). IsOpenedBeside v.start v.past g other)
            (sym (added_gid v gid ours.download ours.added)) beside;
        twin = theirs.download;
        added = theirs.added;
        shared = share_by_wants ours.download theirs.download ours.lengths theirs.lengths want twin ours.is theirs.is shares;
      };
    }))

-- ---- the end

end_cause : (v : MachineView) (gid : Gid) (d : Download) (wanted : List Bool) (how : End) → d.gid ≡ gid
    → IsOpening v.start v.past gid → IsClash v.start v.past d how → IsEndCause v.start v.past d wanted how
end_cause v gid d wanted (end.SameHash other) is opening h =
    (subst (IsOpening v.start v.past) (sym is) opening, h)
end_cause v gid d wanted (end.SameFile other) is opening h =
    (subst (IsOpening v.start v.past) (sym is) opening, h.0)
end_cause v gid d wanted how is opening h = absurd h

pub may_end : (v : MachineView) (gid : Gid) (how : End) → HasClash v gid how → IsBeforeOpening v gid
    → MayFollow v.start v.past (Ended gid how)
may_end v gid how h before =
    record {
      own = before.going;
      cause = end_cause v gid before.going.download
          (wanted_pieces before.going.download (known_lengths v.start v.past gid)) how
          (added_gid v gid before.going.download before.going.added) before.opening
          (subst (λ (d : Download). IsClash v.start v.past d how)
          (same_Some h.download before.going.download (sym h.added ∙ before.going.added)) h.clash);
    }
