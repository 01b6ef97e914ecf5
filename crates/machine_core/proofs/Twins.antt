-- Downloads of the same payload.
use Rattle.std.proofs.Common.{◌≡◌, ℕ, Bool, true, false, Option, Some, None, ◌<◌, List, length, get_or, reverse, slice_get, refl, sym, ap, ◌∙◌, subst, arith}
use Rattle.std.specs.Prelude.{IfSome, MatchBool}
use Rattle.std.specs.List.{position_or_len}
use Rattle.std.specs.Option.{is_some, option_map}
use Rattle.std.proofs.lemmas.List.Folds.{find_at}
use Rattle.std.proofs.lemmas.Option.{get_or_from_slice_get, same_Some, slice_get_read, slice_get_within}
use Rattle.dl_kinds.specs.declared.gid.Gid.{Gid}
use Rattle.dl_queue.specs.Lists.{QueueLists}
use Rattle.dl_history.specs.PayloadParts.{is_opened}
use Rattle.metainfo.specs.declared.meta.Meta.{Meta}
use Rattle.one_download.specs.DownloadLaws.{AccountsTellOpening}
use Rattle.one_download.specs.DownloadViews.{is_opened_by}
use Rattle.machine_core.specs.Clashes.{HasHashAt, IsBesideAt, IsHashTwin}
use Rattle.machine_core.specs.MachineParts.{MachineState, subject_of_event}
use Rattle.machine_core.specs.MachineViews.{IsPlaceOf, MachineView}
use Rattle.machine_core.specs.Openings.{meta_of_event, meta_of_subject}
use Rattle.machine_core.specs.OwnParts.{own_of}
use Rattle.machine_core.specs.Reads.{downloads_in}
use Rattle.machine_core.specs.Replays.{is_download, replay_of}
use Rattle.machine_core.specs.RunLegal.{IsOpenedBeside, download_in, goes_on, goes_on_in, info_hash_by}
use Rattle.machine_core.specs.Starts.{Download, Subject, Listed, Unlisted}
use Rattle.machine_core.specs.declared.entries.Entry.{Entry}
use Rattle.machine_core.specs.declared.events.Event.{Event}
use Rattle.machine_core.proofs.Begun.{meta_by}
use Rattle.machine_core.proofs.Here.{Here, Seen, here, opened_here, within}
use Rattle.machine_core.proofs.Legal.{Laws}
use Rattle.machine_core.proofs.Lists.{element_at, found}
use Rattle.machine_core.proofs.Parts.{gid_is}
use Rattle.machine_core.proofs.Rooms.{added_here}

-- the download and the entry at a place
pub record Stands (s : MachineState) (v : MachineView) (at : ℕ) (x : Entry) : Type 0 where
  pub download : Download
  pub seen_added : slice_get (downloads_in v) at ≡ Some download
  pub gid_is : x.gid ≡ download.gid
  pub here : Here s download.gid at x
  pub same : here.download ≡ download

pub place_within : (s : MachineState) (v : MachineView) (at : ℕ) → Seen s v → at < length (downloads_in v)
    → at < length s.entries
place_within s v at seen below =
    let many = seen.keeps.downloads.many in
    let same : length (downloads_in v) ≡ length (replay_of s.start (reverse s.events)).downloads =
    ap (λ (w : MachineView). length (replay_of w.start w.past).downloads) (sym seen.view_is) in
    omega arith

pub stands : (s : MachineState) (v : MachineView) (at : ℕ) (x : Entry) → Seen s v → at < length (downloads_in v)
    → x ≡ get_or s.entries at x → Stands s v at x
stands s v at x seen below x_is =
    let d = element_at (downloads_in v) at below in
    let added : slice_get (replay_of s.start (reverse s.events)).downloads at ≡ Some d.0 =
    subst (λ (w : MachineView). slice_get (replay_of w.start w.past).downloads at ≡ Some d.0) (sym seen.view_is) d.1 in
    let there : slice_get s.entries at ≡ Some x =
    slice_get_read s.entries (length s.entries) at x refl (place_within s v at seen below) x_is in
    record {
      download = d.0;
      seen_added = d.1;
      gid_is = (seen.keeps.downloads.each at d.0 x added there).gid;
      here = record { download = d.0; is = record { added = added; there = there; gid_is = refl } };
      same = refl;
    }

-- ---- its info hash

hash_of_subject : (subject : Subject)
    → option_map (λ (m : Meta). m.info_hash) (meta_of_subject subject) ≡ info_hash_by subject
hash_of_subject (Listed meta uris) = refl
hash_of_subject (Unlisted uris) = refl

pub hash_by : (v : MachineView) (at : ℕ) (e : Event) (hash : Option (List ℕ))
    → ((d : Download) → slice_get (downloads_in v) at ≡ Some d → subject_of_event e ≡ Some d.subject)
    → hash ≡ option_map (λ (m : Meta). m.info_hash) (meta_of_event e)
    → (d : Download) → slice_get (downloads_in v) at ≡ Some d → hash ≡ info_hash_by d.subject
hash_by v at e hash subject is d added =
    is
    ∙ (ap (option_map (λ (m : Meta). m.info_hash)) (meta_by e d.subject (subject d added))
    ∙ hash_of_subject d.subject)

-- ---- another download

going_here : (s : MachineState) (v : MachineView) (gid : Gid) → Seen s v
    → goes_on s.queue gid ≡ goes_on_in v.start v.past gid
going_here s v gid seen =
    ap (λ (q : QueueLists). goes_on q gid) seen.keeps.queue.queue_is
    ∙ ap (λ (w : MachineView). goes_on_in w.start w.past gid) seen.view_is

same_download : (s : MachineState) (v : MachineView) (at : ℕ) (x : Entry) (d : Download) → (st : Stands s v at x)
    → slice_get (downloads_in v) at ≡ Some d → d ≡ st.download
same_download s v at x d st added = same_Some d st.download (sym added ∙ st.seen_added)

pub not_apart : (s : MachineState) (v : MachineView) (gid : Gid) (at : ℕ) (x : Entry) → Stands s v at x
    → x.gid.0 ≡ gid.0 → IsBesideAt v gid at → ⊥
not_apart s v gid at x st same h =
    h.beside.apart (ap (λ (d : Download). d.gid.0) (same_download s v at x h.download st h.added)
    ∙ (ap (λ (g : Gid). g.0) (sym st.gid_is) ∙ same))

pub not_opened : Laws → AccountsTellOpening → (s : MachineState) (v : MachineView) (gid : Gid) (at : ℕ)
    (x : Entry) → Seen s v → Stands s v at x → is_opened_by x.state.account ≡ false → IsBesideAt v gid at → ⊥
not_opened laws tells s v gid at x seen st un h =
    let opened : is_opened (own_of v.start v.past st.download.gid) ≡ true =
    subst (λ (d : Download). is_opened (own_of v.start v.past d.gid) ≡ true)
    (same_download s v at x h.download st h.added) h.beside.opened in
    let f : false ≡ true = sym un ∙ (opened_here laws tells s v st.download.gid at x seen st.here ∙ opened) in
    cc

pub not_going : (s : MachineState) (v : MachineView) (gid : Gid) (at : ℕ) (x : Entry) → Seen s v
    → Stands s v at x → goes_on s.queue x.gid ≡ false → IsBesideAt v gid at → ⊥
not_going s v gid at x seen st stopped h =
    let going : goes_on_in v.start v.past x.gid ≡ true =
    subst (λ (g : Gid). goes_on_in v.start v.past g ≡ true)
    (ap (λ (d : Download). d.gid) (same_download s v at x h.download st h.added) ∙ sym st.gid_is) h.beside.going in
    let f : false ≡ true = sym stopped ∙ (going_here s v x.gid seen ∙ going) in
    cc

pub goes_beside : Laws → AccountsTellOpening → (s : MachineState) (v : MachineView) (gid : Gid) (at : ℕ)
    (x : Entry) → Seen s v → Stands s v at x → (x.gid.0 ≡ gid.0 → ⊥)
    → is_opened_by x.state.account ≡ true
    → goes_on s.queue x.gid ≡ true → IsBesideAt v gid at
goes_beside laws tells s v gid at x seen st apart opened going =
    record {
      download = st.download;
      added = st.seen_added;
      beside = record {
        apart = λ same. apart (ap (λ (g : Gid). g.0) st.gid_is ∙ same);
        opened = sym (opened_here laws tells s v st.download.gid at x seen st.here) ∙ opened;
        going = subst (λ (g : Gid). goes_on_in v.start v.past g ≡ true) st.gid_is
            (sym (going_here s v x.gid seen) ∙ going);
      };
    }

-- whether it goes on decides it
pub beside_by : (b : Bool) (P : Type 0) → (b ≡ false → P → ⊥) → (b ≡ true → P) → MatchBool b P (P → ⊥)
beside_by true P none one = one refl
beside_by false P none one = none refl

-- .. with its info hash
pub hash_beside : (v : MachineView) (gid : Gid) (hash : List ℕ) (at : ℕ) (o : Option (List ℕ)) (b : Bool)
    → ((d : Download) → slice_get (downloads_in v) at ≡ Some d → o ≡ info_hash_by d.subject) → o ≡ Some hash
    → MatchBool b (IsBesideAt v gid at) (IsBesideAt v gid at → ⊥)
    → MatchBool b (HasHashAt v gid hash at) (HasHashAt v gid hash at → ⊥)
hash_beside v gid hash at o true is hash_is h =
    record {
      download = h.download;
      added = h.added;
      beside = h.beside;
      hash_is = sym (is h.download h.added) ∙ hash_is;
    }
hash_beside v gid hash at o false is hash_is none =
    λ h. none (record { download = h.download; added = h.added; beside = h.beside })

pub not_hash : (v : MachineView) (gid : Gid) (hash : List ℕ) (at : ℕ) (o : Option (List ℕ))
    → ((d : Download) → slice_get (downloads_in v) at ≡ Some d → o ≡ info_hash_by d.subject)
    → (o ≡ Some hash → ⊥) → HasHashAt v gid hash at → ⊥
not_hash v gid hash at o is other h = other (is h.download h.added ∙ h.hash_is)

-- ---- all downloads

pub twin_at : (s : MachineState) (v : MachineView) (gid : Gid) (place at : ℕ) (x y : Entry) (hash : List ℕ) → Seen s v
    → (h : Here s gid place x) → ((d : Download) → slice_get (downloads_in v) place ≡ Some d → Some hash ≡ info_hash_by d.subject)
    → Stands s v at y → HasHashAt v gid hash at → IsHashTwin v gid y.gid
twin_at s v gid place at x y hash seen h own st t =
    let added : slice_get (downloads_in v) place ≡ Some h.download =
    subst (λ (w : MachineView). slice_get (replay_of w.start w.past).downloads place ≡ Some h.download) seen.view_is h.is.added in
    let own_hash : Some hash ≡ info_hash_by h.download.subject = own h.download added in
    let same : t.download ≡ st.download = same_download s v at y t.download st t.added in
    let twin : download_in v.start v.past st.download.gid ≡ Some st.download =
    subst (λ (w : MachineView). download_in w.start w.past st.download.gid ≡ Some st.download) seen.view_is
    (added_here s v st.download.gid at y seen st.here ∙ ap Some st.same) in
    subst (λ (g : Gid). IsHashTwin v gid g) (sym st.gid_is)
    (record {
      download = h.download;
      added = subst (λ (w : MachineView). download_in w.start w.past gid ≡ Some h.download) seen.view_is (added_here s v gid place x seen h);
      same = record {
        beside = subst (λ (g : Gid). IsOpenedBeside v.start v.past g st.download.gid) (sym h.is.gid_is)
            (subst (λ (d : Download). IsOpenedBeside v.start v.past gid d.gid) same t.beside);
        twin = st.download;
        added = twin;
        listed = ap is_some (sym own_hash);
        same = ap (λ (d : Download). info_hash_by d.subject) (sym same) ∙ (t.hash_is ∙ own_hash);
      };
    })

-- no place has one, so none is
pub no_twin : (s : MachineState) (v : MachineView) (gid : Gid) (place n : ℕ) (x : Entry) (hash : List ℕ) → Seen s v
    → (h : Here s gid place x) → ((d : Download) → slice_get (downloads_in v) place ≡ Some d → Some hash ≡ info_hash_by d.subject)
    → length s.entries ≡ n → ((i : ℕ) → i < n → HasHashAt v gid hash i → ⊥) → (other : Gid) → IsHashTwin v gid other → ⊥
no_twin s v gid place n x hash seen h own long none other t =
    let ds = downloads_in v in
    let i = position_or_len (is_download other) ds in
    let at : slice_get ds i ≡ Some t.same.twin = sym (find_at (is_download other) ds) ∙ t.same.added in
    let gid_same : t.same.twin.gid ≡ other =
    gid_is other t.same.twin.gid (found (is_download other) ds t.same.twin t.same.added).passes in
    let many = seen.keeps.downloads.many in
    let same_len : length ds ≡ length (replay_of s.start (reverse s.events)).downloads =
    ap (λ (w : MachineView). length (replay_of w.start w.past).downloads) (sym seen.view_is) in
    let within = slice_get_within ds i t.same.twin at in
    let own_added : download_in v.start v.past gid ≡ Some h.download =
    subst (λ (w : MachineView). download_in w.start w.past gid ≡ Some h.download) seen.view_is (added_here s v gid place x seen h) in
    let own_is : t.download ≡ h.download = same_Some t.download h.download (sym t.added ∙ own_added) in
    let place_added : slice_get ds place ≡ Some h.download =
    subst (λ (w : MachineView). slice_get (replay_of w.start w.past).downloads place ≡ Some h.download) seen.view_is h.is.added in
    none i (omega arith) (record {
      download = t.same.twin;
      added = at;
      beside = subst (λ (g : Gid). IsOpenedBeside v.start v.past gid g) (sym gid_same)
          (subst (λ (g : Gid). IsOpenedBeside v.start v.past g other)
          (ap (λ (d : Download). d.gid) own_is ∙ h.is.gid_is) t.same.beside);
      hash_is = t.same.same ∙ (ap (λ (d : Download). info_hash_by d.subject) own_is ∙ sym (own h.download place_added));
    })

-- the entry at the place of a download
pub placed : (s : MachineState) (v : MachineView) (gid : Gid) (o : Option ℕ) (at : ℕ) → Seen s v
    → IfSome o (IsPlaceOf v gid) → o ≡ Some at → (x : Entry) × Here s gid at x
placed s v gid o at seen found is =
    let e = element_at s.entries at (within s v gid o at seen found is) in
    (e.0, here s v gid o at e.0 seen found is (sym (get_or_from_slice_get s.entries at e.0 e.0 e.1)))

-- a download without an info hash is no twin
pub no_hash : (s : MachineState) (v : MachineView) (gid : Gid) (place : ℕ) (x : Entry) (o : Option (List ℕ)) → Seen s v
    → (h : Here s gid place x) → ((d : Download) → slice_get (downloads_in v) place ≡ Some d → o ≡ info_hash_by d.subject)
    → o ≡ None → (other : Gid) → IsHashTwin v gid other → ⊥
no_hash s v gid place x o seen h own none other t =
    let place_added : slice_get (downloads_in v) place ≡ Some h.download =
    subst (λ (w : MachineView). slice_get (replay_of w.start w.past).downloads place ≡ Some h.download) seen.view_is h.is.added in
    let own_added : download_in v.start v.past gid ≡ Some h.download =
    subst (λ (w : MachineView). download_in w.start w.past gid ≡ Some h.download) seen.view_is (added_here s v gid place x seen h) in
    let own_is : t.download ≡ h.download = same_Some t.download h.download (sym t.added ∙ own_added) in
    let f : false ≡ true =
    ap is_some (sym none ∙ own h.download place_added)
    ∙ (sym (ap (λ (d : Download). is_some (info_hash_by d.subject)) own_is) ∙ t.same.listed) in
    cc
