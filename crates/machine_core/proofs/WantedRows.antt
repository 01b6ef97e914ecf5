-- When a download has all that it is to have, by what is kept of it.
use Rattle.std.proofs.Common.{◌≡◌, ◌∙◌, ◌<◌, ◌≤◌, ℕ, Bool, true, false, cond, List, [], ◌∷◌, get_or, length, reverse, ◌+◌, refl, sym, ap, subst, arith, ⊎_elim}
use Rattle.std.specs.Prelude.{◌↔◌, IsNone, IsSome, MatchBool, Option, Some, None, find, map}
use Rattle.std.specs.Option.{is_some, option_map, option_map_or}
use Rattle.std.proofs.lemmas.Bool.{cases_lt}
use Rattle.std.proofs.lemmas.List.{get_or_past}
use Rattle.std.proofs.lemmas.List.FromFn.{length-map-range_with_len}
use Rattle.dl_history.specs.PayloadParts.{is_opened, is_verified_in}
use Rattle.dl_kinds.specs.Plan.{pieces_of}
use Rattle.dl_kinds.specs.declared.gid.Gid.{Gid}
use Rattle.dl_queue.specs.Calls.{options_in}
use Rattle.dl_queue.specs.declared.kinds.Added.{Added}
use Rattle.option_set.specs.Values.{text_of_word}
use Rattle.option_set.specs.declared.kinds.Word.TheVariants as word
use Rattle.one_download.specs.DownloadLaws.{AccountsTellOpening}
use Rattle.one_download.specs.DownloadViews.{is_opened_by}
use Rattle.machine_core.specs.Done.{IsDoneGid, IsRowWithin}
use Rattle.machine_core.specs.MachineParts.{MachineState, added_as}
use Rattle.machine_core.specs.MachineViews.{MachineView}
use Rattle.machine_core.specs.Openings.{wanted_of_gid}
use Rattle.machine_core.specs.OwnParts.{own_of}
use Rattle.machine_core.specs.Reads.{IsOpenedGid, lengths_of_gid, own_of_gid}
use Rattle.machine_core.specs.Replays.{download_of, is_same_gid, replay_of}
use Rattle.machine_core.specs.RunLegal.{download_in}
use Rattle.machine_core.specs.Starts.{Download}
use Rattle.machine_core.specs.Wanted.{wanted_by, wanted_pieces}
use Rattle.machine_core.specs.declared.entries.Entry.{Entry}
use Rattle.machine_core.proofs.Begun.{added_seen, wanted_here}
use Rattle.machine_core.proofs.Fitting.{some_is}
use Rattle.machine_core.proofs.Here.{Here, Seen, known_here, opened_here}
use Rattle.machine_core.proofs.Legal.{Laws}

-- ---- rows

-- up to a place each that is true in the first row is true in the second
abbrev pub IsWithinUpTo : ℕ → List Bool → List Bool → Type 0
IsWithinUpTo n first second = (p : ℕ) → p < n → get_or first p false ≡ true → get_or second p false ≡ true

pub within_next : (n : ℕ) (first second : List Bool) → IsWithinUpTo n first second
    → (get_or first n false ≡ true → get_or second n false ≡ true) → IsWithinUpTo (n + 1) first second
within_next n first second before here p below is =
    ⊎_elim
    (λ (earlier : p < n). before p earlier is)
    (λ (now : n ≤ p). let same : p ≡ n = omega (arith, now, below) in
    subst (λ (q : ℕ). get_or second q false ≡ true) (sym same)
    (here (subst (λ (q : ℕ). get_or first q false ≡ true) same is)))
    (cases_lt p n)

pub within_all : (n : ℕ) (first second : List Bool) → length first ≤ n → IsWithinUpTo n first second
    → IsRowWithin first second
within_all n first second long before p is =
    ⊎_elim
    (λ (earlier : p < n). before p earlier is)
    (λ (past : n ≤ p). absurd (let f : true ≡ false = sym is ∙ get_or_past first p false (omega (arith, long, past)) in cc))
    (cases_lt p n)

-- ---- a download

record RowsHere (v : MachineView) (gid : Gid) (x : Entry) : Type 0 where
  wanted : x.state.wanted ≡ wanted_of_gid v gid
  long : length x.state.wanted ≡ length x.state.account.progress.verified
  verified : (p : ℕ) → p < pieces_of (lengths_of_gid v gid).total (lengths_of_gid v gid).piece_len
      → get_or x.state.account.progress.verified p false ≡ is_verified_in (own_of_gid v gid) p

wanted_long : (v : MachineView) (gid : Gid) → is_some (download_in v.start v.past gid) ≡ true
    → length (wanted_of_gid v gid) ≡ pieces_of (lengths_of_gid v gid).total (lengths_of_gid v gid).piece_len
wanted_long v gid added =
    let d = some_is (download_in v.start v.past gid) added in
    let l = lengths_of_gid v gid in
    ap (λ (o : Option Download). length (option_map_or (λ (e : Download). wanted_pieces e l) o [])) d.1
    ∙ length-map-range_with_len (wanted_by d.0.subject (text_of_word d.0.options word.SelectFile) l) 0
    (pieces_of l.total l.piece_len)

-- a wanted piece is one of the payload
wanted_below : (v : MachineView) (gid : Gid) (p : ℕ) → is_some (download_in v.start v.past gid) ≡ true
    → get_or (wanted_of_gid v gid) p false ≡ true
    → p < pieces_of (lengths_of_gid v gid).total (lengths_of_gid v gid).piece_len
wanted_below v gid p added is =
    let n = pieces_of (lengths_of_gid v gid).total (lengths_of_gid v gid).piece_len in
    ⊎_elim
    (λ (below : p < n). below)
    (λ (past : n ≤ p). absurd (let f : true ≡ false = sym is ∙ get_or_past (wanted_of_gid v gid) p false
    (omega (arith, past, wanted_long v gid added)) in cc))
    (cases_lt p n)

rows_here : Laws → AccountsTellOpening → (s : MachineState) (v : MachineView) (gid : Gid) (at : ℕ) (x : Entry)
    → Seen s v → Here s gid at x → IsOpenedGid v gid → RowsHere v gid x
rows_here laws tells s v gid at x seen h opened =
    let kn = known_here laws tells s v gid at x seen h in
    let was_opened : is_opened (own_of s.start (reverse s.events) gid) ≡ true =
    subst (λ (w : MachineView). IsOpenedGid w gid) (sym seen.view_is) opened in
    let wanted = wanted_here s v gid at x seen h opened in
    let verified : (p : ℕ) → p < pieces_of (lengths_of_gid v gid).total (lengths_of_gid v gid).piece_len
    → get_or x.state.account.progress.verified p false ≡ is_verified_in (own_of_gid v gid) p =
    subst (λ (w : MachineView). (p : ℕ) → p < pieces_of (lengths_of_gid w gid).total (lengths_of_gid w gid).piece_len
    → get_or x.state.account.progress.verified p false ≡ is_verified_in (own_of_gid w gid) p) seen.view_is
    (λ p below. (kn.matches.pieces p below).verified) in
    let long : length x.state.account.progress.verified
    ≡ pieces_of (lengths_of_gid v gid).total (lengths_of_gid v gid).piece_len =
    subst (λ (w : MachineView). length x.state.account.progress.verified
    ≡ pieces_of (lengths_of_gid w gid).total (lengths_of_gid w gid).piece_len) seen.view_is
    (kn.matches.rows was_opened).verified in
    record {
      wanted = wanted;
      long = ap (λ (row : List Bool). length row) wanted
          ∙ (wanted_long v gid (added_seen s v gid at x seen h) ∙ sym long);
      verified = verified;
    }

-- the rows of what is wanted and verified have one length
pub rows_fit : Laws → AccountsTellOpening → (s : MachineState) (v : MachineView) (gid : Gid) (at : ℕ) (x : Entry)
    → Seen s v → Here s gid at x → IsOpenedGid v gid
    → length x.state.wanted ≡ length x.state.account.progress.verified
rows_fit laws tells s v gid at x seen h opened = (rows_here laws tells s v gid at x seen h opened).long

pub opened_kept : Laws → AccountsTellOpening → (s : MachineState) (v : MachineView) (gid : Gid) (at : ℕ) (x : Entry)
    → Seen s v → Here s gid at x → IsOpenedGid v gid → is_opened_by x.state.account ≡ true
opened_kept laws tells s v gid at x seen h opened = opened_here laws tells s v gid at x seen h ∙ opened

pub some_table : {A : Type 0} (o : Option A) (t : Bool) → IsNone o ↔ (t ≡ false) → t ≡ true → IsSome o
some_table None t none is = absurd (let f : t ≡ false = none.0 refl in let g : true ≡ false = sym is ∙ f in cc)
some_table (Some x) t none is = refl

-- what is kept says that it is done
pub done_here : Laws → AccountsTellOpening → (s : MachineState) (v : MachineView) (gid : Gid) (at : ℕ) (x : Entry)
    → Seen s v → Here s gid at x → IsOpenedGid v gid
    → IsRowWithin x.state.wanted x.state.account.progress.verified ↔ IsDoneGid v gid
done_here laws tells s v gid at x seen h opened =
    let r = rows_here laws tells s v gid at x seen h opened in (
      λ within p is.
          sym (r.verified p (wanted_below v gid p (added_seen s v gid at x seen h) is))
          ∙ within p (ap (λ (row : List Bool). get_or row p false) r.wanted ∙ is),
      λ done p is.
          let wanted : get_or (wanted_of_gid v gid) p false ≡ true =
          sym (ap (λ (row : List Bool). get_or row p false) r.wanted) ∙ is in
          r.verified p (wanted_below v gid p (added_seen s v gid at x seen h) wanted) ∙ done p wanted,
    )

pub done_by : (b : Bool) (P Q : Type 0) → P ↔ Q → MatchBool b P (¬ P) → MatchBool b Q (¬ Q)
done_by true P Q same p = same.0 p
done_by false P Q same none = λ q. none (same.1 q)

-- ---- the options that it began with

option_cond : (t : Bool) (d : Download) (a : Option Added) (b : Option Download)
    → option_map (λ (x : Added). x.options) a ≡ option_map (λ (x : Download). x.options) b
    → option_map (λ (x : Added). x.options) (cond t (Some (added_as d)) a)
    ≡ option_map (λ (x : Download). x.options) (cond t (Some d) b)
option_cond true d a b same = refl
option_cond false d a b same = same

options_of : (gid : Gid) (ds : List Download)
    → options_in (map added_as ds) gid ≡ option_map (λ (d : Download). d.options) (download_of ds gid)
options_of gid [] = refl
options_of gid (d ∷ ds) =
    option_cond (is_same_gid gid d.gid) d (find (λ (x : Added). is_same_gid gid x.gid) (map added_as ds))
    (download_of ds gid) (options_of gid ds)

pub begun_seen : (s : MachineState) (v : MachineView) (gid : Gid) → Seen s v
    → options_in s.queue.added gid ≡ option_map (λ (d : Download). d.options) (download_in v.start v.past gid)
begun_seen s v gid seen =
    let ds = (replay_of s.start (reverse s.events)).downloads in
    ap (λ q. options_in q.added gid) seen.keeps.queue.queue_is
    ∙ (ap (λ (added : List Added). options_in added gid) seen.keeps.queue.added
    ∙ (options_of gid ds
    ∙ ap (λ (w : MachineView). option_map (λ (d : Download). d.options) (download_in w.start w.past gid)) seen.view_is))
