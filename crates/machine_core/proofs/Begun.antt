-- What a download is opened with, by what is kept of it.
use Rattle.std.proofs.Common.{◌≡◌, ◌+◌, ℕ, zero, suc, Bool, true, false, cond, Option, Some, None, ◌<◌, ◌≤◌, List, [], ◌∷◌, ◌++◌, get_or, length, map, set, arith, reverse, slice_get, refl, sym, ap, ◌∙◌, subst, Bor}
use Rattle.std.specs.Prelude.{◌↔◌, find, IfNone, IsNone, IsSome, option_copied, replicate, sum_by}
use Rattle.std.specs.List.{enumerate_from, range_with_len}
use Rattle.std.specs.Option.{is_some, option_and_then, option_map, option_map_or, unwrap_or}
use Rattle.std.proofs.lemmas.List.{get_or-replicate, length-replicate}
use Rattle.std.proofs.lemmas.List.Sums.{sum_by-cons}
use Rattle.std.proofs.lemmas.List.FromFn.{fill_by_all, length-map-range_with_len}
use Rattle.std.proofs.lemmas.Option.{same_Some, slice_get_read, slice_get_within}
use Rattle.dl_kinds.specs.Plan.{IsPlan, blocks_of, pieces_of}
use Rattle.dl_kinds.specs.declared.gid.Gid.{Gid}
use Rattle.dl_kinds.specs.declared.plan.Plan.{Plan}
use Rattle.dl_kinds.specs.declared.runs.Moment.{Moment}
use Rattle.dl_history.specs.Accounts.{Account, at_opening}
use Rattle.dl_history.specs.OwnEvents.{OwnEvent, Opens}
use Rattle.dl_history.specs.PayloadParts.{is_landed_in, is_opened, told_total}
use Rattle.dl_queue.specs.Calls.{options_in}
use Rattle.dl_queue.specs.declared.kinds.Added.{Added}
use Rattle.file_choice.proofs.Flags.{all_true}
use Rattle.metainfo.specs.declared.meta.Meta.{Meta}
use Rattle.one_download.specs.DownloadLaws.{AccountsTellOpening}
use Rattle.one_download.specs.DownloadViews.{DownloadView, IsRoomier, is_opened_by}
use Rattle.option_set.specs.Values.{OptionValues, number_value, text_of_word}
use Rattle.option_set.specs.declared.kinds.Num.TheVariants as num
use Rattle.option_set.specs.declared.kinds.Word.TheVariants as word
use Rattle.piece_table.specs.Progress.{Progress}
use Rattle.piece_table.specs.Sums.{block_bytes, completed_of, sum_where}
use Rattle.machine_core.specs.Choices.{options_now}
use Rattle.machine_core.specs.MachineParts.{KeepsDownload, KeepsRun, MachineState, added_as, kept_room, subject_of_event}
use Rattle.machine_core.specs.MachineViews.{MachineView}
use Rattle.machine_core.specs.Openings.{HasPlan, IsToOpen, landed_bytes_in, landed_bytes_of, lengths_of_plan, lengths_with, meta_of_event, meta_of_subject, wanted_of_gid, wanted_with}
use Rattle.machine_core.specs.OwnParts.{PayloadLengths, lengths_by, no_lengths, own_of, payload_lengths_of, with_own}
use Rattle.machine_core.specs.Reads.{IsOpenedGid, IsPieceOfGid, lengths_of_gid, own_of_gid}
use Rattle.machine_core.specs.Replays.{download_of, is_same_gid, replay_of}
use Rattle.machine_core.specs.RunLegal.{MayBeOpened, MayFollow, download_in, known_lengths}
use Rattle.machine_core.specs.Starts.{Download, Subject, Listed, Unlisted}
use Rattle.machine_core.specs.TurnRooms.{AreRoomier}
use Rattle.machine_core.specs.Wanted.{wanted_by, wanted_pieces}
use Rattle.machine_core.specs.declared.entries.Entry.{Entry}
use Rattle.machine_core.specs.declared.events.Event.{Event}
use Rattle.machine_core.specs.declared.events.Event.TheVariants.{Opened}
use Rattle.machine_core.proofs.Fitting.{IsKnown, some_is}
use Rattle.machine_core.proofs.Here.{Here, Seen, known_here, may_here}
use Rattle.machine_core.proofs.Legal.{Laws, known_idle}
use Rattle.machine_core.proofs.Lists.{element_at}
use Rattle.machine_core.proofs.Reading.{called_within}
use Rattle.machine_core.proofs.Rooms.{added_here}
use Rattle.machine_core.proofs.Steps.{IsAt, lengths_of, own_here, run_step, untouched}
use Rattle.machine_core.proofs.Turns.{onto}
use Rattle.machine_core.proofs.Widening.{none_roomier, one_roomier}

-- ---- what is read through a reference

pub copied_some : {A : Type 0} (o : Option (Bor A)) (x : A) → option_copied o ≡ Some x → IsSome o
copied_some None x is = absurd cc
copied_some (Some y) x is = refl

pub copied_is : {A : Type 0} (o : Option (Bor A)) (y : Bor A) (x : A) → o ≡ Some y → option_copied o ≡ Some x → y.now ≡ x
copied_is o y x o_is is = same_Some y.now x (sym (ap option_copied o_is) ∙ is)

pub copied_now : {A : Type 0} (o : Option (Bor A)) (y : Bor A) (z : Option A) → o ≡ Some y → option_copied o ≡ z
    → z ≡ Some y.now
copied_now o y z o_is is = sym is ∙ ap option_copied o_is

-- ---- the options that it began with

option_cond : (t : Bool) (d : Download) (a : Option Added) (b : Option Download)
    → option_map (λ (x : Added). x.options) a ≡ option_map (λ (x : Download). x.options) b
    → option_map (λ (x : Added). x.options) (cond t (Some (added_as d)) a)
    ≡ option_map (λ (x : Download). x.options) (cond t (Some d) b)
option_cond true d a b same = refl
option_cond false d a b same = same

options_found : (gid : Gid) (ds : List Download)
    → options_in (map added_as ds) gid ≡ option_map (λ (d : Download). d.options) (download_of ds gid)
options_found gid [] = refl
options_found gid (d ∷ ds) =
    option_cond (is_same_gid gid d.gid) d (find (λ (x : Added). is_same_gid gid x.gid) (map added_as ds)) (download_of ds gid)
    (options_found gid ds)

pub begun_options : (s : MachineState) (v : MachineView) (gid : Gid) (at : ℕ) (x : Entry) → Seen s v
    → (h : Here s gid at x) → options_in s.queue.added gid ≡ Some h.download.options
begun_options s v gid at x seen h =
    let ds = (replay_of s.start (reverse s.events)).downloads in
    ap (λ q. options_in q.added gid) seen.keeps.queue.queue_is
    ∙ (ap (λ (added : List Added). options_in added gid) seen.keeps.queue.added
    ∙ (options_found gid ds ∙ ap (option_map (λ (d : Download). d.options)) (added_here s v gid at x seen h)))

-- ---- the call that added it

pub has_event : (s : MachineState) (v : MachineView) (gid : Gid) (at : ℕ) (x : Entry) (o : Option (Bor Event)) → Seen s v
    → Here s gid at x → option_copied o ≡ slice_get s.events x.called → IsSome o
has_event s v gid at x o seen h is =
    let e = element_at s.events x.called (called_within s v at x seen h.is.there) in
    copied_some o e.0 (is ∙ e.1)

pub meta_by : (e : Event) (subject : Subject) → subject_of_event e ≡ Some subject
    → meta_of_event e ≡ meta_of_subject subject
meta_by e subject is = ap (option_and_then meta_of_subject) is

-- ---- its lengths

lengths_of_subject : (d : Download) (subject : Subject) (own : List OwnEvent)
    → lengths_with (meta_of_subject subject) (number_value d.options num.PieceLength) (told_total own)
    ≡ lengths_by d subject own
lengths_of_subject d (Listed meta uris) own = refl
lengths_of_subject d (Unlisted uris) own = refl

pub lengths_read : Laws → AccountsTellOpening → (s : MachineState) (v : MachineView) (gid : Gid) (at : ℕ) (x : Entry)
    → Seen s v → (h : Here s gid at x) → (meta : Option Meta) → meta ≡ meta_of_subject h.download.subject
    → (options : OptionValues) → options ≡ h.download.options → (n : ℕ) → n ≡ number_value options num.PieceLength
    → (told : Option ℕ) → told ≡ x.state.account.told
    → lengths_with meta n told ≡ payload_lengths_of v.start v.past gid
lengths_read laws tells s v gid at x seen h meta meta_is options options_is n n_is told told_is =
    let own = own_of s.start (reverse s.events) gid in
    let d = h.download in
    let kn = known_here laws tells s v gid at x seen h in
    ap (λ (m : Option Meta). lengths_with m n told) meta_is
    ∙ (ap (λ (k : ℕ). lengths_with (meta_of_subject d.subject) k told) n_is
    ∙ (ap (λ (o : OptionValues). lengths_with (meta_of_subject d.subject) (number_value o num.PieceLength) told) options_is
    ∙ (ap (lengths_with (meta_of_subject d.subject) (number_value d.options num.PieceLength)) (told_is ∙ kn.matches.told)
    ∙ (lengths_of_subject d d.subject own
    ∙ (sym (ap (option_and_then (λ (e : Download). lengths_by e e.subject own)) (added_here s v gid at x seen h))
    ∙ ap (λ (w : MachineView). payload_lengths_of w.start w.past gid) seen.view_is)))))

pub has_plan : (v : MachineView) (gid : Gid) (o : Option Plan) (told : Option PayloadLengths) → HasPlan v gid
    → told ≡ payload_lengths_of v.start v.past gid
    → IfNone o ((lengths : PayloadLengths) → told ≡ Some lengths → IsPlan lengths.total lengths.piece_len → ⊥)
    → IsSome o
has_plan v gid None told h is none = absurd (none h.lengths (is ∙ h.known) h.plan)
has_plan v gid (Some plan) told h is none = refl

-- ---- the pieces that are wanted

wanted_of_subject : (subject : Subject) (text : Option (List ℕ)) (lengths : PayloadLengths)
    → wanted_with (meta_of_subject subject) text lengths.total lengths.piece_len
    ≡ map (wanted_by subject text lengths) (range_with_len 0 (pieces_of lengths.total lengths.piece_len))
wanted_of_subject (Listed meta uris) text lengths = refl
wanted_of_subject (Unlisted uris) text lengths = all_true 0 (pieces_of lengths.total lengths.piece_len)

pub to_open : (s : MachineState) (v : MachineView) (gid : Gid) (at : ℕ) (x : Entry) → Seen s v → (h : Here s gid at x)
    → (meta : Option Meta) → meta ≡ meta_of_subject h.download.subject
    → (options : OptionValues) → options ≡ h.download.options
    → (told : Option PayloadLengths) → told ≡ payload_lengths_of v.start v.past gid
    → (plan : Plan) → told ≡ Some (lengths_of_plan plan)
    → (text : Option (List ℕ)) → text ≡ text_of_word options word.SelectFile
    → (wanted : List Bool) → wanted ≡ wanted_with meta text plan.total plan.piece_len
    → IsToOpen v gid at plan wanted
to_open s v gid at x seen h meta meta_is options options_is told told_is plan plan_is text text_is wanted wanted_is =
    let d = h.download in
    let lengths : known_lengths v.start v.past gid ≡ lengths_of_plan plan =
    ap (λ (o : Option PayloadLengths). unwrap_or o no_lengths) (sym told_is ∙ plan_is) in
    record {
      download = d;
      added = subst (λ (w : MachineView). slice_get (replay_of w.start w.past).downloads at ≡ Some d) seen.view_is h.is.added;
      gid_is = h.is.gid_is;
      lengths = sym lengths;
      wanted_is =
          wanted_is
          ∙ (ap (λ (m : Option Meta). wanted_with m text plan.total plan.piece_len) meta_is
          ∙ (ap (λ (t : Option (List ℕ)). wanted_with (meta_of_subject d.subject) t plan.total plan.piece_len) text_is
          ∙ (ap (λ (o : OptionValues). wanted_with (meta_of_subject d.subject) (text_of_word o word.SelectFile) plan.total plan.piece_len) options_is
          ∙ (wanted_of_subject d.subject (text_of_word d.options word.SelectFile) (lengths_of_plan plan)
          ∙ ap (wanted_pieces d) (sym lengths)))));
    }

-- ---- the opening

-- the entry at the place
pub to_open_here : (s : MachineState) (v : MachineView) (gid : Gid) (at : ℕ) (x : Entry) (plan : Plan) (wanted : List Bool)
    → Seen s v → IsToOpen v gid at plan wanted → x ≡ get_or s.entries at x → Here s gid at x
to_open_here s v gid at x plan wanted seen o x_is =
    let added : slice_get (replay_of s.start (reverse s.events)).downloads at ≡ Some o.download =
    subst (λ (w : MachineView). slice_get (replay_of w.start w.past).downloads at ≡ Some o.download) (sym seen.view_is) o.added in
    let w = slice_get_within (replay_of s.start (reverse s.events)).downloads at o.download added in
    let many = seen.keeps.downloads.many in
    record {
      download = o.download;
      is = record {
        added = added;
        there = slice_get_read s.entries (length s.entries) at x refl (omega arith) x_is;
        gid_is = o.gid_is;
      };
    }

pub to_open_within : (s : MachineState) (v : MachineView) (gid : Gid) (at : ℕ) (plan : Plan) (wanted : List Bool)
    → Seen s v → IsToOpen v gid at plan wanted → at < length s.entries
to_open_within s v gid at plan wanted seen o =
    let added : slice_get (replay_of s.start (reverse s.events)).downloads at ≡ Some o.download =
    subst (λ (w : MachineView). slice_get (replay_of w.start w.past).downloads at ≡ Some o.download) (sym seen.view_is) o.added in
    let w = slice_get_within (replay_of s.start (reverse s.events)).downloads at o.download added in
    let many = seen.keeps.downloads.many in
    omega arith

pub wanted_long : (v : MachineView) (gid : Gid) (at : ℕ) (plan : Plan) (wanted : List Bool) → IsToOpen v gid at plan wanted
    → length wanted ≡ pieces_of plan.total plan.piece_len
wanted_long v gid at plan wanted o =
    ap (λ (row : List Bool). length row) (o.wanted_is ∙ ap (wanted_pieces o.download) (sym o.lengths))
    ∙ length-map-range_with_len (wanted_by o.download.subject (text_of_word o.download.options word.SelectFile) (lengths_of_plan plan))
    0 (pieces_of plan.total plan.piece_len)

-- it isn't opened, and no claim of it stands
pub record IsClosed (k : Account) : Type 0 where
  pub unopened : is_opened_by k ≡ false
  pub idle : k.standing ≡ []

pub closed_here : Laws → AccountsTellOpening → (s : MachineState) (v : MachineView) (gid : Gid) (at : ℕ) (x : Entry)
    (verified blocks : List Bool) (now : Moment) → Seen s v → Here s gid at x
    → MayFollow v.start v.past (Opened gid verified blocks now) → IsClosed x.state.account
closed_here laws tells s v gid at x verified blocks now seen h may =
    let m : MayBeOpened s.start (reverse s.events) gid verified blocks now =
    may_here s v (Opened gid verified blocks now) seen may in
    let kn = known_here laws tells s v gid at x seen h in
    record {
      unopened = kn.opened ∙ m.first;
      idle = kn.matches.claims.standing
          ∙ known_idle laws s.start (reverse s.events) gid m.lengths seen.keeps.legal m.known m.first;
    }

-- what is kept of it once it is opened
opened_keeps : (own : List OwnEvent) (l : PayloadLengths) (options : OptionValues) (verified blocks : List Bool)
    (now : Moment) (d : Download) (x : Entry) (state : DownloadView) → KeepsDownload own l options d x
    → state.account ≡ at_opening l.total l.piece_len x.state.account verified blocks now
    → state.wanted ≡ wanted_pieces d l → state.mirrors ≡ x.state.mirrors → state.max_tries ≡ x.state.max_tries
    → state.marks ≡ x.state.marks
    → KeepsDownload (Opens verified blocks now ∷ own) l options d (record x { state = state })
opened_keeps own l options verified blocks now d x state k account wanted mirrors max_tries marks =
    record {
      gid = k.gid;
      options_are = k.options_are;
      account = account ∙ ap (λ (a : Account). at_opening l.total l.piece_len a verified blocks now) k.account;
      marks = marks ∙ k.marks;
      mirrors = mirrors ∙ k.mirrors;
      max_tries = max_tries ∙ k.max_tries;
      hosts = k.hosts;
      wanted = λ h. wanted;
      known = k.known;
    }

opening : (past : List Event) (s : MachineState) (gid : Gid) (verified blocks : List Bool) (now : Moment)
    (at : ℕ) (d : Download) (x : Entry) (state : DownloadView) (room : ℕ) → KeepsRun past s
    → IsAt s.start past s.entries gid at d x → MayFollow s.start past (Opened gid verified blocks now)
    → state.account ≡ at_opening (known_lengths s.start past gid).total (known_lengths s.start past gid).piece_len
    x.state.account verified blocks now
    → state.wanted ≡ wanted_pieces d (known_lengths s.start past gid)
    → state.mirrors ≡ x.state.mirrors → state.max_tries ≡ x.state.max_tries → state.marks ≡ x.state.marks
    → kept_room s.start.doors s.left s.stopped ≤ room
    → KeepsRun (Opened gid verified blocks now ∷ past) (record s {
      events = s.events ++ Opened gid verified blocks now ∷ [];
      entries = set s.entries at (record x { state = state });
      room = room;
    })
opening past s gid verified blocks now at d x state room k here may account wanted mirrors max_tries marks room_is =
    let e = Opened gid verified blocks now in
    let o = Opens verified blocks now in
    let own : own_of s.start (e ∷ past) d.gid ≡ o ∷ own_of s.start past d.gid =
    ap (λ (g : Gid). with_own g d.gid o (own_of s.start past d.gid)) (sym here.gid_is)
    ∙ own_here d.gid o (own_of s.start past d.gid) in
    run_step past s e gid o at d x state s.queue room k here
    (record { own = λ g. refl; downloads = refl; options = λ b. refl }) (λ own. refl) k.queue
    (record { left_is = k.ends.left_is; stopped_is = k.ends.stopped_is }) may
    (untouched (o ∷ own_of s.start past d.gid) (own_of s.start (e ∷ past) d.gid) (known_lengths s.start past d.gid)
    (known_lengths s.start (e ∷ past) d.gid) (options_now s.start past d) (options_now s.start (e ∷ past) d) d
    (record x { state = state }) own
    (lengths_of s.start past e d.gid refl (ap told_total own)) refl
    (opened_keeps (own_of s.start past d.gid) (known_lengths s.start past d.gid) (options_now s.start past d) verified
    blocks now d x state (k.downloads.each at d x here.added here.there)
    (subst (λ (g : Gid). state.account ≡ at_opening (known_lengths s.start past g).total
    (known_lengths s.start past g).piece_len x.state.account verified blocks now) (sym here.gid_is) account)
    (subst (λ (g : Gid). state.wanted ≡ wanted_pieces d (known_lengths s.start past g)) (sym here.gid_is) wanted)
    mirrors max_tries marks))
    room_is

pub opens : (s : MachineState) (v : MachineView) (gid : Gid) (verified blocks : List Bool) (now : Moment) (at : ℕ)
    (x : Entry) (state : DownloadView) (plan : Plan) (wanted : List Bool) (events : List Event) (room : ℕ) → Seen s v
    → x ≡ get_or s.entries at x → IsToOpen v gid at plan wanted
    → MayFollow v.start v.past (Opened gid verified blocks now)
    → state.account ≡ at_opening plan.total plan.piece_len x.state.account verified blocks now → state.wanted ≡ wanted
    → state.mirrors ≡ x.state.mirrors → state.max_tries ≡ x.state.max_tries → state.marks ≡ x.state.marks
    → events ≡ s.events ++ Opened gid verified blocks now ∷ [] → s.room ≤ room
    → KeepsRun (reverse events)
    (record s { events = events; entries = set s.entries at (record x { state = state }); room = room })
unfolding to_open_here
opens s v gid verified blocks now at x state plan wanted events room seen x_is o may account wanted_is mirrors max_tries marks is more =
    let h = to_open_here s v gid at x plan wanted seen o x_is in
    let some = seen.keeps.room_is in
    let lengths : lengths_of_plan plan ≡ known_lengths s.start (reverse s.events) gid =
    subst (λ (w : MachineView). lengths_of_plan plan ≡ known_lengths w.start w.past gid) (sym seen.view_is) o.lengths in
    onto s (record s { entries = set s.entries at (record x { state = state }); room = room })
    (Opened gid verified blocks now) events is
    (opening (reverse s.events) s gid verified blocks now at h.download x state room seen.keeps h.is
    (may_here s v (Opened gid verified blocks now) seen may)
    (account ∙ ap (λ (l : PayloadLengths). at_opening l.total l.piece_len x.state.account verified blocks now) lengths)
    (wanted_is ∙ (o.wanted_is ∙ (ap (wanted_pieces o.download) (sym o.lengths) ∙ ap (wanted_pieces o.download) lengths)))
    mirrors max_tries marks (omega arith))

-- a failed opening leaves the download as it was
pub still_roomier : (entries : List Entry) (at : ℕ) (x : Entry) (state : DownloadView) → at < length entries
    → x ≡ get_or entries at x → state ≡ x.state → AreRoomier entries (set entries at (record x { state = state }))
still_roomier entries at x state within x_is same =
    one_roomier entries entries at x state (none_roomier entries)
    (slice_get_read entries (length entries) at x refl within x_is)
    (subst (λ (d : DownloadView). IsRoomier x.state d) (sym same)
    (record { same = refl; spare = omega arith; mark_spare = omega arith }))

-- the event is the last, also where the journal was given room before
pub added_to : (events was old : List Event) (e : Event) → events ≡ was ++ e ∷ [] → was ≡ old → events ≡ old ++ e ∷ []
added_to events was old e is same = is ∙ ap (λ (es : List Event). es ++ e ∷ []) same

-- ---- reads

-- the pieces that are wanted of an opened download
pub wanted_here : (s : MachineState) (v : MachineView) (gid : Gid) (at : ℕ) (x : Entry) → Seen s v
    → (h : Here s gid at x) → IsOpenedGid v gid → x.state.wanted ≡ wanted_of_gid v gid
wanted_here s v gid at x seen h opened =
    let start = s.start in
    let past = reverse s.events in
    let d = h.download in
    let kept = seen.keeps.downloads.each at d x h.is.added h.is.there in
    let was_opened : is_opened (own_of start past gid) ≡ true =
    subst (λ (w : MachineView). IsOpenedGid w gid) (sym seen.view_is) opened in
    let wanted : x.state.wanted ≡ wanted_pieces d (known_lengths start past gid) =
    subst (λ (g : Gid). x.state.wanted ≡ wanted_pieces d (known_lengths start past g)) h.is.gid_is
    (kept.wanted (subst (λ (g : Gid). is_opened (own_of start past g) ≡ true) (sym h.is.gid_is) was_opened)) in
    subst (λ (w : MachineView). x.state.wanted ≡ wanted_of_gid w gid) seen.view_is
    (wanted ∙ sym (ap (λ (o : Option Download). option_map_or (λ (e : Download). wanted_pieces e (known_lengths start past gid)) o [])
    (added_here s v gid at x seen h)))

pub wanted_each : (v : MachineView) (gid : Gid) (row : List Bool) (piece : ℕ) → row ≡ wanted_of_gid v gid
    → is_some (download_in v.start v.past gid) ≡ true → IsPieceOfGid v gid piece → piece < length row
wanted_each v gid row piece is added below =
    let d = some_is (download_in v.start v.past gid) added in
    let l = lengths_of_gid v gid in
    let long : length row ≡ pieces_of l.total l.piece_len =
    ap (λ (r : List Bool). length r)
    (is ∙ ap (λ (o : Option Download). option_map_or (λ (e : Download). wanted_pieces e l) o []) d.1)
    ∙ length-map-range_with_len (wanted_by d.0.subject (text_of_word d.0.options word.SelectFile) l) 0 (pieces_of l.total l.piece_len) in
    omega arith

pub added_seen : (s : MachineState) (v : MachineView) (gid : Gid) (at : ℕ) (x : Entry) → Seen s v → Here s gid at x
    → is_some (download_in v.start v.past gid) ≡ true
added_seen s v gid at x seen h =
    subst (λ (w : MachineView). is_some (download_in w.start w.past gid) ≡ true) seen.view_is
    (ap is_some (added_here s v gid at x seen h))

none_sum : (size : ℕ → ℕ) (first n : ℕ)
    → sum_by (λ (place : ℕ × Bool). cond place.1 (size place.0) 0) (enumerate_from first (replicate n false)) ≡ 0
none_sum size first zero = refl
none_sum size first (suc n) =
    sum_by-cons (λ (place : ℕ × Bool). cond place.1 (size place.0) 0) (first, false) (enumerate_from (first + 1) (replicate n false))
    ∙ (let rest = none_sum size (first + 1) n in omega arith)

landed_none : (total len : ℕ) (own : List OwnEvent) (k : Account) → IsKnown total len own k → is_opened own ≡ false
    → 0 ≡ landed_bytes_in total len own
landed_none total len own k kn un =
    let n = blocks_of total len in
    let row : replicate n false ≡ map (is_landed_in len own) (range_with_len 0 n) =
    fill_by_all (is_landed_in len own) (replicate n false) n false (length-replicate n false)
    (λ b below. get_or-replicate n b false false below
    ∙ (ap (λ (p : Progress). get_or p.landed b false) (sym (kn.matches.nothing un)) ∙ kn.matches.blocks b below)) in
    sym (none_sum (block_bytes total len) 0 n) ∙ ap (sum_where (block_bytes total len)) row

landed_some : (total len : ℕ) (own : List OwnEvent) (k : Account) → IsKnown total len own k → is_opened own ≡ true
    → completed_of k.progress ≡ landed_bytes_in total len own
landed_some total len own k kn opened =
    let fit = kn.matches.rows opened in
    ap (λ (n : ℕ). sum_where (block_bytes n k.progress.piece_len) k.progress.landed) fit.total_is
    ∙ (ap (λ (n : ℕ). sum_where (block_bytes total n) k.progress.landed) fit.piece_len_is
    ∙ ap (sum_where (block_bytes total len))
    (fill_by_all (is_landed_in len own) k.progress.landed (blocks_of total len) false fit.landed (λ b below. kn.matches.blocks b below)))

pub landed_unadded : (v : MachineView) (gid : Gid) → download_in v.start v.past gid ≡ None → 0 ≡ landed_bytes_of v gid
landed_unadded v gid none =
    sym (ap (λ (o : Option Download). landed_bytes_in
    (unwrap_or (option_and_then (λ (d : Download). lengths_by d d.subject (own_of_gid v gid)) o) no_lengths).total
    (unwrap_or (option_and_then (λ (d : Download). lengths_by d d.subject (own_of_gid v gid)) o) no_lengths).piece_len
    (own_of_gid v gid)) none)

-- the bytes that are kept, by whether it is opened
pub landed_kept : Laws → AccountsTellOpening → (s : MachineState) (v : MachineView) (gid : Gid) (at : ℕ) (x : Entry)
    → Seen s v → Here s gid at x → is_opened_by x.state.account ≡ true
    → completed_of x.state.account.progress ≡ landed_bytes_of v gid
landed_kept laws tells s v gid at x seen h opened =
    let kn = known_here laws tells s v gid at x seen h in
    subst (λ (w : MachineView). completed_of x.state.account.progress ≡ landed_bytes_of w gid) seen.view_is
    (landed_some _ _ _ x.state.account kn (sym kn.opened ∙ opened))

pub landed_unopened : Laws → AccountsTellOpening → (s : MachineState) (v : MachineView) (gid : Gid) (at : ℕ) (x : Entry)
    → Seen s v → Here s gid at x → is_opened_by x.state.account ≡ false → 0 ≡ landed_bytes_of v gid
landed_unopened laws tells s v gid at x seen h un =
    let kn = known_here laws tells s v gid at x seen h in
    subst (λ (w : MachineView). 0 ≡ landed_bytes_of w gid) seen.view_is
    (landed_none _ _ _ x.state.account kn (sym kn.opened ∙ un))

pub not_none : {A : Type 0} (o : Option A) (t : Bool) (x : A) → IsNone o ↔ (t ≡ false) → o ≡ Some x → t ≡ true
not_none o true x none is = refl
not_none o false x none is = absurd (let n : IsNone (Some x) = subst IsNone is (none.1 refl) in cc)
