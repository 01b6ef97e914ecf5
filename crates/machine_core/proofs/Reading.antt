-- What a machine's answers rest on.
use Rattle.std.proofs.Common.{◌≡◌, ℕ, Bool, true, false, Option, Some, None, ◌+◌, ◌<◌, List, length, get_or, map, slice_get, reverse, refl, sym, ap, ◌∙◌, subst, arith}
use Rattle.std.specs.Prelude.{◌↔◌, ◌==◌, ◌&&◌, ◌||◌, not, find, IfNone, IfSome, IsSome, IsTrue}
use Rattle.std.specs.List.{range_with_len}
use Rattle.std.specs.Option.{option_and_then, option_map}
use Rattle.std.proofs.lemmas.List.{get_or_default, reverse-reverse, same_lists}
use Rattle.std.proofs.lemmas.List.FromFn.{get_or-map-range_with_len, length-map-range_with_len}
use Rattle.std.proofs.lemmas.Option.{same_Some, slice_get_read, slice_get_within}
use Rattle.dl_kinds.specs.Plan.{blocks_of, piece_of, pieces_of}
use Rattle.dl_kinds.specs.declared.gid.Gid.{Gid}
use Rattle.dl_kinds.specs.declared.marks.Mark.{Mark}
use Rattle.dl_history.proofs.Listed.{lists_block, rows_same}
use Rattle.dl_history.specs.Accounts.{Account, listing_of}
use Rattle.dl_history.specs.Listings.{ListsNone, is_block_listed, last_listing, listing_in}
use Rattle.dl_history.specs.OwnEvents.{OwnEvent}
use Rattle.dl_history.specs.PayloadParts.{is_opened, is_verified_in}
use Rattle.mirror_blame.specs.Laws.{CountedCount, CountedGiveTries}
use Rattle.mirror_blame.specs.Marks.{IsDead, counted, last_mark_of}
use Rattle.mirror_blame.specs.declared.blame.Blame.{Blame}
use Rattle.one_download.specs.DownloadLaws.{AccountsTellOpening}
use Rattle.one_download.specs.DownloadViews.{IsPieceOf, is_opened_by}
use Rattle.machine_core.specs.MachineParts.{MachineState, subject_of_event}
use Rattle.machine_core.specs.MachineViews.{MachineView, is_added_in}
use Rattle.machine_core.specs.OwnParts.{own_of}
use Rattle.machine_core.specs.Reads.{HasNoDeadMark, IsPieceOfGid, IsAdding, IsAllSaved, IsDeadPiece, IsOpenedGid, IsPieceUnlisted, lengths_of_gid, own_of_gid}
use Rattle.machine_core.specs.Replays.{replay_of}
use Rattle.machine_core.specs.RunLegal.{IsDeadIn, download_in, marks_in, mirrors_by, tries_in}
use Rattle.machine_core.specs.Starts.{Download}
use Rattle.machine_core.specs.declared.entries.Entry.{Entry}
use Rattle.machine_core.specs.declared.events.Event.{Event}
use Rattle.machine_core.proofs.Fitting.{IsKnown}
use Rattle.machine_core.proofs.Here.{Here, Seen, known_here, unadded, view_of}
use Rattle.machine_core.proofs.Legal.{Laws}
use Rattle.machine_core.proofs.Lists.{element_at}
use Rattle.machine_core.proofs.Parts.{opened_added}
use Rattle.machine_core.proofs.Rooms.{added_here}

-- ---- the download at a place

-- what was read through the same list
pub read_entry : (xs ys : List Entry) (n : ℕ) (x : Entry) → ys ≡ xs → n < length ys → x ≡ get_or ys n x
    → slice_get xs n ≡ Some x
read_entry xs ys n x same within is = subst (λ (zs : List Entry). slice_get zs n ≡ Some x) same
    (slice_get_read ys (length ys) n x refl within is)

-- the download, and the call that added it
record IsEntry (s : MachineState) (n : ℕ) (x : Entry) : Type 0 where
  download : Download
  added : slice_get (replay_of s.start (reverse s.events)).downloads n ≡ Some download
  gid_is : x.gid ≡ download.gid
  called : option_and_then subject_of_event (slice_get s.events x.called) ≡ Some download.subject

is_entry : (s : MachineState) (v : MachineView) (n : ℕ) (x : Entry) → Seen s v → slice_get s.entries n ≡ Some x
    → IsEntry s n x
is_entry s v n x seen there =
    let w = slice_get_within s.entries n x there in
    let many = seen.keeps.downloads.many in
    let d = element_at (replay_of s.start (reverse s.events)).downloads n (omega arith) in
    record {
      download = d.0;
      added = d.1;
      gid_is = (seen.keeps.downloads.each n d.0 x d.1 there).gid;
      called = seen.keeps.called n d.0 x d.1 there;
    }

read_within : {A B : Type 0} (f : A → Option B) (xs : List A) (at : ℕ) (b : B) (o : Option A)
    → slice_get xs at ≡ o → option_and_then f o ≡ Some b → at < length xs
read_within f xs at b None is read = absurd cc
read_within f xs at b (Some x) is read = slice_get_within xs at x is

pub called_within : (s : MachineState) (v : MachineView) (n : ℕ) (x : Entry) → Seen s v
    → slice_get s.entries n ≡ Some x → x.called < length s.events
called_within s v n x seen there =
    let e = is_entry s v n x seen there in
    read_within subject_of_event s.events x.called e.download.subject (slice_get s.events x.called) refl e.called

pub adding_here : (s : MachineState) (v : MachineView) (n : ℕ) (x : Entry) → Seen s v
    → slice_get s.entries n ≡ Some x → IsAdding v n x.gid x.called
adding_here s v n x seen there =
    let e = is_entry s v n x seen there in
    subst (λ (w : MachineView). IsAdding w n x.gid x.called) seen.view_is
    (record {
      download = e.download;
      added = e.added;
      gid_is = e.gid_is;
      called = ap (λ (events : List Event). option_and_then subject_of_event (slice_get events x.called))
          (reverse-reverse s.events) ∙ e.called;
    })

-- ---- listings

-- a row that says of each place what a test does
pub row_by : (row : List Bool) (f : ℕ → Bool) (n : ℕ) → length row ≡ n
    → ((k : ℕ) → k < n → get_or row k false ≡ f k) → row ≡ map f (range_with_len 0 n)
row_by row f n long each =
    same_lists row (map f (range_with_len 0 n)) (long ∙ sym (length-map-range_with_len f 0 n))
    (λ k d below.
    let inside : k < n = omega arith in
    get_or_default row k d false below
    ∙ (each k inside ∙ sym (get_or-map-range_with_len f 0 n k k d inside (omega arith))))

-- an opened download's account lists what its events say that a save would list
listing_now : Laws → (total len : ℕ) (own : List OwnEvent) (k : Account) → IsKnown total len own k
    → is_opened own ≡ true → listing_of k.progress ≡ listing_in total len own
listing_now laws total len own k kn opened =
    let m = kn.matches in
    let fit = m.rows opened in
    let plan = kn.plan opened in
    let p = k.progress in
    let pieces : p.verified ≡ map (is_verified_in own) (range_with_len 0 (pieces_of total len)) =
    row_by p.verified (is_verified_in own) (pieces_of total len) fit.verified
    (λ piece below. (m.pieces piece below).verified) in
    let each : (b : ℕ) → b < 0 + blocks_of total len → lists_block p b ≡ is_block_listed len own b =
    λ b below.
    let within : b < blocks_of total len = omega arith in
    let q = m.pieces (piece_of len b) (laws.plans.of_pieces total len b plan within).piece in
    ap (λ (n : ℕ). get_or p.landed b false
    && (get_or p.verified (piece_of n b) false || not (get_or p.sole (piece_of n b) false)
    && not (get_or p.wrong (piece_of n b) false))) fit.piece_len_is
    ∙ rw (m.blocks b within, q.verified, q.sole, q.wrong) refl in
    let blocks : map (lists_block p) (range_with_len 0 (length p.landed))
    ≡ map (is_block_listed len own) (range_with_len 0 (blocks_of total len)) =
    ap (λ (n : ℕ). map (lists_block p) (range_with_len 0 n)) fit.landed
    ∙ rows_same (lists_block p) (is_block_listed len own) 0 (blocks_of total len) each in
    ap (λ (xs : List Bool). record { pieces = xs; blocks = (listing_of p).blocks }) pieces
    ∙ ap (λ (xs : List Bool). record { pieces = (listing_in total len own).pieces; blocks = xs }) blocks

-- an opened download's account, by what contracts see
pub record IsSeenOpened (v : MachineView) (gid : Gid) (k : Account) : Type 0 where
  pub opened : is_opened_by k ≡ true
  pub total : k.progress.total ≡ (lengths_of_gid v gid).total
  pub piece_len : k.progress.piece_len ≡ (lengths_of_gid v gid).piece_len
  pub listing : k.listing
      ≡ last_listing (lengths_of_gid v gid).total (lengths_of_gid v gid).piece_len (own_of_gid v gid)
  pub listed : listing_of k.progress
      ≡ listing_in (lengths_of_gid v gid).total (lengths_of_gid v gid).piece_len (own_of_gid v gid)

pub seen_opened : Laws → AccountsTellOpening → (s : MachineState) (v : MachineView) (gid : Gid) (at : ℕ) (x : Entry)
    → Seen s v → Here s gid at x → IsOpenedGid v gid → IsSeenOpened v gid x.state.account
seen_opened laws tells s v gid at x seen h opened =
    let kn = known_here laws tells s v gid at x seen h in
    let was_opened : is_opened (own_of s.start (reverse s.events) gid) ≡ true =
    subst (λ (w : MachineView). IsOpenedGid w gid) (sym seen.view_is) opened in
    let fit = kn.matches.rows was_opened in
    subst (λ (w : MachineView). IsSeenOpened w gid x.state.account) seen.view_is
    (record {
      opened = kn.opened ∙ was_opened;
      total = fit.total_is;
      piece_len = fit.piece_len_is;
      listing = kn.matches.listing;
      listed = listing_now laws _ _ _ x.state.account kn was_opened;
    })

-- an opened download has a place
pub opened_placed : (s : MachineState) (v : MachineView) (gid : Gid) (o : Option ℕ) → Seen s v → IsOpenedGid v gid
    → IfNone o (download_in v.start v.past gid ≡ None) → IsSome o
opened_placed s v gid None seen opened none =
    unadded v gid none
    (subst (λ (w : MachineView). is_added_in w gid ≡ true) seen.view_is
    (opened_added s.start (reverse s.events) gid seen.keeps.legal
    (subst (λ (w : MachineView). IsOpenedGid w gid) (sym seen.view_is) opened)))
opened_placed s v gid (Some n) seen opened none = refl

pub has_piece : (v : MachineView) (gid : Gid) (k : Account) (piece : ℕ) → IsSeenOpened v gid k → IsPieceOfGid v gid piece
    → IsPieceOf k.progress piece
has_piece v gid k piece is has = rw (is.total, is.piece_len) has

pub unlisted_here : (v : MachineView) (gid : Gid) (k : Account) (piece : ℕ) (b : Bool) → IsSeenOpened v gid k
    → (b ≡ false) ↔ ListsNone k.progress.total k.progress.piece_len k.listing piece
    → (b ≡ false) ↔ IsPieceUnlisted v gid piece
unlisted_here v gid k piece b is told = rw (← is.listing, ← is.total, ← is.piece_len) told

pub saved_here : (v : MachineView) (gid : Gid) (k : Account) (b : Bool) → IsSeenOpened v gid k
    → (b ≡ false) ↔ (k.listing ≡ listing_of k.progress) → (b ≡ false) ↔ IsAllSaved v gid
saved_here v gid k b is told =
    (λ none. sym is.listing ∙ (told.0 none ∙ is.listed), λ same. told.1 (is.listing ∙ (same ∙ sym is.listed)))

-- ---- dead pieces

record TellsMarks (s : MachineState) (d : Download) (x : Entry) (piece : ℕ) : Type 0 where
  dead : IsDead x.state.mirrors x.state.max_tries x.state.marks piece
      ↔ IsDead (mirrors_by d.subject) (tries_in d) (marks_in s.start (reverse s.events) d.gid) piece
  last : last_mark_of x.state.max_tries x.state.marks piece
      ≡ last_mark_of (tries_in d) (marks_in s.start (reverse s.events) d.gid) piece

-- the marks that don't count neither make a piece dead nor are its last mark
counted_dead : CountedGiveTries → (n tries : ℕ) (marks : List Blame) (piece : ℕ)
    → IsDead n tries (counted tries marks) piece ↔ IsDead n tries marks piece
counted_dead law n tries marks piece = (
  λ dead mirror below has. dead mirror below
      (subst (λ (used : ℕ). used < tries) (sym (law tries mirror piece marks)) has),
  λ dead mirror below has. dead mirror below
      (subst (λ (used : ℕ). used < tries) (law tries mirror piece marks) has),
)

counted_last : CountedCount → (tries : ℕ) (marks : List Blame) (piece : ℕ)
    → last_mark_of tries (counted tries marks) piece ≡ last_mark_of tries marks piece
counted_last law tries marks piece =
    ap (λ (bs : List Blame). option_map (λ (b : Blame). b.mark) (find (λ (b : Blame). b.piece == piece) bs))
    (law tries marks)

tells_marks : CountedGiveTries → CountedCount → (s : MachineState) (v : MachineView) (gid : Gid) (at : ℕ) (x : Entry)
    (piece : ℕ) → Seen s v → (h : Here s gid at x) → TellsMarks s h.download x piece
tells_marks same again s v gid at x piece seen h =
    let kept = seen.keeps.downloads.each at h.download x h.is.added h.is.there in
    let marks = marks_in s.start (reverse s.events) h.download.gid in
    record {
      dead = rw (kept.mirrors, kept.max_tries, kept.marks)
          (counted_dead same (mirrors_by h.download.subject) (tries_in h.download) marks piece);
      last = rw (kept.max_tries, kept.marks) (counted_last again (tries_in h.download) marks piece);
    }

-- what is kept shows the dead piece and its mark
pub dead_here : CountedGiveTries → CountedCount → (s : MachineState) (v : MachineView) (gid : Gid) (at : ℕ) (x : Entry)
    (piece : ℕ) (o : Option Mark) → Seen s v → Here s gid at x
    → IsDead x.state.mirrors x.state.max_tries x.state.marks piece
    → o ≡ last_mark_of x.state.max_tries x.state.marks piece → IfSome o (IsDeadPiece v gid piece)
dead_here same again s v gid at x piece None seen h dead last = tt
dead_here same again s v gid at x piece (Some mark) seen h dead last =
    let t = tells_marks same again s v gid at x piece seen h in
    subst (λ (w : MachineView). IsDeadPiece w gid piece mark) seen.view_is
    (record {
      download = h.download;
      added = added_here s v gid at x seen h;
      dead = record { dead = t.dead.0 dead; last = sym t.last ∙ sym last };
    })

record IsKeptDead (x : Entry) (piece : ℕ) (mark : Mark) : Type 0 where
  dead : IsDead x.state.mirrors x.state.max_tries x.state.marks piece
  last : last_mark_of x.state.max_tries x.state.marks piece ≡ Some mark

kept_dead : CountedGiveTries → CountedCount → (s : MachineState) (v : MachineView) (gid : Gid) (at : ℕ) (x : Entry)
    (piece : ℕ) (mark : Mark) → Seen s v → Here s gid at x → IsDeadPiece v gid piece mark → IsKeptDead x piece mark
kept_dead same again s v gid at x piece mark seen h is =
    let t = tells_marks same again s v gid at x piece seen h in
    let p : IsDeadPiece (view_of s) gid piece mark =
    subst (λ (w : MachineView). IsDeadPiece w gid piece mark) (sym seen.view_is) is in
    let one : p.download ≡ h.download =
    same_Some p.download h.download (sym p.added ∙ added_here s v gid at x seen h) in
    let d : IsDeadIn s.start (reverse s.events) h.download piece mark =
    subst (λ (y : Download). IsDeadIn s.start (reverse s.events) y piece mark) one p.dead in
    record { dead = t.dead.1 d.dead; last = t.last ∙ d.last }

pub unmarked_here : CountedGiveTries → CountedCount → (s : MachineState) (v : MachineView) (gid : Gid) (at : ℕ)
    (x : Entry) (piece : ℕ) (o : Option Mark) → Seen s v → Here s gid at x
    → o ≡ last_mark_of x.state.max_tries x.state.marks piece → IfNone o (HasNoDeadMark v gid piece)
unmarked_here same again s v gid at x piece None seen h last =
    λ mark is. absurd (let k = (kept_dead same again s v gid at x piece mark seen h is).last in
    let n : None ≡ Some mark = last ∙ k in cc)
unmarked_here same again s v gid at x piece (Some mark) seen h last = tt

pub living_here : CountedGiveTries → CountedCount → (s : MachineState) (v : MachineView) (gid : Gid) (at : ℕ) (x : Entry)
    (piece : ℕ) (b : Bool) → Seen s v → Here s gid at x
    → IsTrue b ↔ IsDead x.state.mirrors x.state.max_tries x.state.marks piece → b ≡ false → HasNoDeadMark v gid piece
living_here same again s v gid at x piece b seen h told un mark is =
    let so : IsTrue b = told.1 (kept_dead same again s v gid at x piece mark seen h is).dead in
    absurd (let f : true ≡ false = sym so ∙ un in cc)

pub unadded_living : (v : MachineView) (gid : Gid) (piece : ℕ) → download_in v.start v.past gid ≡ None
    → HasNoDeadMark v gid piece
unadded_living v gid piece none mark is = absurd (let f : None ≡ Some is.download = sym none ∙ is.added in cc)
