-- What was read is as the turns say, and stays told.
use Rattle.std.proofs.Common.{◌≡◌, ⊎_elim, ◌≤◌, ℕ, Bool, true, List, [], ◌∷◌, ◌++◌, Option, Some, None, refl, sym, ap, ◌∙◌, subst, arith}
use Rattle.std.specs.Prelude.{◌+◌, ◌-◌, ◌<◌, ◌↔◌, All, Contains, IsSome, IsTrue, codes, map, unwrap_or}
use Rattle.std.specs.List.{range_with_len}
use Rattle.std.proofs.lemmas.List.{append_assoc}
use Rattle.std.proofs.lemmas.List.Elements.{Contains-append_cases, Contains-append_left, Contains-append_right}
use Rattle.control_file.specs.declared.want.Want.{Want}
use Rattle.dl_disk.specs.Files.{Files, MayMake, Stretched}
use Rattle.dl_disk.specs.Passes.{Passes, passes_none}
use Rattle.dl_disk.specs.State.{DiskState}
use Rattle.dl_history.specs.PayloadParts.{is_opened}
use Rattle.dl_kinds.specs.Plan.{piece_end, piece_start, pieces_of}
use Rattle.dl_kinds.specs.ChecksumView.{ChecksumView}
use Rattle.dl_kinds.specs.declared.gid.Gid.{Gid}
use Rattle.dl_kinds.specs.declared.runs.Moment.{Moment}
use Rattle.engine_turns.specs.Phases.{TurnStart}
use Rattle.engine_turns.specs.RunTurns.{IsAnswered, MayComeAfter, answer_before, turn_start}
use Rattle.engine_turns.specs.Standings.{standing_after}
use Rattle.engine_turns.specs.Told.{RunTurn, handed_in, history_after, history_of}
use Rattle.engine_turns.specs.declared.operations.Grant.{Grant}
use Rattle.engine_turns.specs.declared.operations.Grant.TheVariants.{Fetch, Hash, Probe}
use Rattle.engine_turns.specs.declared.operations.Operation.{Operation}
use Rattle.engine_turns.specs.declared.operations.Operation.TheVariants as operation
use Rattle.engine_turns.specs.declared.operations.Said.{Said}
use Rattle.engine_turns.specs.declared.operations.Said.TheVariants.{Replied, Grant as Granted, Kept, Allow, Void, Hold, Idle, Done, Finished, JournalFull, NoMemory, Notices}
use Rattle.machine_core.specs.Claiming.{next_to_open}
use Rattle.machine_core.specs.DownloadWants.{HasWant, files_of_subject}
use Rattle.machine_core.specs.FileNames.{IsPayloadName, IsUnlistedName, folder_in}
use Rattle.machine_core.specs.Offers.{is_handed_out}
use Rattle.machine_core.specs.OwnParts.{own_of}
use Rattle.machine_core.specs.RunLegal.{known_lengths}
use Rattle.machine_core.specs.Starts.{Download, RunStart, Subject, Listed, Unlisted}
use Rattle.machine_core.specs.declared.ends.End.{End}
use Rattle.machine_core.specs.declared.events.Event.{Event}
use Rattle.machine_core.specs.declared.events.Event.TheVariants.{Checked, Ended, Opened, Settled}
use Rattle.machine_core.specs.declared.handed.Handed.{Handed}
use Rattle.option_set.specs.Values.{text_of_word}
use Rattle.option_set.specs.declared.kinds.Word.TheVariants.{Out}
use Rattle.payload_files.specs.Names.{name_of}
use Rattle.payload_files.specs.Payload.{AreResized, payload_in}
use Rattle.piece_table.specs.declared.giver.Giver.{Giver}
use Rattle.resume_core.specs.Openings.{FitsPayload, StretchesPayload}
use Rattle.resume_core.specs.Resume.{byte_at}
use Rattle.resume_core.specs.Runs.{ReadsPiece}
use Rattle.resume_core.specs.Steps.{SameFor}
use Rattle.span_map.specs.Paths.{IsValidPart}
use Rattle.span_map.specs.declared.files.FileLen.{FileLen}
use Rattle.stored_run.specs.Leavings.{AnyChange}
use Rattle.stored_run.specs.Refused.{IsRefusalEnd, RefusesAsRead}
use Rattle.stored_run.specs.Settlings.{CameBetween, IsTruly}
use Rattle.stored_run.specs.Stored.{AreWantsKept}
use Rattle.stored_run.specs.Views.{GoesOpened, kept_want}
use Rattle.stored_run.proofs.Between.{after_front}
use Rattle.url_names.specs.UrlNames.{IsNameBy, IsNameOfUrl}
use Rattle.verify_piece.specs.Hashes.{digest_by}
use Rattle.verify_piece.specs.Seals.{PieceBytes}
use Rattle.engine_core.specs.Durable.{HaveLengths}
use Rattle.engine_core.specs.Disks.{IsAlike, LeavesTurn, LeavesUnopened, OpensNext}
use Rattle.engine_core.specs.Engines.{past_of, start_of}
use Rattle.engine_core.specs.Readings.{GivesRead, ReadsElse, ReadsOpened, TakesRead, TakesSeal}
use Rattle.engine_core.specs.TurnReads.{ChecksAsRead, FitsFiles, GrantsAsRead, HasPieceBytes, IsFoundRight, IsUntouched, LacksPieceBytes, OfItsWant, OpensAsRead, SealsAsRead, TakesAsRead, TurnsFitDisk}
use Rattle.engine_core.specs.Writings.{KeepsUnwritten, WritesAsTold}
use Rattle.engine_core.specs.declared.state.EngineState.{EngineState}
use Rattle.engine_core.proofs.FoundRight.{found_right, sealed_so}
use Rattle.engine_core.proofs.TurnCases.{some_of}
use Rattle.engine_core.specs.Askings.{IsNext, IsWrittenAlone}
use Rattle.payload_files.specs.Payload.{HasFiles}
use Rattle.engine_core.proofs.Turned.{same_download}

-- ---- a payload has one name

named_by : (segment one other : List ℕ) → IsNameBy segment one → IsNameBy segment other → one ≡ other
named_by segment one other a b =
    ⊎_elim
    (λ (x : IsValidPart segment × (one ≡ segment)).
    ⊎_elim
    (λ (y : IsValidPart segment × (other ≡ segment)). x.1 ∙ sym y.1)
    (λ (y : (IsValidPart segment → ⊥) × (other ≡ codes "index.html")). absurd (y.0 x.0)) b)
    (λ (x : (IsValidPart segment → ⊥) × (one ≡ codes "index.html")).
    ⊎_elim
    (λ (y : IsValidPart segment × (other ≡ segment)). absurd (x.0 y.0))
    (λ (y : (IsValidPart segment → ⊥) × (other ≡ codes "index.html")). x.1 ∙ sym y.1) b)
    a

named_by_url : (uri one other : List ℕ) → IsNameOfUrl uri one → IsNameOfUrl uri other → one ≡ other
named_by_url uri one other a b =
    let same : b.url ≡ a.url = let e = sym a.parsed ∙ b.parsed in cc in
    let named = rw same at b.named in
    named_by _ one other a.named named

named_unlisted : (out : Option (List ℕ)) (uris : List (List ℕ)) (one other : List ℕ) → IsUnlistedName out uris one
    → IsUnlistedName out uris other → one ≡ other
named_unlisted (Some out) uris one other a b = a ∙ sym b
named_unlisted None [] one other a b = absurd a
named_unlisted None (uri ∷ uris) one other a b = named_by_url uri one other a b

one_base : (d : Download) (subject : Subject) (one other : List ℕ) → IsPayloadName d subject one
    → IsPayloadName d subject other → one ≡ other
one_base d (Listed meta uris) one other a b = a ∙ sym b
one_base d (Unlisted uris) one other a b = named_unlisted (text_of_word d.options Out) uris one other a b

-- ---- wants of one download cut its payload alike

pub record Payload : Type 0 where
  pub dir : List ℕ
  pub layout : List FileLen
  pub total : ℕ
  pub piece_len : ℕ

abbrev pub payload_cut : Want → Payload
payload_cut want =
    record { dir = want.dir; layout = want.layout; total = want.plan.total; piece_len = want.plan.piece_len }

abbrev contents_in : Payload → Files → List (Option (List ℕ))
contents_in p seen = map (λ (file : FileLen). seen (name_of p.dir file.path)) p.layout

abbrev ReachesIn : ℕ → Files → Payload → Type 0
ReachesIn piece seen p =
    (i : ℕ) → piece_start p.piece_len piece + i < piece_end p.total p.piece_len piece
    → IsSome (byte_at p.layout (contents_in p seen) (piece_start p.piece_len piece + i))

abbrev bytes_in : ℕ → Files → Payload → List ℕ
bytes_in piece seen p =
    map (λ (i : ℕ). unwrap_or (byte_at p.layout (contents_in p seen) (piece_start p.piece_len piece + i)) 0)
    (range_with_len 0 (piece_end p.total p.piece_len piece - piece_start p.piece_len piece))

pub same_cut : (start : RunStart) (past : List Event) (gid : Gid) (v w : Want) → HasWant start past gid v
    → HasWant start past gid w → payload_cut v ≡ payload_cut w
same_cut start past gid v w a b =
    let d = a.download in
    let download : b.download ≡ d = same_download start past gid b.download d b.added a.added in
    let lengths : b.lengths ≡ a.lengths =
    let some : Some b.lengths ≡ Some a.lengths = sym b.known ∙ a.known in cc in
    let named : IsPayloadName d d.subject w.base =
    subst (λ (x : Download). IsPayloadName x x.subject w.base) download b.is.base in
    let base : v.base ≡ w.base = one_base d d.subject v.base w.base a.is.base named in
    let dir : v.dir ≡ w.dir = a.is.dir ∙ sym (b.is.dir ∙ ap folder_in download) in
    let layout : v.layout ≡ w.layout =
    a.is.layout
    ∙ (ap (λ (n : List ℕ). files_of_subject d.subject n a.lengths.total) base
    ∙ sym (b.is.layout ∙ (λ i. files_of_subject (download i).subject w.base (lengths i).total))) in
    let plan = a.is.plan ∙ sym (b.is.plan ∙ lengths) in
    λ i. record {
      dir = dir i;
      layout = layout i;
      total = (plan i).total;
      piece_len = (plan i).piece_len;
    }

pub reads_alike : (v w : Want) (piece : ℕ) (seen : Files) (bytes : List ℕ) → payload_cut v ≡ payload_cut w
    → ReadsPiece v piece seen bytes → ReadsPiece w piece seen bytes
reads_alike v w piece seen bytes same is = record {
  reaches = subst (ReachesIn piece seen) same is.reaches;
  bytes = subst (λ (p : Payload). bytes ≡ bytes_in piece seen p) same is.bytes;
}

abbrev payload_at : Files → Payload → List ℕ
payload_at seen p = payload_in p.dir p.layout seen

pub truly_alike : (v w : Want) (right : Bool) (check : ChecksumView) (seen : Files) → payload_cut v ≡ payload_cut w
    → IsTruly right check v seen → IsTruly right check w seen
truly_alike v w right check seen same is =
    subst (λ (p : Payload). IsTrue right ↔ (digest_by check.hash (payload_at seen p) ≡ check.digest)) same is

abbrev FitsIn : (old new : Files) → Payload → Type 0
FitsIn old new p =
    AreResized p.dir p.layout old new × ((piece : ℕ) → ReachesIn piece old p → ReachesIn piece new p)
    × ((piece : ℕ) → ReachesIn piece old p → bytes_in piece new p ≡ bytes_in piece old p)

pub fits_alike : (v w : Want) (old new : Files) → payload_cut v ≡ payload_cut w → FitsPayload v old new
    → FitsPayload w old new
fits_alike v w old new same is =
    let all = subst (FitsIn old new) same (is.resized, is.reaches, is.bytes) in
    record { resized = all.0; reaches = all.1; bytes = all.2 }

abbrev StretchesIn : (old new : Files) → Payload → Type 0
StretchesIn old new p =
    All
    (λ (f : FileLen). MayMake (Stretched f.len) (old (name_of p.dir f.path)) (new (name_of p.dir f.path)))
    p.layout

pub stretches_alike : (v w : Want) (old new : Files) → payload_cut v ≡ payload_cut w → StretchesPayload v old new
    → StretchesPayload w old new
stretches_alike v w old new same is = subst (StretchesIn old new) same is

-- ---- what is kept of a download is its want

module _ (start : RunStart) (past : List Event) (wants : List (Option Want)) (kept : AreWantsKept start past wants)
    (gid : Gid) (piece : ℕ) (seen : Files) (bytes : List ℕ) (opened : is_opened (own_of start past gid) ≡ true) where
  pub has_bytes : ((want : Want) → kept_want wants start past gid ≡ Some want → ReadsPiece want piece seen bytes)
      → HasPieceBytes start past gid piece seen bytes
  has_bytes reads want has =
      let v = some_of (kept_want wants start past gid) (kept.opened gid opened) in
      reads_alike v.0 want piece seen bytes (same_cut start past gid v.0 want (kept.has gid v.0 v.1) has) (reads v.0 v.1)

  pub lacks_bytes : ¬ ((want : Want) → kept_want wants start past gid ≡ Some want → ReadsPiece want piece seen bytes)
      → LacksPieceBytes start past gid piece seen bytes
  lacks_bytes other want has reads =
      other (λ v kept_is. reads_alike want v piece seen bytes (same_cut start past gid want v has (kept.has gid v kept_is)) reads)

-- ---- events of a turn

-- what is one of the events came between the histories
pub came_in : (past events : List Event) (e : Event) → Contains events e → CameBetween past (history_after past events) e
came_in past [] e (n, within, is) = absurd (omega (arith, within))
came_in past (x ∷ events) e there = ⊎_elim
    (λ (here : Contains (x ∷ []) e).
    let front = after_front (x ∷ past) events in
    record {
      newer = front.0 ++ x ∷ [];
      grown = front.1 ∙ sym (append_assoc front.0 (x ∷ []) past);
      has = Contains-append_right front.0 (x ∷ []) e here;
    })
    (λ (later : Contains events e).
    let rest = came_in (x ∷ past) events e later in
    record {
      newer = rest.newer ++ x ∷ [];
      grown = rest.grown ∙ sym (append_assoc rest.newer (x ∷ []) past);
      has = Contains-append_left rest.newer (x ∷ []) e rest.has;
    }) (Contains-append_cases (x ∷ []) events e there)

-- ---- the turn

module _ {D : Type 0} (state : D → DiskState) (old new : EngineState D) (told : List RunTurn) (t : RunTurn)
    (kept : AreWantsKept (start_of old) (past_of old) old.run.wants.items) (past_is : past_of old ≡ history_of told)
    (past_after : past_of new ≡ history_of (t ∷ told)) (handed_is : old.handed.pieces ≡ handed_in (start_of old) told) where
  abbrev S : RunStart
  S = start_of old

  abbrev seen : Files
  seen = (state old.run.disk).seen

  has_then : (gid : Gid) (piece : ℕ) (bytes : List ℕ) → ReadsOpened old.run gid piece seen bytes
      → HasPieceBytes S (history_of told) gid piece seen bytes
  has_then gid piece bytes is =
      subst (λ (p : List Event). HasPieceBytes S p gid piece seen bytes) past_is
      (has_bytes S (past_of old) old.run.wants.items kept gid piece seen bytes is.opened is.reads)

  lacks_then : (gid : Gid) (piece : ℕ) (bytes : List ℕ) → ReadsElse old.run gid piece seen bytes
      → LacksPieceBytes S (history_of told) gid piece seen bytes
  lacks_then gid piece bytes is =
      subst (λ (p : List Event). LacksPieceBytes S p gid piece seen bytes) past_is
      (lacks_bytes S (past_of old) old.run.wants.items kept gid piece seen bytes is.opened is.other)

  by_grant : (grant : Grant) → GivesRead old.run (Granted grant) seen → GrantsAsRead S (history_of told) (Granted grant) seen
  by_grant (Hash gid piece bytes) is = has_then gid piece bytes is
  by_grant (Fetch given) is = tt
  by_grant (Probe claim gid url) is = tt

  granted : (said : Said) → GivesRead old.run said seen → GrantsAsRead S (history_of told) said seen
  granted (Granted grant) is = by_grant grant is
  granted (Allow bytes) is = tt
  granted (Replied place reply starved) is = tt
  granted (Kept counted repeated) is = tt
  granted Void is = tt
  granted (Hold ms) is = tt
  granted Idle is = tt
  granted Done is = tt
  granted Finished is = tt
  granted (JournalFull count) is = tt
  granted (Notices list upto) is = tt
  granted NoMemory is = tt

  settled_then : (gid : Gid) (piece : ℕ) (e : Event) → Contains t.events e → CameBetween (past_of old) (past_of new) e
  settled_then gid piece e there =
      subst (λ (p : List Event). CameBetween (past_of old) p e) (sym past_after)
      (subst (λ (p : List Event). CameBetween p (history_of (t ∷ told)) e) (sym past_is)
      (came_in (history_of told) t.events e there))

  abbrev at_start : TurnStart
  at_start = turn_start S told t

  -- what is answered to the operation
  abbrev Answered : Operation → Type 0
  Answered op =
      IsAnswered at_start (standing_after S told) op t.events t.answer.said (answer_before S (history_of told) op)

  right_then : (gid : Gid) (sealed : PieceBytes) (now : Moment)
      → TakesSeal gid sealed old.handed.pieces old.run new.run t.answer.said seen → Answered (operation.Seal gid sealed now)
      → (right : Bool) (giver : Giver) → Contains t.events (Settled gid sealed.piece right giver)
      → OfItsWant S (history_of told) gid (IsFoundRight right sealed.piece seen)
  right_then gid sealed now is answered right giver there want has =
      let so = sealed_so at_start (standing_after S told) gid sealed now t.events t.answer.said
      (answer_before S (history_of told) (operation.Seal gid sealed now)) answered sealed.piece right giver there in
      let reads = is.settled (right, giver, settled_then gid sealed.piece _ there) in
      let v = some_of (kept_want old.run.wants.items S (past_of old) gid) (kept.opened gid reads.opened) in
      let out : is_handed_out old.handed.pieces gid sealed.piece ≡ true =
      ap (λ (hs : List Handed). is_handed_out hs gid sealed.piece) handed_is ∙ so.out in
      let within = is.within out in
      found_right S (history_of told) gid sealed seen right v.0 want (kept.sound gid v.0 v.1)
      (subst (λ (p : List Event). HasWant S p gid v.0) past_is (kept.has gid v.0 v.1)) has (standing_after S told) refl
      (subst (λ (p : List Event). sealed.piece < pieces_of (known_lengths S p gid).total (known_lengths S p gid).piece_len) past_is within)
      so (has_then gid sealed.piece sealed.bytes reads want has)

  sealed_then : (gid : Gid) (sealed : PieceBytes) (now : Moment)
      → TakesSeal gid sealed old.handed.pieces old.run new.run t.answer.said seen → Answered (operation.Seal gid sealed now)
      → SealsAsRead S told t gid sealed seen
  sealed_then gid sealed now is answered = record {
    right = right_then gid sealed now is answered;
    settled = λ right giver there.
        has_then gid sealed.piece sealed.bytes (is.settled (right, giver, settled_then gid sealed.piece _ there));
    void = λ out said.
        lacks_then gid sealed.piece sealed.bytes
        (is.void (subst (λ (hs : List Handed). is_handed_out hs gid sealed.piece ≡ true) (sym handed_is) out) said);
  }

  takes_then : (op : Operation) → TakesRead state op old new.run t.answer.said → Answered op → TakesAsRead S told t op seen
  takes_then (operation.Next worker now) is answered = granted t.answer.said is
  takes_then (operation.Seal gid sealed now) is answered = sealed_then gid sealed now is answered
  takes_then (operation.Call session call now) is answered = tt
  takes_then (operation.Deliver claim run bytes now) is answered = tt
  takes_then (operation.More claim want now) is answered = tt
  takes_then (operation.Lose claim mark now) is answered = tt
  takes_then (operation.Sized claim total now) is answered = tt
  takes_then operation.Pulse is answered = tt
  takes_then (operation.Notices from) is answered = tt
  takes_then operation.Leave is answered = tt
  takes_then (operation.Stop now) is answered = tt

  -- with what it opened, what it left as it was, and what it found
  pub fits_files : MayComeAfter S told t → TakesRead state t.op old new.run t.answer.said
      → ((gid : Gid) (verified blocks : List Bool) (now : Moment)
      → Contains t.events (Opened gid verified blocks now) → OpensAsRead S (history_of told) gid verified blocks seen)
      → ((want : Want) → IsUntouched S (t ∷ told) want → SameFor want seen (state new.run.disk).seen)
      → WritesAsTold S (history_of told) t t.op (state new.run.disk).seen
      → ((gid : Gid) (verified blocks : List Bool) (now : Moment)
      → Contains t.events (Opened gid verified blocks now)
      → OfItsWant S (history_of told) gid (λ want. FitsPayload want seen (state new.run.disk).seen))
      → ((gid : Gid) → IsNext t.op → next_to_open S (history_of told) ≡ Some gid
      → OfItsWant S (history_of told) gid (λ want. StretchesPayload want seen (state new.run.disk).seen))
      → ((gid : Gid) → GoesOpened S (history_of told) gid
      → OfItsWant S (history_of told) gid
      (λ want. KeepsUnwritten S (history_of told) t want seen (state new.run.disk).seen))
      → ((want : Want) → IsWrittenAlone S (t ∷ told) want → HasFiles want.dir want.layout seen
      → KeepsUnwritten S (history_of told) t want seen (state new.run.disk).seen)
      → HaveLengths S (t ∷ told) (state new.run.disk)
      → ((gid : Gid) (how : End) → Contains t.events (Ended gid how) → IsRefusalEnd how
      → RefusesAsRead S (history_of told) gid how seen)
      → ((gid : Gid) (right : Bool) → Contains t.events (Checked gid right)
      → ChecksAsRead S (history_of told) gid right (state new.run.disk).seen)
      → FitsFiles S told t seen (state new.run.disk).seen
  fits_files may takes opened untouched written fitted tried going payload lengths refused checked = record {
    takes = takes_then t.op takes may.answered;
    opened = opened;
    written = written;
    fitted = fitted;
    tried = tried;
    going = going;
    payload = payload;
    lengths = lengths;
    untouched = untouched;
    refused = refused;
    checked = checked;
  }

-- ---- the disk tells it still

-- the calls of a turn
pub turn_passes : {D : Type 0} (state : D → DiskState) (op : Operation) (old new : EngineState D) (said : Said)
    → LeavesTurn state op old new said → Passes AnyChange (state old.run.disk) (state new.run.disk)
turn_passes state op old new said turn = ⊎_elim
    (λ (alike : IsAlike old.run new.run).
    subst (λ x. Passes AnyChange (state old.run.disk) (state x)) (sym alike.disk)
    (passes_none AnyChange (state old.run.disk) (λ image. tt)))
    (λ more. ⊎_elim
    (λ (left : LeavesUnopened state op old.run new.run said).
    subst (λ x. Passes AnyChange (state x) (state new.run.disk)) left.leaves.alike.disk left.leaves.leaves.time)
    (λ (opens : OpensNext state op old.run new.run said).
    subst (λ x. Passes AnyChange (state x) (state new.run.disk)) opens.alike.disk opens.opens.time) more) turn

module _ (start : RunStart) (d new : DiskState) (later : d.moment ≤ new.moment)
    (same_seen : (k : ℕ) → k ≤ d.moment → new.seen_at k ≡ d.seen_at k) where
  fits_still : (told : List RunTurn) → TurnsFitDisk start told d → TurnsFitDisk start told new
  fits_still [] is = tt
  fits_still (t ∷ before) is =
      let turn = is.0 in
      let first : t.before.time ≤ d.moment = omega (arith, turn.later, turn.within) in (
        record {
          later = turn.later;
          within = omega (arith, turn.within, later);
          fits = subst (λ (f : Files). FitsFiles start before t f (new.seen_at t.after.time)) (sym (same_seen t.before.time first))
              (subst (λ (f : Files). FitsFiles start before t (d.seen_at t.before.time) f) (sym (same_seen t.after.time turn.within))
              turn.fits);
        },
        fits_still before is.1,
      )

  pub fits_more : (told : List RunTurn) (t : RunTurn) → t.before.time ≡ d.moment → t.after.time ≡ new.moment
      → TurnsFitDisk start told d → FitsFiles start told t d.seen new.seen → TurnsFitDisk start (t ∷ told) new
  fits_more told t before after is fits =
      let old_seen : new.seen_at t.before.time ≡ d.seen =
      ap new.seen_at before ∙ (same_seen d.moment (omega arith) ∙ d.now_seen) in
      let new_seen : new.seen_at t.after.time ≡ new.seen = ap new.seen_at after ∙ new.now_seen in (
        record {
          later = omega (arith, before, after, later);
          within = omega (arith, after);
          fits = subst (λ (f : Files). FitsFiles start told t f (new.seen_at t.after.time)) (sym old_seen)
              (subst (λ (f : Files). FitsFiles start told t d.seen f) (sym new_seen) fits);
        },
        fits_still told is,
      )
