-- The file of a run's only download, where it has no metainfo file, all its mirrors bring a payload's own bytes, and it is
-- complete.
use Rattle.std.proofs.Common.{◌≡◌, ⊎_elim, ℕ, ◌+◌, ◌*◌, ◌/◌, ◌%◌, ◌<◌, ◌≤◌, Bool, true, false, Option, Some, None, List, [], ◌∷◌, ◌++◌, length, get_or, slice_get, refl, sym, ap, ◌∙◌, subst, arith}
use Rattle.std.specs.Prelude.{◌&&◌, Contains, IsSome, IsSomeAnd, slice_index_or}
use Rattle.std.specs.List.{concat}
use Rattle.std.specs.Option.{is_some, unwrap_or}
use Rattle.std.proofs.Math.Nat.{mod-lt, mul-le-mul_right}
use Rattle.std.proofs.lemmas.Bool.{cases_lt}
use Rattle.std.proofs.lemmas.Grind.{div_ceil_times}
use Rattle.std.proofs.lemmas.List.{append-nil, same_lists}
use Rattle.std.proofs.lemmas.List.FromFn.{get_or-map-range_with_len}
use Rattle.std.proofs.lemmas.Nat.{div-add-mod'}
use Rattle.std.proofs.lemmas.Option.{slice_get-get_or, unwrap_or-slice_get}
use Rattle.control_file.specs.declared.want.Want.{Want}
use Rattle.dl_disk.specs.Files.{Files, file_bytes}
use Rattle.dl_disk.specs.State.{DiskState}
use Rattle.dl_history.proofs.Bools.{or_right, true_not_false}
use Rattle.dl_history.specs.OwnEvents.{Grants, Opens, OwnEvent}
use Rattle.dl_history.specs.OwnLegal.{LegalOwn}
use Rattle.dl_history.specs.PayloadParts.{is_alive, is_ended, is_landed_in, is_opened, is_verified_in, source_in, verifies}
use Rattle.dl_kinds.specs.Plan.{IsPlan, piece_end, piece_of, piece_start, pieces_of}
use Rattle.dl_kinds.specs.PlanLaws.{BlocksFollow, PlacesAreNumbered}
use Rattle.dl_kinds.specs.declared.gid.Gid.{Gid}
use Rattle.dl_kinds.specs.declared.runs.Moment.{Moment}
use Rattle.engine_core.proofs.Promising.{download_on, legal_front, want_on}
use Rattle.engine_core.proofs.Turned.{same_download}
use Rattle.engine_core.specs.TurnReads.{TurnsFitDisk}
use Rattle.engine_turns.specs.Told.{RunTurn, history_after, history_of}
use Rattle.machine_core.specs.DownloadWants.{HasWant, files_of_subject}
use Rattle.machine_core.specs.Openings.{lengths_of_plan}
use Rattle.machine_core.specs.OwnParts.{PayloadLengths, no_lengths, own_of, payload_lengths_of}
use Rattle.machine_core.specs.RunLegal.{IsLegal, IsOpening, MayBeEnded, MayBeOpened, MayFollow, download_in, info_hash_by, known_lengths}
use Rattle.machine_core.specs.RunSteps.{OpenedHavePlans}
use Rattle.machine_core.specs.Starts.{Download, RunStart, Subject, Unlisted}
use Rattle.machine_core.specs.Wanted.{wanted_by, wanted_pieces}
use Rattle.machine_core.specs.declared.ends.End.TheVariants.{Complete}
use Rattle.machine_core.specs.declared.events.Event.{Event}
use Rattle.machine_core.specs.declared.events.Event.TheVariants.{Ended, Opened}
use Rattle.option_set.specs.Values.{text_of_word}
use Rattle.option_set.specs.declared.kinds.Word.TheVariants.{SelectFile}
use Rattle.payload_files.specs.Names.{name_of}
use Rattle.payload_files.specs.Payload.{HasFiles, payload_in}
use Rattle.piece_table.specs.Changes.{Absent, From, Source, Unknown, is_present}
use Rattle.resume_core.specs.Found.{Absent as NoControl, Found, found}
use Rattle.resume_core.specs.Openings.{OpensBlock, is_compared}
use Rattle.resume_core.specs.Resume.{BlockResumed}
use Rattle.resume_core.specs.Wants.{control_name, files_in, payload_name}
use Rattle.span_map.specs.declared.files.FileLen.{FileLen}
use Rattle.std.proofs.lemmas.List.Elements.{All-head}
use Rattle.stored_run.proofs.Doing.{history_on, own_grows_on}
use Rattle.stored_run.proofs.Left.{ended_in, one_of}
use Rattle.stored_run.proofs.PlainEvents.{gid_added}
use Rattle.stored_run.specs.Opening.{is_checked_in}
use Rattle.stored_run.specs.RunFollows.{RunFollows}
use Rattle.stored_run.specs.Settlings.{payload_of}
use Rattle.blameless_mirrors.specs.Blameless.{HasBlockOf}
use Rattle.blameless_mirrors.specs.Lone.{first_time}
use Rattle.blameless_mirrors.specs.LoneUris.{HasFile, IsUnlistedServed, UnlistedCompleteAreWhole}
use Rattle.blameless_mirrors.proofs.Completions.{complete_opened}
use Rattle.blameless_mirrors.proofs.Findings.{come_of, split_at}
use Rattle.blameless_mirrors.proofs.Marks.{behind}
use Rattle.blameless_mirrors.proofs.OwnThere.{OpensIt, granted_there, opening_event, told_there, unknown_found}
use Rattle.blameless_mirrors.proofs.PayloadBytes.{block_at}
use Rattle.blameless_mirrors.proofs.Refusals.{Fresh, first_same, fresh_before, so_before}
use Rattle.blameless_mirrors.proofs.OneWant.{wants_one}
use Rattle.blameless_mirrors.proofs.UriBlocks.{unlisted_read}

-- ---- what an opening finds

uncompared : (c : Bool) (o : Option (List ℕ)) → o ≡ None → (c && is_some o) ≡ false
uncompared true o none = ap is_some none
uncompared false o none = refl

never_some : (o : Option (List ℕ)) → o ≡ None → IsSome o → ⊥
never_some (Some hash) none some = absurd cc
never_some None none some = absurd (let f : false ≡ true = some in cc)

-- without a control file nothing of an unlisted want is found
nothing_resumed : (want : Want) (contents : List (Option (List ℕ))) (b : ℕ) → want.info_hash ≡ None
    → BlockResumed want NoControl contents b → ⊥
nothing_resumed want contents b none resumed = ⊎_elim
    (λ whole. ⊎_elim (λ listed. listed)
    (λ hashed. never_some want.info_hash none hashed.0) whole.1.1)
    (λ flight. flight.1) resumed

nothing_opened : (want : Want) (files : Files) (c : Bool) (b : ℕ) → want.info_hash ≡ None
    → files (control_name want) ≡ None → OpensBlock (is_compared want c) want files b → ⊥
nothing_opened want files c b none lacks opens =
    nothing_resumed want (files_in want files) b none
    (subst (λ (f : Found). BlockResumed want f (files_in want files) b) (ap (found want) lacks)
    (subst (λ (compared : Bool). OpensBlock compared want files b) (uncompared c want.info_hash none) opens))

read_there : (row : List Bool) (i : ℕ) → slice_index_or row i false ≡ true → slice_get row i ≡ Some true
read_there row i is = by (slice_get row i) (unwrap_or-slice_get row i false ∙ is)
  where
    by : (o : Option Bool) → unwrap_or o false ≡ true → o ≡ Some true
    by (Some b) is = ap (λ (x : Bool). Some x) is
    by None is = absurd cc

-- ---- lengths

some_plan : (o : Option PayloadLengths) → IsPlan (unwrap_or o no_lengths).total (unwrap_or o no_lengths).piece_len
    → (l : PayloadLengths) × (o ≡ Some l)
some_plan None plan = absurd (let some = plan.some in omega (arith, some))
some_plan (Some l) plan = (l, refl)

-- ---- bytes

-- a byte of the payload is one of a piece
piece_at : (total len at : ℕ) → 1 ≤ len → at < total
    → (p : ℕ) × (p < pieces_of total len) × (piece_start len p ≤ at) × (at < piece_end total len p)
piece_at total len at some inside =
    let p : ℕ = at / len in
    let r : ℕ = at % len in
    let cut : p * len + r ≡ at = div-add-mod' at len in
    let rest : r < len = mod-lt at some in
    let top : total ≤ pieces_of total len * len = (div_ceil_times total len some).0 in
    let next : (p + 1) * len ≡ p * len + len = omega arith in
    let known : p < pieces_of total len = ⊎_elim
    (λ (below : p < pieces_of total len). below)
    (λ (past : pieces_of total len ≤ p).
    let many : pieces_of total len * len ≤ p * len = mul-le-mul_right len past in
    absurd (omega (arith, cut, top, many, inside)))
    (cases_lt p (pieces_of total len)) in
    (p, known, omega (arith, cut), omega (arith, cut, rest, next, inside))

-- lists of the same bytes
same_bytes : (xs ys : List ℕ) → length xs ≡ length ys
    → ((at : ℕ) → at < length xs → slice_get xs at ≡ slice_get ys at) → xs ≡ ys
same_bytes xs ys long same =
    same_lists xs ys long (λ k d inside.
    let one : Some (get_or xs k d) ≡ Some (get_or ys k d) =
    sym (slice_get-get_or xs k d inside) ∙ same k inside ∙ slice_get-get_or ys k d (omega (arith, inside, long)) in cc)

-- a file with its length that has each byte of a payload
file_is : (o : Option (List ℕ)) (payload : List ℕ) → IsSomeAnd o (λ bytes. length bytes ≡ length payload)
    → ((at : ℕ) → at < length payload → slice_get (concat (file_bytes o ∷ [])) at ≡ slice_get payload at) → o ≡ Some payload
file_is None payload long same = absurd long
file_is (Some bytes) payload long same =
    ap (λ (bs : List ℕ). Some bs) (same_bytes bytes payload long
    (λ at inside. ap (λ (bs : List ℕ). slice_get bs at) (sym (append-nil bytes)) ∙ same at (omega (arith, inside, long))))

verified_later : (p : ℕ) (more own : List OwnEvent) → is_verified_in own p ≡ true → is_verified_in (more ++ own) p ≡ true
verified_later p [] own is = is
verified_later p (x ∷ more) own is =
    or_right (verifies p x) (is_verified_in (more ++ own) p) (verified_later p more own is)

verified_on : (start : RunStart) (e : Event) (past : List Event) (gid : Gid) (piece : ℕ)
    → is_verified_in (own_of start past gid) piece ≡ true → is_verified_in (own_of start (e ∷ past) gid) piece ≡ true
verified_on start e past gid piece is =
    let grown = own_grows_on start (e ∷ []) past gid in
    subst (λ (own : List OwnEvent). is_verified_in own piece ≡ true) (sym grown.1)
    (verified_later piece grown.0 (own_of start past gid) is)

-- each piece of a download without a metainfo file is wanted
all_wanted : (d : Download) (uris : List (List ℕ)) (l : PayloadLengths) (piece : ℕ) → d.subject ≡ Unlisted uris
    → piece < pieces_of l.total l.piece_len → slice_index_or (wanted_pieces d l) piece false ≡ true
all_wanted d uris l piece subject inside =
    get_or-map-range_with_len (wanted_by d.subject (text_of_word d.options SelectFile) l) 0 (pieces_of l.total l.piece_len) piece
    piece false inside (omega arith)
    ∙ ap (λ (s : Subject). wanted_by s (text_of_word d.options SelectFile) l piece) subject

module _ (laws : RunFollows) (plans : OpenedHavePlans) (start : RunStart) (gid : Gid) (download : Download)
    (uris : List (List ℕ)) (subject : download.subject ≡ Unlisted uris) where
  abbrev IsIt : List Event → Type 0
  IsIt past = (d : Download) → download_in start past gid ≡ Some d → d ≡ download

  it_before : (e : Event) (past : List Event) → IsIt (e ∷ past) → IsIt past
  it_before e past same d added = same d (laws.downloads start past e gid d added)

  -- ---- its end

  -- what may be opened didn't end
  opened_unended : (e : Event) (past : List Event) → IsLegal start (e ∷ past) → is_ended (own_of start past gid) ≡ true
      → is_opened (own_of start (e ∷ past) gid) ≡ true → is_opened (own_of start past gid) ≡ true
  opened_unended e past legal ended opened = ⊎_elim
      (λ (opens : OpensIt gid e).
      let may : MayBeOpened start past gid opens.verified opens.blocks opens.now =
      subst (MayFollow start past) opens.is legal.1 in
      absurd (true_not_false (is_ended (own_of start past gid)) ended (laws.going start past gid legal.0 may.active)))
      (λ (was : is_opened (own_of start past gid) ≡ true). was) (opening_event start past gid e opened)

  end_opened : (past : List Event) → is_opened (own_of start (Ended gid Complete ∷ past) gid) ≡ true
      → is_opened (own_of start past gid) ≡ true
  end_opened past opened = ⊎_elim
      (λ (opens : OpensIt gid (Ended gid Complete)). let never = opens.is in absurd cc)
      (λ (was : is_opened (own_of start past gid) ≡ true). was) (opening_event start past gid (Ended gid Complete) opened)

  lengths_before : (e : Event) (past : List Event) (l : PayloadLengths) → IsLegal start (e ∷ past)
      → is_opened (own_of start past gid) ≡ true → payload_lengths_of start (e ∷ past) gid ≡ Some l
      → payload_lengths_of start past gid ≡ Some l
  lengths_before e past l legal opened known =
      let some = some_plan (payload_lengths_of start past gid) (plans start past gid legal.0 opened) in
      let later = laws.lengths start past e gid some.0 legal some.1 in
      some.1 ∙ (let both : Some some.0 ≡ Some l = sym later ∙ known in both)

  verified_here : (past : List Event) (l : PayloadLengths) → IsIt past → MayBeEnded start past gid Complete
      → payload_lengths_of start past gid ≡ Some l → (piece : ℕ) → piece < pieces_of l.total l.piece_len
      → is_verified_in (own_of start past gid) piece ≡ true
  verified_here past l same may known piece inside =
      let d = may.own.download in
      let of : d.subject ≡ Unlisted uris = ap (λ (x : Download). x.subject) (same d may.own.added) ∙ subject in
      let lengths : known_lengths start past gid ≡ l = ap (λ (o : Option PayloadLengths). unwrap_or o no_lengths) known in
      subst (λ (g : Gid). is_verified_in (own_of start past g) piece ≡ true) (gid_added start past gid d may.own.added)
      (may.cause.verified piece
      (subst (λ (k : PayloadLengths). slice_index_or (wanted_pieces d k) piece false ≡ true) (sym lengths)
      (all_wanted d uris l piece of inside)))

  -- once it ended as complete each of its pieces is verified
  verified_all : (past : List Event) (l : PayloadLengths) → IsLegal start past → IsIt past
      → Contains past (Ended gid Complete) → is_opened (own_of start past gid) ≡ true → payload_lengths_of start past gid ≡ Some l
      → (piece : ℕ) → piece < pieces_of l.total l.piece_len → is_verified_in (own_of start past gid) piece ≡ true
  verified_all [] l legal same there opened known piece inside = absurd (let within = there.1 in omega (arith, within))
  verified_all (e ∷ past) l legal same there opened known piece inside = ⊎_elim
      (λ (here : e ≡ Ended gid Complete).
      let was = end_opened past (subst (λ (x : Event). is_opened (own_of start (x ∷ past) gid) ≡ true) here opened) in
      verified_on start e past gid piece
      (verified_here past l (it_before e past same) (subst (MayFollow start past) here legal.1)
      (lengths_before e past l legal was known) piece inside))
      (λ (before : Contains past (Ended gid Complete)).
      let was = opened_unended e past legal (ended_in start past gid Complete before) opened in
      verified_on start e past gid piece
      (verified_all past l legal.0 (it_before e past same) before was (lengths_before e past l legal was known) piece inside))
      (one_of e (Ended gid Complete) past there)

  -- ---- its opening

  opening_there : (past : List Event) → is_opened (own_of start past gid) ≡ true
      → (verified : List Bool) × (blocks : List Bool) × (now : Moment) × Contains past (Opened gid verified blocks now)
  opening_there [] opened = absurd cc
  opening_there (e ∷ past) opened = ⊎_elim
      (λ (opens : OpensIt gid e). (
        opens.verified,
        opens.blocks,
        opens.now,
        (subst (λ (x : Event). Contains (e ∷ past) x) opens.is (0, omega arith, refl)),
      ))
      (λ (was : is_opened (own_of start past gid) ≡ true).
      let more = opening_there past was in (
        more.0,
        more.1,
        more.2,
        behind e (Opened gid more.0 more.1 more.2) past more.3,
      ))
      (opening_event start past gid e opened)

  module _ (disk : DiskState) where
    -- it was opened with a want
    want_there : (told : List RunTurn) → IsLegal start (history_of told) → TurnsFitDisk start told disk
        → (verified blocks : List Bool) (now : Moment) → Contains (history_of told) (Opened gid verified blocks now)
        → (want : Want) × HasWant start (history_of told) gid want
    want_there [] legal fits verified blocks now there = absurd (let within = there.1 in omega (arith, within))
    want_there (t ∷ before) legal fits verified blocks now there =
        let past = history_of before in
        let e = Opened gid verified blocks now in ⊎_elim
        (λ (here : Contains t.events e).
        let so = fits.0.fits.opened gid verified blocks now here in
        (so.want, want_on laws start past t.events gid so.want legal so.has))
        (λ (was : Contains past e).
        let so = want_there before (legal_front start past t.events legal) fits.1 verified blocks now was in
        (so.0, want_on laws start past t.events gid so.0 legal so.1))
        (come_of past t.events e there)

    abbrev Fine : List RunTurn → Type 0
    Fine told = Fresh laws start disk gid download told

    abbrev LacksFirst : List RunTurn → Type 0
    LacksFirst told = (want : Want) → HasWant start (history_of told) gid want
        → disk.seen_at (first_time told) (control_name want) ≡ None

    -- the turn that opens it finds no block
    none_found : (t : RunTurn) (before : List RunTurn) → Fine (t ∷ before) → LacksFirst (t ∷ before)
        → (verified blocks : List Bool) (now : Moment) → Contains t.events (Opened gid verified blocks now) → (b : ℕ)
        → slice_index_or blocks b false ≡ true → ⊥
    none_found t before f lacks verified blocks now there b has =
        let past = history_of before in
        let e = Opened gid verified blocks now in
        let split = split_at t.events e there in
        let mid = history_after past split.front in
        let whole = ap (history_after past) split.cut ∙ history_on past split.front (e ∷ split.rest) in
        let legal = legal_front start (e ∷ mid) split.rest (subst (IsLegal start) whole f.legal) in
        let may : MayBeOpened start mid gid verified blocks now = legal.1 in
        let opening : IsOpening start mid gid = record {
          active = may.active;
          known = ap is_some may.known;
          unopened = may.first;
        } in
        let so = f.fits.0.fits.opened gid verified blocks now there in
        let want = so.want in
        let none = so_before laws start disk gid download (λ (files : Files). files (control_name want) ≡ None) want
        (λ old new same is. same.control ∙ is) t before mid legal.0 opening split.front refl f
        (lacks want (want_on laws start past t.events gid want f.legal so.has)) in
        let its = f.same so.has.download (download_on laws start past t.events gid so.has.download so.has.added) in
        let hash : want.info_hash ≡ None =
        so.has.is.info_hash ∙ ap info_hash_by (ap (λ (x : Download). x.subject) its ∙ subject) in
        nothing_opened want (disk.seen_at t.before.time) (is_checked_in start past gid) b hash none
        ((so.just.blocks b).0 (read_there blocks b has))

    lacks_before : (t : RunTurn) (before : List RunTurn) → Fine (t ∷ before) → first_time (t ∷ before) ≡ first_time before
        → LacksFirst (t ∷ before) → LacksFirst before
    lacks_before t before f time lacks want has =
        subst (λ (k : ℕ). disk.seen_at k (control_name want) ≡ None) time
        (lacks want (want_on laws start (history_of before) t.events gid want f.legal has))

    never_found : (told : List RunTurn) → Fine told → LacksFirst told → (verified blocks : List Bool) (now : Moment)
        → Contains (history_of told) (Opened gid verified blocks now) → (b : ℕ) → slice_index_or blocks b false ≡ true → ⊥
    never_found [] f lacks verified blocks now there b has = absurd (let within = there.1 in omega (arith, within))
    never_found (t ∷ before) f lacks verified blocks now there b has =
        let e = Opened gid verified blocks now in ⊎_elim
        (λ (here : Contains t.events e). none_found t before f lacks verified blocks now here b has)
        (λ (was : Contains (history_of before) e). ⊎_elim
        (λ (empty : before ≡ []).
        let there_none : Contains [] e = subst (λ (l : List RunTurn). Contains (history_of l) e) empty was in
        absurd (let within = there_none.1 in omega (arith, within)))
        (λ (time : first_time (t ∷ before) ≡ first_time before).
        never_found before (fresh_before laws start disk gid download t before f) (lacks_before t before f time lacks)
        verified blocks now was b has)
        (first_same laws start disk gid download t before))
        (come_of (history_of before) t.events e there)

-- ---- its file

module _ (laws : RunFollows) (plans : OpenedHavePlans) (follow : BlocksFollow) (numbered : PlacesAreNumbered) {D : Type 0}
    (state : D → DiskState) (start : RunStart) (t : RunTurn) (before : List RunTurn) (disk : D) (gid : Gid)
    (uris : List (List ℕ)) (payload : List ℕ) (is : IsUnlistedServed start (t ∷ before) (state disk) gid uris payload)
    (there : Contains (history_of (t ∷ before)) (Ended gid Complete)) where
  abbrev told : List RunTurn
  told = t ∷ before

  abbrev past : List Event
  past = history_of told

  abbrev d : Download
  d = is.lone.download

  same : (x : Download) → download_in start past gid ≡ Some x → x ≡ d
  same x added = same_download start past gid x d added is.lone.added

  opened : is_opened (own_of start past gid) ≡ true
  opened = complete_opened laws start told is.run.legal is.run.ties gid there

  its_want : (want : Want) × HasWant start past gid want
  its_want =
      let at = opening_there laws plans start gid d uris is.lone.subject past opened in
      want_there laws plans start gid d uris is.lone.subject (state disk) told is.run.legal is.run.fits at.0 at.1 at.2 at.3

  abbrev want : Want
  want = its_want.0

  abbrev has : HasWant start past gid want
  has = its_want.1

  abbrev total : ℕ
  total = want.plan.total

  abbrev len : ℕ
  len = want.plan.piece_len

  abbrev files : Files
  files = (state disk).seen_at t.after.time

  plan_is : lengths_of_plan want.plan ≡ has.lengths
  plan_is = has.is.plan

  legal_own : LegalOwn total len (own_of start past gid)
  legal_own =
      subst (λ (l : PayloadLengths). LegalOwn l.total l.piece_len (own_of start past gid))
      (ap (λ (o : Option PayloadLengths). unwrap_or o no_lengths) has.known ∙ sym plan_is)
      (laws.legal start past gid is.run.legal)

  verified : (piece : ℕ) → piece < pieces_of total len → is_verified_in (own_of start past gid) piece ≡ true
  verified piece inside =
      verified_all laws plans start gid d uris is.lone.subject past has.lengths is.run.legal same there opened has.known
      piece
      (subst (λ (l : PayloadLengths). piece < pieces_of l.total l.piece_len) plan_is inside)

  -- a block is from one of its mirrors
  block_read : (b : ℕ) → is_landed_in len (own_of start past gid) b ≡ true → HasBlockOf want payload b files
  block_read b landed = by (source_in len (own_of start past gid) b) refl
    where
      by : (s : Source) → source_in len (own_of start past gid) b ≡ s → HasBlockOf want payload b files
      by Absent source = absurd (true_not_false (is_landed_in len (own_of start past gid) b) landed (ap is_present source))
      by Unknown source =
          let own = own_of start past gid in
          let f = unknown_found (is_alive own) (piece_of len b) b own source in
          absurd (never_found laws plans start gid d uris is.lone.subject (state disk) told (record {
            legal = is.run.legal;
            marks = is.run.marks;
            fits = is.run.fits;
            memory = is.memory;
            only = is.lone.only;
            same = same;
          }) (λ w w_has. (is.fresh w w_has).absent) f.verified f.blocks f.now
          (told_there start gid (Opens f.verified f.blocks f.now) tt past f.there) b f.has)
      by (From mirror) source =
          let own = own_of start past gid in
          let granted = laws.sound.givers total len own b mirror legal_own source in
          let low : mirror < length uris =
          subst (λ (m : ℕ). m < length uris) granted.2
          (is.claims granted.0 (told_there start gid (Grants granted.0) tt past (granted_there own granted.0 granted.1))) in
          unlisted_read laws plans follow state start t before disk gid mirror uris want payload is.run is.lone has
          (is.faithful mirror low) b source

  long : total ≡ length payload
  long = ap (λ (l : PayloadLengths). l.total) plan_is ∙ is.lengths has.lengths has.known

  byte_read : (at : ℕ) → at < length payload → slice_get (payload_of want files) at ≡ slice_get payload at
  byte_read at inside =
      let p = piece_at total len at want.plan.is_plan.some (omega (arith, inside, long)) in
      let found = block_at total len p.0 at numbered want.plan.is_plan p.1 p.2 p.3 in
      let full = laws.sound.verified total len (own_of start past gid) p.0 want.plan.is_plan legal_own p.1
      (verified p.0 p.1) in
      block_read found.0 (full found.0 found.1.within found.1.of) at (record { from = found.1.from; before = found.1.before })

  of : has.download.subject ≡ Unlisted uris
  of = ap (λ (x : Download). x.subject) (same has.download has.added) ∙ is.lone.subject

  layout : want.layout ≡ record { path = want.base ∷ []; len = has.lengths.total } ∷ []
  layout = has.is.layout ∙ ap (λ (s : Subject). files_of_subject s want.base has.lengths.total) of

  whole : HasFiles want.dir want.layout files
  whole = is.run.fits.0.fits.lengths want gid
      (λ g other asked other_has shared.
      let its = is.lone.only g other_has.download other_has.added in
      wants_one start past gid other want (subst (λ (h : Gid). HasWant start past h other) its other_has) has)
      (record { opened = opened; has = has })

  file : files (payload_name want) ≡ Some payload
  file =
      let Is = λ (x : FileLen). IsSomeAnd (files (name_of want.dir x.path)) (λ bytes. length bytes ≡ x.len) in
      let at_len = All-head Is (record { path = want.base ∷ []; len = has.lengths.total }) []
      (subst (λ (fs : List FileLen). HasFiles want.dir fs files) layout whole) in
      file_is (files (payload_name want)) payload
      (subst (λ (n : ℕ). IsSomeAnd (files (payload_name want)) (λ bytes. length bytes ≡ n))
      (is.lengths has.lengths has.known) at_len)
      (λ at inside.
      ap (λ (fs : List FileLen). slice_get (payload_in want.dir fs files) at) (sym layout)
      ∙ byte_read at inside)

  pub has_file : HasFile start past gid files payload
  has_file = record { want = want; has = has; file = file }

pub unlisted_whole : RunFollows → OpenedHavePlans → BlocksFollow → PlacesAreNumbered → {D : Type 0} (state : D → DiskState)
    → UnlistedCompleteAreWhole state
unlisted_whole laws plans follow numbered state start t before disk gid uris payload is there =
    has_file laws plans follow numbered state start t before disk gid uris payload is there
