-- A piece that a mirror alone gave is not found wrong where its blocks read as the mirror holds them.
use Rattle.std.proofs.Common.{◌≡◌, ⊎_elim, ℕ, ◌+◌, ◌-◌, ◌*◌, ◌<◌, ◌≤◌, true, false, Option, Some, List, ◌∷◌, length, slice_get, refl, sym, ap, ◌∙◌, subst, arith}
use Rattle.std.specs.Prelude.{Contains, IsSome}
use Rattle.std.proofs.Math.Nat.{mul-le-mul_right}
use Rattle.std.proofs.lemmas.Grind.{div_ceil_times}
use Rattle.std.proofs.lemmas.List.Elements.{Contains-append_left}
use Rattle.control_file.specs.Wants.{IsListedWant}
use Rattle.control_file.specs.declared.want.Want.{Want}
use Rattle.dl_disk.specs.Files.{Files}
use Rattle.dl_disk.specs.State.{DiskState}
use Rattle.dl_history.specs.OwnEvents.{Settles}
use Rattle.dl_history.specs.OwnLegal.{MaySettle, LegalOwn}
use Rattle.dl_kinds.specs.Plan.{blocks_of, piece_end, piece_of, piece_start, pieces_of, IsPlan}
use Rattle.dl_kinds.specs.PlanLaws.{BlocksFollow, PlacesAreNumbered}
use Rattle.dl_kinds.specs.declared.gid.Gid.{Gid}
use Rattle.dl_kinds.specs.Lists.{part_at}
use Rattle.engine_core.proofs.Promising.{download_on, legal_front}
use Rattle.engine_core.specs.TurnReads.{SealsAsRead, TakesAsRead}
use Rattle.engine_core.specs.Writings.{WritesAsTold}
use Rattle.engine_turns.specs.Told.{RunTurn, history_after, history_of}
use Rattle.engine_turns.specs.declared.operations.Operation.{Operation}
use Rattle.machine_core.specs.DownloadWants.{IsWantOf, digests_of_subject, HasWant}
use Rattle.machine_core.specs.OwnParts.{PayloadLengths, own_of, lengths_by}
use Rattle.machine_core.specs.RunLegal.{IsLegal, MayBeSettled, download_in, info_hash_by, known_lengths}
use Rattle.machine_core.specs.Starts.{Download, Listed, RunStart, Subject}
use Rattle.machine_core.specs.declared.events.Event.{Event}
use Rattle.machine_core.specs.declared.events.Event.TheVariants.{Landed, Settled}
use Rattle.metainfo.specs.declared.meta.Meta.{Meta}
use Rattle.payload_files.specs.Payload.{HasFiles}
use Rattle.piece_table.specs.declared.giver.Giver.TheVariants.{One}
use Rattle.resume_core.specs.Resume.{HasDigest, piece_payload}
use Rattle.resume_core.specs.Wants.{files_in}
use Rattle.blameless_mirrors.proofs.ListedLengths.{known_listed, lengths_told}
use Rattle.machine_core.specs.RunSteps.{OpenedHavePlans}
use Rattle.sha1.specs.Sha1.{sha1}
use Rattle.stored_run.proofs.Doing.{history_on}
use Rattle.stored_run.specs.RunFollows.{RunFollows}
use Rattle.blameless_mirrors.specs.Blameless.{HasBlockOf, piece_bytes}
use Rattle.blameless_mirrors.proofs.Findings.{SplitAt, split_at}
use Rattle.mark_costs.proofs.Standing.{Clean, GivenIn, Stands, added_at, opened_at, stood, stood_before}
use Rattle.mark_costs.specs.Paid.{HasPiece}
use Rattle.blameless_mirrors.proofs.EventSources.{LandsAmong, WasUntouched, source_among}
use Rattle.blameless_mirrors.proofs.Givers.{given_whole}
use Rattle.blameless_mirrors.proofs.Parts.{IsSealOf, wrong_sealed}
use Rattle.blameless_mirrors.proofs.PayloadBytes.{block_at, stretch_read}
use Rattle.machine_core.specs.Openings.{lengths_of_plan}
use Rattle.std.specs.Option.{option_and_then}

-- a piece begins before the end of the download
pub pieces_begin : (total len piece : ℕ) → IsPlan total len → piece < pieces_of total len
    → piece_start len piece < piece_end total len piece
pieces_begin total len piece plan known =
    let top : pieces_of total len * len < total + len = (div_ceil_times total len plan.some).1 in
    let step : (piece + 1) * len ≤ pieces_of total len * len = mul-le-mul_right len (omega (arith, known)) in
    omega (arith, top, step, plan.some)

module _ (laws : RunFollows) (plans : OpenedHavePlans) (follow : BlocksFollow) (numbered : PlacesAreNumbered) (start : RunStart) (disk : DiskState)
    (gid : Gid) (mirror : ℕ) (meta : Meta) (want : Want) (held : List ℕ) (download : Download) (uris : List (List ℕ))
    (subject : download.subject ≡ Listed meta uris) (is_want : IsWantOf download (lengths_told meta) want)
    (piece : ℕ) (its : HasPiece meta held piece) where
  abbrev Fine : List RunTurn → Type 0
  Fine told = Stands laws plans follow start disk gid mirror (lengths_told meta) want held download is_want piece told

  abbrev CleanFor : List RunTurn → Type 0
  CleanFor told = Clean laws plans follow start disk gid mirror (lengths_told meta) want held download is_want piece told

  abbrev total : ℕ
  total = want.plan.total

  abbrev len : ℕ
  len = want.plan.piece_len

  -- ---- its lengths

  lengths_of : (past : List Event) → download_in start past gid ≡ Some download
      → known_lengths start past gid ≡ lengths_of_plan want.plan
  lengths_of past added = known_listed start past gid download meta uris added subject ∙ sym is_want.plan

  legal_of : (past : List Event) → download_in start past gid ≡ Some download → IsLegal start past
      → LegalOwn total len (own_of start past gid)
  legal_of past added legal =
      subst (λ (l : PayloadLengths). LegalOwn l.total l.piece_len (own_of start past gid)) (lengths_of past added)
      (laws.legal start past gid legal)

  -- ---- the digest

  abbrev IsBlockOfPiece : ℕ → ℕ → Type 0
  IsBlockOfPiece piece b = (b < blocks_of total len) × (piece_of len b ≡ piece)

  plan_is : (total ≡ meta.plan.total) × (len ≡ meta.plan.piece_len)
  plan_is = (ap (λ (l : PayloadLengths). l.total) is_want.plan, ap (λ (l : PayloadLengths). l.piece_len) is_want.plan)

  -- a piece whose blocks are all the held's has its digest
  piece_right : (files : Files) → HasFiles want.dir want.layout files → piece < pieces_of total len
      → ((b : ℕ) → IsBlockOfPiece piece b → HasBlockOf want held b files)
      → HasDigest want (files_in want files) piece
  piece_right files has known blocks =
      let first : ℕ = piece_start len piece in
      let last : ℕ = piece_end total len piece in
      let long : last ≤ length held = omega (arith, its.len, plan_is.0) in
      let read = stretch_read want files held first last has long
      (λ at from before.
      let found = block_at total len piece at numbered want.plan.is_plan known from before in
      blocks found.0 (found.1.within, found.1.of) at (record { from = found.1.from; before = found.1.before })) in
      let bytes : piece_payload want (files_in want files) piece ≡ piece_bytes meta held piece =
      read ∙ (λ i. part_at held (piece_start (plan_is.1 i) piece)
      (piece_end (plan_is.0 i) (plan_is.1 i) piece - piece_start (plan_is.1 i) piece)) in
      let listed : want.digests ≡ meta.digests = is_want.digests ∙ ap digests_of_subject subject in
      ap (λ (ds : List (List ℕ)). slice_get ds piece) listed
      ∙ its.digest
      ∙ ap (λ (bs : List ℕ). Some (sha1 bs)) (sym bytes)

  is_listed : IsListedWant want
  is_listed = subst (λ (o : Option (List ℕ)). IsSome o) (sym (is_want.info_hash ∙ ap info_hash_by subject)) refl

  -- ---- a turn

  module _ (t : RunTurn) (before : List RunTurn) (st : Fine (t ∷ before)) (clean : CleanFor before)
      (there : Contains t.events (Settled gid piece false (One mirror))) where
    abbrev e : Event
    e = Settled gid piece false (One mirror)

    abbrev past : List Event
    past = history_of before

    seal : IsSealOf start before t gid piece
    seal = wrong_sealed start before t st.ties.0 gid piece (One mirror) there

    -- it lands nothing
    lands_none : (id m : ℕ) (part : _) (at : _) → Contains t.events (Landed gid id m part at) → ⊥
    lands_none id m part at lands =
        subst (λ (op : Operation). WritesAsTold start past t op (disk.seen_at t.after.time)) seal.op st.fits.0.fits.written
        gid id m part at lands

    split : SplitAt t.events e
    split = split_at t.events e there

    -- the history as the piece is settled
    abbrev mid : List Event
    mid = history_after past split.front

    mid_legal : IsLegal start (e ∷ mid)
    mid_legal =
        legal_front start (e ∷ mid) split.rest
        (subst (IsLegal start) (ap (history_after past) split.cut ∙ history_on past split.front (e ∷ split.rest)) st.legal)

    may : MayBeSettled start mid gid (Settles piece false (One mirror)) false
    may = mid_legal.1

    mid_added : download_in start mid gid ≡ Some download
    mid_added =
        let d = may.own.download in
        let added = may.own.added in
        let later = download_on laws start mid (e ∷ split.rest) gid d added in
        let whole = ap (history_after past) split.cut ∙ history_on past split.front (e ∷ split.rest) in
        let same = st.same d (subst (λ (p : List Event). download_in start p gid ≡ Some d) (sym whole) later) in
        added ∙ ap (λ (x : Download). Some x) same

    settles : MaySettle total len (own_of start mid gid) piece (One mirror)
    settles =
        subst (λ (l : PayloadLengths). MaySettle l.total l.piece_len (own_of start mid gid) piece (One mirror))
        (lengths_of mid mid_added) may.own.may

    -- each of its blocks was the mirror's before the turn
    given_before : (b : ℕ) → b < blocks_of total len → piece_of len b ≡ piece
        → GivenIn laws plans follow start disk gid mirror (lengths_told meta) want held download is_want piece before b
    given_before b within of =
        let some = want.plan.is_plan.some in
        let given = given_whole total len (own_of start mid gid) piece mirror b some settles within of in
        ⊎_elim
        (λ (lands : LandsAmong gid b mirror split.front).
        absurd (lands_none lands.id mirror lands.run lands.now
        (subst (λ (es : List Event). Contains es (Landed gid lands.id mirror lands.run lands.now)) (sym split.cut)
        (Contains-append_left split.front (e ∷ split.rest) (Landed gid lands.id mirror lands.run lands.now) lands.there))))
        (λ (was : WasUntouched start gid total len b mirror past split.front). was.0)
        (source_among start gid total len b mirror split.front past
        (legal_of mid mid_added mid_legal.0) given)

    -- the piece has a block
    first_block : (b : ℕ) × IsBlockOfPiece piece b
    first_block =
        let some = (pieces_begin total len piece want.plan.is_plan settles.within) in
        let found = block_at total len piece (piece_start len piece) numbered want.plan.is_plan settles.within (omega arith) some in
        (found.0, (found.1.within, found.1.of))

    first : HasBlockOf want held first_block.0 (disk.seen_at t.before.time)
        × HasFiles want.dir want.layout (disk.seen_at t.before.time)
    first = stood_before laws plans follow start disk gid mirror (lengths_told meta) want held download is_want piece t before st clean first_block.0
        first_block.1.1 (given_before first_block.0 first_block.1.0 first_block.1.1)

    past_added : download_in start past gid ≡ Some download
    past_added =
        let st_past = stood laws plans follow start disk gid mirror (lengths_told meta) want held download is_want piece t before st in
        added_at laws plans follow start disk gid mirror (lengths_told meta) want held download is_want piece before st_past
        (opened_at laws plans follow start disk gid mirror (lengths_told meta) want held download is_want piece before st_past first_block.0
        (given_before first_block.0 first_block.1.0 first_block.1.1))

    pub never_found : ⊥
    never_found =
        let has : HasWant start past gid want = record {
          download = download;
          added = past_added;
          lengths = lengths_told meta;
          known = ap (option_and_then (λ (d : Download). lengths_by d d.subject (own_of start past gid))) past_added
              ∙ ap (λ (s : Subject). lengths_by download s (own_of start past gid)) subject;
          is = is_want;
        } in
        let reads : SealsAsRead start before t gid seal.sealed (disk.seen_at t.before.time) =
        subst (λ (op : Operation). TakesAsRead start before t op (disk.seen_at t.before.time)) seal.op st.fits.0.fits.takes in
        let found = reads.right false (One mirror)
        (subst (λ (p : ℕ). Contains t.events (Settled gid p false (One mirror))) (sym seal.same) there) want has is_listed in
        let digest = piece_right (disk.seen_at t.before.time) first.1 settles.within
        (λ b of. (stood_before laws plans follow start disk gid mirror (lengths_told meta) want held download is_want piece t before st clean b of.1
        (given_before b of.0 of.1)).0) in
        absurd (let never : false ≡ true = found.1 (subst (HasDigest want (files_in want (disk.seen_at t.before.time))) (sym seal.same) digest) in cc)
