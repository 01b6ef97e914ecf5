-- A piece that a mirror alone gave is never found wrong.
use Rattle.std.proofs.Common.{◌≡◌, ◌⊎◌, ⊎_elim, inl, inr, ℕ, suc, ◌+◌, ◌-◌, ◌*◌, ◌<◌, ◌≤◌, true, false, Option, Some, List, [], ◌∷◌, ◌++◌, length, slice_get, refl, sym, ap, ◌∙◌, subst, arith}
use Rattle.std.specs.Prelude.{Contains, IsSome}
use Rattle.std.proofs.Math.Nat.{mul-le-mul_right}
use Rattle.std.proofs.lemmas.Grind.{div_ceil_times}
use Rattle.std.proofs.lemmas.List.Elements.{Contains-append_left}
use Rattle.control_file.specs.Wants.{IsListedWant}
use Rattle.control_file.specs.declared.want.Want.{Want}
use Rattle.dl_disk.specs.Files.{Files}
use Rattle.dl_disk.specs.State.{DiskState}
use Rattle.dl_history.specs.OwnEvents.{Settles}
use Rattle.dl_history.specs.OwnLegal.{MaySettle, LegalOwn}
use Rattle.dl_history.specs.PayloadParts.{source_in}
use Rattle.dl_kinds.specs.Plan.{blocks_of, piece_end, piece_of, piece_start, pieces_of, IsPlan}
use Rattle.dl_kinds.specs.PlanLaws.{BlocksFollow, PlacesAreNumbered}
use Rattle.dl_kinds.specs.declared.gid.Gid.{Gid}
use Rattle.dl_kinds.specs.Lists.{part_at}
use Rattle.engine_core.proofs.Promising.{download_on, legal_front}
use Rattle.engine_core.specs.TurnReads.{SealsAsRead, TakesAsRead}
use Rattle.engine_core.specs.Writings.{WritesAsTold}
use Rattle.engine_turns.specs.Told.{RunTurn, history_after, history_of}
use Rattle.engine_turns.specs.declared.operations.Operation.{Operation}
use Rattle.machine_core.specs.DownloadWants.{IsWantOf, digests_of_subject, HasWant}
use Rattle.machine_core.specs.OwnParts.{PayloadLengths, own_of, lengths_by}
use Rattle.machine_core.specs.RunLegal.{IsLegal, MayBeSettled, download_in, info_hash_by, known_lengths}
use Rattle.machine_core.specs.Starts.{Download, Listed, RunStart, Subject}
use Rattle.machine_core.specs.declared.events.Event.{Event}
use Rattle.machine_core.specs.declared.events.Event.TheVariants.{Landed, Settled}
use Rattle.metainfo.specs.declared.meta.Meta.{Meta}
use Rattle.payload_files.specs.Payload.{HasFiles}
use Rattle.piece_table.specs.Changes.{From}
use Rattle.piece_table.specs.declared.giver.Giver.TheVariants.{One}
use Rattle.resume_core.specs.Resume.{HasDigest, piece_payload}
use Rattle.resume_core.specs.Wants.{files_in}
use Rattle.blameless_mirrors.proofs.ListedLengths.{known_listed, lengths_told}
use Rattle.machine_core.specs.RunSteps.{OpenedHavePlans}
use Rattle.sha1.specs.Sha1.{sha1}
use Rattle.stored_run.proofs.Doing.{history_on}
use Rattle.stored_run.proofs.Left.{one_of}
use Rattle.stored_run.specs.RunFollows.{RunFollows}
use Rattle.blameless_mirrors.specs.Chosen.{IsChosenPiece}
use Rattle.blameless_mirrors.specs.Blameless.{HasBlockOf, HasChosenPieces, piece_bytes}
use Rattle.blameless_mirrors.proofs.Delivered.{GivenIn, Stands, blocks_stood, opened_at, stood, added_at}
use Rattle.blameless_mirrors.proofs.EventSources.{LandsAmong, WasUntouched, source_among}
use Rattle.blameless_mirrors.proofs.Givers.{given_whole}
use Rattle.blameless_mirrors.proofs.Parts.{IsSealOf, wrong_sealed}
use Rattle.blameless_mirrors.proofs.PayloadBytes.{block_at, stretch_read}
use Rattle.blameless_mirrors.proofs.Wanting.{IsWanted, given_wanted, wanted_chosen}
use Rattle.machine_core.specs.Openings.{lengths_of_plan}
use Rattle.std.specs.Option.{option_and_then}

-- ---- events of turns

-- events up to one of them
pub record SplitAt (events : List Event) (e : Event) : Type 0 where
  pub front : List Event
  pub rest : List Event
  pub cut : events ≡ front ++ e ∷ rest

pub split_at : (events : List Event) (e : Event) → Contains events e → SplitAt events e
split_at [] e there = absurd (let within = there.1 in omega (arith, within))
split_at (x ∷ events) e there = ⊎_elim
    (λ (here : x ≡ e). record { front = []; rest = events; cut = λ i. here i ∷ events })
    (λ (later : Contains events e).
    let more = split_at events e later in
    record { front = x ∷ more.front; rest = more.rest; cut = λ i. x ∷ more.cut i })
    (one_of x e events there)

-- what stands in the history behind events is one of them, or stood before them
pub come_of : (past events : List Event) (e : Event) → Contains (history_after past events) e
    → Contains events e ⊎ Contains past e
come_of past [] e there = inr there
come_of past (x ∷ events) e there = ⊎_elim
    (λ (later : Contains events e).
    inl (suc later.0, (let within = later.1 in omega (arith, within)), later.2))
    (λ (before : Contains (x ∷ past) e). ⊎_elim
    (λ (here : x ≡ e). inl (0, omega arith, here))
    (λ (was : Contains past e). inr was) (one_of x e past before))
    (come_of (x ∷ past) events e there)

-- a piece begins before the end of the payload
pieces_begin : (total len piece : ℕ) → IsPlan total len → piece < pieces_of total len
    → piece_start len piece < piece_end total len piece
pieces_begin total len piece plan known =
    let top : pieces_of total len * len < total + len = (div_ceil_times total len plan.some).1 in
    let step : (piece + 1) * len ≤ pieces_of total len * len = mul-le-mul_right len (omega (arith, known)) in
    omega (arith, top, step, plan.some)

module _ (laws : RunFollows) (plans : OpenedHavePlans) (follow : BlocksFollow) (numbered : PlacesAreNumbered) (start : RunStart) (disk : DiskState)
    (gid : Gid) (mirror : ℕ) (meta : Meta) (want : Want) (payload : List ℕ) (download : Download) (uris : List (List ℕ))
    (subject : download.subject ≡ Listed meta uris) (is_want : IsWantOf download (lengths_told meta) want)
    (its : HasChosenPieces meta download.options payload) where
  abbrev Fine : List RunTurn → Type 0
  Fine told = Stands laws plans follow start disk gid mirror (lengths_told meta) want payload download is_want told

  abbrev total : ℕ
  total = want.plan.total

  abbrev len : ℕ
  len = want.plan.piece_len

  -- ---- its lengths

  lengths_of : (past : List Event) → download_in start past gid ≡ Some download
      → known_lengths start past gid ≡ lengths_of_plan want.plan
  lengths_of past added = known_listed start past gid download meta uris added subject ∙ sym is_want.plan

  legal_of : (past : List Event) → download_in start past gid ≡ Some download → IsLegal start past
      → LegalOwn total len (own_of start past gid)
  legal_of past added legal =
      subst (λ (l : PayloadLengths). LegalOwn l.total l.piece_len (own_of start past gid)) (lengths_of past added)
      (laws.legal start past gid legal)

  -- ---- the digest

  abbrev IsBlockOfPiece : ℕ → ℕ → Type 0
  IsBlockOfPiece piece b = (b < blocks_of total len) × (piece_of len b ≡ piece)

  plan_is : (total ≡ meta.plan.total) × (len ≡ meta.plan.piece_len)
  plan_is = (ap (λ (l : PayloadLengths). l.total) is_want.plan, ap (λ (l : PayloadLengths). l.piece_len) is_want.plan)

  -- a piece that the options choose whose blocks are all the payload's has its digest
  piece_right : (files : Files) → HasFiles want.dir want.layout files → (piece : ℕ) → piece < pieces_of total len
      → IsChosenPiece meta download.options piece
      → ((b : ℕ) → IsBlockOfPiece piece b → HasBlockOf want payload b files)
      → HasDigest want (files_in want files) piece
  piece_right files has piece known chosen blocks =
      let first : ℕ = piece_start len piece in
      let last : ℕ = piece_end total len piece in
      let long : last ≤ length payload = omega (arith, its.len, plan_is.0) in
      let read = stretch_read want files payload first last has long
      (λ at from before.
      let found = block_at total len piece at numbered want.plan.is_plan known from before in
      blocks found.0 (found.1.within, found.1.of) at (record { from = found.1.from; before = found.1.before })) in
      let bytes : piece_payload want (files_in want files) piece ≡ piece_bytes meta payload piece =
      read ∙ (λ i. part_at payload (piece_start (plan_is.1 i) piece)
      (piece_end (plan_is.0 i) (plan_is.1 i) piece - piece_start (plan_is.1 i) piece)) in
      let listed : want.digests ≡ meta.digests = is_want.digests ∙ ap digests_of_subject subject in
      ap (λ (ds : List (List ℕ)). slice_get ds piece) listed
      ∙ its.digests piece chosen
      ∙ ap (λ (bs : List ℕ). Some (sha1 bs)) (sym bytes)

  is_listed : IsListedWant want
  is_listed = subst (λ (o : Option (List ℕ)). IsSome o) (sym (is_want.info_hash ∙ ap info_hash_by subject)) refl

  -- ---- a turn

  module _ (t : RunTurn) (before : List RunTurn) (st : Fine (t ∷ before)) (piece : ℕ)
      (there : Contains t.events (Settled gid piece false (One mirror))) where
    abbrev e : Event
    e = Settled gid piece false (One mirror)

    abbrev past : List Event
    past = history_of before

    seal : IsSealOf start before t gid piece
    seal = wrong_sealed start before t st.ties.0 gid piece (One mirror) there

    -- it lands nothing
    lands_none : (id m : ℕ) (part : _) (at : _) → Contains t.events (Landed gid id m part at) → ⊥
    lands_none id m part at lands =
        subst (λ (op : Operation). WritesAsTold start past t op (disk.seen_at t.after.time)) seal.op st.fits.0.fits.written
        gid id m part at lands

    split : SplitAt t.events e
    split = split_at t.events e there

    -- the history as the piece is settled
    abbrev mid : List Event
    mid = history_after past split.front

    mid_legal : IsLegal start (e ∷ mid)
    mid_legal =
        legal_front start (e ∷ mid) split.rest
        (subst (IsLegal start) (ap (history_after past) split.cut ∙ history_on past split.front (e ∷ split.rest)) st.legal)

    may : MayBeSettled start mid gid (Settles piece false (One mirror)) false
    may = mid_legal.1

    mid_added : download_in start mid gid ≡ Some download
    mid_added =
        let d = may.own.download in
        let added = may.own.added in
        let later = download_on laws start mid (e ∷ split.rest) gid d added in
        let whole = ap (history_after past) split.cut ∙ history_on past split.front (e ∷ split.rest) in
        let same = st.same d (subst (λ (p : List Event). download_in start p gid ≡ Some d) (sym whole) later) in
        added ∙ ap (λ (x : Download). Some x) same

    settles : MaySettle total len (own_of start mid gid) piece (One mirror)
    settles =
        subst (λ (l : PayloadLengths). MaySettle l.total l.piece_len (own_of start mid gid) piece (One mirror))
        (lengths_of mid mid_added) may.own.may

    -- each of its blocks is the mirror's as it is settled ..
    given_mid : (b : ℕ) → b < blocks_of total len → piece_of len b ≡ piece → source_in len (own_of start mid gid) b ≡ From mirror
    given_mid b within of = given_whole total len (own_of start mid gid) piece mirror b want.plan.is_plan.some settles within of

    -- .. and was so before the turn
    given_before : (b : ℕ) → b < blocks_of total len → piece_of len b ≡ piece
        → GivenIn laws plans follow start disk gid mirror (lengths_told meta) want payload download is_want before b
    given_before b within of =
        ⊎_elim
        (λ (lands : LandsAmong gid b mirror split.front).
        absurd (lands_none lands.id mirror lands.run lands.now
        (subst (λ (es : List Event). Contains es (Landed gid lands.id mirror lands.run lands.now)) (sym split.cut)
        (Contains-append_left split.front (e ∷ split.rest) (Landed gid lands.id mirror lands.run lands.now) lands.there))))
        (λ (was : WasUntouched start gid total len b mirror past split.front). was.0)
        (source_among start gid total len b mirror split.front past
        (legal_of mid mid_added mid_legal.0) (given_mid b within of))

    -- the piece has a block
    first_block : (b : ℕ) × IsBlockOfPiece piece b
    first_block =
        let some = (pieces_begin total len piece want.plan.is_plan settles.within) in
        let found = block_at total len piece (piece_start len piece) numbered want.plan.is_plan settles.within (omega arith) some in
        (found.0, (found.1.within, found.1.of))

    first : HasBlockOf want payload first_block.0 (disk.seen_at t.before.time)
        × HasFiles want.dir want.layout (disk.seen_at t.before.time)
    first = blocks_stood laws plans follow start disk gid mirror (lengths_told meta) want payload download is_want t before st first_block.0
        (given_before first_block.0 first_block.1.0 first_block.1.1)

    -- so the options choose it
    chosen : IsChosenPiece meta download.options piece
    chosen =
        let of : piece_of meta.plan.piece_len first_block.0 ≡ piece =
        ap (λ (n : ℕ). piece_of n first_block.0) (sym plan_is.1) ∙ first_block.1.1 in
        let added = mid_added in
        wanted_chosen download meta uris subject piece
        (subst (IsWanted laws plans start gid meta uris download subject) of
        (given_wanted laws plans start gid meta uris download subject mid mid_legal.0
        (λ d there. let both : Some d ≡ Some download = sym there ∙ added in cc)
        added first_block.0 mirror
        (subst (λ (n : ℕ). source_in n (own_of start mid gid) first_block.0 ≡ From mirror) plan_is.1
        (given_mid first_block.0 first_block.1.0 first_block.1.1))))

    past_added : download_in start past gid ≡ Some download
    past_added =
        let st_past = stood laws plans follow start disk gid mirror (lengths_told meta) want payload download is_want t before st in
        added_at laws plans follow start disk gid mirror (lengths_told meta) want payload download is_want before st_past
        (opened_at laws plans follow start disk gid mirror (lengths_told meta) want payload download is_want before st_past first_block.0
        (given_before first_block.0 first_block.1.0 first_block.1.1))

    pub never_found : ⊥
    never_found =
        let has : HasWant start past gid want = record {
          download = download;
          added = past_added;
          lengths = lengths_told meta;
          known = ap (option_and_then (λ (d : Download). lengths_by d d.subject (own_of start past gid))) past_added
              ∙ ap (λ (s : Subject). lengths_by download s (own_of start past gid)) subject;
          is = is_want;
        } in
        let reads : SealsAsRead start before t gid seal.sealed (disk.seen_at t.before.time) =
        subst (λ (op : Operation). TakesAsRead start before t op (disk.seen_at t.before.time)) seal.op st.fits.0.fits.takes in
        let found = reads.right false (One mirror)
        (subst (λ (p : ℕ). Contains t.events (Settled gid p false (One mirror))) (sym seal.same) there) want has is_listed in
        let digest = piece_right (disk.seen_at t.before.time) first.1 piece settles.within chosen
        (λ b of. (blocks_stood laws plans follow start disk gid mirror (lengths_told meta) want payload download is_want t before st b
        (given_before b of.0 of.1)).0) in
        absurd (let never : false ≡ true = found.1 (subst (HasDigest want (files_in want (disk.seen_at t.before.time))) (sym seal.same) digest) in cc)

  -- ---- the history

  pub never_wrong : (told : List RunTurn) → Fine told → (piece : ℕ)
      → ¬ Contains (history_of told) (Settled gid piece false (One mirror))
  never_wrong [] st piece there = (let within = there.1 in omega (arith, within))
  never_wrong (t ∷ before) st piece there = ⊎_elim
      (λ (here : Contains t.events (Settled gid piece false (One mirror))). never_found t before st piece here)
      (λ (was : Contains (history_of before) (Settled gid piece false (One mirror))).
      never_wrong before (stood laws plans follow start disk gid mirror (lengths_told meta) want payload download is_want t before st) piece was)
      (come_of (history_of before) t.events (Settled gid piece false (One mirror)) there)
