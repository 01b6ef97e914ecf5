-- What stands in the files of blocks of a piece that a mirror gave, turn by turn.
use Rattle.std.proofs.Common.{◌≡◌, ⊎_elim, ℕ, min, ◌+◌, ◌-◌, ◌*◌, ◌<◌, ◌≤◌, Bool, true, false, Option, None, Some, List, [], ◌∷◌, slice_get, refl, sym, ap, ◌∙◌, subst, arith}
use Rattle.std.specs.Prelude.{Contains, nat_le, nat_lt}
use Rattle.std.proofs.lemmas.Bool.Decides.{nat_tests}
use Rattle.control_file.specs.declared.want.Want.{Want}
use Rattle.dl_disk.specs.Files.{Files}
use Rattle.dl_disk.specs.State.{DiskState}
use Rattle.dl_history.proofs.Bools.{and_both, and_left, true_not_false}
use Rattle.dl_history.proofs.Early.{below_end, early, not_false}
use Rattle.dl_history.proofs.Facts.{facts}
use Rattle.dl_history.proofs.Members.{has_filter, has_from}
use Rattle.dl_history.proofs.Sole.{some_of}
use Rattle.dl_history.specs.OwnEvents.{OwnEvent}
use Rattle.dl_history.specs.OwnLegal.{LegalOwn}
use Rattle.dl_history.specs.PayloadParts.{is_alive, is_landed_in, is_opened, source_in}
use Rattle.dl_history.specs.StandingClaims.{granted_claims, is_standing, standing_claims}
use Rattle.dl_kinds.specs.Plan.{block_end, block_start, blocks_of, piece_end, piece_of, piece_start, place_of}
use Rattle.dl_kinds.specs.declared.claims.Claim.{Claim}
use Rattle.dl_kinds.specs.PlanLaws.{BlocksFollow}
use Rattle.dl_kinds.specs.declared.gid.Gid.{Gid}
use Rattle.dl_kinds.specs.declared.runs.Moment.{Moment}
use Rattle.dl_kinds.specs.declared.runs.Run.{Run}
use Rattle.engine_core.proofs.Promising.{alone_before, download_on, legal_front, lengths_on, want_later}
use Rattle.engine_core.specs.Askings.{IsWrittenAlone}
use Rattle.engine_core.specs.TurnReads.{FitsFiles, TurnsFitDisk}
use Rattle.engine_core.specs.Writings.{CutsByte, LandsByte, WritesAsTold}
use Rattle.engine_turns.specs.RunTurns.{MayComeAfter}
use Rattle.engine_turns.specs.Told.{AllTurns, RunTurn, history_of}
use Rattle.engine_turns.specs.declared.operations.Operation.{Operation}
use Rattle.engine_turns.specs.declared.operations.Operation.TheVariants as operation
use Rattle.machine_core.proofs.Parts.{opened_added}
use Rattle.machine_core.specs.DownloadWants.{HasWant, IsWantOf}
use Rattle.machine_core.specs.Openings.{lengths_of_plan}
use Rattle.machine_core.specs.OwnParts.{PayloadLengths, no_lengths, own_of, payload_lengths_of}
use Rattle.machine_core.specs.RunLegal.{IsLegal, download_in, known_lengths}
use Rattle.machine_core.specs.Starts.{Download, RunStart}
use Rattle.machine_core.specs.declared.events.Event.{Event}
use Rattle.machine_core.specs.declared.events.Event.TheVariants.{Landed}
use Rattle.payload_files.specs.Payload.{HasFiles}
use Rattle.piece_table.specs.Changes.{Absent, From, is_in, is_present}
use Rattle.resume_core.proofs.RunBytes.{block_in_run, one_block}
use Rattle.resume_core.specs.Runs.{run_len}
use Rattle.span_map.specs.Jobs.{IsRun, run_start}
use Rattle.std.specs.Option.{unwrap_or}
use Rattle.dl_kinds.specs.Plan.{IsPlan}
use Rattle.machine_core.specs.RunSteps.{OpenedHavePlans}
use Rattle.dl_history.specs.HistoryLaws.{UnopenedFitAnyLengths}
use Rattle.stored_run.proofs.PartBytes.{ends_rise, starts_rise}
use Rattle.stored_run.specs.RunFollows.{RunFollows}
use Rattle.stored_run.specs.Settlings.{payload_of}
use Rattle.stored_run.specs.Writings.{HoldsPart, IsByteOfBlock}
use Rattle.blameless_mirrors.specs.Blameless.{FollowsMark, HasBlockOf}
use Rattle.mark_costs.specs.Paid.{HasRightBytes, IsByteOfPiece, IsByteOfRun}
use Rattle.blameless_mirrors.proofs.EventSources.{LandsAmong, NoneLands, WasUntouched, source_among}
use Rattle.blameless_mirrors.proofs.Parts.{IsDeliveredPart, delivered_part, landed_by}
use Rattle.blameless_mirrors.proofs.PayloadBytes.{part_byte}

-- ---- places

above : (a b c : ℕ) → a + b ≤ c → a ≤ c
above a b c le = omega arith

below_right : (a b c : ℕ) → a < min b c → a < c
below_right a b c less = omega arith

-- a byte of a block is one of its piece
byte_in_piece : (total len b at : ℕ) → block_start len b ≤ at → at < block_end total len b
    → IsByteOfPiece (record { total = total; piece_len = len }) (piece_of len b) at
byte_in_piece total len b at from before = record {
  from = above (piece_start len (piece_of len b)) (place_of len b * 16384) at from;
  before = below_right at (block_start len b + 16384) (piece_end total len (piece_of len b)) before;
}

-- ---- blocks of runs

in_bounds : (b : ℕ) (run : Run) → is_in b run ≡ true → (run.first ≤ b) × (b < run.first + run.count)
in_bounds b run is =
    let from = and_left (nat_le run.first b) (nat_lt b (run.first + run.count)) is in
    let low : run.first ≤ b = grind (arith, nat_tests) in
    (low, below_end b run is)

is_within : (b : ℕ) (run : Run) → run.first ≤ b → b < run.first + run.count → is_in b run ≡ true
is_within b run low high =
    let p : nat_le run.first b ≡ true = grind (arith, nat_tests) in
    let q : nat_lt b (run.first + run.count) ≡ true = grind (arith, nat_tests) in
    and_both (nat_le run.first b) (nat_lt b (run.first + run.count)) p q

-- a block that a mirror gave is one of a download that is opened
pub given_opened : (total len : ℕ) (own : List OwnEvent) → LegalOwn total len own → (size b m : ℕ)
    → source_in size own b ≡ From m → is_opened own ≡ true
given_opened total len own legal size b m is =
    not_false (is_opened own)
    (λ un. absurd (let e : Absent ≡ From m = sym ((early total len own legal un).absent (is_alive own) (piece_of size b) b) ∙ is in cc))

-- the lengths of a download that is opened are known
opened_known : (o : Option PayloadLengths) (lengths : PayloadLengths)
    → IsPlan (unwrap_or o no_lengths).total (unwrap_or o no_lengths).piece_len
    → ((l : PayloadLengths) → o ≡ Some l → l ≡ lengths) → o ≡ Some lengths
opened_known None lengths plan same = absurd (let some = plan.some in omega (arith, some))
opened_known (Some l) lengths plan same = ap (λ (x : PayloadLengths). Some x) (same l refl)

-- no block lands of a download that isn't opened
lands_opened : {P : Type 0} (total len : ℕ) (own : List OwnEvent) → UnopenedFitAnyLengths → LegalOwn total len own
    → is_opened own ≡ false → (claim : Claim) → Contains (standing_claims own) claim
    → 1 ≤ claim.run.first + claim.run.count → P
lands_opened total len own fit legal un claim stands some =
    let there = has_filter (is_standing own) (granted_claims own) claim
    (has_from (standing_claims own) claim stands.0 stands.1 stands.2) in
    let most = (facts 0 1 own (fit total len 0 1 own legal un)).within claim there.0 in
    let none : blocks_of 0 1 ≡ 0 = refl in
    absurd (omega (arith, most, none, some))

module _ (laws : RunFollows) (plans : OpenedHavePlans) (follow : BlocksFollow) (start : RunStart) (disk : DiskState) (gid : Gid)
    (mirror : ℕ) (lengths : PayloadLengths) (want : Want) (held : List ℕ) (download : Download)
    (is_want : IsWantOf download lengths want) (piece : ℕ) where
  -- whatever lengths are told of it are these
  abbrev pub AreTheirs : List Event → Type 0
  AreTheirs past = (l : PayloadLengths) → payload_lengths_of start past gid ≡ Some l → l ≡ lengths

  abbrev total : ℕ
  total = want.plan.total

  abbrev len : ℕ
  len = want.plan.piece_len

  -- what holds after these turns
  pub record Stands (told : List RunTurn) : Type 0 where
    pub legal : IsLegal start (history_of told)
    pub ties : AllTurns (MayComeAfter start) told
    pub marks : AllTurns FollowsMark told
    pub fits : TurnsFitDisk start told disk
    pub alone : IsWrittenAlone start told want
    pub only : (other : Gid) → HasWant start (history_of told) other want → other ≡ gid
    pub same : (d : Download) → download_in start (history_of told) gid ≡ Some d → d ≡ download
    pub known : AreTheirs (history_of told)

  pub stood : (t : RunTurn) (before : List RunTurn) → Stands (t ∷ before) → Stands before
  stood t before st = record {
    legal = legal_front start (history_of before) t.events st.legal;
    ties = st.ties.1;
    marks = st.marks.1;
    fits = st.fits.1;
    alone = alone_before laws start before t st.legal want st.alone;
    only = λ other has. st.only other (want_later laws start before t st.legal other want has);
    same = λ d added. st.same d (download_on laws start (history_of before) t.events gid d added);
    known = λ l is. st.known l (lengths_on laws start (history_of before) t.events gid l st.legal is);
  }

  -- ---- the download

  module _ (past : List Event) (legal : IsLegal start past) (added : download_in start past gid ≡ Some download)
      (opened : is_opened (own_of start past gid) ≡ true) (theirs : AreTheirs past) where
    known_at : payload_lengths_of start past gid ≡ Some lengths
    known_at = opened_known (payload_lengths_of start past gid) lengths (plans start past gid legal opened) theirs

    pub lengths_at : known_lengths start past gid ≡ lengths_of_plan want.plan
    lengths_at = ap (λ (o : Option PayloadLengths). unwrap_or o no_lengths) known_at ∙ sym is_want.plan

    pub legal_own : LegalOwn total len (own_of start past gid)
    legal_own =
        subst (λ (l : PayloadLengths). LegalOwn l.total l.piece_len (own_of start past gid)) lengths_at
        (laws.legal start past gid legal)

    pub has_at : HasWant start past gid want
    has_at = record {
      download = download;
      added = added;
      lengths = lengths;
      known = known_at;
      is = is_want;
    }

  abbrev pub GivenIn : List RunTurn → ℕ → Type 0
  GivenIn told b = source_in len (own_of start (history_of told) gid) b ≡ From mirror

  module _ (told : List RunTurn) (st : Stands told) where
    pub opened_at : (b : ℕ) → GivenIn told b → is_opened (own_of start (history_of told) gid) ≡ true
    opened_at b given =
        given_opened (known_lengths start (history_of told) gid).total (known_lengths start (history_of told) gid).piece_len
        (own_of start (history_of told) gid) (laws.legal start (history_of told) gid st.legal) len b mirror given

    pub added_at : is_opened (own_of start (history_of told) gid) ≡ true → download_in start (history_of told) gid ≡ Some download
    added_at opened =
        let some = some_of (download_in start (history_of told) gid) (opened_added start (history_of told) gid st.legal opened) in
        some.1 ∙ ap (λ (d : Download). Some d) (st.same some.0 some.1)

  -- behind a turn the files have their lengths
  pub whole : (t : RunTurn) (before : List RunTurn) → Stands (t ∷ before)
      → is_opened (own_of start (history_of (t ∷ before)) gid) ≡ true
      → HasFiles want.dir want.layout (disk.seen_at t.after.time)
  whole t before st opened =
      st.fits.0.fits.lengths want gid st.alone
      (record {
        opened = opened;
        has = has_at (history_of (t ∷ before)) st.legal (added_at (t ∷ before) st opened) opened st.known;
      })

  -- ---- a turn

  module _ (t : RunTurn) (before : List RunTurn) (st : Stands (t ∷ before)) where
    abbrev past : List Event
    past = history_of before

    abbrev old : Files
    old = disk.seen_at t.before.time

    abbrev new : Files
    new = disk.seen_at t.after.time

    abbrev fit : FitsFiles start before t old new
    fit = st.fits.0.fits

    -- a part lands of a download that is opened
    part_opened : (claim : ℕ) (run : Run) (id : ℕ) (part : Run) → IsDeliveredPart start past claim run gid id part
        → is_opened (own_of start past gid) ≡ true
    part_opened claim run id part d = by (is_opened (own_of start past gid)) refl
      where
        by : (b : Bool) → is_opened (own_of start past gid) ≡ b → is_opened (own_of start past gid) ≡ true
        by true is = is
        by false un =
            let some = d.some in
            let last = d.last in
            let within = d.within in
            lands_opened (known_lengths start past gid).total (known_lengths start past gid).piece_len (own_of start past gid)
            laws.sound.unopened (laws.legal start past gid (stood t before st).legal) un d.claimed d.stands
            (omega (arith, some, last, within))

    -- the run of a part that lands is within the held
    part_within : (claim : ℕ) (run : Run) (id : ℕ) (part : Run) → (d : IsDeliveredPart start past claim run gid id part)
        → (download_in start past gid ≡ Some download) × (run.first + run.count ≤ blocks_of total len)
    part_within claim run id part d =
        let added = d.added ∙ ap (λ (x : Download). Some x) ((stood t before st).same d.download d.added) in
        let own = own_of start past gid in
        let there = has_filter (is_standing own) (granted_claims own) d.claimed
        (has_from (standing_claims own) d.claimed d.stands.0 d.stands.1 d.stands.2) in
        let most = (facts total len own (legal_own past (stood t before st).legal added (part_opened claim run id part d)
        (stood t before st).known)).within
        d.claimed there.0 in
        (added, omega (arith, d.within, most))

    landed_byte : (claim : ℕ) (run : Run) (bytes : List ℕ) (now : Moment) → t.op ≡ operation.Deliver claim run bytes now
        → (id : ℕ) (part : Run) (when : Moment) → Contains t.events (Landed gid id mirror part when)
        → HasRightBytes lengths held piece run bytes
        → (b : ℕ) → is_in b part ≡ true → piece_of len b ≡ piece → HasBlockOf want held b new
    landed_byte claim run bytes now op id part when there right b inside of at is =
        let d = delivered_part start before t st.ties.0 claim run bytes now op gid id mirror part when there in
        let so = part_within claim run id part d in
        let here : Contains t.events (Landed gid claim mirror part when) =
        subst (λ (i : ℕ). Contains t.events (Landed gid i mirror part when)) d.same there in
        let holds : HoldsPart want run part bytes new =
        subst (λ (op : Operation). WritesAsTold start past t op new) op fit.written gid mirror part when here want
        (has_at past (stood t before st).legal so.0 (part_opened claim run id part d) (stood t before st).known) in
        let rights : HasRightBytes (lengths_of_plan want.plan) held piece run bytes =
        subst (λ (l : PayloadLengths). HasRightBytes l held piece run bytes) (sym is_want.plan) right in
        let bounds = in_bounds b part inside in
        let some = d.some in
        let last_part : ℕ = part.first + part.count - 1 in
        let last_run : ℕ = run.first + run.count - 1 in
        let from_part = starts_rise follow total len want.plan.is_plan part.first b bounds.0 (omega (arith, bounds.1, d.last, so.1)) in
        let to_part = ends_rise follow total len want.plan.is_plan b last_part (omega (arith, bounds.1)) (omega (arith, some, d.last, so.1)) in
        let from_run = starts_rise follow total len want.plan.is_plan run.first part.first d.first (omega (arith, some, d.last, so.1)) in
        let to_run = ends_rise follow total len want.plan.is_plan last_part last_run (omega (arith, some, d.last)) (omega (arith, some, d.first, d.last, so.1)) in
        let low : ℕ = run_start want.plan part in
        let base : ℕ = run_start want.plan run in
        let k : ℕ = at - low in
        let less : k < run_len want.plan part = omega (arith, from_part, to_part, is.from, is.before) in
        let place : low + k ≡ at = omega (arith, from_part, is.from) in
        let place_run : low - base + k ≡ at - base = omega (arith, from_part, from_run, is.from) in
        let of_piece : IsByteOfPiece (lengths_of_plan want.plan) piece at =
        subst (λ (p : ℕ). IsByteOfPiece (lengths_of_plan want.plan) p at) of (byte_in_piece total len b at is.from is.before) in
        let of_run : IsByteOfRun (lengths_of_plan want.plan) run at = record {
          from = omega (arith, from_part, from_run, is.from);
          before = omega (arith, to_part, to_run, is.before);
        } in
        ap (λ (i : ℕ). slice_get (payload_of want new) i) (sym place)
        ∙ sym (part_byte (payload_of want new) low (run_len want.plan part) k less)
        ∙ ap (λ (l : List ℕ). slice_get l k) holds
        ∙ part_byte bytes (low - base) (run_len want.plan part) k less
        ∙ ap (λ (i : ℕ). slice_get bytes i) place_run
        ∙ rights at of_piece of_run

    -- what the turn delivers of the piece is right, where it lands by the mirror
    abbrev pub DeliversRight : Type 0
    DeliversRight = (claim : ℕ) (run part : Run) (bytes : List ℕ) (now when : Moment)
        → t.op ≡ operation.Deliver claim run bytes now → Contains t.events (Landed gid claim mirror part when)
        → HasRightBytes lengths held piece run bytes

    -- a block that a turn lands, by the mirror
    delivered_block : DeliversRight → (b : ℕ) → piece_of len b ≡ piece → LandsAmong gid b mirror t.events
        → HasBlockOf want held b new
    delivered_block right b of lands =
        landed_by start past t new t.op fit.written
        (λ claim run bytes now op.
        let d = delivered_part start before t st.ties.0 claim run bytes now op gid lands.id mirror lands.run lands.now lands.there in
        landed_byte claim run bytes now op lands.id lands.run lands.now lands.there
        (right claim run lands.run bytes now lands.now op
        (subst (λ (i : ℕ). Contains t.events (Landed gid i mirror lands.run lands.now)) d.same lands.there))
        b lands.inside of)
        gid lands.id mirror lands.run lands.now lands.there

    -- a byte of a block that none of its parts holds is written by none
    unlanded_byte : (b : ℕ) → NoneLands gid b t.events → (at : ℕ) → IsByteOfBlock want.plan b at
        → ¬ LandsByte start past t want at
    unlanded_byte b none at is lands =
        let its : lands.gid ≡ gid = (stood t before st).only lands.gid lands.has in
        let there = subst (λ (g : Gid). Contains t.events (Landed g lands.claim lands.mirror lands.part lands.now)) its lands.landed in
        landed_by start past t new t.op fit.written
        (λ claim run bytes now op.
        let d = delivered_part start before t st.ties.0 claim run bytes now op gid lands.claim lands.mirror lands.part lands.now there in
        let so = part_within claim run lands.claim lands.part d in
        let is_run : IsRun want.plan lands.part = record { some = d.some; within = omega (arith, d.last, so.1) } in
        let found = block_in_run follow want lands.part want.plan.is_plan is_run at lands.inside.from lands.inside.before in
        let same : found.0 ≡ b = one_block total len found.0 b at found.2 (record { from = is.from; before = is.before }) in
        let inside = is_within found.0 lands.part found.1.from found.1.before in
        true_not_false (is_in b lands.part) (ap (λ (c : ℕ). is_in c lands.part) (sym same) ∙ inside)
        (none lands.claim lands.mirror lands.part lands.now there))
        gid lands.claim lands.mirror lands.part lands.now there

    -- nor is a block that is landed open in a claim
    uncut_byte : (b : ℕ) → GivenIn before b → (at : ℕ) → IsByteOfBlock want.plan b at → ¬ CutsByte start past t want at
    uncut_byte b given at is cuts =
        let opened = opened_at before (stood t before st) b given in
        let added = added_at before (stood t before st) opened in
        let its : cuts.gid ≡ gid = (stood t before st).only cuts.gid cuts.has in
        let o = subst (λ (g : Gid). Rattle.stored_run.specs.Writings.IsOpenByte (own_of start past g) cuts.claim cuts.run want.plan at)
        its cuts.open_in in
        let same : o.block ≡ b =
        one_block total len o.block b at (record { from = o.inside.from; before = o.inside.before })
        (record { from = is.from; before = is.before }) in
        let un = laws.sound.open_blocks total len (own_of start past gid) o.claimed o.block
        (legal_own past (stood t before st).legal added opened (stood t before st).known) o.stands o.open_in in
        true_not_false (is_landed_in len (own_of start past gid) b) (ap is_present given)
        (ap (is_landed_in len (own_of start past gid)) (sym same) ∙ un.unlanded)

    -- a block of the mirror that stood before stands behind the turn
    abbrev pub StoodBefore : Type 0
    StoodBefore = (b : ℕ) → piece_of len b ≡ piece → GivenIn before b → HasBlockOf want held b old × HasFiles want.dir want.layout old

    kept_block : StoodBefore → (b : ℕ) → piece_of len b ≡ piece → WasUntouched start gid total len b mirror past t.events → HasBlockOf want held b new
    kept_block prior b of was at is =
        let so = prior b of was.0 in
        fit.payload want st.alone so.1 at
        (λ written. ⊎_elim (unlanded_byte b was.1 at is) (uncut_byte b was.0 at is) written)
        ∙ so.0 at is

    pub block_behind : DeliversRight → StoodBefore → (b : ℕ) → piece_of len b ≡ piece → GivenIn (t ∷ before) b
        → HasBlockOf want held b new
    block_behind right prior b of given =
        let opened = opened_at (t ∷ before) st b given in
        let added = added_at (t ∷ before) st opened in
        ⊎_elim
        (delivered_block right b of)
        (kept_block prior b of)
        (source_among start gid total len b mirror t.events past (legal_own (history_of (t ∷ before)) st.legal added opened st.known) given)

  -- ---- all turns

  -- each block of the piece that the mirror gave reads as it holds it
  abbrev pub Clean : List RunTurn → Type 0
  Clean [] = Unit {0}
  Clean (t ∷ before) =
      (b : ℕ) → piece_of len b ≡ piece → GivenIn (t ∷ before) b → HasBlockOf want held b (disk.seen_at t.after.time)

  -- what stood behind a turn stands before the next one
  pub stood_before : (t : RunTurn) (before : List RunTurn) (st : Stands (t ∷ before)) → Clean before → StoodBefore t before st
  stood_before t [] st clean b of given = absurd cc
  stood_before t (u ∷ older) st clean b of given =
      let time : u.after.time ≡ t.before.time = ap (λ s. s.time) (sym st.marks.0) in
      let st_u = stood t (u ∷ older) st in
      subst (λ (k : ℕ). HasBlockOf want held b (disk.seen_at k) × HasFiles want.dir want.layout (disk.seen_at k)) time
      (clean b of given, whole u older st_u (opened_at (u ∷ older) st_u b given))

  pub clean_behind : (t : RunTurn) (before : List RunTurn) (st : Stands (t ∷ before)) → DeliversRight t before st
      → Clean before → Clean (t ∷ before)
  clean_behind t before st right clean = block_behind t before st right (stood_before t before st clean)
