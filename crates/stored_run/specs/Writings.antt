-- What an operation writes into payloads, and what stays of them.
use Rattle.std.specs.Prelude.{◌≡◌, ◌⊎◌, ◌<◌, ◌≤◌, ◌-◌, ℕ, true, Contains, List, Some, slice_get}
use Rattle.control_file.specs.declared.want.Want.{Want}
use Rattle.dl_disk.specs.Files.{Files}
use Rattle.dl_disk.specs.State.{DiskState}
use Rattle.dl_history.specs.OwnEvents.{OwnEvent}
use Rattle.dl_history.specs.PayloadParts.{is_opened}
use Rattle.dl_history.specs.StandingClaims.{is_open_since, standing_claims}
use Rattle.dl_kinds.specs.Plan.{block_end, block_start}
use Rattle.dl_kinds.specs.declared.claims.Claim.{Claim}
use Rattle.dl_kinds.specs.declared.gid.Gid.{Gid}
use Rattle.dl_kinds.specs.declared.plan.Plan.{Plan}
use Rattle.dl_kinds.specs.declared.runs.Moment.{Moment}
use Rattle.dl_kinds.specs.declared.runs.Run.{Run}
use Rattle.dl_kinds.specs.Lists.{part_at}
use Rattle.engine_turns.specs.declared.operations.Said.{Said}
use Rattle.engine_turns.specs.declared.operations.Said.TheVariants.{NoMemory}
use Rattle.machine_core.specs.declared.ends.End.TheVariants as end
use Rattle.machine_core.specs.declared.events.Event.{Event}
use Rattle.machine_core.specs.declared.events.Event.TheVariants.{Ended, Landed}
use Rattle.payload_files.specs.Changes.{SameOutside}
use Rattle.payload_files.specs.Payload.{HasFiles}
use Rattle.resume_core.specs.Runs.{IsBlockOf, run_len}
use Rattle.span_map.specs.Jobs.{run_end, run_start}
use Rattle.stored_run.specs.Saves.{IsApartFrom}
use Rattle.stored_run.specs.Settlings.{CameBetween, OfWant, payload_of}
use Rattle.stored_run.specs.Steps.{KeepsPayload}
use Rattle.stored_run.specs.Views.{IsGoing, kept_want_of, own_in}
use Rattle.stored_run.specs.declared.run.StoredView.{StoredView}

-- ---- bytes of a payload

-- the byte at this place is one of the run's
pub record IsByteOf (plan : Plan) (run : Run) (at : ℕ) : Type 0 where
  pub from : run_start plan run ≤ at
  pub before : at < run_end plan run

-- .. or of one of these runs
abbrev pub IsByteOfAny : Plan → List Run → ℕ → Type 0
IsByteOfAny plan runs at = (run : Run) × Contains runs run × IsByteOf plan run at

-- .. or of a block
pub record IsByteOfBlock (plan : Plan) (block at : ℕ) : Type 0 where
  pub from : block_start plan.piece_len block ≤ at
  pub before : at < block_end plan.total plan.piece_len block

-- each byte is the same, but for those of which this holds
abbrev pub KeepsBytesBut : (ℕ → Type 0) → Want → (old new : Files) → Type 0
KeepsBytesBut Written want old new =
    (at : ℕ) → ¬ Written at → slice_get (payload_of want new) at ≡ slice_get (payload_of want old) at

-- in the place of a part of the run stands what was delivered for it
abbrev pub HoldsPart : Want → (run part : Run) → List ℕ → Files → Type 0
HoldsPart want run part bytes files =
    part_at (payload_of want files) (run_start want.plan part) (run_len want.plan part)
    ≡ part_at bytes (run_start want.plan part - run_start want.plan run) (run_len want.plan part)

-- ---- runs that are written

module _ {D : Type 0} where
  -- where the files had their lengths, the part stands then with its bytes
  abbrev pub HoldsPartOf : Gid → (run part : Run) → List ℕ → StoredView D → (before after : DiskState) → Type 0
  HoldsPartOf gid run part bytes r before after =
      (want : Want) → kept_want_of r gid ≡ Some want → HasFiles want.dir want.layout before.seen
      → HoldsPart want run part bytes after.seen

  -- .. and beside the run the payload is the same
  abbrev pub KeepsOutside : Gid → Run → StoredView D → (before after : DiskState) → Type 0
  KeepsOutside gid run r before after =
      (want : Want) → kept_want_of r gid ≡ Some want → HasFiles want.dir want.layout before.seen
      → SameOutside (run_start want.plan run) (run_len want.plan run) (payload_of want before.seen)
      (payload_of want after.seen)

  -- the download is opened, and the part stands with its bytes
  pub record LandsPart (r : StoredView D) (gid : Gid) (run part : Run) (bytes : List ℕ) (files : Files) : Type 0 where
    pub opened : is_opened (own_in r gid) ≡ true
    pub holds : OfWant r gid (λ want. HoldsPart want run part bytes files)

  -- each part of a delivered run whose landing came between stands with its bytes
  abbrev pub HoldsLanded : (claim : ℕ) → Run → List ℕ → (old new : StoredView D) → Files → Type 0
  HoldsLanded claim run bytes old new files =
      (gid : Gid) (mirror : ℕ) (part : Run) (at : Moment)
      → CameBetween old.machine.past new.machine.past (Landed gid claim mirror part at)
      → LandsPart old gid run part bytes files

-- ---- what stays

-- a part of the download with the byte landed between two histories
pub record IsLandedByte (old new : List Event) (gid : Gid) (claim : ℕ) (plan : Plan) (at : ℕ) : Type 0 where
  pub mirror : ℕ
  pub part : Run
  pub now : Moment
  pub came : CameBetween old new (Landed gid claim mirror part now)
  pub inside : IsByteOf plan part at

-- the byte is one of a block of the run that is open in the claim under this number
pub record IsOpenByte (own : List OwnEvent) (claim : ℕ) (run : Run) (plan : Plan) (at : ℕ) : Type 0 where
  pub claimed : Claim
  pub stands : Contains (standing_claims own) claimed
  pub id_is : claimed.id ≡ claim
  pub block : ℕ
  pub of_run : IsBlockOf run block
  pub open_in : is_open_since own claimed block ≡ true
  pub inside : IsByteOfBlock plan block at

-- a fault of the disk ended the download between two histories, or memory ran out
abbrev pub IsCutShort : (old new : List Event) → Gid → Said → Type 0
IsCutShort old new gid said =
    (said ≡ NoMemory) ⊎ ((count : ℕ) × CameBetween old new (Ended gid (end.Disk count)))

module _ {D : Type 0} where
  -- the payload is the same, but for the bytes of these runs
  abbrev pub KeepsBeside : Gid → List Run → StoredView D → (before after : DiskState) → Type 0
  KeepsBeside gid runs r before after =
      OfWant r gid (λ want. KeepsBytesBut (IsByteOfAny want.plan runs) want before.seen after.seen)

  -- A delivery wrote the byte, or may have: a part with it landed, or it is of an open block, and the delivery was cut short.
  abbrev pub IsDeliveredByte : Gid → ℕ → Run → (old new : StoredView D) → Said → Plan → ℕ → Type 0
  IsDeliveredByte gid claim run old new said plan at =
      IsLandedByte old.machine.past new.machine.past gid claim plan at
      ⊎ (IsCutShort old.machine.past new.machine.past gid said × IsOpenByte (own_in old gid) claim run plan at)

  -- each other byte of the download's payload is the same
  abbrev pub KeepsUndelivered : Gid → ℕ → Run → (old new : StoredView D) → Said → (before after : DiskState) → Type 0
  KeepsUndelivered gid claim run old new said before after =
      OfWant old gid
      (λ want. KeepsBytesBut (IsDeliveredByte gid claim run old new said want.plan) want before.seen after.seen)

  -- .. of each download that went on
  abbrev pub KeepEachUndelivered : ℕ → Run → (old new : StoredView D) → Said → (before after : DiskState) → Type 0
  KeepEachUndelivered claim run old new said before after =
      (gid : Gid) → IsGoing old gid → KeepsUndelivered gid claim run old new said before after

  -- the payload of each download that went on reads as it did
  abbrev pub KeepsPayloads : StoredView D → (before after : DiskState) → Type 0
  KeepsPayloads r before after = (gid : Gid) → IsGoing r gid → KeepsPayload gid r before after

  -- .. and that of each other that is opened, unless one of these shares a name with it
  abbrev pub SavesPayloads : List Gid → StoredView D → (before after : DiskState) → Type 0
  SavesPayloads gids r before after =
      (gid : Gid) → IsApartFrom gids r gid → KeepsPayload gid r before after
