-- What an operation took from the disk.
use Rattle.std.specs.Prelude.{◌≡◌, ◌<◌, ℕ, true, List}
use Rattle.dl_disk.specs.Files.{Files}
use Rattle.dl_disk.specs.State.{DiskState}
use Rattle.dl_history.specs.PayloadParts.{is_opened}
use Rattle.dl_kinds.specs.Plan.{pieces_of}
use Rattle.dl_kinds.specs.declared.gid.Gid.{Gid}
use Rattle.engine_turns.specs.declared.operations.Grant.TheVariants.{Hash}
use Rattle.engine_turns.specs.declared.operations.Operation.{Operation}
use Rattle.engine_turns.specs.declared.operations.Operation.TheVariants as operation
use Rattle.engine_turns.specs.declared.operations.Said.{Said}
use Rattle.engine_turns.specs.declared.operations.Said.TheVariants.{Grant, Void}
use Rattle.machine_core.specs.Offers.{is_handed_out}
use Rattle.machine_core.specs.RunLegal.{known_lengths}
use Rattle.machine_core.specs.declared.handed.Handed.{Handed}
use Rattle.stored_run.specs.Settlings.{IsSettledBetween, ReadsPieceOf}
use Rattle.stored_run.specs.Views.{own_in}
use Rattle.stored_run.specs.declared.run.StoredView.{StoredView}
use Rattle.verify_piece.specs.Seals.{PieceBytes}
use Rattle.engine_core.specs.declared.state.EngineState.{EngineState}

module _ {D : Type 0} where
  -- the download is opened, and these are the bytes of its piece
  pub record ReadsOpened (r : StoredView D) (gid : Gid) (piece : ℕ) (seen : Files) (bytes : List ℕ) : Type 0 where
    pub opened : is_opened (own_in r gid) ≡ true
    pub reads : ReadsPieceOf r gid piece seen bytes

  -- .. or they aren't
  pub record ReadsElse (r : StoredView D) (gid : Gid) (piece : ℕ) (seen : Files) (bytes : List ℕ) : Type 0 where
    pub opened : is_opened (own_in r gid) ≡ true
    pub other : ¬ ReadsPieceOf r gid piece seen bytes

  -- what is handed out to be hashed was read
  abbrev pub GivesRead : StoredView D → Said → Files → Type 0
  GivesRead r (Grant (Hash gid piece bytes)) seen = ReadsOpened r gid piece seen bytes
  GivesRead r said seen = Unit {0}

  -- the piece is one of the download's
  abbrev pub IsPieceOf : StoredView D → Gid → ℕ → Type 0
  IsPieceOf r gid piece =
      piece < pieces_of (known_lengths r.machine.start r.machine.past gid).total
      (known_lengths r.machine.start r.machine.past gid).piece_len

  -- sealed bytes settle their piece where they were read; they weren't, where the seal of a piece that is out is void
  pub record TakesSeal (gid : Gid) (sealed : PieceBytes) (handed : List Handed) (old new : StoredView D) (said : Said)
      (seen : Files) : Type 0 where
    pub settled : IsSettledBetween old.machine.past new.machine.past gid sealed.piece
        → ReadsOpened old gid sealed.piece seen sealed.bytes
    pub void : is_handed_out handed gid sealed.piece ≡ true → said ≡ Void
        → ReadsElse old gid sealed.piece seen sealed.bytes
    pub within : is_handed_out handed gid sealed.piece ≡ true → IsPieceOf old gid sealed.piece

module _ {D : Type 0} (state : D → DiskState) where
  abbrev pub TakesRead : Operation → EngineState D → StoredView D → Said → Type 0
  TakesRead (operation.Next worker now) old new said = GivesRead old.run said (state old.run.disk).seen
  TakesRead (operation.Seal gid sealed now) old new said =
      TakesSeal gid sealed old.handed.pieces old.run new said (state old.run.disk).seen
  TakesRead op old new said = Unit {0}
