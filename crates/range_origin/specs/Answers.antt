-- The answer to one request.
use Rattle.std.specs.Prelude.{◌≡◌, ℕ, Bool, true, false, IsTrue, List, [], ◌++◌, length, if◌then◌else◌, Option}
use Rattle.dl_disk.specs.Files.{ReadsAt, file_bytes}
use Rattle.dl_disk.specs.declared.disk.Disk.{Ghosts as DiskSays}
use Rattle.door_source.specs.declared.Doors.{Ghosts as DoorSays}
use Rattle.http_heads.specs.declared.ask_head.AskHead.{AskHead}
use Rattle.origin_replies.specs.Aims.{is_get, reply_by_file, text_to}
use Rattle.origin_replies.specs.Replies.{content_sent, head_of_reply}
use Rattle.origin_replies.specs.declared.reply.Reply.{Reply}
use Rattle.range_origin.specs.Ends.{disk_failed_once}
use Rattle.range_origin.specs.Shelves.{FitsAsk, IsToldOf, LacksSlice}
use Rattle.range_origin.specs.Talking.{OriginAt, SendsText, ShelfSight, TookTurns, fault_told, files_below}
use Rattle.range_origin.specs.declared.ends.VisitEnd.{VisitEnd}
use Rattle.range_origin.specs.declared.ends.VisitEnd.TheVariants.{AtItsEnd, HungUp, Failed, DiskFailed, Cut, Starved}
use Rattle.range_origin.specs.declared.sending.Piece.{Piece}
use Rattle.range_origin.specs.declared.sending.Piece.TheVariants.{Read as PieceRead, Ended}
use Rattle.range_origin.specs.declared.shelf.Ask.TheVariants.{Length as AskLength}
use Rattle.range_origin.specs.declared.shelf.Told.{Told}
use Rattle.range_origin.specs.declared.shelf.Told.TheVariants.{Length, Bytes, Fault, NoMemory}

-- an end by a turn
abbrev pub IsReadEnd : VisitEnd → Type 0
IsReadEnd DiskFailed = Unit {0}
IsReadEnd Cut = Unit {0}
IsReadEnd Starved = Unit {0}
IsReadEnd AtItsEnd = ⊥
IsReadEnd HungUp = ⊥
IsReadEnd Failed = ⊥

abbrev pub piece_by : Told → Piece
piece_by (Bytes bytes) = PieceRead bytes
piece_by (Length len) = Ended Cut
piece_by (Fault count) = Ended DiskFailed
piece_by NoMemory = Ended Starved

module _ {D : Type 0} (says : DiskSays D) where
  -- so many bytes of the file were read, or it is told how the connection ends
  abbrev pub HasReadPiece : List ℕ → ℕ → ℕ → ShelfSight D → ShelfSight D → Piece → Type 0
  HasReadPiece name at len s s' (PieceRead bytes) =
      TookTurns says s 0 0 s' × (length bytes ≡ len)
      × (IsTrue says.tells → ReadsAt (files_below says s.given name) at bytes)
  HasReadPiece name at len s s' (Ended end) =
      TookTurns says s 0 (disk_failed_once end) s' × IsReadEnd end
      × (IsTrue says.tells → end ≡ Cut → LacksSlice (files_below says s.given name) at len)

  -- the length of a file was looked up
  pub record HasLookedUp (name : List ℕ) (s s' : ShelfSight D) (told : Told) : Type 0 where
    pub took : TookTurns says s (fault_told told) 0 s'
    pub fits : FitsAsk (AskLength name) told
    pub is : IsTrue says.tells → IsToldOf (files_below says s.given name) (AskLength name) told

abbrev pub once : Bool → ℕ
once true = 1
once false = 0

-- a reply, and behind it the slice of the file, if the request is a GET
abbrev pub reply_and_content : AskHead → Reply → Option (List ℕ) → List ℕ
reply_and_content head reply file = head_of_reply reply ++ (if is_get head then content_sent reply (file_bytes file) else [])

module _ {D T A : Type 0} (sight : T → ShelfSight D) (disk : DiskSays D) (doors : DoorSays A) where
  -- a request for this file was answered, whether the look for its length met a fault or not
  abbrev pub AnswersFile : AskHead → List ℕ → Option VisitEnd → OriginAt T A → OriginAt T A → Type 0
  AnswersFile head name end a b =
      let file = files_below disk (sight a.desk).given name in
      (fault : Bool)
      × SendsText sight disk doors (reply_and_content head (reply_by_file head fault file) file) (once fault) end a b

  -- .. and any request
  abbrev pub AnswersHead : AskHead → Option VisitEnd → OriginAt T A → OriginAt T A → Type 0
  AnswersHead head end a b =
      (fault : Bool)
      × SendsText sight disk doors (text_to (files_below disk (sight a.desk).given) head fault) (once fault) end a b
