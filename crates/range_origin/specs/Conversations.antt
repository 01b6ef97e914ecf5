-- A connection as it goes on, request by request.
use Rattle.std.specs.Prelude.{◌≡◌, ℕ, Bool, true, false, ◌==◌, IsTrue, List, [], ◌++◌, Option, Some, None, Result, Ok, Err}
use Rattle.dl_disk.specs.Files.{Files}
use Rattle.dl_disk.specs.declared.disk.Disk.{Ghosts as DiskSays}
use Rattle.door_source.specs.Doors.{hung_up}
use Rattle.door_source.specs.declared.Doors.{Ghosts as DoorSays}
use Rattle.origin_replies.specs.Askings.{AreFrontAskings}
use Rattle.turn_desk.specs.Sights.{Went}
use Rattle.range_origin.specs.Ends.{CausesVisitEnd}
use Rattle.range_origin.specs.Shelves.{AsksFolder}
use Rattle.range_origin.specs.Talking.{Grows, HasHeard, OriginAt, ShelfSight, ShelfTurn, files_below, reads_failed}
use Rattle.range_origin.specs.Visits.{Answered, AnswersUntil, AreTurnsFor, AreTurnsIn, askings_in, origin_text, visit_of}
use Rattle.range_origin.specs.declared.ends.VisitEnd.{VisitEnd}
use Rattle.range_origin.specs.declared.ends.VisitEnd.TheVariants.{AtItsEnd, Cut}

-- What was received of the connection that is open and not answered yet, whether it pays to look for a request in it, and
-- whether its peer sends no more.
pub record Reading : Type 0 where
  pub unread : List ℕ
  pub is_due : Bool
  pub is_over : Bool

-- nothing was received yet
abbrev pub fresh_reading : Reading
fresh_reading = record { unread = []; is_due = false; is_over = false }

-- a desk, a door, and what was read of the connection that is open
pub record TalkAt (T A : Type 0) : Type 0 where
  pub place : OriginAt T A
  pub reading : Reading

abbrev pub talk_at : {T A : Type 0} → T → A → Reading → TalkAt T A
talk_at {T} {A} desk door reading = record { place = record { desk = desk; door = door }; reading = reading }

module _ {A : Type 0} (says : DoorSays A) where
  -- some bytes came, and stand behind the others, or the connection ends; none come where the peer sends no more
  abbrev pub HasTakenIn : A → List ℕ → A → List ℕ → Result ℕ VisitEnd → Type 0
  HasTakenIn old was new now (Ok count) =
      (piece : List ℕ) × HasHeard says piece (count == 0) None old new × (now ≡ was ++ piece)
  HasTakenIn old was new now (Err end) =
      (piece : List ℕ) × HasHeard says piece false (Some end) old new × (now ≡ was)

  -- .. and whether it sends more is noted
  abbrev pub HasReceived : A → Reading → A → Reading → Option VisitEnd → Type 0
  HasReceived old was new now None =
      (piece : List ℕ) × HasHeard says piece now.is_over None old new × (now.unread ≡ was.unread ++ piece)
  HasReceived old was new now (Some end) = (piece : List ℕ) × HasHeard says piece false (Some end) old new

module _ {D T A : Type 0} (sight : T → ShelfSight D) (disk : DiskSays D) (doors : DoorSays A) where
  abbrev pub files_of : OriginAt T A → Files
  files_of a = files_below disk (sight a.desk).given

  -- Since a connection came these requests were answered, each by all of its reply; what came behind them waits.
  pub record HasTalked (answers : List Answered) (a : OriginAt T A) (b : TalkAt T A) : Type 0 where
    pub received : List ℕ
    pub sent : List ℕ
    pub askings : AreFrontAskings received (askings_in answers) b.reading.unread
    pub sent_is : IsTrue disk.tells → sent ≡ origin_text (files_of a) answers
    pub told : IsTrue doors.tells
        → Grows (b.reading.is_over ≡ true) received sent (doors.state a.door) (doors.state b.place.door)
    pub faults : doors.faults b.place.door ≡ doors.faults a.door
    pub mine : List (ShelfTurn D)
    pub went : Went (AsksFolder disk) (sight a.desk) mine (sight b.place.desk)
    pub looks : AreTurnsFor answers mine
    pub reads : reads_failed mine ≡ 0

  -- .. and then it ended
  pub record HasTalkedToEnd (answers : List Answered) (end : VisitEnd) (a b : OriginAt T A) : Type 0 where
    pub received : List ℕ
    pub sent : List ℕ
    pub answers_are : AnswersUntil disk.tells (files_of a) end answers received sent
    pub uncut : IsTrue disk.tells → end ≡ Cut → ⊥
    pub told : IsTrue doors.tells → Grows (end ≡ AtItsEnd) received sent (doors.state a.door) (doors.state b.door)
    pub cause : CausesVisitEnd end (doors.faults a.door) (doors.faults b.door)
    pub mine : List (ShelfTurn D)
    pub went : Went (AsksFolder disk) (sight a.desk) mine (sight b.desk)
    pub turns : AreTurnsIn (visit_of answers end) mine

  abbrev pub HasGoneOn : OriginAt T A → TalkAt T A → Option VisitEnd → Type 0
  HasGoneOn start b None = (answers : List Answered) × HasTalked answers start b
  HasGoneOn start b (Some end) = (answers : List Answered) × HasTalkedToEnd answers end start b.place

  -- whatever was answered before, the connection goes on from the one to the other, or ends there
  abbrev pub GoesOn : TalkAt T A → TalkAt T A → Option VisitEnd → Type 0
  GoesOn a b end = (start : OriginAt T A) (answers : List Answered) → HasTalked answers start a → HasGoneOn start b end

  -- the newest connection was served to its end, and closed
  pub record HasServed (end : VisitEnd) (a b : OriginAt T A) : Type 0 where
    pub closing : A
    pub answers : List Answered
    pub talked : HasTalkedToEnd answers end a (record { desk = b.desk; door = closing })
    pub told : IsTrue doors.tells → doors.state b.door ≡ hung_up (doors.state closing)
    pub faults : doors.faults b.door ≡ doors.faults closing
