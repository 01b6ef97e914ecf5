-- What came of a connection.
use Rattle.std.specs.Prelude.{◌≡◌, ◌⊎◌, ℕ, Bool, true, false, IsTrue, List, [], ◌∷◌, ◌++◌, drop, map}
use Rattle.std.specs.List.{flat_map}
use Rattle.dl_disk.specs.Files.{Files}
use Rattle.door_source.specs.Doors.{Connection}
use Rattle.origin_replies.specs.Askings.{Asking, AreAskings, IsOneAsking, is_last_asking, reply_text}
use Rattle.range_origin.specs.Answers.{once}
use Rattle.range_origin.specs.Ends.{disk_failed_once}
use Rattle.range_origin.specs.Talking.{ShelfTurn, looks_failed, reads_failed}
use Rattle.range_origin.specs.declared.ends.VisitEnd.{VisitEnd}
use Rattle.range_origin.specs.declared.ends.VisitEnd.TheVariants.{AtItsEnd, HungUp, Cut}

-- a request, and whether the look for the length of its file met a fault
pub record Answered : Type 0 where
  pub asking : Asking
  pub fault : Bool

abbrev pub answered : Asking → Bool → Answered
answered asking fault = record { asking = asking; fault = fault }

-- a connection: the requests that were answered, the last one maybe in part, and how it ended
pub record Visit : Type 0 where
  pub answers : List Answered
  pub end : VisitEnd

abbrev pub visit_of : List Answered → VisitEnd → Visit
visit_of answers end = record { answers = answers; end = end }

-- ---- requests

abbrev pub askings_in : List Answered → List Asking
askings_in answers = map (λ answer. answer.asking) answers

-- these stand at the front, one behind another, and none but the last of them is the last one of the connection
abbrev pub AreFirstAskings : List ℕ → List Asking → Type 0
AreFirstAskings bytes [] = Unit {0}
AreFirstAskings bytes (asking ∷ askings) =
    (used : ℕ) × IsOneAsking bytes asking used
    × ((askings ≡ []) ⊎ ((is_last_asking asking ≡ false) × AreFirstAskings (drop used bytes) askings))

-- behind the last of them the connection ends
pub record EndsWithLast (askings : List Asking) : Type 0 where
  pub front : List Asking
  pub last : Asking
  pub are : askings ≡ front ++ last ∷ []
  pub ends : is_last_asking last ≡ true

-- ---- replies

abbrev pub reply_to : Files → Answered → List ℕ
reply_to files answer = reply_text files answer.asking answer.fault

-- the replies, one behind another, where the files below the folder are these
abbrev pub origin_text : Files → List Answered → List ℕ
origin_text files answers = flat_map (reply_to files) answers

module _ (known : Bool) (files : Files) where
  -- All requests in the bytes that were received were answered, and just their replies were sent, where the files are known.
  pub record AnswersAll (answers : List Answered) (received sent : List ℕ) : Type 0 where
    pub askings : AreAskings received (askings_in answers)
    pub sent_is : IsTrue known → sent ≡ origin_text files answers

  -- The first requests were answered, and a front of their replies was sent.
  pub record AnswersFirst (answers : List Answered) (received sent : List ℕ) : Type 0 where
    pub askings : AreFirstAskings received (askings_in answers)
    pub rest : List ℕ
    pub front : IsTrue known → origin_text files answers ≡ sent ++ rest

  abbrev pub AnswersUntil : VisitEnd → List Answered → List ℕ → List ℕ → Type 0
  AnswersUntil AtItsEnd answers received sent = AnswersAll answers received sent
  AnswersUntil HungUp answers received sent =
      AnswersAll answers received sent × EndsWithLast (askings_in answers)
  AnswersUntil end answers received sent = AnswersFirst answers received sent

  -- The connection came to this. All that its peer sends was received, where it is at its end; no file became shorter, where
  -- the files are known.
  pub record IsVisited (visit : Visit) (connection : Connection) : Type 0 where
    pub answers : AnswersUntil visit.end visit.answers connection.received connection.sent
    pub rest : List ℕ
    pub front : connection.whole ≡ connection.received ++ rest
    pub all : visit.end ≡ AtItsEnd → rest ≡ []
    pub uncut : IsTrue known → visit.end ≡ Cut → ⊥

-- ---- turns

module _ {D : Type 0} where
  -- These turns were taken for the answers, for one behind another: the look for a length met a fault just where the answer
  -- tells so.
  abbrev pub AreTurnsFor : List Answered → List (ShelfTurn D) → Type 0
  AreTurnsFor [] turns = turns ≡ []
  AreTurnsFor (answer ∷ answers) turns =
      (its : List (ShelfTurn D)) × (others : List (ShelfTurn D)) × (turns ≡ its ++ others)
      × (looks_failed its ≡ once answer.fault) × AreTurnsFor answers others

  -- .. and the reading of bytes met one just where this ended the connection
  pub record AreTurnsIn (visit : Visit) (turns : List (ShelfTurn D)) : Type 0 where
    pub looks : AreTurnsFor visit.answers turns
    pub reads : reads_failed turns ≡ disk_failed_once visit.end

  abbrev pub AreTurnsOf : List Visit → List (ShelfTurn D) → Type 0
  AreTurnsOf [] turns = turns ≡ []
  AreTurnsOf (visit ∷ visits) turns =
      (its : List (ShelfTurn D)) × (others : List (ShelfTurn D)) × (turns ≡ its ++ others)
      × AreTurnsIn visit its × AreTurnsOf visits others
