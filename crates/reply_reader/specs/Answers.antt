-- What a reply gives of what was asked for, as far as it has come (RFC 9110 sections 14 and 15, RFC 9112 section 6).
use Rattle.std.specs.Prelude.{◌≡◌, ◌≢◌, ◌⊎◌, ◌<◌, ◌≤◌, ◌^◌, ℕ, ◌+◌, ◌-◌, Bool, false, ◌||◌, List, [], ◌++◌, length, drop, unwrap_or, codes, if◌then◌else◌}
use Rattle.dl_kinds.specs.ExitStatuses.{exit_code}
use Rattle.dl_kinds.specs.declared.exit_status.ExitStatus.TheVariants.{HttpReply}
use Rattle.range_http.specs.declared.asked.Asked.{Asked}
use Rattle.range_http.specs.declared.framing.Framing.{Framing}
use Rattle.http_heads.specs.declared.head.Head.{Head}
use Rattle.range_http.specs.declared.verdict.Verdict.{Verdict}
use Rattle.range_http.specs.declared.verdict.Verdict.TheVariants.{Part, Whole, Empty, WrongLength, Moved, NotFound, Refused}
use Rattle.http_heads.specs.Fields.{sole}
use Rattle.range_http.specs.Fields.{values_of}
use Rattle.range_http.specs.Verdict.{verdict_of}
use Rattle.reply_reader.specs.Heads.{HasFinalHead, IsHeadDue, HasNoFinalHead}
use Rattle.reply_reader.specs.Slices.{Slice, framing_told, came_of, has_come, goes_wrong, is_over}
use Rattle.reply_reader.specs.declared.loss.Loss.{Loss}
use Rattle.reply_reader.specs.declared.loss.Loss.TheVariants as losses

-- More is due; all came up to this place of the resource; the resource is where this text, of a reply with this status,
-- says; or nothing more of what was asked comes.
pub data Turn : Type 0 where
  Due : Turn
  Given : ℕ → Turn
  Away : ℕ → List ℕ → Turn
  Lost : Loss → Turn

-- the bytes asked for that came, and what is to be done next
pub record Answer : Type 0 where
  pub got : List ℕ
  pub turn : Turn

-- nothing came
abbrev pub without_bytes : Turn → Answer
without_bytes turn = record { got = []; turn = turn }

-- the bytes up to this place are a slice of the content, before which so many bytes stand
abbrev pub slice_answer : Slice → ℕ → List ℕ → Bool → Answer
slice_answer slice last stream ended = record {
  got = came_of slice stream;
  turn =
      if has_come slice stream then Given last
      else if goes_wrong slice stream then Lost losses.BadReply
      else if ended || is_over slice stream then Lost (losses.Short (length (came_of slice stream)))
      else Due;
}

-- how many bytes are asked for, up to this place
abbrev pub size_to : Asked → ℕ → ℕ
size_to asked last = last + 1 - asked.first

-- the slice of a part's content, and that of the whole resource
abbrev pub part_slice : Asked → ℕ → Framing → Slice
part_slice asked last framing = record { framing = framing_told framing; skip = 0; len = size_to asked last }

abbrev pub whole_slice : Asked → Framing → Slice
whole_slice asked framing = record { framing = framing_told framing; skip = asked.first; len = size_to asked asked.last }

-- where the head has this verdict, and this much came behind it
abbrev pub answer_by : Head → Asked → Verdict → List ℕ → Bool → Answer
answer_by head asked (Part last total framing) stream ended =
    slice_answer (part_slice asked last framing) last stream ended
answer_by head asked (Whole total framing) stream ended =
    slice_answer (whole_slice asked framing) asked.last stream ended
answer_by head asked Empty stream ended = without_bytes (Lost (losses.Refused head.status (exit_code HttpReply)))
answer_by head asked (WrongLength told) stream ended = without_bytes (Lost (losses.Length told (unwrap_or asked.total 0)))
answer_by head asked Moved stream ended = without_bytes (Away head.status (unwrap_or (sole (values_of head (codes "location"))) []))
answer_by head asked NotFound stream ended = without_bytes (Lost losses.NotFound)
answer_by head asked (Refused code) stream ended = without_bytes (Lost (losses.Refused head.status code))

abbrev pub head_due : Bool → Answer
head_due ended = without_bytes (if ended then Lost (losses.Short 0) else Due)

-- The final head came, and the answer is by its verdict.
pub record IsHeaded (asked : Asked) (received : List ℕ) (ended : Bool) (answer : Answer) : Type 0 where
  pub head : Head
  pub used : ℕ
  pub begins : HasFinalHead received head used
  pub is : answer ≡ answer_by head asked (verdict_of head asked) (drop used received) ended

-- What a stream that gave these bytes, and whose end was told or not, answers.
abbrev pub Answers : Asked → List ℕ → Bool → Answer → Type 0
Answers asked received ended answer =
    (IsHeadDue received × (answer ≡ head_due ended))
    ⊎ (HasNoFinalHead received × (answer ≡ without_bytes (Lost losses.BadReply)))
    ⊎ IsHeaded asked received ended answer

-- ---- laws

-- the asked bytes are in order, and a head can tell their places
pub record IsAsked (asked : Asked) : Type 0 where
  pub ordered : asked.first ≤ asked.last
  pub bounded : asked.last < 2 ^ 63

-- a stream has one answer
abbrev pub AnswersOnce : Type 0
AnswersOnce = (asked : Asked) (received : List ℕ) (ended : Bool) (answer other : Answer)
    → Answers asked received ended answer → Answers asked received ended other → answer ≡ other

-- an answer other than Due stays, whatever more comes; the end may still be told then
abbrev pub AnswersStay : Type 0
AnswersStay = (asked : Asked) (received more : List ℕ) (now : Bool) (answer : Answer)
    → Answers asked received false answer → answer.turn ≢ Due → Answers asked (received ++ more) now answer

-- the bytes that came stay, and more may follow them
abbrev pub AnswersGrow : Type 0
AnswersGrow = (asked : Asked) (received more : List ℕ) (was now : Bool) (answer later : Answer)
    → Answers asked received was answer → Answers asked (received ++ more) now later
    → (added : List ℕ) × (later.got ≡ answer.got ++ added)

-- where bytes came, no more than are asked for did, and all of them where the turn says so
abbrev pub AnswersFit : Type 0
AnswersFit = (asked : Asked) (received : List ℕ) (ended : Bool) (answer : Answer) → IsAsked asked
    → Answers asked received ended answer
    → (length answer.got ≤ size_to asked asked.last)
    × ((last : ℕ) → answer.turn ≡ Given last → (asked.first ≤ last) × (last ≤ asked.last) × (length answer.got ≡ size_to asked last))
