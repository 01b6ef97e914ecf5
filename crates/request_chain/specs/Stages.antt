-- How far the newest stream of a chain was read.
use Rattle.std.specs.Prelude.{◌≡◌, ℕ, ◌+◌, ◌<◌, ◌≤◌, ◌^◌, Bool, false, if◌then◌else◌, List, [], ◌∷◌, ◌++◌, length, ⊤}
use Rattle.link_source.specs.Exchanges.{Exchange}
use Rattle.http_heads.specs.declared.limits.TheConstants.{MAX_HEAD_BYTES}
use Rattle.span_map.specs.declared.jobs.JobPart.{JobPart}
use Rattle.reply_reader.specs.Answers.{Due}
use Rattle.reply_reader.specs.Heads.{IsHeadDue, HasNoFinalHead, IsAtHead}
use Rattle.reply_reader.specs.declared.heads.HeadReader.{HeadReader}
use Rattle.request_chain.specs.Contents.{IsReadTo}
use Rattle.request_chain.specs.Courses.{plan_now, CarriesOn}
use Rattle.request_chain.specs.Exchanges.{IsExchange, is_unheard}
use Rattle.request_chain.specs.Plans.{Ask, plan_of, asked_of}
use Rattle.request_chain.specs.declared.content.Content.{Content}
use Rattle.request_chain.specs.declared.course.Course.{Course}
use Rattle.request_chain.specs.declared.stage.Stage.{Stage}
use Rattle.request_chain.specs.declared.stage.Stage.TheVariants.{Asking, Unheard, Head as InHead, Content as InContent}

-- the newest stream is that of the request for the next part, and its end wasn't told
pub record IsSent (parts : List JobPart) (used : List Exchange) (course : Course) : Type 0 where
  pub part : JobPart
  pub others : List JobPart
  pub url : List ℕ
  pub count : ℕ
  pub status : ℕ
  pub asks : plan_now course ≡ Ask part others url count status
  pub older : List Exchange
  pub newest : Exchange
  pub brought : List ℕ
  pub leads : CarriesOn (plan_of parts) older brought (Ask part others url count status)
  pub used_is : used ≡ older ++ newest ∷ []
  pub exchange : IsExchange url (asked_of part) newest
  pub not_ended : newest.ended ≡ false
  pub ordered : (asked_of part).first ≤ (asked_of part).last
  pub bounded : (asked_of part).last < 2 ^ 64

-- nothing came in it, over a connection that had another request before
pub record IsAwaited (parts : List JobPart) (used : List Exchange) (course : Course) (waiting bytes : List ℕ) (reader : HeadReader) : Type 0 where
  pub sent : IsSent parts used course
  pub bytes_are : bytes ≡ sent.brought
  pub nothing_came : sent.newest.received ≡ []
  pub kept : sent.newest.fresh ≡ false
  pub none_waits : waiting ≡ []
  pub at : IsAtHead [] reader

-- its heads were read up to what waits
pub record IsReadingHead (parts : List JobPart) (used : List Exchange) (course : Course) (waiting bytes : List ℕ) (reader : HeadReader) : Type 0 where
  pub sent : IsSent parts used course
  pub heard : is_unheard sent.newest ≡ false
  pub bytes_are : bytes ≡ sent.brought
  pub front : List ℕ
  pub received_is : sent.newest.received ≡ front ++ waiting
  pub at : IsAtHead front reader

-- its content was read up to what waits, and more is due
pub record IsReadingContent (parts : List JobPart) (used : List Exchange) (course : Course) (waiting bytes : List ℕ) (content : Content) : Type 0 where
  pub sent : IsSent parts used course
  pub heard : is_unheard sent.newest ≡ false
  pub got : List ℕ
  pub bytes_are : bytes ≡ sent.brought ++ got
  pub read : IsReadTo (asked_of sent.part) sent.newest.received waiting got content Due

-- the stage says so
abbrev pub IsReading : Stage → Course → List ℕ → List JobPart → List Exchange → List ℕ → Type 0
IsReading Asking course waiting parts used bytes = CarriesOn (plan_of parts) used bytes (plan_now course) × (waiting ≡ [])
IsReading (Unheard reader) course waiting parts used bytes = IsAwaited parts used course waiting bytes reader
IsReading (InHead reader) course waiting parts used bytes = IsReadingHead parts used course waiting bytes reader
IsReading (InContent content) course waiting parts used bytes = IsReadingContent parts used course waiting bytes content

-- what waits is behind the head
abbrev pub IsBehindHead : Stage → List ℕ → Type 0
IsBehindHead Asking waiting = ⊤
IsBehindHead (Unheard reader) waiting = waiting ≡ []
IsBehindHead (InHead reader) waiting = waiting ≡ []
IsBehindHead (InContent content) waiting = ⊤

-- whether the first bytes of a reply are due that may not come over the connection
abbrev pub IsUnheardAt : Stage → Type 0
IsUnheardAt Asking = ⊥
IsUnheardAt (Unheard reader) = ⊤
IsUnheardAt (InHead reader) = ⊥
IsUnheardAt (InContent content) = ⊥

abbrev pub IsHeardAt : Stage → Type 0
IsHeardAt stage = IsUnheardAt stage → ⊥

-- a head that is read is due
abbrev pub IsDueAt : Stage → Type 0
IsDueAt Asking = ⊤
IsDueAt (Unheard reader) = (front : List ℕ) → IsAtHead front reader → IsHeadDue front
IsDueAt (InHead reader) = (front : List ℕ) → IsAtHead front reader → IsHeadDue front
IsDueAt (InContent content) = ⊤

-- a head is read, and can't come
abbrev pub IsNoHeadAt : Stage → Type 0
IsNoHeadAt Asking = ⊥
IsNoHeadAt (Unheard reader) = (front : List ℕ) → IsAtHead front reader → HasNoFinalHead front
IsNoHeadAt (InHead reader) = (front : List ℕ) → IsAtHead front reader → HasNoFinalHead front
IsNoHeadAt (InContent content) = ⊥

-- so many more bytes leave a head, where one is due, within the longest one's size
abbrev pub FitsHead : Stage → ℕ → Type 0
FitsHead Asking most = ⊤
FitsHead (Unheard reader) most = (received : List ℕ) → IsAtHead received reader → most + length reader.bytes.items ≤ MAX_HEAD_BYTES
FitsHead (InHead reader) most = (received : List ℕ) → IsAtHead received reader → most + length reader.bytes.items ≤ MAX_HEAD_BYTES
FitsHead (InContent content) most = ⊤

-- how many bytes came by this request
abbrev pub got_at : Stage → ℕ
got_at Asking = 0
got_at (Unheard reader) = 0
got_at (InHead reader) = 0
got_at (InContent content) = content.got

-- the number of steps that a stage may take before a byte is used, and one where the next request may go over the
-- connection that is open
abbrev pub steps_of : Stage → Bool → ℕ
steps_of Asking rests = if rests then 5 else 2
steps_of (Unheard reader) rests = 4
steps_of (InHead reader) rests = 1
steps_of (InContent content) rests = 0
