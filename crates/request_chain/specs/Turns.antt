-- The steps of a call of a chain.
use Rattle.std.specs.Prelude.{◌≡◌, ◌≢◌, ℕ, ◌+◌, ◌*◌, false, List, ◌++◌, length}
use Rattle.link_source.specs.Endpoint.{IsHttp}
use Rattle.link_source.specs.Link.{LinkState}
use Rattle.link_source.specs.Exchanges.{Exchange}
use Rattle.http_heads.specs.declared.head.Head.{Head}
use Rattle.range_http.specs.declared.verdict.Verdict.TheVariants.{Moved}
use Rattle.range_http.specs.Verdict.{verdict_of}
use Rattle.span_map.specs.declared.jobs.JobPart.{JobPart}
use Rattle.reply_reader.specs.Heads.{HasFinalHead}
use Rattle.reply_reader.specs.declared.loss.Loss.{Loss}
use Rattle.request_chain.specs.Chains.{Gains, received_by, IsChain, TellsLoss}
use Rattle.request_chain.specs.Courses.{plan_now, AsksAt, IsAsking, IfAsking}
use Rattle.request_chain.specs.Exchanges.{is_unheard}
use Rattle.request_chain.specs.Plans.{asked_of}
use Rattle.request_chain.specs.Rests.{IsOpenTo, RestsOn}
use Rattle.request_chain.specs.Stages.{IsSent, IsReading, steps_of}
use Rattle.request_chain.specs.declared.chain.Chain.{Chain}
use Rattle.request_chain.specs.declared.course.Course.{Course}
use Rattle.request_chain.specs.declared.stage.Stage.TheVariants.{Asking}

-- the state after a step that began with `was` bytes received
pub record Steps (parts : List JobPart) (before used : List Exchange) (bytes : List ℕ) (now : List Exchange) (added : List ℕ) (was : ℕ) (chain : Chain) : Type 0 where
  pub later : List Exchange
  pub gains : Gains before now later
  pub taken_is : received_by later + was ≡ received_by used + chain.taken
  pub chain_is : IsChain parts later (bytes ++ added) chain

-- the same, where a head may wait
pub record ReceivesMore (parts : List JobPart) (before used : List Exchange) (bytes : List ℕ) (now : List Exchange) (was : ℕ) (chain : Chain) : Type 0 where
  pub later : List Exchange
  pub gains : Gains before now later
  pub taken_is : received_by later + was ≡ received_by used + chain.taken
  pub reading : IsReading chain.stage chain.course chain.room.inbox parts later bytes

-- the same, where the rest was lost
pub record StepLoses (parts : List JobPart) (before used : List Exchange) (bytes : List ℕ) (now : List Exchange) (added : List ℕ) (was faults : ℕ) (chain : Chain) (loss : Loss) : Type 0 where
  pub later : List Exchange
  pub gains : Gains before now later
  pub taken_is : received_by later + was ≡ received_by used + chain.taken
  pub tells : TellsLoss parts later (bytes ++ added) faults loss

-- the final head of the newest stream was read, and what waits is behind it
pub record HeadIsRead (parts : List JobPart) (used : List Exchange) (course : Course) (waiting bytes : List ℕ) (head : Head) : Type 0 where
  pub sent : IsSent parts used course
  pub heard : is_unheard sent.newest ≡ false
  pub bytes_are : bytes ≡ sent.brought
  pub front : List ℕ
  pub received_is : sent.newest.received ≡ front ++ waiting
  pub begins : HasFinalHead front head (length front)

-- how many steps may come yet, if no more is received
abbrev pub weight_of : Chain → ℕ
weight_of chain = 6 * length chain.room.inbox + steps_of chain.stage chain.room.rests

-- the head says that what is asked for was moved
abbrev pub HasMoved : Course → Head → Type 0
HasMoved course head = IfAsking (plan_now course) (λ part others url count status. verdict_of head (asked_of part) ≡ Moved)

-- Where a reply is read on, the link is open where its request went. Where the connection may take another request, it is
-- still.
pub record MayGoOn (chain : Chain) (link : LinkState) : Type 0 where
  pub reads : chain.stage ≢ Asking → IsAsking (plan_now chain.course) → IsOpenTo chain.room.peer link
  pub rests : RestsOn chain.room link

-- nothing is open, and the next request is for this URL
abbrev pub AsksFor : Chain → List ℕ → Type 0
AsksFor chain url = (chain.stage ≡ Asking) × AsksAt (plan_now chain.course) url

-- P, where the next request is for a URL that is no `http` URL
abbrev pub IfUnusable : Chain → Type 0 → Type 0
IfUnusable chain P = (url : List ℕ) → AsksFor chain url → (IsHttp url → ⊥) → P
