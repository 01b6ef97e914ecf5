-- What the link of a worker received for each claim, beside what the answers of its turns allowed.
use Rattle.std.specs.Prelude.{◌≡◌, ◌≤◌, ◌+◌, ◌==◌, ℕ, Bool, IsTrue, List, [], ◌∷◌, Option, if◌then◌else◌}
use Rattle.engine_turns.specs.Told.{RunTurn}
use Rattle.engine_turns.specs.declared.operations.Grant.TheVariants as grant
use Rattle.engine_turns.specs.declared.operations.Operation.{Operation}
use Rattle.engine_turns.specs.declared.operations.Operation.TheVariants as operation
use Rattle.engine_turns.specs.declared.operations.Said.{Said}
use Rattle.engine_turns.specs.declared.operations.Said.TheVariants as said
use Rattle.link_source.specs.Exchanges.{Exchange}
use Rattle.request_chain.specs.Chains.{received_by}
use Rattle.conn_worker.specs.Facts.{HasUsed}
use Rattle.conn_worker.specs.Hands.{IsLeftAlone, LinkAt, WorkerAt, fresh}
use Rattle.conn_worker.specs.Works.{Works}
use Rattle.conn_worker.specs.declared.ends.WorkEnd.{WorkEnd}

-- the bytes that an answer allows for a claim, beside its grant
abbrev pub allowed_by : ℕ → Operation → Said → ℕ
allowed_by claim (operation.More asked want now) (said.Allow bytes) = if asked == claim then bytes else 0
allowed_by claim op answer = 0

-- .. that all of these turns allow
abbrev pub allowed_in : ℕ → List RunTurn → ℕ
allowed_in claim [] = 0
allowed_in claim (t ∷ ts) = allowed_by claim t.op t.answer.said + allowed_in claim ts

-- The link went on by these exchanges, and received no more bytes than are allowed.
pub record ReceivesAtMost (tells : Bool) (allowed : ℕ) (since : LinkAt) (used : List Exchange) (link : LinkAt)
    : Type 0 where
  pub used_is : HasUsed tells since used link
  pub few : IsTrue tells → received_by used ≤ allowed

-- What a link is used for behind an answer, up to the next grant: the claim that was granted, where one was. For a claim of
-- blocks it receives no more than the grant allows and the answers behind it. Behind another answer nothing is received.
abbrev pub IsUsedFor : Bool → Said → List RunTurn → LinkAt → List Exchange → LinkAt → Type 0
IsUsedFor tells (said.Grant (grant.Fetch granted)) behind since used link =
    ReceivesAtMost tells (granted.allow + allowed_in granted.claim behind) since used link
IsUsedFor tells (said.Grant (grant.Probe claim gid url)) behind since used link = HasUsed tells since used link
IsUsedFor tells answer behind since used link = (used ≡ []) × IsLeftAlone tells since link

-- over all turns, from the link as it was to the link as it is
abbrev pub ReceivesAllowed : Bool → List RunTurn → LinkAt → LinkAt → Type 0
ReceivesAllowed tells [] since link = link ≡ since
ReceivesAllowed tells (t ∷ ts) since link =
    (used : List Exchange) × (between : LinkAt) × IsUsedFor tells t.answer.said ts since used between
    × ReceivesAllowed tells ts between link

abbrev pub LinksReceiveWhatIsAllowed : Type 0
LinksReceiveWhatIsAllowed =
    (tells : Bool) (worker : ℕ) (turns : List RunTurn) (link : LinkAt) (b : WorkerAt) (end : Option WorkEnd)
    → Works tells worker turns (fresh link) b end → ReceivesAllowed tells turns link b.link
