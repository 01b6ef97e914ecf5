-- What mirrors in memory gave in answer to the requests of a link: true replies, and bad answers in their place.
use Rattle.std.specs.Prelude.{◌≡◌, ◌⊎◌, ℕ, true, false, List, [], ◌∷◌, ◌++◌}
use Rattle.link_source.specs.Exchanges.{Exchange}
use Rattle.link_source.specs.Link.{LinkState}
use Rattle.link_source.specs.Mirrors.{Content, HasReply}
use Rattle.request_chain.specs.Received.{ReceivesLittle}

-- The request of the exchange was sent where the mirrors had the old content, and they gave one answer, with which they
-- have the new content: what came is the front of it, behind which this is due. Where the end was told, nothing is. The
-- reply was read no further than what was asked for.
pub record GaveAnswer (old : Content) (stream : Exchange) (due : List ℕ) (new : Content) : Type 0 where
  pub reply : List ℕ
  pub answers : HasReply old stream.host stream.port stream.request reply new
  pub whole : stream.received ++ due ≡ reply
  pub last : stream.ended ≡ true → due ≡ []
  pub little : ReceivesLittle stream

-- The mirror had hung up over the request: nothing came, nothing is due, and the mirrors have what they had.
pub record GaveNothing (old : Content) (stream : Exchange) (due : List ℕ) (new : Content) : Type 0 where
  pub kept : stream.fresh ≡ false
  pub none_came : stream.received ≡ []
  pub none_due : due ≡ []
  pub same : new ≡ old
  pub little : ReceivesLittle stream

abbrev pub Gave : Content → Exchange → List ℕ → Content → Type 0
Gave old stream due new = GaveNothing old stream due new ⊎ GaveAnswer old stream due new

-- the exchanges, the newest first, gave so one after the other: the mirrors had the old content before them, and the new
-- content behind them
abbrev pub GaveAll : Content → List Exchange → Content → Type 0
GaveAll old [] new = new ≡ old
GaveAll old (stream ∷ older) new =
    (between : Content) × (due : List ℕ) × GaveAll old older between × Gave between stream due new

-- Some exchanges came on top of those before, and gave so, from the old content of the mirrors to what they have now.
-- Where the link listens, the newest one has still to give what is due.
pub record IsAnsweredOnTop (old : Content) (before : List Exchange) (link : LinkState) : Type 0 where
  pub newest : Exchange
  pub older : List Exchange
  pub on_top : link.exchanges ≡ newest ∷ (older ++ before)
  pub between : Content
  pub past : GaveAll old older between
  pub due : List ℕ
  pub gave : Gave between newest due link.content
  pub due_is : link.listens ≡ true → link.due ≡ due

-- since the mirrors had the old content and the link these exchanges, each of its exchanges had one answer, or the mirror had hung up
abbrev pub IsAnswered : Content → List Exchange → LinkState → Type 0
IsAnswered old before link =
    ((link.exchanges ≡ before) × (link.content ≡ old)) ⊎ IsAnsweredOnTop old before link

-- a call keeps that, whatever the mirrors had and the link was before
abbrev pub KeepsAnswers : List Exchange → LinkState → LinkState → Type 0
KeepsAnswers before link new_link = (old : Content) → IsAnswered old before link → IsAnswered old before new_link
