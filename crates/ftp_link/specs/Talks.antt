-- A talk with an FTP server by which a part of a file comes.
use Rattle.std.specs.Prelude.{◌≡◌, ◌≤◌, ℕ, ◌+◌, length, List, [], ◌++◌, Result, MatchResult}
use Rattle.link_source.specs.Exchanges.{Exchange}
use Rattle.link_source.specs.Link.{LinkState}
use Rattle.span_map.specs.declared.jobs.JobPart.{JobPart}
use Rattle.reply_reader.specs.declared.loss.Loss.{Loss}
use Rattle.reply_reader.specs.declared.loss.Loss.TheVariants as losses
use Rattle.request_chain.specs.Answered.{KeepsAnswers}
use Rattle.request_chain.specs.Chains.{Gains, received_by}
use Rattle.request_chain.specs.Plans.{Open, Lost}
use Rattle.ftp_places.specs.declared.place.FtpPlace.{FtpPlace}
use Rattle.ftp_steps.specs.declared.turn.FtpTurn.{FtpTurn}
use Rattle.ftp_steps.specs.declared.turn.FtpTurn.TheVariants.{Due}
use Rattle.ftp_fetches.specs.Dialogues.{FtpFetched, dialogue_behind}
use Rattle.ftp_link.specs.Stages.{IsTalkAt, Leads, MayGoOnAt}
use Rattle.ftp_link.specs.declared.talk.FtpTalk.{FtpTalk}

-- over these streams the talk brought these bytes, and more of the part is to come
abbrev pub HasTalked : FtpTalk → List Exchange → List ℕ → Type 0
HasTalked talk used bytes = IsTalkAt talk.stage talk.place talk.part talk.port talk.room.heard.items talk.got used bytes

-- so where it was begun for this part
pub record IsTalk (place : FtpPlace) (part : JobPart) (used : List Exchange) (bytes : List ℕ) (talk : FtpTalk) : Type 0 where
  pub place_is : talk.place ≡ place
  pub part_is : talk.part ≡ part
  pub has_talked : HasTalked talk used bytes

-- where a reply or data is due, the link is open for it
abbrev pub MayTalk : FtpTalk → LinkState → Type 0
MayTalk talk link = MayGoOnAt talk.stage talk.place talk.port talk.got link

-- what each loss says of the streams that were used, where so many faults of the link are counted now
abbrev pub TellsFtpLoss : FtpPlace → JobPart → List Exchange → List ℕ → ℕ → Loss → Type 0
TellsFtpLoss place part used bytes faults (losses.Link count) = FtpFetched place part used bytes Open [] × (count ≡ faults)
TellsFtpLoss place part used bytes faults losses.NoMemory = Unit {0}
TellsFtpLoss place part used bytes faults loss = FtpFetched place part used bytes (Lost loss) []

-- the state after a step that began with `was` bytes received
pub record TalkSteps (before : List Exchange) (used : List Exchange) (bytes : List ℕ) (now : List Exchange) (added : List ℕ) (was : ℕ) (talk : FtpTalk) : Type 0 where
  pub later : List Exchange
  pub gains : Gains before now later
  pub taken_is : received_by later + was ≡ received_by used + talk.taken
  pub has_talked : HasTalked talk later (bytes ++ added)

-- the same, where the rest was lost
pub record TalkLoses (before : List Exchange) (used : List Exchange) (bytes : List ℕ) (now : List Exchange) (added : List ℕ) (was faults : ℕ) (talk : FtpTalk) (loss : Loss) : Type 0 where
  pub later : List Exchange
  pub gains : Gains before now later
  pub taken_is : received_by later + was ≡ received_by used + talk.taken
  pub tells : TellsFtpLoss talk.place talk.part later (bytes ++ added) faults loss

-- of one use: it was carried on by these bytes, or the rest was lost
abbrev pub TalksOrLoses : {T : Type 0} → List Exchange → List Exchange → List ℕ → List ℕ → ℕ → Result T Loss → FtpTalk → LinkState → ℕ → Type 0
TalksOrLoses before used bytes added was result new link faults = MatchResult result
    (λ _. TalkSteps before used bytes link.exchanges added was new)
    (TalkLoses before used bytes link.exchanges added was faults new)

-- P of the exchanges before the talk, those that it used, and the bytes that it brought
abbrev pub ForEachTalk : FtpTalk → LinkState → (List Exchange → List Exchange → List ℕ → Type 0) → Type 0
ForEachTalk talk link P = (before used : List Exchange) (bytes : List ℕ)
    → HasTalked talk used bytes → Gains before link.exchanges used → P before used bytes

-- each exchange since those before, or since fewer of them, had one answer still
abbrev pub TalkStaysAnswered : FtpTalk → LinkState → LinkState → Type 0
TalkStaysAnswered talk link new_link = ForEachTalk talk link (λ before used bytes.
    (since : List Exchange) → length since ≤ length before → KeepsAnswers since link new_link)

-- what a reply led to, as far as it was heard
pub record HearsTurn (before : List Exchange) (used : List Exchange) (bytes : List ℕ) (now : List Exchange) (was : ℕ) (talk : FtpTalk) (turn : FtpTurn) : Type 0 where
  pub later : List Exchange
  pub gains : Gains before now later
  pub taken_is : received_by later + was ≡ received_by used + talk.taken
  pub none : bytes ≡ []
  pub due : turn ≡ Due → HasTalked talk later bytes
  pub leads : Leads talk.place talk.part later (dialogue_behind talk.part talk.port turn)
