-- A call of a talk with an FTP server.
use Rattle.std.specs.Prelude.{◌≡◌, ◌⊎◌, ◌≤◌, ℕ, ◌+◌, true, List, [], ◌++◌, length, Result, MatchResult}
use Rattle.link_source.specs.Exchanges.{Exchange}
use Rattle.link_source.specs.Link.{LinkState}
use Rattle.span_map.specs.declared.jobs.JobPart.{JobPart}
use Rattle.reply_reader.specs.declared.loss.Loss.{Loss}
use Rattle.request_chain.specs.Chains.{Gains, received_by}
use Rattle.request_chain.specs.Plans.{FetchEnding, Done}
use Rattle.request_chain.specs.declared.chain.ChainRead.{ChainRead}
use Rattle.ftp_places.specs.declared.place.FtpPlace.{FtpPlace}
use Rattle.ftp_fetches.specs.Dialogues.{FtpFetched}
use Rattle.ftp_link.specs.Talks.{IsTalk, TellsFtpLoss}
use Rattle.ftp_link.specs.declared.talk.FtpTalk.{FtpTalk}

-- what was gained by a call
pub record ReadsTalk (place : FtpPlace) (part : JobPart) (before used : List Exchange) (bytes : List ℕ) (now : List Exchange) (added : List ℕ) (room allow : ℕ) (read : ChainRead) (talk : FtpTalk) : Type 0 where
  pub later : List Exchange
  pub gains : Gains before now later
  pub ending : FetchEnding
  pub brought : FtpFetched place part later (bytes ++ added) ending []
  pub taken : received_by later ≡ received_by used + read.taken
  pub few : read.taken ≤ allow
  pub full : (read.done ≡ true) ⊎ (length added ≡ room) ⊎ (read.taken ≡ allow)
  pub goes_on : (read.done ≡ true) ⊎ IsTalk place part later (bytes ++ added) talk
  pub done : read.done ≡ true → FtpFetched place part later (bytes ++ added) Done []

-- what was gained by a call that lost the rest
pub record LosesTalk (place : FtpPlace) (part : JobPart) (before used : List Exchange) (bytes : List ℕ) (now : List Exchange) (added : List ℕ) (allow faults : ℕ) (talk : FtpTalk) (loss : Loss) : Type 0 where
  pub later : List Exchange
  pub gains : Gains before now later
  pub taken : received_by later ≡ received_by used + talk.taken
  pub few : talk.taken ≤ allow
  pub tells : TellsFtpLoss place part later (bytes ++ added) faults loss

-- of one use: it was carried on by these bytes, or the rest was lost
abbrev pub ReadsOrLosesTalk : FtpPlace → JobPart → List Exchange → List Exchange → List ℕ → List ℕ → ℕ → ℕ → Result ChainRead Loss → FtpTalk → LinkState → ℕ → Type 0
ReadsOrLosesTalk place part before used bytes added room allow result new link faults = MatchResult result
    (λ read. ReadsTalk place part before used bytes link.exchanges added room allow read new)
    (LosesTalk place part before used bytes link.exchanges added allow faults new)

-- P of the part that the talk was begun for, the exchanges before it and those that it used, and the bytes that it brought
abbrev pub ForEachTalkOf : FtpTalk → LinkState → (FtpPlace → JobPart → List Exchange → List Exchange → List ℕ → Type 0) → Type 0
ForEachTalkOf talk link P = (place : FtpPlace) (part : JobPart) (before used : List Exchange) (bytes : List ℕ)
    → IsTalk place part used bytes talk → Gains before link.exchanges used → P place part before used bytes
