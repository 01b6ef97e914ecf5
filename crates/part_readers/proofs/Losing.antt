-- What each loss says of a part.
use Rattle.std.proofs.Common.{◌≡◌, ℕ, List, [], ◌∷◌, Some, None}
use Rattle.link_source.specs.Exchanges.{Exchange}
use Rattle.span_map.specs.declared.jobs.JobPart.{JobPart}
use Rattle.reply_reader.specs.declared.loss.Loss.{Loss}
use Rattle.reply_reader.specs.declared.loss.Loss.TheVariants.{Link, NotFound, Refused, BadReply, Length, Short, Redirects, NoMemory}
use Rattle.request_chain.specs.Chains.{TellsLoss as RequestsTellLoss}
use Rattle.request_chain.specs.Plans.{Open, Lost}
use Rattle.ftp_link.specs.Talks.{TellsFtpLoss}
use Rattle.ftp_places.specs.Places.{ftp_place}
use Rattle.ftp_places.specs.declared.place.FtpPlace.{FtpPlace}
use Rattle.part_fetches.proofs.Following.{by_dialogue, by_requests}
use Rattle.part_readers.specs.Readers.{TellsPartLoss}

module _ (part : JobPart) (used : List Exchange) (bytes : List ℕ) (faults : ℕ) where
  pub loss_by_requests : (loss : Loss) → ftp_place part.url ≡ None → RequestsTellLoss (part ∷ []) used bytes faults loss → TellsPartLoss part used bytes faults loss
  loss_by_requests (Link count) none tells = (by_requests part used [] bytes Open none tells.0, tells.1)
  loss_by_requests NoMemory none tells = tt
  loss_by_requests NotFound none tells = by_requests part used [] bytes (Lost NotFound) none tells
  loss_by_requests (Refused status code) none tells = by_requests part used [] bytes (Lost (Refused status code)) none tells
  loss_by_requests BadReply none tells = by_requests part used [] bytes (Lost BadReply) none tells
  loss_by_requests (Length told want) none tells = by_requests part used [] bytes (Lost (Length told want)) none tells
  loss_by_requests (Short got) none tells = by_requests part used [] bytes (Lost (Short got)) none tells
  loss_by_requests Redirects none tells = by_requests part used [] bytes (Lost Redirects) none tells

  pub loss_by_dialogue : (place : FtpPlace) (loss : Loss) → ftp_place part.url ≡ Some place → TellsFtpLoss place part used bytes faults loss
      → TellsPartLoss part used bytes faults loss
  loss_by_dialogue place (Link count) there tells = (by_dialogue place part used [] bytes Open there tells.0, tells.1)
  loss_by_dialogue place NoMemory there tells = tt
  loss_by_dialogue place NotFound there tells = by_dialogue place part used [] bytes (Lost NotFound) there tells
  loss_by_dialogue place (Refused status code) there tells = by_dialogue place part used [] bytes (Lost (Refused status code)) there tells
  loss_by_dialogue place BadReply there tells = by_dialogue place part used [] bytes (Lost BadReply) there tells
  loss_by_dialogue place (Length told want) there tells = by_dialogue place part used [] bytes (Lost (Length told want)) there tells
  loss_by_dialogue place (Short got) there tells = by_dialogue place part used [] bytes (Lost (Short got)) there tells
  loss_by_dialogue place Redirects there tells = by_dialogue place part used [] bytes (Lost Redirects) there tells
