-- What a dialogue tells of a size.
use Rattle.std.proofs.Common.{◌≡◌, ℕ, List, Some}
use Rattle.std.specs.Prelude.{Result, Ok, Err, MatchResult}
use Rattle.link_source.specs.Exchanges.{Exchange}
use Rattle.reply_reader.specs.declared.loss.Loss.{Loss}
use Rattle.reply_reader.specs.declared.loss.Loss.TheVariants.{Link, NotFound, Refused, BadReply, Length, Short, Redirects, NoMemory}
use Rattle.request_chain.specs.Probes.{Due, Lost, Told}
use Rattle.ftp_fetches.specs.SizeDialogues.{FtpProbed}
use Rattle.ftp_link.specs.Probing.{TellsFtpProbeLoss}
use Rattle.ftp_places.specs.Places.{ftp_place}
use Rattle.ftp_places.specs.declared.place.FtpPlace.{FtpPlace}
use Rattle.part_fetches.specs.Probes.{Probed, TellsProbeLoss}
use Rattle.part_fetches.proofs.Probing.{probed_by_dialogue}

module _ (place : FtpPlace) (url : List ℕ) (used : List Exchange) (faults : ℕ) (there : ftp_place url ≡ Some place) where
  size_lost : (loss : Loss) → TellsFtpProbeLoss place used faults loss → TellsProbeLoss url used faults loss
  size_lost (Link count) tells = (probed_by_dialogue place url used Due there tells.0, tells.1)
  size_lost NoMemory tells = tt
  size_lost NotFound tells = probed_by_dialogue place url used (Lost NotFound) there tells
  size_lost (Refused status code) tells = probed_by_dialogue place url used (Lost (Refused status code)) there tells
  size_lost BadReply tells = probed_by_dialogue place url used (Lost BadReply) there tells
  size_lost (Length told want) tells = probed_by_dialogue place url used (Lost (Length told want)) there tells
  size_lost (Short got) tells = probed_by_dialogue place url used (Lost (Short got)) there tells
  size_lost Redirects tells = probed_by_dialogue place url used (Lost Redirects) there tells

  pub answered_by_dialogue : (result : Result ℕ Loss) → MatchResult result (λ size. FtpProbed place used (Told size)) (TellsFtpProbeLoss place used faults)
      → MatchResult result (λ total. Probed url used (Told total)) (TellsProbeLoss url used faults)
  answered_by_dialogue (Ok size) told = probed_by_dialogue place url used (Told size) there told
  answered_by_dialogue (Err loss) tells = size_lost loss tells
