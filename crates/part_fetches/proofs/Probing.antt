-- A probe by requests.
use Rattle.std.proofs.Common.{◌≡◌, ℕ, List, Option, Some, None, subst, sym}
use Rattle.std.specs.Prelude.{Result, Ok, Err, MatchResult}
use Rattle.link_source.specs.Exchanges.{Exchange}
use Rattle.reply_reader.specs.declared.loss.Loss.{Loss}
use Rattle.reply_reader.specs.declared.loss.Loss.TheVariants.{Link, NotFound, Refused, BadReply, Length, Short, Redirects, NoMemory}
use Rattle.request_chain.specs.Probes.{Probe, Due, Lost, Told, Probed as ProbedByRequests, TellsProbeLoss as RequestsTellProbeLoss}
use Rattle.ftp_fetches.specs.SizeDialogues.{FtpProbed}
use Rattle.ftp_places.specs.Places.{ftp_place}
use Rattle.ftp_places.specs.declared.place.FtpPlace.{FtpPlace}
use Rattle.part_fetches.specs.Probes.{Probed, ProbedAt, TellsProbeLoss}

-- where the URL leads to a file on an FTP server
pub probed_by_dialogue : (place : FtpPlace) (url : List ℕ) (used : List Exchange) (probe : Probe) → ftp_place url ≡ Some place
    → FtpProbed place used probe → Probed url used probe
unfolding Probed
probed_by_dialogue place url used probe there probed = subst (λ (at : Option FtpPlace). ProbedAt at url used probe) (sym there) probed

-- .. and where it doesn't
pub probed_by : (url : List ℕ) (used : List Exchange) (probe : Probe) → ftp_place url ≡ None → ProbedByRequests url used probe → Probed url used probe
unfolding Probed
probed_by url used probe none probed = subst (λ (at : Option FtpPlace). ProbedAt at url used probe) (sym none) probed

pub told_by_requests : (url : List ℕ) (used : List Exchange) (probe : Probe) → ftp_place url ≡ None → Probed url used probe → ProbedByRequests url used probe
unfolding Probed
told_by_requests url used probe none probed = subst (λ (at : Option FtpPlace). ProbedAt at url used probe) none probed

probe_loss_by : (url : List ℕ) (used : List Exchange) (faults : ℕ) (loss : Loss) → ftp_place url ≡ None → RequestsTellProbeLoss url used faults loss
    → TellsProbeLoss url used faults loss
probe_loss_by url used faults (Link count) none tells = (probed_by url used Due none tells.0, tells.1)
probe_loss_by url used faults NoMemory none tells = tt
probe_loss_by url used faults NotFound none tells = probed_by url used (Lost NotFound) none tells
probe_loss_by url used faults (Refused status code) none tells = probed_by url used (Lost (Refused status code)) none tells
probe_loss_by url used faults BadReply none tells = probed_by url used (Lost BadReply) none tells
probe_loss_by url used faults (Length told want) none tells = probed_by url used (Lost (Length told want)) none tells
probe_loss_by url used faults (Short got) none tells = probed_by url used (Lost (Short got)) none tells
probe_loss_by url used faults Redirects none tells = probed_by url used (Lost Redirects) none tells

-- what a probe answers
pub answered_by_requests : (url : List ℕ) (used : List Exchange) (faults : ℕ) (result : Result ℕ Loss) → ftp_place url ≡ None
    → MatchResult result (λ total. ProbedByRequests url used (Told total)) (RequestsTellProbeLoss url used faults)
    → MatchResult result (λ total. Probed url used (Told total)) (TellsProbeLoss url used faults)
answered_by_requests url used faults (Ok total) none tells = probed_by url used (Told total) none tells
answered_by_requests url used faults (Err loss) none tells = probe_loss_by url used faults loss none tells
