-- How long a resource is, by what it is asked for.
use Rattle.std.specs.Prelude.{◌≡◌, ℕ, List, Option, Some, None}
use Rattle.link_source.specs.Exchanges.{Exchange}
use Rattle.reply_reader.specs.declared.loss.Loss.{Loss}
use Rattle.reply_reader.specs.declared.loss.Loss.TheVariants as losses
use Rattle.request_chain.specs.Probes.{Probe, Due, Lost, Probed as ProbedByRequests}
use Rattle.ftp_fetches.specs.SizeDialogues.{FtpProbed}
use Rattle.ftp_places.specs.Places.{ftp_place}
use Rattle.ftp_places.specs.declared.place.FtpPlace.{FtpPlace}

-- by a dialogue about a file on an FTP server, or by requests for the first byte of what stands at the URL
abbrev pub ProbedAt : Option FtpPlace → List ℕ → List Exchange → Probe → Type 0
ProbedAt None url streams probe = ProbedByRequests url streams probe
ProbedAt (Some place) url streams probe = FtpProbed place streams probe

-- What these streams, the oldest first, tell of the resource at a URL, which says by what it is asked for.
unfoldable pub Probed : List ℕ → List Exchange → Probe → Type 0
Probed url streams probe = ProbedAt (ftp_place url) url streams probe

-- what each loss says of the streams that were used, where so many faults of the link are counted now
abbrev pub TellsProbeLoss : List ℕ → List Exchange → ℕ → Loss → Type 0
TellsProbeLoss url used faults (losses.Link count) = Probed url used Due × (count ≡ faults)
TellsProbeLoss url used faults losses.NoMemory = Unit {0}
TellsProbeLoss url used faults loss = Probed url used (Lost loss)
