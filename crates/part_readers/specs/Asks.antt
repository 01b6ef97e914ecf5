-- By what a part is asked for.
use Rattle.std.specs.Prelude.{◌≡◌, ℕ, List, [], ◌∷◌, Option, Some, None}
use Rattle.span_map.specs.declared.jobs.JobPart.{JobPart}
use Rattle.ftp_places.specs.Places.{ftp_place}
use Rattle.ftp_places.specs.declared.place.FtpPlace.{FtpPlace}
use Rattle.part_readers.specs.declared.ask.PartAsk.{PartAsk}
use Rattle.part_readers.specs.declared.ask.PartAsk.TheVariants.{Requests, Dialogue}

-- the URL leads to this file on an FTP server, or to none
abbrev pub LeadsToPlace : List ℕ → Option FtpPlace → Type 0
LeadsToPlace url place = ftp_place url ≡ place

-- by a dialogue where the part's URL leads to a file on an FTP server, and else by requests for this part alone
abbrev pub IsAskFor : JobPart → PartAsk → Type 0
IsAskFor part (Requests parts) = (ftp_place part.url ≡ None) × (parts ≡ part ∷ [])
IsAskFor part (Dialogue own place) = (ftp_place part.url ≡ Some place) × (own ≡ part)
