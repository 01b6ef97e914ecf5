use Rattle.std.proofs.Common.{refl}
use Rattle.dl_kinds.specs.ExitStatuses.{StatusesHaveCodes}
use Rattle.dl_kinds.specs.declared.exit_status.ExitStatus.TheVariants as status
use Rattle.dl_kinds.proofs.exit_status.statuses_have_codes.Goals as goal

found : StatusesHaveCodes
found status.Done = refl
found status.Unusable = refl
found status.NotFound = refl
found status.Network = refl
found status.Unfinished = refl
found status.PieceLength = refl
found status.SameFile = refl
found status.SameHash = refl
found status.Exists = refl
found status.FileIo = refl
found status.FtpCommand = refl
found status.HttpReply = refl
found status.Redirects = refl
found status.Authorization = refl
found status.BadBencode = refl
found status.BadMetainfo = refl
found status.BadWords = refl
found status.Unavailable = refl
found status.Checksum = refl
found status.NoMemory = refl
found status.SinkFault = refl

pub returns : goal.returns
returns c = found
