-- The exit statuses (aria2 manual, section EXIT STATUS); 40 and 41 are this program's own.
use Rattle.std.specs.Prelude.{◌≡◌, ℕ, ◌==◌, Option, Some, List, [], codes, find}
use Rattle.std.specs.Option.{option_map_or}
use Rattle.dl_kinds.specs.declared.exit_status.ExitStatus.{ExitStatus}
use Rattle.dl_kinds.specs.declared.exit_status.ExitStatus.TheVariants as status
use Rattle.dl_kinds.specs.declared.exit_status.TheConstants.{EXIT_STATUSES}
use Rattle.dl_kinds.specs.declared.marks.Code.{Code}

-- the number and the words of each
abbrev pub row_of_status : ExitStatus → ℕ × List ℕ
row_of_status status.Done = (0, codes "")
row_of_status status.Unusable = (1, codes "control file or length is not usable")
row_of_status status.NotFound = (3, codes "resource not found")
row_of_status status.Network = (6, codes "network problem")
row_of_status status.Unfinished = (7, codes "downloads are not finished")
row_of_status status.PieceLength = (10, codes "piece length differs from the control file")
row_of_status status.SameFile = (11, codes "file is already being downloaded")
row_of_status status.SameHash = (12, codes "info hash is already being downloaded")
row_of_status status.Exists = (13, codes "file already exists")
row_of_status status.FileIo = (17, codes "file I/O error")
row_of_status status.FtpCommand = (21, codes "FTP command failed")
row_of_status status.HttpReply = (22, codes "unexpected HTTP reply")
row_of_status status.Redirects = (23, codes "too many redirects")
row_of_status status.Authorization = (24, codes "HTTP authorization failed")
row_of_status status.BadBencode = (25, codes "bencoded bytes are wrong")
row_of_status status.BadMetainfo = (26, codes "torrent is not usable")
row_of_status status.BadWords = (28, codes "command line is wrong")
row_of_status status.Unavailable = (29, codes "server temporarily unable")
row_of_status status.Checksum = (32, codes "checksum failed")
row_of_status status.NoMemory = (40, codes "out of memory")
row_of_status status.SinkFault = (41, codes "output failed")

abbrev pub code_of_status : ExitStatus → ℕ
code_of_status status = (row_of_status status).0

-- the number as a code
abbrev pub exit_code : ExitStatus → Code
exit_code status = record { 0 = code_of_status status }

abbrev pub words_of_status : ExitStatus → List ℕ
words_of_status status = (row_of_status status).1

-- the status with this number
abbrev pub status_with : ℕ → Option ExitStatus
status_with code = find (λ status. code_of_status status == code) EXIT_STATUSES

-- the words of a number; none of one that no status has
abbrev pub words_of_code : ℕ → List ℕ
words_of_code code = option_map_or words_of_status (status_with code) []

-- each status is found by its number
abbrev pub StatusesHaveCodes : Type 0
StatusesHaveCodes = (status : ExitStatus) → status_with (code_of_status status) ≡ Some status
