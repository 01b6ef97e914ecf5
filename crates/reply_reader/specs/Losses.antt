-- What a loss is held against a mirror as.
use Rattle.std.specs.Prelude.{◌≡◌, ◌==◌, ◌||◌, ℕ, Bool, true, Option, Some, None, IsTrue}
use Rattle.dl_kinds.specs.ExitStatuses.{code_of_status, exit_code}
use Rattle.dl_kinds.specs.declared.exit_status.ExitStatus.{ExitStatus}
use Rattle.dl_kinds.specs.declared.exit_status.ExitStatus.TheVariants as statuses
use Rattle.dl_kinds.specs.declared.marks.Mark.{Mark}
use Rattle.reply_reader.specs.declared.loss.Loss.{Loss}
use Rattle.reply_reader.specs.declared.loss.Loss.TheVariants.{Link, NotFound, Refused, BadReply, Length, Short, Redirects, NoMemory}

-- a mark with this status, and without a count of faults
abbrev pub marked : ExitStatus → Option Mark
marked status = Some (record { code = exit_code status; count = 0 })

abbrev pub mark_of : Loss → Option Mark
mark_of (Link count) = Some (record { code = exit_code statuses.Network; count = count })
mark_of NotFound = marked statuses.NotFound
mark_of (Refused status code) = Some (record { code = code; count = 0 })
mark_of BadReply = marked statuses.HttpReply
mark_of (Length told want) = marked statuses.HttpReply
mark_of (Short got) = marked statuses.Network
mark_of Redirects = marked statuses.Redirects
mark_of NoMemory = None

-- The exit statuses of a refusal: a reply that isn't expected, one that wants to know who asks, an overloaded mirror, and a
-- command of FTP that was refused.
abbrev pub is_refusal_status : ℕ → Bool
is_refusal_status code =
    (code == code_of_status statuses.HttpReply)
    || (code == code_of_status statuses.Authorization)
    || (code == code_of_status statuses.Unavailable)
    || (code == code_of_status statuses.FtpCommand)

-- a refusal has one of them, as a test
abbrev pub is_known : Loss → Bool
is_known (Refused status code) = is_refusal_status code.0
is_known loss = true

abbrev pub IsKnown : Loss → Type 0
IsKnown loss = IsTrue (is_known loss)
