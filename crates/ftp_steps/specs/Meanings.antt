-- What the codes of replies mean, by the command before them (RFC 959 section 5.4, RFC 3659 sections 4 and 5).
use Rattle.std.specs.Prelude.{ℕ, ◌==◌, ◌||◌, if◌then◌else◌}
use Rattle.dl_kinds.specs.ExitStatuses.{exit_code}
use Rattle.dl_kinds.specs.declared.exit_status.ExitStatus.{ExitStatus}
use Rattle.dl_kinds.specs.declared.exit_status.ExitStatus.TheVariants.{FtpCommand, Unavailable}
use Rattle.reply_reader.specs.declared.loss.Loss.TheVariants.{NotFound, Refused}
use Rattle.ftp_steps.specs.declared.meaning.Meaning.{Meaning}
use Rattle.ftp_steps.specs.declared.meaning.Meaning.TheVariants.{GoesTo, HasSize, HasPort, GivesData, Loses}
use Rattle.ftp_steps.specs.declared.step.FtpStep.{FtpStep}
use Rattle.ftp_steps.specs.declared.step.FtpStep.TheVariants.{Greeting, User, Password, Binary, Size, Passive, Restart, Retrieve}

-- refused by a reply of this code, with this exit status
abbrev pub refusal : ℕ → ExitStatus → Meaning
refusal code status = Loses (Refused code (exit_code status))

abbrev pub meaning_of : FtpStep → ℕ → Meaning
meaning_of Greeting code = if code == 220 then GoesTo User else refusal code Unavailable
meaning_of User code =
    if code == 331 then GoesTo Password else if code == 230 then GoesTo Binary else refusal code FtpCommand
meaning_of Password code = if code == 230 then GoesTo Binary else refusal code FtpCommand
meaning_of Binary code = if code == 200 then GoesTo Size else refusal code FtpCommand
meaning_of Size code =
    if code == 213 then HasSize else if code == 550 then Loses NotFound else refusal code FtpCommand
meaning_of Passive code = if code == 227 then HasPort else refusal code FtpCommand
meaning_of Restart code = if code == 350 then GoesTo Retrieve else refusal code FtpCommand
meaning_of Retrieve code =
    if (code == 125) || (code == 150) then GivesData
    else if code == 550 then Loses NotFound else refusal code FtpCommand
