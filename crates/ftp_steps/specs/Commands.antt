-- The commands of the steps (RFC 959 section 5.3.1, RFC 3659 sections 4.1 and 5.3).
use Rattle.std.specs.Prelude.{◌≡◌, ◌<◌, ◌^◌, ℕ, true, false, List, [], ◌++◌, codes}
use Rattle.std.specs.Fmt.{decimal}
use Rattle.std.specs.List.{list_any}
use Rattle.ftp_places.specs.Pathnames.{is_forbidden, is_pathname}
use Rattle.ftp_places.specs.declared.place.FtpPlace.{FtpPlace}
use Rattle.ftp_steps.specs.declared.step.FtpStep.{FtpStep}
use Rattle.ftp_steps.specs.declared.step.FtpStep.TheVariants.{Greeting, User, Password, Binary, Size, Passive, Restart, Retrieve}

-- the words of a step's command, where the file is to come from this place on
abbrev pub command_words : FtpPlace → ℕ → FtpStep → List ℕ
command_words place at Greeting = []
command_words place at User = codes "USER anonymous"
command_words place at Password = codes "PASS anonymous@"
command_words place at Binary = codes "TYPE I"
command_words place at Size = codes "SIZE " ++ place.path
command_words place at Passive = codes "PASV"
command_words place at Restart = codes "REST " ++ decimal at
command_words place at Retrieve = codes "RETR " ++ place.path

-- its line, which is none at the greeting
abbrev pub command_of : FtpPlace → ℕ → FtpStep → List ℕ
command_of place at Greeting = []
command_of place at step = command_words place at step ++ codes "\r\n"

-- no word ends its line, whatever the path is
abbrev pub CommandIsLine : Type 0
CommandIsLine = (place : FtpPlace) (at : ℕ) (step : FtpStep)
    → is_pathname place.path ≡ true → at < 2 ^ 64 → list_any is_forbidden (command_words place at step) ≡ false
