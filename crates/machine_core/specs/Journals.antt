-- For how many more events a journal has room.
use Rattle.std.specs.Prelude.{ℕ}
use Rattle.machine_core.specs.declared.journal.Journal.{Journal}

abbrev pub room_in : Journal → ℕ
room_in journal = journal.room
