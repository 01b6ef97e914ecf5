-- The lengths of a payload, as they are told.
use Rattle.machine_core.specs.OwnParts.{PayloadLengths}
use Rattle.machine_core.specs.declared.asked.Lengths.{Lengths}

abbrev pub known_by : Lengths → PayloadLengths
known_by lengths = record { total = lengths.total; piece_len = lengths.piece_len }
