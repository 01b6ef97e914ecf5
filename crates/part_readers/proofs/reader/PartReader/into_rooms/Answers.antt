use Rattle.part_readers.proofs.reader.PartReader.into_rooms.Goals as goal

pub returns-in-Ftp-clause-rests : goal.returns-in-Ftp-clause-rests
returns-in-Ftp-clause-rests c link _ rests = c.without_connection.ensures.rests link rests
