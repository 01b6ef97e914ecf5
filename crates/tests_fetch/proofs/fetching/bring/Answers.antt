use Rattle.tests_fetch.proofs.fetching.bring.Goals as goal

pub read_all-requires-clause-may : goal.read_all-requires-clause-may
read_all-requires-clause-may g c = λ tells. c.begin-fetch.ensures.may _ (c.requires.may tells)

pub returns-in-Ok : goal.returns-in-Ok
returns-in-Ok g c = record { may = λ tells. c.into_room.ensures.may _ (c.in-Ok.ensures.may tells) }
