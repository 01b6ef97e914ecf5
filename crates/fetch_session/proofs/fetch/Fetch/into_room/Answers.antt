use Rattle.fetch_session.proofs.fetch.Fetch.into_room.Goals as goal

pub returns-clause-may : goal.returns-clause-may
returns-clause-may c link may = c.rooms_behind.ensures.rests link may.rests
