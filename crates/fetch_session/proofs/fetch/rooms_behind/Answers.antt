use Rattle.fetch_session.proofs.fetch.rooms_behind.Goals as goal

pub returns-in-Some-clause-rests : goal.returns-in-Some-clause-rests
returns-in-Some-clause-rests c link rests = c.without_connection.ensures.rests link

pub returns-in-Some-clause-whole : goal.returns-in-Some-clause-whole
returns-in-Some-clause-whole c exchanges whole = c.without_connection.ensures.whole exchanges
