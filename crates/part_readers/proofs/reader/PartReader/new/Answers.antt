use Rattle.std.proofs.Common.{[], inl, subst}
use Rattle.part_readers.specs.Asks.{IsAskFor}
use Rattle.part_readers.specs.declared.ask.PartAsk.TheVariants.{Requests}
use Rattle.part_readers.proofs.reader.PartReader.new.Goals as goal

pub returns-in-Requests-clause-asks : goal.returns-in-Requests-clause-asks
returns-in-Requests-clause-asks c = λ part is.
    let asked : IsAskFor part (Requests c.in-Requests.parts) = subst (IsAskFor part) c.in-Requests.is is in
    inl (c.new.ensures.first part [] asked.1)
