use Rattle.std.proofs.Common.{[], refl}
use Rattle.part_fetches.proofs.Following.{leads_none, parts_brought}
use Rattle.fetch_session.proofs.PartSteps.{begun_asks}
use Rattle.fetch_session.proofs.source.Source.new.Goals as goal

pub returns-clause-source : goal.returns-clause-source
returns-clause-source c = record {
  parts_are = refl;
  older = [];
  newer = [];
  used_is = refl;
  front = [];
  own = [];
  bytes_are = refl;
  leads = leads_none c.args.parts;
  waiting = [];
  at = (refl, refl, refl);
}

pub returns-clause-brought : goal.returns-clause-brought
returns-clause-brought c = parts_brought c.args.parts

pub returns-clause-first : goal.returns-clause-first
returns-clause-first c = λ part others is. begun_asks c.args.parts c.args.rooms part others is
