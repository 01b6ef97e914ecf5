use Rattle.std.proofs.Common.{refl, true}
use Rattle.stored_run.specs.Views.{own_in}
use Rattle.stored_run.proofs.Doing.{grown_none, stores_none}
use Rattle.machine_core.specs.declared.events.Event.TheVariants.{Settled}
use Rattle.stored_run.proofs.Endings.{going_facts}
use Rattle.stored_run.proofs.Failing.{opened_want}
use Rattle.stored_run.proofs.FilledPieces.{right_may}
use Rattle.stored_run.proofs.Seals.{none_some}
use Rattle.stored_run.proofs.run.StoredRun.count_if_filled.Goals as goal

pub find-requires-clause-may : goal.find-requires-clause-may
find-requires-clause-may g c =
    let v = c.args.self.now in
    let m = v.machine in
    let gid = c.args.gid in
    let run = c.tells_stored.ensures in
    let going = c.requires.going in
    let facts = going_facts m.start m.past v.wants.items gid run.wants_are going in
    let w = opened_want m.start m.past v.wants.items gid run.wants_are going.opened in
    let full = c.is_full.ensures.0 c.if-not-is_full.false in
    let may = right_may c.runs_follow.ensures m.start m.past gid c.args.piece facts.has.download facts.has.added w.plan
    (c.runs_follow.ensures.legal m.start m.past gid run.legal) going.opened c.requires.piece full
    (c.requires.unsettled.unverified c.if-marked.false full) (c.requires.unsettled.anew c.if-marked.false full) in (
      Settled gid c.args.piece true may.0,
      (may.0, refl),
      record {
        own = record { download = facts.has.download; added = facts.has.added; may = may.1 };
        right_is = λ un. refl;
      },
    )

pub find-requires-clause-digest : goal.find-requires-clause-digest
find-requires-clause-digest g c right told want kept listed =
    none_some want.info_hash (c.requires.unlisted want kept) listed

pub returns-then-marked-clause-disk : goal.returns-then-marked-clause-disk
returns-then-marked-clause-disk g c told want is =
    let v = c.args.self.now in
    let own = own_in v c.args.gid in
    let disk = g.D.Disk.state v.disk in
    stores_none c.runs_follow.ensures.give want own own disk (c.tells_stored.ensures.wants_are.sound c.args.gid want is)
    (grown_none own)

pub returns-then-not-is_full-clause-disk : goal.returns-then-not-is_full-clause-disk
returns-then-not-is_full-clause-disk g c told want is =
    let v = c.args.self.now in
    let own = own_in v c.args.gid in
    let disk = g.D.Disk.state v.disk in
    stores_none c.runs_follow.ensures.give want own own disk (c.tells_stored.ensures.wants_are.sound c.args.gid want is)
    (grown_none own)

pub returns-clause-counted : goal.returns-clause-counted
returns-clause-counted g c counted = record {
  unmarked = c.if-marked.false;
  full = c.is_full.ensures.0 c.if-not-is_full.false;
  did = c.find.ensures.did;
}
