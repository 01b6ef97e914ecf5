use Rattle.std.proofs.Common.{ℕ, min, refl, ap, sym, ◌∙◌, subst, arith, inl, inr}
use Rattle.std.proofs.lemmas.Bool.{leb-true}
use Rattle.dl_kinds.specs.declared.runs.Moment.{Moment}
use Rattle.dl_queue.specs.Calls.{added_place}
use Rattle.machine_core.specs.Replays.{queue_in}
use Rattle.machine_core.specs.declared.offers.Offer.TheVariants as offer
use Rattle.rate_limits.specs.Shared.{lesser_credit, levels_taken}
use Rattle.rate_tokens.specs.declared.bucket.Take.TheVariants.{Go}
use Rattle.engine_turns.specs.declared.limits.TheConstants.{MAX_ALLOWANCE}
use Rattle.engine_turns.specs.declared.operations.Operation.TheVariants.{Next}
use Rattle.engine_turns.specs.declared.operations.Said.TheVariants.{NoMemory}
use Rattle.stored_run.specs.Granting.{MakesClaim}
use Rattle.engine_core.specs.Engines.{past_of, start_of}
use Rattle.engine_core.specs.Giving.{GivenRow}
use Rattle.engine_core.specs.Disks.{LeavesPayloads}
use Rattle.engine_core.proofs.Allowing.{place_added}
use Rattle.engine_core.proofs.Granted.{blocks_given, gives_nothing, is_first, is_within, place_there}
use Rattle.engine_core.proofs.Alike.{alike_same, roomier_alike}
use Rattle.stored_run.proofs.KeptBytes.{same_payloads}
use Rattle.stored_run.proofs.Unchecked.{unchecked_one}
use Rattle.engine_core.specs.Findings.{ChecksRead}
use Rattle.engine_core.proofs.FoundOn.{checks_nothing}
use Rattle.engine_core.proofs.state.EngineState.give_blocks.Goals as goal

pub unwrap-place-requires : goal.unwrap-place-requires
unwrap-place-requires g c = place_there c.args.self.now.run.machine c.machine.result.now c.machine.ensures c.args.gid
    c.requires.added c.place.result c.place.ensures.none

pub returns-in_default : goal.returns-in_default
returns-in_default g c = record {
  makes = (
      let a = c.args in
      let old = a.self.now in
      let is = c.in_default.ensures.same in
      let same = ap g.D.Disk.faults is.disk in
      gives_nothing (Next a.worker old.run.now) (GivenRow a.gid a.worker (offer.Blocks a.mirror a.run a.victim)) old
      (record old { run = c.claim_blocks.new.self }) (g.D.Disk.faults old.run.disk)
      (g.D.Disk.faults c.claim_blocks.new.self.disk) NoMemory (omega (arith, same)) c.requires.rates is.machine.start_is is.now
      is.machine.past_is refl refl refl (λ from below. inl (refl, refl))
      );
  disk = λ told. inr (record {
    leaves = record {
      mid = c.args.self.now.run;
      alike = alike_same c.args.self.now.run;
      leaves = c.claim_blocks.ensures.leaves told;
    };
    payloads = same_payloads g.D.Disk.state c.args.self.now.run c.claim_blocks.new.self.disk c.in_default.ensures.same.disk;
  });
  reads = λ told. tt;
  finds = λ told. checks_nothing g.D.Disk.state c.args.self.now.run c.claim_blocks.new.self
      (roomier_alike c.args.self.now.run c.claim_blocks.new.self c.in_default.ensures.same);
}

pub let_go-allow-requires-clause-place : goal.let_go-allow-requires-clause-place
let_go-allow-requires-clause-place g c =
    let old = c.args.self.now in
    let within = is_within old.run.machine c.machine.result.now c.machine.ensures c.args.gid c.place.result c.unwrap-place.result
    c.unwrap-place.ensures c.place.ensures.found in
    omega (arith, within, c.requires.rates.many)

pub let_go-allow-requires-clause-some : goal.let_go-allow-requires-clause-some
let_go-allow-requires-clause-some g c =
    let old = c.args.self.now in
    let first = is_first old.run.machine c.machine.result.now c.machine.ensures c.args.gid c.place.result c.unwrap-place.result
    c.unwrap-place.ensures c.place.ensures.first ∙ sym (place_added (start_of old) (past_of old) c.args.gid) in
    let at = added_place c.args.gid (queue_in (start_of old) (past_of old)).added in
    let more = leb-true 1 (lesser_credit old.limits at old.run.now.0) c.requires.afforded in
    let credit = ap (λ (n : ℕ). lesser_credit old.limits n c.claim_blocks.new.self.now.0) first
    ∙ ap (λ (m : Moment). lesser_credit old.limits at m.0) c.in-Ok.ensures.event.now in
    omega (arith, more, credit)

pub returns : goal.returns
returns g c = record {
  makes = (
      let a = c.args in
      let old = a.self.now in
      let new = c.let_go-allow.new.self in
      let faults = g.D.Disk.faults in
      let place = c.unwrap-place.result in
      let first = is_first old.run.machine c.machine.result.now c.machine.ensures a.gid c.place.result place c.unwrap-place.ensures
      c.place.ensures.first in
      let within = is_within old.run.machine c.machine.result.now c.machine.ensures a.gid c.place.result place c.unwrap-place.ensures
      c.place.ensures.found in
      let same = ap (λ r. faults r.disk) c.let_go-allow.ensures.run ∙ ap faults c.in-Ok.ensures.event.disk in
      let now = c.in-Ok.ensures.event.now in
      blocks_given a.worker old.run.now old new a.gid (faults old.run.disk) (faults new.run.disk)
      c.requires.rates c.requires.added same a.mirror a.run a.victim c.in-Ok.claim c.in-Ok.job place c.let_go-allow.result
      (subst (MakesClaim a.gid a.worker a.mirror a.run a.victim c.in-Ok.claim old.run) (sym c.let_go-allow.ensures.run) c.in-Ok.ensures.event)
      c.in-Ok.ensures.job
      (c.let_go-allow.ensures.bytes ∙ λ i. min MAX_ALLOWANCE (lesser_credit old.limits place (now i).0)) first within
      c.let_go-allow.ensures.handed
      (c.let_go-allow.ensures.limits ∙ ap (λ (m : Moment). levels_taken place m.0 (Go c.let_go-allow.result) old.limits) now)
      );
  disk = λ told. inr (subst (LeavesPayloads g.D.Disk.state c.args.self.now.run) (sym c.let_go-allow.ensures.run)
      (record {
        leaves = record {
          mid = c.args.self.now.run;
          alike = alike_same c.args.self.now.run;
          leaves = c.claim_blocks.ensures.leaves told;
        };
        payloads = same_payloads g.D.Disk.state c.args.self.now.run c.claim_blocks.new.self.disk c.in-Ok.ensures.event.disk;
      }));
  reads = λ told. tt;
  finds = λ told. subst (ChecksRead g.D.Disk.state c.args.self.now.run) (sym c.let_go-allow.ensures.run)
      (unchecked_one c.args.self.now.run c.claim_blocks.new.self (g.D.Disk.state c.claim_blocks.new.self.disk).seen
      _ c.in-Ok.ensures.event.past tt);
}
