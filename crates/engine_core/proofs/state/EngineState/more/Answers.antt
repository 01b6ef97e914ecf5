use Rattle.std.proofs.Common.{◌≡◌, ◌≤◌, false, true, min, None, Some, length, inr, refl, sym, ap, ◌∙◌, subst, arith, inl}
use Rattle.std.proofs.lemmas.Option.{slice_get_within}
use Rattle.dl_kinds.specs.declared.runs.Moment.{Moment}
use Rattle.machine_core.specs.Reads.{downloads_in}
use Rattle.rate_limits.specs.Shared.{levels_taken, shared_answer}
use Rattle.rate_tokens.specs.declared.bucket.Take.TheVariants.{Go}
use Rattle.engine_turns.specs.ClaimRows.{MoreRow}
use Rattle.engine_turns.specs.RunTurns.{answer_to}
use Rattle.engine_turns.specs.Standings.{OfClaim}
use Rattle.engine_turns.specs.declared.limits.TheConstants.{MAX_ALLOWANCE}
use Rattle.engine_turns.specs.declared.operations.Operation.TheVariants as operation
use Rattle.engine_turns.specs.declared.operations.Said.TheVariants.{Allow, Void}
use Rattle.engine_turns.specs.declared.operations.Said.TheVariants as said
use Rattle.stored_run.proofs.Losses.{no_home_row}
use Rattle.engine_core.specs.Beginning.{IsBrokenOff}
use Rattle.engine_core.specs.Buckets.{HasRates}
use Rattle.engine_core.proofs.Allowing.{more_allowed, more_calm, more_held, void_row}
use Rattle.engine_core.proofs.Given.{gives_performed}
use Rattle.engine_core.proofs.Performed.{broken_off, came_to, row_performed}
use Rattle.engine_core.proofs.Alike.{come_alike}
use Rattle.engine_core.proofs.state.EngineState.more.Goals as goal

pub returns-in-Some : goal.returns-in-Some
returns-in-Some g c = record {
  performs = (
      let a = c.args in
      let old = a.self.now in
      let mid = record old { run = c.come_to.new.self } in
      let same = ap (λ r. g.D.Disk.faults r.disk) c.come_to.ensures in
      let is = sym c.in-Some.is ∙ (c.front.ensures ∙ ap (λ r. answer_to false true r.machine.start r.machine.past) c.come_to.ensures) in
      broken_off (operation.More a.claim a.want a.now) (λ h. refl) a.now refl old mid (came_to a.now old mid c.come_to.ensures refl refl)
      (g.D.Disk.faults old.run.disk) (g.D.Disk.faults c.come_to.new.self.disk) false true c.in-Some.said (omega (arith, same))
      c.requires (λ none. absurd (let some : Some c.in-Some.said ≡ None = is ∙ none in cc)) refl
      (subst (λ o. IsBrokenOff o c.in-Some.said) is refl)
      );
  disk = λ told. inl (come_alike c.args.now c.args.self.now.run c.come_to.new.self c.come_to.ensures);
  reads = λ told. tt;
  finds = λ told. tt;
}

pub returns-in_default-place_of_claim : goal.returns-in_default-place_of_claim
returns-in_default-place_of_claim g c = record {
  performs = (
      let a = c.args in
      let old = a.self.now in
      let mid = record old { run = c.come_to.new.self } in
      let same = ap (λ r. g.D.Disk.faults r.disk) c.come_to.ensures in
      let front = sym (c.front.ensures ∙ ap (λ r. answer_to false true r.machine.start r.machine.past) c.come_to.ensures) ∙ c.in_default.is in
      let f = g.D.Disk.faults c.come_to.new.self.disk in
      row_performed (operation.More a.claim a.want a.now) (λ h. refl) a.now refl old mid
      (came_to a.now old mid c.come_to.ensures refl refl) (λ at s. OfClaim at s a.claim (MoreRow at s a.want))
      c.come_to.new.self (g.D.Disk.faults old.run.disk) f f mid Void (omega (arith, same)) c.requires front
      (no_home_row (λ at s. MoreRow at s a.want) c.come_to.new.self f a.claim c.in_default-place_of_claim.ensures.none) refl refl
      refl refl refl (λ at s events row. row) (λ at s events row. (more_calm at s a.claim a.want events Void row, refl))
      );
  disk = λ told. inl (come_alike c.args.now c.args.self.now.run c.come_to.new.self c.come_to.ensures);
  reads = λ told. tt;
  finds = λ told. tt;
}

pub returns-then-want-eq0 : goal.returns-then-want-eq0
returns-then-want-eq0 g c = record {
  performs = (
      let a = c.args in
      let old = a.self.now in
      let mid = record old { run = c.come_to.new.self } in
      let same = ap (λ r. g.D.Disk.faults r.disk) c.come_to.ensures in
      let front = sym (c.front.ensures ∙ ap (λ r. answer_to false true r.machine.start r.machine.past) c.come_to.ensures) ∙ c.in_default.is in
      let f = g.D.Disk.faults c.come_to.new.self.disk in
      row_performed (operation.More a.claim a.want a.now) (λ h. refl) a.now refl old mid
      (came_to a.now old mid c.come_to.ensures refl refl) (λ at s. OfClaim at s a.claim (MoreRow at s a.want))
      c.come_to.new.self (g.D.Disk.faults old.run.disk) f f mid Void (omega (arith, same)) c.requires front
      (void_row c.come_to.new.self f a.claim a.want c.in-Some-place_of_claim.place (omega (arith, c.if-want-eq0.true))
      c.in-Some-place_of_claim.ensures.found) refl refl
      refl refl refl (λ at s events row. row) (λ at s events row. (more_calm at s a.claim a.want events Void row, refl))
      );
  disk = λ told. inl (come_alike c.args.now c.args.self.now.run c.come_to.new.self c.come_to.ensures);
  reads = λ told. tt;
  finds = λ told. tt;
}

pub take-requires-clause-place : goal.take-requires-clause-place
take-requires-clause-place g c =
    let home = c.in-Some-place_of_claim.ensures.found in
    let within = slice_get_within (downloads_in c.come_to.new.self.machine) c.in-Some-place_of_claim.place home.download home.there in
    let same = ap (λ r. length (downloads_in r.machine)) c.come_to.ensures in
    omega (arith, within, same, c.requires.many)

pub returns-in-Go : goal.returns-in-Go
returns-in-Go g c = record {
  performs = (
      let a = c.args in
      let old = a.self.now in
      let mid = record old { run = c.come_to.new.self } in
      let new = record old { run = c.come_to.new.self; limits = c.take.new.self } in
      let same = ap (λ r. g.D.Disk.faults r.disk) c.come_to.ensures in
      let front = sym (c.front.ensures ∙ ap (λ r. answer_to false true r.machine.start r.machine.past) c.come_to.ensures) ∙ c.in_default.is in
      let f = g.D.Disk.faults c.come_to.new.self.disk in
      let place = c.in-Some-place_of_claim.place in
      let bytes = c.in-Go.bytes in
      let rates = subst (λ r. HasRates r.machine.start r.machine.past old.limits) (sym c.come_to.ensures) c.requires in
      let some : 1 ≤ a.want = (let more = c.if-want-eq0.false in omega (arith, more)) in
      let most : c.min.result ≡ min a.want MAX_ALLOWANCE = (let is = c.min.ensures in omega (arith, is)) in
      let answer = c.in-Go.ensures.answer ∙ λ i. shared_answer old.limits place (most i) (c.moment.ensures i).0 in
      let levels = c.in-Go.ensures.levels ∙ ap (λ (m : Moment). levels_taken place m.0 (Go bytes) old.limits) c.moment.ensures in
      gives_performed old mid a.now (came_to a.now old mid c.come_to.ensures refl refl) (operation.More a.claim a.want a.now)
      (λ h. refl) (λ at s. OfClaim at s a.claim (MoreRow at s a.want)) new (g.D.Disk.faults old.run.disk) f f (Allow bytes) refl
      (omega (arith, same)) c.requires front
      (more_allowed a.now mid new a.claim a.want place f c.in-Some-place_of_claim.ensures.found rates some refl refl bytes answer
      levels) (λ at s events row. inr row) (λ at s events row. more_calm at s a.claim a.want events (Allow bytes) row)
      );
  disk = λ told. inl (come_alike c.args.now c.args.self.now.run c.come_to.new.self c.come_to.ensures);
  reads = λ told. tt;
  finds = λ told. tt;
}

pub returns-in-Hold : goal.returns-in-Hold
returns-in-Hold g c = record {
  performs = (
      let a = c.args in
      let old = a.self.now in
      let mid = record old { run = c.come_to.new.self } in
      let new = record old { run = c.come_to.new.self; limits = c.take.new.self } in
      let same = ap (λ r. g.D.Disk.faults r.disk) c.come_to.ensures in
      let front = sym (c.front.ensures ∙ ap (λ r. answer_to false true r.machine.start r.machine.past) c.come_to.ensures) ∙ c.in_default.is in
      let f = g.D.Disk.faults c.come_to.new.self.disk in
      let place = c.in-Some-place_of_claim.place in
      let ms = c.in-Hold.ms in
      let rates = subst (λ r. HasRates r.machine.start r.machine.past old.limits) (sym c.come_to.ensures) c.requires in
      let some : 1 ≤ a.want = (let more = c.if-want-eq0.false in omega (arith, more)) in
      let most : c.min.result ≡ min a.want MAX_ALLOWANCE = (let is = c.min.ensures in omega (arith, is)) in
      let answer = c.in-Hold.ensures.answer ∙ λ i. shared_answer old.limits place (most i) (c.moment.ensures i).0 in
      gives_performed old mid a.now (came_to a.now old mid c.come_to.ensures refl refl) (operation.More a.claim a.want a.now)
      (λ h. refl) (λ at s. OfClaim at s a.claim (MoreRow at s a.want)) new (g.D.Disk.faults old.run.disk) f f (said.Hold ms) refl
      (omega (arith, same)) c.requires front
      (more_held a.now mid new a.claim a.want place f c.in-Some-place_of_claim.ensures.found rates some refl refl ms answer
      c.in-Hold.ensures.levels) (λ at s events row. inr row) (λ at s events row. more_calm at s a.claim a.want events (said.Hold ms) row)
      );
  disk = λ told. inl (come_alike c.args.now c.args.self.now.run c.come_to.new.self c.come_to.ensures);
  reads = λ told. tt;
  finds = λ told. tt;
}
