use Rattle.std.specs.Prelude.{All}
use Rattle.machine_core.specs.Replays.{is_active_in}
use Rattle.engine_turns.specs.Told.{is_taken}
use Rattle.std.proofs.Common.{◌≡◌, true, false, inl, inr, refl, sym, ap, ◌∙◌, subst, arith}
use Rattle.machine_core.specs.Offers.{is_handed_out}
use Rattle.engine_turns.specs.Standings.{AnswersOnly}
use Rattle.engine_turns.specs.declared.operations.Operation.TheVariants as operation
use Rattle.engine_turns.specs.declared.operations.Said.TheVariants.{Void}
use Rattle.stored_run.specs.Settlings.{SealedRow}
use Rattle.stored_run.proofs.Doing.{row_of_none}
use Rattle.engine_core.specs.Engines.{past_of, standing_of, start_of}
use Rattle.engine_core.specs.Handing.{IsUnsettled, handed_but}
use Rattle.engine_core.proofs.Awaiting.{all_kept}
use Rattle.engine_core.proofs.CalmRows.{calm_only}
use Rattle.engine_core.proofs.Letting.{front_lets_none}
use Rattle.engine_core.proofs.Performed.{nothing_came, out_same, row_came}
use Rattle.engine_core.proofs.Sealed.{but_none, but_untaken, calm_sealed, front_takes_none, is_out, out_going, out_settled, sealed_after, sealed_row}
use Rattle.engine_core.proofs.Alike.{begun_alike}
use Rattle.engine_core.proofs.ReadOn.{seals_nothing, takes_seal}
use Rattle.engine_core.proofs.FoundOn.{checks_before, checks_nothing}
use Rattle.engine_core.proofs.state.EngineState.seal.Goals as goal

pub returns-in-Err : goal.returns-in-Err
returns-in-Err g c = record {
  performs = (
      let a = c.args in
      let old = a.self.now in
      let pieces = old.handed.pieces in
      let said = c.in-Err.said in
      let same = ap g.D.Disk.faults c.begin.ensures.same.disk in
      let broken = c.in-Err.ensures.broken_off in
      nothing_came (operation.Seal a.gid a.sealed.now a.now) a.now refl old c.begin.new.self
      c.begin.ensures.same (g.D.Disk.faults old.run.disk) (g.D.Disk.faults c.begin.new.self.run.disk) false true
      said (omega (arith, same)) c.requires.rates (λ none. refl) refl broken
      (sealed_after a.gid a.sealed.now a.now said pieces pieces (front_lets_none false true (start_of old) (past_of old) said broken)
      (but_untaken a.gid a.sealed.now.piece _ pieces (front_takes_none false true (start_of old) (past_of old) said broken)))
      );
  disk = λ told. inl (begun_alike c.args.now c.args.self.now c.begin.new.self c.begin.ensures.same);
  reads = λ told. seals_nothing g.D.Disk.state c.args.self.now.run c.begin.new.self.run
      (begun_alike c.args.now c.args.self.now c.begin.new.self c.begin.ensures.same) c.args.gid c.args.sealed.now
      c.args.self.now.handed.pieces c.in-Err.said (g.D.Disk.state c.args.self.now.run.disk).seen
      (λ out is.
      let untaken = front_takes_none false true (start_of c.args.self.now) (past_of c.args.self.now) c.in-Err.said
      c.in-Err.ensures.broken_off in
      let yes : true ≡ false = sym (ap is_taken is) ∙ untaken in absurd cc)
      (λ there. (is_out (start_of c.args.self.now) (past_of c.args.self.now) c.args.gid c.args.sealed.now.piece
      c.args.self.now.handed.pieces there c.requires.out).unsettled.awaits.within);
  finds = λ told. checks_nothing g.D.Disk.state c.args.self.now.run c.begin.new.self.run
      (begun_alike c.args.now c.args.self.now c.begin.new.self c.begin.ensures.same);
}

pub returns-then-not-is_out : goal.returns-then-not-is_out
returns-then-not-is_out g c = record {
  performs = (
      let a = c.args in
      let old = a.self.now in
      let mid = c.begin.new.self in
      let pieces = old.handed.pieces in
      let same = ap g.D.Disk.faults c.begin.ensures.same.disk in
      let handed = ap (λ h. h.pieces) c.begin.ensures.same.handed in
      let f = g.D.Disk.faults mid.run.disk in
      let none : is_handed_out pieces a.gid a.sealed.now.piece ≡ false =
      ap (λ hs. is_handed_out hs a.gid a.sealed.now.piece) (sym handed)
      ∙ (ap (λ p. is_handed_out mid.handed.pieces a.gid p) (sym c.piece.ensures) ∙ (sym c.is_out.ensures ∙ c.if-not-is_out.true)) in
      row_came (operation.Seal a.gid a.sealed.now a.now) a.now refl old mid c.begin.ensures.same (λ at s. AnswersOnly Void) mid.run
      (g.D.Disk.faults old.run.disk) f f mid Void (omega (arith, same)) c.requires.rates c.in_default.ensures.none
      (row_of_none (λ at s. AnswersOnly Void) mid.run f Void (λ from s standing. (refl, refl))) refl refl refl refl
      (λ events row. inl row) (λ at s events row. calm_only Void refl events Void row)
      (handed ∙ sealed_after a.gid a.sealed.now a.now Void pieces pieces refl (but_none a.gid a.sealed.now.piece true pieces none))
      (out_same old mid handed)
      );
  disk = λ told. inl (begun_alike c.args.now c.args.self.now c.begin.new.self c.begin.ensures.same);
  reads = λ told.
      let a = c.args in
      let mid = c.begin.new.self in
      let handed = ap (λ h. h.pieces) c.begin.ensures.same.handed in
      seals_nothing g.D.Disk.state a.self.now.run mid.run (begun_alike a.now a.self.now mid c.begin.ensures.same) a.gid
      a.sealed.now a.self.now.handed.pieces Void (g.D.Disk.state a.self.now.run.disk).seen
      (λ out is.
      let none : is_handed_out a.self.now.handed.pieces a.gid a.sealed.now.piece ≡ false =
      ap (λ hs. is_handed_out hs a.gid a.sealed.now.piece) (sym handed)
      ∙ (ap (λ p. is_handed_out mid.handed.pieces a.gid p) (sym c.piece.ensures) ∙ (sym c.is_out.ensures ∙ c.if-not-is_out.true)) in
      let yes : true ≡ false = sym out ∙ none in absurd cc)
      (λ there. (is_out (start_of c.args.self.now) (past_of c.args.self.now) c.args.gid c.args.sealed.now.piece
      c.args.self.now.handed.pieces there c.requires.out).unsettled.awaits.within);
  finds = λ told. checks_nothing g.D.Disk.state c.args.self.now.run c.begin.new.self.run
      (begun_alike c.args.now c.args.self.now c.begin.new.self c.begin.ensures.same);
}

pub seal-said-requires-clause-going : goal.seal-said-requires-clause-going
seal-said-requires-clause-going g c =
    let a = c.args in
    let old = a.self.now in
    let mid = c.begin.new.self in
    let handed = ap (λ h. h.pieces) c.begin.ensures.same.handed in
    let there : is_handed_out old.handed.pieces a.gid a.sealed.now.piece ≡ true =
    ap (λ hs. is_handed_out hs a.gid a.sealed.now.piece) (sym handed)
    ∙ (ap (λ p. is_handed_out mid.handed.pieces a.gid p) (sym c.piece.ensures) ∙ (sym c.is_out.ensures ∙ c.if-not-is_out.false)) in
    let out = is_out (start_of old) (past_of old) a.gid a.sealed.now.piece old.handed.pieces there c.requires.out in
    out_going (start_of old) (past_of old) a.gid a.sealed.now.piece out mid.run c.begin.ensures.same.machine.start_is
    c.begin.ensures.same.machine.past_is

pub seal-said-requires-clause-piece : goal.seal-said-requires-clause-piece
seal-said-requires-clause-piece g c =
    let a = c.args in
    let old = a.self.now in
    let mid = c.begin.new.self in
    let handed = ap (λ h. h.pieces) c.begin.ensures.same.handed in
    let there : is_handed_out old.handed.pieces a.gid a.sealed.now.piece ≡ true =
    ap (λ hs. is_handed_out hs a.gid a.sealed.now.piece) (sym handed)
    ∙ (ap (λ p. is_handed_out mid.handed.pieces a.gid p) (sym c.piece.ensures) ∙ (sym c.is_out.ensures ∙ c.if-not-is_out.false)) in
    let out = is_out (start_of old) (past_of old) a.gid a.sealed.now.piece old.handed.pieces there c.requires.out in
    out_settled (start_of old) (past_of old) a.gid a.sealed.now.piece out mid.run c.begin.ensures.same.machine.start_is
    c.begin.ensures.same.machine.past_is c.accounts_match_runs.ensures.accounts c.tells_legal.ensures

pub seal-said-requires-clause-mark_room : goal.seal-said-requires-clause-mark_room
seal-said-requires-clause-mark_room g c =
    let a = c.args in
    let old = a.self.now in
    let mid = c.begin.new.self in
    let handed = ap (λ h. h.pieces) c.begin.ensures.same.handed in
    let there : is_handed_out old.handed.pieces a.gid a.sealed.now.piece ≡ true =
    ap (λ hs. is_handed_out hs a.gid a.sealed.now.piece) (sym handed)
    ∙ (ap (λ p. is_handed_out mid.handed.pieces a.gid p) (sym c.piece.ensures) ∙ (sym c.is_out.ensures ∙ c.if-not-is_out.false)) in
    let out = is_out (start_of old) (past_of old) a.gid a.sealed.now.piece old.handed.pieces there c.requires.out in
    let active = subst (λ s. is_active_in s (past_of mid) a.gid ≡ true) (sym c.begin.ensures.same.machine.start_is)
    (subst (λ p. is_active_in (start_of old) p a.gid ≡ true) (sym c.begin.ensures.same.machine.past_is) out.active) in
    let room = c.in_default.ensures.mark_room a.gid active in
    omega (arith, room)

pub returns : goal.returns
returns g c = record {
  performs = (
      let a = c.args in
      let old = a.self.now in
      let mid = c.begin.new.self in
      let pieces = old.handed.pieces in
      let piece = a.sealed.now.piece in
      let said = c.seal-said.result in
      let run = c.seal-said.new.self in
      let new = record mid { run = run; handed = c.hand_back_taken.new.handed } in
      let same = ap g.D.Disk.faults c.begin.ensures.same.disk in
      let handed = ap (λ h. h.pieces) c.begin.ensures.same.handed in
      let f = g.D.Disk.faults mid.run.disk in
      let there : is_handed_out pieces a.gid piece ≡ true =
      ap (λ hs. is_handed_out hs a.gid piece) (sym handed)
      ∙ (ap (λ p. is_handed_out mid.handed.pieces a.gid p) (sym c.piece.ensures) ∙ (sym c.is_out.ensures ∙ c.if-not-is_out.false)) in
      let back : new.handed.pieces ≡ handed_but a.gid piece (is_taken said) pieces =
      c.hand_back_taken.ensures ∙ (ap (λ p. handed_but a.gid p (is_taken said) mid.handed.pieces) c.piece-2.ensures
      ∙ ap (handed_but a.gid piece (is_taken said)) handed) in
      let here = c.seal-said.ensures.row.is (g.D.Disk.faults old.run.disk) (standing_of old) (omega (arith, same))
      (sym c.begin.ensures.same.machine.past_is) in
      let quiet = calm_sealed _ a.gid a.sealed.now (standing_of old) c.seal-said.ensures.row.events said here in
      row_came (operation.Seal a.gid a.sealed.now a.now) a.now refl old mid c.begin.ensures.same (SealedRow a.gid a.sealed.now) run
      (g.D.Disk.faults old.run.disk) f (g.D.Disk.faults run.disk) new said (omega (arith, same)) c.requires.rates
      c.in_default.ensures.none c.seal-said.ensures.row c.seal-said.ensures.on.start c.seal-said.ensures.on.now refl refl
      (λ events row. sealed_row _ (standing_of old) a.gid a.sealed.now events said there row)
      (λ at s events row. calm_sealed at a.gid a.sealed.now s events said row)
      (sealed_after a.gid a.sealed.now a.now said pieces new.handed.pieces quiet.1 back)
      (λ all. subst (All (IsUnsettled (start_of old) (past_of old))) (sym back)
      (all_kept (IsUnsettled (start_of old) (past_of old)) (IsUnsettled (start_of old) (past_of old)) _ pieces (λ h is stays. is) all))
      );
  disk = λ told. inr (inl (record {
    leaves = record { mid = c.begin.new.self.run; alike = begun_alike c.args.now c.args.self.now c.begin.new.self c.begin.ensures.same; leaves = c.seal-said.ensures.leaves told };
    none = λ never. absurd never;
    writes = c.seal-said.ensures.payloads told;
  }));
  reads = λ told.
      let a = c.args in
      let old = a.self.now in
      let mid = c.begin.new.self in
      let handed = ap (λ h. h.pieces) c.begin.ensures.same.handed in
      let there : is_handed_out old.handed.pieces a.gid a.sealed.now.piece ≡ true =
      ap (λ hs. is_handed_out hs a.gid a.sealed.now.piece) (sym handed)
      ∙ (ap (λ p. is_handed_out mid.handed.pieces a.gid p) (sym c.piece.ensures) ∙ (sym c.is_out.ensures ∙ c.if-not-is_out.false)) in
      let out = is_out (start_of old) (past_of old) a.gid a.sealed.now.piece old.handed.pieces there c.requires.out in
      takes_seal g.D.Disk.state old.run mid.run (begun_alike a.now old mid c.begin.ensures.same) a.gid a.sealed.now
      old.handed.pieces c.seal-said.new.self c.seal-said.result out.unsettled.opened (c.seal-said.ensures.settled told)
      (c.seal-said.ensures.void told)
      (λ there. (is_out (start_of c.args.self.now) (past_of c.args.self.now) c.args.gid c.args.sealed.now.piece
      c.args.self.now.handed.pieces there c.requires.out).unsettled.awaits.within);
  finds = λ told. checks_before g.D.Disk.state c.args.self.now.run c.begin.new.self.run
      (begun_alike c.args.now c.args.self.now c.begin.new.self c.begin.ensures.same) c.seal-said.new.self
      (c.seal-said.ensures.checks told);
}
