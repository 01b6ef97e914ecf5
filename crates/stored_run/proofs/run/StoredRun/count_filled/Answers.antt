use Rattle.std.proofs.Common.{◌≡◌, ◌+◌, ◌-◌, ◌<◌, ◌∙◌, ℕ, None, [], false, ap, arith, refl, subst, sym}
use Rattle.std.specs.Prelude.{slice_index_or}
use Rattle.std.proofs.lemmas.Option.{same_Some}
use Rattle.control_file.specs.declared.want.Want.{Want}
use Rattle.dl_kinds.specs.Plan.{pieces_of}
use Rattle.engine_turns.specs.Phases.{AllRightPhase}
use Rattle.engine_turns.specs.declared.outcome.Outcome.TheVariants.{Went}
use Rattle.machine_core.specs.OwnParts.{PayloadLengths}
use Rattle.machine_core.specs.Reads.{lengths_of_gid}
use Rattle.stored_run.specs.Deliveries.{IsAmong, mark_at}
use Rattle.stored_run.specs.Steps.{Continues}
use Rattle.stored_run.specs.Views.{own_in}
use Rattle.stored_run.proofs.Doing.{continues_none, continues_on, continues_wider, did_nothing, grown_none, stores_none}
use Rattle.stored_run.proofs.Endings.{going_facts}
use Rattle.stored_run.proofs.FilledPieces.{filled_all, filled_none, filled_step, grown_step, lengths_step, unsettled_here}
use Rattle.stored_run.proofs.Parts.{grown_by, stores_part}
use Rattle.stored_run.proofs.run.StoredRun.count_filled.Goals as goal

pub loop-piece-init : goal.loop-piece-init
loop-piece-init g c =
    let d = g.D.Disk in
    let v = c.args.self.now in
    let gid = c.args.gid in
    let pr = c.pieces_of_run-first.ensures in
    let first = c.pieces_of_run-first.result.0 in
    let none : 0 ≡ first - first = omega arith in
    record {
      from = omega arith;
      to = omega (arith, pr.ordered);
      so = (
        [],
        filled_none (lengths_of_gid v.machine gid) (own_in v gid) c.args.run c.args.full.now first
            (λ p less is. let from = is.among.from in absurd (omega (arith, from, less, pr.first))),
        λ download added. did_nothing v.machine.past (d.faults v.disk) (d.faults v.disk) (omega arith),
      );
      on = subst (λ (k : ℕ). Continues k v v) none (continues_none v);
      going = c.requires.going;
      lengths = refl;
      untouched = refl;
      disk = λ told want is. stores_none c.runs_follow.ensures.give want (own_in v gid) (own_in v gid) (d.state v.disk)
          (c.tells_stored.ensures.wants_are.sound gid want is) (grown_none (own_in v gid));
    }

pub count_if_filled-requires-clause-unlisted : goal.count_if_filled-requires-clause-unlisted
count_if_filled-requires-clause-unlisted g c want kept =
    let v = c.args.self.now in
    let gid = c.args.gid in
    let facts = going_facts v.machine.start v.machine.past v.wants.items gid c.tells_stored.ensures.wants_are c.requires.going in
    subst (λ (w : Want). w.info_hash ≡ None)
    (same_Some facts.want want (sym (c.loop-piece.invariant.on.wants gid facts.want facts.kept) ∙ kept))
    (c.requires.unlisted facts.want facts.kept)

pub count_if_filled-requires-clause-piece : goal.count_if_filled-requires-clause-piece
count_if_filled-requires-clause-piece g c =
    let pr = c.pieces_of_run-first.ensures in
    let within = pr.within in
    subst (λ (k : PayloadLengths). c.loop-piece.piece < pieces_of k.total k.piece_len) (sym c.loop-piece.invariant.lengths)
    (omega (arith, c.loop-piece-test.true, within))

pub count_if_filled-requires-clause-unsettled : goal.count_if_filled-requires-clause-unsettled
count_if_filled-requires-clause-unsettled g c =
    let d = g.D.Disk in
    let v = c.args.self.now in
    let m = c.loop-piece.self in
    let was = c.loop-piece.invariant in
    let gid = c.args.gid in
    let run = c.args.run in
    let row = c.args.full.now in
    let place = c.loop-piece.piece in
    let first = c.pieces_of_run-first.result.0 in
    let pr = c.pieces_of_run-first.ensures in
    let l = lengths_of_gid v.machine gid in
    let test = c.loop-piece-test.true in
    let marked = c.is_marked-marked.result in
    let mark : mark_at l run row place ≡ marked =
    ap (λ k. slice_index_or row (place - k) false) (sym pr.first) ∙ sym c.is_marked-marked.ensures in
    let low = was.from in
    let among : IsAmong l run place = record {
      from = omega (arith, pr.first, low);
      to = omega (arith, pr.last, test);
    } in
    unsettled_here d.faults gid run row v m m place (place - first) marked was.on refl was.lengths among mark was.so
    c.requires.unsettled

pub count_if_filled-requires-clause-room : goal.count_if_filled-requires-clause-room
count_if_filled-requires-clause-room g c =
    let pr = c.pieces_of_run-first.ensures in
    let few = pr.few in
    let room = c.loop-piece.invariant.on.room in
    let low = c.loop-piece.invariant.from in
    omega (arith, few, room, low, c.loop-piece-test.true, c.requires.room)

pub is_marked-marked-requires : goal.is_marked-marked-requires
is_marked-marked-requires g c =
    let few = c.pieces_of_run-first.ensures.few in
    let low = c.loop-piece.invariant.from in
    omega (arith, few, low, c.loop-piece-test.true)

pub loop-piece-preserved : goal.loop-piece-preserved
loop-piece-preserved g c =
    let d = g.D.Disk in
    let v = c.args.self.now in
    let m = c.loop-piece.self in
    let was = c.loop-piece.invariant in
    let gid = c.args.gid in
    let run = c.args.run in
    let row = c.args.full.now in
    let place = c.loop-piece.piece in
    let first = c.pieces_of_run-first.result.0 in
    let pr = c.pieces_of_run-first.ensures in
    let l = lengths_of_gid v.machine gid in
    let test = c.loop-piece-test.true in
    let marked = c.is_marked-marked.result in
    let mark : mark_at l run row place ≡ marked =
    ap (λ k. slice_index_or row (place - k) false) (sym pr.first) ∙ sym c.is_marked-marked.ensures in
    let low = was.from in
    let among : IsAmong l run place = record {
      from = omega (arith, pr.first, low);
      to = omega (arith, pr.last, test);
    } in
    let n = c.count_if_filled.new.self in
    let told = c.count_if_filled.ensures in
    let next : place - first + 1 ≡ place + 1 - first = omega (arith, low) in
    let on = continues_on (place - first) 1 v m n was.on told.on in
    let facts = going_facts v.machine.start v.machine.past v.wants.items gid c.tells_stored.ensures.wants_are c.requires.going in
    let grown = grown_by (λ at. AllRightPhase at facts.has.download was.so.0) v m (place - first) (d.faults v.disk)
    (d.faults m.disk) Went was.on (was.so.2 facts.has.download facts.has.added) gid in
    record {
      from = omega (arith, low);
      to = omega (arith, test);
      so = filled_step d.faults gid run row v m n place (place - first) marked was.on told.on.start was.lengths among mark
          was.so c.count_if_filled.result told.counted told.same told.kept;
      on = subst (λ (k : ℕ). Continues k v n) next on;
      going = told.going;
      lengths = lengths_step d.faults gid run row v m n place (place - first) marked was.on told.on.start was.lengths among mark
          was.so c.count_if_filled.result told.counted told.same;
      untouched = told.untouched ∙ was.untouched;
      disk = λ is. stores_part d.tells (d.faults m.disk) v m n gid (place - first) (d.state v.disk) (d.state m.disk)
          (d.state n.disk) was.on grown
          (grown_step d.faults gid run row v m n place (place - first) marked was.on told.on.start was.lengths among mark was.so
          c.count_if_filled.result told.counted told.same told.on)
          c.tells_stored-in-loop-piece.ensures was.going is (was.disk is) (told.disk is);
    }

pub returns : goal.returns
returns g c =
    let d = g.D.Disk in
    let v = c.args.self.now in
    let m = c.loop-piece.self in
    let was = c.loop-piece.invariant in
    let gid = c.args.gid in
    let run = c.args.run in
    let row = c.args.full.now in
    let place = c.loop-piece.piece in
    let first = c.pieces_of_run-first.result.0 in
    let pr = c.pieces_of_run-first.ensures in
    let l = lengths_of_gid v.machine gid in
    let test = c.loop-piece-test.false in
    let few = pr.few in
    let top = was.to in
    record {
      did = λ download added. record {
        pieces = was.so.0;
        are = filled_all l (own_in v gid) (own_in m gid) run row place was.so.0 was.so.1 (omega (arith, pr.last, test));
        did = was.so.2 download added;
      };
      on = continues_wider (place - first) 64 v m (omega (arith, few, top)) was.on;
      going = was.going;
      disk = was.disk;
      untouched = was.untouched;
    }

pub overflow_add-piece-end : goal.overflow_add-piece-end
overflow_add-piece-end g c =
    let fits = c.pieces_of_run-first.ensures.fits in
    omega (arith, fits)
