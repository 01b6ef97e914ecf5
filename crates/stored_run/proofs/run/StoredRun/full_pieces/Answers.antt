use Rattle.std.proofs.Common.{◌≡◌, ◌≢◌, ◌-◌, ◌<◌, ◌∙◌, ℕ, Bool, List, false, ap, arith, get_or, get_or-set_other, get_or-set_same, ⊎_elim, length, subst, sym}
use Rattle.std.specs.Prelude.{◌↔◌, IsTrue}
use Rattle.std.proofs.lemmas.Bool.{cases_eq}
use Rattle.std.proofs.lemmas.List.{length-set}
use Rattle.dl_history.specs.HistoryLaws.{IsFullIn}
use Rattle.machine_core.specs.Reads.{lengths_of_gid}
use Rattle.stored_run.specs.Deliveries.{first_piece, mark_at}
use Rattle.stored_run.specs.Views.{own_in}
use Rattle.stored_run.proofs.run.StoredRun.full_pieces.Goals as goal

pub is_full-is_full-requires-clause-piece : goal.is_full-is_full-requires-clause-piece
is_full-is_full-requires-clause-piece g c =
    let within = c.pieces_of_run-first.ensures.within in
    omega (arith, within, c.loop-piece-test.true)

pub mark-requires : goal.mark-requires
mark-requires g c =
    let few = c.pieces_of_run-first.ensures.few in
    let low = c.loop-piece.invariant.from in
    omega (arith, few, low, c.loop-piece-test.true)

pub overflow_add-piece-end : goal.overflow_add-piece-end
overflow_add-piece-end g c =
    let fits = c.pieces_of_run-first.ensures.fits in
    omega (arith, fits)

pub loop-piece-preserved : goal.loop-piece-preserved
loop-piece-preserved g c =
    let v = c.args.self.now in
    let gid = c.args.gid in
    let run = c.args.run in
    let l = lengths_of_gid v.machine gid in
    let was = c.loop-piece.invariant in
    let place = c.loop-piece.piece in
    let first = c.pieces_of_run-first.result.0 in
    let pr = c.pieces_of_run-first.ensures in
    let row = c.loop-piece.full in
    let low = was.from in
    let within : place - first < length row = omega (arith, pr.few, low, c.loop-piece-test.true, was.many) in
    let set_is = c.mark.ensures in
    record {
      from = omega (arith, low);
      many = ap length set_is ∙ (length-set row (place - first) c.is_full-is_full.result ∙ was.many);
      told = λ p from below. ⊎_elim
          (λ (here : p ≡ place).
          let at : p - first_piece l run ≡ place - first = omega (arith, here, pr.first) in
          let bit : mark_at l run c.mark.new.full p ≡ c.is_full-is_full.result =
          ap (λ (k : ℕ). get_or c.mark.new.full k false) at
          ∙ (ap (λ (xs : List Bool). get_or xs (place - first) false) set_is
          ∙ get_or-set_same row (place - first) c.is_full-is_full.result false within) in
          subst (λ (q : ℕ). IsTrue (mark_at l run c.mark.new.full p) ↔ IsFullIn l.total l.piece_len (own_in v gid) q)
          (sym here)
          (subst (λ (b : Bool). IsTrue b ↔ IsFullIn l.total l.piece_len (own_in v gid) place) (sym bit)
          c.is_full-is_full.ensures))
          (λ (other : p ≢ place).
          let apart : (p - first_piece l run ≡ place - first → ⊥) =
          λ is. other (omega (arith, is, from, low, pr.first)) in
          let bit : mark_at l run c.mark.new.full p ≡ mark_at l run row p =
          ap (λ (xs : List Bool). get_or xs (p - first_piece l run) false) set_is
          ∙ get_or-set_other row (place - first) (p - first_piece l run) c.is_full-is_full.result false apart in
          subst (λ (b : Bool). IsTrue b ↔ IsFullIn l.total l.piece_len (own_in v gid) p) (sym bit)
          (was.told p from (omega (arith, below, other))))
          (cases_eq p place);
    }

pub returns : goal.returns
returns g c piece among =
    let pr = c.pieces_of_run-first.ensures in
    let to = among.to in
    c.loop-piece.invariant.told piece among.from (omega (arith, to, pr.last, c.loop-piece-test.false))
