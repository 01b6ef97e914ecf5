use Rattle.std.proofs.Common.{◌≡◌, ◌∙◌, List, ℕ, arith, inl, inr, refl, subst, sym, true, false}
use Rattle.std.proofs.lemmas.Slice.Eq.{bytes_eq-Decides}
use Rattle.stored_run.specs.Settlings.{ReadsPieceOf}
use Rattle.stored_run.specs.Views.{own_in}
use Rattle.stored_run.proofs.Doing.{continues_none, continues_wider, ends_stored, grown_none, stores_none}
use Rattle.stored_run.proofs.Left.{going_left}
use Rattle.stored_run.proofs.Unchecked.{checks_still}
use Rattle.stored_run.proofs.run.StoredRun.settle_if_same.Goals as goal

pub settle_sealed-requires-clause-read : goal.settle_sealed-requires-clause-read
settle_sealed-requires-clause-read g c told =
    let d = g.D.Disk in
    let v = c.args.self.now in
    let same = (bytes_eq-Decides c.args.bytes.now c.args.sealed.now.bytes).0
    (sym c.are_sealed.ensures ∙ c.if-are_sealed.true) in
    subst (λ (bytes : List ℕ). ReadsPieceOf v c.args.gid c.args.sealed.now.piece (d.state v.disk).seen bytes) same
    (c.requires.read told)

pub returns-then-are_sealed-clause-came : goal.returns-then-are_sealed-clause-came
returns-then-are_sealed-clause-came g c download added =
    inr (
      (bytes_eq-Decides c.args.bytes.now c.args.sealed.now.bytes).0 (sym c.are_sealed.ensures ∙ c.if-are_sealed.true),
      (c.settle_sealed.result, c.done_unless_starved.ensures, c.settle_sealed.ensures.did download added),
    )

pub returns-else-are_sealed-clause-came : goal.returns-else-are_sealed-clause-came
returns-else-are_sealed-clause-came g c download added =
    inl (
      λ same.
          let is = (bytes_eq-Decides c.args.bytes.now c.args.sealed.now.bytes).1 same in
          absurd (let f : true ≡ false = sym is ∙ (sym c.are_sealed.ensures ∙ c.if-are_sealed.false) in cc),
      refl,
      refl,
    )

pub returns-else-are_sealed-clause-on : goal.returns-else-are_sealed-clause-on
returns-else-are_sealed-clause-on g c =
    continues_wider 0 6 c.args.self.now c.args.self.now (omega arith) (continues_none c.args.self.now)

pub returns-else-are_sealed-clause-disk : goal.returns-else-are_sealed-clause-disk
returns-else-are_sealed-clause-disk g c told want is =
    let v = c.args.self.now in
    let own = own_in v c.args.gid in
    let disk = g.D.Disk.state v.disk in
    ends_stored want own own disk disk
    (stores_none c.runs_follow.ensures.give want own own disk (c.tells_stored.ensures.wants_are.sound c.args.gid want is)
    (grown_none own))

pub returns-else-are_sealed-clause-left : goal.returns-else-are_sealed-clause-left
returns-else-are_sealed-clause-left g c told =
    let d = g.D.Disk in
    let v = c.args.self.now in
    going_left c.runs_follow.ensures d.tells (d.faults v.disk) (d.state v.disk) v.machine.start v.machine.past v.wants.items
    v.now c.args.gid c.tells_stored.ensures told c.requires.going

pub returns-else-are_sealed-clause-checks : goal.returns-else-are_sealed-clause-checks
returns-else-are_sealed-clause-checks g c told =
    let v = c.args.self.now in checks_still c.args.gid v v (g.D.Disk.state v.disk).seen refl
