use Rattle.std.proofs.Common.{ℕ, true}
use Rattle.dl_disk.specs.Files.{IsSame, TornResize}
use Rattle.payload_repair.specs.Mends.{LengthensFile}
use Rattle.payload_repair.proofs.MendLemmas.{file_same, file_none, file_on, file_stretched}
use Rattle.payload_repair.proofs.StepLemmas.{steps_on, steps_wider, steps_alters}
use Rattle.payload_repair.proofs.writing.fit_file.Goals as goal

pub returns-in_err-make_folder-clause-steps : goal.returns-in_err-make_folder-clause-steps
returns-in_err-make_folder-clause-steps g c told =
    steps_wider IsSame (LengthensFile c.args.name.now c.args.len) (g.D.Disk.state c.args.disk.now) (g.D.Disk.state c.make_folder.new.disk)
    (file_same c.args.name.now c.args.len true (λ (i : ℕ). ⊥)) (c.make_folder.ensures.steps told)

pub returns-clause-steps : goal.returns-clause-steps
returns-clause-steps g c told =
    let d = g.D.Disk in
    let name = c.args.name.now in
    let len = c.args.len in
    let W : ℕ → Type 0 = λ i. ⊥ in
    steps_on IsSame (LengthensFile name len) (LengthensFile name len) (d.state c.args.disk.now) (d.state c.make_folder.new.disk) (d.state c.set_len.new.self)
    (file_same name len true W) (λ x y z one two. file_on name len true W x y z (file_same name len true W x y one) two)
    (c.make_folder.ensures.steps told)
    (steps_alters (TornResize name len) (LengthensFile name len) (d.state c.make_folder.new.disk) (d.state c.set_len.new.self) c.set_len.result
    (file_none name len true W) (file_stretched name len W) (c.set_len.ensures.alters told))
