use Rattle.std.proofs.Common.{◌≡◌, ◌∙◌, subst, List, ℕ, [], ◌∷◌}
use Rattle.dl_disk.specs.Files.{TornResize}
use Rattle.dl_disk.specs.Passes.{Performs, performs_wider}
use Rattle.payload_files.specs.Names.{name_of}
use Rattle.payload_files.specs.Changes.{Stretches}
use Rattle.payload_files.proofs.Lengths.{alone_one, stretches_one}
use Rattle.payload_files.proofs.fitting.fit_file.Goals as goal

pub returns-clause-performs : goal.returns-clause-performs
returns-clause-performs g c told =
    let d = g.D.Disk in
    let dir = c.args.dir.now in
    let file = c.args.file.now in
    let named : c.as_str.result.now ≡ name_of dir file.path = c.as_str.ensures.value ∙ c.in_ok-name.ensures in
    performs_wider (TornResize (name_of dir file.path) file.len) (Stretches dir (file ∷ [])) (d.state c.args.disk.now) (d.state c.fit_named.new.disk)
    (stretches_one dir file)
    (subst (λ (name : List ℕ). Performs (TornResize name file.len) (d.state c.args.disk.now) (d.state c.fit_named.new.disk)) named (c.fit_named.ensures.performs told))

pub returns-clause-alone : goal.returns-clause-alone
returns-clause-alone g c told =
    let d = g.D.Disk in
    alone_one c.args.dir.now c.args.file.now (d.state c.args.disk.now) (d.state c.fit_named.new.disk)
    (rw (c.as_str.ensures.value, c.in_ok-name.ensures) at c.fit_named.ensures.alone told)
