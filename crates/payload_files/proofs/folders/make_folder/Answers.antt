use Rattle.std.proofs.Common.{List, ℕ, sym, subst}
use Rattle.std.specs.Prelude.{Contains}
use Rattle.payload_files.proofs.Keeping.{contains_cons}
use Rattle.payload_files.proofs.folders.make_folder.Goals as goal

pub returns-in_ok-make_dir-in-Some-clause-stay : goal.returns-in_ok-make_dir-in-Some-clause-stay
returns-in_ok-make_dir-in-Some-clause-stay g c told folder has =
    subst (λ (folders : List (List ℕ)). Contains folders folder) (sym (rw c.in_ok-make_dir-in-Some.was at (c.make_dir.ensures.made told).made))
    (contains_cons (g.D.Disk.state c.args.disk.now).folders _ folder has)
