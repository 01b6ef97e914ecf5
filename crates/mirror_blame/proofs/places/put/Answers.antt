use Rattle.std.proofs.Common.{◌≡◌, ap, ◌∙◌, rules}
use Rattle.std.specs.Prelude.{filter, insert}
use Rattle.mirror_blame.specs.Places.{stands_at}
use Rattle.mirror_blame.proofs.Runs.{filter-put}
use Rattle.mirror_blame.proofs.places.put.Goals as goal

pub returns-clause-each : goal.returns-clause-each
returns-clause-each c = λ piece.
    let items : c.insert.new.self.items ≡ insert c.args.places.now.items c.start_of-at.result c.args.new = search rules in
    ap (filter (stands_at piece)) items ∙ filter-put piece c.start_of-at.result c.args.new c.args.places.now.items (search rules) (search rules)
