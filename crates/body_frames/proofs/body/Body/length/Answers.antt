use Rattle.std.proofs.Common.{[], refl, inl}
use Rattle.body_frames.specs.Bodies.{Length, body_of}
use Rattle.body_frames.proofs.Law.{nothing_yet}
use Rattle.body_frames.proofs.body.Body.length.Goals as goal

pub returns-clause-fed : goal.returns-clause-fed
returns-clause-fed c = record { front = []; unused = []; later = body_of (Length c.args.n); means = c.length.ensures.means; used_all = inl refl; brings = λ more. refl }

pub returns-clause-nothing_yet : goal.returns-clause-nothing_yet
returns-clause-nothing_yet c = nothing_yet (Length c.args.n)
