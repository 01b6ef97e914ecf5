use Rattle.std.proofs.Common.{[], refl, inl}
use Rattle.body_frames.specs.Bodies.{Chunked, body_of}
use Rattle.body_frames.proofs.Law.{nothing_yet}
use Rattle.body_frames.proofs.body.Body.chunked.Goals as goal

pub returns-clause-fed : goal.returns-clause-fed
returns-clause-fed c = record { front = []; unused = []; later = body_of Chunked; means = ([], c.new.ensures, λ more. refl); used_all = inl refl; brings = λ more. refl }

pub returns-clause-nothing_yet : goal.returns-clause-nothing_yet
returns-clause-nothing_yet c = nothing_yet Chunked
