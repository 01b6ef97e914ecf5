use Rattle.std.proofs.Common.{◌∙◌, List, ℕ, length, ap, sym}
use Rattle.control_file.proofs.Behind.{listed_digests}
use Rattle.control_file.proofs.want.Want.has_digests.Goals as goal

pub returns-in-Some : goal.returns-in-Some
returns-in-Some c =
    let want = c.args.self.now in
    let both = listed_digests want.plan.pieces want.info_hash c.in-Some.hash want.digests c.in-Some.is in (
      λ is. both.0 (rw c.as_slice.ensures at c.are_digests.ensures.0 is),
      λ are. c.are_digests.ensures.1 (rw c.as_slice.ensures (both.1 are)),
    )
