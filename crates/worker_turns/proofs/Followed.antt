-- What the answer of a turn leaves of the hand.
use Rattle.std.proofs.Common.{Bool}
use Rattle.dl_kinds.specs.declared.gid.Gid.{Gid}
use Rattle.engine_turns.specs.declared.operations.Grant.{Grant}
use Rattle.engine_turns.specs.declared.operations.Said.{Said}
use Rattle.engine_turns.specs.declared.operations.Said.TheVariants as said
use Rattle.verify_piece.specs.Seals.{PieceBytes}
use Rattle.conn_worker.specs.Hands.{Fetching, Hand, Nothing, Fetches, Probes, Seals, LinkAt, Probing}
use Rattle.conn_worker.specs.Sound.{NoGrant}
use Rattle.conn_worker.specs.Table.{FollowsAnswer, FollowsFetch, FollowsGrant, HangsUp, LeavesNothing}

-- by what the answer of a turn leaves of the hand, without a grant
pub fetch_followed : (tells : Bool) (f : Fetching) (answer : Said) (link : LinkAt) (hand' : Hand) (link' : LinkAt)
    → NoGrant answer → FollowsAnswer tells (Fetches f) answer link hand' link'
    → FollowsFetch tells f f.gain answer link hand' link'
fetch_followed tells f (said.Grant granted) link hand' link' none is = absurd none
fetch_followed tells f answer link hand' link' none is = is

pub nothing_followed : (tells : Bool) (answer : Said) (link : LinkAt) (hand' : Hand) (link' : LinkAt)
    → NoGrant answer → FollowsAnswer tells Nothing answer link hand' link' → HangsUp tells link hand' link'
nothing_followed tells (said.Grant granted) link hand' link' none is = absurd none
nothing_followed tells answer link hand' link' none is = is

pub probe_followed : (tells : Bool) (p : Probing) (answer : Said) (link : LinkAt) (hand' : Hand) (link' : LinkAt)
    → NoGrant answer → FollowsAnswer tells (Probes p) answer link hand' link' → LeavesNothing link hand' link'
probe_followed tells p (said.Grant granted) link hand' link' none is = absurd none
probe_followed tells p answer link hand' link' none is = is

pub seal_followed : (tells : Bool) (gid : Gid) (sealed : PieceBytes) (answer : Said) (link : LinkAt) (hand' : Hand)
    (link' : LinkAt) → NoGrant answer → FollowsAnswer tells (Seals gid sealed) answer link hand' link'
    → LeavesNothing link hand' link'
seal_followed tells gid sealed (said.Grant granted) link hand' link' none is = absurd none
seal_followed tells gid sealed answer link hand' link' none is = is

pub grant_followed : (tells : Bool) (hand : Hand) (granted : Grant) (now : LinkAt) (hand' : Hand) (link' : LinkAt)
    → FollowsAnswer tells hand (said.Grant granted) now hand' link' → FollowsGrant tells granted now hand' link'
grant_followed tells Nothing granted now hand' link' is = is
grant_followed tells (Fetches f) granted now hand' link' is = is
grant_followed tells (Probes p) granted now hand' link' is = is
grant_followed tells (Seals gid sealed) granted now hand' link' is = is
