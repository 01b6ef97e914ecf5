use Rattle.std.proofs.Common.{◌<◌, sym, arith, length}
use Rattle.load_setup.proofs.Texts.{joined_more, none_within}
use Rattle.load_setup.proofs.torrent.add_digests.Goals as goal
use Rattle.load_setup.proofs.torrent.add_digests.Goals.{in-Some+in_ok-extend_from_slice, in_default}

pub loop-place-preserved : goal.loop-place-preserved
loop-place-preserved c =
    let digests = c.args.digests.now in
    let place = c.loop-place.place in
    let within : place < length digests = omega (arith, c.loop-place-test.true, c.len-place-end.ensures) in
    elim c.match-get.branch [
      | in-Some+in_ok-extend_from_slice w ↦ rw w.text-is
          (joined_more c.args.text.now.items c.loop-place.text.items _ digests place w.in-Some.digest.now (sym w.in-Some.ensures)
          c.loop-place.invariant w.in_ok-extend_from_slice.ensures.items)
      | in_default w ↦ absurd (none_within digests place within (sym w.in_default.ensures))
    ]
