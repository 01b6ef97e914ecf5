use Rattle.std.proofs.Common.{◌≡◌, ◌*◌, length, ap, arith}
use Rattle.dl_kinds.specs.Plan.{pieces_of}
use Rattle.meta_v2.proofs.Hashing.{hashes_count}
use Rattle.meta_v2.proofs.layers.long_layer.Goals as goal

pub root_fits-requires-clause-few : goal.root_fits-requires-clause-few
root_fits-requires-clause-few c =
    let pieces = pieces_of c.args.entry.now.len c.args.piece_len in
    let long : length c.args.text.now ≡ 32 * pieces = omega (arith, c.if-text-pieces_of.false, c.pieces_of.ensures) in
    omega (arith, ap length c.in_ok-hashes_in.ensures, hashes_count c.args.text.now pieces long, c.requires.few)
