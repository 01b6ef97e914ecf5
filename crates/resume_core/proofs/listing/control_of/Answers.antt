use Rattle.std.proofs.Common.{◌∙◌, ℕ, List, length, ap}
use Rattle.resume_core.proofs.Listings.{lists_just}
use Rattle.resume_core.proofs.listing.control_of.Goals as goal

pub returns : goal.returns
returns c = rw c.in_ok-copy.ensures
    (lists_just c.args.want.now c.requires.want c.args.verified.now c.args.listed.now c.ext_of.result
    c.in_ok-hash_blob.field-0 c.in_ok-flight_of.field-0 c.requires.rows c.ext_of.ensures.bit
    (ap (λ (hash : List ℕ). length hash) c.in_ok-hash_blob.ensures ∙ c.ext_of.ensures.len) c.in_ok-hash_blob.ensures c.in_ok-flight_of.ensures)
