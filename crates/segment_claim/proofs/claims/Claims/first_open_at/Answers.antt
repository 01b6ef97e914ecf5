use Rattle.std.proofs.Common.{◌≡◌, ◌<◌, ◌≤◌, length, refl, sym, ap, ◌∙◌, arith}
use Rattle.std.specs.Prelude.{Contains}
use Rattle.std.proofs.lemmas.Option.{slice_get_read, slice_get_past}
use Rattle.dl_kinds.specs.Plan.{pieces_of}
use Rattle.segment_claim.specs.Book.{ClaimBook}
use Rattle.segment_claim.proofs.Standing.{full_where_stands, closed_same}
use Rattle.segment_claim.proofs.claims.Claims.first_open_at.Goals as goal

pub returns : goal.returns
returns c =
    let inside = c.self.inside in
    let claim = c.index.result.now in
    let many : c.standing.result ≡ length inside.standing.items =
    c.standing.ensures.len ∙ ap (λ (b : ClaimBook). length b.standing) (sym c.self.view_is) in
    let here : c.args.place < length inside.standing.items = let f = c.if-place-standing.false in omega arith in
    let stands : Contains inside.standing.items claim = (c.args.place, here, sym c.index.ensures) in
    let full : length inside.closed.items ≡ pieces_of inside.plan.total inside.plan.piece_len =
    full_where_stands _ _ inside.next inside.standing.items inside.closed.items claim c.self.invariant stands in
    let same = closed_same inside.plan.pieces inside.closed.items (full ∙ sym inside.plan.pieces_are) in
    let found = slice_get_read inside.standing.items (length inside.standing.items) c.args.place claim refl here
    c.index.ensures in
    rw (← c.self.view_is, same, found, ← c.blocks-2.ensures.row, ← c.deref.ensures.value) c.first_open.ensures

pub returns-then-place-standing : goal.returns-then-place-standing
returns-then-place-standing c =
    let beyond : length c.args.self.now.standing ≤ c.args.place =
    let t = c.if-place-standing.true in let l = c.standing.ensures.len in omega arith in
    rw (slice_get_past c.args.self.now.standing c.args.place beyond) refl
