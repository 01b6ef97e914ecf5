use Rattle.std.proofs.Common.{◌≡◌, ◌∙◌, ◌+◌, ◌++◌, ◌∷◌, [], List, ap, sym, ℕ, arith}
use Rattle.load_setup.specs.Payload.{piece_in, pieces_in}
use Rattle.load_setup.proofs.Groups.{pieces_more, pieces_none}
use Rattle.load_setup.proofs.counting.group_in.Goals as goal

pub loop-place-init : goal.loop-place-init
loop-place-init c = c.in_ok-pieces.ensures.items ∙ sym (pieces_none c.args.payload.now c.args.first)

pub loop-place-preserved : goal.loop-place-preserved
loop-place-preserved c =
    let payload = c.args.payload.now in
    let first = c.args.first in
    let place = c.loop-place.place in
    let piece = c.in_ok-of.ensures ∙ c.piece_in.ensures in
    c.in_ok-push.ensures.items
    ∙ ap (λ (b : List ℕ). c.loop-place.pieces.items ++ b ∷ []) piece
    ∙ ap (λ (bs : List (List ℕ)). bs ++ piece_in payload (first + place) ∷ []) c.loop-place.invariant
    ∙ sym (pieces_more payload first place)

pub returns : goal.returns
returns c =
    let all : c.loop-place.place ≡ 16 = omega arith in
    c.loop-place.invariant ∙ ap (pieces_in c.args.payload.now c.args.first) all
