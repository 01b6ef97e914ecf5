use Rattle.std.proofs.Common.{◌≡◌, ◌∙◌, ◌++◌, ◌∷◌, [], List, ap, sym, ℕ, arith}
use Rattle.sha1.specs.Sha1.{sha1}
use Rattle.load_setup.specs.Payload.{piece_digests, load_piece}
use Rattle.load_setup.proofs.Groups.{digests_more, digests_none}
use Rattle.load_setup.proofs.payload.load_digests.Goals as goal

pub loop-piece-init : goal.loop-piece-init
loop-piece-init c = c.new-digests.ensures ∙ sym (digests_none c.args.n)

pub loop-piece-preserved : goal.loop-piece-preserved
loop-piece-preserved c =
    let n = c.args.n in
    let piece = c.loop-piece.piece in
    c.in_ok-push.ensures.ok
    ∙ ap (λ (d : List ℕ). c.loop-piece.digests ++ d ∷ []) c.in_ok-digest_of.ensures
    ∙ ap (λ (ds : List (List ℕ)). ds ++ sha1 (load_piece n piece) ∷ []) c.loop-piece.invariant
    ∙ sym (digests_more n piece)

pub returns : goal.returns
returns c =
    let all : c.loop-piece.piece ≡ 64 = omega arith in
    c.loop-piece.invariant ∙ ap (piece_digests c.args.n) all
