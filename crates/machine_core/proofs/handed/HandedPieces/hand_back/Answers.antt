use Rattle.std.proofs.Common.{◌≡◌, ap, ◌∙◌, rules}
use Rattle.std.specs.Prelude.{filter, not}
use Rattle.std.proofs.lemmas.Fn.{filter_same}
use Rattle.machine_core.specs.Offers.{HandedList, is_handed}
use Rattle.machine_core.specs.declared.handed.Handed.{Handed}
use Rattle.machine_core.proofs.handed.HandedPieces.hand_back.Goals as goal

pub returns-clause-pieces : goal.returns-clause-pieces
returns-clause-pieces c =
    let filtered : c.retain.new.self.items ≡ filter (λ (handed : Handed). not (is_handed c.args.gid c.args.piece handed)) c.self.inside.pieces.items =
    filter_same _ _ _ (λ x b f' k. search rules) _ _ c.retain.ensures.filtered in
    filtered
    ∙ ap (λ (h : HandedList). filter (λ (handed : Handed). not (is_handed c.args.gid c.args.piece handed)) h.pieces) c.self.view_is
