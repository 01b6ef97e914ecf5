-- Streams that came on top.
use Rattle.std.proofs.Common.{◌≡◌, ◌+◌, List, [], ◌∷◌, ◌++◌, length, refl, ap, arith}
use Rattle.std.proofs.lemmas.List.Sums.{sum_by-append}
use Rattle.link_source.specs.Exchanges.{Exchange}
use Rattle.request_chain.specs.Chains.{Gains, received_by}

-- the newest one, and those before it
pub gains_last : (older : List Exchange) (before now : List Exchange) (newest : Exchange) → Gains before now (older ++ newest ∷ [])
    → (rest : List Exchange) × (now ≡ newest ∷ rest) × Gains before rest older
gains_last [] before now newest gains = (before, gains, refl)
gains_last (stream ∷ older) before now newest gains = gains_last older (stream ∷ before) now newest gains

pub gains_one : (older : List Exchange) (before now : List Exchange) (newest : Exchange) → Gains before now older → Gains before (newest ∷ now) (older ++ newest ∷ [])
gains_one [] before now newest gains = ap (λ streams. newest ∷ streams) gains
gains_one (stream ∷ older) before now newest gains = gains_one older (stream ∷ before) now newest gains

pub received_one : (older : List Exchange) (newest : Exchange) → received_by (older ++ newest ∷ []) ≡ received_by older + length newest.received
received_one older newest =
    let all = sum_by-append (λ (stream : Exchange). length stream.received) older (newest ∷ []) in
    omega (arith, all)
