-- Exchanges that came on top, and how many bytes they received.
use Rattle.std.proofs.Common.{◌≡◌, ◌+◌, ◌≤◌, List, [], ◌∷◌, ◌++◌, length, refl, sym, ap, subst, arith}
use Rattle.std.proofs.lemmas.List.Sums.{sum_by-append}
use Rattle.link_source.specs.Exchanges.{Exchange}
use Rattle.request_chain.specs.Chains.{Gains, received_by}

-- the newest one, and those before it
pub gains_last : (older : List Exchange) (before now : List Exchange) (newest : Exchange) → Gains before now (older ++ newest ∷ [])
    → (rest : List Exchange) × (now ≡ newest ∷ rest) × Gains before rest older
gains_last [] before now newest gains = (before, gains, refl)
gains_last (stream ∷ older) before now newest gains = gains_last older (stream ∷ before) now newest gains

pub gains_one : (older : List Exchange) (before now : List Exchange) (newest : Exchange) → Gains before now older → Gains before (newest ∷ now) (older ++ newest ∷ [])
gains_one [] before now newest gains = ap (λ streams. newest ∷ streams) gains
gains_one (stream ∷ older) before now newest gains = gains_one older (stream ∷ before) now newest gains

pub received_one : (older : List Exchange) (newest : Exchange) → received_by (older ++ newest ∷ []) ≡ received_by older + length newest.received
received_one older newest =
    let all = sum_by-append (λ (stream : Exchange). length stream.received) older (newest ∷ []) in
    omega (arith, all)

-- those before are no more than those now
pub gains_more : (before now used : List Exchange) → Gains before now used → length before ≤ length now
gains_more before now [] gains = omega (arith, ap length gains)
gains_more before now (stream ∷ used) gains = omega (arith, gains_more (stream ∷ before) now used gains)

pub same_gains : (before now new used : List Exchange) → new ≡ now → Gains before now used → Gains before new used
same_gains before now new used same gains = subst (λ streams. Gains before streams used) (sym same) gains

-- one more came
pub more_gains : (before now new used : List Exchange) (newest : Exchange) → new ≡ newest ∷ now → Gains before now used
    → Gains before new (used ++ newest ∷ [])
more_gains before now new used newest on_top gains =
    same_gains before (newest ∷ now) new (used ++ newest ∷ []) on_top (gains_one used before now newest gains)

-- the newest one is another now
pub newest_gains : (before now new older : List Exchange) (was newest : Exchange) → ((others : List Exchange) → now ≡ was ∷ others → new ≡ newest ∷ others)
    → Gains before now (older ++ was ∷ []) → Gains before new (older ++ newest ∷ [])
newest_gains before now new older was newest changed gains =
    let top = gains_last older before now was gains in
    more_gains before top.0 new older newest (changed top.0 top.1) top.2
