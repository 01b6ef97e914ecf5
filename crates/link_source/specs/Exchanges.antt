-- What a link gave and took, one exchange for each request that was sent (RFC 9112 sections 9.3 and 9.3.1).
use Rattle.std.specs.Prelude.{◌≡◌, ℕ, Bool, true, false, List, [], ◌∷◌, ◌++◌, take, drop}

-- A request to a host and a port, and what the link gave from it on, up to the next request.
pub record Exchange : Type 0 where
  pub host : List ℕ
  pub port : ℕ
  pub request : List ℕ
  pub received : List ℕ
  -- the end was told
  pub ended : Bool
  -- the request was the first one of its connection
  pub fresh : Bool

-- an exchange whose request was just sent
abbrev pub begun : List ℕ → ℕ → List ℕ → Bool → Exchange
begun host port request fresh =
    record { host = host; port = port; request = request; received = []; ended = false; fresh = fresh }

-- the newest exchange has received this too; none of it tells the end
abbrev pub with_received : List ℕ → List Exchange → List Exchange
with_received bytes [] = []
with_received [] (exchange ∷ older) = record exchange { ended = true } ∷ older
with_received (byte ∷ bytes) (exchange ∷ older) =
    record exchange { received = exchange.received ++ byte ∷ bytes } ∷ older

-- so many bytes of what was due came, and none only where nothing was due
pub record TakesDue (due : List ℕ) (count : ℕ) (came new_due : List ℕ) : Type 0 where
  pub bytes : take count came ≡ take count due
  pub rest : new_due ≡ drop count due
  pub end : count ≡ 0 → due ≡ []
