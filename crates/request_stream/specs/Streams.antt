-- The requests in the bytes of a connection (RFC 9112 section 9.3).
use Rattle.std.specs.Prelude.{◌≡◌, ◌⊎◌, ℕ, true, false, List, [], ◌∷◌, drop}
use Rattle.request_stream.specs.Requests.{Request, is_last, IsOneRequest}

-- no whole request stands at the front
abbrev pub HasNoWholeRequest : ℕ → List ℕ → Type 0
HasNoWholeRequest most bytes = (request : Request) (used : ℕ) → IsOneRequest most bytes request used → ⊥

-- these, up to the last one of the connection, or to what is no whole request
abbrev pub AreRequests : ℕ → List ℕ → List Request → Type 0
AreRequests most bytes [] = HasNoWholeRequest most bytes
AreRequests most bytes (request ∷ requests) =
    (used : ℕ) × IsOneRequest most bytes request used
    × (((is_last request ≡ true) × (requests ≡ []))
    ⊎ ((is_last request ≡ false) × AreRequests most (drop used bytes) requests))

-- these stand in front of the rest, and none of them is the last one of the connection
abbrev pub AreFront : ℕ → List ℕ → List Request → List ℕ → Type 0
AreFront most bytes [] rest = bytes ≡ rest
AreFront most bytes (request ∷ requests) rest =
    (used : ℕ) × IsOneRequest most bytes request used × (is_last request ≡ false)
    × AreFront most (drop used bytes) requests rest
