-- Laws of the requests in the bytes of a connection, as far as they have come.
use Rattle.std.specs.Prelude.{◌≡◌, ℕ, ◌≤◌, true, false, List, [], ◌∷◌, ◌++◌, length, drop}
use Rattle.request_stream.specs.Requests.{Request, is_last, IsOneRequest}
use Rattle.request_stream.specs.Streams.{HasNoWholeRequest, AreRequests, AreFront}

-- bytes begin with one request at most
abbrev pub HasOneRequest : Type 0
HasOneRequest = (most : ℕ) (bytes : List ℕ) (request other : Request) (used more : ℕ)
    → IsOneRequest most bytes request used → IsOneRequest most bytes other more → (request ≡ other) × (used ≡ more)

-- a whole request stays, whatever follows
abbrev pub RequestStays : Type 0
RequestStays = (most : ℕ) (bytes more : List ℕ) (request : Request) (used : ℕ)
    → IsOneRequest most bytes request used → IsOneRequest most (bytes ++ more) request used

abbrev pub RequestIsWithin : Type 0
RequestIsWithin = (most : ℕ) (bytes : List ℕ) (request : Request) (used : ℕ)
    → IsOneRequest most bytes request used → used ≤ length bytes

-- ---- lists of requests

-- bytes have one list of requests
abbrev pub HasOneListOfRequests : Type 0
HasOneListOfRequests = (most : ℕ) (bytes : List ℕ) (requests others : List Request)
    → AreRequests most bytes requests → AreRequests most bytes others → requests ≡ others

-- one request more was read
abbrev pub FrontGoesOn : Type 0
FrontGoesOn = (most : ℕ) (bytes : List ℕ) (requests : List Request) (rest : List ℕ) (request : Request) (used : ℕ)
    → AreFront most bytes requests rest → IsOneRequest most rest request used → is_last request ≡ false
    → AreFront most bytes (requests ++ request ∷ []) (drop used rest)

-- more bytes came
abbrev pub FrontTakesMore : Type 0
FrontTakesMore = (most : ℕ) (bytes : List ℕ) (requests : List Request) (rest more : List ℕ)
    → AreFront most bytes requests rest → AreFront most (bytes ++ more) requests (rest ++ more)

-- these are all, where no whole request stands in the rest
abbrev pub FrontEnds : Type 0
FrontEnds = (most : ℕ) (bytes : List ℕ) (requests : List Request) (rest : List ℕ)
    → AreFront most bytes requests rest → HasNoWholeRequest most rest → AreRequests most bytes requests

-- these are all, with the last one of the connection behind them
abbrev pub FrontEndsWithLast : Type 0
FrontEndsWithLast = (most : ℕ) (bytes : List ℕ) (requests : List Request) (rest : List ℕ) (request : Request) (used : ℕ)
    → AreFront most bytes requests rest → IsOneRequest most rest request used → is_last request ≡ true
    → AreRequests most bytes (requests ++ request ∷ [])
