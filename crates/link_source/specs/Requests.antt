-- How a mirror is asked for a part of a resource (RFC 9112 sections 2.1 and 3, RFC 9110 section 14.2).
use Rattle.std.specs.Prelude.{◌≡◌, ◌≤◌, ◌<◌, ◌^◌, ℕ, List, [], ◌++◌, codes}
use Rattle.std.specs.Fmt.{decimal}
use Rattle.link_source.specs.Endpoint.{host_value}

-- a line of a head, which ends in CR LF
abbrev pub ended_line : List ℕ → List ℕ
ended_line text = text ++ codes "\r\n"

-- a request for the bytes from first to last of a target
unfoldable pub request_of : List ℕ → List ℕ → ℕ → ℕ → List ℕ
request_of host target first last =
    ended_line (codes "GET " ++ target ++ codes " HTTP/1.1")
    ++ ended_line (codes "Host: " ++ host)
    ++ ended_line (codes "User-Agent: aria_cli")
    ++ ended_line (codes "Accept: */*")
    ++ ended_line (codes "Accept-Encoding: identity")
    ++ ended_line (codes "Range: bytes=" ++ decimal first ++ codes "-" ++ decimal last)
    ++ ended_line []

-- the bytes are such a request of a host and a port
pub record Asks (host : List ℕ) (port : ℕ) (target : List ℕ) (first last : ℕ) (bytes : List ℕ) : Type 0 where
  pub text : bytes ≡ request_of (host_value host port) target first last
  pub ordered : first ≤ last
  pub bounded : last < 2 ^ 64

-- nothing else is asked by the same bytes
abbrev pub AsksOnce : Type 0
AsksOnce = (host : List ℕ) (port : ℕ) (bytes target other_target : List ℕ) (first last other_first other_last : ℕ)
    → Asks host port target first last bytes → Asks host port other_target other_first other_last bytes
    → (target ≡ other_target) × (first ≡ other_first) × (last ≡ other_last)
