-- Tokens: a first parameter `token:SECRET` (aria2 manual, "RPC authorization secret token").
use Rattle.std.specs.Prelude.{ℕ, ◌&&◌, List, [], ◌∷◌, Bool, true, false, codes, bytes_eq, nat_eq, drop, Option, Some, None, unwrap_or, option_map}
use Rattle.std.specs.List.{starts_with}
use Rattle.serde_json.specs.Data.{Data}
use Rattle.serde_json.specs.Find.{as_str}

-- the text is `token:` and the secret
abbrev pub tells_secret : List ℕ → List ℕ → Bool
tells_secret secret text = starts_with nat_eq text (codes "token:") && bytes_eq (drop 6 text) secret

-- the first parameter is this token
abbrev pub has_token : List ℕ → List Data → Bool
has_token secret [] = false
has_token secret (d ∷ ds) = unwrap_or (option_map (tells_secret secret) (as_str d)) false

-- Where a secret is set, it is told. An object as parameters has no first one, and tells none.
abbrev pub is_authorized : Option (List ℕ) → Option (List Data) → Bool
is_authorized None params = true
is_authorized (Some secret) None = false
is_authorized (Some secret) (Some params) = has_token secret params
