-- The hosts of mirrors, and their numbers (aria2 manual, `--max-connection-per-server`).
use Rattle.std.specs.Prelude.{ℕ, None, Result, Ok, Err, List, [], ◌∷◌, ◌++◌, map, if◌then◌else◌}
use Rattle.std.specs.List.{list_any, position_or_len}
use Rattle.std.specs.Str.{bytes_eq}
use Rattle.link_source.specs.Endpoint.{endpoint_of}
use Rattle.url.specs.Parser.{parse_url}
use Rattle.url.specs.Parts.{Parts}

-- the text of a URL's host; the port doesn't count
abbrev pub host_by : {E : Type 0} → Result Parts E → List ℕ
host_by (Ok url) = (endpoint_of url).host
host_by (Err e) = []

abbrev pub url_host : List ℕ → List ℕ
url_host url = host_by (parse_url None url)

-- the hosts, each once, in the order of their first mirrors
abbrev pub with_host : List (List ℕ) → List ℕ → List (List ℕ)
with_host known host = if list_any (bytes_eq host) known then known else known ++ host ∷ []

abbrev pub distinct_hosts : List (List ℕ) → List (List ℕ) → List (List ℕ)
distinct_hosts known [] = known
distinct_hosts known (host ∷ hosts) = distinct_hosts (with_host known host) hosts

-- the place of a host among others
abbrev pub host_place : List (List ℕ) → List ℕ → ℕ
host_place known host = position_or_len (bytes_eq host) known

-- the number of each
abbrev pub numbers_of_hosts : List (List ℕ) → List ℕ
numbers_of_hosts hosts = map (host_place (distinct_hosts [] hosts)) hosts

-- the number of each mirror's host
abbrev pub host_numbers : List (List ℕ) → List ℕ
host_numbers urls = numbers_of_hosts (map url_host urls)
