-- Where a moved resource is (RFC 9110 sections 10.2.2 and 15.4).
use Rattle.std.specs.Prelude.{ℕ, List, Option, Some, None, Result, Ok, Err, if◌then◌else◌}
use Rattle.std.specs.Str.{is_utf8}
use Rattle.url.specs.Parser.{parse_url}
use Rattle.url.specs.Parts.{Parts, serialize}
use Rattle.url.specs.declared.error.ParseError.{ParseError}

-- the URL of a parser's result
abbrev pub location_text : Result Parts ParseError → Option (List ℕ)
location_text (Ok url) = Some (serialize url)
location_text (Err e) = None

-- the location, joined to the URL that the parser found
abbrev pub joined_to : Result Parts ParseError → List ℕ → Option (List ℕ)
joined_to (Ok base) location = location_text (parse_url (Some base) location)
joined_to (Err e) location = None

-- the location, which is a reference relative to the URL by which the resource was asked for; none where it is no text
-- or can't be joined
abbrev pub moved_to : List ℕ → List ℕ → Option (List ℕ)
moved_to url location = if is_utf8 location then joined_to (parse_url None url) location else None
