-- Where `ftp` URLs lead (RFC 1738 section 3.2), by the URL Standard's parser.
use Rattle.std.specs.Prelude.{◌≡◌, ◌≢◌, ℕ, Bool, true, false, not, ◌&&◌, List, [], drop, codes, Option, Some, None, unwrap_or, option_map, Result, Ok, Err, if◌then◌else◌}
use Rattle.std.specs.Str.{bytes_eq}
use Rattle.percent_encoding.specs.Percent.{percent_decode}
use Rattle.url.specs.Host.{host_text}
use Rattle.url.specs.Parser.{parse_url}
use Rattle.url.specs.Parts.{Parts, nonempty_host, has_credentials}
use Rattle.url.specs.declared.error.ParseError.{ParseError}
use Rattle.ftp_places.specs.Pathnames.{is_pathname}
use Rattle.ftp_places.specs.declared.place.FtpPlace.{FtpPlace}
use Rattle.ftp_places.specs.declared.place.FtpErr.{FtpErr}
use Rattle.ftp_places.specs.declared.place.FtpErr.TheVariants.{NotUrl, Scheme, BadPath, NoMemory}

-- the path behind its first slash, as the server has it
abbrev pub decoded_path : Parts → List ℕ
decoded_path url = percent_decode (drop 1 url.path)

-- this path on the URL's host and port
abbrev pub place_of : Parts → List ℕ → FtpPlace
place_of url path = record {
  host = unwrap_or (option_map host_text (nonempty_host url)) [];
  port = unwrap_or url.port 21;
  path = path;
}

abbrev pub ftp_place_at : Parts → FtpPlace
ftp_place_at url = place_of url (decoded_path url)

-- no user and no password stands there, and a command can name the path
abbrev pub names_file : Parts → Bool
names_file url = not (has_credentials url) && is_pathname (decoded_path url)

-- the URL leads to a file on an FTP server
abbrev pub is_ftp_url : Parts → Bool
is_ftp_url url = bytes_eq url.scheme (codes "ftp") && names_file url

-- the answer follows the URL's parts, where its scheme is `ftp`
abbrev pub FollowsPath : Result FtpPlace FtpErr → Parts → Type 0
FollowsPath (Ok place) url = (names_file url ≡ true) × (place ≡ ftp_place_at url)
FollowsPath (Err BadPath) url = names_file url ≡ false
FollowsPath (Err NoMemory) url = Unit {0}
FollowsPath (Err e) url = ⊥

-- the answer follows the parser's
abbrev pub FollowsFtp : Result FtpPlace FtpErr → Result Parts ParseError → Type 0
FollowsFtp (Ok place) parsed = (url : Parts) × (parsed ≡ Ok url) × (is_ftp_url url ≡ true) × (place ≡ ftp_place_at url)
FollowsFtp (Err NotUrl) parsed = (e : ParseError) × (parsed ≡ Err e)
FollowsFtp (Err Scheme) parsed = (url : Parts) × (parsed ≡ Ok url) × (url.scheme ≢ codes "ftp")
FollowsFtp (Err BadPath) parsed = (url : Parts) × (parsed ≡ Ok url) × (url.scheme ≡ codes "ftp") × (is_ftp_url url ≡ false)
FollowsFtp (Err NoMemory) parsed = Unit {0}

-- the file to which a text leads, where it is the URL of one
abbrev pub ftp_place_by : Result Parts ParseError → Option FtpPlace
ftp_place_by (Ok url) = if is_ftp_url url then Some (ftp_place_at url) else None
ftp_place_by (Err e) = None

abbrev pub ftp_place : List ℕ → Option FtpPlace
ftp_place text = ftp_place_by (parse_url None text)
