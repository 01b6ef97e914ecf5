-- What a URL's parts lead to.
use Rattle.std.proofs.Common.{◌≡◌, ℕ, true, false, Bool, List, Result, Ok, Err, refl, sym, ap, ◌∙◌}
use Rattle.std.specs.Prelude.{codes, not, ◌&&◌}
use Rattle.std.specs.Str.{bytes_eq}
use Rattle.std.proofs.lemmas.Bool.{and_from}
use Rattle.std.proofs.lemmas.Slice.Eq.{bytes_eq-Decides}
use Rattle.url.specs.Parts.{Parts}
use Rattle.url.specs.declared.error.ParseError.{ParseError}
use Rattle.ftp_places.specs.Places.{FollowsFtp, FollowsPath}
use Rattle.ftp_places.specs.declared.place.FtpPlace.{FtpPlace}
use Rattle.ftp_places.specs.declared.place.FtpErr.{FtpErr}
use Rattle.ftp_places.specs.declared.place.FtpErr.TheVariants.{NotUrl, Scheme, BadPath, NoMemory}

-- of a URL whose scheme is `ftp`, the answer is that of its parts
pub follows : (answer : Result FtpPlace FtpErr) (parsed : Result Parts ParseError) (url : Parts) → parsed ≡ Ok url
    → url.scheme ≡ codes "ftp" → FollowsPath answer url → FollowsFtp answer parsed
follows (Ok place) parsed url is scheme path =
    (url, is, and_from _ _ ((bytes_eq-Decides url.scheme (codes "ftp")).1 scheme) path.0, path.1)
follows (Err NotUrl) parsed url is scheme path = absurd path
follows (Err Scheme) parsed url is scheme path = absurd path
follows (Err BadPath) parsed url is scheme path = (
  url,
  is,
  scheme,
  ap (λ names. bytes_eq url.scheme (codes "ftp") && names) path
      ∙ ap (λ same. same && false) ((bytes_eq-Decides url.scheme (codes "ftp")).1 scheme),
)
follows (Err NoMemory) parsed url is scheme path = tt

not_false : (b : Bool) → not b ≡ false → b ≡ true
not_false true none = refl
not_false false none = cc

-- a text that isn't told apart from `ftp` is that
pub is_ftp : (scheme text : List ℕ) (differs : Bool) → differs ≡ not (bytes_eq text (codes "ftp")) → differs ≡ false
    → text ≡ scheme → scheme ≡ codes "ftp"
is_ftp scheme text differs test same is =
    sym is ∙ (bytes_eq-Decides text (codes "ftp")).0 (not_false (bytes_eq text (codes "ftp")) (sym test ∙ same))
