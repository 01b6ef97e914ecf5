-- What mirrors in memory hold, and how they answer requests for a part of a resource.
use Rattle.std.specs.Prelude.{◌≡◌, ◌⊎◌, ◌==◌, ◌≤◌, ◌<◌, ◌^◌, ℕ, true, false, List, [], ◌∷◌, Option, Some, None, find, position, option_map, option_and_then, IsSome, ◌&&◌}
use Rattle.std.specs.Option.{option_map_or}
use Rattle.std.specs.Str.{bytes_eq}
use Rattle.link_source.specs.BadAnswers.{IsUsed, next_bad}
use Rattle.link_source.specs.Endpoint.{host_value}
use Rattle.link_source.specs.Files.{MemFile, Bytes, Moved}
use Rattle.link_source.specs.Replies.{Reply, bare_reply, text_under, not_found, moved, ranges_reply, whole_reply}
use Rattle.link_source.specs.Requests.{Asks, request_of}
use Rattle.link_source.specs.declared.bad_answers.Bad.{Bad}
use Rattle.link_source.specs.declared.mirrors.Manner.{Manner}
use Rattle.link_source.specs.declared.mirrors.Manner.TheVariants.{Ranges, Whole, Chunked, ToEnd}

pub record Mirror : Type 0 where
  pub host : List ℕ
  pub port : ℕ
  -- by target
  pub files : List (List ℕ × MemFile)
  pub manner : Manner

-- what all the mirrors hold, the bad answers that they have still to give, and those that they gave
pub record Content : Type 0 where
  pub mirrors : List Mirror
  pub bad : List Bad
  pub used : List Bad

-- no mirrors, as where nothing is told
abbrev pub no_content : Content
no_content = record { mirrors = []; bad = []; used = [] }

-- the first mirror of this host and port
abbrev pub mirror_at : List Mirror → List ℕ → ℕ → Option Mirror
mirror_at mirrors host port = find (λ mirror. (mirror.port == port) && bytes_eq mirror.host host) mirrors

-- its number
abbrev pub number_at : List Mirror → List ℕ → ℕ → Option ℕ
number_at mirrors host port = position (λ mirror. (mirror.port == port) && bytes_eq mirror.host host) mirrors

-- the first file of this target
abbrev pub file_at : List (List ℕ × MemFile) → List ℕ → Option MemFile
file_at files target = option_map (λ file. file.1) (find (λ file. bytes_eq file.0 target) files)

-- what a mirror of this manner replies of a resource
abbrev pub content_reply : Manner → List ℕ → ℕ → ℕ → Reply
content_reply Ranges bytes first last = ranges_reply false bytes first last
content_reply Chunked bytes first last = ranges_reply true bytes first last
content_reply Whole bytes first last = whole_reply true bytes
content_reply ToEnd bytes first last = whole_reply false bytes

-- what it replies where this stands at the target
abbrev pub reply_by : Manner → Option MemFile → ℕ → ℕ → Reply
reply_by manner None first last = bare_reply not_found
reply_by manner (Some (Moved location)) first last = bare_reply (moved location)
reply_by manner (Some (Bytes bytes)) first last = content_reply manner bytes first last

abbrev pub mirror_reply : Mirror → List ℕ → ℕ → ℕ → Reply
mirror_reply mirror target first last = reply_by mirror.manner (file_at mirror.files target) first last

-- the true reply of the first mirror of this host and port
abbrev pub reply_of : Content → List ℕ → ℕ → List ℕ → ℕ → ℕ → Reply
reply_of content host port target first last =
    option_map_or (λ mirror. mirror_reply mirror target first last) (mirror_at content.mirrors host port) (bare_reply [])

-- the bad answer that is next there
abbrev pub bad_at : Content → List ℕ → ℕ → Option Bad
bad_at content host port = option_and_then (next_bad content.bad) (number_at content.mirrors host port)

-- the next bad answer there was used, and the mirrors hold what they held
pub record UsesBadAnswer (old : Content) (host : List ℕ) (port : ℕ) (new : Content) : Type 0 where
  pub bad : Bad
  pub next : bad_at old host port ≡ Some bad
  pub used : IsUsed old.bad old.used bad new.bad new.used
  pub mirrors_stay : new.mirrors ≡ old.mirrors

-- one of the mirrors has this host and port
abbrev pub IsServed : Content → List ℕ → ℕ → Type 0
IsServed content host port = IsSome (mirror_at content.mirrors host port)

-- The reply that the host and the port of a mirror give to bytes, and what the mirrors hold then. A request gets the true
-- reply, or the next bad answer in its place where one is left, which is used then. Other bytes get none. What another
-- host or port replies isn't told.
pub record HasReply (old : Content) (host : List ℕ) (port : ℕ) (bytes reply : List ℕ) (new : Content) : Type 0 where
  pub asked : (target : List ℕ) (first last : ℕ) → IsServed old host port → Asks host port target first last bytes
      → reply ≡ text_under (bad_at old host port) (reply_of old host port target first last)
  pub used : (target : List ℕ) (first last : ℕ) (bad : Bad) → IsServed old host port → Asks host port target first last bytes
      → bad_at old host port ≡ Some bad → IsUsed old.bad old.used bad new.bad new.used
  pub other : IsServed old host port → ((target : List ℕ) (first last : ℕ) → Asks host port target first last bytes → ⊥)
      → (reply ≡ []) × (new ≡ old)
  pub effect : (new ≡ old) ⊎ UsesBadAnswer old host port new

-- a request gets the reply to what it asks for, or the bad answer in its place
abbrev pub AnswersRequests : Type 0
AnswersRequests = (old new : Content) (host target reply : List ℕ) (port first last : ℕ) → IsServed old host port → first ≤ last → last < 2 ^ 64
    → HasReply old host port (request_of (host_value host port) target first last) reply new
    → reply ≡ text_under (bad_at old host port) (reply_of old host port target first last)

-- What is due where these bytes were sent to a host and a port, by what was due before. Where nothing was, it is their
-- reply. Where something was, the mirror hangs up over it, and gives nothing more (RFC 9112 section 9.6).
abbrev pub AddsReply : List ℕ → ℕ → List ℕ → Content → Content → List ℕ → List ℕ → Type 0
AddsReply host port bytes content new_content [] new_due = HasReply content host port bytes new_due new_content
AddsReply host port bytes content new_content (byte ∷ due) new_due = (new_due ≡ []) × (new_content ≡ content)
