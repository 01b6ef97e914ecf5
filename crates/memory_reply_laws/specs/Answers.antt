-- What mirrors in memory give in answer to a request.
use Rattle.std.specs.Prelude.{◌≡◌, ℕ, ◌^◌, ◌<◌, ◌≤◌, List, [], Option, Some, None}
use Rattle.link_source.specs.Endpoint.{host_value}
use Rattle.link_source.specs.Files.{MemFile}
use Rattle.link_source.specs.Mirrors.{Content, Mirror, AddsReply, bad_at, mirror_at, file_at, reply_by}
use Rattle.link_source.specs.Replies.{text_under}
use Rattle.link_source.specs.Requests.{request_of}
use Rattle.link_source.specs.declared.mirrors.Manner.{Manner}
use Rattle.range_http.specs.declared.asked.Asked.{Asked}
use Rattle.range_http.specs.Request.{request_text}

-- the request that is sent is the one that a mirror reads
abbrev pub RequestsAreAlike : Type 0
RequestsAreAlike = (host target : List ℕ) (asked : Asked) → request_text target host asked ≡ request_of host target asked.first asked.last

-- the first mirror of the host and the port answers in this manner, and this is its first file of the target, if it has one
pub record Has (content : Content) (host : List ℕ) (port : ℕ) (target : List ℕ) (manner : Manner) (file : Option MemFile) : Type 0 where
  pub mirror : Mirror
  pub mirror_is : mirror_at content.mirrors host port ≡ Some mirror
  pub manner_is : mirror.manner ≡ manner
  pub file_is : file_at mirror.files target ≡ file

-- a request goes out to the host and the port, from where nothing more is due
pub record IsRequested (due sent host : List ℕ) (port : ℕ) (target : List ℕ) (asked : Asked) : Type 0 where
  pub nothing_due : due ≡ []
  pub sent_is : sent ≡ request_text target (host_value host port) asked
  pub ordered : asked.first ≤ asked.last
  pub bounded : asked.last < 2 ^ 64

-- due then is the reply to what is asked, or the bad answer in its place
abbrev pub RequestsAreAnswered : Type 0
RequestsAreAnswered = (due new_due sent host target : List ℕ) (port : ℕ) (asked : Asked)
    (content new_content : Content) (manner : Manner) (file : Option MemFile)
    → Has content host port target manner file → IsRequested due sent host port target asked
    → AddsReply host port sent content new_content due new_due
    → new_due ≡ text_under (bad_at content host port) (reply_by manner file asked.first asked.last)

-- where no bad answer is left, none is next
abbrev pub NoneIsNext : Type 0
NoneIsNext = (content : Content) (host : List ℕ) (port : ℕ) → content.bad ≡ [] → bad_at content host port ≡ None
