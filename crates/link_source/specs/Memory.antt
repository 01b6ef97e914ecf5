-- What the parts of links in memory show.
use Rattle.std.specs.Prelude.{◌≡◌, ◌==◌, ◌&&◌, Bool, bytes_eq, ℕ, List, [], ◌∷◌, Option, Some, None, MatchOption, option_map, find, reverse, map}
use Rattle.link_source.specs.BadAnswers.{IsUsed, next_bad}
use Rattle.link_source.specs.Mirrors.{Content, Mirror, HasReply, reply_of}
use Rattle.link_source.specs.Replies.{Reply}
use Rattle.link_source.specs.Exchanges.{Exchange}
use Rattle.link_source.specs.Files.{placed_file_of}
use Rattle.link_source.specs.declared.bad_answers.Bad.{Bad}
use Rattle.link_source.specs.declared.mirrors.MemFile as code
use Rattle.link_source.specs.declared.mirrors.MemMirror.{MemMirror}
use Rattle.link_source.specs.declared.replies.MemReply.{MemReply}
use Rattle.link_source.specs.declared.exchanges.MemExchange.{MemExchange}
use Rattle.link_source.specs.declared.exchanges.MemPeer.{MemPeer}

-- the first file of this target, as it is stored
abbrev pub stored_at : List (List ℕ × code.MemFile) → List ℕ → Option code.MemFile
stored_at files target = option_map (λ file. file.1) (find (λ file. bytes_eq file.0 target) files)

abbrev pub mirror_of : MemMirror → Mirror
mirror_of m = record { host = m.host; port = m.port; files = map placed_file_of m.files.items; manner = m.manner }

abbrev pub mirrors_of : List MemMirror → List Mirror
mirrors_of mirrors = map mirror_of mirrors

abbrev pub contents_of : List MemMirror → List Bad → List Bad → Content
contents_of mirrors bad used = record { mirrors = mirrors_of mirrors; bad = bad; used = used }

-- the mirror has this host and port
abbrev pub is_at : List ℕ → ℕ → MemMirror → Bool
is_at host port mirror = (mirror.port == port) && bytes_eq mirror.host host

abbrev pub reply_seen : MemReply → Reply
reply_seen r = record { head = r.head.items; place = r.place; content = r.content.items; chunked = r.chunked }

-- the true reply of the first of these mirrors that has this host and port
abbrev pub true_reply : List MemMirror → List ℕ → ℕ → List ℕ → ℕ → ℕ → Reply
true_reply mirrors host port target first last = reply_of (contents_of mirrors [] []) host port target first last

-- Where a mirror of this number replied, its next bad answer is used, if one was left. None is for no reply.
abbrev pub UsesNext : Option ℕ → List Bad → List Bad → List Bad → List Bad → Type 0
UsesNext None left used new_left new_used = (new_left ≡ left) × (new_used ≡ used)
UsesNext (Some mirror) left used new_left new_used =
    MatchOption (next_bad left mirror) ((new_left ≡ left) × (new_used ≡ used)) (λ bad. IsUsed left used bad new_left new_used)

-- the text that this host and port give to bytes, whatever mirror's next bad answer is used then
abbrev pub GivesText : List MemMirror → List Bad → List Bad → List ℕ → ℕ → List ℕ → List ℕ → Option ℕ → Type 0
GivesText mirrors left used host port bytes text mirror =
    (new_left new_used : List Bad) → UsesNext mirror left used new_left new_used
    → HasReply (contents_of mirrors left used) host port bytes text (contents_of mirrors new_left new_used)

-- so, where nothing was due; where something was, the mirror hangs up
abbrev pub GivesTextBehind : List ℕ → List MemMirror → List Bad → List Bad → List ℕ → ℕ → List ℕ → List ℕ → Option ℕ → Type 0
GivesTextBehind [] mirrors left used host port bytes text mirror = GivesText mirrors left used host port bytes text mirror
GivesTextBehind (byte ∷ due) mirrors left used host port bytes text mirror = (text ≡ []) × (mirror ≡ None)

abbrev pub peer_of : MemPeer → List ℕ × ℕ
peer_of p = (p.host, p.port)

abbrev pub exchange_of : MemExchange → Exchange
exchange_of x = record {
  host = x.host;
  port = x.port;
  request = x.request.items;
  received = x.received.items;
  ended = x.ended;
  fresh = x.fresh;
}

-- the newest first
abbrev pub and_older : Option MemExchange → List MemExchange → List Exchange
and_older None past = reverse (map exchange_of past)
and_older (Some newest) past = exchange_of newest ∷ reverse (map exchange_of past)
