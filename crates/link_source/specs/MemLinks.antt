-- What a link to mirrors in memory tells of itself.
use Rattle.std.specs.Prelude.{◌≡◌, ◌⊎◌, ℕ, ◌+◌, ◌-◌, ◌^◌, min, false, List, [], Contains, None, option_map, Result, IsErrOf}
use Rattle.dl_kinds.specs.declared.outside.IoErr.{IoErr}
use Rattle.dl_kinds.specs.declared.outside.IoErr.TheVariants.{NoMemory}
use Rattle.link_source.specs.Link.{LinkState, Shut}
use Rattle.link_source.specs.Memory.{contents_of, peer_of}
use Rattle.link_source.specs.Mirrors.{mirror_at}
use Rattle.link_source.specs.declared.bad_answers.Bad.{Bad}
use Rattle.link_source.specs.declared.memory.MemLinks.{MemLinks}
use Rattle.link_source.specs.declared.mirrors.MemMirror.{MemMirror}

abbrev pub link_state : MemLinks → LinkState
link_state links = record {
  content = contents_of links.mirrors.items links.bad.left.items links.bad.used.items;
  exchanges = links.exchanges;
  due = links.due;
  peer = option_map peer_of links.peer;
  listens = links.listening;
  data_link = Shut;
}

abbrev pub link_faults : MemLinks → ℕ
link_faults links = links.calls.faults

-- the most bytes that it gives at once
abbrev pub cut_of : MemLinks → ℕ
cut_of links = links.cut

-- how many of its calls were answered or failed, up to 2^64 - 1
abbrev pub calls_made : MemLinks → ℕ
calls_made links = links.calls.made

-- the numbers of the calls that fail
abbrev pub failing_numbers : MemLinks → List ℕ
failing_numbers links = links.calls.failing.items

-- the next call is one of those that fail
abbrev pub IsNextToFail : MemLinks → Type 0
IsNextToFail links = Contains (failing_numbers links) (calls_made links)

-- no mirror has this host and port
abbrev pub IsUnknownHost : MemLinks → List ℕ → ℕ → Type 0
IsUnknownHost links host port = mirror_at (link_state links).content.mirrors host port ≡ None

-- A call is numbered, unless it is answered with want of memory. It changes neither the numbers that fail nor the cut.
pub record IsNumberedCall {T : Type 0} (old new : MemLinks) (result : Result T IoErr) : Type 0 where
  pub failing : failing_numbers new ≡ failing_numbers old
  pub cut : cut_of new ≡ cut_of old
  pub counted : IsErrOf result NoMemory ⊎ (calls_made new ≡ min (calls_made old + 1) (2 ^ 64 - 1))
  pub free : IsErrOf result NoMemory → calls_made new ≡ calls_made old

-- a link to these mirrors, with these bad answers, cut and numbers of failing calls, that had no call yet
pub record IsNewLink (mirrors : List MemMirror) (bad : List Bad) (cut : ℕ) (failing : List ℕ) (links : MemLinks) : Type 0 where
  pub content : (link_state links).content ≡ contents_of mirrors bad []
  pub exchanges : (link_state links).exchanges ≡ []
  pub due : (link_state links).due ≡ []
  pub closed : (link_state links).peer ≡ None
  pub unasked : (link_state links).listens ≡ false
  pub faults : link_faults links ≡ 0
  pub cut_is : cut_of links ≡ cut
  pub failing_are : failing_numbers links ≡ failing
  pub none_made : calls_made links ≡ 0
