-- What a mirror in memory serves of a payload.
use Rattle.std.specs.Prelude.{◌≡◌, ◌<◌, ◌+◌, ◌^◌, ℕ, Bool, false, All, List, length, take}
use Rattle.blameless_mirrors.specs.Chosen.{IsChosenPiece}
use Rattle.dl_kinds.specs.Plan.{piece_end, piece_start}
use Rattle.dl_kinds.specs.Lists.{part_at}
use Rattle.engine_turns.specs.NextRows.{mirror_url}
use Rattle.link_source.specs.Mirrors.{Content}
use Rattle.machine_core.specs.Starts.{Subject, Listed, Unlisted}
use Rattle.memory_serving_laws.specs.Leads.{Leads}
use Rattle.memory_serving_laws.specs.Serving.{UrlLeadsAmong, used_among}
use Rattle.memory_serving_laws.specs.Sizes.{LeadsToSize}
use Rattle.metainfo.specs.Jobs.{len_of_file}
use Rattle.metainfo.specs.Urls.{seed_url_of}
use Rattle.metainfo.specs.declared.meta.Meta.{Meta}
use Rattle.option_set.specs.Values.{OptionValues}
use Rattle.request_chain.specs.declared.course.TheConstants.{REDIRECT_LIMIT}
use Rattle.span_map.specs.Layout.{total_of}
use Rattle.span_map.specs.declared.files.FileLen.{FileLen}

-- ---- a payload

-- its bytes of the file of this number
abbrev pub file_bytes : List FileLen → List ℕ → ℕ → List ℕ
file_bytes files payload file = part_at payload (total_of (take file files)) (len_of_file files file)

-- the piece has bytes of the file of this number
pub record IsFileOfPiece (meta : Meta) (piece file : ℕ) : Type 0 where
  pub some : 0 < len_of_file meta.layout file
  pub from : total_of (take file meta.layout) < piece_end meta.plan.total meta.plan.piece_len piece
  pub to : piece_start meta.plan.piece_len piece < total_of (take file meta.layout) + len_of_file meta.layout file

-- .. and the options choose such a piece
pub record IsFileOfChosen (meta : Meta) (options : OptionValues) (file : ℕ) : Type 0 where
  pub piece : ℕ
  pub chosen : IsChosenPiece meta options piece
  pub of : IsFileOfPiece meta piece file

-- The payload is as long as the metainfo file says, and the URL that is asked for each file of which a piece that the options
-- choose has bytes leads to just the payload's bytes of that file.
pub record ServesFiles (content : Content) (meta : Meta) (options : OptionValues) (base payload : List ℕ) : Type 0 where
  pub total : length payload ≡ meta.plan.total
  pub laid : total_of meta.layout ≡ meta.plan.total
  pub small : length payload < 2 ^ 63
  pub leads : (file : ℕ) → IsFileOfChosen meta options file
      → Leads content REDIRECT_LIMIT (seed_url_of meta.layout base file) (file_bytes meta.layout payload file)

-- the URL leads to the payload, and to a mirror that tells its length
pub record ServesWhole (content : Content) (url payload : List ℕ) : Type 0 where
  pub small : length payload < 2 ^ 63
  pub leads : Leads content REDIRECT_LIMIT url payload
  pub told : LeadsToSize content REDIRECT_LIMIT url (length payload)

-- what is asked of this mirror for a download with these options is served
abbrev pub ServesPayload : Content → Subject → OptionValues → ℕ → List ℕ → Type 0
ServesPayload content (Listed meta uris) options mirror payload =
    ServesFiles content meta options (mirror_url (Listed meta uris) mirror) payload
ServesPayload content (Unlisted uris) options mirror payload =
    ServesWhole content (mirror_url (Unlisted uris) mirror) payload

-- ---- bad answers

-- each mirror in memory is one of these that a URL leads through that is asked of this mirror for the download
abbrev pub LeadsAmongMirror : Content → (ℕ → Bool) → Subject → OptionValues → ℕ → Type 0
LeadsAmongMirror content among (Listed meta uris) options mirror =
    (file : ℕ) → IsFileOfChosen meta options file
    → UrlLeadsAmong content among (seed_url_of meta.layout (mirror_url (Listed meta uris) mirror) file)
LeadsAmongMirror content among (Unlisted uris) options mirror =
    UrlLeadsAmong content among (mirror_url (Unlisted uris) mirror)

-- no bad answer of these mirrors is left
abbrev pub HasNoBad : Content → (ℕ → Bool) → Type 0
HasNoBad content among = All (λ bad. among bad.mirror ≡ false) content.bad

-- The payload is served, and the URLs that are asked lead through these mirrors in memory.
pub record ServesAmong (content : Content) (subject : Subject) (options : OptionValues) (mirror : ℕ)
    (payload : List ℕ) : Type 0 where
  pub serves : ServesPayload content subject options mirror payload
  pub among : ℕ → Bool
  pub leads : LeadsAmongMirror content among subject options mirror

-- none of them has a bad answer left ..
pub record ServesRightly (content : Content) (subject : Subject) (options : OptionValues) (mirror : ℕ)
    (payload : List ℕ) : Type 0 where
  pub of : ServesAmong content subject options mirror payload
  pub none_bad : HasNoBad content of.among

-- .. or none was used between the old content and the new one
pub record ServesUnused (old new : Content) (subject : Subject) (options : OptionValues) (mirror : ℕ)
    (payload : List ℕ) : Type 0 where
  pub of : ServesAmong old subject options mirror payload
  pub unused : used_among of.among new ≡ used_among of.among old
