-- The links of a load, over which its mirrors answer.
use Rattle.std.specs.Prelude.{◌≡◌, ℕ, ◌+◌, ◌*◌, ◌%◌, false, List, [], ◌∷◌, None, codes}
use Rattle.link_source.specs.Files.{Bytes}
use Rattle.link_source.specs.Link.{LinkState, Shut}
use Rattle.link_source.specs.Load.{load_bytes}
use Rattle.link_source.specs.Mirrors.{Content, Mirror}
use Rattle.link_source.specs.declared.bad_answers.Bad.{Bad}
use Rattle.link_source.specs.declared.bad_answers.BadKind.TheVariants.{Flip}
use Rattle.link_source.specs.declared.mirrors.Manner.TheVariants.{Ranges}
use Rattle.load_setup.specs.Sound.{sound_links_state}
use Rattle.load_setup.specs.declared.payload.TheConstants.{PIECE, TOTAL}
use Rattle.load_setup.specs.declared.sound_links.SoundLinks.{SoundLinks}

-- the mirror at this host has the payload
unfoldable pub load_mirror : ℕ → List ℕ → Mirror
load_mirror n host = record {
  host = host;
  port = 80;
  files = (codes "/load.bin", Bytes (load_bytes n TOTAL)) ∷ [];
  manner = Ranges;
}

unfoldable pub load_mirrors : ℕ → List Mirror
load_mirrors n = load_mirror n (codes "m0.test") ∷ load_mirror n (codes "m1.test") ∷ load_mirror n (codes "m2.test") ∷ []

-- The one bad answer of a link turns the first byte of a piece, at one of the first two mirrors.
abbrev pub bad_answer : ℕ → ℕ → Bad
bad_answer n link = record { mirror = link % 2; kind = Flip ((n + link) % 64 * PIECE) }

-- the mirrors of the load, which have still to give the link's bad answer
abbrev pub load_content : ℕ → ℕ → Content
load_content n link = record { mirrors = load_mirrors n; bad = bad_answer n link ∷ []; used = [] }

-- a link that wasn't used yet
abbrev pub load_state : ℕ → ℕ → LinkState
load_state n link =
    record { content = load_content n link; exchanges = []; due = []; peer = None; listens = false; data_link = Shut }

-- it is the link of this number
abbrev pub IsLoadLink : (n link : ℕ) → SoundLinks → Type 0
IsLoadLink n link links = sound_links_state links ≡ load_state n link
