-- What is to be downloaded (aria2 manual, "aria2c": URI, TORRENT_FILE).
use Rattle.std.specs.Prelude.{◌≡◌, ◌≢◌, ◌≤◌, ℕ, Bool, true, List, [], ◌∷◌, Option, None, Some, Err, length, map, All, codes, nat_eq}
use Rattle.std.specs.Borrow.{Bor}
use Rattle.std.specs.List.{ends_with}
use Rattle.url.specs.Parser.{parse_url}
use Rattle.url.specs.declared.error.ParseError.{ParseError}
use Rattle.dl_kinds.specs.declared.claims.TheConstants.{MAX_MIRRORS}
use Rattle.link_source.specs.Endpoint.{IsUsable}
use Rattle.command_line.specs.declared.source.Source.{Source}
use Rattle.command_line.specs.declared.source.Source.TheVariants.{Console, Metainfo, Mirrors}

-- the URL Standard's parser refuses it
abbrev pub IsNoUrl : List ℕ → Type 0
IsNoUrl word = (e : ParseError) × (parse_url None word ≡ Err e)

-- a word that names a metainfo file: it ends so, and is no URL
pub record IsMetainfoName (word : List ℕ) : Type 0 where
  pub ending : ends_with nat_eq word (codes ".torrent") ≡ true
  pub no_url : IsNoUrl word

pub record AreUris (words : List (List ℕ)) : Type 0 where
  pub usable : All IsUsable words
  pub few : length words ≤ MAX_MIRRORS

-- The words name a metainfo file and further mirrors, or the mirrors of one file, or nothing where the console is to add
-- downloads.
abbrev pub IsSource : Bool → List (List ℕ) → Source → Type 0
IsSource console words (Metainfo file uris) = (words ≡ file ∷ uris) × IsMetainfoName file × AreUris uris
IsSource console words (Mirrors uris) = (words ≡ uris) × (uris ≢ []) × AreUris uris
IsSource console words Console = (words ≡ []) × (console ≡ true)

-- the words that were found, and none where none were
abbrev pub words_of : Option (Bor (List (Bor (List ℕ)))) → List (List ℕ)
words_of None = []
words_of (Some words) = map (λ word. word.now) words.now

abbrev pub IsFirst : List ℕ → List (List ℕ) → Type 0
IsFirst first words = (others : List (List ℕ)) × (words ≡ first ∷ others)
