-- The name of a file by its URL (aria2 manual, `--out`).
use Rattle.std.specs.Prelude.{◌≡◌, ◌==◌, ◌⊎◌, ◌++◌, ℕ, None, Ok, List, [], ◌∷◌, codes, fold, if◌then◌else◌}
use Rattle.percent_encoding.specs.Percent.{percent_decode}
use Rattle.span_map.specs.Paths.{IsValidPart}
use Rattle.span_map.specs.declared.paths.TheConstants.{SLASH}
use Rattle.url.specs.Parser.{parse_url}
use Rattle.url.specs.Parts.{Parts}

-- what stands behind the last slash, and all of it where there is none
abbrev pub behind_last_slash : List ℕ → List ℕ
behind_last_slash bytes = fold (λ last byte. if byte == SLASH then [] else last ++ byte ∷ []) [] bytes

-- a segment that may name a file does, and otherwise `index.html`
abbrev pub IsNameBy : List ℕ → List ℕ → Type 0
IsNameBy segment name =
    (IsValidPart segment × (name ≡ segment)) ⊎ ((IsValidPart segment → ⊥) × (name ≡ codes "index.html"))

-- the name by the last segment of the URL's path, percent-decoded
pub record IsNameOfUrl (uri name : List ℕ) : Type 0 where
  pub url : Parts
  pub parsed : parse_url None uri ≡ Ok url
  pub named : IsNameBy (percent_decode (behind_last_slash url.path)) name
