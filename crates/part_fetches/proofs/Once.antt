-- The same streams determine one result.
use Rattle.std.proofs.Common.{◌≡◌, ℕ, List, [], ◌∷◌, ◌++◌, sym, ap₂, subst, ◌∙◌, inl, inr, Option, Some, None}
use Rattle.link_source.specs.Exchanges.{Exchange}
use Rattle.span_map.specs.declared.jobs.JobPart.{JobPart}
use Rattle.request_chain.specs.Fetched.{FetchedIsOne as RequestsAreOne}
use Rattle.request_chain.specs.Plans.{FetchEnding, Done}
use Rattle.ftp_fetches.specs.DialogueLaws.{FtpFetchedIsOne}
use Rattle.ftp_places.specs.Places.{ftp_place}
use Rattle.ftp_places.specs.declared.place.FtpPlace.{FtpPlace}
use Rattle.part_fetches.specs.Fetched.{Fetched, FetchedAt, FetchedPart}
use Rattle.part_fetches.specs.Laws.{FetchedIsOne}

-- one of two tellings, and the other
abbrev IsSame : List ℕ → List ℕ → FetchEnding → FetchEnding → List Exchange → List Exchange → Type 0
IsSame bytes other_bytes ending other_ending rest other_rest = (bytes ≡ other_bytes) × (ending ≡ other_ending) × (rest ≡ other_rest)

module _ (once : RequestsAreOne) (one : FtpFetchedIsOne) where
  once_at : (place : Option FtpPlace) (part : JobPart) (streams rest other_rest : List Exchange) (bytes other_bytes : List ℕ) (ending other_ending : FetchEnding)
      → FetchedAt place part streams bytes ending rest → FetchedAt place part streams other_bytes other_ending other_rest
      → IsSame bytes other_bytes ending other_ending rest other_rest
  once_at None part streams rest other_rest bytes other_bytes ending other_ending a b =
      once (part ∷ []) streams rest other_rest bytes other_bytes ending other_ending a b
  once_at (Some place) part streams rest other_rest bytes other_bytes ending other_ending a b =
      one place part streams rest other_rest bytes other_bytes ending other_ending a b

  part_once : (part : JobPart) (streams rest other_rest : List Exchange) (bytes other_bytes : List ℕ) (ending other_ending : FetchEnding)
      → FetchedPart part streams bytes ending rest → FetchedPart part streams other_bytes other_ending other_rest
      → IsSame bytes other_bytes ending other_ending rest other_rest
  unfolding FetchedPart
  part_once part streams rest other_rest bytes other_bytes ending other_ending a b =
      once_at (ftp_place part.url) part streams rest other_rest bytes other_bytes ending other_ending a b

  parts_once : (parts : List JobPart) (streams rest other_rest : List Exchange) (bytes other_bytes : List ℕ) (ending other_ending : FetchEnding)
      → Fetched parts streams bytes ending rest → Fetched parts streams other_bytes other_ending other_rest
      → IsSame bytes other_bytes ending other_ending rest other_rest
  parts_once [] streams rest other_rest bytes other_bytes ending other_ending a b = (a.0 ∙ sym b.0, a.1 ∙ sym b.1, a.2 ∙ sym b.2)
  parts_once (part ∷ parts) streams rest other_rest bytes other_bytes ending other_ending (inl a) (inl b) =
      part_once part streams rest other_rest bytes other_bytes ending other_ending a.0 b.0
  parts_once (part ∷ parts) streams rest other_rest bytes other_bytes ending other_ending (inl a) (inr b) =
      absurd (a.1 (part_once part streams rest b.2 bytes b.0 ending Done a.0 b.3).1)
  parts_once (part ∷ parts) streams rest other_rest bytes other_bytes ending other_ending (inr a) (inl b) =
      absurd (b.1 (sym (part_once part streams a.2 other_rest a.0 other_bytes Done other_ending a.3 b.0).1))
  parts_once (part ∷ parts) streams rest other_rest bytes other_bytes ending other_ending (inr a) (inr b) =
      let one = part_once part streams a.2 b.2 a.0 b.0 Done Done a.3 b.3 in
      let next = subst (λ (left : List Exchange). Fetched parts left b.1 other_ending other_rest) (sym one.2) b.5 in
      let later = parts_once parts a.2 rest other_rest a.1 b.1 ending other_ending a.5 next in
      (a.4 ∙ ap₂ (λ (own more : List ℕ). own ++ more) one.0 later.0 ∙ sym b.4, later.1, later.2)

  pub fetched_once : FetchedIsOne
  fetched_once = λ parts streams rest other_rest bytes other_bytes ending other_ending a b.
      parts_once parts streams rest other_rest bytes other_bytes ending other_ending a b
