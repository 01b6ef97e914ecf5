-- Mirrors in memory that hold a piece of a payload, and how many bad answers are left of them.
use Rattle.std.specs.Prelude.{◌≡◌, ◌<◌, ◌^◌, ℕ, Bool, List, length, count_by}
use Rattle.link_source.specs.Mirrors.{Content}
use Rattle.memory_serving_laws.specs.Leads.{Leads}
use Rattle.memory_serving_laws.specs.Serving.{UrlLeadsAmong}
use Rattle.metainfo.specs.Urls.{seed_url_of}
use Rattle.metainfo.specs.declared.meta.Meta.{Meta}
use Rattle.request_chain.specs.declared.course.TheConstants.{REDIRECT_LIMIT}
use Rattle.served_runs.specs.Serving.{IsFileOfPiece, file_bytes}
use Rattle.span_map.specs.Layout.{total_of}
use Rattle.mark_costs.specs.Paid.{HasPiece}

-- For each file of which the piece has bytes, the mirror's URL leads within 20 redirects to a resource of that
-- file's length, through some of these mirrors in memory alone; and the bytes of the piece that are held there
-- have its digest.
pub record HoldsPiece (content : Content) (meta : Meta) (base held : List ℕ) (among : ℕ → Bool) (piece : ℕ) : Type 0 where
  pub has : HasPiece meta held piece
  pub laid : total_of meta.layout ≡ meta.plan.total
  pub small : length held < 2 ^ 63
  pub leads : (file : ℕ) → IsFileOfPiece meta piece file
      → Leads content REDIRECT_LIMIT (seed_url_of meta.layout base file) (file_bytes meta.layout held file)
  pub through : (file : ℕ) → IsFileOfPiece meta piece file
      → UrlLeadsAmong content among (seed_url_of meta.layout base file)

-- how many bad answers these mirrors have still to give
abbrev pub bad_among : (ℕ → Bool) → Content → ℕ
bad_among among content = count_by (λ bad. among bad.mirror) content.bad
