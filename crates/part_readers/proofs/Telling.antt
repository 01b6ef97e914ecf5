-- What a reader of a part tells of it.
use Rattle.std.proofs.Common.{◌≡◌, ℕ, List, [], ◌∷◌, ◌++◌, Some, None, subst, sym, append-nil}
use Rattle.link_source.specs.Exchanges.{Exchange}
use Rattle.link_source.specs.Link.{LinkState}
use Rattle.span_map.specs.declared.jobs.JobPart.{JobPart}
use Rattle.request_chain.specs.Plans.{FetchEnding}
use Rattle.part_fetches.specs.Fetched.{FetchedPart}
use Rattle.part_fetches.proofs.Following.{by_dialogue, by_requests}
use Rattle.part_readers.specs.Readers.{IsReading, MayReadBy, RestsOnBy}
use Rattle.part_readers.specs.declared.reader.PartReader.{PartReader}
use Rattle.part_readers.specs.declared.reader.PartReader.TheVariants.{Http, Ftp}

-- what came of the part, with what waits
pub reading_tells : (part : JobPart) (used : List Exchange) (bytes waiting : List ℕ) (reader : PartReader) → IsReading part used bytes waiting reader
    → (ending : FetchEnding) × FetchedPart part used (bytes ++ waiting) ending []
reading_tells part used bytes waiting (Http chain room) is =
    (is.2.ending, by_requests part used [] (bytes ++ waiting) is.2.ending is.0 is.2.fetched)
reading_tells part used bytes waiting (Ftp talk room) (place, there, talks, none, (ending, fetched)) =
    let P : List ℕ → Type 0 = λ more. FetchedPart part used (bytes ++ more) ending [] in
    let Q : List ℕ → Type 0 = λ came. FetchedPart part used came ending [] in
    (ending, subst P (sym none) (subst Q (sym (append-nil bytes)) (by_dialogue place part used [] bytes ending there fetched)))

-- where it may read on, it may go on over the connection
pub may_rest : (reader : PartReader) (link : LinkState) → MayReadBy reader link → RestsOnBy reader link
may_rest (Http chain room) link may = may.rests
may_rest (Ftp talk room) link may = tt
