use Rattle.std.proofs.Common.{[], ◌∷◌, subst}
use Rattle.part_readers.specs.Readers.{IsReading, ReaderAsks}
use Rattle.part_readers.specs.declared.reader.PartReader.{PartReader}
use Rattle.part_readers.proofs.Reading.{http_usable, on_ok, read_by_dialogue, read_by_requests}
use Rattle.part_readers.proofs.reader.PartReader.read.Goals as goal

pub returns-in-Http-clause-reads : goal.returns-in-Http-clause-reads
returns-in-Http-clause-reads g c told part before used bytes waiting is gains =
    let at = subst (λ (reader : PartReader). IsReading part used bytes waiting reader) c.in-Http.is is in
    let read = c.read.ensures.reads told (part ∷ []) before used bytes at.1 gains in (
      read.0,
      read.1,
      read_by_requests part before used bytes read.0 c.args.room c.args.allow
          (g.L.Links.state c.read.new.link) (g.L.Links.faults c.read.new.link) c.read.result c.read.new.self c.in-Http.field-1 at.0 read.2,
    )

pub returns-in-Http-clause-usable : goal.returns-in-Http-clause-usable
returns-in-Http-clause-usable g c =
    on_ok c.read.result
    (λ never url asks unusable. never url (subst (λ (reader : PartReader). ReaderAsks reader url) c.in-Http.is asks) (λ http. unusable (http_usable url http)))
    c.read.ensures.usable

pub returns-in-Ftp-clause-reads : goal.returns-in-Ftp-clause-reads
returns-in-Ftp-clause-reads g c told part before used bytes waiting is gains =
    let at = subst (λ (reader : PartReader). IsReading part used bytes waiting reader) c.in-Ftp.is is in
    let read = c.read-in-Ftp.ensures.reads told at.0 part before used bytes at.2 gains in (
      read.0,
      read.1,
      read_by_dialogue part before used bytes read.0 c.args.room c.args.allow
          (g.L.Links.state c.read-in-Ftp.new.link) (g.L.Links.faults c.read-in-Ftp.new.link) at.0 c.read-in-Ftp.result c.read-in-Ftp.new.self c.in-Ftp.field-1 at.1 read.2,
    )
