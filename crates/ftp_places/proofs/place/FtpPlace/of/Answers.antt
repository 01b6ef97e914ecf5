use Rattle.ftp_places.proofs.PlaceLemmas.{follows, is_ftp}
use Rattle.ftp_places.proofs.place.FtpPlace.of.Goals as goal

pub returns-else-ne : goal.returns-else-ne
returns-else-ne c =
    let scheme = is_ftp c.in-Ok.url.scheme _ c.ne.result c.ne.ensures c.if-ne.false c.scheme.ensures.value in
    follows c.place_at.result _ c.in-Ok.url c.in-Ok.ensures scheme c.place_at.ensures
