use Rattle.std.proofs.Common.{drop, length}
use Rattle.std.proofs.lemmas.Slice.Eq.{starts_is}
use Rattle.std.proofs.lemmas.Bool.Decides.{Decides-eqb}
use Rattle.ftp_replies.proofs.front.begins.Goals as goal

pub returns : goal.returns
returns c =
    let parts = starts_is Decides-eqb c.args.bytes.now c.args.text.now c.starts_with.result c.starts_with.ensures.value in (
      λ is. (drop (length c.args.text.now) c.args.bytes.now, parts.0 is),
      λ begins. parts.1 begins.0 begins.1,
    )
