use Rattle.std.proofs.Common.{◌≡◌, ◌++◌, OnOk, refl, rules}
use Rattle.std.proofs.lemmas.Result.{on_ok_weaker}
use Rattle.reply_reader.proofs.HeadsKept.{behind_grows}
use Rattle.reply_reader.proofs.heads.HeadReader.keep.Goals as goal

pub returns-clause-behind : goal.returns-clause-behind
returns-clause-behind c =
    let items : OnOk c.extend_from_slice.result (c.extend_from_slice.new.self.items ≡ c.args.self.now.bytes.items ++ c.args.piece.now) = search rules in
    let laws = c.heads_are_one_and_stay.ensures in
    on_ok_weaker c.extend_from_slice.result (λ longer received was. behind_grows laws.stays laws.whole received c.args.piece.now c.args.self.now _ refl longer was) items
