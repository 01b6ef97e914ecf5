use Rattle.std.proofs.Common.{ap, sym, ◌∙◌}
use Rattle.std.proofs.lemmas.Result.{IfOk-weaker}
use Rattle.link_source.proofs.Answering.{replies_by}
use Rattle.link_source.specs.Mirrors.{content_reply}
use Rattle.link_source.specs.Replies.{bare_reply, moved}
use Rattle.link_source.proofs.mirrors.MemMirror.reply.Goals as goal

pub returns-in-None : goal.returns-in-None
returns-in-None c =
    IfOk-weaker c.not_found_reply.result _ _
    (λ reply is. is ∙ sym (replies_by c.args.self.now _ _ _ _ (rw c.deref.ensures.value at c.in-None.ensures))) c.not_found_reply.ensures

pub returns-in-Some-Moved : goal.returns-in-Some-Moved
returns-in-Some-Moved c =
    let found = rw (c.deref.ensures.value, c.in-Some-Moved.field-0-is) at c.in-Some-Moved.ensures in
    IfOk-weaker c.moved_reply.result _ _
    (λ reply is. is ∙ ap (λ location. bare_reply (moved location)) c.as_str.ensures ∙ sym (replies_by c.args.self.now _ _ _ _ found)) c.moved_reply.ensures

pub returns-in-Some-Bytes : goal.returns-in-Some-Bytes
returns-in-Some-Bytes c =
    let found = rw (c.deref.ensures.value, c.in-Some-Bytes.field-0-is) at c.in-Some-Bytes.ensures in
    IfOk-weaker c.reply_with.result _ _
    (λ reply is. is ∙ ap (λ bytes. content_reply c.args.self.now.manner bytes c.args.asked.now.first c.args.asked.now.last) c.bytes.ensures ∙ sym (replies_by c.args.self.now _ _ _ _ found)) c.reply_with.ensures

pub returns-in-Some-Load : goal.returns-in-Some-Load
returns-in-Some-Load c =
    let found = rw (c.deref.ensures.value, c.in-Some-Load.field-0-is) at c.in-Some-Load.ensures in
    IfOk-weaker c.reply_with-in-Some-Load.result _ _
    (λ reply is. is ∙ sym (replies_by c.args.self.now _ _ _ _ found)) c.reply_with-in-Some-Load.ensures
