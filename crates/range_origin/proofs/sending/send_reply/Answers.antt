use Rattle.std.proofs.Common.{sym, ap, subst, ◌++◌, ◌≡◌, ◌∙◌, true, false, None}
use Rattle.std.proofs.lemmas.Bool.{cond-true, cond-false}
use Rattle.dl_kinds.specs.Lists.{part_at}
use Rattle.origin_replies.specs.Aims.{is_get}
use Rattle.origin_replies.specs.Replies.{content_sent, head_of_reply, len_sent}
use Rattle.range_origin.specs.Talking.{HasSent, SendsText, origin_at}
use Rattle.range_origin.proofs.SentTexts.{bytes_of, head_alone, head_stops, head_then, sends_same}
use Rattle.range_origin.proofs.sending.send_reply.Goals as goal

pub returns-in-Some-clause-sent : goal.returns-in-Some-clause-sent
returns-in-Some-clause-sent g c =
    head_stops g.T.Desk.sight g.D.Disk g.A.Doors c.turns_add_up.ensures.none (head_of_reply c.args.reply) _ c.in-Some.end
    c.args.desk.now c.args.door.now c.send_head.new.door c.in-Some.ensures.sent

pub returns-then-is_get-clause-sent : goal.returns-then-is_get-clause-sent
returns-then-is_get-clause-sent g c =
    let get : is_get c.args.head.now ≡ true = sym c.is_get.ensures ∙ c.if-is_get.true in
    let head = head_of_reply c.args.reply in
    let a = origin_at c.args.desk.now c.args.door.now in
    let m = origin_at c.args.desk.now c.send_head.new.door in
    let b = origin_at c.send_body.new.desk c.send_body.new.door in
    let file = bytes_of g.T.Desk.sight g.D.Disk g.A.Doors c.args.name.now a in
    let content = content_sent c.args.reply file in
    let body : SendsText g.T.Desk.sight g.D.Disk g.A.Doors content 0 c.send_body.result m b =
    subst (λ first. SendsText g.T.Desk.sight g.D.Disk g.A.Doors (part_at file first (len_sent c.args.reply)) 0 c.send_body.result m b) c.first_sent.ensures
    (subst (λ len. SendsText g.T.Desk.sight g.D.Disk g.A.Doors (part_at file c.first_sent.result len) 0 c.send_body.result m b) c.len_sent.ensures
    c.send_body.ensures.sent) in
    sends_same g.T.Desk.sight g.D.Disk g.A.Doors (head ++ content) _ 0 c.send_body.result a b
    (λ tells. ap (λ behind. head ++ behind) (cond-true _ _ _ get))
    (head_then g.T.Desk.sight g.D.Disk g.A.Doors c.turns_add_up.ensures.more c.turns_add_up.ensures.none head content
    c.send_body.result c.args.desk.now c.send_body.new.desk c.args.door.now c.send_head.new.door c.send_body.new.door
    (subst (λ end. HasSent g.A.Doors head end c.args.door.now c.send_head.new.door) c.in_default.is c.send_head.ensures.sent) body)

pub returns-else-is_get-clause-sent : goal.returns-else-is_get-clause-sent
returns-else-is_get-clause-sent g c =
    let get : is_get c.args.head.now ≡ false = sym c.is_get.ensures ∙ c.if-is_get.false in
    let head = head_of_reply c.args.reply in
    let a = origin_at c.args.desk.now c.args.door.now in
    let b = origin_at c.args.desk.now c.send_head.new.door in
    sends_same g.T.Desk.sight g.D.Disk g.A.Doors _ _ 0 None a b
    (λ tells. ap (λ behind. head ++ behind) (cond-false _ _ _ get))
    (head_alone g.T.Desk.sight g.D.Disk g.A.Doors c.turns_add_up.ensures.none head None c.args.desk.now c.args.door.now
    c.send_head.new.door
    (subst (λ end. HasSent g.A.Doors head end c.args.door.now c.send_head.new.door) c.in_default.is c.send_head.ensures.sent))
