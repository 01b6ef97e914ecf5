use Rattle.std.proofs.Common.{[], refl, sym, ap, ◌∙◌, length, arith, length-append, append-nil}
use Rattle.request_chain.proofs.ContentLemmas.{read_more}
use Rattle.request_chain.proofs.content.Content.read.Goals as goal

pub returns-clause-reads : goal.returns-clause-reads
returns-clause-reads c = λ asked received got is.
    let slices = c.take-read.ensures in
    let all = sym (append-nil c.waiting.result.now ∙ c.waiting.ensures.all) in
    rw c.pass.ensures (read_more c.final_heads_are_one_and_stay.ensures.stays c.final_heads_are_one_and_stay.ensures.within asked received c.args.inbox.now got c.args.self.now _
    c.waiting.result.now [] c.args.out.now.items c.take-read.new.out.items c.take-read.result.used c.take-read.result.state
    is all slices.used refl slices.at slices.gained slices.more slices.come slices.wrong slices.over
    (λ added grown small.
    let long = length-append c.args.out.now.items added in
    let grew = ap length grown in
    omega (arith, c.saturating_add-self.ensures, c.saturating_sub-gained.ensures, c.len.ensures, c.len-before.ensures)) refl c.count_on-behind.ensures)
