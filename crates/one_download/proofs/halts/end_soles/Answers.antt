use Rattle.std.proofs.Common.{◌≡◌, suc, ◌+◌, ◌-◌, ◌<◌, ℕ, Option, Some, None, length, sym, ap, ◌∙◌, arith}
use Rattle.dl_kinds.specs.Plan.{IsPlan, blocks_of, piece_of}
use Rattle.piece_table.specs.Progress.{Progress}
use Rattle.segment_claim.specs.Book.{ClaimBook}
use Rattle.segment_claim.specs.Open.{first_open_in}
use Rattle.one_download.specs.PayloadViews.{with_parts}
use Rattle.one_download.proofs.Blocks.{unlanded_unverified}
use Rattle.one_download.proofs.Halting.{FirstBlock, ends_none, ends_one, first_at, first_block, some_at, unverified_same}
use Rattle.one_download.proofs.halts.end_soles.Goals.{in-Some, in-None}
use Rattle.one_download.proofs.halts.end_soles.Goals as goal

pub piece_of-requires : goal.piece_of-requires
piece_of-requires c =
    let book = c.args.claims.now in
    let place = c.standing-count.result - 1 - c.loop-done.done in
    let here : place < length book.standing =
    let t = c.loop-done-test.true in let l = c.standing-count.ensures.len in omega arith in
    let one = some_at book.standing place here in
    let first : FirstBlock c.args.table.now.landed (blocks_of book.total book.piece_len) c.in-Some.block =
    first_block book.piece_len c.args.table.now.landed book.closed book.standing place
    (blocks_of book.total book.piece_len) one.0 c.in-Some.block c.standing-count.ensures.sound.within here one.1
    (first_at book c.args.table.now.landed place one.0 (Some c.in-Some.block) one.1
    (sym (c.first_blocks-firsts.ensures place here) ∙ c.in-Some.is)) in
    rw (c.requires.total, c.requires.piece_len, c.requires.together.total, c.requires.together.piece_len) first.within

pub end_sole-requires-clause-piece : goal.end_sole-requires-clause-piece
end_sole-requires-clause-piece c =
    let book = c.args.claims.now in
    let table = c.args.table.now in
    let b = c.in-Some.block in
    let place = c.standing-count.result - 1 - c.loop-done.done in
    let here : place < length book.standing =
    let t = c.loop-done-test.true in let l = c.standing-count.ensures.len in omega arith in
    let one = some_at book.standing place here in
    let first : FirstBlock table.landed (blocks_of book.total book.piece_len) b =
    first_block book.piece_len table.landed book.closed book.standing place
    (blocks_of book.total book.piece_len) one.0 b c.standing-count.ensures.sound.within here one.1
    (first_at book table.landed place one.0 (Some b) one.1
    (sym (c.first_blocks-firsts.ensures place here) ∙ c.in-Some.is)) in
    let within : b < blocks_of table.total table.piece_len = rw (c.requires.together.total, c.requires.together.piece_len)
    first.within in
    let plan : IsPlan table.total table.piece_len = rw (← c.requires.total, ← c.requires.piece_len)
    c.args.plan.now.is_plan in
    let of : piece_of table.piece_len b ≡ c.piece_of.result = rw (← c.requires.piece_len) (sym c.piece_of.ensures.value) in
    unverified_same table c.loop-done.table c.piece_of.result c.loop-done.invariant.verified c.loop-done.invariant.total
    c.loop-done.invariant.piece_len
    (unlanded_unverified table b c.piece_of.result c.plan_laws.ensures.of_pieces plan c.blocks-2.ensures.valid within of
    first.unlanded)

pub loop-done-preserved : goal.loop-done-preserved
loop-done-preserved c =
    let book = c.args.claims.now in
    let table = c.args.table.now in
    let done = c.loop-done.done in
    let count = c.standing-count.result in
    let place = count - 1 - done in
    let t = c.loop-done-test.true in
    let here : place < length book.standing = let l = c.standing-count.ensures.len in omega arith in
    let one = some_at book.standing place here in
    let inv = c.loop-done.invariant in
    let next : suc place ≡ count - done = omega arith in
    let last : count - (done + 1) ≡ place = omega arith in
    let first : Option ℕ → Type 0 = λ f. first_open_in table.piece_len table.landed book.closed one.0 ≡ f in
    elim c.match-firsts-count.branch [
      | in-Some w ↦
          let b = w.in-Some.block in
          let open_ : first (Some b) = rw c.requires.together.piece_len
          (first_at book table.landed place one.0 (Some b) one.1
          (sym (c.first_blocks-firsts.ensures place here) ∙ w.in-Some.is)) in
          record {
            account = λ k row.
                rw (w.table-is, w.claims-is) (ends_one (with_parts k table book row) (with_parts k c.loop-done.table c.loop-done.claims row)
                (with_parts k w.end_sole.new.table w.end_sole.new.claims row) book.standing count done place one.0 b
                w.piece_of.result c.args.plan.now.piece_len one.1 next last open_ (inv.account k row)
                (inv.piece_len ∙ sym c.requires.piece_len) w.piece_of.ensures.value (w.end_sole.ensures.account k row));
            verified = ap (λ (p : Progress). p.verified) w.table-is ∙ w.end_sole.ensures.verified ∙ inv.verified;
            total = ap (λ (p : Progress). p.total) w.table-is ∙ w.end_sole.ensures.total ∙ inv.total;
            piece_len = ap (λ (p : Progress). p.piece_len) w.table-is ∙ w.end_sole.ensures.piece_len ∙ inv.piece_len;
            together = rw (w.table-is, w.claims-is) w.end_sole.ensures.together;
            room = ap (λ (d : ClaimBook). d.spare) w.claims-is ∙ w.end_sole.ensures.room ∙ inv.room;
          }
      | in-None w ↦
          let shut : first None = rw c.requires.together.piece_len
          (first_at book table.landed place one.0 None one.1
          (sym (c.first_blocks-firsts.ensures place here) ∙ w.in-None.is)) in
          record {
            account = λ k row.
                rw (w.table-is, w.claims-is) (ends_none (with_parts k table book row)
                (with_parts k c.loop-done.table c.loop-done.claims row) book.standing count done place one.0 one.1 next last shut
                (inv.account k row));
            verified = ap (λ (p : Progress). p.verified) w.table-is ∙ inv.verified;
            total = ap (λ (p : Progress). p.total) w.table-is ∙ inv.total;
            piece_len = ap (λ (p : Progress). p.piece_len) w.table-is ∙ inv.piece_len;
            together = rw (w.table-is, w.claims-is) inv.together;
            room = ap (λ (d : ClaimBook). d.spare) w.claims-is ∙ inv.room;
          }
    ]
