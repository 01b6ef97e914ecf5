use Rattle.std.proofs.Common.{◌≡◌, ◌+◌, ◌-◌, ◌++◌, List, ℕ, length, take, refl, sym, ◌∙◌, ap, subst, arith}
use Rattle.std.proofs.Math.Seq.{take-append_seam}
use Rattle.reply_reader.specs.Heads.{HasFinalHead, IsHeadless}
use Rattle.reply_reader.proofs.HeadsKept.{at_unfinished, behind_same, due_behind, final_in_piece, line_on}
use Rattle.reply_reader.proofs.heads.HeadReader.take.Goals as goal

pub returns-then-not-may_end_head-clause-more : goal.returns-then-not-may_end_head-clause-more
returns-then-not-may_end_head-clause-more c is received at =
    let is_not = c.if-not-may_end_head.true in
    let self = c.args.self.now in
    let old = self.bytes.items in
    let piece = c.args.piece.now in
    let line = c.ends_line-ends_line.ensures in
    let longer = c.deref.ensures.value ∙ c.in-Ok.ensures.items ∙ ap (λ v. v.items ++ piece) line.bytes in
    let seam : c.len-from.result ≡ length old = omega (arith, c.len-from.ensures) in
    let front : take c.len-from.result c.deref.result.now ≡ old =
    ap (λ (n : ℕ). take n c.deref.result.now) seam ∙ ap (λ (l : List ℕ). take (length old) l) longer ∙ take-append_seam old piece in
    record {
      behind = c.in-Ok.ensures.behind received (behind_same received self _ line.interims line.bytes at.behind);
      line = line_on received piece self.line _ _ c.in-Ok.ensures.line at.line line.line;
      headless = subst IsHeadless c.deref.ensures.value (c.may_end_head.ensures.headless is_not (subst IsHeadless (sym front) at.headless));
      short = omega (arith, c.may_end_head.ensures.short is_not, c.deref.ensures.len);
    }

pub returns-in-More-clause-more : goal.returns-in-More-clause-more
returns-in-More-clause-more c is received at =
    let self = c.args.self.now in
    let piece = c.args.piece.now in
    let line = c.ends_line-ends_line.ensures in
    let kept = c.in-Ok.ensures.behind received (behind_same received self _ line.interims line.bytes at.behind) in
    at_unfinished (received ++ piece) c.read_on.new.self (c.in-More.ensures.behind (received ++ piece) kept) (c.in-More.ensures.more refl)
    (line_on received piece self.line _ _ (c.in-More.ensures.line ∙ c.in-Ok.ensures.line) at.line line.line)

pub returns-in-More-clause-first_line : goal.returns-in-More-clause-first_line
returns-in-More-clause-first_line c is received at none some =
    let self = c.args.self.now in
    let piece = c.args.piece.now in
    let line = c.ends_line-ends_line.ensures in
    let kept = c.in-Ok.ensures.behind received (behind_same received self _ line.interims line.bytes at.behind) in
    due_behind (received ++ piece) c.read_on.new.self (c.in-More.ensures.behind (received ++ piece) kept) (c.in-More.ensures.more refl)

pub returns-in-Whole-clause-whole : goal.returns-in-Whole-clause-whole
returns-in-Whole-clause-whole c received at =
    let laws = c.heads_are_one_and_stay.ensures in
    let whole = c.in-Whole.ensures.whole in
    let line = c.ends_line-ends_line.ensures in
    let behind = c.in-Whole.ensures.behind (received ++ c.args.piece.now)
    (c.in-Ok.ensures.behind received (behind_same received c.args.self.now _ line.interims line.bytes at.behind)) in
    let final = final_in_piece laws.one laws.stood laws.whole received c.args.piece.now c.args.self.now c.read_on.new.self c.in-Whole.head c.in-Whole.used
    whole.0 c.in-Whole.ensures.last whole.1 at behind in
    let used : length c.args.piece.now - (length c.read_on.new.self.bytes.items - c.in-Whole.used) ≡ c.saturating_sub-used.result =
    omega (arith, c.saturating_sub-used.ensures, c.len.ensures) in
    subst (λ (n : ℕ). HasFinalHead (received ++ c.args.piece.now) c.in-Whole.head (length received + n)) used final

pub returns-in-Bad-clause-bad : goal.returns-in-Bad-clause-bad
returns-in-Bad-clause-bad c is received at =
    let line = c.ends_line-ends_line.ensures in
    c.in-Bad.ensures.bad refl (received ++ c.args.piece.now)
    (c.in-Ok.ensures.behind received (behind_same received c.args.self.now _ line.interims line.bytes at.behind))
