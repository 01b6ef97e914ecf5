use Rattle.std.proofs.Common.{◌≡◌, arith, length-drop, drop, take, subst, sym, ◌∙◌}
use Rattle.std.proofs.lemmas.Bool.{false≢true}
use Rattle.ftp_replies.specs.Closings.{ClosesBehind}
use Rattle.ftp_replies.specs.Fronts.{BeginsWithText, StandsInFront, IsDue, HasNone}
use Rattle.ftp_replies.specs.Lines.{IsReplyLine}
use Rattle.ftp_replies.proofs.ClosingLemmas.{Passed, whole_rest, found_line, found_closing, passed_line, tell_due, tell_none, due_before, none_line}
use Rattle.ftp_replies.proofs.lines.read_lines.Goals as goal

pub returns-then-begins : goal.returns-then-begins
returns-then-begins c =
    let bytes = c.args.bytes.now in
    let used = c.loop-lines.used in
    let len = c.in-Whole.len in
    let rest = whole_rest bytes used in
    found_line c.args.closing.now bytes used c.loop-lines.lines c.loop-lines.invariant.within c.loop-lines.invariant.passed len
    (omega (arith, c.loop-lines-test.true))
    (subst (λ l. StandsInFront IsReplyLine l len) rest c.in-Whole.ensures)
    (subst (λ l. BeginsWithText c.args.closing.now (take len l)) rest (c.begins.ensures.0 c.if-begins.true))

pub returns-in-More : goal.returns-in-More
returns-in-More c =
    let bytes = c.args.bytes.now in
    let used = c.loop-lines.used in
    tell_due c.args.closing.now bytes used c.loop-lines.lines c.loop-lines.invariant.passed
    (due_before c.args.closing.now c.loop-lines.lines (drop used bytes)
    (omega (arith, c.loop-lines-test.true)) c.requires
    (subst (IsDue IsReplyLine) (whole_rest bytes used) c.in-More.ensures))

pub returns-in-Bad : goal.returns-in-Bad
returns-in-Bad c =
    let bytes = c.args.bytes.now in
    let used = c.loop-lines.used in
    tell_none c.args.closing.now bytes used c.loop-lines.lines c.loop-lines.invariant.passed
    (none_line c.args.closing.now c.loop-lines.lines (drop used bytes)
    (subst (HasNone IsReplyLine) (whole_rest bytes used) c.in-Bad.ensures))

pub loop-lines-preserved : goal.loop-lines-preserved
loop-lines-preserved c =
    let bytes = c.args.bytes.now in
    let used = c.loop-lines.used in
    let len = c.in-Whole.len in
    let rest = whole_rest bytes used in
    let line = subst (λ l. StandsInFront IsReplyLine l len) rest c.in-Whole.ensures in
    let within = c.loop-lines.invariant.within in
    record {
      within = omega (arith, within, line.0, length-drop used bytes);
      passed = passed_line c.args.closing.now bytes used c.loop-lines.lines within c.loop-lines.invariant.passed len line
          (λ begins. false≢true (sym c.if-begins.false
          ∙ c.begins.ensures.1 (subst (λ l. BeginsWithText c.args.closing.now (take len l)) (sym rest) begins)));
    }

pub returns-in-Whole-read_last : goal.returns-in-Whole-read_last
returns-in-Whole-read_last c =
    let bytes = c.args.bytes.now in
    let used = c.loop-lines.used in
    let len = c.in-Whole-read_last.len in
    let all : c.loop-lines.lines ≡ 63 = omega (arith, c.loop-lines-test.false, c.loop-lines.auto.lines-end) in
    found_closing c.args.closing.now bytes used 63 c.loop-lines.invariant.within
    (subst (λ n. Passed c.args.closing.now (take used bytes) n) all c.loop-lines.invariant.passed) len
    (subst (λ l. StandsInFront (ClosesBehind c.args.closing.now 63) l len)
    (whole_rest bytes used) c.in-Whole-read_last.ensures)

pub returns-in-More-read_last : goal.returns-in-More-read_last
returns-in-More-read_last c =
    let bytes = c.args.bytes.now in
    let used = c.loop-lines.used in
    let all : c.loop-lines.lines ≡ 63 = omega (arith, c.loop-lines-test.false, c.loop-lines.auto.lines-end) in
    tell_due c.args.closing.now bytes used 63
    (subst (λ n. Passed c.args.closing.now (take used bytes) n) all c.loop-lines.invariant.passed)
    (subst (IsDue (ClosesBehind c.args.closing.now 63)) (whole_rest bytes used) c.in-More-read_last.ensures)

pub returns-in-Bad-read_last : goal.returns-in-Bad-read_last
returns-in-Bad-read_last c =
    let bytes = c.args.bytes.now in
    let used = c.loop-lines.used in
    let all : c.loop-lines.lines ≡ 63 = omega (arith, c.loop-lines-test.false, c.loop-lines.auto.lines-end) in
    tell_none c.args.closing.now bytes used 63
    (subst (λ n. Passed c.args.closing.now (take used bytes) n) all c.loop-lines.invariant.passed)
    (subst (HasNone (ClosesBehind c.args.closing.now 63)) (whole_rest bytes used) c.in-Bad-read_last.ensures)
