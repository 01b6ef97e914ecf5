use Rattle.std.proofs.Common.{◌≡◌, ◌⊎◌, inl, inr, [], ◌∷◌, arith, get_or, subst, sym, ◌∙◌}
use Rattle.ftp_replies.specs.Closings.{ClosesBehind}
use Rattle.ftp_replies.specs.Fronts.{StandsInFront, IsDue, HasNone}
use Rattle.ftp_replies.proofs.ClosingLemmas.{used_short}
use Rattle.ftp_replies.proofs.ReplyLemmas.{short_due, short_none, no_reply, told, closing_is, may_close, lines_whole, lines_due, lines_none}
use Rattle.ftp_replies.proofs.reply.read_reply.Goals as goal
use Rattle.ftp_replies.proofs.reply.read_reply.Goals.{else-mark-ne32-via-then-mark-ne32+else-mark-ne45, else-mark-ne32-via-else-mark-ne32}

pub returns-then-are_digits : goal.returns-then-are_digits
returns-then-are_digits c = short_due c.args.bytes.now c.in_default.len_below
    (sym c.are_digits.ensures ∙ c.if-are_digits.true)

pub returns-else-are_digits : goal.returns-else-are_digits
returns-else-are_digits c = short_none c.args.bytes.now c.in_default.len_below
    (sym c.are_digits.ensures ∙ c.if-are_digits.false)

pub returns-then-mark-ne45 : goal.returns-then-mark-ne45
returns-then-mark-ne45 c = no_reply c.args.bytes.now λ code one more behind is same.
    elim (told c.args.bytes.now c.in-len4-up.len_at_least code one more behind is same).1 [
      | inl hyphen ↦ c.if-mark-ne45.true hyphen
      | inr space ↦ c.if-mark-ne32.true space
    ]

pub returns-in_default-code_of : goal.returns-in_default-code_of
returns-in_default-code_of c = no_reply c.args.bytes.now λ code one more behind is same.
    c.in_default-code_of.ensures.none code is.small
    (told c.args.bytes.now c.in-len4-up.len_at_least code one more behind is same).0

pub read_lines-requires : goal.read_lines-requires
read_lines-requires c =
    let bytes = c.args.bytes.now in
    may_close c.in-Some.code (get_or bytes 0 0) (get_or bytes 1 0) (get_or bytes 2 0) c.in-Some.ensures.some.1

pub overflow_cast-result : goal.overflow_cast-result
overflow_cast-result c =
    let bytes = c.args.bytes.now in
    let few = used_short
    (get_or bytes 0 0 ∷ get_or bytes 1 0 ∷ get_or bytes 2 0 ∷ 32 ∷ []) bytes c.in-Whole.used c.in-Whole.ensures in
    omega (arith, few)

pub returns-in-Whole : goal.returns-in-Whole
returns-in-Whole c =
    let bytes = c.args.bytes.now in
    let some = c.in-Some.ensures.some in
    let closing = closing_is c.in-Some.code (get_or bytes 0 0) (get_or bytes 1 0) (get_or bytes 2 0) some.1 in
    let kind : (get_or bytes 3 0 ≡ 45) ⊎ (get_or bytes 3 0 ≡ 32) = elim c.else-mark-ne32.branch [
      | else-mark-ne32-via-then-mark-ne32+else-mark-ne45 w ↦ inl w.if-mark-ne45.false
      | else-mark-ne32-via-else-mark-ne32 w ↦ inr w.if-mark-ne32.false
    ] in
    lines_whole bytes c.in-Some.code c.in-len4-up.len_at_least some.0 some.1 kind c.in-Whole.used
    (subst (λ l. StandsInFront (ClosesBehind l 0) bytes c.in-Whole.used) (sym closing) c.in-Whole.ensures)

pub returns-in-More : goal.returns-in-More
returns-in-More c =
    let bytes = c.args.bytes.now in
    let some = c.in-Some.ensures.some in
    let closing = closing_is c.in-Some.code (get_or bytes 0 0) (get_or bytes 1 0) (get_or bytes 2 0) some.1 in
    let kind : (get_or bytes 3 0 ≡ 45) ⊎ (get_or bytes 3 0 ≡ 32) = elim c.else-mark-ne32.branch [
      | else-mark-ne32-via-then-mark-ne32+else-mark-ne45 w ↦ inl w.if-mark-ne45.false
      | else-mark-ne32-via-else-mark-ne32 w ↦ inr w.if-mark-ne32.false
    ] in
    lines_due bytes c.in-Some.code c.in-len4-up.len_at_least some.0 some.1 kind
    (subst (λ l. IsDue (ClosesBehind l 0) bytes) (sym closing) c.in-More.ensures)

pub returns-in-Bad : goal.returns-in-Bad
returns-in-Bad c =
    let bytes = c.args.bytes.now in
    let some = c.in-Some.ensures.some in
    let closing = closing_is c.in-Some.code (get_or bytes 0 0) (get_or bytes 1 0) (get_or bytes 2 0) some.1 in
    let kind : (get_or bytes 3 0 ≡ 45) ⊎ (get_or bytes 3 0 ≡ 32) = elim c.else-mark-ne32.branch [
      | else-mark-ne32-via-then-mark-ne32+else-mark-ne45 w ↦ inl w.if-mark-ne45.false
      | else-mark-ne32-via-else-mark-ne32 w ↦ inr w.if-mark-ne32.false
    ] in
    lines_none bytes c.in-Some.code c.in-len4-up.len_at_least some.0 some.1 kind
    (subst (λ l. HasNone (ClosesBehind l 0) bytes) (sym closing) c.in-Bad.ensures)
