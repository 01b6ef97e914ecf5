-- The laws of the reply at the front of a stream, and of what a line tells.
use Rattle.std.proofs.Common.{◌≡◌, ℕ, List, ◌∷◌, ◌++◌, length, take, drop, arith, ap, sym, ◌∙◌, subst, append_assoc, length-append, length-take-le}
use Rattle.std.specs.Prelude.{codes}
use Rattle.std.specs.Str.Parse.{digits_value}
use Rattle.std.proofs.lemmas.List.{append_cancel_left, append_cancel_right, take-append-drop, take-append-le, take-take}
use Rattle.ftp_replies.specs.Closings.{ClosesBehind}
use Rattle.ftp_replies.specs.Replies.{code_text, closing, IsReply}
use Rattle.ftp_replies.specs.ReplyLaws.{HasOneReply, ReplyStays, NoReplyStays, FrontOfReplyIsDue, ReplyComesWhole, ReplyIsShort, HasOneSize, HasOnePort}
use Rattle.ftp_replies.proofs.AddressLemmas.{one_port}
use Rattle.ftp_replies.proofs.ClosingLemmas.{same_closed, closes_short}
use Rattle.ftp_replies.proofs.ReplyLemmas.{marked, same_code, reply_closes, no_reply, fits_no_reply}

-- replies that begin as one text are one
same_reply : (c d : ℕ) (a b x y : List ℕ) → IsReply c a → IsReply d b → a ++ x ≡ b ++ y → (c ≡ d) × (a ≡ b)
same_reply c d a b x y is_a is_b same =
    let m = marked c a is_a in
    let n = marked d b is_b in
    let whole : code_text c ++ m.mark ∷ (m.rest ++ x) ≡ code_text d ++ n.mark ∷ (n.rest ++ y) =
    ap (λ l. l ++ x) (sym m.is) ∙ (same ∙ ap (λ l. l ++ y) n.is) in
    let code : c ≡ d = same_code c d is_a.small is_b.small (ap (take 3) whole) in (
      code,
      same_closed (closing c) a b x y (reply_closes c a is_a)
          (subst (λ k. ClosesBehind (closing k) 0 b) (sym code) (reply_closes d b is_b)) same,
    )

pub one_reply : HasOneReply
one_reply bytes code other used more a b =
    let both = same_reply code other (take used bytes) (take more bytes) (drop used bytes) (drop more bytes) a.1 b.1
    (take-append-drop used bytes ∙ sym (take-append-drop more bytes)) in
    (both.0, omega (arith, ap length both.1, length-take-le used bytes a.0, length-take-le more bytes b.0))

pub reply_stays : ReplyStays
reply_stays bytes more code used is = (
  omega (arith, is.0, length-append bytes more),
  subst (IsReply code)
      (sym (take-append-le used bytes more is.0)) is.1,
)

pub no_reply_stays : NoReplyStays
no_reply_stays bytes more none = no_reply (bytes ++ more) λ code one rest behind is same.
    fits_no_reply bytes none code one rest (more ++ behind) is (same ∙ append_assoc bytes more behind)

pub front_is_due : FrontOfReplyIsDue
front_is_due bytes more due = (
  λ code used begun. due.0 code used (reply_stays bytes more code used begun),
  (due.1.0, more ++ due.1.1, subst (IsReply due.1.0) (append_assoc bytes more due.1.1) due.1.2),
)

pub reply_comes_whole : ReplyComesWhole
reply_comes_whole bytes code used is n before =
    let reply : List ℕ = take used bytes in
    let front : List ℕ = take n bytes in
    let cut : take n reply ≡ front = take-take n used bytes (omega (arith, before)) in
    let front_len = length-take-le n bytes (omega (arith, before, is.0)) in (
      λ other m begun.
          let same : take m front ++ (drop m front ++ drop n bytes) ≡ reply ++ drop used bytes =
          sym (append_assoc (take m front) (drop m front) (drop n bytes))
          ∙ (ap (λ l. l ++ drop n bytes) (take-append-drop m front)
          ∙ (take-append-drop n bytes ∙ sym (take-append-drop used bytes))) in
          let both = same_reply other code (take m front) reply (drop m front ++ drop n bytes)
          (drop used bytes) begun.1 is.1 same in
          absurd
          (omega
          (arith, ap length both.1, length-take-le m front begun.0, begun.0, front_len, length-take-le used bytes is.0, before)),
      (
        code,
        drop n reply,
        subst (IsReply code) (sym (ap (λ l. l ++ drop n reply) (sym cut) ∙ take-append-drop n reply)) is.1,
      ),
    )

pub reply_is_short : ReplyIsShort
reply_is_short bytes code is = closes_short (closing code) bytes (reply_closes code bytes is)

pub one_size : HasOneSize
one_size line size other a b =
    let text : codes "213 " ++ a.digits ≡ codes "213 " ++ b.digits =
    append_cancel_right (codes "213 " ++ a.digits) (codes "213 " ++ b.digits) (codes "\r\n") (sym a.is ∙ b.is) in
    let digits : a.digits ≡ b.digits = append_cancel_left (codes "213 ") a.digits b.digits text in
    a.value ∙ (ap (digits_value 10) digits ∙ sym b.value)

pub one_told_port : HasOnePort
one_told_port line port other a b =
    one_port line b.at b.high b.low b.none_before b.found port a ∙ sym b.is
