-- A step at which nothing was said yet.
use Rattle.std.proofs.Common.{◌≡◌, ℕ, List, [], ◌∷◌, ◌++◌, length, get_or, drop, refl, sym, ap, arith, length-append, lit<, lit≤}
use Rattle.std.proofs.lemmas.List.Elements.{All-cons}
use Rattle.std.specs.Prelude.{codes}
use Rattle.ftp_replies.specs.Lines.{IsReplyLine}
use Rattle.ftp_replies.specs.Replies.{IsReply, IsReplyDue}
use Rattle.ftp_replies.specs.ReplyLaws.{ReplyComesWhole}
use Rattle.ftp_replies.specs.declared.reply.ReplyRead.TheVariants.{More}
use Rattle.ftp_fetches.specs.DialogueLaws.{NothingHeardIsDue}

-- a line of a code and no text
abbrev greeting : List ℕ
greeting = 50 ∷ 50 ∷ 48 ∷ 32 ∷ 13 ∷ 10 ∷ []

only_end : (front behind : List ℕ) → greeting ≡ (front ++ 13 ∷ 10 ∷ []) ++ behind → behind ≡ []
only_end [] behind is = absurd (omega (arith, ap (λ l. get_or l 0 0) is))
only_end (a ∷ []) behind is = absurd (omega (arith, ap (λ l. get_or l 1 0) is))
only_end (a ∷ b ∷ []) behind is = absurd (omega (arith, ap (λ l. get_or l 2 0) is))
only_end (a ∷ b ∷ c ∷ []) behind is = absurd (omega (arith, ap (λ l. get_or l 3 0) is))
only_end (a ∷ b ∷ c ∷ d ∷ []) behind is = sym (ap (drop 6) is)
only_end (a ∷ b ∷ c ∷ d ∷ e ∷ []) behind is = absurd (omega (arith, ap (λ l. get_or l 5 0) is))
only_end (a ∷ b ∷ c ∷ d ∷ e ∷ f ∷ more) behind is =
    absurd (omega (arith, ap length is, length-append (more ++ 13 ∷ 10 ∷ []) behind, length-append more (13 ∷ 10 ∷ [])))

greeting_line : IsReplyLine greeting
greeting_line = record { text = codes "220 "; is = refl; few = lit≤ tt; first = only_end }

greeting_reply : IsReply 220 greeting
greeting_reply = record {
  small = lit< tt;
  front = [];
  last = greeting;
  is = refl;
  lines = All-cons IsReplyLine greeting [] greeting_line (λ k d within. absurd (omega (arith, within)));
  few = lit< tt;
  opens = tt;
  between = λ k d within. absurd (omega (arith, within));
  closes = (13 ∷ 10 ∷ [], refl);
}

nothing_due : ReplyComesWhole → IsReplyDue []
nothing_due whole = whole greeting 220 6 (lit≤ tt, greeting_reply) 0 (lit< tt)

pub nothing_heard : ReplyComesWhole → NothingHeardIsDue
nothing_heard whole step = record { read = More; reads = nothing_due whole; leads = refl }
