-- A run over the only link, without a console.
use Rattle.std.proofs.Common.{◌≡◌, inl, inr, ℕ, zero, suc, Bool, true, false, List, [], ◌∷◌, Some, length, refl, sym, ap, ◌∙◌, subst, take, arith, slice_get}
use Rattle.std.specs.Prelude.{◌==◌, ◌&&◌, not}
use Rattle.std.proofs.lemmas.Bool.{eqb-true, false≢true}
use Rattle.command_line.specs.LineLaws.{LinesAreOne}
use Rattle.command_line.specs.Lines.{IsLine}
use Rattle.command_line.specs.declared.line.CommandLine.{CommandLine}
use Rattle.conn_worker.specs.Brought.{IsLaterLink, LinksGoOn}
use Rattle.conn_worker.specs.Hands.{link_at}
use Rattle.console_session.specs.SessionLaws.{CallsStandWhereReplied, RepliesAreOfTheHistory}
use Rattle.dl_clock.specs.declared.clock.Clock.{Ghosts as ClockSays}
use Rattle.dl_disk.specs.declared.disk.Disk.{Ghosts as DiskSays}
use Rattle.dl_kinds.specs.declared.outside.Sink.{Ghosts as SinkSays}
use Rattle.link_source.specs.declared.Links.{Ghosts as LinkSays}
use Rattle.run_lifecycle.specs.Consoles.{is_console_on}
use Rattle.run_lifecycle.specs.declared.console.ConsoleTerms.{ConsoleTerms}
use Rattle.run_lifecycle.specs.declared.ended.Ended.{Ended}
use Rattle.served_runs.specs.Over.{IsRunOver}
use Rattle.shared_run.specs.DoorsCauses.{IsOwnPlace, IsPlaceOfCall}
use Rattle.shared_run.proofs.Untouched.{GoOn, stays, worker_goes_on}
use Rattle.solo_run.specs.Runs.{RunsOver, TurnNoConsoleOn}
use Rattle.aria_top.proofs.OwnCalls.{own_alone}
use Rattle.aria_top.proofs.Unread.{none_at}
use Rattle.machine_core.specs.declared.events.Event.{Event}
use Rattle.machine_core.specs.declared.events.Event.TheVariants.{Called}

-- ---- lists of one

both_true : (a b : Bool) → (a && not b) ≡ true → (a ≡ true) × (b ≡ false)
both_true true false is = (refl, refl)
both_true true true is = absurd (false≢true is)
both_true false b is = absurd (false≢true is)

pub alone_one : (count : ℕ) (on : Bool) → ((count == 1) && not on) ≡ true → (count ≡ 1) × (on ≡ false)
alone_one count on is = let both = both_true (count == 1) on is in (eqb-true count 1 both.0, both.1)

pub one_item : {A : Type 0} (xs : List A) → length xs ≡ 1 → (x : A) × (xs ≡ x ∷ [])
one_item [] one = absurd (omega (arith, one))
one_item (x ∷ []) one = (x, refl)
one_item (x ∷ y ∷ xs) one = absurd (omega (arith, one))

pub take_one : {A : Type 0} (xs : List A) → length xs ≡ 1 → take 1 xs ≡ xs
take_one [] one = absurd (omega (arith, one))
take_one (x ∷ []) one = refl
take_one (x ∷ y ∷ xs) one = absurd (omega (arith, one))

-- what is so of the first of such lists is so of them
pub of_takes : {A : Type 0} (P : (olds news : List A) → Type 0) (xs ys : List A) → length xs ≡ 1 → length ys ≡ 1
    → P (take 1 xs) (take 1 ys) → P xs ys
of_takes {A} P xs ys one other holds =
    subst (λ (olds : List A). P olds ys) (take_one xs one) (subst (P (take 1 xs)) (take_one ys other) holds)

some_same : {A : Type 0} (x y : A) → Some x ≡ Some y → x ≡ y
some_same x y is = cc

only_one : {A : Type 0} (P : A → A → Type 0) (x y : A) → P x y → (place : ℕ) (old new : A) → slice_get (x ∷ []) place ≡ Some old
    → slice_get (y ∷ []) place ≡ Some new → P old new
only_one {A} P x y holds zero old new old_is new_is =
    subst (λ (o : A). P o new) (some_same x old old_is) (subst (P x) (some_same y new new_is) holds)
only_one {A} P x y holds (suc n) old new old_is new_is = absurd cc

-- ---- the console

pub turn_none_on : LinesAreOne → (words : List (List ℕ)) (line : CommandLine) → IsLine words line
    → is_console_on line.globals ≡ false → TurnNoConsoleOn words
turn_none_on one words line means off other other_means =
    subst (λ (l : CommandLine). is_console_on l.globals ≡ false) (one words line other means other_means) off

-- ---- the link goes on

module _ {D L K O : Type 0} {says : DiskSays D} {links : LinkSays L} {clocks : ClockSays K} {sinks : SinkSays O}
    {words : List (List ℕ)} {gids : ℕ} {disk : D} {out : O} {ended : Ended D} {out' : O} where
  pair_goes_on : (link link' : L × K) → LinksGoOn
      → RunsOver says links clocks sinks words gids disk link out ended link' out'
      → IsLaterLink links.tells (link_at links link.0) (link_at links link'.0)
  pair_goes_on link link' go_on (inl never) =
      subst (λ (l : L × K). IsLaterLink links.tells (link_at links link.0) (link_at links l.0)) (sym never.1)
      (stays links.tells (link_at links link.0))
  pair_goes_on link link' go_on (inr ran) =
      worker_goes_on 0 ran.begun.desk ran.goes.works.mid link.0 link'.0 ran.goes.works.came go_on ran.goes.works.worked.its.its

  pub one_goes_on : (olds news : List (L × K)) (link link' : L × K) → LinksGoOn → olds ≡ link ∷ [] → news ≡ link' ∷ []
      → RunsOver says links clocks sinks words gids disk link out ended link' out' → GoOn links olds news
  one_goes_on olds news link link' go_on olds_are news_are runs =
      subst (λ (ls : List (L × K)). GoOn links ls news) (sym olds_are)
      (subst (GoOn links (link ∷ [])) (sym news_are)
      (only_one (λ (old new : L × K). IsLaterLink links.tells (link_at links old.0) (link_at links new.0)) link link'
      (pair_goes_on link link' go_on runs)))

-- ---- calls

pub calls_are_own : {D O L K : Type 0} {says : DiskSays D} {sinks : SinkSays O} {limited : Bool} {links : LinkSays L}
    {words : List (List ℕ)} {gids doors : ℕ} {disk : D} {olds : List (L × K)} {out : O} {ended : Ended D}
    {news : List (L × K)} {out' : O} → RepliesAreOfTheHistory → CallsStandWhereReplied
    → TurnNoConsoleOn words
    → IsRunOver says sinks limited links words gids doors disk olds out ended news out'
    → (session place : ℕ) → IsPlaceOfCall ended.journal.events.items session place → IsOwnPlace session place
calls_are_own replies stand off (inl never) session place is =
    none_at place (Called session is.0 is.1) (ap (λ (es : List Event). slice_get es place) (sym never.journal) ∙ is.2)
calls_are_own replies stand off (inr run) session place is =
    own_alone replies stand run
    (ap (λ (c : ConsoleTerms). c.is_on) run.ran.begins.console_is ∙ off run.ran.begins.line run.ran.begins.means)
    session place is
