use Rattle.std.proofs.Common.{◌≡◌, ◌++◌, map, take}
use Rattle.console_session.specs.NoticeTexts.{notice_text}
use Rattle.console_session.proofs.noticing.put_notices.Given as goal

abbrev pub invariant-loop-notice : goal.invariant-loop-notice
invariant-loop-notice l = l.texts ≡ l.fn.texts ++ map notice_text (take l.notice-index l.notices)
