-- What is asked next, where parts of resources are to come one after the other (RFC 9110 sections 14 and 15.4).
use Rattle.std.specs.Prelude.{◌≡◌, ◌⊎◌, ℕ, ◌+◌, ◌-◌, nat_lt, nat_le, List, [], ◌∷◌, Option, Some, None, if◌then◌else◌}
use Rattle.dl_kinds.specs.ExitStatuses.{exit_code}
use Rattle.dl_kinds.specs.declared.exit_status.ExitStatus.TheVariants.{HttpReply}
use Rattle.link_source.specs.Endpoint.{IsHttp}
use Rattle.range_http.specs.declared.asked.Asked.{Asked}
use Rattle.span_map.specs.declared.jobs.JobPart.{JobPart}
use Rattle.reply_reader.specs.Answers.{Turn, Due, Given, Away, Lost as LostTurn}
use Rattle.reply_reader.specs.declared.loss.Loss.{Loss}
use Rattle.reply_reader.specs.declared.loss.Loss.TheVariants.{Refused, Redirects}
use Rattle.request_chain.specs.Redirects.{moved_to}
use Rattle.request_chain.specs.declared.course.TheConstants.{REDIRECT_LIMIT}

-- All came; more is due; or it is lost.
pub data FetchEnding : Type 0 where
  Done : FetchEnding
  Open : FetchEnding
  Lost : Loss → FetchEnding

-- Asked next is this part, before these others, at this URL, after so many redirects of it, the last by a reply of this
-- status, which is 0 where there was none. Or nothing more is asked.
pub data NextAsk : Type 0 where
  Ask : JobPart → List JobPart → List ℕ → ℕ → ℕ → NextAsk
  Over : FetchEnding → NextAsk

-- the first part, at its own URL
abbrev pub plan_of : List JobPart → NextAsk
plan_of [] = Over Done
plan_of (part ∷ parts) = Ask part parts part.url 0 0

-- a part as a range
abbrev pub asked_of : JobPart → Asked
asked_of part = record { first = part.at; last = part.at + part.len - 1; total = Some part.total }

-- the part behind this place
abbrev pub rest_behind : JobPart → ℕ → JobPart
rest_behind part last = record part { at = last + 1; len = part.at + part.len - 1 - last }

-- all came of the part up to this place, which may be before its end: the rest of it is asked for on its own
abbrev pub plan_behind : JobPart → List JobPart → ℕ → NextAsk
plan_behind part parts last =
    if nat_lt last (part.at + part.len - 1) then plan_of (rest_behind part last ∷ parts) else plan_of parts

-- lost for a URL that is no `http` URL, by a reply of this status
abbrev pub unusable : ℕ → Loss
unusable status = Refused status (exit_code HttpReply)

-- the part is asked for where it was moved to
abbrev pub plan_at : JobPart → List JobPart → ℕ → ℕ → Option (List ℕ) → NextAsk
plan_at part parts count status None = Over (Lost (unusable status))
plan_at part parts count status (Some url) = Ask part parts url count status

-- the plan where the request for the part, at this URL after so many redirects, had this answer
abbrev pub next_plan : JobPart → List JobPart → List ℕ → ℕ → Turn → NextAsk
next_plan part parts url count Due = Over Open
next_plan part parts url count (Given last) = plan_behind part parts last
next_plan part parts url count (Away status location) =
    if nat_le REDIRECT_LIMIT count then Over (Lost Redirects) else plan_at part parts (count + 1) status (moved_to url location)
next_plan part parts url count (LostTurn loss) = Over (Lost loss)

-- how it stands where no request was sent by the plan
abbrev pub Stands : NextAsk → FetchEnding → Type 0
Stands (Over ending) now = now ≡ ending
Stands (Ask part parts url count status) now =
    (IsHttp url × (now ≡ Open)) ⊎ ((IsHttp url → ⊥) × (now ≡ Lost (unusable status)))
