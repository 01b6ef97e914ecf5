-- How many bytes a link gives to one request with its redirects.
use Rattle.std.specs.Prelude.{ℕ, ◌+◌, ◌*◌, ◌<◌, ◌≤◌, ◌^◌, List, [], ◌∷◌, length, All, ⊤}
use Rattle.link_source.specs.Link.{LinkState}
use Rattle.link_source.specs.Mirrors.{Content}
use Rattle.link_source.specs.Exchanges.{Exchange}
use Rattle.range_http.specs.declared.asked.Asked.{Asked}
use Rattle.link_source.specs.declared.exchanges.TheConstants.{MOST_RECEIVED}
use Rattle.reply_reader.specs.Answers.{Answer, Turn, Due, Given, Away, Lost}
use Rattle.reply_reader.specs.Sizes.{heads_most, lines_most}
use Rattle.request_chain.specs.Answered.{IsAnswered}
use Rattle.request_chain.specs.Chains.{Gains, received_by}
use Rattle.request_chain.specs.Exchanges.{IsSentInVain, Replies}
use Rattle.request_chain.specs.Plans.{NextAsk, Ask, Over, plan_of, asked_of, next_plan}
use Rattle.request_chain.specs.Probes.{Probe, Probed, probe_asked}
use Rattle.request_chain.specs.declared.course.TheConstants.{REDIRECT_LIMIT}
use Rattle.span_map.specs.Jobs.{IsJobPart}
use Rattle.span_map.specs.declared.jobs.JobPart.{JobPart}

-- 12,468,868 bytes, and 261 for each byte up to the last one that is asked for: the longest heads of each reply, and
-- behind those of the last reply content, its lines and one buffer
abbrev pub request_most : Asked → ℕ
request_most asked = (REDIRECT_LIMIT + 1) * heads_most + lines_most + MOST_RECEIVED + 261 * (asked.last + 1)

-- so many bytes came by the redirects before
abbrev pub redirected : Turn → ℕ → ℕ
redirected (Away status location) came = came
redirected Due came = 0
redirected (Given last) came = 0
redirected (Lost loss) came = 0

-- For each request by the plan no more comes than that, with its redirects, by which so many bytes came before.
abbrev pub RequestsReceive : NextAsk → ℕ → List Exchange → Type 0
RequestsReceive (Over ending) before streams = ⊤
RequestsReceive (Ask part parts url count status) before [] = ⊤
RequestsReceive (Ask part parts url count status) before (stream ∷ streams) =
    (IsSentInVain url (asked_of part) stream → RequestsReceive (Ask part parts url count status) before streams)
    × ((answer : Answer) → Replies url (asked_of part) stream answer
    → (before + length stream.received ≤ request_most (asked_of part))
    × RequestsReceive (next_plan part parts url count answer.turn) (redirected answer.turn (before + length stream.received)) streams)

-- the streams that answered the requests for parts keep to it
abbrev pub RequestsReceiveLittle : Type 0
RequestsReceiveLittle = (old : Content) (before : List Exchange) (link : LinkState) (gained : List Exchange) (parts : List JobPart)
    → IsAnswered old before link → Gains before link.exchanges gained
    → All IsJobPart parts → All (λ part. part.total < 2 ^ 64) parts → RequestsReceive (plan_of parts) 0 gained

-- and so do those of a probe with its redirects
abbrev pub ProbesReceiveLittle : Type 0
ProbesReceiveLittle = (old : Content) (before : List Exchange) (link : LinkState) (gained : List Exchange) (url : List ℕ) (probe : Probe)
    → IsAnswered old before link → Gains before link.exchanges gained → Probed url gained probe
    → received_by gained ≤ request_most probe_asked
