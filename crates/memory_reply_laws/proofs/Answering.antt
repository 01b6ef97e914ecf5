-- What mirrors in memory give in answer to a request.
use Rattle.std.proofs.Common.{◌≡◌, ℕ, List, [], ap, subst, ◌∙◌, refl, sym}
use Rattle.std.specs.Option.{option_and_then, option_map_or}
use Rattle.std.specs.Prelude.{Option, Some, None, IsSome}
use Rattle.link_source.specs.BadAnswers.{next_bad}
use Rattle.link_source.specs.Endpoint.{host_value}
use Rattle.link_source.specs.Files.{MemFile}
use Rattle.link_source.specs.Mirrors.{Content, Mirror, AddsReply, HasReply, IsServed, bad_at, file_at, mirror_reply, number_at, reply_by, reply_of}
use Rattle.link_source.specs.Replies.{bare_reply, text_under}
use Rattle.link_source.specs.Requests.{request_of}
use Rattle.link_source.specs.declared.bad_answers.Bad.{Bad}
use Rattle.link_source.specs.declared.mirrors.Manner.{Manner}
use Rattle.memory_reply_laws.specs.Answers.{RequestsAreAlike, Has, RequestsAreAnswered, NoneIsNext}

pub requests_are_alike : RequestsAreAlike
unfolding request_of
requests_are_alike host target asked = refl

-- what stands at a target is what its mirror replies by
found : (content : Content) (host : List ℕ) (port : ℕ) (target : List ℕ) (manner : Manner) (file : Option MemFile) (first last : ℕ)
    → Has content host port target manner file → reply_of content host port target first last ≡ reply_by manner file first last
found content host port target manner file first last has =
    ap (λ (at : Option Mirror). option_map_or (λ mirror. mirror_reply mirror target first last) at (bare_reply [])) has.mirror_is
    ∙ ap (λ m. reply_by m (file_at has.mirror.files target) first last) has.manner_is
    ∙ ap (λ f. reply_by manner f first last) has.file_is

pub requests_are_answered : RequestsAreAnswered
requests_are_answered due new_due sent host target port asked content new_content manner file has is adds =
    let text : sent ≡ request_of (host_value host port) target asked.first asked.last =
    is.sent_is ∙ requests_are_alike (host_value host port) target asked in
    let replies : HasReply content host port sent new_due new_content = subst (λ d. AddsReply host port sent content new_content d new_due) is.nothing_due adds in
    let served : IsServed content host port = subst (λ at. IsSome at) (sym has.mirror_is) refl in
    replies.asked target asked.first asked.last served (record { text = text; ordered = is.ordered; bounded = is.bounded })
    ∙ ap (text_under (bad_at content host port)) (found content host port target manner file asked.first asked.last has)

pub none_is_next : NoneIsNext
none_is_next content host port none =
    ap (λ (left : List Bad). option_and_then (next_bad left) (number_at content.mirrors host port)) none ∙ nobody (number_at content.mirrors host port)
  where
    nobody : (number : Option ℕ) → option_and_then (next_bad []) number ≡ None
    nobody None = refl
    nobody (Some n) = refl
