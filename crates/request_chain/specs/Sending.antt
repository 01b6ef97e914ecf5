-- What a link shows where a request was sent, or wasn't.
use Rattle.std.specs.Prelude.{◌≡◌, ℕ, Bool, false, List, [], ◌∷◌}
use Rattle.dl_kinds.specs.declared.outside.IoErr.{IoErr}
use Rattle.dl_kinds.specs.declared.outside.IoErr.TheVariants.{Fault, NoMemory as NoRoom}
use Rattle.link_source.specs.Endpoint.{IsHttp}
use Rattle.link_source.specs.Exchanges.{Exchange}
use Rattle.range_http.specs.declared.asked.Asked.{Asked}
use Rattle.reply_reader.specs.declared.loss.Loss.{Loss}
use Rattle.reply_reader.specs.declared.loss.Loss.TheVariants.{Link, NoMemory}
use Rattle.request_chain.specs.Exchanges.{IsExchange}
use Rattle.request_chain.specs.Plans.{unusable}

-- the loss by a link's error, where so many faults are counted
abbrev pub loss_by : ℕ → IoErr → Loss
loss_by count Fault = Link count
loss_by count NoRoom = NoMemory

-- one exchange came on top, that of the request, which was the first of its connection or not
pub record IsOpened (url : List ℕ) (asked : Asked) (fresh : Bool) (old new : List Exchange) : Type 0 where
  pub stream : Exchange
  pub on_top : new ≡ stream ∷ old
  pub exchange : IsExchange url asked stream
  pub nothing_came : stream.received ≡ []
  pub fresh_is : stream.fresh ≡ fresh
  pub not_ended : stream.ended ≡ false

-- what each loss says of a request that wasn't sent
abbrev pub IsUnopened : List ℕ → ℕ → List Exchange → List Exchange → ℕ → Loss → Type 0
IsUnopened url status old new faults (Link count) = (count ≡ faults) × IsHttp url × (new ≡ old)
IsUnopened url status old new faults NoMemory = new ≡ old
IsUnopened url status old new faults loss = (loss ≡ unusable status) × (IsHttp url → ⊥) × (new ≡ old)
