-- A probe, as its streams come.
use Rattle.std.proofs.Common.{◌≡◌, ℕ, zero, suc, ◌+◌, ◌-◌, ◌*◌, ◌<◌, ◌≤◌, Bool, true, false, List, [], ◌∷◌, ◌++◌, length, drop, refl, sym, ap, subst, ◌∙◌, inl, inr, arith, append-nil, length-append, length-drop}
use Rattle.std.specs.Prelude.{◌⊎◌}
use Rattle.dl_kinds.specs.declared.outside.IoErr.{IoErr}
use Rattle.dl_kinds.specs.declared.outside.IoErr.TheVariants.{Fault, NoMemory as NoRoom}
use Rattle.link_source.specs.Exchanges.{Exchange, with_received}
use Rattle.http_heads.specs.declared.head.Head.{Head}
use Rattle.reply_reader.specs.Heads.{HasInterims, IsAtHead, IsHeadDue, HasNoFinalHead, HasFinalHead}
use Rattle.reply_reader.specs.declared.heads.HeadReader.{HeadReader}
use Rattle.reply_reader.specs.declared.loss.Loss.{Loss}
use Rattle.reply_reader.specs.declared.loss.Loss.TheVariants as losses
use Rattle.request_chain.specs.Probes.{Probe, Due, Lost, probe_asked, ProbeAnswers}
use Rattle.request_chain.specs.Searches.{Awaits, HasHeadAnd, NewestTells, HeadLost}
use Rattle.request_chain.specs.Sending.{IsOpened, loss_by}
use Rattle.request_chain.proofs.SentLemmas.{with_bytes, same_exchange}

-- ---- how many bytes heads have

interims_fit : (count : ℕ) (bytes : List ℕ) (used : ℕ) → HasInterims bytes count used → used ≤ count * 65536
unfolding HasInterims
interims_fit zero bytes used interims = omega (arith, interims)
interims_fit (suc count) bytes used interims =
    let rest = interims_fit count (drop interims.1 bytes) interims.2 interims.5 in
    omega (arith, rest, interims.3.bytes_fit, interims.6)

-- a ninth interim head came before so many bytes
heads_fit : (bytes : List ℕ) (reader : HeadReader) → IsAtHead bytes reader → length bytes < 589824
heads_fit bytes reader at =
    let before = interims_fit reader.interims bytes at.behind.before at.behind.interims in
    omega (arith, before, at.behind.few, at.short, ap length at.behind.waiting, length-drop at.behind.before bytes)

module _ (url : List ℕ) (before now new : List Exchange) (most : ℕ) (reader : HeadReader) (awaits : Awaits url before now most [] reader) where
  all_read : awaits.stream.received ≡ awaits.front
  all_read = awaits.received_is ∙ append-nil awaits.front

  -- nothing more may come
  pub none_left : most ≡ 0 → {A : Type 0} → A
  none_left none = absurd (omega (arith, awaits.room, none, heads_fit awaits.front reader awaits.at, ap length all_read))

  -- the newest stream, if its end was told or not, tells this
  tells_still : (probe : Probe) → ProbeAnswers awaits.stream.received false probe → new ≡ now → NewestTells url before new probe
  tells_still probe answers same =
      let P : Bool → Type 0 = λ ended. ProbeAnswers awaits.stream.received ended probe in
      (awaits.stream, same ∙ awaits.on_top, (awaits.exchange, awaits.fresh_is, subst P (sym awaits.not_ended) answers))

  ended_top : new ≡ with_received [] now → new ≡ with_bytes awaits.stream awaits.stream.received true ∷ before
  ended_top is = is ∙ ap (with_received []) awaits.on_top

  tells_ended : (probe : Probe) → ProbeAnswers awaits.stream.received true probe → new ≡ with_received [] now → NewestTells url before new probe
  tells_ended probe answers is =
      (with_bytes awaits.stream awaits.stream.received true, ended_top is, (same_exchange url probe_asked awaits.stream awaits.stream.received true awaits.exchange, awaits.fresh_is, answers))

  none_tells : (ended : Bool) → ((front : List ℕ) → IsAtHead front reader → HasNoFinalHead front) → ProbeAnswers awaits.stream.received ended (Lost losses.BadReply)
  none_tells ended none =
      let P : List ℕ → Type 0 = HasNoFinalHead in
      inr (inl (subst P (sym all_read) (none awaits.front awaits.at), refl))

  pub unchecked_ended : (faults : ℕ) (loss : Loss) → ((loss ≡ losses.NoMemory) ⊎ ((loss ≡ losses.BadReply) × ((front : List ℕ) → IsAtHead front reader → HasNoFinalHead front)))
      → new ≡ with_received [] now → HeadLost url before new faults loss
  unchecked_ended faults loss lost is =
      let P : Loss → Type 0 = λ l. HeadLost url before new faults l in
      elim lost [
        | inl room ↦ subst P (sym room) (with_bytes awaits.stream awaits.stream.received true, ended_top is)
        | inr none ↦ subst P (sym none.0) (tells_ended (Lost losses.BadReply) (none_tells true none.1) is)
      ]

  pub unchecked_still : (faults : ℕ) (loss : Loss) → ((loss ≡ losses.NoMemory) ⊎ ((loss ≡ losses.BadReply) × ((front : List ℕ) → IsAtHead front reader → HasNoFinalHead front)))
      → new ≡ now → HeadLost url before new faults loss
  unchecked_still faults loss lost same =
      let P : Loss → Type 0 = λ l. HeadLost url before new faults l in
      elim lost [
        | inl room ↦ subst P (sym room) (awaits.stream, same ∙ awaits.on_top)
        | inr none ↦ subst P (sym none.0) (tells_still (Lost losses.BadReply) (none_tells false none.1) same)
      ]

  due_now : ((front : List ℕ) → IsAtHead front reader → IsHeadDue front) → IsHeadDue awaits.stream.received
  due_now due = let P : List ℕ → Type 0 = IsHeadDue in subst P (sym all_read) (due awaits.front awaits.at)

  pub short_ended : (faults : ℕ) → ((front : List ℕ) → IsAtHead front reader → IsHeadDue front) → new ≡ with_received [] now → HeadLost url before new faults (losses.Short 0)
  short_ended faults due is = tells_ended (Lost (losses.Short 0)) (inl (due_now due, refl)) is

  pub link_lost : (faults : ℕ) (error : IoErr) (loss : Loss) → loss ≡ loss_by faults error → ((front : List ℕ) → IsAtHead front reader → IsHeadDue front) → new ≡ now
      → HeadLost url before new faults loss
  link_lost faults Fault loss is due same =
      let P : Loss → Type 0 = λ l. HeadLost url before new faults l in
      subst P (sym is) (refl, tells_still Due (inl (due_now due, refl)) same)
  link_lost faults NoRoom loss is due same =
      let P : Loss → Type 0 = λ l. HeadLost url before new faults l in
      subst P (sym is) (awaits.stream, same ∙ awaits.on_top)

  -- more came
  pub more_came : (came : List ℕ) (count : ℕ) → count ≡ length came → 0 < length came → count ≤ most → new ≡ with_received came now
      → Awaits url before new (most - count) came reader
  more_came [] count is some few received = absurd (omega arith)
  more_came (byte ∷ came) count is some few received =
      let long = length-append awaits.stream.received (byte ∷ came) in
      record {
        stream = record awaits.stream { received = awaits.stream.received ++ byte ∷ came };
        on_top = received ∙ ap (with_received (byte ∷ came)) awaits.on_top;
        exchange = same_exchange url probe_asked awaits.stream (awaits.stream.received ++ byte ∷ came) awaits.stream.ended awaits.exchange;
        fresh_is = awaits.fresh_is;
        not_ended = awaits.not_ended;
        front = awaits.front;
        received_is = ap (λ b. b ++ byte ∷ came) all_read;
        at = awaits.at;
        room = omega (arith, long, awaits.room, is, few);
      }

-- the request was sent
pub opened_awaits : (url : List ℕ) (before now : List Exchange) (reader : HeadReader) → IsAtHead [] reader → IsOpened url probe_asked true before now → Awaits url before now 589824 [] reader
opened_awaits url before now reader at opened = record {
  stream = opened.stream;
  on_top = opened.on_top;
  exchange = opened.exchange;
  fresh_is = opened.fresh_is;
  not_ended = opened.not_ended;
  front = [];
  received_is = opened.nothing_came;
  at = at;
  room = omega (arith, ap length opened.nothing_came);
}

module _ (url : List ℕ) (before now : List Exchange) (left : ℕ) (waiting : List ℕ) (reader : HeadReader) (awaits : Awaits url before now left waiting reader) where
  pub read_more : (next : HeadReader) → IsAtHead (awaits.front ++ waiting) next → Awaits url before now left [] next
  read_more next at = record {
    stream = awaits.stream;
    on_top = awaits.on_top;
    exchange = awaits.exchange;
    fresh_is = awaits.fresh_is;
    not_ended = awaits.not_ended;
    front = awaits.front ++ waiting;
    received_is = awaits.received_is ∙ sym (append-nil (awaits.front ++ waiting));
    at = at;
    room = awaits.room;
  }

  pub read_whole : (head : Head) (used : ℕ) (rest : List ℕ) → HasFinalHead (awaits.front ++ waiting) head (length awaits.front + used) → used ≤ length waiting
      → rest ≡ drop used waiting → HasHeadAnd url before now rest head
  read_whole head used rest begins few rest_is =
      let P : List ℕ → Type 0 = λ received. HasFinalHead received head (length awaits.front + used) in
      record {
        has = record {
          stream = awaits.stream;
          on_top = awaits.on_top;
          exchange = awaits.exchange;
          fresh_is = awaits.fresh_is;
          used = length awaits.front + used;
          begins = subst P (sym awaits.received_is) begins;
        };
        not_ended = awaits.not_ended;
        behind = omega (arith, ap length awaits.received_is, length-append awaits.front waiting, length-drop used waiting, few, ap length rest_is);
        few = omega (arith, awaits.room);
      }

  pub read_none : (faults : ℕ) → HasNoFinalHead (awaits.front ++ waiting) → HeadLost url before now faults losses.BadReply
  read_none faults none =
      let P : List ℕ → Type 0 = HasNoFinalHead in
      (awaits.stream, awaits.on_top, (awaits.exchange, awaits.fresh_is, inr (inl (subst P (sym awaits.received_is) none, refl))))

  pub read_room : (faults : ℕ) → HeadLost url before now faults losses.NoMemory
  read_room faults = (awaits.stream, awaits.on_top)
