-- A turn of a worker leaves each download sound, unless it ended or memory was short.
use Rattle.std.proofs.Common.{◌≡◌, ◌≢◌, ℕ, Bool, true, false, Option, Some, None, List, [], ◌∷◌, inl, inr, refl, sym, ap, ◌∙◌, subst, ⊎_elim}
use Rattle.std.proofs.lemmas.Bool.{cases_eq}
use Rattle.std.proofs.lemmas.Option.{same_Some}
use Rattle.dl_kinds.specs.declared.claims.Claim.{Claim}
use Rattle.dl_kinds.specs.declared.gid.Gid.{Gid}
use Rattle.dl_kinds.specs.declared.marks.Mark.{Mark}
use Rattle.dl_history.proofs.Bools.{not_true, true_not_false}
use Rattle.dl_history.specs.HistoryLaws.{ProbesComeFirst}
use Rattle.dl_history.specs.OwnEvents.{OwnEvent}
use Rattle.dl_history.specs.PayloadParts.{is_ended, is_opened, is_sole_in}
use Rattle.dl_history.specs.StandingClaims.{is_probe}
use Rattle.mirror_blame.specs.Laws.{CountedAreTries}
use Rattle.machine_core.specs.Offers.{no_blocks, offered_claim}
use Rattle.machine_core.specs.OwnParts.{own_of}
use Rattle.machine_core.specs.Replays.{download_of}
use Rattle.machine_core.specs.RunLegal.{DownloadsAreLegal, IsLegal, download_in, is_listed, known_lengths}
use Rattle.machine_core.specs.Starts.{Download, RunStart}
use Rattle.machine_core.specs.declared.events.Event.{Event}
use Rattle.machine_core.specs.declared.events.Event.TheVariants.{Claimed, Ended}
use Rattle.machine_core.specs.declared.ends.End.{End}
use Rattle.machine_core.specs.declared.offers.Offer.{Offer}
use Rattle.machine_core.specs.declared.offers.Offer.TheVariants.{Whole, Blocks, Probe}
use Rattle.engine_turns.specs.ClaimRows.{LossPhase, TellingPhase, lost_piece, sole_phase}
use Rattle.engine_turns.specs.NextRows.{NextRow, OfferRow, OpenRow, whole_row}
use Rattle.engine_turns.specs.Phases.{AfterDisk, AndThen, EndingOr, JustEnd, JustEvent, NoEvent, OpeningPhase, Phase, SettlingPhase, TurnStart}
use Rattle.engine_turns.specs.RunTurns.{IsAnswered, OperationRow}
use Rattle.engine_turns.specs.SealRows.{SealPhase, SealRow}
use Rattle.engine_turns.specs.Standings.{AnswersUnlessStarved, IsHomeOf, RunStanding}
use Rattle.engine_turns.specs.Told.{history_after}
use Rattle.engine_turns.specs.declared.operations.Operation.{Operation}
use Rattle.engine_turns.specs.declared.operations.Operation.TheVariants as operation
use Rattle.engine_turns.specs.declared.operations.Said.{Said}
use Rattle.engine_turns.specs.declared.operations.Said.TheVariants.{NoMemory}
use Rattle.engine_turns.specs.declared.outcome.Outcome.{Outcome}
use Rattle.engine_turns.specs.declared.outcome.Outcome.TheVariants.{Went, Over, Starved}
use Rattle.verify_piece.specs.Seals.{PieceBytes}
use Rattle.offered_work.specs.WorkedTurns.{is_of_worker}
use Rattle.offered_work.proofs.Added.{added_gid}
use Rattle.offered_work.proofs.OwnSteps.{IsSound, NoPiece, asks_less}
use Rattle.offered_work.proofs.Parts.{IsAt, Leads, Leaves, LeavesOthers, lead_claim, lead_delivery, lead_ending, lead_loss, lead_none, lead_opening, lead_read, lead_settling, lead_telling, lead_then, found_at, lead_end}

-- ---- parts that can't be short of memory

abbrev IsFed : Phase → Type 0
IsFed P = (past events : List Event) → P past events Starved → ⊥

fed_then : (P Q : Phase) → IsFed P → IsFed Q → IsFed (AndThen P Q)
fed_then P Q first second past events (inl off) = first past events off.0
fed_then P Q first second past events (inr on) = second (history_after past on.front) on.rest on.second

fed_sole : (gid : Gid) (q : ℕ) (sole : Bool) → IsFed (sole_phase gid q sole)
fed_sole gid q true past events is = is
fed_sole gid q false past events is = is

fed_loss : (at : TurnStart) (before : List Event) (d : Download) (claim : Claim) (mark : Mark) (q : ℕ)
    → IsFed (LossPhase at before d claim mark q)
fed_loss at before d claim mark q =
    fed_then _ _ (λ past events is. is)
    (fed_then _ _ (fed_sole d.gid q (is_sole_in (own_of at.start before d.gid) q)) (λ past events is. is))

fed_telling : (d : Download) (claim : Claim) (total : ℕ) → IsFed (TellingPhase d claim total)
fed_telling d claim total =
    fed_then _ _ (λ past events is. is) (λ past events is. ⊎_elim (λ x. x.1) (λ x. x.1) is)

-- ---- all downloads

-- each download that hasn't ended is sound
abbrev pub AreSound : RunStart → List Event → Type 0
AreSound start past =
    (g : Gid) (x : Download) → download_in start past g ≡ Some x → is_ended (own_of start past g) ≡ false
    → IsSound x NoPiece NoPiece true (own_of start past g)

same_gid : (g h : Gid) → g.0 ≡ h.0 → g ≡ h
same_gid g h same = ap (λ (n : ℕ). record { 0 = n }) same

module _ (counts : CountedAreTries) (at : TurnStart) (s : RunStanding) (sound : AreSound at.start s.past) where
  -- behind the events each is sound
  abbrev pub Keeps : List Event → Type 0
  Keeps events = AreSound at.start (history_after s.past events)

  none_keeps : (events : List Event) → events ≡ [] → Keeps events
  none_keeps events none = subst (λ (es : List Event). Keeps es) (sym none) sound

  module _ (d : Download) (added : download_in at.start s.past d.gid ≡ Some d) where
    abbrev Sound : List OwnEvent → Type 0
    Sound = IsSound d NoPiece NoPiece true

    abbrev own : List Event → List OwnEvent
    own past = own_of at.start past d.gid

    same_here : (S : List OwnEvent → Type 0) → (is_ended (own s.past) ≡ false → S (own s.past))
        → IsAt counts at d s.past added S s.past
    same_here S is = record { rest = record { downloads = refl; others = λ g other. refl }; is = is }

    its : (past : List Event) → LeavesOthers counts at d s.past added past → (x : Download)
        → download_in at.start past d.gid ≡ Some x → x ≡ d
    its past rest x is =
        same_Some x d (sym is ∙ ap (λ (ds : List Download). download_of ds d.gid) rest.downloads ∙ added)

    others_sound : (past : List Event) → LeavesOthers counts at d s.past added past → (g : Gid) (x : Download)
        → (g ≡ d.gid → ⊥) → download_in at.start past g ≡ Some x → is_ended (own_of at.start past g) ≡ false
        → IsSound x NoPiece NoPiece true (own_of at.start past g)
    others_sound past rest g x other is going =
        let same = rest.others g other in
        subst (λ (o : List OwnEvent). IsSound x NoPiece NoPiece true o) (sym same)
        (sound g x (sym (ap (λ (ds : List Download). download_of ds g) rest.downloads) ∙ is)
        (ap is_ended (sym same) ∙ going))

    one_sound : (past : List Event) → LeavesOthers counts at d s.past added past
        → (is_ended (own past) ≡ false → Sound (own past)) → AreSound at.start past
    one_sound past rest here g x is going =
        ⊎_elim
        (λ (same : g.0 ≡ d.gid.0).
        let eq = same_gid g d.gid same in
        let y = its past rest x (ap (λ (h : Gid). download_in at.start past h) (sym eq) ∙ is) in
        subst (λ (z : Download). IsSound z NoPiece NoPiece true (own_of at.start past g)) (sym y)
        (subst (λ (h : Gid). Sound (own_of at.start past h)) (sym eq)
        (here (ap (λ (h : Gid). is_ended (own_of at.start past h)) (sym eq) ∙ going))))
        (λ (other : g.0 ≢ d.gid.0). others_sound past rest g x (λ e. other (ap (λ (h : Gid). h.0) e)) is going)
        (cases_eq g.0 d.gid.0)

    went : (past : List Event) (o : Outcome) → o ≢ Starved → Leaves counts at d s.past added Sound past o
        → AreSound at.start past
    went past Went fed is = one_sound past is.rest is.is
    went past Over fed is = one_sound past is.rest (λ going. true_not_false (is_ended (own past)) is.is going)
    went past Starved fed is = absurd (fed refl)

    -- a part of the turn keeps them sound
    part_keeps : (P : Phase) (events : List Event) (o : Outcome) → o ≢ Starved → (S : List OwnEvent → Type 0)
        → Leads counts at d s.past added S Sound P → (Sound (own s.past) → S (own s.past)) → P s.past events o
        → Keeps events
    part_keeps P events o fed S leads first came =
        went (history_after s.past events) o fed
        (leads s.past events o came (same_here S (λ going. first (sound d.gid d added going))))

    abbrev Leading : Phase → Type 0
    Leading P = Leads counts at d s.past added Sound Sound P

    whole_keeps : (P : Phase) (events : List Event) (o : Outcome) → o ≢ Starved → Leading P → P s.past events o
        → Keeps events
    whole_keeps P events o fed leads came = part_keeps P events o fed Sound leads (λ is. is) came

    claim_keeps : (events : List Event) (claim : Claim) → events ≡ Claimed d.gid claim ∷ [] → Keeps events
    claim_keeps events claim is =
        whole_keeps (JustEvent (Claimed d.gid claim)) events Went (λ e. absurd (let no_way : Went ≡ Starved = e in cc))
        (lead_claim counts at d s.past added claim) is

    end_keeps : (events : List Event) (how : End) → events ≡ Ended d.gid how ∷ [] → Keeps events
    end_keeps events how is =
        whole_keeps (JustEnd (Ended d.gid how)) events Over (λ e. absurd (let no_way : Over ≡ Starved = e in cc))
        (lead_end counts at d s.past added Sound Sound how) is

  -- ---- each row

  fed_by : (usual said : Said) (o : Outcome) → said ≢ NoMemory → AnswersUnlessStarved usual o said → o ≢ Starved
  fed_by usual said Went fed is e = absurd (let no_way : Went ≡ Starved = e in cc)
  fed_by usual said Over fed is e = absurd (let no_way : Over ≡ Starved = e in cc)
  fed_by usual said Starved fed is e = fed is

  never_starved : (P : Phase) (events : List Event) (o : Outcome) → IsFed P → P s.past events o → o ≢ Starved
  never_starved P events o fed came e = fed s.past events (subst (λ (x : Outcome). P s.past events x) e came)

  open_keeps : (d : Download) (events : List Event) (said : Said) → download_in at.start s.past d.gid ≡ Some d
      → said ≢ NoMemory → OpenRow at s d events said → Keeps events
  open_keeps d events said added fed (inl clashed) = end_keeps d added events clashed.0 clashed.2
  open_keeps d events said added fed (inr opening) =
      whole_keeps d added (AndThen (OpeningPhase at d.gid) (EndingOr at d NoEvent)) events opening.1.0
      (fed_by _ said opening.1.0 fed opening.1.2)
      (lead_then counts at d s.past added _ _ _ _ _ (lead_opening counts at d s.past added)
      (lead_ending counts at d s.past added NoEvent
      (lead_none counts at d s.past added (IsSound d NoPiece NoPiece true))))
      opening.1.1

  found_keeps : (d : Download) (q : ℕ) (right : Bool) (added : download_in at.start s.past d.gid ≡ Some d)
      → Leads counts at d s.past added (IsSound d NoPiece NoPiece false) (IsSound d NoPiece NoPiece true)
      (AndThen (SettlingPhase at d q right) (EndingOr at d NoEvent))
  found_keeps d q right added =
      lead_then counts at d s.past added _ _ _ _ _ (lead_settling counts at d s.past added q right)
      (lead_ending counts at d s.past added NoEvent
      (lead_none counts at d s.past added (IsSound d NoPiece NoPiece true)))

  read_keeps : (d : Download) (events : List Event) → download_in at.start s.past d.gid ≡ Some d
      → AfterDisk at d.gid [] s.past events Over → Keeps events
  read_keeps d events added is =
      whole_keeps d added (AfterDisk at d.gid []) events Over (λ e. absurd (let no_way : Over ≡ Starved = e in cc))
      (lead_read counts at d s.past added (IsSound d NoPiece NoPiece true)) is

  piece_keeps : (d : Download) (q : ℕ) (listed : Bool) (events : List Event) (said : Said)
      → download_in at.start s.past d.gid ≡ Some d → said ≢ NoMemory → whole_row at s d q listed events said
      → Keeps events
  piece_keeps d q true events said added fed (inl hash) = none_keeps events hash.is.0
  piece_keeps d q true events said added fed (inr (inl fault)) = read_keeps d events added fault.0
  piece_keeps d q true events said added fed (inr (inr starved)) = none_keeps events starved.0
  piece_keeps d q false events said added fed (o, came, answer) =
      part_keeps d added (AndThen (SettlingPhase at d q true) (EndingOr at d NoEvent)) events o
      (fed_by _ said o fed answer) (IsSound d NoPiece NoPiece false) (found_keeps d q true added)
      (asks_less d NoPiece NoPiece (own_of at.start s.past d.gid)) came

  offer_keeps : (worker : ℕ) (d : Download) (offer : Offer) (events : List Event) (said : Said)
      → download_in at.start s.past d.gid ≡ Some d → said ≢ NoMemory → OfferRow at s worker d offer events said
      → Keeps events
  offer_keeps worker d (Whole q) events said added fed row =
      piece_keeps d q (is_listed d.subject) events said added fed row
  offer_keeps worker d (Blocks mirror run victim) events said added fed row =
      claim_keeps d added events (offered_claim mirror run victim row.grant.claim worker at.now.0) row.claimed
  offer_keeps worker d (Probe mirror) events said added fed row =
      claim_keeps d added events (offered_claim mirror no_blocks None row.id worker at.now.0) row.claimed

  next_keeps : (worker : ℕ) (events : List Event) (said : Said) → said ≢ NoMemory → NextRow at s worker events said
      → Keeps events
  next_keeps worker events said fed (inl opening) =
      open_keeps opening.download events said opening.added fed opening.row
  next_keeps worker events said fed (inr (none, inl given)) =
      offer_keeps worker given.download given.offer events said given.added fed given.row
  next_keeps worker events said fed (inr (none, inr (inl held))) = none_keeps events held.2.0
  next_keeps worker events said fed (inr (none, inr (inr idling))) = none_keeps events idling.1.0

  seal_keeps : (gid : Gid) (sealed : PieceBytes) (events : List Event) (said : Said) → said ≢ NoMemory
      → SealRow at s gid sealed events said → Keeps events
  seal_keeps gid sealed events said fed (inl void) = none_keeps events void.0
  seal_keeps gid sealed events said fed (inr settled) =
      let d = settled.1.download in
      let added : download_in at.start s.past d.gid ≡ Some d =
      ap (λ (g : Gid). download_in at.start s.past g) (added_gid at.start s.past gid d settled.1.added)
      ∙ settled.1.added in
      whole_keeps d added (SealPhase at d sealed) events settled.1.outcome
      (fed_by _ said settled.1.outcome fed settled.1.answer)
      (lead_then counts at d s.past added _ _ _ _ _
      (lead_read counts at d s.past added (IsSound d NoPiece NoPiece true))
      (λ past es o came was.
      found_keeps d sealed.piece _ added past es o came (found_at counts at d s.past added past was)))
      settled.1.is

  module _ (legal : IsLegal at.start s.past) (legals : DownloadsAreLegal) (probes : ProbesComeFirst) where
    unopened : (id : ℕ) (d : Download) (claim : Claim) → IsHomeOf at.start s.past id d claim → is_probe claim ≡ true
        → is_opened (own_of at.start s.past d.gid) ≡ false
    unopened id d claim home probe =
        let l = known_lengths at.start s.past d.gid in
        let own = own_of at.start s.past d.gid in
        not_true (is_opened own) (λ opened.
        true_not_false (is_probe claim) probe
        ((probes l.total l.piece_len own claim (legals at.start s.past d.gid legal) home.stands).blocks opened))

    claim_row_keeps : (op : Operation) (events : List Event) (said : Said) → said ≢ NoMemory → is_of_worker op ≡ true
        → OperationRow at s op events said → Keeps events
    claim_row_keeps (operation.Call session call now) events said fed of row = absurd cc
    claim_row_keeps (operation.Next worker now) events said fed of row = next_keeps worker events said fed row
    claim_row_keeps (operation.Deliver claim run bytes now) events said fed of (inl none) = none_keeps events none.1.0
    claim_row_keeps (operation.Deliver claim run bytes now) events said fed of (inr (d, c, home, inl (is, kept))) =
        whole_keeps d home.added _ events kept.outcome (fed_by _ said kept.outcome fed kept.answer)
        (lead_delivery counts at d s.past home.added s.past c kept.runs) kept.is
    claim_row_keeps (operation.Deliver claim run bytes now) events said fed of (inr (d, c, home, inr void)) =
        none_keeps events void.1.0
    claim_row_keeps (operation.More claim want now) events said fed of (inl none) = none_keeps events none.1.0
    claim_row_keeps (operation.More claim want now) events said fed of (inr (d, c, home, more)) =
        none_keeps events more.0
    claim_row_keeps (operation.Lose claim mark now) events said fed of (inl none) = none_keeps events none.1.0
    claim_row_keeps (operation.Lose claim mark now) events said fed of (inr (d, c, home, (o, came, answer))) =
        let q = lost_piece at.start s.past d.gid c in
        let P : Phase = LossPhase at s.past d c mark q in
        whole_keeps d home.added P events o (never_starved P events o (fed_loss at s.past d c mark q) came)
        (lead_loss counts at d s.past home.added s.past c mark q) came
    claim_row_keeps (operation.Sized claim total now) events said fed of (inl none) = none_keeps events none.1.0
    claim_row_keeps (operation.Sized claim total now) events said fed of
        (inr (d, c, home, inl (probe, (o, came, answer)))) =
        part_keeps d home.added (TellingPhase d c total) events o
        (never_starved (TellingPhase d c total) events o (fed_telling d c total) came)
        (λ own. (is_opened own ≡ false) × IsSound d NoPiece NoPiece true own)
        (lead_telling counts at d s.past home.added c total)
        (λ is. (unopened claim d c home probe, is)) came
    claim_row_keeps (operation.Sized claim total now) events said fed of (inr (d, c, home, inr void)) =
        none_keeps events void.1.0
    claim_row_keeps (operation.Seal gid sealed now) events said fed of row = seal_keeps gid sealed events said fed row
    claim_row_keeps operation.Pulse events said fed of row = absurd cc
    claim_row_keeps (operation.Notices from) events said fed of row = absurd cc
    claim_row_keeps operation.Leave events said fed of row = absurd cc
    claim_row_keeps (operation.Stop now) events said fed of row = absurd cc

    -- a turn of a worker that wasn't short of memory keeps each download sound
    pub worked_keeps : (op : Operation) (events : List Event) (said : Said) (before : Option Said) → said ≢ NoMemory
        → is_of_worker op ≡ true → IsAnswered at s op events said before → Keeps events
    worked_keeps op events said (Some answer) fed of is = none_keeps events is.0
    worked_keeps op events said None fed of (inl starved) = none_keeps events starved.1.0
    worked_keeps op events said None fed of (inr row) = claim_row_keeps op events said fed of row
