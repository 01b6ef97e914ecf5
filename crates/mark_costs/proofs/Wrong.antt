-- A piece that a turn finds wrong is cleared in the same turn, where memory suffices and the disk doesn't fail.
use Rattle.std.proofs.Common.{◌≡◌, ◌≢◌, ⊎_elim, inl, inr, ℕ, ◌≤◌, ◌++◌, append_assoc, Bool, true, false, cond, List, [], ◌∷◌, refl, sym, ap, ◌∙◌, subst, arith}
use Rattle.std.specs.Prelude.{Contains, ◌==◌}
use Rattle.std.proofs.lemmas.Bool.{eq-eqb}
use Rattle.std.proofs.lemmas.List.Elements.{Contains-append_left, Contains-append_right}
use Rattle.dl_history.specs.OwnEvents.{Clears, OwnEvent}
use Rattle.dl_history.specs.PayloadParts.{is_alive, source_by, source_in}
use Rattle.dl_kinds.specs.Plan.{piece_of}
use Rattle.dl_kinds.specs.declared.gid.Gid.{Gid}
use Rattle.dl_kinds.specs.declared.marks.Mark.{Mark}
use Rattle.engine_turns.specs.ClaimRows.{LoseRow, sole_phase}
use Rattle.engine_turns.specs.Phases.{AfterDisk, AndThen, BreaksOff, CheckedPhase, CompletionPhase, ContinuesWith, DeadPhase, EndingOr, FindingPhase, IsWantedVerified, JustEvent, NoEvent, Phase, SavePhase, SettlingPhase, TurnStart, UnlistingPhase, WrongPhase, after_finding_phase}
use Rattle.engine_turns.specs.SealRows.{SealRow, has_listed_digest}
use Rattle.engine_turns.specs.Standings.{AnswersUnlessStarved, OfClaim, RunStanding}
use Rattle.engine_turns.specs.Told.{history_after}
use Rattle.engine_turns.specs.declared.operations.Said.{Said}
use Rattle.engine_turns.specs.declared.operations.Said.TheVariants.{Done, NoMemory}
use Rattle.engine_turns.specs.declared.outcome.Outcome.{Outcome}
use Rattle.engine_turns.specs.declared.outcome.Outcome.TheVariants.{Over, Starved, Went}
use Rattle.machine_core.specs.OwnParts.{own_of}
use Rattle.machine_core.specs.Reads.{IsUnlistedIn}
use Rattle.machine_core.specs.Replays.{is_same_gid}
use Rattle.machine_core.specs.RunLegal.{has_checksum}
use Rattle.machine_core.specs.Starts.{Download, RunStart}
use Rattle.machine_core.specs.declared.ends.End.{End}
use Rattle.machine_core.specs.declared.ends.End.TheVariants as end
use Rattle.machine_core.specs.declared.events.Event.{Event}
use Rattle.machine_core.specs.declared.events.Event.TheVariants.{Checked, Cleared, Ended, Lost, Saved, Settled}
use Rattle.piece_table.specs.Changes.{Absent, From, Source}
use Rattle.piece_table.specs.declared.giver.Giver.{Giver}
use Rattle.piece_table.specs.declared.giver.Giver.TheVariants.{One}
use Rattle.stored_run.proofs.OfOne.{AllowsOnly, Each, dead_in, disk_in, else_in, end_disk_in, end_in, event_in, none_in, then_in}
use Rattle.stored_run.proofs.PlainEvents.{gid_added}
use Rattle.verify_piece.specs.Seals.{PieceBytes}
use Rattle.blameless_mirrors.proofs.Rows.{of_each}
use Rattle.mark_costs.proofs.Counting.{FewMarks, MarksIt, few_none, few_one, few_then, marked}

-- ---- what isn't a finding

-- the event is no finding
abbrev pub FindsNot : Event → Type 0
FindsNot e = (gid : Gid) (piece : ℕ) (right : Bool) (giver : Giver) → e ≡ Settled gid piece right giver → ⊥

-- .. nor a loss
abbrev pub LosesNot : Event → Type 0
LosesNot e = (gid : Gid) (id mirror piece : ℕ) (mark : Mark) → e ≡ Lost gid id mirror piece mark → ⊥

-- neither of them
pub record IsQuiet (e : Event) : Type 0 where
  pub finds : FindsNot e
  pub loses : LosesNot e

quiet_end : (gid : Gid) (how : End) → IsQuiet (Ended gid how)
quiet_end gid how = record { finds = λ g p r v is. absurd cc; loses = λ g i m p k is. absurd cc }

quiet_saved : (gid : Gid) (at : TurnStart) → IsQuiet (Saved gid at.now)
quiet_saved gid at = record { finds = λ g p r v is. absurd cc; loses = λ g i m p k is. absurd cc }

quiet_checked : (gid : Gid) (right : Bool) → IsQuiet (Checked gid right)
quiet_checked gid right = record { finds = λ g p r v is. absurd cc; loses = λ g i m p k is. absurd cc }

quiet_cleared : (gid : Gid) (piece : ℕ) → IsQuiet (Cleared gid piece)
quiet_cleared gid piece = record { finds = λ g p r v is. absurd cc; loses = λ g i m p k is. absurd cc }

quiet_disk : (at : TurnStart) (gid : Gid) (due : List Event) → Each IsQuiet due → AllowsOnly IsQuiet (AfterDisk at gid due)
quiet_disk at gid due all = disk_in IsQuiet at gid due all (λ count. quiet_end gid (end.Disk count))

quiet_completion : (at : TurnStart) (gid : Gid) (check : Bool) → AllowsOnly IsQuiet (CompletionPhase at gid check)
quiet_completion at gid false past events o is =
    end_disk_in IsQuiet at gid end.Complete (quiet_end gid end.Complete) (λ count. quiet_end gid (end.Disk count)) past events o is
quiet_completion at gid true past events o is =
    then_in IsQuiet (AfterDisk at gid (Checked gid is.0 ∷ [])) (CheckedPhase at gid is.0)
    (quiet_disk at gid (Checked gid is.0 ∷ []) (quiet_checked gid is.0, tt)) (checked is.0) past events o is.1
  where
    checked : (right : Bool) → AllowsOnly IsQuiet (CheckedPhase at gid right)
    checked true = end_disk_in IsQuiet at gid end.Complete (quiet_end gid end.Complete) (λ count. quiet_end gid (end.Disk count))
    checked false = end_in IsQuiet (Ended gid end.Checksum) (quiet_end gid end.Checksum)

quiet_ending : (at : TurnStart) (download : Download) → AllowsOnly IsQuiet (EndingOr at download NoEvent)
quiet_ending at download past =
    else_in IsQuiet (IsWantedVerified at.start past download) (CompletionPhase at download.gid (has_checksum download)) NoEvent
    (quiet_completion at download.gid (has_checksum download)) (none_in IsQuiet) past

pub quiet_dead : (at : TurnStart) (download : Download) (piece : ℕ) → AllowsOnly IsQuiet (DeadPhase at download piece)
quiet_dead at download piece = dead_in IsQuiet at download piece (λ how other. quiet_end download.gid how)

quiet_unlisting : (at : TurnStart) (gid : Gid) (piece : ℕ) → AllowsOnly IsQuiet (UnlistingPhase at gid piece)
quiet_unlisting at gid piece past =
    else_in IsQuiet (IsUnlistedIn at.start past gid piece) NoEvent (SavePhase at gid) (none_in IsQuiet)
    (quiet_disk at gid (Saved gid at.now ∷ []) (quiet_saved gid at, tt)) past

quiet_wrong : (at : TurnStart) (download : Download) (piece : ℕ) → AllowsOnly IsQuiet (WrongPhase at download piece)
quiet_wrong at download piece =
    then_in IsQuiet (UnlistingPhase at download.gid piece)
    (AndThen (JustEvent (Cleared download.gid piece)) (DeadPhase at download piece)) (quiet_unlisting at download.gid piece)
    (then_in IsQuiet (JustEvent (Cleared download.gid piece)) (DeadPhase at download piece)
    (event_in IsQuiet (Cleared download.gid piece) (quiet_cleared download.gid piece)) (quiet_dead at download piece))

quiet_after : (at : TurnStart) (download : Download) (piece : ℕ) (right : Bool)
    → AllowsOnly IsQuiet (after_finding_phase at download piece right)
quiet_after at download piece true = none_in IsQuiet
quiet_after at download piece false = quiet_wrong at download piece

pub quiet_sole : (gid : Gid) (piece : ℕ) (sole : Bool) → AllowsOnly IsQuiet (sole_phase gid piece sole)
quiet_sole gid piece true = event_in IsQuiet (Cleared gid piece) (quiet_cleared gid piece)
quiet_sole gid piece false = none_in IsQuiet

-- ---- how many marks

module _ (gid : Gid) (mirror piece : ℕ) where
  unmarked : (e : Event) → IsQuiet e → ¬ MarksIt gid mirror piece e
  unmarked e quiet (inl lost) = quiet.loses gid lost.0 mirror piece lost.1 lost.2
  unmarked e quiet (inr found) = quiet.finds gid piece false (One mirror) found

  each_unmarked : (events : List Event) → Each IsQuiet events → Each (λ e. ¬ MarksIt gid mirror piece e) events
  each_unmarked [] all = tt
  each_unmarked (e ∷ events) (here, all) = (unmarked e here, each_unmarked events all)

  few_quiet : (P : Phase) → AllowsOnly IsQuiet P → FewMarks gid mirror piece 0 P
  few_quiet P quiet = few_none gid mirror piece P (λ past events o is. each_unmarked events (quiet past events o is))

  few_event : (e : Event) → FewMarks gid mirror piece 1 (JustEvent e)
  few_event e past events Went is =
      subst (λ (es : List Event). marked gid mirror piece es ≤ 1) (sym is) (few_one gid mirror piece e)
  few_event e past events Over is = absurd is
  few_event e past events Starved is = absurd is

  few_finding : (at : TurnStart) (g : Gid) (p : ℕ) (right : Bool) → FewMarks gid mirror piece 1 (FindingPhase at g p right)
  few_finding at g p right past events Went is =
      subst (λ (es : List Event). marked gid mirror piece es ≤ 1) (sym is.2) (few_one gid mirror piece (Settled g p right is.0))
  few_finding at g p right past events Over is = absurd is
  few_finding at g p right past events Starved is = absurd is

  -- a loss marks once at most
  pub few_lose : (at : TurnStart) (s : RunStanding) (id : ℕ) (mark : Mark) (events : List Event) (said : Said)
      → OfClaim at s id (LoseRow at s mark) events said → marked gid mirror piece events ≤ 1
  few_lose at s id mark events said (inl none) =
      subst (λ (es : List Event). marked gid mirror piece es ≤ 1) (sym none.1.0) (omega arith)
  few_lose at s id mark events said (inr row) =
      few_then gid mirror piece 1 0 (JustEvent (Lost row.0.gid row.1.id row.1.mirror _ mark))
      (AndThen (sole_phase row.0.gid _ _) (DeadPhase at row.0 _)) (few_event (Lost row.0.gid row.1.id row.1.mirror _ mark))
      (few_quiet (AndThen (sole_phase row.0.gid _ _) (DeadPhase at row.0 _))
      (then_in IsQuiet (sole_phase row.0.gid _ _) (DeadPhase at row.0 _) (quiet_sole row.0.gid _ _) (quiet_dead at row.0 _)))
      s.past events row.3.0 row.3.1

  -- nor does a seal
  pub few_seal : (at : TurnStart) (s : RunStanding) (g : Gid) (sealed : PieceBytes) (events : List Event) (said : Said)
      → SealRow at s g sealed events said → marked gid mirror piece events ≤ 1
  few_seal at s g sealed events said (inl void) =
      subst (λ (es : List Event). marked gid mirror piece es ≤ 1) (sym void.0) (omega arith)
  few_seal at s g sealed events said (inr settles) =
      let one = settles.1 in
      let right : Bool = has_listed_digest one.download.subject sealed in
      few_then gid mirror piece 0 1 (AfterDisk at one.download.gid [])
      (AndThen (SettlingPhase at one.download sealed.piece right) (EndingOr at one.download NoEvent))
      (few_quiet (AfterDisk at one.download.gid []) (quiet_disk at one.download.gid [] tt))
      (few_then gid mirror piece 1 0 (SettlingPhase at one.download sealed.piece right) (EndingOr at one.download NoEvent)
      (few_then gid mirror piece 1 0 (FindingPhase at one.download.gid sealed.piece right)
      (after_finding_phase at one.download sealed.piece right) (few_finding at one.download.gid sealed.piece right)
      (few_quiet (after_finding_phase at one.download sealed.piece right) (quiet_after at one.download sealed.piece right)))
      (few_quiet (EndingOr at one.download NoEvent) (quiet_ending at one.download)))
      s.past events one.outcome one.is

-- ---- what is cleared

-- among the events the piece is cleared
pub record ClearsAmong (gid : Gid) (piece : ℕ) (events : List Event) : Type 0 where
  pub front : List Event
  pub rest : List Event
  pub cut : events ≡ front ++ Cleared gid piece ∷ rest

clears_later : (gid : Gid) (piece : ℕ) (xs ys events : List Event) → events ≡ xs ++ ys → ClearsAmong gid piece ys
    → ClearsAmong gid piece events
clears_later gid piece xs ys events cut c = record {
  front = xs ++ c.front;
  rest = c.rest;
  cut = cut ∙ ap (λ (l : List Event). xs ++ l) c.cut ∙ sym (append_assoc xs c.front (Cleared gid piece ∷ c.rest));
}

clears_sooner : (gid : Gid) (piece : ℕ) (xs ys events : List Event) → events ≡ xs ++ ys → ClearsAmong gid piece xs
    → ClearsAmong gid piece events
clears_sooner gid piece xs ys events cut c = record {
  front = c.front;
  rest = c.rest ++ ys;
  cut = cut ∙ ap (λ (l : List Event). l ++ ys) c.cut ∙ append_assoc c.front (Cleared gid piece ∷ c.rest) ys;
}

-- the disk failed at no download among the events
abbrev pub NoFault : List Event → Type 0
NoFault events = (gid : Gid) (count : ℕ) → ¬ Contains events (Ended gid (end.Disk count))

pub first_fault : (gid : Gid) (count : ℕ) (events : List Event) → events ≡ Ended gid (end.Disk count) ∷ [] → ¬ NoFault events
first_fault gid count events is none =
    none gid count (subst (λ (es : List Event). Contains es (Ended gid (end.Disk count))) (sym is) (0, omega arith, refl))

pub fault_left : (xs ys events : List Event) → events ≡ xs ++ ys → NoFault events → NoFault xs
fault_left xs ys events cut none gid count there =
    none gid count (subst (λ (es : List Event). Contains es (Ended gid (end.Disk count))) (sym cut)
    (Contains-append_left xs ys (Ended gid (end.Disk count)) there))

pub fault_right : (xs ys events : List Event) → events ≡ xs ++ ys → NoFault events → NoFault ys
fault_right xs ys events cut none gid count there =
    none gid count (subst (λ (es : List Event). Contains es (Ended gid (end.Disk count))) (sym cut)
    (Contains-append_right xs ys (Ended gid (end.Disk count)) there))

module _ (at : TurnStart) (download : Download) (piece : ℕ) where
  save_goes : (past events : List Event) (o : Outcome) → SavePhase at download.gid past events o → (o ≡ Starved → ⊥)
      → (o ≢ Went) → NoFault events → ⊥
  save_goes past events Went is fed off none = off refl
  save_goes past events Over is fed off none = first_fault download.gid is.0 events is.2 none
  save_goes past events Starved is fed off none = fed refl

  none_goes : (past events : List Event) (o : Outcome) → NoEvent past events o → (o ≢ Went) → ⊥
  none_goes past events Went is off = off refl
  none_goes past events Over is off = is
  none_goes past events Starved is off = is

  unlisting_goes : (past events : List Event) (o : Outcome) → UnlistingPhase at download.gid piece past events o
      → (o ≡ Starved → ⊥) → (o ≢ Went) → NoFault events → ⊥
  unlisting_goes past events o (inl is) fed off none = none_goes past events o is.1 off
  unlisting_goes past events o (inr is) fed off none = save_goes past events o is.1 fed off none

  event_goes : {P : Type 0} (e : Event) (past events : List Event) (o : Outcome) → JustEvent e past events o → (o ≢ Went) → P
  event_goes e past events Went is off = absurd (off refl)
  event_goes e past events Over is off = absurd is
  event_goes e past events Starved is off = absurd is

  wrong_clears : (past events : List Event) (o : Outcome) → WrongPhase at download piece past events o
      → (o ≡ Starved → ⊥) → NoFault events → ClearsAmong download.gid piece events
  wrong_clears past events o (inl off) fed none = absurd (unlisting_goes past events o off.0 fed off.1 none)
  wrong_clears past events o (inr on) fed none = ⊎_elim
      (λ (off : BreaksOff (JustEvent (Cleared download.gid piece)) (history_after past on.front) on.rest o).
      event_goes (Cleared download.gid piece) (history_after past on.front) on.rest o off.0 off.1)
      (λ (more : ContinuesWith (JustEvent (Cleared download.gid piece)) (DeadPhase at download piece)
      (history_after past on.front) on.rest o).
      record {
        front = on.front;
        rest = more.rest;
        cut = on.cut ∙ ap (λ (l : List Event). on.front ++ l) (more.cut ∙ ap (λ (l : List Event). l ++ more.rest) more.first);
      })
      on.second

  finding_goes : {P : Type 0} (right : Bool) (past events : List Event) (o : Outcome)
      → FindingPhase at download.gid piece right past events o → (o ≢ Went) → P
  finding_goes right past events Went is off = absurd (off refl)
  finding_goes right past events Over is off = absurd is
  finding_goes right past events Starved is off = absurd is

  settling_clears : (past events : List Event) (o : Outcome) → SettlingPhase at download piece false past events o
      → (o ≡ Starved → ⊥) → NoFault events → ClearsAmong download.gid piece events
  settling_clears past events o (inl off) fed none = finding_goes false past events o off.0 off.1
  settling_clears past events o (inr on) fed none =
      clears_later download.gid piece on.front on.rest events on.cut
      (wrong_clears (history_after past on.front) on.rest o on.second fed
      (fault_right on.front on.rest events on.cut none))

  went_fed : Went ≡ Starved → ⊥
  went_fed same = absurd cc

  -- no wrong finding comes with a right one
  abbrev FindsNoneWrong : Event → Type 0
  FindsNoneWrong e = (g : Gid) (p : ℕ) (giver : Giver) → e ≡ Settled g p false giver → ⊥

  each_right : (events : List Event) → Each IsQuiet events → Each FindsNoneWrong events
  each_right [] all = tt
  each_right (e ∷ events) (here, all) = (λ g p v is. here.finds g p false v is, each_right events all)

  right_in : (past events : List Event) (o : Outcome)
      → AndThen (SettlingPhase at download piece true) (EndingOr at download NoEvent) past events o
      → Each FindsNoneWrong events
  right_in = then_in FindsNoneWrong (SettlingPhase at download piece true) (EndingOr at download NoEvent)
      (then_in FindsNoneWrong (FindingPhase at download.gid piece true) NoEvent found (none_in FindsNoneWrong))
      (λ past events o is. each_right events (quiet_ending at download past events o is))
    where
      found : AllowsOnly FindsNoneWrong (FindingPhase at download.gid piece true)
      found past events Went is = subst (Each FindsNoneWrong) (sym is.2) (λ g p v same. absurd cc, tt)
      found past events Over is = absurd is
      found past events Starved is = absurd is

  found_clears : (right : Bool) (past events : List Event) (o : Outcome)
      → AndThen (SettlingPhase at download piece right) (EndingOr at download NoEvent) past events o
      → (o ≡ Starved → ⊥) → NoFault events → (g : Gid) (giver : Giver) → Contains events (Settled g piece false giver)
      → ClearsAmong download.gid piece events
  found_clears true past events o is fed none g giver there =
      absurd (of_each FindsNoneWrong events (Settled g piece false giver) (right_in past events o is) there g piece giver refl)
  found_clears false past events o (inl off) fed none g giver there = settling_clears past events o off.0 fed none
  found_clears false past events o (inr on) fed none g giver there =
      clears_sooner download.gid piece on.front on.rest events on.cut
      (settling_clears past on.front Went on.first went_fed (fault_left on.front on.rest events on.cut none))

fed_by : (o : Outcome) (said : Said) → AnswersUnlessStarved Done o said → ¬ (said ≡ NoMemory) → (o ≡ Starved → ⊥)
fed_by Went said is fed same = absurd cc
fed_by Over said is fed same = absurd cc
fed_by Starved said is fed same = fed is

-- the piece of a seal that finds it wrong
pub seal_clears : (at : TurnStart) (s : RunStanding) (gid : Gid) (sealed : PieceBytes) (events : List Event) (said : Said)
    → SealRow at s gid sealed events said → ¬ (said ≡ NoMemory) → NoFault events → (giver : Giver)
    → Contains events (Settled gid sealed.piece false giver) → ClearsAmong gid sealed.piece events
seal_clears at s gid sealed events said (inl void) fed none giver there =
    absurd (let no = subst (λ (es : List Event). Contains es (Settled gid sealed.piece false giver)) void.0 there in
    let within = no.1 in omega (arith, within))
seal_clears at s gid sealed events said (inr settles) fed none giver there =
    let one = settles.1 in
    let d = one.download in
    let right : Bool = has_listed_digest d.subject sealed in
    let found = λ (xs ys : List Event) (cut : events ≡ xs ++ ys) (empty : xs ≡ []). cut ∙ ap (λ (l : List Event). l ++ ys) empty in
    subst (λ (g : Gid). ClearsAmong g sealed.piece events) (gid_added at.start s.past gid d one.added)
    (⊎_elim
    (λ (off : BreaksOff (AfterDisk at d.gid []) s.past events one.outcome).
    absurd ((of_each IsQuiet events (Settled gid sealed.piece false giver)
    (quiet_disk at d.gid [] tt s.past events one.outcome off.0) there).finds gid sealed.piece false giver refl))
    (λ (on : ContinuesWith (AfterDisk at d.gid [])
    (AndThen (SettlingPhase at d sealed.piece right) (EndingOr at d NoEvent)) s.past events one.outcome).
    let same = found on.front on.rest on.cut on.first in
    subst (λ (es : List Event). ClearsAmong d.gid sealed.piece es) (sym same)
    (found_clears at d sealed.piece right (history_after s.past on.front) on.rest one.outcome on.second
    (fed_by one.outcome said one.answer fed)
    (subst NoFault same none) gid giver
    (subst (λ (es : List Event). Contains es (Settled gid sealed.piece false giver)) same there)))
    one.is)

-- ---- what was cleared is nobody's

cleared_so : (t : Bool) (x : Source) (m : ℕ) → t ≡ true → cond t Absent x ≡ From m → ⊥
cleared_so true x m is from = absurd cc
cleared_so false x m is from = absurd cc

cleared_with : (t : Bool) (len m b : ℕ) (own : List OwnEvent) (piece : ℕ) → t ≡ true → piece_of len b ≡ piece
    → source_in len (cond t (Clears piece ∷ own) own) b ≡ From m → ⊥
cleared_with true len m b own piece is of from =
    cleared_so (piece == piece_of len b) (source_by (is_alive (Clears piece ∷ own)) (piece_of len b) b own) m
    (eq-eqb piece (piece_of len b) (sym of)) from
cleared_with false len m b own piece is of from = absurd cc

pub cleared_none : (start : RunStart) (past : List Event) (gid : Gid) (piece len m b : ℕ) → piece_of len b ≡ piece
    → source_in len (own_of start (Cleared gid piece ∷ past) gid) b ≡ From m → ⊥
cleared_none start past gid piece len m b of from =
    cleared_with (is_same_gid gid gid) len m b (own_of start past gid) piece (eq-eqb gid.0 gid.0 refl) of from
