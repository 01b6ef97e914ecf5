-- Parts of turns in which nothing is claimed, and no block comes.
use Rattle.std.proofs.Common.{◌≡◌, ◌∷◌, ◌++◌, ℕ, Bool, true, false, List, [], refl, sym, subst, ⊎_elim}
use Rattle.dl_kinds.specs.declared.claims.Claim.{Claim}
use Rattle.dl_kinds.specs.declared.gid.Gid.{Gid}
use Rattle.dl_kinds.specs.declared.marks.Mark.{Mark}
use Rattle.machine_core.specs.RunLegal.{has_checksum}
use Rattle.machine_core.specs.Starts.{Download}
use Rattle.machine_core.specs.declared.ends.End.{End}
use Rattle.machine_core.specs.declared.ends.End.TheVariants as end
use Rattle.machine_core.specs.declared.events.Event.{Event}
use Rattle.machine_core.specs.declared.events.Event.TheVariants.{Checked, Cleared, Ended, Lost, Saved, Sized}
use Rattle.engine_turns.specs.ClaimRows.{DueSavePhase, LossPhase, TellingPhase, filled_phase, sole_phase}
use Rattle.engine_turns.specs.NextRows.{OpenRow, whole_row}
use Rattle.engine_turns.specs.Phases.{AfterDisk, AllRightPhase, AndThen, CheckedPhase, CompletionPhase, DeadPhase, DiskFaultEnds, EndAfterDisk, EndingOr, FindingPhase, IfElse, JustEnd, JustEvent, NoEvent, OpeningPhase, Phase, SavePhase, SettlingPhase, TurnStart, UnlistingPhase, WrongPhase, after_finding_phase}
use Rattle.engine_turns.specs.SealRows.{SealRow}
use Rattle.engine_turns.specs.Standings.{RunStanding}
use Rattle.engine_turns.specs.declared.operations.Said.{Said}
use Rattle.engine_turns.specs.declared.outcome.Outcome.{Outcome}
use Rattle.engine_turns.specs.declared.outcome.Outcome.TheVariants.{Went, Over, Starved}
use Rattle.verify_piece.specs.Seals.{PieceBytes}
use Rattle.worker_turns.proofs.Standing.{EachEvent, Plain, each_append}

abbrev pub PlainPhase : Phase → Type 0
PlainPhase P = (past events : List Event) (outcome : Outcome) → P past events outcome → EachEvent Plain events

plain_list : (events given : List Event) → events ≡ given → EachEvent Plain given → EachEvent Plain events
plain_list events given is plain = subst (λ (es : List Event). EachEvent Plain es) (sym is) plain

-- ---- parts put together

pub plain_then : (P Q : Phase) → PlainPhase P → PlainPhase Q → PlainPhase (AndThen P Q)
plain_then P Q first then past events outcome came =
    ⊎_elim (λ broken. first past events outcome broken.0)
    (λ whole. plain_list events (whole.front ++ whole.rest) whole.cut
    (each_append Plain whole.front whole.rest (first past whole.front Went whole.first)
    (then _ whole.rest outcome whole.second))) came

plain_if : (Holds : Type 0) (P Q : Phase) → PlainPhase P → PlainPhase Q → PlainPhase (IfElse Holds P Q)
plain_if Holds P Q first other past events outcome came =
    ⊎_elim (λ is. first past events outcome is.1) (λ isnt. other past events outcome isnt.1) came

plain_none : PlainPhase NoEvent
plain_none past events Went is = plain_list events [] is tt
plain_none past events Over is = absurd is
plain_none past events Starved is = absurd is

plain_event : (e : Event) → Plain e → PlainPhase (JustEvent e)
plain_event e plain past events Went is = plain_list events (e ∷ []) is (plain, tt)
plain_event e plain past events Over is = absurd is
plain_event e plain past events Starved is = absurd is

plain_end : (e : Event) → Plain e → PlainPhase (JustEnd e)
plain_end e plain past events Went is = absurd is
plain_end e plain past events Over is = plain_list events (e ∷ []) is (plain, tt)
plain_end e plain past events Starved is = absurd is

pub plain_fault : (at : TurnStart) (gid : Gid) (events : List Event) → DiskFaultEnds at gid events
    → EachEvent Plain events
plain_fault at gid events is = plain_list events (Ended gid (end.Disk is.0) ∷ []) is.2 ((refl, refl), tt)

plain_disk : (at : TurnStart) (gid : Gid) (due : List Event) → EachEvent Plain due → PlainPhase (AfterDisk at gid due)
plain_disk at gid due plain past events Went is = plain_list events due is plain
plain_disk at gid due plain past events Over is = plain_fault at gid events is
plain_disk at gid due plain past events Starved is = plain_list events [] is tt

plain_end_disk : (at : TurnStart) (gid : Gid) (how : End) → PlainPhase (EndAfterDisk at gid how)
plain_end_disk at gid how past events Went is = absurd is
plain_end_disk at gid how past events Over is =
    ⊎_elim (λ ended. plain_list events (Ended gid how ∷ []) ended ((refl, refl), tt))
    (λ fault. plain_fault at gid events fault) is
plain_end_disk at gid how past events Starved is = plain_list events [] is tt

plain_save : (at : TurnStart) (gid : Gid) → PlainPhase (SavePhase at gid)
plain_save at gid = plain_disk at gid (Saved gid at.now ∷ []) ((refl, refl), tt)

-- ---- a piece

plain_dead : (at : TurnStart) (download : Download) (piece : ℕ) → PlainPhase (DeadPhase at download piece)
plain_dead at download piece past events Went is = plain_list events [] is.0 tt
plain_dead at download piece past events Over is =
    plain_list events (Ended download.gid (end.Dead piece is.0) ∷ []) is.2 ((refl, refl), tt)
plain_dead at download piece past events Starved is = absurd is

plain_finding : (at : TurnStart) (gid : Gid) (piece : ℕ) (right : Bool) → PlainPhase (FindingPhase at gid piece right)
plain_finding at gid piece right past events Went is = plain_list events _ is.2 ((refl, refl), tt)
plain_finding at gid piece right past events Over is = absurd is
plain_finding at gid piece right past events Starved is = absurd is

plain_unlisting : (at : TurnStart) (gid : Gid) (piece : ℕ) → PlainPhase (UnlistingPhase at gid piece)
plain_unlisting at gid piece past events outcome came =
    ⊎_elim (λ is. plain_none past events outcome is.1) (λ isnt. plain_save at gid past events outcome isnt.1) came

plain_wrong : (at : TurnStart) (download : Download) (piece : ℕ) → PlainPhase (WrongPhase at download piece)
plain_wrong at download piece =
    plain_then _ _ (plain_unlisting at download.gid piece)
    (plain_then _ _ (plain_event (Cleared download.gid piece) (refl, refl)) (plain_dead at download piece))

plain_found : (at : TurnStart) (download : Download) (piece : ℕ) (right : Bool)
    → PlainPhase (after_finding_phase at download piece right)
plain_found at download piece true = plain_none
plain_found at download piece false = plain_wrong at download piece

pub plain_settling : (at : TurnStart) (download : Download) (piece : ℕ) (right : Bool)
    → PlainPhase (SettlingPhase at download piece right)
plain_settling at download piece right =
    plain_then _ _ (plain_finding at download.gid piece right) (plain_found at download piece right)

plain_all_right : (at : TurnStart) (download : Download) (pieces : List ℕ)
    → PlainPhase (AllRightPhase at download pieces)
plain_all_right at download [] = plain_none
plain_all_right at download (piece ∷ pieces) =
    plain_then _ _ (plain_settling at download piece true) (plain_all_right at download pieces)

-- ---- the end of a download

plain_checked : (at : TurnStart) (gid : Gid) (right : Bool) → PlainPhase (CheckedPhase at gid right)
plain_checked at gid true = plain_end_disk at gid end.Complete
plain_checked at gid false = plain_end (Ended gid end.Checksum) (refl, refl)

plain_completion : (at : TurnStart) (gid : Gid) (checks : Bool) → PlainPhase (CompletionPhase at gid checks)
plain_completion at gid false past events outcome is = plain_end_disk at gid end.Complete past events outcome is
plain_completion at gid true past events outcome is =
    plain_then _ _ (plain_disk at gid (Checked gid is.0 ∷ []) ((refl, refl), tt)) (plain_checked at gid is.0) past
    events
    outcome is.1

pub plain_ending : (at : TurnStart) (download : Download) (Otherwise : Phase) → PlainPhase Otherwise
    → PlainPhase (EndingOr at download Otherwise)
plain_ending at download Otherwise other past events outcome came =
    ⊎_elim (λ is. plain_completion at download.gid (has_checksum download) past events outcome is.1)
    (λ isnt. other past events outcome isnt.1) came

-- ---- whole rows

plain_opening : (at : TurnStart) (gid : Gid) → PlainPhase (OpeningPhase at gid)
plain_opening at gid past events Went is = plain_list events _ is.2 ((refl, refl), tt)
plain_opening at gid past events Over is = plain_list events _ is.2 ((refl, refl), tt)
plain_opening at gid past events Starved is = plain_list events [] is tt

pub plain_open_row : (at : TurnStart) (s : RunStanding) (download : Download) (events : List Event) (answer : Said)
    → OpenRow at s download events answer → EachEvent Plain events
plain_open_row at s download events answer row =
    ⊎_elim (λ clashed. plain_list events _ clashed.2 ((refl, refl), tt))
    (λ opened. plain_then _ _ (plain_opening at download.gid) (plain_ending at download _ plain_none) s.past events
    opened.1.0 opened.1.1) row

pub plain_whole : (at : TurnStart) (s : RunStanding) (download : Download) (piece : ℕ) (listed : Bool)
    (events : List Event) (answer : Said) → whole_row at s download piece listed events answer
    → EachEvent Plain events
plain_whole at s download piece true events answer row =
    ⊎_elim (λ hash. plain_list events [] hash.is.0 tt)
    (⊎_elim (λ faulted. plain_fault at download.gid events faulted.0)
    (λ starved. plain_list events [] starved.0 tt)) row
plain_whole at s download piece false events answer row =
    plain_then _ _ (plain_settling at download piece true) (plain_ending at download _ plain_none) s.past events row.0
    row.1

pub plain_seal : (at : TurnStart) (s : RunStanding) (gid : Gid) (sealed : PieceBytes) (events : List Event)
    (answer : Said) → SealRow at s gid sealed events answer → EachEvent Plain events
plain_seal at s gid sealed events answer row =
    ⊎_elim (λ none. plain_list events [] none.0 tt)
    (λ settled. plain_then _ _ (plain_disk at settled.1.download.gid [] tt)
    (plain_then _ _ (plain_settling at settled.1.download sealed.piece _)
    (plain_ending at settled.1.download _ plain_none)) s.past events settled.1.outcome settled.1.is) row

-- ---- behind the first event or the landings

sole_plain : (gid : Gid) (piece : ℕ) (sole : Bool) → PlainPhase (sole_phase gid piece sole)
sole_plain gid piece true = plain_event (Cleared gid piece) (refl, refl)
sole_plain gid piece false = plain_none

pub plain_loss : (at : TurnStart) (past : List Event) (download : Download) (claim : Claim) (mark : Mark) (piece : ℕ)
    → PlainPhase (LossPhase at past download claim mark piece)
plain_loss at past download claim mark piece =
    plain_then _ _ (plain_event (Lost download.gid claim.id claim.mirror piece mark) (refl, refl))
    (plain_then _ _ (sole_plain download.gid piece _) (plain_dead at download piece))

pub plain_telling : (download : Download) (claim : Claim) (total : ℕ) → PlainPhase (TellingPhase download claim total)
plain_telling download claim total =
    plain_then _ _ (plain_event (Sized download.gid claim.id total) (refl, refl))
    (plain_if _ _ _ (plain_end (Ended download.gid (end.TooLarge total)) (refl, refl)) plain_none)

pub plain_filled : (at : TurnStart) (before : List Event) (download : Download) (listed : Bool)
    → PlainPhase (filled_phase at before download listed)
plain_filled at before download true past events outcome is = plain_none past events outcome is
plain_filled at before download false past events outcome is =
    plain_all_right at download is.0 past events outcome is.2

pub plain_due_save : (at : TurnStart) (download : Download) → PlainPhase (DueSavePhase at download)
plain_due_save at download past events outcome came =
    ⊎_elim (λ is. plain_save at download.gid past events outcome is.1) (λ isnt. plain_none past events outcome isnt.1)
    came
