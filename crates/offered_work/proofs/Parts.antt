-- Where each part of a turn leads, for the download that it is of.
use Rattle.std.proofs.Common.{◌≡◌, ◌≢◌, ℕ, Bool, true, false, cond, Option, Some, List, [], ◌∷◌, ◌++◌, inl, inr, refl, sym, ap, ◌∙◌, subst, ⊎_elim, eq-eqb}
use Rattle.std.specs.Prelude.{slice_index_or}
use Rattle.std.specs.Option.{option_and_then, unwrap_or}
use Rattle.dl_kinds.specs.declared.claims.Claim.{Claim}
use Rattle.dl_kinds.specs.declared.gid.Gid.{Gid}
use Rattle.dl_kinds.specs.declared.marks.Mark.{Mark}
use Rattle.dl_kinds.specs.declared.runs.Run.{Run}
use Rattle.dl_history.proofs.Bools.{or_later}
use Rattle.dl_history.specs.OwnEvents.{Checks, Clears, Grants, Halts, Lands, Loses, Opens, OwnEvent, Saves, Settles, Sizes}
use Rattle.dl_history.specs.PayloadParts.{blames_in, is_ended, is_ending, is_opened, is_verified_in}
use Rattle.mirror_blame.specs.Laws.{CountedAreTries}
use Rattle.machine_core.proofs.Parts.{gid_is}
use Rattle.machine_core.specs.OwnParts.{PayloadLengths, lengths_by, no_lengths, own_of, with_own}
use Rattle.machine_core.specs.Replays.{download_of, is_same_gid, replay_of}
use Rattle.machine_core.specs.RunLegal.{download_in, has_checksum, is_listed, known_lengths, mirrors_by, tries_in}
use Rattle.machine_core.specs.Starts.{Download}
use Rattle.machine_core.specs.Wanted.{wanted_pieces}
use Rattle.machine_core.specs.declared.ends.End.{End}
use Rattle.machine_core.specs.declared.ends.End.TheVariants as end
use Rattle.machine_core.specs.declared.events.Event.{Event}
use Rattle.machine_core.specs.declared.events.Event.TheVariants.{Checked, Claimed, Cleared, Ended, Landed, Lost, Opened, Saved, Settled, Sized}
use Rattle.engine_turns.specs.ClaimRows.{DeliveryPhase, DueSavePhase, LossPhase, TellingPhase, filled_phase, sole_phase}
use Rattle.engine_turns.specs.Phases.{AfterDisk, AllRightPhase, AndThen, CheckedPhase, CompletionPhase, DeadPhase, DiskFaultEnds, EndAfterDisk, EndingOr, FindingPhase, IsWantedVerified, JustEnd, JustEvent, LandingsPhase, NoEvent, OpeningPhase, Phase, SavePhase, SettlingPhase, TurnStart, UnlistingPhase, WrongPhase}
use Rattle.engine_turns.specs.Told.{history_after}
use Rattle.engine_turns.specs.declared.outcome.Outcome.{Outcome}
use Rattle.engine_turns.specs.declared.outcome.Outcome.TheVariants.{Went, Over, Starved}
use Rattle.offered_work.proofs.Histories.{history_append}
use Rattle.offered_work.proofs.Marked.{dead_marked}
use Rattle.offered_work.proofs.OwnSteps.{IsSound, NoPiece, ThePiece, asks_less, checked_on, cleared_on, granted_on, landed_on, lively_again, lost_on, opened_on, right_on, saved_on, sized_on, wrong_on}

pub with_itself : (gid : Gid) (x : OwnEvent) (own : List OwnEvent) → with_own gid gid x own ≡ x ∷ own
with_itself gid x own = ap (λ (t : Bool). cond t (x ∷ own) own) (eq-eqb gid.0 gid.0 refl)

abbrev pub State : Type 1
State = List OwnEvent → Type 0

module _ (counts : CountedAreTries) (at : TurnStart) (d : Download) (base : List Event)
    (added : download_in at.start base d.gid ≡ Some d) where
  abbrev own : List Event → List OwnEvent
  own past = own_of at.start past d.gid

  -- the downloads are as in the history before, and so are the events of the others
  pub record LeavesOthers (past : List Event) : Type 0 where
    pub downloads : (replay_of at.start past).downloads ≡ (replay_of at.start base).downloads
    pub others : (g : Gid) → (g ≡ d.gid → ⊥) → own_of at.start past g ≡ own_of at.start base g

  -- .. and those of the download are such, unless it ended
  pub record IsAt (S : State) (past : List Event) : Type 0 where
    pub rest : LeavesOthers past
    pub is : is_ended (own past) ≡ false → S (own past)

  -- .. or it ended
  pub record IsEndedAt (past : List Event) : Type 0 where
    pub rest : LeavesOthers past
    pub is : is_ended (own past) ≡ true

  -- where all of a part came they are such; where it ended the turn so it did the download
  abbrev pub Leaves : State → List Event → Outcome → Type 0
  Leaves S now Went = IsAt S now
  Leaves S now Over = IsEndedAt now
  Leaves S now Starved = Unit {0}

  abbrev pub Leads : State → State → Phase → Type 0
  Leads S S' P = (past events : List Event) (o : Outcome) → P past events o → IsAt S past
      → Leaves S' (history_after past events) o

  added_at : (past : List Event) → LeavesOthers past → download_in at.start past d.gid ≡ Some d
  added_at past rest = ap (λ (ds : List Download). download_of ds d.gid) rest.downloads ∙ added

  -- ---- events

  -- an event of the download
  record IsEventOf (e : Event) (x : OwnEvent) : Type 0 where
    own_is : (past : List Event) (g : Gid) → own_of at.start (e ∷ past) g ≡ with_own d.gid g x (own_of at.start past g)
    downloads_are : (past : List Event)
        → (replay_of at.start (e ∷ past)).downloads ≡ (replay_of at.start past).downloads

  beside : (x : OwnEvent) (g : Gid) (o : List OwnEvent) (t : Bool) → is_same_gid g d.gid ≡ t → (g ≡ d.gid → ⊥)
      → with_own d.gid g x o ≡ o
  beside x g o true same other = absurd (other (sym (gid_is g d.gid same)))
  beside x g o false same other = ap (λ (t : Bool). cond t (x ∷ o) o) same

  others_behind : (e : Event) (x : OwnEvent) → IsEventOf e x → (past : List Event) → LeavesOthers past
      → LeavesOthers (e ∷ past)
  others_behind e x of past rest = record {
    downloads = of.downloads_are past ∙ rest.downloads;
    others = λ g other. of.own_is past g
        ∙ beside x g (own_of at.start past g) (is_same_gid g d.gid) refl other ∙ rest.others g other;
  }

  own_behind : (e : Event) (x : OwnEvent) → IsEventOf e x → (past : List Event) → own (e ∷ past) ≡ x ∷ own past
  own_behind e x of past = of.own_is past d.gid ∙ with_itself d.gid x (own past)

  behind : (S S' : State) (e : Event) (x : OwnEvent) → IsEventOf e x → ((o : List OwnEvent) → S o → S' (x ∷ o))
      → (past : List Event) → IsAt S past → IsAt S' (e ∷ past)
  behind S S' e x of step past was = record {
    rest = others_behind e x of past was.rest;
    is = λ going. subst S' (sym (own_behind e x of past)) (step (own past)
        (was.is (or_later (is_ending x) (is_ended (own past)) (sym (ap is_ended (own_behind e x of past)) ∙ going))));
  }

  ended_of : (how : End) → IsEventOf (Ended d.gid how) (Halts true)
  ended_of how = record { own_is = λ past g. refl; downloads_are = λ past. refl }

  ends : (how : End) (past : List Event) → LeavesOthers past → IsEndedAt (Ended d.gid how ∷ past)
  ends how past rest = record {
    rest = others_behind (Ended d.gid how) (Halts true) (ended_of how) past rest;
    is = ap is_ended (own_behind (Ended d.gid how) (Halts true) (ended_of how) past);
  }

  listed : (S : State) (past events given : List Event) (o : Outcome) → events ≡ given
      → Leaves S (history_after past given) o → Leaves S (history_after past events) o
  listed S past events given o is = subst (λ (es : List Event). Leaves S (history_after past es) o) (sym is)

  -- ---- parts of any events

  pub lead_none : (S : State) → Leads S S NoEvent
  lead_none S past events Went is was = listed S past events [] Went is was
  lead_none S past events Over is was = absurd is
  lead_none S past events Starved is was = absurd is

  lead_event : (S S' : State) (e : Event) (x : OwnEvent) → IsEventOf e x → ((o : List OwnEvent) → S o → S' (x ∷ o))
      → Leads S S' (JustEvent e)
  lead_event S S' e x of step past events Went is was =
      listed S' past events (e ∷ []) Went is (behind S S' e x of step past was)
  lead_event S S' e x of step past events Over is was = absurd is
  lead_event S S' e x of step past events Starved is was = absurd is

  pub lead_end : (S S' : State) (how : End) → Leads S S' (JustEnd (Ended d.gid how))
  lead_end S S' how past events Went is was = absurd is
  lead_end S S' how past events Over is was =
      listed S' past events (Ended d.gid how ∷ []) Over is (ends how past was.rest)
  lead_end S S' how past events Starved is was = absurd is

  broken : (S : State) (past events : List Event) (o : Outcome) (S' : State) → o ≢ Went
      → Leaves S (history_after past events) o → Leaves S' (history_after past events) o
  broken S past events Went S' not is = absurd (not refl)
  broken S past events Over S' not is = is
  broken S past events Starved S' not is = tt

  pub lead_then : (S S' S'' : State) (P Q : Phase) → Leads S S' P → Leads S' S'' Q → Leads S S'' (AndThen P Q)
  lead_then S S' S'' P Q first second past events o (inl off) was =
      broken S' past events o S'' off.1 (first past events o off.0 was)
  lead_then S S' S'' P Q first second past events o (inr on) was =
      listed S'' past events (on.front ++ on.rest) o on.cut
      (subst (λ (h : List Event). Leaves S'' h o) (sym (history_append past on.front on.rest))
      (second (history_after past on.front) on.rest o on.second (first past on.front Went on.first was)))

  faulted : (S : State) (past events : List Event) → LeavesOthers past → DiskFaultEnds at d.gid events
      → Leaves S (history_after past events) Over
  faulted S past events rest is =
      listed S past events (Ended d.gid (end.Disk is.0) ∷ []) Over is.2 (ends (end.Disk is.0) past rest)

  lead_disk : (S S' : State) (e : Event) (x : OwnEvent) → IsEventOf e x → ((o : List OwnEvent) → S o → S' (x ∷ o))
      → Leads S S' (AfterDisk at d.gid (e ∷ []))
  lead_disk S S' e x of step past events Went is was =
      listed S' past events (e ∷ []) Went is (behind S S' e x of step past was)
  lead_disk S S' e x of step past events Over is was = faulted S' past events was.rest is
  lead_disk S S' e x of step past events Starved is was = tt

  pub lead_read : (S : State) → Leads S S (AfterDisk at d.gid [])
  lead_read S past events Went is was = listed S past events [] Went is was
  lead_read S past events Over is was = faulted S past events was.rest is
  lead_read S past events Starved is was = tt

  lead_end_disk : (S S' : State) (how : End) → Leads S S' (EndAfterDisk at d.gid how)
  lead_end_disk S S' how past events Went is was = absurd is
  lead_end_disk S S' how past events Over is was =
      ⊎_elim (λ ended. listed S' past events (Ended d.gid how ∷ []) Over ended (ends how past was.rest))
      (λ fault. faulted S' past events was.rest fault) is
  lead_end_disk S S' how past events Starved is was = tt

  -- ---- saves

  abbrev Sound : (ℕ → Type 0) → (ℕ → Type 0) → Bool → State
  Sound Wrong Dead asks = IsSound d Wrong Dead asks

  lead_save : (Wrong Dead : ℕ → Type 0) (asks : Bool) → Leads (Sound Wrong Dead asks) (Sound Wrong Dead asks)
      (SavePhase at d.gid)
  lead_save Wrong Dead asks =
      lead_disk (Sound Wrong Dead asks) (Sound Wrong Dead asks) (Saved d.gid at.now) (Saves at.now)
      (record { own_is = λ past g. refl; downloads_are = λ past. refl })
      (saved_on d Wrong Dead asks at.now)

  -- ---- a piece

  lead_dead : (Wrong : ℕ → Type 0) (asks : Bool) (q : ℕ)
      → Leads (Sound Wrong (ThePiece q) asks) (Sound Wrong NoPiece asks) (DeadPhase at d q)
  lead_dead Wrong asks q past events Went is was =
      listed (Sound Wrong NoPiece asks) past events [] Went is.0 (record {
        rest = was.rest;
        is = λ going. lively_again d q Wrong asks (own past)
            (λ tries dead.
            let m = dead_marked counts (mirrors_by d.subject) (tries_in d) (blames_in (own past)) q tries.mirrors
            tries.tries dead in
            is.1 m.0 (record { dead = dead; last = m.1 })) (was.is going);
      })
  lead_dead Wrong asks q past events Over is was =
      listed (Sound Wrong NoPiece asks) past events (Ended d.gid (end.Dead q is.0) ∷ []) Over is.2
      (ends (end.Dead q is.0) past was.rest)
  lead_dead Wrong asks q past events Starved is was = absurd is

  abbrev Found : State
  Found = Sound NoPiece NoPiece false

  abbrev FoundWrong : ℕ → State
  FoundWrong q = Sound (ThePiece q) (ThePiece q) false

  lead_right : (q : ℕ) → Leads Found Found (FindingPhase at d.gid q true)
  lead_right q past events Went is was =
      listed Found past events (Settled d.gid q true is.0 ∷ []) Went is.2
      (behind Found Found (Settled d.gid q true is.0) (Settles q true is.0)
      (record { own_is = λ p g. refl; downloads_are = λ p. refl })
      (right_on d NoPiece NoPiece q is.0) past was)
  lead_right q past events Over is was = absurd is
  lead_right q past events Starved is was = absurd is

  lead_wrong : (q : ℕ) → Leads Found (FoundWrong q) (FindingPhase at d.gid q false)
  lead_wrong q past events Went is was =
      listed (FoundWrong q) past events (Settled d.gid q false is.0 ∷ []) Went is.2
      (behind Found (FoundWrong q) (Settled d.gid q false is.0) (Settles q false is.0)
      (record { own_is = λ p g. refl; downloads_are = λ p. refl })
      (wrong_on d q is.0) past was)
  lead_wrong q past events Over is was = absurd is
  lead_wrong q past events Starved is was = absurd is

  lead_unlisting : (q : ℕ) → Leads (FoundWrong q) (FoundWrong q) (UnlistingPhase at d.gid q)
  lead_unlisting q past events o came was =
      ⊎_elim (λ is. lead_none (FoundWrong q) past events o is.1 was)
      (λ isnt. lead_save (ThePiece q) (ThePiece q) false past events o isnt.1 was) came

  lead_clearing : (q : ℕ) → Leads (FoundWrong q) Found (WrongPhase at d q)
  lead_clearing q =
      lead_then (FoundWrong q) (FoundWrong q) Found _ _ (lead_unlisting q)
      (lead_then (FoundWrong q) (Sound NoPiece (ThePiece q) false) Found _ _
      (lead_event (FoundWrong q) (Sound NoPiece (ThePiece q) false) (Cleared d.gid q) (Clears q)
      (record { own_is = λ past g. refl; downloads_are = λ past. refl })
      (λ o. cleared_on d q (ThePiece q) (ThePiece q) false o (λ p e. e)))
      (lead_dead NoPiece false q))

  pub lead_settling : (q : ℕ) (right : Bool) → Leads Found Found (SettlingPhase at d q right)
  lead_settling q true = lead_then Found Found Found _ _ (lead_right q) (lead_none Found)
  lead_settling q false = lead_then Found (FoundWrong q) Found _ _ (lead_wrong q) (lead_clearing q)

  lead_all_right : (qs : List ℕ) → Leads Found Found (AllRightPhase at d qs)
  lead_all_right [] = lead_none Found
  lead_all_right (q ∷ qs) = lead_then Found Found Found _ _ (lead_settling q true) (lead_all_right qs)

  -- ---- the end of the download

  abbrev Whole : State
  Whole = Sound NoPiece NoPiece true

  lead_checked : (right : Bool) → Leads Found Whole (CheckedPhase at d.gid right)
  lead_checked true = lead_end_disk Found Whole end.Complete
  lead_checked false = lead_end Found Whole end.Checksum

  lead_completion : (checks : Bool) → Leads Found Whole (CompletionPhase at d.gid checks)
  lead_completion false past events o is was = lead_end_disk Found Whole end.Complete past events o is was
  lead_completion true past events o is was =
      lead_then Found Found Whole _ _
      (lead_disk Found Found (Checked d.gid is.0) (Checks is.0)
      (record { own_is = λ p g. refl; downloads_are = λ p. refl })
      (checked_on d NoPiece NoPiece false is.0))
      (lead_checked is.0) past events o is.1 was

  -- the lengths that are known are those by the download's events
  pub lengths_are : (past : List Event) → download_in at.start past d.gid ≡ Some d
      → known_lengths at.start past d.gid ≡ unwrap_or (lengths_by d d.subject (own past)) no_lengths
  lengths_are past added =
      ap (λ (o : Option Download). unwrap_or (option_and_then (λ (x : Download). lengths_by x x.subject (own past)) o)
      no_lengths) added

  unended : (past : List Event) → (IsWantedVerified at.start past d → ⊥) → IsAt Found past → IsAt Whole past
  unended past not was = record {
    rest = was.rest;
    is = λ going. record {
      cleared = (was.is going).cleared;
      lively = (was.is going).lively;
      unfinished = λ opened all. not (subst (λ (l : PayloadLengths). (piece : ℕ)
          → slice_index_or (wanted_pieces d l) piece false ≡ true → is_verified_in (own past) piece ≡ true)
          (sym (lengths_are past (added_at past was.rest))) all);
    };
  }

  pub lead_ending : (Otherwise : Phase) → Leads Whole Whole Otherwise → Leads Found Whole (EndingOr at d Otherwise)
  lead_ending Otherwise other past events o (inl is) was =
      lead_completion (has_checksum d) past events o is.1 was
  lead_ending Otherwise other past events o (inr isnt) was =
      other past events o isnt.1 (unended past isnt.0 was)

  -- ---- a delivery

  lead_landings : (id mirror : ℕ) (runs : List Run) → Leads Found Found (LandingsPhase at d.gid id mirror runs)
  lead_landings id mirror [] = lead_none Found
  lead_landings id mirror (run ∷ runs) =
      lead_then Found Found Found _ _
      (lead_disk Found Found (Landed d.gid id mirror run at.now) (Lands id mirror run)
      (record { own_is = λ past g. refl; downloads_are = λ past. refl })
      (landed_on d NoPiece NoPiece false id mirror run))
      (lead_landings id mirror runs)

  lead_filled : (before : List Event) (listed : Bool) → Leads Found Found (filled_phase at before d listed)
  lead_filled before true past events o is was = lead_none Found past events o is was
  lead_filled before false past events o is was = lead_all_right is.0 past events o is.2 was

  lead_due : Leads Whole Whole (DueSavePhase at d)
  lead_due past events o came was =
      ⊎_elim (λ is. lead_save NoPiece NoPiece true past events o is.1 was)
      (λ isnt. lead_none Whole past events o isnt.1 was) came

  pub found_at : (past : List Event) → IsAt Whole past → IsAt Found past
  found_at past was = record { rest = was.rest; is = λ going. asks_less d NoPiece NoPiece (own past) (was.is going) }

  pub lead_delivery : (before : List Event) (claim : Claim) (runs : List Run)
      → Leads Whole Whole (DeliveryPhase at before d claim runs)
  lead_delivery before claim runs past events o came was =
      lead_then Found Found Whole _ _ (lead_landings claim.id claim.mirror runs)
      (lead_then Found Found Whole _ _ (lead_filled before (is_listed d.subject))
      (lead_ending (DueSavePhase at d) lead_due))
      past events o came (found_at past was)

  -- ---- a claim is granted

  pub lead_claim : (claim : Claim) → Leads Whole Whole (JustEvent (Claimed d.gid claim))
  lead_claim claim =
      lead_event Whole Whole (Claimed d.gid claim) (Grants claim)
      (record { own_is = λ past g. refl; downloads_are = λ past. refl })
      (granted_on d NoPiece NoPiece true claim)

  -- ---- a claim is lost

  lead_sole : (q : ℕ) (sole : Bool)
      → Leads (Sound NoPiece (ThePiece q) true) (Sound NoPiece (ThePiece q) true) (sole_phase d.gid q sole)
  lead_sole q false = lead_none (Sound NoPiece (ThePiece q) true)
  lead_sole q true =
      lead_event (Sound NoPiece (ThePiece q) true) (Sound NoPiece (ThePiece q) true) (Cleared d.gid q) (Clears q)
      (record { own_is = λ past g. refl; downloads_are = λ past. refl })
      (λ o. cleared_on d q NoPiece (ThePiece q) true o (λ p none. absurd none))

  pub lead_loss : (before : List Event) (claim : Claim) (mark : Mark) (q : ℕ)
      → Leads Whole Whole (LossPhase at before d claim mark q)
  lead_loss before claim mark q =
      lead_then Whole (Sound NoPiece (ThePiece q) true) Whole _ _
      (lead_event Whole (Sound NoPiece (ThePiece q) true) (Lost d.gid claim.id claim.mirror q mark)
      (Loses claim.id claim.mirror q mark)
      (record { own_is = λ past g. refl; downloads_are = λ past. refl }) (lost_on d q claim.id claim.mirror mark))
      (lead_then (Sound NoPiece (ThePiece q) true) (Sound NoPiece (ThePiece q) true) Whole _ _
      (lead_sole q _) (lead_dead NoPiece true q))

  -- ---- a probe tells the length

  abbrev Unopened : State
  Unopened o = (is_opened o ≡ false) × Whole o

  pub lead_telling : (claim : Claim) (total : ℕ) → Leads Unopened Whole (TellingPhase d claim total)
  lead_telling claim total =
      lead_then Unopened Whole Whole _ _
      (lead_event Unopened Whole (Sized d.gid claim.id total) (Sizes claim.id total)
      (record { own_is = λ past g. refl; downloads_are = λ past. refl })
      (λ o was. sized_on d NoPiece NoPiece claim.id total o was.0 was.1))
      (λ past events o came was.
      ⊎_elim (λ is. lead_end Whole Whole (end.TooLarge total) past events o is.1 was)
      (λ isnt. lead_none Whole past events o isnt.1 was) came)

  -- ---- an opening

  pub lead_opening : Leads Whole Found (OpeningPhase at d.gid)
  lead_opening past events Went is was =
      listed Found past events (Opened d.gid is.0 is.1 at.now ∷ []) Went is.2
      (behind Whole Found (Opened d.gid is.0 is.1 at.now) (Opens is.0 is.1 at.now)
      (record { own_is = λ p g. refl; downloads_are = λ p. refl })
      (opened_on d NoPiece NoPiece is.0 is.1 at.now) past was)
  lead_opening past events Over is was =
      listed Found past events (Ended d.gid is.0 ∷ []) Over is.2 (ends is.0 past was.rest)
  lead_opening past events Starved is was = tt
