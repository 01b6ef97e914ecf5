-- Parts of turns whose events are orderly: what saves has news, and each check is followed by an end, unless memory ran out.
use Rattle.std.proofs.Common.{◌≡◌, ◌≢◌, ℕ, suc, ◌+◌, ◌≤◌, Bool, true, false, cond, List, [], ◌∷◌, ◌++◌, refl, sym, ap, ◌∙◌, subst, ⊎_elim, arith}
use Rattle.dl_kinds.specs.declared.gid.Gid.{Gid}
use Rattle.dl_kinds.specs.declared.runs.Run.{Run}
use Rattle.dl_history.specs.OwnEvents.{Lands, Settles}
use Rattle.dl_history.specs.PayloadParts.{is_ending}
use Rattle.engine_turns.specs.ClaimRows.{DueSavePhase, filled_phase}
use Rattle.engine_turns.specs.Phases.{AfterDisk, AllRightPhase, AndThen, CheckedPhase, CompletionPhase, DeadPhase, DiskFaultEnds, EndAfterDisk, EndingOr, FindingPhase, IfElse, JustEnd, JustEvent, LandingsPhase, NoEvent, OpeningPhase, Phase, SavePhase, SettlingPhase, TurnStart, WrongPhase, after_finding_phase}
use Rattle.engine_turns.specs.Told.{history_after}
use Rattle.engine_turns.specs.declared.outcome.Outcome.{Outcome}
use Rattle.engine_turns.specs.declared.outcome.Outcome.TheVariants.{Went, Over, Starved}
use Rattle.machine_core.specs.OwnParts.{own_of}
use Rattle.machine_core.specs.RunLegal.{has_checksum}
use Rattle.machine_core.specs.Starts.{Download, RunStart}
use Rattle.machine_core.specs.declared.ends.End.{End}
use Rattle.machine_core.specs.declared.ends.End.TheVariants as end
use Rattle.machine_core.specs.declared.events.Event.{Event}
use Rattle.machine_core.specs.declared.events.Event.TheVariants.{Checked, Cleared, Ended, Landed, Opened, Saved, Settled}
use Rattle.work_bounds.proofs.Tallies.{tally}
use Rattle.work_bounds.specs.SavesDue.{has_news}
use Rattle.work_bounds.specs.WorkLimits.{is_check}
use Rattle.offered_work.proofs.Histories.{history_append}
use Rattle.worker_turns.proofs.Standing.{own_lost}
use Rattle.solo_run.proofs.OneDownload.{own_event, tally_events}
use Rattle.solo_run.proofs.Steps.{EachAfter, IsOrderly, each_after_append}

-- ---- what is shown

-- how many checks may come without an end: one, where memory ran out behind it
abbrev pub loose_checks : Outcome → ℕ
loose_checks Went = 0
loose_checks Over = 0
loose_checks Starved = 1

pub record IsFine (start : RunStart) (past events : List Event) (loose : ℕ) : Type 0 where
  pub steps : EachAfter (IsOrderly start) past events
  pub checks : tally_events is_check events ≤ tally_events is_ending events + loose

-- the part brings such events behind this history
abbrev pub IsFineBehind : RunStart → List Event → Phase → Type 0
IsFineBehind start past P =
    (events : List Event) (outcome : Outcome) → P past events outcome
    → IsFine start past events (loose_checks outcome)

tally-append : {A : Type 0} (p : A → Bool) (xs ys : List A) → tally p (xs ++ ys) ≡ tally p xs + tally p ys
tally-append p [] ys = omega arith
tally-append p (x ∷ xs) ys = by (p x) (tally-append p xs ys)
  where
    by : (b : Bool) → tally p (xs ++ ys) ≡ tally p xs + tally p ys
        → cond b (suc (tally p (xs ++ ys))) (tally p (xs ++ ys)) ≡ cond b (suc (tally p xs)) (tally p xs) + tally p ys
    by true same = omega (arith, same)
    by false same = same

module _ (start : RunStart) where
  abbrev Fine : List Event → List Event → ℕ → Type 0
  Fine past events loose = IsFine start past events loose

  abbrev Behind : List Event → Phase → Type 0
  Behind past P = IsFineBehind start past P

  -- ---- lists of events

  fine_as : (past events given : List Event) (loose : ℕ) → events ≡ given → Fine past given loose
      → Fine past events loose
  fine_as past events given loose is fine = subst (λ (es : List Event). Fine past es loose) (sym is) fine

  pub fine_none : (past events : List Event) (loose : ℕ) → events ≡ [] → Fine past events loose
  fine_none past events loose is = fine_as past events [] loose is (record { steps = tt; checks = omega arith })

  unchecked : (b c : Bool) (loose : ℕ) → b ≡ false → cond b 1 0 ≤ cond c 1 0 + loose
  unchecked true c loose is = absurd cc
  unchecked false c loose is = omega arith

  pub fine_one : (past events : List Event) (e : Event) (loose : ℕ) → events ≡ e ∷ [] → IsOrderly start past e
      → is_check (own_event e) ≡ false → Fine past events loose
  fine_one past events e loose is orderly plain = fine_as past events (e ∷ []) loose is (record {
    steps = (orderly, tt);
    checks = unchecked (is_check (own_event e)) (is_ending (own_event e)) loose plain;
  })

  pub fine_append : (past front rest : List Event) (loose : ℕ) → Fine past front 0
      → Fine (history_after past front) rest loose → Fine past (front ++ rest) loose
  fine_append past front rest loose first then = record {
    steps = each_after_append (IsOrderly start) past front rest first.steps then.steps;
    checks =
        let a = first.checks in
        let b = then.checks in
        let c = tally-append (λ e. is_check (own_event e)) front rest in
        let d = tally-append (λ e. is_ending (own_event e)) front rest in
        omega (arith, a, b, c, d);
  }

  -- ---- parts put together

  pub fine_then : (past : List Event) (P Q : Phase) → Behind past P
      → ((front : List Event) → P past front Went → Behind (history_after past front) Q) → Behind past (AndThen P Q)
  fine_then past P Q first then events outcome came =
      ⊎_elim (λ broken. first events outcome broken.0)
      (λ whole. fine_as past events (whole.front ++ whole.rest) (loose_checks outcome) whole.cut
      (fine_append past whole.front whole.rest (loose_checks outcome) (first whole.front Went whole.first)
      (then whole.front whole.first whole.rest outcome whole.second))) came

  pub fine_if : (past : List Event) (Holds : Type 0) (P Q : Phase) → Behind past P → Behind past Q
      → Behind past (IfElse Holds P Q)
  fine_if past Holds P Q first other events outcome came =
      ⊎_elim (λ is. first events outcome is.1) (λ isnt. other events outcome isnt.1) came

  pub fine_nothing : (past : List Event) → Behind past NoEvent
  fine_nothing past events Went is = fine_none past events 0 is
  fine_nothing past events Over is = absurd is
  fine_nothing past events Starved is = absurd is

  pub fine_event : (past : List Event) (e : Event) → IsOrderly start past e → is_check (own_event e) ≡ false
      → Behind past (JustEvent e)
  fine_event past e orderly plain events Went is = fine_one past events e 0 is orderly plain
  fine_event past e orderly plain events Over is = absurd is
  fine_event past e orderly plain events Starved is = absurd is

  pub fine_end : (past : List Event) (gid : Gid) (how : End) → Behind past (JustEnd (Ended gid how))
  fine_end past gid how events Went is = absurd is
  fine_end past gid how events Over is = fine_one past events (Ended gid how) 0 is tt refl
  fine_end past gid how events Starved is = absurd is

  pub fine_fault : (past : List Event) (at : TurnStart) (gid : Gid) (events : List Event) (loose : ℕ)
      → DiskFaultEnds at gid events → Fine past events loose
  fine_fault past at gid events loose is =
      fine_one past events (Ended gid (end.Disk is.0)) loose is.2 tt refl

  -- calls of the disk, and then this event or none
  fine_disk : (past : List Event) (at : TurnStart) (gid : Gid) (due : List Event) → Fine past due 0
      → Behind past (AfterDisk at gid due)
  fine_disk past at gid due fine events Went is = fine_as past events due 0 is fine
  fine_disk past at gid due fine events Over is = fine_fault past at gid events 0 is
  fine_disk past at gid due fine events Starved is = fine_none past events 1 is

  pub fine_read : (past : List Event) (at : TurnStart) (gid : Gid) → Behind past (AfterDisk at gid [])
  fine_read past at gid = fine_disk past at gid [] (fine_none past [] 0 refl)

  pub fine_disk_end : (past : List Event) (at : TurnStart) (gid : Gid) (how : End)
      → Behind past (EndAfterDisk at gid how)
  fine_disk_end past at gid how events Went is = absurd is
  fine_disk_end past at gid how events Over is =
      ⊎_elim (λ ended. fine_one past events (Ended gid how) 0 ended tt refl) (fine_fault past at gid events 0) is
  fine_disk_end past at gid how events Starved is = fine_none past events 1 is

  -- ---- news

  abbrev pub HasNews : List Event → Gid → Type 0
  HasNews past gid = has_news (own_of start past gid) ≡ true

  pub settled_news : (past : List Event) (gid : Gid) (piece : ℕ) (right : Bool) (giver : _)
      → HasNews (Settled gid piece right giver ∷ past) gid
  settled_news past gid piece right giver =
      ap has_news (own_lost start past gid (Settled gid piece right giver) (Settles piece right giver) refl)

  landed_news : (past : List Event) (gid : Gid) (id mirror : ℕ) (run : Run) (now : _)
      → HasNews (Landed gid id mirror run now ∷ past) gid
  landed_news past gid id mirror run now =
      ap has_news (own_lost start past gid (Landed gid id mirror run now) (Lands id mirror run) refl)

  pub fine_save : (past : List Event) (at : TurnStart) (gid : Gid) → HasNews past gid → Behind past (SavePhase at gid)
  fine_save past at gid news =
      fine_disk past at gid (Saved gid at.now ∷ []) (fine_one past _ (Saved gid at.now) 0 refl news refl)

  -- ---- a piece

  pub fine_dead : (past : List Event) (at : TurnStart) (download : Download) (piece : ℕ)
      → Behind past (DeadPhase at download piece)
  fine_dead past at download piece events Went is = fine_none past events 0 is.0
  fine_dead past at download piece events Over is =
      fine_one past events (Ended download.gid (end.Dead piece is.0)) 0 is.2 tt refl
  fine_dead past at download piece events Starved is = absurd is

  fine_finding : (past : List Event) (at : TurnStart) (gid : Gid) (piece : ℕ) (right : Bool)
      → Behind past (FindingPhase at gid piece right)
  fine_finding past at gid piece right events Went is =
      fine_one past events (Settled gid piece right is.0) 0 is.2 tt refl
  fine_finding past at gid piece right events Over is = absurd is
  fine_finding past at gid piece right events Starved is = absurd is

  -- behind a finding there is news
  found_news : (past : List Event) (at : TurnStart) (gid : Gid) (piece : ℕ) (right : Bool) (front : List Event)
      → FindingPhase at gid piece right past front Went → HasNews (history_after past front) gid
  found_news past at gid piece right front is =
      subst (λ (es : List Event). HasNews (history_after past es) gid) (sym is.2)
      (settled_news past gid piece right is.0)

  fine_wrong : (past : List Event) (at : TurnStart) (download : Download) (piece : ℕ) → HasNews past download.gid
      → Behind past (WrongPhase at download piece)
  fine_wrong past at download piece news =
      fine_then past _ _
      (fine_if past _ NoEvent (SavePhase at download.gid) (fine_nothing past) (fine_save past at download.gid news))
      (λ front unlisted. fine_then (history_after past front) _ _
      (fine_event (history_after past front) (Cleared download.gid piece) tt refl)
      (λ cleared is. fine_dead (history_after (history_after past front) cleared) at download piece))

  fine_found : (past : List Event) (at : TurnStart) (download : Download) (piece : ℕ) (right : Bool)
      → HasNews past download.gid → Behind past (after_finding_phase at download piece right)
  fine_found past at download piece true news = fine_nothing past
  fine_found past at download piece false news = fine_wrong past at download piece news

  pub fine_settling : (past : List Event) (at : TurnStart) (download : Download) (piece : ℕ) (right : Bool)
      → Behind past (SettlingPhase at download piece right)
  fine_settling past at download piece right =
      fine_then past _ _ (fine_finding past at download.gid piece right)
      (λ front found. fine_found (history_after past front) at download piece right
      (found_news past at download.gid piece right front found))

  fine_all_right : (past : List Event) (at : TurnStart) (download : Download) (pieces : List ℕ)
      → Behind past (AllRightPhase at download pieces)
  fine_all_right past at download [] = fine_nothing past
  fine_all_right past at download (piece ∷ pieces) =
      fine_then past _ _ (fine_settling past at download piece true)
      (λ front settled. fine_all_right (history_after past front) at download pieces)

  -- ---- the end of a download

  fine_checked : (past : List Event) (at : TurnStart) (gid : Gid) (right : Bool)
      → Behind past (CheckedPhase at gid right)
  fine_checked past at gid true = fine_disk_end past at gid end.Complete
  fine_checked past at gid false = fine_end past gid end.Checksum

  -- it ends, or memory ran out
  end_or_starved : (past : List Event) (at : TurnStart) (gid : Gid) (right : Bool) (events : List Event)
      (outcome : Outcome) → CheckedPhase at gid right past events outcome
      → 1 + tally_events is_check events ≤ tally_events is_ending events + loose_checks outcome
  end_or_starved past at gid right events Went is = absurd (never right is)
    where
      never : (b : Bool) → CheckedPhase at gid b past events Went → ⊥
      never true h = h
      never false h = h
  end_or_starved past at gid true events Over is =
      ⊎_elim (λ ended. one_end (Ended gid end.Complete) ended refl refl)
      (λ fault. one_end (Ended gid (end.Disk fault.0)) fault.2 refl refl) is
    where
      one_end : (e : Event) → events ≡ e ∷ [] → is_check (own_event e) ≡ false → is_ending (own_event e) ≡ true
          → 1 + tally_events is_check events ≤ tally_events is_ending events + 0
      one_end e same plain ends =
          let c : tally_events is_check events ≡ 0 =
          ap (tally_events is_check) same ∙ ap (λ (b : Bool). cond b 1 0) plain in
          let d : tally_events is_ending events ≡ 1 =
          ap (tally_events is_ending) same ∙ ap (λ (b : Bool). cond b 1 0) ends in
          omega (arith, c, d)
  end_or_starved past at gid false events Over is =
      let c : tally_events is_check events ≡ 0 = ap (tally_events is_check) is in
      let d : tally_events is_ending events ≡ 1 = ap (tally_events is_ending) is in
      omega (arith, c, d)
  end_or_starved past at gid true events Starved is =
      let c : tally_events is_check events ≡ 0 = ap (tally_events is_check) is in omega (arith, c)
  end_or_starved past at gid false events Starved is = absurd is

  checked_fine : (past : List Event) (at : TurnStart) (gid : Gid) (right : Bool) (rest : List Event)
      (outcome : Outcome) → CheckedPhase at gid right (Checked gid right ∷ past) rest outcome
      → Fine past (Checked gid right ∷ rest) (loose_checks outcome)
  checked_fine past at gid right rest outcome came = record {
    steps = (tt, (fine_checked (Checked gid right ∷ past) at gid right rest outcome came).steps);
    checks = let c = end_or_starved (Checked gid right ∷ past) at gid right rest outcome came in omega (arith, c);
  }

  fine_completion : (past : List Event) (at : TurnStart) (gid : Gid) (checks : Bool)
      → Behind past (CompletionPhase at gid checks)
  fine_completion past at gid false events outcome is = fine_disk_end past at gid end.Complete events outcome is
  fine_completion past at gid true events outcome is =
      ⊎_elim (λ broken. broken_off outcome broken.1 broken.0)
      (λ whole. fine_as past events (Checked gid is.0 ∷ whole.rest) (loose_checks outcome)
      (whole.cut ∙ ap (λ (front : List Event). front ++ whole.rest) whole.first)
      (checked_fine past at gid is.0 whole.rest outcome
      (subst (λ (front : List Event). CheckedPhase at gid is.0 (history_after past front) whole.rest outcome)
      whole.first whole.second))) is.1
    where
      broken_off : (o : Outcome) → o ≢ Went → AfterDisk at gid (Checked gid is.0 ∷ []) past events o
          → Fine past events (loose_checks o)
      broken_off Went not h = absurd (not refl)
      broken_off Over not h = fine_fault past at gid events 0 h
      broken_off Starved not h = fine_none past events 1 h

  pub fine_ending : (past : List Event) (at : TurnStart) (download : Download) (Otherwise : Phase)
      → Behind past Otherwise → Behind past (EndingOr at download Otherwise)
  fine_ending past at download Otherwise other events outcome came =
      ⊎_elim (λ is. fine_completion past at download.gid (has_checksum download) events outcome is.1)
      (λ isnt. other events outcome isnt.1) came

  -- ---- an opening

  pub fine_opening : (past : List Event) (at : TurnStart) (gid : Gid) → Behind past (OpeningPhase at gid)
  fine_opening past at gid events Went is =
      fine_one past events (Opened gid is.0 is.1 at.now) 0 is.2 tt refl
  fine_opening past at gid events Over is = fine_one past events (Ended gid is.0) 0 is.2 tt refl
  fine_opening past at gid events Starved is = fine_none past events 1 is

  -- ---- a delivery

  pub fine_landings : (past : List Event) (at : TurnStart) (gid : Gid) (claim mirror : ℕ) (runs : List Run)
      → Behind past (LandingsPhase at gid claim mirror runs)
  fine_landings past at gid claim mirror [] = fine_nothing past
  fine_landings past at gid claim mirror (run ∷ runs) =
      fine_then past _ _
      (fine_disk past at gid (Landed gid claim mirror run at.now ∷ []) (fine_one past _ _ 0 refl tt refl))
      (λ front landed. fine_landings (history_after past front) at gid claim mirror runs)

  -- what went on behind a first part
  went_on : (past : List Event) (P Q : Phase) (events : List Event) → AndThen P Q past events Went
      → (front : List Event) × (rest : List Event)
      × (history_after past events ≡ history_after (history_after past front) rest) × P past front Went
      × Q (history_after past front) rest Went
  went_on past P Q events came =
      ⊎_elim (λ broken. absurd (broken.1 refl))
      (λ whole. (
        whole.front,
        whole.rest,
        ap (history_after past) whole.cut ∙ history_append past whole.front whole.rest,
        whole.first,
        whole.second,
      )) came

  -- behind the landing of runs there is news
  landings_news : (past : List Event) (at : TurnStart) (gid : Gid) (claim mirror : ℕ) (runs : List Run)
      (events : List Event) → HasNews past gid → LandingsPhase at gid claim mirror runs past events Went
      → HasNews (history_after past events) gid
  landings_news past at gid claim mirror [] events news is =
      subst (λ (es : List Event). HasNews (history_after past es) gid) (sym is) news
  landings_news past at gid claim mirror (run ∷ runs) events news came =
      let on = went_on past _ _ events came in
      let first : HasNews (history_after past on.0) gid =
      subst (λ (es : List Event). HasNews (history_after past es) gid) (sym on.3)
      (landed_news past gid claim mirror run at.now) in
      subst (λ (p : List Event). HasNews p gid) (sym on.2)
      (landings_news (history_after past on.0) at gid claim mirror runs on.1 first on.4)

  pub landed_some : (past : List Event) (at : TurnStart) (gid : Gid) (claim mirror : ℕ) (run : Run) (runs : List Run)
      (events : List Event) → LandingsPhase at gid claim mirror (run ∷ runs) past events Went
      → HasNews (history_after past events) gid
  landed_some past at gid claim mirror run runs events came =
      let on = went_on past _ _ events came in
      let first : HasNews (history_after past on.0) gid =
      subst (λ (es : List Event). HasNews (history_after past es) gid) (sym on.3)
      (landed_news past gid claim mirror run at.now) in
      subst (λ (p : List Event). HasNews p gid) (sym on.2)
      (landings_news (history_after past on.0) at gid claim mirror runs on.1 first on.4)

  -- pieces that count as right leave it
  right_news : (past : List Event) (at : TurnStart) (download : Download) (pieces : List ℕ) (events : List Event)
      → HasNews past download.gid → AllRightPhase at download pieces past events Went
      → HasNews (history_after past events) download.gid
  right_news past at download [] events news is =
      subst (λ (es : List Event). HasNews (history_after past es) download.gid) (sym is) news
  right_news past at download (piece ∷ pieces) events news came =
      let on = went_on past _ _ events came in
      let found = went_on past _ _ on.0 on.3 in
      let first : HasNews (history_after past on.0) download.gid =
      subst (λ (p : List Event). HasNews p download.gid)
      (sym (found.2 ∙ ap (history_after (history_after past found.0)) found.4))
      (found_news past at download.gid piece true found.0 found.3) in
      subst (λ (p : List Event). HasNews p download.gid) (sym on.2)
      (right_news (history_after past on.0) at download pieces on.1 first on.4)

  pub filled_news : (past before : List Event) (at : TurnStart) (download : Download) (listed : Bool)
      (events : List Event) → HasNews past download.gid → filled_phase at before download listed past events Went
      → HasNews (history_after past events) download.gid
  filled_news past before at download true events news is =
      subst (λ (es : List Event). HasNews (history_after past es) download.gid) (sym is) news
  filled_news past before at download false events news came =
      right_news past at download came.0 events news came.2

  pub fine_filled : (past before : List Event) (at : TurnStart) (download : Download) (listed : Bool)
      → Behind past (filled_phase at before download listed)
  fine_filled past before at download true events outcome is = fine_nothing past events outcome is
  fine_filled past before at download false events outcome is =
      fine_all_right past at download is.0 events outcome is.2

  pub fine_due_save : (past : List Event) (at : TurnStart) (download : Download) → HasNews past download.gid
      → Behind past (DueSavePhase at download)
  fine_due_save past at download news events outcome came =
      ⊎_elim (λ is. fine_save past at download.gid news events outcome is.1)
      (λ isnt. fine_nothing past events outcome isnt.1) came
