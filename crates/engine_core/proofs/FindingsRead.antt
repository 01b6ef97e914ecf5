-- What the events of a turn found is as the disk reads.
use Rattle.std.proofs.Common.{◌≡◌, ⊎_elim, Bool, true, List, [], ◌∷◌, Some, refl, sym, ap, ◌∙◌, subst}
use Rattle.std.specs.Prelude.{Contains}
use Rattle.std.proofs.lemmas.List.Elements.{All-contains}
use Rattle.dl_disk.specs.State.{DiskState}
use Rattle.dl_history.specs.PayloadParts.{is_opened}
use Rattle.dl_kinds.specs.declared.gid.Gid.{Gid}
use Rattle.engine_turns.specs.RunTurns.{MayComeAfter, answer_before, turn_start}
use Rattle.engine_turns.specs.Standings.{standing_after}
use Rattle.engine_turns.specs.Told.{RunTurn, history_of}
use Rattle.engine_turns.specs.TurnLaws.{HandedAreActive}
use Rattle.engine_turns.specs.declared.operations.Operation.{Operation}
use Rattle.engine_turns.specs.declared.operations.Operation.TheVariants as operation
use Rattle.machine_core.specs.Claiming.{next_to_open}
use Rattle.machine_core.specs.DownloadWants.{HasWant}
use Rattle.machine_core.specs.OwnParts.{own_of}
use Rattle.machine_core.specs.RunLegal.{IsLegal, download_in}
use Rattle.machine_core.specs.Starts.{Download, RunStart}
use Rattle.machine_core.specs.declared.ends.End.{End}
use Rattle.machine_core.specs.declared.ends.End.TheVariants as end
use Rattle.machine_core.specs.declared.events.Event.{Event}
use Rattle.machine_core.specs.declared.events.Event.TheVariants.{Checked, Ended}
use Rattle.stored_run.proofs.OpenNext.{before_opening}
use Rattle.stored_run.specs.Checks.{IsCheckedBy}
use Rattle.stored_run.specs.Refused.{IsRefusalEnd, RefusesAsRead}
use Rattle.stored_run.specs.RunFollows.{RunFollows}
use Rattle.stored_run.specs.Settlings.{CameBetween}
use Rattle.stored_run.specs.Stored.{AreWantsKept}
use Rattle.stored_run.specs.Views.{kept_want}
use Rattle.stored_run.specs.declared.run.StoredView.{StoredView}
use Rattle.engine_core.specs.Askings.{IsNext, is_opened_in}
use Rattle.engine_core.specs.Engines.{past_of, start_of}
use Rattle.engine_core.specs.Findings.{FindsNext, FindsRead}
use Rattle.engine_core.specs.TurnReads.{ChecksAsRead}
use Rattle.engine_core.specs.declared.state.EngineState.{EngineState}
use Rattle.engine_core.proofs.Gone.{IsOfGoing, IsOpenedNext, newly_opened, turn_going}
use Rattle.engine_core.proofs.Owned.{refused_by}
use Rattle.engine_core.proofs.Promising.{download_on, want_later}
use Rattle.engine_core.proofs.ReadTurns.{came_in, same_cut, truly_alike}
use Rattle.engine_core.proofs.TurnCases.{some_of}
use Rattle.engine_core.proofs.Turned.{same_download}
use Rattle.engine_core.proofs.Unchecking.{check_found}

-- an end that is a refusal is one of the download
refusal_of : (gid : Gid) (how : End) → IsRefusalEnd how → refused_by gid how ≡ Some gid
refusal_of gid (end.Exists length) is = refl
refusal_of gid (end.PieceLength have want) is = refl
refusal_of gid (end.Length have want) is = refl
refusal_of gid end.InfoHash is = refl
refusal_of gid (end.Unreadable at) is = refl
refusal_of gid end.Complete is = absurd is
refusal_of gid (end.Dead piece mark) is = absurd is
refusal_of gid (end.Disk count) is = absurd is
refusal_of gid (end.TooLarge total) is = absurd is
refusal_of gid (end.SameFile other) is = absurd is
refusal_of gid (end.SameHash other) is = absurd is
refusal_of gid end.Checksum is = absurd is

-- a worker's turn found it
next_found : {D : Type 0} (state : D → DiskState) (op : Operation) (r r' : StoredView D) → IsNext op
    → FindsRead state op r r' → FindsNext state r r'
next_found state (operation.Next worker now) r r' is finds = finds
next_found state (operation.Call session call now) r r' is finds = absurd is
next_found state (operation.Deliver claim run bytes now) r r' is finds = absurd is
next_found state (operation.More claim want now) r r' is finds = absurd is
next_found state (operation.Lose claim mark now) r r' is finds = absurd is
next_found state (operation.Sized claim total now) r r' is finds = absurd is
next_found state (operation.Seal gid sealed now) r r' is finds = absurd is
next_found state operation.Pulse r r' is finds = absurd is
next_found state (operation.Notices from) r r' is finds = absurd is
next_found state operation.Leave r r' is finds = absurd is
next_found state (operation.Stop now) r r' is finds = absurd is

module _ {D : Type 0} (laws : RunFollows) (handed : HandedAreActive) (state : D → DiskState) (old new : EngineState D)
    (told : List RunTurn) (t : RunTurn) (finds : FindsRead state t.op old.run new.run)
    (legal_was : IsLegal (start_of old) (history_of told)) (legal : IsLegal (start_of old) (history_of (t ∷ told)))
    (may : MayComeAfter (start_of old) told t)
    (kept : AreWantsKept (start_of old) (past_of old) old.run.wants.items)
    (kept_then : AreWantsKept (start_of new) (past_of new) new.run.wants.items)
    (past_is : past_of old ≡ history_of told) (start_is : start_of new ≡ start_of old)
    (past_after : past_of new ≡ history_of (t ∷ told)) where
  abbrev S : RunStart
  S = start_of old

  came_then : (e : Event) → Contains t.events e → CameBetween (past_of old) (past_of new) e
  came_then e there =
      subst (λ (p : List Event). CameBetween (past_of old) p e) (sym past_after)
      (subst (λ (p : List Event). CameBetween p (history_of (t ∷ told)) e) (sym past_is)
      (came_in (history_of told) t.events e there))

  of_going : (e : Event) → Contains t.events e → IsOfGoing S (history_of told) t.op e
  of_going e there =
      All-contains (IsOfGoing S (history_of told) t.op) t.events e (turn_going laws handed S told t legal_was may) there

  -- ---- refusals

  pub refused_read : (gid : Gid) (how : End) → Contains t.events (Ended gid how) → IsRefusalEnd how
      → RefusesAsRead S (history_of told) gid how (state old.run.disk).seen
  refused_read gid how there refusal =
      let next = (of_going (Ended gid how) there).asked gid (refusal_of gid how refusal) in
      let found = next_found state t.op old.run new.run next.0 finds in
      subst (λ (p : List Event). RefusesAsRead S p gid how (state old.run.disk).seen) past_is
      (found.refused gid (ap (next_to_open S) past_is ∙ next.1) gid how (came_then (Ended gid how) there) refusal)

  -- ---- whole checks

  -- what is said of the run after the turn
  then_is : (P : RunStart → List Event → Type 0) → P (start_of new) (past_of new) → P S (history_of (t ∷ told))
  then_is P is =
      subst (λ (p : List Event). P S p) past_after (subst (λ (s : RunStart). P s (past_of new)) start_is is)

  -- a download that is opened was added before
  added_before : (gid : Gid) → is_opened_in S (history_of (t ∷ told)) gid ≡ true
      → (d : Download) × (download_in S (history_of told) gid ≡ Some d)
  added_before gid opened = ⊎_elim
      (λ (was : is_opened_in S (history_of told) gid ≡ true).
      let here = subst (λ (p : List Event). is_opened (own_of S p gid) ≡ true) (sym past_is) was in
      let v = some_of (kept_want old.run.wants.items S (past_of old) gid) (kept.opened gid here) in
      let has = subst (λ (p : List Event). HasWant S p gid v.0) past_is (kept.has gid v.0 v.1) in
      (has.download, has.added))
      (λ (next : IsOpenedNext S (history_of told) t.op gid).
      let before = before_opening laws (record { start = S; past = history_of told; spare = 0; mark_spares = [] })
      gid legal_was next.1 in
      (before.going.download, before.going.added))
      (newly_opened laws handed S told t legal_was may gid opened)

  as_read : (gid : Gid) (right : Bool) → IsCheckedBy new.run gid right (state new.run.disk).seen
      → ChecksAsRead S (history_of told) gid right (state new.run.disk).seen
  as_read gid right is =
      let opened = then_is (λ s p. is_opened (own_of s p gid) ≡ true) (kept_then.only gid is.want is.kept) in
      let before = added_before gid opened in
      let same = same_download S (history_of (t ∷ told)) gid before.0 is.download
      (download_on laws S (history_of told) t.events gid before.0 before.1)
      (then_is (λ s p. download_in s p gid ≡ Some is.download) is.added) in
      let has = then_is (λ s p. HasWant s p gid is.want) (kept_then.has gid is.want is.kept) in
      record {
        download = is.download;
        added = before.1 ∙ ap (λ (d : Download). Some d) same;
        check = is.check;
        spelled = is.spelled;
        truly = λ want has_was.
            truly_alike is.want want right is.check (state new.run.disk).seen
            (same_cut S (history_of (t ∷ told)) gid is.want want has
            (want_later laws S told t legal gid want has_was)) is.truly;
      }

  pub checked_read : (gid : Gid) (right : Bool) → Contains t.events (Checked gid right)
      → ChecksAsRead S (history_of told) gid right (state new.run.disk).seen
  checked_read gid right there =
      as_read gid right
      (check_found state old.run new.run (turn_start S told t) (standing_after S told) t.events t.answer.said
      (answer_before S (history_of told) t.op) gid right there (came_then (Checked gid right) there) t.op finds
      may.answered)
