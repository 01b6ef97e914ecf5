-- An orderly run: what it has of its one download.
use Rattle.std.proofs.Common.{◌≡◌, ℕ, ◌+◌, ◌≤◌, Bool, true, false, cond, List, [], ◌∷◌, refl, sym, ap, ◌∙◌, subst, arith}
use Rattle.std.specs.Prelude.{◌||◌, ◌&&◌, box_value}
use Rattle.std.specs.List.{list_any}
use Rattle.dl_kinds.specs.declared.gid.Gid.{Gid}
use Rattle.dl_kinds.specs.declared.runs.Moment.{Moment}
use Rattle.dl_history.specs.OwnEvents.{Checks, Clears, Grants, Halts, Lands, Loses, Opens, OwnEvent, Saves, Settles, Sizes}
use Rattle.dl_history.specs.PayloadParts.{is_ended, is_ending}
use Rattle.engine_turns.specs.RunLaws.{ActiveAreGoing}
use Rattle.machine_core.proofs.Parts.{gid_is}
use Rattle.machine_core.specs.OwnParts.{halted_where, halts_by, is_shutdown, own_of}
use Rattle.machine_core.specs.Replays.{is_active_in, is_same_gid}
use Rattle.machine_core.specs.RunLegal.{DownloadsAreLegal, IsLegal, is_stop, known_lengths}
use Rattle.machine_core.specs.Starts.{RunStart}
use Rattle.machine_core.specs.declared.calls.Call.{Call}
use Rattle.machine_core.specs.declared.calls.Call.TheVariants.{AddTorrent, AddUri}
use Rattle.machine_core.specs.declared.events.Event.{Event}
use Rattle.machine_core.specs.declared.events.Event.TheVariants.{Called, Checked, Claimed, Cleared, Ended, Landed, Left, Lost, Opened, Saved, Settled, Sized, Stopped}
use Rattle.work_bounds.proofs.Tallies.{tally}
use Rattle.work_bounds.specs.SavesDue.{has_news}
use Rattle.work_bounds.specs.WorkLimits.{is_halt}
use Rattle.solo_run.proofs.OwnOrder.{OrderlyOwn, ends_once, one}
use Rattle.solo_run.proofs.Steps.{Adds, OrderlyRun}

-- ---- the call of the line halts nothing

adds_not_shut : (call : Call) → Adds call → is_shutdown call ≡ false
adds_not_shut (AddUri uris options position) adds = refl
adds_not_shut (AddTorrent meta uris options position) adds = refl
adds_not_shut other adds = absurd adds

pub called_own : (start : RunStart) (before : List Event) (session : ℕ) (call : Call) (now : Moment) (gid : Gid)
    → (before ≡ []) × Adds call → own_of start (Called session call now ∷ before) gid ≡ own_of start before gid
called_own start before session call now gid is =
    let inactive : is_active_in start before gid ≡ false = ap (λ (p : List Event). is_active_in start p gid) is.0 in
    let none : halts_by start before (Called session call now) call gid ≡ false =
    ap (λ (b : Bool). b || (is_active_in start before gid && not_after)) (adds_not_shut call is.1)
    ∙ ap (λ (b : Bool). b && not_after) inactive in
    ap (λ (b : Bool). halted_where b (own_of start before gid)) none
  where
    not_after : Bool
    not_after = Rattle.std.specs.Prelude.not (is_active_in start (Called session call now ∷ before) gid)

-- ---- halts

-- one more event of the download, or none
pub either_way : (P : List OwnEvent → Type 0) (t : Bool) (x : OwnEvent) (own : List OwnEvent) → P (x ∷ own) → P own
    → P (cond t (x ∷ own) own)
either_way P true x own with without = with
either_way P false x own with without = without

-- .. where it is known which download it is of
either_of : (P : List OwnEvent → Type 0) (t u : Bool) (x : OwnEvent) (own : List OwnEvent) → u ≡ t
    → (u ≡ true → P (x ∷ own)) → P own → P (cond t (x ∷ own) own)
either_of P true u x own is with without = with is
either_of P false u x own is with without = without

-- it is halted by its end and by the stop
module _ (start : RunStart) (gid : Gid) where
  abbrev FewHalts : ℕ → List OwnEvent → Type 0
  FewHalts stops own = tally is_halt own ≤ tally is_ending own + stops

  run_halts : (past : List Event) → IsLegal start past → OrderlyRun start past
      → FewHalts (one (list_any is_stop past)) (own_of start past gid)
  run_halts [] legal is = omega arith
  run_halts (Called session call now ∷ before) legal is =
      subst (FewHalts (one (list_any is_stop before))) (sym (called_own start before session call now gid is.1))
      (run_halts before legal.0 is.0)
  run_halts (Ended other how ∷ before) legal is =
      let few = run_halts before legal.0 is.0 in
      either_way (FewHalts (one (list_any is_stop before))) (is_same_gid gid other) (Halts true)
      (own_of start before gid) (omega (arith, few)) few
  run_halts (Stopped ∷ before) legal is =
      let few = run_halts before legal.0 is.0 in
      let none : one (list_any is_stop before) ≡ 0 = ap one legal.1 in omega (arith, few, none)
  run_halts (Left ∷ before) legal is = run_halts before legal.0 is.0
  run_halts (Opened other v b n ∷ before) legal is =
      let few = run_halts before legal.0 is.0 in
      either_way (FewHalts (one (list_any is_stop before))) (is_same_gid gid other) (Opens v b n)
      (own_of start before gid) few few
  run_halts (Sized other i t ∷ before) legal is =
      let few = run_halts before legal.0 is.0 in
      either_way (FewHalts (one (list_any is_stop before))) (is_same_gid gid other) (Sizes i t)
      (own_of start before gid) few few
  run_halts (Claimed other c ∷ before) legal is =
      let few = run_halts before legal.0 is.0 in
      either_way (FewHalts (one (list_any is_stop before))) (is_same_gid gid other) (Grants c)
      (own_of start before gid) few few
  run_halts (Landed other i m r n ∷ before) legal is =
      let few = run_halts before legal.0 is.0 in
      either_way (FewHalts (one (list_any is_stop before))) (is_same_gid gid other) (Lands i m r)
      (own_of start before gid) few few
  run_halts (Settled other p r g ∷ before) legal is =
      let few = run_halts before legal.0 is.0 in
      either_way (FewHalts (one (list_any is_stop before))) (is_same_gid gid other) (Settles p r g)
      (own_of start before gid) few few
  run_halts (Cleared other p ∷ before) legal is =
      let few = run_halts before legal.0 is.0 in
      either_way (FewHalts (one (list_any is_stop before))) (is_same_gid gid other) (Clears p)
      (own_of start before gid) few few
  run_halts (Lost other i m p k ∷ before) legal is =
      let few = run_halts before legal.0 is.0 in
      either_way (FewHalts (one (list_any is_stop before))) (is_same_gid gid other) (Loses i m p k)
      (own_of start before gid) few few
  run_halts (Checked other r ∷ before) legal is =
      let few = run_halts before legal.0 is.0 in
      either_way (FewHalts (one (list_any is_stop before))) (is_same_gid gid other) (Checks r)
      (own_of start before gid) few few
  run_halts (Saved other n ∷ before) legal is =
      let few = run_halts before legal.0 is.0 in
      either_way (FewHalts (one (list_any is_stop before))) (is_same_gid gid other) (Saves n)
      (own_of start before gid) few few

  module _ (own_legal : DownloadsAreLegal) (going : ActiveAreGoing) where
    legal_own : (past : List Event) → IsLegal start past → tally is_ending (own_of start past gid)
        ≤ one (is_ended (own_of start past gid))
    legal_own past legal =
        ends_once (known_lengths start past gid).total (known_lengths start past gid).piece_len (own_of start past gid)
        (own_legal start past gid legal)

    -- at most twice in all
    pub halts_few : (past : List Event) → IsLegal start past → OrderlyRun start past
        → tally is_halt (own_of start past gid) ≤ 2
    halts_few past legal is =
        let few = run_halts past legal is in
        let ends = legal_own past legal in
        omega (arith, few, ends, at_most (is_ended (own_of start past gid)), at_most (list_any is_stop past))
      where
        at_most : (b : Bool) → one b ≤ 1
        at_most true = omega arith
        at_most false = omega arith

    -- .. and not before a claim comes
    unhalted : (before : List Event) → IsLegal start before → OrderlyRun start before
        → list_any is_stop before ≡ false → is_active_in start before gid ≡ true
        → tally is_halt (own_of start before gid) ≡ 0
    unhalted before legal is unstopped active =
        let few = run_halts before legal is in
        let ends = legal_own before legal in
        let none : one (list_any is_stop before) ≡ 0 = ap one unstopped in
        let lives : one (is_ended (own_of start before gid)) ≡ 0 = ap one (going start before gid legal active) in
        omega (arith, few, ends, none, lives)

    pub orderly_own : (past : List Event) → IsLegal start past → OrderlyRun start past
        → OrderlyOwn (own_of start past gid)
    orderly_own [] legal is = tt
    orderly_own (Called session call now ∷ before) legal is =
        subst OrderlyOwn (sym (called_own start before session call now gid is.1)) (orderly_own before legal.0 is.0)
    orderly_own (Claimed other c ∷ before) legal is =
        let rest = orderly_own before legal.0 is.0 in
        either_of OrderlyOwn (is_same_gid gid other) (is_same_gid gid other) (Grants c) (own_of start before gid) refl
        (λ same. (
          rest,
          (
            is.1.0 gid,
            unhalted before legal.0 is.0 is.1.1
                (subst (λ (g : Gid). is_active_in start before g ≡ true) (gid_is gid other same) legal.1.active),
          ),
        )) rest
    orderly_own (Saved other n ∷ before) legal is =
        let rest = orderly_own before legal.0 is.0 in
        either_of OrderlyOwn (is_same_gid gid other) (is_same_gid gid other) (Saves n) (own_of start before gid) refl
        (λ same. (rest, subst (λ (g : Gid). has_news (own_of start before g) ≡ true) (gid_is gid other same) is.1)) rest
    orderly_own (Ended other how ∷ before) legal is =
        let rest = orderly_own before legal.0 is.0 in
        either_way OrderlyOwn (is_same_gid gid other) (Halts true) (own_of start before gid) (rest, tt) rest
    orderly_own (Stopped ∷ before) legal is = (orderly_own before legal.0 is.0, tt)
    orderly_own (Left ∷ before) legal is = orderly_own before legal.0 is.0
    orderly_own (Opened other v b n ∷ before) legal is =
        let rest = orderly_own before legal.0 is.0 in
        either_way OrderlyOwn (is_same_gid gid other) (Opens v b n) (own_of start before gid) (rest, tt) rest
    orderly_own (Sized other i t ∷ before) legal is =
        let rest = orderly_own before legal.0 is.0 in
        either_way OrderlyOwn (is_same_gid gid other) (Sizes i t) (own_of start before gid) (rest, tt) rest
    orderly_own (Landed other i m r n ∷ before) legal is =
        let rest = orderly_own before legal.0 is.0 in
        either_way OrderlyOwn (is_same_gid gid other) (Lands i m r) (own_of start before gid) (rest, tt) rest
    orderly_own (Settled other p r g ∷ before) legal is =
        let rest = orderly_own before legal.0 is.0 in
        either_way OrderlyOwn (is_same_gid gid other) (Settles p r g) (own_of start before gid) (rest, tt) rest
    orderly_own (Cleared other p ∷ before) legal is =
        let rest = orderly_own before legal.0 is.0 in
        either_way OrderlyOwn (is_same_gid gid other) (Clears p) (own_of start before gid) (rest, tt) rest
    orderly_own (Lost other i m p k ∷ before) legal is =
        let rest = orderly_own before legal.0 is.0 in
        either_way OrderlyOwn (is_same_gid gid other) (Loses i m p k) (own_of start before gid) (rest, tt) rest
    orderly_own (Checked other r ∷ before) legal is =
        let rest = orderly_own before legal.0 is.0 in
        either_way OrderlyOwn (is_same_gid gid other) (Checks r) (own_of start before gid) (rest, tt) rest
