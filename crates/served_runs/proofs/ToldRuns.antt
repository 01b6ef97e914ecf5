-- The turns of a run, newest first, as its disk tells of them.
use Rattle.std.proofs.Common.{◌≡◌, ℕ, List, [], ◌∷◌, ◌++◌, refl, sym, ap, ◌∙◌, arith}
use Rattle.std.specs.Prelude.{IsTrue, reverse}
use Rattle.std.proofs.lemmas.List.{reverse-append, reverse-reverse}
use Rattle.blameless_mirrors.specs.Blameless.{FollowsMark, IsToldRun}
use Rattle.blameless_mirrors.specs.Lone.{first_time}
use Rattle.dl_disk.specs.declared.disk.Disk.{Ghosts as DiskSays}
use Rattle.dl_kinds.specs.declared.outside.Sink.{Ghosts as SinkSays}
use Rattle.engine_core.specs.TurnReads.{FitsDisk}
use Rattle.engine_turns.specs.RunTurns.{MayComeAfter}
use Rattle.engine_turns.specs.Told.{RunTurn}
use Rattle.run_lifecycle.proofs.Ran.{fits, goes_on, last_time, legal_told, mark, mark_time, marked, may_come}
use Rattle.run_lifecycle.proofs.Turns.{all_reversed, mark_on, reversed_cut}
use Rattle.run_lifecycle.specs.Finishes.{Ran}
use Rattle.run_lifecycle.specs.Stops.{all_turns}
use Rattle.run_lifecycle.specs.declared.ended.Ended.{Ended}
use Rattle.turn_desk.specs.Turns.{last_mark}
use Rattle.turn_desk.specs.declared.turn.Stamp.{Stamp}
use Rattle.served_runs.specs.Ends.{start_of_run, told_of}

-- a mark behind turns is that behind the newest
newest_mark : (m : Stamp) (u : RunTurn) (older : List RunTurn) → last_mark m (reverse (u ∷ older)) ≡ u.after
newest_mark m u older =
    ap (last_mark m) (reverse-append (u ∷ []) older) ∙ mark_on m (reverse older) (u ∷ [])

follows : (m : Stamp) (before : List RunTurn) (t : RunTurn) → t.before ≡ last_mark m (reverse before) → FollowsMark before t
follows m [] t is = tt
follows m (u ∷ older) t is = is ∙ newest_mark m u older

-- the first of the turns began at the given mark
pub first_at : (m : Stamp) (told : List RunTurn)
    → ((newer : List RunTurn) (t : RunTurn) (before : List RunTurn) → told ≡ newer ++ t ∷ before → t.before ≡ last_mark m (reverse before))
    → (t : RunTurn) (before : List RunTurn) → told ≡ t ∷ before → first_time told ≡ m.time
first_at m [] each t before is = absurd cc
first_at m (u ∷ []) each t before is = ap (λ (s : Stamp). s.time) (each [] u [] refl)
first_at m (u ∷ v ∷ older) each t before is =
    first_at m (v ∷ older) (λ newer x behind cut. each (u ∷ newer) x behind (λ i. u ∷ cut i)) v older refl

module _ {D O : Type 0} {says : DiskSays D} {sinks : SinkSays O} {words : List (List ℕ)} {gids doors : ℕ} {disk : D} {out : O}
    {ended : Ended D} {out' : O} (ran : Ran says sinks words gids doors disk out ended out') (tells : IsTrue says.tells) where
  pub told_run : IsToldRun (start_of_run says sinks ran) (told_of says sinks ran) (says.state ended.disk)
  told_run = record {
    legal = legal_told ran;
    ties = all_reversed (MayComeAfter (start_of_run says sinks ran)) (all_turns says ran.stops) (may_come ran);
    marks = all_reversed FollowsMark (all_turns says ran.stops) (λ earlier t later cut.
        follows (mark ran) (reverse earlier) t
        ((marked ran earlier t later cut).before ∙ ap (last_mark (mark ran)) (sym (reverse-reverse earlier))));
    fits = all_reversed (FitsDisk (start_of_run says sinks ran) (says.state ended.disk)) (all_turns says ran.stops) (fits ran tells);
  }

  -- what the disk read as the first turn began is what it read as it was given
  pub read_first : (t : RunTurn) (before : List RunTurn) → told_of says sinks ran ≡ t ∷ before → (name : List ℕ)
      → (says.state ended.disk).seen_at (first_time (told_of says sinks ran)) name ≡ (says.state disk).seen name
  read_first t before is name =
      let began = ran.begins.read in
      let time : first_time (told_of says sinks ran) ≡ (says.state began).moment =
      first_at (mark ran) (told_of says sinks ran) (λ newer u older cut.
      let back : all_turns says ran.stops ≡ reverse older ++ u ∷ reverse newer =
      sym (reverse-reverse (all_turns says ran.stops)) ∙ (ap reverse cut ∙ reversed_cut newer u older) in
      (marked ran (reverse older) u (reverse newer) back).before) t before is ∙ mark_time ran tells in
      let passes = (goes_on ran tells).passes in
      ap (λ (k : ℕ). (says.state ended.disk).seen_at k name) time
      ∙ (λ i. passes.seen (says.state began).moment (omega arith) i name)
      ∙ (λ i. (says.state began).now_seen i name)
      ∙ (ran.begins.is_read.stays tells).seen name

  -- .. and what it read behind the last turn it reads in the end
  pub read_last : (t : RunTurn) (before : List RunTurn) → told_of says sinks ran ≡ t ∷ before
      → (says.state ended.disk).seen_at t.after.time ≡ (says.state ended.disk).seen
  read_last t before is =
      let cut : all_turns says ran.stops ≡ reverse (t ∷ before) =
      sym (reverse-reverse (all_turns says ran.stops)) ∙ ap reverse is in
      let last : last_mark (mark ran) (all_turns says ran.stops) ≡ t.after =
      ap (last_mark (mark ran)) cut ∙ newest_mark (mark ran) t before in
      let time : t.after.time ≡ (says.state ended.disk).moment =
      ap (λ (s : Stamp). s.time) (sym last) ∙ last_time ran tells in
      ap (λ (k : ℕ). (says.state ended.disk).seen_at k) time ∙ (says.state ended.disk).now_seen
