-- A run leaves the files of other wants as they are.
use Rattle.std.proofs.Common.{◌≡◌, ◌≢◌, inr, ℕ, Bool, true, false, IsTrue, List, [], ◌∷◌, ◌++◌, None, refl, sym, ap, ◌∙◌, subst, arith, append_assoc}
use Rattle.std.specs.Prelude.{◌||◌, All, Contains, codes, reverse}
use Rattle.std.specs.List.{list_any}
use Rattle.std.specs.Str.{bytes_eq}
use Rattle.std.proofs.lemmas.List.{append-nil}
use Rattle.std.proofs.lemmas.List.Elements.{All-cons, All-head, All-nil, All-tail, All-weaker, Contains-append_right}
use Rattle.std.proofs.lemmas.Slice.Eq.{bytes_eq-Decides}
use Rattle.control_file.specs.declared.want.Want.{Want}
use Rattle.dl_disk.specs.Files.{Files}
use Rattle.dl_disk.specs.State.{DiskState}
use Rattle.dl_disk.specs.declared.disk.Disk.{Ghosts as DiskSays}
use Rattle.dl_kinds.specs.declared.gid.Gid.{Gid}
use Rattle.dl_kinds.specs.declared.outside.Sink.{Ghosts as SinkSays}
use Rattle.dl_kinds.specs.declared.plan.Plan.{Plan}
use Rattle.engine_core.specs.Askings.{IsAsked}
use Rattle.engine_core.specs.TurnReads.{IsUntouched}
use Rattle.engine_turns.specs.Told.{RunTurn, history_after, history_of}
use Rattle.machine_core.specs.DownloadWants.{HasWant, WantsStay}
use Rattle.machine_core.specs.RunLegal.{IsLegal}
use Rattle.machine_core.specs.Starts.{RunStart}
use Rattle.machine_core.specs.declared.events.Event.{Event}
use Rattle.payload_files.specs.declared.names.TheConstants.{DOT}
use Rattle.resume_core.specs.Sharing.{names_of_want, share_names}
use Rattle.resume_core.specs.Steps.{SameFor}
use Rattle.turn_desk.specs.Turns.{last_mark}
use Rattle.turn_desk.specs.declared.turn.Stamp.{Stamp}
use Rattle.run_lifecycle.specs.DiskCauses.{IsNameOfNone, OthersStay, names_beside}
use Rattle.run_lifecycle.specs.Finishes.{Ran}
use Rattle.run_lifecycle.specs.TurnsOf.{AreFed}
use Rattle.run_lifecycle.specs.declared.ended.Ended.{Ended}
use Rattle.run_report.specs.declared.endings.RunEnding.TheVariants.{NoMemory}
use Rattle.run_lifecycle.proofs.Kept.{seen_same}
use Rattle.run_lifecycle.proofs.Ran as ran_facts
use Rattle.run_lifecycle.proofs.Turns.{mark_on, reversed_cut}

-- ---- the same files

same_on : (want : Want) (a b c : Files) → SameFor want a b → SameFor want b c → SameFor want a c
same_on want a b c first then = record { control = then.control ∙ first.control; files = then.files ∙ first.files }

-- ---- wants of some of the turns

pub legal_before : (start : RunStart) (past events : List Event) → IsLegal start (history_after past events)
    → IsLegal start past
legal_before start past [] legal = legal
legal_before start past (e ∷ events) legal = (legal_before start (e ∷ past) events legal).0

wants_after : WantsStay → (start : RunStart) (past events : List Event) (gid : Gid) (want : Want)
    → IsLegal start (history_after past events) → HasWant start past gid want
    → HasWant start (history_after past events) gid want
wants_after stay start past [] gid want legal has = has
wants_after stay start past (e ∷ events) gid want legal has =
    wants_after stay start (e ∷ past) events gid want legal
    (stay start past e gid want (legal_before start (e ∷ past) events legal) has)

wants_on : WantsStay → (start : RunStart) (newer before : List RunTurn) (gid : Gid) (want : Want)
    → IsLegal start (history_of (newer ++ before)) → HasWant start (history_of before) gid want
    → HasWant start (history_of (newer ++ before)) gid want
wants_on stay start [] before gid want legal has = has
wants_on stay start (t ∷ newer) before gid want legal has =
    wants_after stay start (history_of (newer ++ before)) t.events gid want legal
    (wants_on stay start newer before gid want (legal_before start (history_of (newer ++ before)) t.events legal) has)

asked_on : (start : RunStart) (newer before : List RunTurn) (gid : Gid) → IsAsked start before gid
    → IsAsked start (newer ++ before) gid
asked_on start [] before gid asked = asked
asked_on start (t ∷ newer) before gid asked = inr (asked_on start newer before gid asked)

-- what no turn touches, none of the earlier ones does
untouched_before : WantsStay → (start : RunStart) (newer before : List RunTurn) (want : Want)
    → IsLegal start (history_of (newer ++ before)) → IsUntouched start (newer ++ before) want
    → IsUntouched start before want
untouched_before stay start newer before want legal untouched gid other asked has =
    untouched gid other (asked_on start newer before gid asked) (wants_on stay start newer before gid other legal has)

module _ {D O : Type 0} {says : DiskSays D} {sinks : SinkSays O} {words : List (List ℕ)}
    {gids doors : ℕ}
    {disk : D} {out : O} {ended : Ended D} {out' : O}
    (ran : Ran says sinks words gids doors disk out ended out') (tells : IsTrue says.tells)
    (stay : WantsStay)
    (want : Want) (untouched : IsUntouched (ran_facts.start ran) (ran_facts.told ran) want) where
  abbrev now : DiskState
  now = says.state ended.disk

  abbrev mark : Stamp
  mark = ran_facts.mark ran

  -- from any of the turns on
  same_from : (earlier later : List RunTurn) → ran_facts.turns ran ≡ earlier ++ later
      → SameFor want (now.seen_at (last_mark mark earlier).time)
      (now.seen_at (last_mark mark (ran_facts.turns ran)).time)
  same_from earlier [] cut =
      subst (λ (ts : List RunTurn). SameFor want (now.seen_at (last_mark mark earlier).time)
      (now.seen_at (last_mark mark ts).time))
      (sym (cut ∙ append-nil earlier)) (record { control = refl; files = refl })
  same_from earlier (t ∷ later) cut =
      let fits = ran_facts.fits ran tells earlier t later cut in
      let told : ran_facts.told ran ≡ reverse later ++ t ∷ reverse earlier = ap reverse cut
      ∙ reversed_cut earlier t later in
      let its : IsUntouched (ran_facts.start ran) (t ∷ reverse earlier) want =
      untouched_before stay (ran_facts.start ran) (reverse later) (t ∷ reverse earlier) want
      (subst (λ (ts : List RunTurn). IsLegal (ran_facts.start ran) (history_of ts)) told (ran_facts.legal_told ran))
      (subst (λ (ts : List RunTurn). IsUntouched (ran_facts.start ran) ts want) told untouched) in
      let before : t.before ≡ last_mark mark earlier = (ran_facts.marked ran earlier t later cut).before in
      let after : last_mark mark (earlier ++ t ∷ []) ≡ t.after = mark_on mark earlier (t ∷ []) in
      let rest = same_from (earlier ++ t ∷ []) later (cut ∙ sym (append_assoc earlier (t ∷ []) later)) in
      same_on want (now.seen_at (last_mark mark earlier).time) (now.seen_at t.after.time)
      (now.seen_at (last_mark mark (ran_facts.turns ran)).time)
      (subst (λ (m : Stamp). SameFor want (now.seen_at m.time) (now.seen_at t.after.time)) before
      (fits.fits.untouched want its))
      (subst (λ (m : Stamp). SameFor want (now.seen_at m.time)
      (now.seen_at (last_mark mark (ran_facts.turns ran)).time)) after rest)

  -- what is told of the first mark is what the given disk read
  first_seen : now.seen_at mark.time ≡ (says.state disk).seen
  first_seen =
      ap now.seen_at (ran_facts.mark_time ran tells)
      ∙ ((ran_facts.goes_on ran tells).passes.seen (says.state ran.begins.read).moment (omega arith)
      ∙ ((says.state ran.begins.read).now_seen ∙ seen_same ran tells))

  last_seen : now.seen_at (last_mark mark (ran_facts.turns ran)).time ≡ now.seen
  last_seen = ap now.seen_at (ran_facts.last_time ran tells) ∙ now.now_seen

  pub same_for : SameFor want (says.state disk).seen now.seen
  same_for = subst (λ (old : Files). SameFor want old now.seen) first_seen
      (subst (λ (new : Files). SameFor want (now.seen_at mark.time) new) last_seen
      (same_from [] (ran_facts.turns ran) refl))

-- ---- names

-- a want of one file in the folder in which the program runs, of this name
abbrev lone_plan : Plan
lone_plan = record {
  total = 0;
  piece_len = 1;
  pieces = 0;
  pieces_are = refl;
  is_plan = record { some = omega arith; piece = omega arith; pieces = omega arith; blocks = omega arith };
  bounded = omega arith;
}

abbrev lone_want : List ℕ → Want
lone_want name = record {
  base = name;
  dir = DOT ∷ [];
  layout = record { path = name ∷ []; len = 0 } ∷ [];
  plan = lone_plan;
  digests = [];
  info_hash = None;
}

false_from : (b : Bool) → (b ≡ true → ⊥) → b ≡ false
false_from true none = absurd (none refl)
false_from false none = refl

both_false : (a b : Bool) → a ≡ false → b ≡ false → (a || b) ≡ false
both_false false false one other = refl
both_false false true one other = absurd cc
both_false true b one other = absurd cc

abbrev first_or : {A : Type 0} → A → List A → A
first_or x [] = x
first_or x (y ∷ ys) = y

none_passes : (test : List ℕ → Bool) (names : List (List ℕ)) → All (λ name. test name ≡ false) names
    → list_any test names ≡ false
none_passes test [] all = refl
none_passes test (name ∷ names) all =
    both_false (test name) (list_any test names) (All-head (λ n. test n ≡ false) name names all)
    (none_passes test names (All-tail (λ n. test n ≡ false) name names all))

-- a name that isn't among these is none of them
not_among : (name : List ℕ) (others : List (List ℕ)) → All (λ other. name ≡ other → ⊥) others
    → list_any (bytes_eq name) others ≡ false
not_among name others apart =
    none_passes (bytes_eq name) others
    (All-weaker (λ (other : List ℕ). name ≡ other → ⊥) (λ other. bytes_eq name other ≡ false)
    (λ other none. false_from (bytes_eq name other) (λ is. none ((bytes_eq-Decides name other).0 is))) others apart)

-- no name of the one list is one of the other
apart_names : (names others : List (List ℕ)) → All (λ other. ¬ Contains names other) others
    → list_any (λ name. list_any (bytes_eq name) others) names ≡ false
apart_names [] others apart = refl
apart_names (name ∷ names) others apart =
    both_false (list_any (bytes_eq name) others) (list_any (λ n. list_any (bytes_eq n) others) names)
    (not_among name others (All-weaker (λ (other : List ℕ). ¬ Contains (name ∷ names) other) (λ other. name ≡ other → ⊥)
    (λ other none same. none (0, omega arith, same)) others apart))
    (apart_names names others
    (All-weaker (λ (other : List ℕ). ¬ Contains (name ∷ names) other) (λ other. ¬ Contains names other)
    (λ other none there. none (Contains-append_right (name ∷ []) names other there)) others apart))

unshared : (want : Want) (name : List ℕ) → All (λ beside. ¬ Contains (names_of_want want) beside) (names_beside name)
    → share_names want (lone_want name) ≡ false
unshared want name apart =
    let P : List ℕ → Type 0 = λ beside. ¬ Contains (names_of_want want) beside in
    let control = name ++ codes ".aria2" in
    let temporary = name ++ codes ".aria2__temp" in
    let first = All-head P name (control ∷ temporary ∷ []) apart in
    let rest = All-tail P name (control ∷ temporary ∷ []) apart in
    let second = All-head P control (temporary ∷ []) rest in
    let third = All-head P temporary [] (All-tail P control (temporary ∷ []) rest) in
    apart_names (names_of_want want) (names_of_want (lone_want name))
    (All-cons P control (temporary ∷ name ∷ []) second
    (All-cons P temporary (name ∷ []) third (All-cons P name [] first (All-nil P))))

module _ {D O : Type 0} {says : DiskSays D} {sinks : SinkSays O} {words : List (List ℕ)}
    {gids doors : ℕ}
    {disk : D} {out : O} {ended : Ended D} {out' : O} where
  name_same : (ran : Ran says sinks words gids doors disk out ended out') → IsTrue says.tells → WantsStay
      → (name : List ℕ) → IsNameOfNone (ran_facts.start ran) (ran_facts.told ran) name
      → (says.state ended.disk).seen name ≡ (says.state disk).seen name
  name_same ran tells stay name none =
      let same = same_for ran tells stay (lone_want name)
      (λ gid want asked has. unshared want name (none gid want asked has)) in
      ap (first_or None) same.files

  pub leaves_other_files : WantsStay → (ran : Ran says sinks words gids doors disk out ended out') → IsTrue says.tells
      → (ended.ending ≢ NoMemory → AreFed (ran_facts.told ran)) → OthersStay says words gids doors disk ended
  leaves_other_files stay ran tells fed = record {
    line = ran.begins.line;
    means = ran.begins.means;
    told = ran_facts.told ran;
    turns = ran_facts.are_turns ran fed;
    wants = same_for ran tells stay;
    names = name_same ran tells stay;
  }
