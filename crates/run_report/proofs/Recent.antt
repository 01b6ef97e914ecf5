-- No event before one that came too early counts for a speed: moments never fall.
use Rattle.std.proofs.Common.{◌≡◌, ◌∙◌, ℕ, zero, suc, Bool, true, false, cond, Option, Some, None, ◌+◌, ◌-◌, ◌<◌, ◌≤◌, List, [], ◌∷◌, length, get_or, take, drop, reverse, slice_get, refl, sym, ap, subst, arith}
use Rattle.std.specs.Prelude.{◌&&◌, All, not, sum_by}
use Rattle.std.specs.List.{cons_option, filter_map}
use Rattle.std.specs.Option.{option_map_or}
use Rattle.std.proofs.lemmas.Bool.Decides.{nat_tests}
use Rattle.std.proofs.lemmas.List.{drop_more, get_or-reverse, length-reverse}
use Rattle.std.proofs.lemmas.List.Elements.{All-head, All-tail}
use Rattle.std.proofs.lemmas.List.Sums.{sum_by-cons, sum_by-take-drop}
use Rattle.std.proofs.lemmas.Option.{get_or_from_slice_get, same_Some}
use Rattle.dl_kinds.specs.declared.gid.Gid.{Gid}
use Rattle.dl_kinds.specs.declared.runs.Moment.{Moment}
use Rattle.dl_kinds.specs.declared.runs.Run.{Run}
use Rattle.dl_history.specs.StandingClaims.{blocks_in}
use Rattle.piece_table.specs.Sums.{block_bytes}
use Rattle.machine_core.specs.OwnParts.{PayloadLengths, no_lengths}
use Rattle.machine_core.specs.RunLegal.{IsLaterThan, IsLegal, MayFollow, moment_of_event}
use Rattle.machine_core.specs.Starts.{RunStart}
use Rattle.machine_core.specs.declared.events.Event.{Event}
use Rattle.machine_core.specs.declared.events.Event.TheVariants.{Called, Opened, Sized, Claimed, Landed, Settled, Cleared, Lost, Checked, Saved, Ended, Left, Stopped}
use Rattle.run_report.specs.Speeds.{counts_gid, is_recent, recent_bytes, run_bytes}

-- ---- moments

unknown : (P : Type 0) (m : Moment) → None ≡ Some m → P
unknown P m is = absurd (let f : None ≡ Some m = is in cc)

-- an event that may come next is later than those before it
later_before : (start : RunStart) (past : List Event) (e : Event) (m : Moment) → MayFollow start past e
    → moment_of_event e ≡ Some m → IsLaterThan past m
later_before start past (Called session asked now) m may is = subst (IsLaterThan past) (same_Some now m is) may.1
later_before start past (Opened gid verified blocks now) m may is =
    subst (IsLaterThan past) (same_Some now m is) may.later
later_before start past (Sized gid id total) m may is = unknown (IsLaterThan past m) m is
later_before start past (Claimed gid claim) m may is =
    subst (IsLaterThan past) (same_Some claim.since m is) may.later
later_before start past (Landed gid id mirror run now) m may is =
    subst (IsLaterThan past) (same_Some now m is) may.1
later_before start past (Settled gid piece right giver) m may is = unknown (IsLaterThan past m) m is
later_before start past (Cleared gid piece) m may is = unknown (IsLaterThan past m) m is
later_before start past (Lost gid id mirror piece mark) m may is = unknown (IsLaterThan past m) m is
later_before start past (Checked gid right) m may is = unknown (IsLaterThan past m) m is
later_before start past (Saved gid now) m may is = subst (IsLaterThan past) (same_Some now m is) may.1
later_before start past (Ended gid how) m may is = unknown (IsLaterThan past m) m is
later_before start past Left m may is = unknown (IsLaterThan past m) m is
later_before start past Stopped m may is = unknown (IsLaterThan past m) m is

abbrev IsBy : Moment → Moment → Type 0
IsBy limit earlier = earlier.0 ≤ limit.0

head_by : (o : Option Moment) (rest : List Moment) (limit m : Moment) → All (IsBy limit) (cons_option o rest)
    → o ≡ Some m → m.0 ≤ limit.0
head_by None rest limit m all is = unknown (m.0 ≤ limit.0) m is
head_by (Some now) rest limit m all is =
    subst (IsBy limit) (same_Some now m is) (All-head (IsBy limit) now rest all)

tail_by : (o : Option Moment) (rest : List Moment) (limit : Moment) → All (IsBy limit) (cons_option o rest)
    → All (IsBy limit) rest
tail_by None rest limit all = all
tail_by (Some now) rest limit all = All-tail (IsBy limit) now rest all

-- ---- bytes

none_counts : (b c : Bool) (x : ℕ) → c ≡ false → cond (b && c) x 0 ≡ 0
none_counts true c x is = rw is refl
none_counts false c x is = refl

-- an event whose moment, if it has one, isn't recent brought nothing
old_brings : (lengths_of : Gid → PayloadLengths) (which : Option Gid) (now : Moment) (e : Event)
    → ((m : Moment) → moment_of_event e ≡ Some m → is_recent now m ≡ false)
    → recent_bytes lengths_of which now e ≡ 0
old_brings lengths_of which now (Called session asked m) old = refl
old_brings lengths_of which now (Opened gid verified blocks m) old = refl
old_brings lengths_of which now (Sized gid id total) old = refl
old_brings lengths_of which now (Claimed gid claim) old = refl
old_brings lengths_of which now (Landed gid id mirror run m) old =
    none_counts (counts_gid which gid) (is_recent now m) (run_bytes (lengths_of gid) run) (old m refl)
old_brings lengths_of which now (Settled gid piece right giver) old = refl
old_brings lengths_of which now (Cleared gid piece) old = refl
old_brings lengths_of which now (Lost gid id mirror piece mark) old = refl
old_brings lengths_of which now (Checked gid right) old = refl
old_brings lengths_of which now (Saved gid m) old = refl
old_brings lengths_of which now (Ended gid how) old = refl
old_brings lengths_of which now Left old = refl
old_brings lengths_of which now Stopped old = refl

older : (now limit m : Moment) → is_recent now limit ≡ false → m.0 ≤ limit.0 → is_recent now m ≡ false
older now limit m old by = grind (arith, nat_tests)

-- .. nor any before it
rest_brings : (lengths_of : Gid → PayloadLengths) (which : Option Gid) (now limit : Moment) (past : List Event)
    → is_recent now limit ≡ false → IsLaterThan past limit
    → sum_by (recent_bytes lengths_of which now) past ≡ 0
rest_brings lengths_of which now limit [] old later = refl
rest_brings lengths_of which now limit (e ∷ past) old later =
    let rest = filter_map moment_of_event past in
    let here : recent_bytes lengths_of which now e ≡ 0 =
    old_brings lengths_of which now e
    (λ m is. older now limit m old (head_by (moment_of_event e) rest limit m later is)) in
    let behind = rest_brings lengths_of which now limit past old (tail_by (moment_of_event e) rest limit later) in
    let joined = sum_by-cons (recent_bytes lengths_of which now) e past in
    omega arith

legal_behind : (n : ℕ) (start : RunStart) (past : List Event) → IsLegal start past → IsLegal start (drop n past)
legal_behind zero start past legal = legal
legal_behind (suc n) start [] legal = tt
legal_behind (suc n) start (e ∷ past) legal = legal_behind n start past legal.0

not_recent : (now m : Moment) → not (is_recent now m) ≡ true → is_recent now m ≡ false
not_recent now m is = grind (arith, nat_tests)

moment_here : (o : Option Moment) (now : Moment) → option_map_or (λ m. not (is_recent now m)) o false ≡ true
    → (m : Moment) × (o ≡ Some m) × (is_recent now m ≡ false)
moment_here None now is = absurd (let f : false ≡ true = is in cc)
moment_here (Some m) now is = (m, refl, not_recent now m is)

-- an event that came too early ends the sum
pub stops : (start : RunStart) (past : List Event) (lengths_of : Gid → PayloadLengths) (which : Option Gid) (now : Moment)
    (back : ℕ) (e : Event) → IsLegal start past → back < length past → get_or past back e ≡ e
    → option_map_or (λ m. not (is_recent now m)) (moment_of_event e) false ≡ true
    → sum_by (recent_bytes lengths_of which now) (take back past) ≡ sum_by (recent_bytes lengths_of which now) past
stops start past lengths_of which now back e legal within there old =
    let f = recent_bytes lengths_of which now in
    let rest = drop (back + 1) past in
    let at = moment_here (moment_of_event e) now old in
    let split : drop back past ≡ e ∷ rest =
    drop_more past back e within ∙ ap (λ (x : Event). x ∷ rest) there in
    let behind : IsLegal start (e ∷ rest) = subst (IsLegal start) split (legal_behind back start past legal) in
    let here : recent_bytes lengths_of which now e ≡ 0 =
    old_brings lengths_of which now e
    (λ m is. subst (λ (n : Moment). is_recent now n ≡ false) (same_Some at.0 m (sym at.1 ∙ is)) at.2) in
    let others : sum_by (recent_bytes lengths_of which now) rest ≡ 0 =
    rest_brings lengths_of which now at.0 rest at.2 (later_before start rest e at.0 behind.1 at.1) in
    let joined = sum_by-cons (recent_bytes lengths_of which now) e rest in
    let apart = sum_by-take-drop (recent_bytes lengths_of which now) past back in
    let same = ap (λ (es : List Event). sum_by (recent_bytes lengths_of which now) es) split in
    omega arith

-- the event that is so far back from the newest
pub event_back : (events past : List Event) (n back : ℕ) (e : Event) → events ≡ reverse past → n ≡ length events
    → back < n → slice_get events (n - 1 - back) ≡ Some e → (back < length past) × (get_or past back e ≡ e)
event_back events past n back e same many within there =
    let long : length events ≡ length past = ap (λ (es : List Event). length es) same ∙ length-reverse past in
    let back_is : length past - 1 - (n - 1 - back) ≡ back = omega arith in (
      omega arith,
      ap (λ (k : ℕ). get_or past k e) (sym back_is)
          ∙ (sym (get_or-reverse past (n - 1 - back) e (omega arith))
          ∙ (ap (λ (es : List Event). get_or es (n - 1 - back) e) (sym same)
          ∙ get_or_from_slice_get events (n - 1 - back) e e there)),
    )

-- ---- a landing

pub landed_brings : (lengths_of : Gid → PayloadLengths) (which : Option Gid) (now : Moment) (gid : Gid) (id mirror : ℕ)
    (run : Run) (moment : Moment) → counts_gid which gid ≡ true → is_recent now moment ≡ true
    → run_bytes (lengths_of gid) run ≡ recent_bytes lengths_of which now (Landed gid id mirror run moment)
landed_brings lengths_of which now gid id mirror run moment counts recent =
    sym (ap (λ (b : Bool). cond (b && is_recent now moment) (run_bytes (lengths_of gid) run) 0) counts
    ∙ ap (λ (b : Bool). cond b (run_bytes (lengths_of gid) run) 0) recent)

no_block : (block : ℕ) → block_bytes 0 0 block ≡ 0
no_block block = omega arith

no_blocks : (blocks : List ℕ) → sum_by (block_bytes 0 0) blocks ≡ 0
no_blocks [] = refl
no_blocks (block ∷ blocks) =
    let here = no_block block in
    let rest = no_blocks blocks in
    let joined = sum_by-cons (block_bytes 0 0) block blocks in
    omega arith

-- while the lengths aren't known a run has no bytes
pub no_bytes : (run : Run) → run_bytes no_lengths run ≡ 0
no_bytes run = no_blocks (blocks_in run)
