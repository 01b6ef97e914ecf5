-- The notices of a history, and what goes on of them.
use Rattle.std.proofs.Common.{◌≡◌, ℕ, false, ◌+◌, ◌<◌, ◌≤◌, List, [], ◌∷◌, ◌++◌, inr, drop, length, take, refl, sym, ap, ◌∙◌, subst, append_assoc, arith}
use Rattle.std.proofs.lemmas.List.{append-nil, length-append, take-append-drop}
use Rattle.machine_core.specs.Notices.{comes_before, due, end_of, first_place, IsWithin, notices_at, notices_in, placed, upto}
use Rattle.machine_core.specs.NoticeLogs.{from_on}
use Rattle.machine_core.specs.Starts.{RunStart}
use Rattle.machine_core.specs.declared.events.Event.{Event}
use Rattle.machine_core.specs.declared.notices.Cursor.{Cursor}
use Rattle.machine_core.specs.declared.notices.Notice.{Notice}
use Rattle.machine_core.specs.declared.notices.PlacedNotice.{PlacedNotice}
use Rattle.machine_core.specs.declared.notices.TheConstants.{MOST_NOTICES}
use Rattle.machine_core.proofs.NoticePlaces.{all_from, back_leads, below_append, below_back, below_ends, below_more, BelowEvent, comes, event_before, from_append, front_ends, FromEvent, later_from, late_append, LeadsAll, none_from, not_before_itself, one_before, Sorted, sorted_append, Splits, splits}

-- ---- the notices of one event

placed_leads : (n i k : ℕ) (notices : List Notice) → i < k
    → LeadsAll (record { event = n; nth = i }) (placed n k notices)
placed_leads n i k [] less = tt
placed_leads n i k (notice ∷ notices) less = (
  comes (record { event = n; nth = i }) (record { event = n; nth = k }) (inr (refl, less)),
  placed_leads n i (k + 1) notices (omega arith),
)

placed_sorted : (n k : ℕ) (notices : List Notice) → Sorted (placed n k notices)
placed_sorted n k [] = tt
placed_sorted n k (notice ∷ notices) =
    (placed_leads n k (k + 1) notices (omega arith), placed_sorted n (k + 1) notices)

placed_below : (n m k : ℕ) (notices : List Notice) → n < m → BelowEvent m (placed n k notices)
placed_below n m k [] less = tt
placed_below n m k (notice ∷ notices) less = (less, placed_below n m (k + 1) notices less)

placed_late : (n m k : ℕ) (notices : List Notice) → m ≤ n → FromEvent m (placed n k notices)
placed_late n m k [] most = tt
placed_late n m k (notice ∷ notices) most = (most, placed_late n m (k + 1) notices most)

-- ---- those of a history

pub below_in : (start : RunStart) (past : List Event) → BelowEvent (length past) (notices_in start past)
below_in start [] = tt
below_in start (e ∷ past) =
    below_append (length (e ∷ past)) (notices_in start past) (placed (length past) 0 (notices_at start past e))
    (below_more (length past) (length (e ∷ past)) (notices_in start past) (omega arith) (below_in start past))
    (placed_below (length past) (length (e ∷ past)) 0 (notices_at start past e) (omega arith))

pub sorted_in : (start : RunStart) (past : List Event) → Sorted (notices_in start past)
sorted_in start [] = tt
sorted_in start (e ∷ past) =
    sorted_append (length past) (notices_in start past) (placed (length past) 0 (notices_at start past e))
    (sorted_in start past) (placed_sorted (length past) 0 (notices_at start past e)) (below_in start past)
    (placed_late (length past) (length past) 0 (notices_at start past e) (omega arith))

-- more events add notices of their own behind
record GoesOn (start : RunStart) (past events : List Event) : Type 0 where
  more : List PlacedNotice
  are : notices_in start (events ++ past) ≡ notices_in start past ++ more
  late : FromEvent (length past) more

goes_on : (start : RunStart) (past events : List Event) → GoesOn start past events
goes_on start past [] = record { more = []; are = sym (append-nil (notices_in start past)); late = tt }
goes_on start past (e ∷ events) =
    let g = goes_on start past events in
    let here = placed (length (events ++ past)) 0 (notices_at start (events ++ past) e) in
    record {
      more = g.more ++ here;
      are = ap (λ (ps : List PlacedNotice). ps ++ here) g.are ∙ append_assoc (notices_in start past) g.more here;
      late = late_append (length past) g.more here g.late
          (placed_late (length (events ++ past)) (length past) 0 (notices_at start (events ++ past) e)
          (let n = length-append events past in omega arith));
    }

-- ---- what is told, and what comes behind

-- the first ones of those that are due, and then those from the next place on
next_due : (n k : ℕ) (all more : List PlacedNotice) (c : Cursor) → Sorted all → BelowEvent n all → FromEvent n more
    → comes_before (record { event = n; nth = 0 }) c ≡ false
    → (rest : List PlacedNotice) → drop k (from_on all c) ≡ rest
    → from_on (all ++ more) c
    ≡ take k (from_on all c) ++ from_on (all ++ more) (first_place (record { event = n; nth = 0 }) rest)
next_due n k all more c sorted below late within [] is =
    let end : Cursor = record { event = n; nth = 0 } in
    let told = take k (from_on all c) in
    let whole : told ≡ from_on all c =
    sym (append-nil told) ∙ (ap (λ (ps : List PlacedNotice). told ++ ps) (sym is) ∙ take-append-drop k (from_on all c)) in
    let behind : from_on (all ++ more) end ≡ more =
    from_append all more end
    ∙ (ap (λ (ps : List PlacedNotice). ps ++ from_on more end) (none_from end all (below_ends n all below))
    ∙ later_from n end more late (not_before_itself end)) in
    from_append all more c
    ∙ (ap (λ (ps : List PlacedNotice). from_on all c ++ ps) (later_from n c more late within)
    ∙ (ap (λ (ps : List PlacedNotice). ps ++ more) (sym whole)
    ∙ ap (λ (ps : List PlacedNotice). told ++ ps) (sym behind)))
next_due n k all more c sorted below late within (q ∷ rest) is =
    let end : Cursor = record { event = n; nth = 0 } in
    let told = take k (from_on all c) in
    let s = splits all c sorted in
    let due_is : from_on all c ≡ told ++ q ∷ rest =
    sym (take-append-drop k (from_on all c)) ∙ ap (λ (ps : List PlacedNotice). told ++ ps) is in
    let all_is : all ≡ (s.front ++ told) ++ q ∷ rest =
    s.are ∙ (ap (λ (ps : List PlacedNotice). s.front ++ ps) due_is ∙ sym (append_assoc s.front told (q ∷ rest))) in
    let sorted_is : Sorted ((s.front ++ told) ++ q ∷ rest) = subst (λ (ps : List PlacedNotice). Sorted ps) all_is sorted in
    let below_is : BelowEvent n (q ∷ rest) =
    below_back n (s.front ++ told) (q ∷ rest) (subst (λ (ps : List PlacedNotice). BelowEvent n ps) all_is below) in
    let here : from_on (q ∷ rest) q.at ≡ q ∷ rest = one_from q rest (back_leads q (s.front ++ told) rest sorted_is) in
    let from_all : from_on all q.at ≡ q ∷ rest =
    ap (λ (ps : List PlacedNotice). from_on ps q.at) all_is
    ∙ (from_append (s.front ++ told) (q ∷ rest) q.at
    ∙ (ap (λ (ps : List PlacedNotice). ps ++ from_on (q ∷ rest) q.at)
    (none_from q.at (s.front ++ told) (front_ends q (s.front ++ told) rest sorted_is)) ∙ here)) in
    let off : comes_before end q.at ≡ false = one_before q.at end (event_before q.at end below_is.0) in
    let behind : from_on (all ++ more) q.at ≡ (q ∷ rest) ++ more =
    from_append all more q.at
    ∙ (ap (λ (ps : List PlacedNotice). ps ++ from_on more q.at) from_all
    ∙ ap (λ (ps : List PlacedNotice). (q ∷ rest) ++ ps) (later_from n q.at more late off)) in
    from_append all more c
    ∙ (ap (λ (ps : List PlacedNotice). from_on all c ++ ps) (later_from n c more late within)
    ∙ (ap (λ (ps : List PlacedNotice). ps ++ more) due_is
    ∙ (append_assoc told (q ∷ rest) more ∙ ap (λ (ps : List PlacedNotice). told ++ ps) (sym behind)))) where
      one_from : (q : PlacedNotice) (rest : List PlacedNotice) → LeadsAll q.at rest → from_on (q ∷ rest) q.at ≡ q ∷ rest
      one_from q rest leads = rw (not_before_itself q.at) (ap (λ (ps : List PlacedNotice). q ∷ ps) (all_from q.at q.at rest leads (not_before_itself q.at)))

pub goes_on_due : (start : RunStart) (past events : List Event) (from : Cursor) → IsWithin past from
    → due start (events ++ past) from
    ≡ take MOST_NOTICES (due start past from) ++ due start (events ++ past) (upto start past from)
goes_on_due start past events from within =
    let g = goes_on start past events in
    let told = take MOST_NOTICES (due start past from) in
    ap (λ (ps : List PlacedNotice). from_on ps from) g.are
    ∙ (next_due (length past) MOST_NOTICES (notices_in start past) g.more from (sorted_in start past) (below_in start past)
    g.late within (drop MOST_NOTICES (due start past from)) refl
    ∙ ap (λ (ps : List PlacedNotice). told ++ from_on ps (upto start past from)) (sym g.are))

first_within : (past : List Event) (ps : List PlacedNotice) → BelowEvent (length past) ps
    → IsWithin past (first_place (end_of past) ps)
first_within past [] below = not_before_itself (end_of past)
first_within past (p ∷ ps) below = one_before p.at (end_of past) (event_before p.at (end_of past) below.0)

pub upto_within : (start : RunStart) (past : List Event) (from : Cursor) → IsWithin past (upto start past from)
upto_within start past from =
    let all = notices_in start past in
    let s = splits all from (sorted_in start past) in
    let below : BelowEvent (length past) (from_on all from) =
    below_back (length past) s.front (from_on all from)
    (subst (λ (ps : List PlacedNotice). BelowEvent (length past) ps) s.are (below_in start past)) in
    first_within past (drop MOST_NOTICES (from_on all from))
    (below_back (length past) (take MOST_NOTICES (from_on all from)) (drop MOST_NOTICES (from_on all from))
    (subst (λ (ps : List PlacedNotice). BelowEvent (length past) ps)
    (sym (take-append-drop MOST_NOTICES (from_on all from))) below))

pub none_at_end : (start : RunStart) (past : List Event) → due start past (end_of past) ≡ []
none_at_end start past =
    none_from (end_of past) (notices_in start past) (below_ends (length past) (notices_in start past) (below_in start past))
