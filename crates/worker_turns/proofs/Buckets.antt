-- The buckets of a run at a turn, and behind one that is held up.
use Rattle.std.proofs.Common.{◌≡◌, inl, inr, ◌≤◌, ◌∷◌, ℕ, zero, suc, Bool, true, false, cond, List, [], Option, Some, None, map, refl, ap, ◌∙◌, arith, eq-eqb}
use Rattle.std.specs.Prelude.{◌==◌, find, slice_index_or}
use Rattle.std.specs.Option.{is_some}
use Rattle.dl_history.proofs.Members.{Has}
use Rattle.machine_core.specs.Replays.{is_download}
use Rattle.machine_core.specs.RunLegal.{download_in}
use Rattle.machine_core.specs.Starts.{Download, RunStart}
use Rattle.machine_core.specs.declared.events.Event.{Event}
use Rattle.rate_limits.specs.Shared.{own_level}
use Rattle.rate_tokens.specs.Calls.{RateSet}
use Rattle.rate_tokens.specs.Level.{Level, full_level, level_by}
use Rattle.engine_turns.specs.Levels.{Spending, downloads_of, level_of_download, level_on, overall_level, overall_rate, own_levels, own_rate, own_spending, spent_by, with_new_rate, with_spending}
use Rattle.engine_turns.specs.Standings.{levels_in, standing_after}
use Rattle.engine_turns.specs.Told.{RunTurn, history_after, history_of, latest_moment, moment_in}
use Rattle.engine_turns.specs.declared.operations.Said.TheVariants as said

-- ---- the moments that they have come to

spent_moment : (spent : Option Spending) (now : ℕ) (level : Level) → level.moment ≤ now
    → (with_spending spent now level).moment ≤ now
spent_moment None now level past = past
spent_moment (Some spending) now level past = omega (arith, past)

new_moment : (t : Bool) (level other : Level) (now : ℕ) → level.moment ≤ now → other.moment ≤ now
    → (cond t level other).moment ≤ now
new_moment true level other now past more = past
new_moment false level other now past more = more

on_moment : (spent : Option Spending) (old new now : ℕ) (level : Level) → level.moment ≤ now
    → (level_on spent old new now level).moment ≤ now
on_moment spent old new now level past =
    let first = spent_moment spent now level past in
    let taken = with_spending spent now level in
    let later : (level_by (RateSet new now) taken).moment ≤ now = omega (arith, first) in
    new_moment (old == new) taken (level_by (RateSet new now) taken) now first later

pub overall_moment : (start : RunStart) (told : List RunTurn) → (overall_level start told).moment ≤ latest_moment told
overall_moment start [] = omega arith
overall_moment start (t ∷ before) =
    let past = overall_moment start before in
    on_moment (spent_by start (history_of before) t.op t.answer.said) (overall_rate start (history_of before))
    (overall_rate start (history_of (t ∷ before))) (latest_moment (t ∷ before)) (overall_level start before)
    (omega (arith, past))

download_moment : (start : RunStart) (told : List RunTurn) (d : Download)
    → (level_of_download start told d).moment ≤ latest_moment told
download_moment start [] d = omega arith
download_moment start (t ∷ before) d =
    let past = download_moment start before d in
    let now = latest_moment (t ∷ before) in
    let rate = own_rate start (history_of (t ∷ before)) d in
    let fresh : (full_level rate now).moment ≤ now = omega arith in
    new_moment (is_some (download_in start (history_of before) d.gid))
    (level_on (own_spending d.gid (spent_by start (history_of before) t.op t.answer.said))
    (own_rate start (history_of before) d) rate now (level_of_download start before d)) (full_level rate now) now
    (on_moment (own_spending d.gid (spent_by start (history_of before) t.op t.answer.said))
    (own_rate start (history_of before) d) rate now
    (level_of_download start before d) (omega (arith, past))) fresh

index_moment : (f : Download → Level) (ds : List Download) (place now : ℕ) → ((d : Download) → (f d).moment ≤ now)
    → (slice_index_or (map f ds) place (full_level 0 0)).moment ≤ now
index_moment f [] place now each = omega arith
index_moment f (d ∷ ds) zero now each = each d
index_moment f (d ∷ ds) (suc place) now each = index_moment f ds place now each

pub own_moment : (start : RunStart) (told : List RunTurn) (place : ℕ)
    → (own_level (levels_in (standing_after start told)) place).moment ≤ latest_moment told
own_moment start told place =
    index_moment (level_of_download start told) (downloads_of start (history_of told)) place (latest_moment told)
    (download_moment start told)

-- ---- a turn that is held up changes none

same_rate : (rate now : ℕ) (level : Level) → with_new_rate rate rate now level ≡ level
same_rate rate now level =
    ap (λ (t : Bool). cond t level (level_by (RateSet rate now) level)) (eq-eqb rate rate refl)

found_later : (p : Download → Bool) (ds : List Download) (x : Download) (t : Bool) → is_some (find p ds) ≡ true
    → is_some (cond t (Some x) (find p ds)) ≡ true
found_later p ds x true found = refl
found_later p ds x false found = found

found_some : (p : Download → Bool) (ds : List Download) (d : Download) → Has ds d → p d ≡ true → is_some (find p ds) ≡
    true
found_some p [] d there is = absurd there
found_some p (x ∷ ds) d (inl same) is =
    let yes : p x ≡ true = ap p same ∙ is in ap (λ (t : Bool). is_some (cond t (Some x) (find p ds))) yes
found_some p (x ∷ ds) d (inr there) is = found_later p ds x (p x) (found_some p ds d there is)

map_same : (f g : Download → Level) (ds : List Download) → ((d : Download) → Has ds d → f d ≡ g d) → map f ds ≡ map g ds
map_same f g [] same = refl
map_same f g (d ∷ ds) same =
    let first = same d (inl refl) in let rest = map_same f g ds (λ x there. same x (inr there)) in cc

module _ (start : RunStart) (earlier : List RunTurn) (t : RunTurn) (ms : ℕ) (held : t.answer.said ≡ said.Hold ms)
    (none : t.events ≡ []) where
  pub past_same : history_of (t ∷ earlier) ≡ history_of earlier
  past_same = ap (λ (es : List Event). history_after (history_of earlier) es) none

  spends_none : spent_by start (history_of earlier) t.op t.answer.said ≡ None
  spends_none = ap (λ a. spent_by start (history_of earlier) t.op a) held

  pub overall_same : overall_level start (t ∷ earlier) ≡ overall_level start earlier
  overall_same =
      let now = (moment_in earlier t.op).0 in
      ap (λ (o : Option Spending). level_on o (overall_rate start (history_of earlier))
      (overall_rate start (history_of (t ∷ earlier))) now (overall_level start earlier)) spends_none
      ∙ (ap (λ (h : List Event). with_new_rate (overall_rate start (history_of earlier)) (overall_rate start h) now
      (overall_level start earlier)) past_same
      ∙ same_rate (overall_rate start (history_of earlier)) now (overall_level start earlier))

  download_same : (d : Download) → is_some (download_in start (history_of earlier) d.gid) ≡ true
      → level_of_download start (t ∷ earlier) d ≡ level_of_download start earlier d
  download_same d known =
      let now = (moment_in earlier t.op).0 in
      let level = level_of_download start earlier d in
      let rate = own_rate start (history_of earlier) d in
      ap (λ (b : Bool). cond b (level_on (own_spending d.gid (spent_by start (history_of earlier) t.op t.answer.said))
      rate (own_rate start (history_of (t ∷ earlier)) d) now level)
      (full_level (own_rate start (history_of (t ∷ earlier)) d) now)) known
      ∙ (ap (λ (o : Option Spending). level_on (own_spending d.gid o) rate
      (own_rate start (history_of (t ∷ earlier)) d) now level) spends_none
      ∙ (ap (λ (h : List Event). with_new_rate rate (own_rate start h d) now level) past_same ∙ same_rate rate now
      level))

  pub own_same : own_levels start (t ∷ earlier) ≡ own_levels start earlier
  own_same =
      ap (λ (h : List Event). map (level_of_download start (t ∷ earlier)) (downloads_of start h)) past_same
      ∙ map_same (level_of_download start (t ∷ earlier)) (level_of_download start earlier)
      (downloads_of start (history_of earlier))
      (λ d there. download_same d
      (found_some (is_download d.gid) (downloads_of start (history_of earlier)) d there (eq-eqb d.gid.0 d.gid.0 refl)))
