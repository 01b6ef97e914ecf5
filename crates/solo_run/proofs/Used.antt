-- A run over one link uses the first one alone, and none where nothing happens.
use Rattle.std.proofs.Common.{◌≡◌, ◌≤◌, inl, inr, ℕ, List, [], ◌∷◌, drop, length, refl, sym, ap, ◌∙◌, slice_index_or, slice_set, subst, arith}
use Rattle.std.specs.Prelude.{Contains}
use Rattle.dl_clock.specs.declared.clock.Clock.{Ghosts as ClockSays}
use Rattle.dl_disk.specs.declared.disk.Disk.{Ghosts as DiskSays}
use Rattle.dl_kinds.specs.declared.outside.Sink.{Ghosts as SinkSays}
use Rattle.link_source.specs.declared.Links.{Ghosts as LinkSays}
use Rattle.machine_core.specs.declared.events.Event.{Event}
use Rattle.machine_core.specs.declared.events.Event.TheVariants.{Stopped}
use Rattle.run_lifecycle.specs.Finishes.{Ran}
use Rattle.run_lifecycle.specs.Untouched.{OnlyReads}
use Rattle.run_lifecycle.specs.declared.ended.Ended.{Ended}
use Rattle.solo_run.specs.LinkCauses.{ShowsFirstLink, ShowsLink}
use Rattle.solo_run.specs.Runs.{RunsOver}
use Rattle.solo_run.specs.Untouched.{LeavesUnused}
use Rattle.solo_run.proofs.Framed.{framed}

-- ---- lists

none_there : {P : Type 0} → Contains [] Stopped → P
none_there there = absurd (let within = there.1 in omega (arith, within))

abbrev pub head_or : {A : Type 0} → A → List A → A
head_or x [] = x
head_or x (y ∷ ys) = y

set_first : {A : Type 0} (xs : List A) (x : A) → 1 ≤ length xs → x ≡ slice_index_or xs 0 x → slice_set xs 0 x ≡ xs
set_first [] x some is = absurd (omega (arith, some))
set_first (y ∷ ys) x some is = (λ i. is i ∷ ys)

others_same : {A : Type 0} (xs : List A) (x : A) → drop 1 (slice_set xs 0 x) ≡ drop 1 xs
others_same [] x = refl
others_same (y ∷ ys) x = refl

as_many : {A : Type 0} (xs : List A) (x : A) → length (slice_set xs 0 x) ≡ length xs
as_many [] x = refl
as_many (y ∷ ys) x = refl

module _ {D L K O : Type 0} {says : DiskSays D} {links : LinkSays L} {clocks : ClockSays K} {sinks : SinkSays O}
    {words : List (List ℕ)} {gids : ℕ} {disk : D} {out : O} {ended : Ended D} {out' : O} (pair pair' : L × K)
    (runs : RunsOver says links clocks sinks words gids disk pair out ended pair' out') where
  -- where nothing happened the link and its clock are as they were
  pub unused_pair : ((ran : Ran says sinks words gids 0 disk out ended out') → Contains ended.journal.events.items Stopped)
      → ended.journal.events.items ≡ [] → pair' ≡ pair
  unused_pair stopped none = by runs
    where
      by : RunsOver says links clocks sinks words gids disk pair out ended pair' out' → pair' ≡ pair
      by (inl never) = never.1
      by (inr ran) =
          none_there (subst (λ (es : List Event). Contains es Stopped) none (stopped (framed ran)))

  pub leaves_unused : (pairs : List (L × K)) → 1 ≤ length pairs → pair ≡ slice_index_or pairs 0 pair
      → ((ran : Ran says sinks words gids 0 disk out ended out') → Contains ended.journal.events.items Stopped)
      → OnlyReads says disk ended
      → LeavesUnused says disk pairs ended (slice_set pairs 0 pair')
  leaves_unused pairs some first stopped reads = record {
    reads = reads;
    all = λ none.
        let same = unused_pair stopped none in
        subst (λ (p : L × K). slice_set pairs 0 p ≡ pairs) (sym same) (set_first pairs pair some first);
    others = others_same pairs pair';
    many = as_many pairs pair';
  }

-- what is so of the link that was used is so of the first one
pub of_first : {L K : Type 0} {links : LinkSays L} {words : List (List ℕ)} {gids : ℕ} (events : List Event)
    (pairs : List (L × K))
    (pair pair' : L × K) → pair ≡ slice_index_or pairs 0 pair → ShowsLink links words gids events pair.0 pair'.0
    → ShowsFirstLink links words gids events pairs (slice_set pairs 0 pair')
of_first {links = links} {words = words} {gids = gids} events pairs pair pair' first shows link link' others others'
    old new =
    let from : pair ≡ link = first ∙ ap (λ (ps : List _). slice_index_or ps 0 pair) old in
    let set : slice_set pairs 0 pair' ≡ pair' ∷ others = ap (λ (ps : List _). slice_set ps 0 pair') old in
    let to : pair' ≡ link' = ap (head_or pair') (sym set ∙ new) in
    subst (λ (p : _). ShowsLink links words gids events link.0 p.0) to
    (subst (λ (p : _). ShowsLink links words gids events p.0 pair'.0) from shows)
