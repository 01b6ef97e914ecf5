-- A run whose only call adds a download has that one alone.
use Rattle.std.proofs.Common.{◌≡◌, ℕ, Bool, true, false, cond, Some, None, List, [], ◌∷◌, ◌++◌, refl, sym, ap, ◌∙◌, arith}
use Rattle.std.specs.Prelude.{reverse}
use Rattle.std.proofs.lemmas.List.{reverse-append}
use Rattle.dl_kinds.specs.declared.gid.Gid.{Gid}
use Rattle.dl_kinds.specs.declared.runs.Moment.{Moment}
use Rattle.machine_core.proofs.Parts.{gid_is}
use Rattle.machine_core.specs.Replays.{download_of, is_same_gid, replay_of}
use Rattle.machine_core.specs.RunLegal.{download_in}
use Rattle.machine_core.specs.Starts.{Download, RunStart}
use Rattle.machine_core.specs.declared.calls.Call.{Call}
use Rattle.machine_core.specs.declared.events.Event.{Event}
use Rattle.machine_core.specs.declared.events.Event.TheVariants.{Called, Checked, Claimed, Cleared, Ended, Landed, Left, Lost, Opened, Saved, Settled, Sized, Stopped}
use Rattle.served_runs.specs.Ends.{HasNoCall}
use Rattle.served_runs.proofs.Done.{no_call_reversed}
use Rattle.served_runs.proofs.Finishing.{no_call_behind}

-- the downloads stay where no call comes
downloads_on : (start : RunStart) (base newer : List Event) → HasNoCall newer
    → (replay_of start (newer ++ base)).downloads ≡ (replay_of start base).downloads
downloads_on start base [] none = refl
downloads_on start base (Called session asked now ∷ newer) none = absurd (none session asked now (0, omega arith, refl))
downloads_on start base (Ended g how ∷ newer) none = downloads_on start base newer (no_call_behind (Ended g how) newer none)
downloads_on start base (Opened g v b n ∷ newer) none = downloads_on start base newer (no_call_behind (Opened g v b n) newer none)
downloads_on start base (Sized g i n ∷ newer) none = downloads_on start base newer (no_call_behind (Sized g i n) newer none)
downloads_on start base (Claimed g c ∷ newer) none = downloads_on start base newer (no_call_behind (Claimed g c) newer none)
downloads_on start base (Landed g i m r n ∷ newer) none = downloads_on start base newer (no_call_behind (Landed g i m r n) newer none)
downloads_on start base (Settled g p r v ∷ newer) none = downloads_on start base newer (no_call_behind (Settled g p r v) newer none)
downloads_on start base (Cleared g p ∷ newer) none = downloads_on start base newer (no_call_behind (Cleared g p) newer none)
downloads_on start base (Lost g i m p k ∷ newer) none = downloads_on start base newer (no_call_behind (Lost g i m p k) newer none)
downloads_on start base (Checked g r ∷ newer) none = downloads_on start base newer (no_call_behind (Checked g r) newer none)
downloads_on start base (Saved g n ∷ newer) none = downloads_on start base newer (no_call_behind (Saved g n) newer none)
downloads_on start base (Left ∷ newer) none = downloads_on start base newer (no_call_behind Left newer none)
downloads_on start base (Stopped ∷ newer) none = downloads_on start base newer (no_call_behind Stopped newer none)

lone_found : (d e : Download) (gid : Gid) (t : Bool) → is_same_gid gid d.gid ≡ t → cond t (Some d) None ≡ Some e → gid ≡ d.gid
lone_found d e gid true same is = sym (gid_is gid d.gid same)
lone_found d e gid false same is = absurd cc

module _ (start : RunStart) (session : ℕ) (now : Moment) (rest : List Event) (none : HasNoCall rest) (asked : Call) (d : Download)
    (first : (replay_of start (Called session asked now ∷ [])).downloads ≡ d ∷ []) where
  abbrev whole : List Event
  whole = reverse (Called session asked now ∷ rest)

  alone_after : (replay_of start whole).downloads ≡ d ∷ []
  alone_after = ap (λ (p : List Event). (replay_of start p).downloads) (reverse-append (Called session asked now ∷ []) rest)
      ∙ downloads_on start (Called session asked now ∷ []) (reverse rest) (no_call_reversed rest none) ∙ first

  pub only_one : (other : Gid) (e : Download) → download_in start whole other ≡ Some e → other ≡ d.gid
  only_one other e added = lone_found d e other (is_same_gid other d.gid) refl
      (sym (ap (λ (ds : List Download). download_of ds other) alone_after) ∙ added)
