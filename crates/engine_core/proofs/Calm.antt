-- Events that are no calls, and what they leave of the rates.
use Rattle.std.proofs.Common.{◌≡◌, Bool, Some, true, false, List, [], ◌∷◌, refl, sym, ◌∙◌, subst}
use Rattle.std.specs.Prelude.{All}
use Rattle.std.proofs.lemmas.List.Elements.{All-cons, All-head, All-nil, All-tail, All-weaker}
use Rattle.dl_kinds.specs.declared.gid.Gid.{Gid}
use Rattle.machine_core.specs.Starts.{Download, RunStart}
use Rattle.machine_core.specs.declared.events.Event.{Event}
use Rattle.machine_core.specs.declared.events.Event.TheVariants.{Called, Opened, Sized, Claimed, Landed, Settled, Cleared, Lost, Checked, Saved, Ended, Left, Stopped}
use Rattle.engine_turns.specs.Levels.{downloads_of, overall_rate, own_rate}
use Rattle.engine_turns.specs.Told.{history_after}
use Rattle.engine_core.proofs.Owned.{AreOf, AreOwned, gid_of, owned_of}

abbrev pub is_call : Event → Bool
is_call (Called session asked now) = true
is_call e = false

abbrev pub AreCalm : List Event → Type 0
AreCalm events = All (λ e. is_call e ≡ false) events

none_calm : AreCalm []
none_calm = All-nil (λ (e : Event). is_call e ≡ false)

pub no_events : (events : List Event) → events ≡ [] → AreCalm events
no_events events is = subst AreCalm (sym is) none_calm

pub one_event : (e : Event) (events : List Event) → is_call e ≡ false → events ≡ e ∷ [] → AreCalm events
one_event e events calm is = subst AreCalm (sym is) (All-cons (λ (x : Event). is_call x ≡ false) e [] calm none_calm)

-- events of one download
pub calm_owned_event : (gid : Gid) (e : Event) → gid_of e ≡ Some gid → is_call e ≡ false
calm_owned_event gid (Called session asked now) own = absurd cc
calm_owned_event gid (Opened other verified blocks now) own = refl
calm_owned_event gid (Sized other id total) own = refl
calm_owned_event gid (Claimed other claim) own = refl
calm_owned_event gid (Landed other id mirror run now) own = refl
calm_owned_event gid (Settled other piece right giver) own = refl
calm_owned_event gid (Cleared other piece) own = refl
calm_owned_event gid (Lost other id mirror piece mark) own = refl
calm_owned_event gid (Checked other right) own = refl
calm_owned_event gid (Saved other now) own = refl
calm_owned_event gid (Ended other how) own = refl
calm_owned_event gid Left own = absurd cc
calm_owned_event gid Stopped own = absurd cc

pub calm_of : (gid : Gid) (events : List Event) → AreOf gid events → AreCalm events
calm_of gid events own =
    All-weaker (λ (e : Event). gid_of e ≡ Some gid) (λ e. is_call e ≡ false) (calm_owned_event gid) events own

pub calm_owned : (gid : Gid) (events : List Event) → AreOwned gid events → AreCalm events
calm_owned gid events own = calm_of gid events (owned_of gid events own)

-- ---- what no call changes

-- the global options, the downloads and their options
pub record StaysUncalled (start : RunStart) (past after : List Event) : Type 0 where
  pub overall : overall_rate start after ≡ overall_rate start past
  pub downloads : downloads_of start after ≡ downloads_of start past
  pub own : (download : Download) → own_rate start after download ≡ own_rate start past download

stays_once : (start : RunStart) (past : List Event) (e : Event) → is_call e ≡ false → StaysUncalled start past (e ∷ past)
stays_once start past (Called session asked now) calm = absurd cc
stays_once start past (Opened gid verified blocks now) calm = record { overall = refl; downloads = refl; own = λ d. refl }
stays_once start past (Sized gid id total) calm = record { overall = refl; downloads = refl; own = λ d. refl }
stays_once start past (Claimed gid claim) calm = record { overall = refl; downloads = refl; own = λ d. refl }
stays_once start past (Landed gid id mirror run now) calm = record { overall = refl; downloads = refl; own = λ d. refl }
stays_once start past (Settled gid piece right giver) calm = record { overall = refl; downloads = refl; own = λ d. refl }
stays_once start past (Cleared gid piece) calm = record { overall = refl; downloads = refl; own = λ d. refl }
stays_once start past (Lost gid id mirror piece mark) calm = record { overall = refl; downloads = refl; own = λ d. refl }
stays_once start past (Checked gid right) calm = record { overall = refl; downloads = refl; own = λ d. refl }
stays_once start past (Saved gid now) calm = record { overall = refl; downloads = refl; own = λ d. refl }
stays_once start past (Ended gid how) calm = record { overall = refl; downloads = refl; own = λ d. refl }
stays_once start past Left calm = record { overall = refl; downloads = refl; own = λ d. refl }
stays_once start past Stopped calm = record { overall = refl; downloads = refl; own = λ d. refl }

pub stays_uncalled : (start : RunStart) (past events : List Event) → AreCalm events
    → StaysUncalled start past (history_after past events)
stays_uncalled start past [] calm = record { overall = refl; downloads = refl; own = λ d. refl }
stays_uncalled start past (e ∷ events) calm =
    let first = stays_once start past e (All-head (λ (x : Event). is_call x ≡ false) e events calm) in
    let rest = stays_uncalled start (e ∷ past) events (All-tail (λ (x : Event). is_call x ≡ false) e events calm) in
    record {
      overall = rest.overall ∙ first.overall;
      downloads = rest.downloads ∙ first.downloads;
      own = λ d. rest.own d ∙ first.own d;
    }
