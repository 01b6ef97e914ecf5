-- What an event by which downloads halt keeps of a machine.
use Rattle.std.proofs.Common.{◌≡◌, ◌≢◌, ℕ, true, false, Some, ◌+◌, ◌≤◌, List, [], ◌∷◌, ◌++◌, set, slice_get, refl, sym, ap, ◌∙◌, subst, ⊎_elim, arith}
use Rattle.std.specs.Option.{option_and_then}
use Rattle.std.proofs.lemmas.Bool.{cases_eq}
use Rattle.std.proofs.lemmas.List.{length-set}
use Rattle.std.proofs.lemmas.Option.{slice_get_within, same_Some}
use Rattle.option_set.specs.Values.{OptionValues}
use Rattle.dl_history.specs.AccountLaws.{UnopenedAccountsAreAlike}
use Rattle.dl_history.specs.Accounts.{Account, after_halt, after_sizing}
use Rattle.dl_history.specs.OwnEvents.{OwnEvent, Sizes, Halts}
use Rattle.dl_history.specs.OwnLegal.{LegalOwn}
use Rattle.dl_history.specs.PayloadParts.{is_opened}
use Rattle.one_download.specs.DownloadViews.{DownloadView, StaysUnmarked}
use Rattle.machine_core.specs.Choices.{options_now}
use Rattle.machine_core.specs.OwnParts.{PayloadLengths, own_of}
use Rattle.machine_core.specs.Replays.{replay_of}
use Rattle.machine_core.specs.RunLegal.{MayFollow, known_lengths}
use Rattle.machine_core.specs.Starts.{RunStart, Download}
use Rattle.machine_core.specs.MachineParts.{AreAddedAt, AreHalted, AreHaltedUpTo, IsHalted, KeepsDownload, KeepsDownloads, KeepsRun, MachineState, kept_room, subject_of_event}
use Rattle.machine_core.specs.declared.entries.Entry.{Entry}
use Rattle.machine_core.specs.declared.events.Event.{Event}
use Rattle.machine_core.specs.declared.events.Event.TheVariants.{Stopped}
use Rattle.machine_core.proofs.Lists.{element_at, read-more, slice_get-set_same, slice_get-set_other}
use Rattle.machine_core.proofs.Steps.{lengths_of}
use Rattle.machine_core.proofs.Logged.{logged_on}

-- ---- the loop

pub none_halted : (xs : List Entry) → AreHaltedUpTo 0 xs xs
none_halted xs =
    record { many = refl; each = λ i was is below at here. absurd (omega arith); others = λ i past. refl }

pub one_halted : (n : ℕ) (old xs : List Entry) (was : Entry) (state : DownloadView) → AreHaltedUpTo n old xs
    → slice_get xs n ≡ Some was → state.account ≡ after_halt was.state.account false → StaysUnmarked was.state state
    → AreHaltedUpTo (n + 1) old (set xs n (record was { state = state }))
one_halted n old xs was state k at account rest =
    let new : Entry = record was { state = state } in
    record {
      many = length-set xs n new ∙ k.many;
      each = λ i x y below there here.
          ⊎_elim
          (λ (is : i ≡ n).
          let x_is : was ≡ x =
          same_Some was x (sym at ∙ (k.others n (omega arith) ∙ (ap (slice_get old) (sym is) ∙ there))) in
          let y_is : new ≡ y =
          same_Some new y
          (sym (slice_get-set_same xs n new (slice_get_within xs n was at)) ∙ (ap (slice_get (set xs n new)) (sym is)
          ∙ here)) in
          subst (λ (z : Entry). IsHalted z y) x_is
          (subst (λ (z : Entry). IsHalted was z) y_is
          (record { state = state; is = refl; account = account; rest = rest })))
          (λ (other : i ≢ n).
          k.each i x y (omega arith) there (sym (slice_get-set_other xs n i new other) ∙ here))
          (cases_eq i n);
      others = λ i past. slice_get-set_other xs n i new (λ is. omega arith) ∙ k.others i (omega arith);
    }

-- ---- one download

pub halts_on : (own : List OwnEvent) (l : PayloadLengths) (v : OptionValues) (d : Download) (x y : Entry)
    → KeepsDownload own l v d x → IsHalted x y → KeepsDownload (Halts false ∷ own) l v d y
halts_on own l v d x y k h =
    subst (λ (z : Entry). KeepsDownload (Halts false ∷ own) l v d z) (sym h.is)
    (record {
      gid = k.gid;
      options_are = k.options_are;
      account = h.account ∙ ap (λ (a : Account). after_halt a false) k.account;
      marks = h.rest.marks ∙ k.marks;
      mirrors = h.rest.set_up.mirrors ∙ k.mirrors;
      max_tries = h.rest.set_up.max_tries ∙ k.max_tries;
      hosts = k.hosts;
      wanted = λ opened. h.rest.set_up.wanted ∙ k.wanted opened;
      known = k.known;
    })

-- ---- the run stops

halted_keeps : (start : RunStart) (past : List Event) (xs ys : List Entry) → KeepsDownloads start past xs
    → AreHalted xs ys → KeepsDownloads start (Stopped ∷ past) ys
halted_keeps start past xs ys k h =
    record {
      many = h.many ∙ k.many;
      each = λ i d y added there.
          let e = element_at xs i (let w = slice_get_within ys i y there in let m = h.many in omega arith) in
          subst
          (λ (l : PayloadLengths). KeepsDownload (Halts false ∷ own_of start past d.gid) l (options_now start past d) d y)
          (sym (lengths_of start past Stopped d.gid refl refl))
          (halts_on (own_of start past d.gid) (known_lengths start past d.gid) (options_now start past d) d e.0 y
          (k.each i d e.0 added e.1)
          (h.each i e.0 y (slice_get_within xs i e.0 e.1) e.1 there));
    }

called_of : (events more : List Event) (d : Download) (x y : Entry) → IsHalted x y
    → option_and_then subject_of_event (slice_get events x.called) ≡ Some d.subject
    → option_and_then subject_of_event (slice_get (events ++ more) y.called) ≡ Some d.subject
called_of events more d x y h is =
    subst (λ (z : Entry). option_and_then subject_of_event (slice_get (events ++ more) z.called) ≡ Some d.subject)
    (sym h.is) (read-more subject_of_event events more x.called d.subject is)

called_halted : (events more : List Event) (downloads : List Download) (xs ys : List Entry)
    → AreHalted xs ys → AreAddedAt events downloads xs → AreAddedAt (events ++ more) downloads ys
called_halted events more downloads xs ys h k i d y added there =
    let e = element_at xs i (let w = slice_get_within ys i y there in let m = h.many in omega arith) in
    called_of events more d e.0 y (h.each i e.0 y (slice_get_within xs i e.0 e.1) e.1 there) (k i d e.0 added e.1)

pub stop_step : (past : List Event) (s : MachineState) (ys : List Entry) (room : ℕ) → KeepsRun past s
    → AreHalted s.entries ys → MayFollow s.start past Stopped → kept_room s.start.doors s.left true ≤ room
    → KeepsRun (Stopped ∷ past) (record s {
      events = s.events ++ Stopped ∷ [];
      entries = ys;
      stopped = true;
      room = room;
    })
stop_step past s ys room k h may room_is =
    record {
      legal = (k.legal, may);
      queue = k.queue;
      downloads = halted_keeps s.start past s.entries ys k.downloads h;
      apart = k.apart;
      called = called_halted s.events (Stopped ∷ []) (replay_of s.start past).downloads s.entries ys h k.called;
      homes = record {
        many = k.homes.many;
        own = λ g claim there. k.homes.own g claim there;
        added = λ id g at. k.homes.added id g at;
      };
      ends = record { left_is = k.ends.left_is; stopped_is = refl };
      room_is = room_is;
      log_is = logged_on s.start s.events Stopped s.log k.log_is;
    }

-- ---- a length is told

pub sizes_on : UnopenedAccountsAreAlike → (own : List OwnEvent) (l l' : PayloadLengths) (v : OptionValues) (id total : ℕ)
    (d : Download) (x : Entry) (s : DownloadView) → LegalOwn l.total l.piece_len own → is_opened own ≡ false
    → KeepsDownload own l v d x → s.account ≡ after_sizing x.state.account id total → StaysUnmarked x.state s
    → KeepsDownload (Sizes id total ∷ own) l' v d (record x { state = s })
sizes_on alike own l l' v id total d x s legal un k account rest =
    record {
      gid = k.gid;
      options_are = k.options_are;
      account = account
          ∙ ap (λ (a : Account). after_sizing a id total)
          (k.account ∙ alike l.total l.piece_len l'.total l'.piece_len own legal un);
      marks = rest.marks ∙ k.marks;
      mirrors = rest.set_up.mirrors ∙ k.mirrors;
      max_tries = rest.set_up.max_tries ∙ k.max_tries;
      hosts = k.hosts;
      wanted = λ opened. absurd (let o = opened in cc);
      known = k.known;
    }
