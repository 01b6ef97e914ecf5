-- Each step of one download keeps the run.
use Rattle.std.proofs.Common.{◌≡◌, ℕ, Bool, true, false, Some, ◌≤◌, List, [], ◌∷◌, ◌++◌, length, set, reverse, refl, sym, ap, ◌∙◌, subst}
use Rattle.std.proofs.lemmas.List.{reverse-append}
use Rattle.dl_kinds.specs.declared.gid.Gid.{Gid}
use Rattle.dl_kinds.specs.declared.marks.Mark.{Mark}
use Rattle.dl_kinds.specs.declared.runs.Moment.{Moment}
use Rattle.dl_kinds.specs.declared.runs.Run.{Run}
use Rattle.dl_kinds.specs.declared.status.Status.TheVariants as status
use Rattle.dl_queue.specs.Calls.{after}
use Rattle.dl_queue.specs.Lists.{QueueLists}
use Rattle.dl_history.specs.AccountLaws.{UnopenedAccountsAreAlike}
use Rattle.dl_history.specs.Accounts.{after_finding, after_halt, after_landing, after_loss, after_save, after_sizing, without_piece}
use Rattle.dl_history.specs.OwnEvents.{OwnEvent, Lands, Settles, Clears, Loses, Sizes, Saves, Checks, Halts}
use Rattle.dl_history.specs.OwnLegal.{LegalOwn}
use Rattle.dl_history.specs.PayloadParts.{is_opened}
use Rattle.one_download.specs.DownloadViews.{DownloadView, StaysSetUp, StaysUnmarked, marks_after}
use Rattle.piece_table.specs.declared.giver.Giver.{Giver}
use Rattle.machine_core.specs.Choices.{options_now}
use Rattle.machine_core.specs.MachineParts.{KeepsDownload, KeepsRun, MachineState, kept_room}
use Rattle.machine_core.specs.OwnParts.{own_of, with_own}
use Rattle.machine_core.specs.Replays.{replay_of, stop_of}
use Rattle.machine_core.specs.RunLegal.{MayFollow, known_lengths}
use Rattle.machine_core.specs.Starts.{Download}
use Rattle.machine_core.specs.declared.ends.End.{End}
use Rattle.machine_core.specs.declared.ends.End.TheVariants as end
use Rattle.machine_core.specs.declared.entries.Entry.{Entry}
use Rattle.machine_core.specs.declared.events.Event.{Event}
use Rattle.machine_core.specs.declared.events.Event.TheVariants.{Sized, Landed, Settled, Cleared, Lost, Checked, Saved, Ended}
use Rattle.machine_core.proofs.Steps.{IsAt, MarksFollow, one_step, own_here, own_one, run_step}
use Rattle.machine_core.proofs.Halting.{sizes_on}
use Rattle.machine_core.proofs.Fitting.{IsKnown}
use Rattle.machine_core.proofs.Leaving.{stop_adds_none}

end_adds_none : (queue : QueueLists) (gid : Gid) (how : End) → (after queue (stop_of gid how)).added ≡ queue.added
end_adds_none queue gid end.Complete = stop_adds_none queue gid status.Complete
end_adds_none queue gid (end.Dead piece mark) = stop_adds_none queue gid status.Failed
end_adds_none queue gid (end.Disk count) = stop_adds_none queue gid status.Failed
end_adds_none queue gid (end.Exists length) = stop_adds_none queue gid status.Failed
end_adds_none queue gid (end.PieceLength have want) = stop_adds_none queue gid status.Failed
end_adds_none queue gid (end.Length have want) = stop_adds_none queue gid status.Failed
end_adds_none queue gid end.InfoHash = stop_adds_none queue gid status.Failed
end_adds_none queue gid (end.Unreadable at) = stop_adds_none queue gid status.Failed
end_adds_none queue gid (end.TooLarge total) = stop_adds_none queue gid status.Failed
end_adds_none queue gid (end.SameFile other) = stop_adds_none queue gid status.Failed
end_adds_none queue gid (end.SameHash other) = stop_adds_none queue gid status.Failed
end_adds_none queue gid end.Checksum = stop_adds_none queue gid status.Failed

-- the event is the last of the journal
pub onto : (s t : MachineState) (e : Event) (events : List Event) → events ≡ s.events ++ e ∷ []
    → KeepsRun (e ∷ reverse s.events) (record t { events = s.events ++ e ∷ [] })
    → KeepsRun (reverse events) (record t { events = events })
onto s t e events is k =
    subst (λ (es : List Event). KeepsRun (reverse es) (record t { events = es })) (sym is)
    (subst (λ (p : List Event). KeepsRun p (record t { events = s.events ++ e ∷ [] }))
    (sym (reverse-append s.events (e ∷ []))) k)

pub landing : MarksFollow → (past : List Event) (s : MachineState) (gid : Gid) (id mirror : ℕ) (run : Run) (now : Moment)
    (at : ℕ) (d : Download) (x : Entry) (v : DownloadView) (room : ℕ) → KeepsRun past s
    → IsAt s.start past s.entries gid at d x → MayFollow s.start past (Landed gid id mirror run now)
    → v.account ≡ after_landing x.state.account mirror run → StaysUnmarked x.state v
    → kept_room s.start.doors s.left s.stopped ≤ room
    → KeepsRun (Landed gid id mirror run now ∷ past) (record s {
      events = s.events ++ Landed gid id mirror run now ∷ [];
      entries = set s.entries at (record x { state = v });
      room = room;
    })
landing law past s gid id mirror run now at d x v room k here may account rest room_is =
    one_step law past s (Landed gid id mirror run now) gid (Lands id mirror run) at d x v room k here
    (record { own = λ g. refl; downloads = refl; options = λ b. refl })
    (record { closed = refl; told = λ own. refl; granted = λ own. refl }) refl
    (record { left_is = k.ends.left_is; stopped_is = k.ends.stopped_is }) may
    (record { account = account; marks = rest.marks; set_up = rest.set_up }) room_is

pub finding : MarksFollow → (past : List Event) (s : MachineState) (gid : Gid) (piece : ℕ) (right : Bool) (giver : Giver)
    (at : ℕ) (d : Download) (x : Entry) (v : DownloadView) (room : ℕ) → KeepsRun past s
    → IsAt s.start past s.entries gid at d x → MayFollow s.start past (Settled gid piece right giver)
    → v.account ≡ after_finding x.state.account piece right giver
    → v.marks ≡ marks_after x.state.max_tries x.state.marks (Settles piece right giver) → StaysSetUp x.state v
    → kept_room s.start.doors s.left s.stopped ≤ room
    → KeepsRun (Settled gid piece right giver ∷ past) (record s {
      events = s.events ++ Settled gid piece right giver ∷ [];
      entries = set s.entries at (record x { state = v });
      room = room;
    })
finding law past s gid piece right giver at d x v room k here may account marks rest room_is =
    one_step law past s (Settled gid piece right giver) gid (Settles piece right giver) at d x v room k here
    (record { own = λ g. refl; downloads = refl; options = λ b. refl })
    (record { closed = refl; told = λ own. refl; granted = λ own. refl }) refl
    (record { left_is = k.ends.left_is; stopped_is = k.ends.stopped_is }) may
    (record { account = account; marks = marks; set_up = rest }) room_is

pub clearing : MarksFollow → (past : List Event) (s : MachineState) (gid : Gid) (piece : ℕ)
    (at : ℕ) (d : Download) (x : Entry) (v : DownloadView) (room : ℕ) → KeepsRun past s
    → IsAt s.start past s.entries gid at d x → MayFollow s.start past (Cleared gid piece)
    → v.account ≡ without_piece x.state.account piece → StaysUnmarked x.state v
    → kept_room s.start.doors s.left s.stopped ≤ room
    → KeepsRun (Cleared gid piece ∷ past) (record s {
      events = s.events ++ Cleared gid piece ∷ [];
      entries = set s.entries at (record x { state = v });
      room = room;
    })
clearing law past s gid piece at d x v room k here may account rest room_is =
    one_step law past s (Cleared gid piece) gid (Clears piece) at d x v room k here
    (record { own = λ g. refl; downloads = refl; options = λ b. refl })
    (record { closed = refl; told = λ own. refl; granted = λ own. refl }) refl
    (record { left_is = k.ends.left_is; stopped_is = k.ends.stopped_is }) may
    (record { account = account; marks = rest.marks; set_up = rest.set_up }) room_is

pub losing : MarksFollow → (past : List Event) (s : MachineState) (gid : Gid) (id mirror piece : ℕ) (mark : Mark)
    (at : ℕ) (d : Download) (x : Entry) (v : DownloadView) (room : ℕ) → KeepsRun past s
    → IsAt s.start past s.entries gid at d x → MayFollow s.start past (Lost gid id mirror piece mark)
    → v.account ≡ after_loss x.state.account id piece
    → v.marks ≡ marks_after x.state.max_tries x.state.marks (Loses id mirror piece mark) → StaysSetUp x.state v
    → kept_room s.start.doors s.left s.stopped ≤ room
    → KeepsRun (Lost gid id mirror piece mark ∷ past) (record s {
      events = s.events ++ Lost gid id mirror piece mark ∷ [];
      entries = set s.entries at (record x { state = v });
      room = room;
    })
losing law past s gid id mirror piece mark at d x v room k here may account marks rest room_is =
    one_step law past s (Lost gid id mirror piece mark) gid (Loses id mirror piece mark) at d x v room k here
    (record { own = λ g. refl; downloads = refl; options = λ b. refl })
    (record { closed = refl; told = λ own. refl; granted = λ own. refl }) refl
    (record { left_is = k.ends.left_is; stopped_is = k.ends.stopped_is }) may
    (record { account = account; marks = marks; set_up = rest }) room_is

pub saving : MarksFollow → (past : List Event) (s : MachineState) (gid : Gid) (now : Moment)
    (at : ℕ) (d : Download) (x : Entry) (v : DownloadView) (room : ℕ) → KeepsRun past s
    → IsAt s.start past s.entries gid at d x → MayFollow s.start past (Saved gid now)
    → v.account ≡ after_save x.state.account now → StaysUnmarked x.state v
    → kept_room s.start.doors s.left s.stopped ≤ room
    → KeepsRun (Saved gid now ∷ past) (record s {
      events = s.events ++ Saved gid now ∷ [];
      entries = set s.entries at (record x { state = v });
      room = room;
    })
saving law past s gid now at d x v room k here may account rest room_is =
    one_step law past s (Saved gid now) gid (Saves now) at d x v room k here
    (record { own = λ g. refl; downloads = refl; options = λ b. refl })
    (record { closed = refl; told = λ own. refl; granted = λ own. refl }) refl
    (record { left_is = k.ends.left_is; stopped_is = k.ends.stopped_is }) may
    (record { account = account; marks = rest.marks; set_up = rest.set_up }) room_is

pub checking : MarksFollow → (past : List Event) (s : MachineState) (gid : Gid) (right : Bool)
    (at : ℕ) (d : Download) (x : Entry) (v : DownloadView) (room : ℕ) → KeepsRun past s
    → IsAt s.start past s.entries gid at d x → MayFollow s.start past (Checked gid right)
    → v.account ≡ record x.state.account { checked = Some right } → StaysUnmarked x.state v
    → kept_room s.start.doors s.left s.stopped ≤ room
    → KeepsRun (Checked gid right ∷ past) (record s {
      events = s.events ++ Checked gid right ∷ [];
      entries = set s.entries at (record x { state = v });
      room = room;
    })
checking law past s gid right at d x v room k here may account rest room_is =
    one_step law past s (Checked gid right) gid (Checks right) at d x v room k here
    (record { own = λ g. refl; downloads = refl; options = λ b. refl })
    (record { closed = refl; told = λ own. refl; granted = λ own. refl }) refl
    (record { left_is = k.ends.left_is; stopped_is = k.ends.stopped_is }) may
    (record { account = account; marks = rest.marks; set_up = rest.set_up }) room_is

-- the length of a payload is told, while the download isn't opened
pub sizing : UnopenedAccountsAreAlike → (past : List Event) (s : MachineState) (gid : Gid) (id total : ℕ)
    (at : ℕ) (d : Download) (x : Entry) (v : DownloadView) (room : ℕ) → KeepsRun past s
    → IsAt s.start past s.entries gid at d x → MayFollow s.start past (Sized gid id total)
    → IsKnown (known_lengths s.start past gid).total (known_lengths s.start past gid).piece_len
    (own_of s.start past gid) x.state.account → is_opened (own_of s.start past gid) ≡ false
    → v.account ≡ after_sizing x.state.account id total → StaysUnmarked x.state v
    → kept_room s.start.doors s.left s.stopped ≤ room
    → KeepsRun (Sized gid id total ∷ past) (record s {
      events = s.events ++ Sized gid id total ∷ [];
      entries = set s.entries at (record x { state = v });
      room = room;
    })
sizing alike past s gid id total at d x v room k here may known un account rest room_is =
    let e = Sized gid id total in
    run_step past s (Sized gid id total) gid (Sizes id total) at d x v s.queue room k here
    (record { own = λ g. refl; downloads = refl; options = λ b. refl }) (λ own. refl) k.queue
    (record { left_is = k.ends.left_is; stopped_is = k.ends.stopped_is }) may
    (subst
    (λ (own : List OwnEvent). KeepsDownload own (known_lengths s.start (e ∷ past) d.gid)
    (options_now s.start (e ∷ past) d) d (record x { state = v }))
    (sym
    (ap (λ (g : Gid). with_own g d.gid (Sizes id total) (own_of s.start past d.gid)) (sym here.gid_is)
    ∙ own_here d.gid (Sizes id total) (own_of s.start past d.gid)))
    (sizes_on alike (own_of s.start past d.gid) (known_lengths s.start past d.gid)
    (known_lengths s.start (e ∷ past) d.gid) (options_now s.start past d) id total d x v
    (subst (λ (g : Gid). LegalOwn (known_lengths s.start past g).total (known_lengths s.start past g).piece_len
    (own_of s.start past g)) (sym here.gid_is) known.legal)
    (subst (λ (g : Gid). is_opened (own_of s.start past g) ≡ false) (sym here.gid_is) un)
    (k.downloads.each at d x here.added here.there) account rest))
    room_is

-- a download ends
pub ending : MarksFollow → (past : List Event) (s : MachineState) (gid : Gid) (how : End) (queue : QueueLists)
    (at : ℕ) (d : Download) (x : Entry) (v : DownloadView) (room : ℕ) → KeepsRun past s
    → IsAt s.start past s.entries gid at d x → MayFollow s.start past (Ended gid how)
    → queue ≡ after s.queue (stop_of gid how)
    → v.account ≡ after_halt x.state.account true → StaysUnmarked x.state v
    → kept_room s.start.doors s.left s.stopped ≤ room
    → KeepsRun (Ended gid how ∷ past) (record s {
      events = s.events ++ Ended gid how ∷ [];
      queue = queue;
      entries = set s.entries at (record x { state = v });
      room = room;
    })
ending law past s gid how queue at d x v room k here may queue_is account rest room_is =
    let e = Ended gid how in
    let r = replay_of s.start past in
    run_step past s (Ended gid how) gid (Halts true) at d x v queue room k here
    (record { own = λ g. refl; downloads = refl; options = λ b. refl }) (λ own. refl)
    (record {
      queue_is = queue_is ∙ ap (λ (q : QueueLists). after q (stop_of gid how)) k.queue.queue_is;
      global_is = k.queue.global_is;
      shut_is = k.queue.shut_is;
      added = end_adds_none r.queue gid how ∙ k.queue.added;
    })
    (record { left_is = k.ends.left_is; stopped_is = k.ends.stopped_is }) may
    (own_one law s.start past (Ended gid how) gid (Halts true) s.entries at d x v k.downloads here
    (record { own = λ g. refl; downloads = refl; options = λ b. refl })
    (record { closed = refl; told = λ own. refl; granted = λ own. refl })
    (record { account = account; marks = rest.marks; set_up = rest.set_up }))
    room_is
