-- What is kept of a download says what it offers.
use Rattle.std.proofs.Common.{◌≡◌, ℕ, Bool, true, false, Option, Some, None, List, slice_get, refl, sym, ap, ◌∙◌, subst, arith}
use Rattle.std.specs.Prelude.{◌↔◌, ◌||◌, ◌&&◌, not}
use Rattle.std.specs.Int.{div_ceil}
use Rattle.std.specs.Option.{is_some, option_and_then, option_map_or, unwrap_or}
use Rattle.std.proofs.lemmas.Option.{same_Some, slice_get-get_or}
use Rattle.dl_kinds.specs.declared.gid.Gid.{Gid}
use Rattle.dl_kinds.specs.declared.plan.TheConstants.{BLOCK_LEN}
use Rattle.dl_history.specs.Accounts.{Account, account_of}
use Rattle.dl_history.specs.OwnEvents.{OwnEvent}
use Rattle.dl_history.specs.PayloadParts.{is_opened, told_total}
use Rattle.one_download.specs.DownloadViews.{IsToSettle}
use Rattle.one_download.specs.Grants.{HasNoChoice, IsBlockChoice, IsProbeMirror}
use Rattle.one_download.specs.declared.choices.Choice.{Choice}
use Rattle.option_set.specs.Values.{OptionValues, number_value}
use Rattle.option_set.specs.declared.kinds.Num.TheVariants as num
use Rattle.segment_claim.specs.Situation.{Situation}
use Rattle.machine_core.specs.Choices.{options_now, situation_in}
use Rattle.machine_core.specs.KeptOffers.{HasNoneToHand, IsKeptOffer, IsKeptProbeOffer, IsOpenedKeptOffer, IsSizedKeptOffer, MayBeHanded, adds_torrent, is_sized_entry, is_torrent_at, is_torrent_event, is_waiting_to_open, kept_situation, split_by}
use Rattle.machine_core.specs.MachineParts.{KeepsDownload, subject_of_call, subject_of_event}
use Rattle.machine_core.specs.Offers.{AwaitsFinding, IsOfferBy, IsOpenedOffer, IsProbeOffer, IsWhole, affords, is_handed_out, offered_claim}
use Rattle.machine_core.specs.OwnParts.{PayloadLengths, lengths_by, no_lengths, own_of, payload_lengths_of, told_lengths}
use Rattle.machine_core.specs.RunLegal.{download_in, is_listed, known_lengths}
use Rattle.machine_core.specs.Starts.{Download, RunStart, Subject, Listed, Unlisted}
use Rattle.machine_core.specs.declared.calls.Call.{Call}
use Rattle.machine_core.specs.declared.calls.Call.TheVariants as call
use Rattle.machine_core.specs.declared.entries.Entry.{Entry}
use Rattle.machine_core.specs.declared.events.Event.{Event}
use Rattle.machine_core.specs.declared.events.Event.TheVariants.{Called, Opened, Sized, Claimed, Landed, Settled, Cleared, Lost, Checked, Saved, Ended, Left, Stopped}
use Rattle.machine_core.specs.declared.handed.Handed.{Handed}
use Rattle.machine_core.specs.declared.offers.Offer.{Offer}
use Rattle.machine_core.specs.declared.offers.Offer.TheVariants.{Whole, Blocks, Probe}
use Rattle.machine_core.proofs.Fitting.{IsKnown}
use Rattle.machine_core.proofs.Offering.{SplitsBy, awaits_finding, block_grant, grant_choice, probe_grant, same_situation}

-- ---- offers of one download are afforded alike

alike_by : (sized : Bool) (handed : List Handed) (listed : Bool) (x : Entry) (now bytes : ℕ) (offer other : Offer)
    → IsSizedKeptOffer sized handed listed x now offer → IsSizedKeptOffer sized handed listed x now other
    → affords bytes other ≡ affords bytes offer
alike_by false handed listed x now bytes (Probe mirror) (Probe another) is its = refl
alike_by false handed listed x now bytes (Probe mirror) (Whole piece) is its = absurd its
alike_by false handed listed x now bytes (Probe mirror) (Blocks another run victim) is its = absurd its
alike_by false handed listed x now bytes (Whole piece) other is its = absurd is
alike_by false handed listed x now bytes (Blocks mirror run victim) other is its = absurd is
alike_by true handed listed x now bytes (Whole piece) (Whole another) is its = refl
alike_by true handed listed x now bytes (Whole piece) (Blocks mirror run victim) is its =
    absurd (its.1.0 piece is.1.is)
alike_by true handed listed x now bytes (Whole piece) (Probe mirror) is its = absurd its.1
alike_by true handed listed x now bytes (Blocks mirror run victim) (Whole piece) is its =
    absurd (is.1.0 piece its.1.is)
alike_by true handed listed x now bytes (Blocks mirror run victim) (Blocks another its_run its_victim) is its = refl
alike_by true handed listed x now bytes (Blocks mirror run victim) (Probe another) is its = absurd its.1
alike_by true handed listed x now bytes (Probe mirror) other is its = absurd is.1

pub offers_alike : (events : List Event) (handed : List Handed) (x : Entry) (now bytes : ℕ) (offer other : Offer)
    → IsKeptOffer events handed x now offer → IsKeptOffer events handed x now other
    → affords bytes other ≡ affords bytes offer
offers_alike events handed x now bytes offer other is its =
    alike_by (is_sized_entry events x) handed (is_torrent_at events x.called) x now bytes offer other is its

pub none_opened : (handed : List Handed) (listed : Bool) (x : Entry) (now : ℕ) → HasNoneToHand handed listed x
    → HasNoChoice (kept_situation x) now → (offer : Offer) → ¬ IsOpenedKeptOffer handed listed x now offer
none_opened handed listed x now no_piece no_choice (Whole piece) is = no_piece piece is.is
none_opened handed listed x now no_piece no_choice (Blocks mirror run victim) is =
    no_choice (record { run = run; mirror = mirror; victim = victim }) is.1
none_opened handed listed x now no_piece no_choice (Probe mirror) is = is

-- ---- the subject

torrent_call : (asked : Call) (subject : Subject) → subject_of_call asked ≡ Some subject
    → adds_torrent asked ≡ is_listed subject
torrent_call (call.AddUri uris options position) subject is =
    let s : Unlisted uris ≡ subject = same_Some (Unlisted uris) subject is in ap is_listed s
torrent_call (call.AddTorrent meta uris options position) subject is = ap is_listed (same_Some _ subject is)
torrent_call (call.Remove key) subject is = absurd cc
torrent_call (call.Pause key) subject is = absurd cc
torrent_call (call.Unpause key) subject is = absurd cc
torrent_call call.PauseAll subject is = absurd cc
torrent_call call.UnpauseAll subject is = absurd cc
torrent_call (call.ChangeOption key options) subject is = absurd cc
torrent_call (call.ChangeGlobalOption options) subject is = absurd cc
torrent_call (call.TellStatus key) subject is = absurd cc
torrent_call call.TellActive subject is = absurd cc
torrent_call (call.TellWaiting offset num) subject is = absurd cc
torrent_call (call.TellStopped offset num) subject is = absurd cc
torrent_call (call.GetUris key) subject is = absurd cc
torrent_call (call.GetFiles key) subject is = absurd cc
torrent_call (call.GetOption key) subject is = absurd cc
torrent_call call.GetGlobalOption subject is = absurd cc
torrent_call call.GetGlobalStat subject is = absurd cc
torrent_call (call.ChangePosition key position how) subject is = absurd cc
torrent_call call.Purge subject is = absurd cc
torrent_call (call.RemoveResult key) subject is = absurd cc
torrent_call call.GetVersion subject is = absurd cc
torrent_call call.Shutdown subject is = absurd cc

torrent_event : (e : Event) (subject : Subject) → subject_of_event e ≡ Some subject
    → is_torrent_event e ≡ is_listed subject
torrent_event (Called session asked now) subject is = torrent_call asked subject is
torrent_event (Opened gid verified blocks now) subject is = absurd cc
torrent_event (Sized gid id total) subject is = absurd cc
torrent_event (Claimed gid claim) subject is = absurd cc
torrent_event (Landed gid id mirror run now) subject is = absurd cc
torrent_event (Settled gid piece right giver) subject is = absurd cc
torrent_event (Cleared gid piece) subject is = absurd cc
torrent_event (Lost gid id mirror piece mark) subject is = absurd cc
torrent_event (Checked gid right) subject is = absurd cc
torrent_event (Saved gid now) subject is = absurd cc
torrent_event (Ended gid how) subject is = absurd cc
torrent_event Left subject is = absurd cc
torrent_event Stopped subject is = absurd cc

torrent_of : (o : Option Event) (subject : Subject) → option_and_then subject_of_event o ≡ Some subject
    → option_map_or is_torrent_event o false ≡ is_listed subject
torrent_of None subject is = absurd cc
torrent_of (Some e) subject is = torrent_event e subject is

-- ---- what is kept of a download, beside its events

pub record IsSeenEntry (start : RunStart) (past events : List Event) (d : Download) (x : Entry) : Type 0 where
  pub added : download_in start past d.gid ≡ Some d
  pub known : IsKnown (known_lengths start past d.gid).total (known_lengths start past d.gid).piece_len
      (own_of start past d.gid) x.state.account
  pub keeps : KeepsDownload (own_of start past d.gid) (known_lengths start past d.gid) (options_now start past d) d x
  pub called : option_and_then subject_of_event (slice_get events x.called) ≡ Some d.subject

listed_same : (start : RunStart) (past events : List Event) (d : Download) (x : Entry)
    → IsSeenEntry start past events d x → is_torrent_at events x.called ≡ is_listed d.subject
listed_same start past events d x s = torrent_of (slice_get events x.called) d.subject s.called

some_told : (n : ℕ) (o : Option ℕ) → is_some o ≡ is_some (told_lengths n o)
some_told n None = refl
some_told n (Some total) = refl

sized_by : (d : Download) (subject : Subject) (own : List OwnEvent)
    → (is_listed subject || is_some (told_total own)) ≡ is_some (lengths_by d subject own)
sized_by d (Listed meta uris) own = refl
sized_by d (Unlisted uris) own = some_told (number_value d.options num.PieceLength) (told_total own)

lengths_are : (start : RunStart) (past events : List Event) (d : Download) (x : Entry)
    → IsSeenEntry start past events d x
    → payload_lengths_of start past d.gid ≡ lengths_by d d.subject (own_of start past d.gid)
lengths_are start past events d x s =
    ap (option_and_then (λ (y : Download). lengths_by y y.subject (own_of start past d.gid))) s.added

sized_same : (start : RunStart) (past events : List Event) (d : Download) (x : Entry)
    → IsSeenEntry start past events d x → is_sized_entry events x ≡ is_some (payload_lengths_of start past d.gid)
sized_same start past events d x s =
    rw (listed_same start past events d x s, s.known.matches.told)
    (sized_by d d.subject (own_of start past d.gid) ∙ sym (ap is_some (lengths_are start past events d x s)))

-- ---- what is to be opened

pub to_open_same : (start : RunStart) (past events : List Event) (d : Download) (x : Entry)
    → IsSeenEntry start past events d x
    → is_waiting_to_open events x
    ≡ (is_some (payload_lengths_of start past d.gid) && not (is_opened (own_of start past d.gid)))
to_open_same start past events d x s = rw (sized_same start past events d x s, s.known.opened) refl

-- ---- full pieces

to_settle : (total len : ℕ) (own : List OwnEvent) (k : Account) (piece : ℕ) → IsKnown total len own k
    → is_opened own ≡ true → AwaitsFinding total len own piece → IsToSettle k piece
to_settle total len own k piece known opened awaits =
    let rows = known.matches.rows opened in
    let row = known.matches.pieces piece awaits.within in
    record {
      full = record {
        unverified = record {
          known = rw (rows.total_is, rows.piece_len_is) awaits.within;
          unverified = slice_get-get_or k.progress.verified piece false
              (let w = rows.verified in let b = awaits.within in omega arith)
              ∙ ap (λ (t : Bool). Some t) (row.verified ∙ awaits.unverified);
        };
        full = rw (rows.total_is, rows.piece_len_is)
            (λ b below is. known.matches.blocks b below ∙ awaits.full b below is);
      };
      anew = row.settled ∙ awaits.anew;
    }

-- the download is opened, and its lengths are these
record IsOpenEntry (start : RunStart) (past events : List Event) (d : Download) (x : Entry) (l : PayloadLengths)
    : Type 0 where
  seen : IsSeenEntry start past events d x
  lengths : known_lengths start past d.gid ≡ l
  opened : is_opened (own_of start past d.gid) ≡ true

known_at : (start : RunStart) (past events : List Event) (d : Download) (x : Entry) (l : PayloadLengths)
    → IsOpenEntry start past events d x l
    → IsKnown l.total l.piece_len (own_of start past d.gid) x.state.account
known_at start past events d x l o =
    subst (λ (y : PayloadLengths). IsKnown y.total y.piece_len (own_of start past d.gid) x.state.account) o.lengths
    o.seen.known

whole_of : (start : RunStart) (past events : List Event) (d : Download) (x : Entry) (l : PayloadLengths)
    (handed : List Handed) (piece : ℕ) → IsOpenEntry start past events d x l
    → MayBeHanded handed (is_torrent_at events x.called) x piece
    → IsWhole handed d l (own_of start past d.gid) piece
whole_of start past events d x l handed piece o is =
    let kn = known_at start past events d x l o in
    let rows = kn.matches.rows o.opened in
    record {
      awaits = awaits_finding l.total l.piece_len (own_of start past d.gid) x.state.account piece kn.matches rows.total_is
          rows.piece_len_is is.settle;
      free = λ listed.
          subst (λ (g : Gid). is_handed_out handed g piece ≡ false) o.seen.keeps.gid
          (is.free (listed_same start past events d x o.seen ∙ listed));
    }

handed_of : (start : RunStart) (past events : List Event) (d : Download) (x : Entry) (l : PayloadLengths)
    (handed : List Handed) (piece : ℕ) → IsOpenEntry start past events d x l
    → IsWhole handed d l (own_of start past d.gid) piece
    → MayBeHanded handed (is_torrent_at events x.called) x piece
handed_of start past events d x l handed piece o is =
    let kn = known_at start past events d x l o in
    record {
      settle = to_settle l.total l.piece_len (own_of start past d.gid) x.state.account piece kn o.opened is.awaits;
      free = λ listed.
          subst (λ (g : Gid). is_handed_out handed g piece ≡ false) (sym o.seen.keeps.gid)
          (is.free (sym (listed_same start past events d x o.seen) ∙ listed));
    }

-- ---- blocks

splits_by : (kept options : OptionValues) → kept ≡ options → SplitsBy options (split_by kept)
splits_by kept options is =
    record {
      claims = ap (λ (v : OptionValues). number_value v num.Split) is;
      per_host = ap (λ (v : OptionValues). number_value v num.MaxConnectionPerServer) is;
      min_blocks = ap (λ (v : OptionValues). div_ceil (number_value v num.MinSplitSize) BLOCK_LEN) is;
    }

situation_same : (start : RunStart) (past events : List Event) (d : Download) (x : Entry) (l : PayloadLengths)
    → IsOpenEntry start past events d x l → kept_situation x ≡ situation_in start past d.gid d l
situation_same start past events d x l o =
    let kept : KeepsDownload (own_of start past d.gid) l (options_now start past d) d x =
    subst (λ (y : PayloadLengths). KeepsDownload (own_of start past d.gid) y (options_now start past d) d x) o.lengths
    o.seen.keeps in
    let rows = (known_at start past events d x l o).matches.rows o.opened in
    same_situation d l (own_of start past d.gid) (options_now start past d) x.state (split_by x.options) x.hosts.items
    (record {
      account = kept.account;
      total = rows.total_is;
      piece_len = rows.piece_len_is;
      wanted = kept.wanted o.opened;
      max_tries = kept.max_tries;
      marks = kept.marks;
      hosts_are = kept.hosts;
      split_is = splits_by x.options (options_now start past d) kept.options_are;
    })

opened_same : (start : RunStart) (past events : List Event) (d : Download) (x : Entry) (l : PayloadLengths)
    (handed : List Handed) (now : ℕ) (offer : Offer) → IsOpenEntry start past events d x l
    → IsOpenedKeptOffer handed (is_torrent_at events x.called) x now offer
    ↔ IsOpenedOffer handed start past d l now offer
opened_same start past events d x l handed now (Whole piece) o = (
  λ is. record {
    whole = whole_of start past events d x l handed piece o is.is;
    first = λ other below whole. is.first other below (handed_of start past events d x l handed other o whole);
  },
  λ is. record {
    is = handed_of start past events d x l handed piece o is.whole;
    first = λ other below may. is.first other below (whole_of start past events d x l handed other o may);
  },
)
opened_same start past events d x l handed now (Blocks mirror run victim) o =
    let choice : Choice = record { run = run; mirror = mirror; victim = victim } in
    let same = situation_same start past events d x l o in (
      λ is. (
        λ piece whole. is.0 piece (handed_of start past events d x l handed piece o whole),
        λ id worker.
            block_grant (situation_in start past d.gid d l) now choice id worker
            (subst (λ (s : Situation). IsBlockChoice s now choice) same is.1),
      ),
      λ is. (
        λ piece may. is.0 piece (whole_of start past events d x l handed piece o may),
        subst (λ (s : Situation). IsBlockChoice s now choice) (sym same)
            (grant_choice (situation_in start past d.gid d l) (offered_claim mirror run victim 0 0 now) (is.1 0 0)),
      ),
    )
opened_same start past events d x l handed now (Probe mirror) o = (λ is. absurd is, λ is. absurd is)

-- ---- probes

-- its lengths aren't known
record IsUnsized (start : RunStart) (past events : List Event) (d : Download) (x : Entry) : Type 0 where
  seen : IsSeenEntry start past events d x
  lengths : known_lengths start past d.gid ≡ no_lengths

unsized_account : (start : RunStart) (past events : List Event) (d : Download) (x : Entry)
    → IsUnsized start past events d x → x.state.account ≡ account_of 0 0 (own_of start past d.gid)
unsized_account start past events d x u =
    subst (λ (y : PayloadLengths). x.state.account ≡ account_of y.total y.piece_len (own_of start past d.gid)) u.lengths
    u.seen.keeps.account

probe_same : (start : RunStart) (past events : List Event) (d : Download) (x : Entry) (mirror : ℕ)
    → IsUnsized start past events d x
    → IsProbeMirror (kept_situation x) mirror ↔ IsProbeMirror (situation_in start past d.gid d no_lengths) mirror
probe_same start past events d x mirror u =
    let k = u.seen.keeps in
    let account = unsized_account start past events d x u in
    rw (k.hosts, k.max_tries, k.marks, k.options_are, account) (λ is. is, λ is. is)

unsized_same : (start : RunStart) (past events : List Event) (d : Download) (x : Entry) (now : ℕ) (offer : Offer)
    → IsUnsized start past events d x → IsKeptProbeOffer x offer ↔ IsProbeOffer start past d now offer
unsized_same start past events d x now (Whole piece) u = (λ is. absurd is, λ is. absurd is)
unsized_same start past events d x now (Blocks mirror run victim) u = (λ is. absurd is, λ is. absurd is)
unsized_same start past events d x now (Probe mirror) u =
    let s = situation_in start past d.gid d no_lengths in
    let standing : x.state.account.standing ≡ s.standing =
    ap (λ (k : Account). k.standing) (unsized_account start past events d x u) in
    let same = probe_same start past events d x mirror u in (
      λ is. λ id worker. probe_grant s now mirror id worker (sym standing ∙ is.0) (same.0 is.1),
      λ is. (standing ∙ (is 0 0).alone, same.1 (is 0 0).mirror),
    )

-- ---- each offer

by_lengths : (start : RunStart) (past events : List Event) (d : Download) (x : Entry) (handed : List Handed) (now : ℕ)
    (offer : Offer) → IsSeenEntry start past events d x → (o : Option PayloadLengths)
    → payload_lengths_of start past d.gid ≡ o
    → IsSizedKeptOffer (is_some o) handed (is_torrent_at events x.called) x now offer
    ↔ IsOfferBy handed start past d o now offer
by_lengths start past events d x handed now offer s None is =
    unsized_same start past events d x now offer
    (record { seen = s; lengths = ap (λ (o : Option PayloadLengths). unwrap_or o no_lengths) is })
by_lengths start past events d x handed now offer s (Some l) is =
    let lengths : known_lengths start past d.gid ≡ l = ap (λ (o : Option PayloadLengths). unwrap_or o no_lengths) is in (
      λ kept.
          let opened : is_opened (own_of start past d.gid) ≡ true = sym s.known.opened ∙ kept.0 in (
            opened,
            (opened_same start past events d x l handed now offer
                (record { seen = s; lengths = lengths; opened = opened })).0 kept.1,
          ),
      λ told. (
        s.known.opened ∙ told.0,
        (opened_same start past events d x l handed now offer
            (record { seen = s; lengths = lengths; opened = told.0 })).1 told.1,
      ),
    )

pub kept_same : (start : RunStart) (past events : List Event) (d : Download) (x : Entry) (handed : List Handed)
    (now : ℕ) (offer : Offer) → IsSeenEntry start past events d x
    → IsKeptOffer events handed x now offer
    ↔ IsOfferBy handed start past d (payload_lengths_of start past d.gid) now offer
kept_same start past events d x handed now offer s =
    subst
    (λ (t : Bool). IsSizedKeptOffer t handed (is_torrent_at events x.called) x now offer
    ↔ IsOfferBy handed start past d (payload_lengths_of start past d.gid) now offer)
    (sym (sized_same start past events d x s))
    (by_lengths start past events d x handed now offer s (payload_lengths_of start past d.gid) refl)
