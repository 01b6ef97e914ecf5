-- An event that may come next is one that what is kept of its download allows.
use Rattle.std.proofs.Common.{◌≡◌, ℕ, Bool, true, false, Option, Some, None, ◌+◌, ◌<◌, ◌≤◌, List, [], ◌∷◌, slice_get, refl, sym, ap, ◌∙◌, subst, ⊎_elim, arith}
use Rattle.std.specs.Prelude.{◌==◌, ◌||◌, All, Contains, find, slice_index_or}
use Rattle.std.specs.Option.{is_some, unwrap_or}
use Rattle.std.proofs.lemmas.Bool.{eqb-true, eq-eqb}
use Rattle.std.proofs.lemmas.List.Elements.{All-contains, filter_passes}
use Rattle.std.proofs.lemmas.Option.{slice_get-get_or, get_or_from_slice_get}
use Rattle.dl_kinds.specs.Plan.{IsPlan, blocks_of, pieces_of, piece_of}
use Rattle.dl_kinds.specs.declared.claims.Claim.{Claim}
use Rattle.dl_kinds.specs.declared.gid.Gid.{Gid}
use Rattle.dl_kinds.specs.declared.plan.TheConstants.{MAX_PIECES}
use Rattle.dl_kinds.specs.declared.runs.Run.{Run}
use Rattle.piece_table.specs.declared.giver.Giver.{Giver}
use Rattle.piece_table.specs.declared.giver.Giver.TheVariants.{Nobody}
use Rattle.dl_history.specs.AccountLaws.{MatchesEvents}
use Rattle.dl_history.specs.Accounts.{Account, account_of, first_still_open, is_still_open}
use Rattle.dl_history.specs.OwnEvents.{OwnEvent, Opens, Grants, Lands, Settles, Clears, Loses, Sizes, Saves, Checks, Halts}
use Rattle.dl_history.specs.OwnLegal.{IsLossOf, IsWrongLast, LegalOwn, MayLand, MaySettle, MayClear, MayBeLost}
use Rattle.dl_history.specs.PayloadParts.{is_opened, is_sole_in}
use Rattle.dl_history.specs.StandingClaims.{blocks_in, first_open_since, granted_claims, is_open_since, is_probe, is_standing, piece_of_first, standing_claims}
use Rattle.one_download.specs.DownloadLaws.{AccountsTellOpening}
use Rattle.one_download.specs.DownloadViews.{IsFullUnverified, IsOpenAt, IsUnverified, is_opened_by, standing_under}
use Rattle.machine_core.specs.OwnParts.{PayloadLengths, no_lengths, own_of}
use Rattle.machine_core.specs.Replays.{replay_of}
use Rattle.machine_core.specs.RunLegal.{known_lengths}
use Rattle.machine_core.specs.Starts.{RunStart, Download}
use Rattle.machine_core.specs.MachineParts.{KeepsDownload, KeepsRun, MachineState}
use Rattle.machine_core.specs.declared.entries.Entry.{Entry}
use Rattle.machine_core.specs.declared.events.Event.{Event}
use Rattle.machine_core.proofs.Legal.{Laws, parts, IsPlanned}
use Rattle.machine_core.proofs.Lists.{contains_filter, find_one, find_same, found}
use Rattle.machine_core.proofs.Steps.{IsAt}
use Rattle.machine_core.proofs.Tests.{and_right}

-- what is known of a download whose account is kept
pub record IsKnown (total len : ℕ) (own : List OwnEvent) (k : Account) : Type 0 where
  pub legal : LegalOwn total len own
  pub plan : is_opened own ≡ true → IsPlan total len
  pub matches : MatchesEvents total len own k
  pub opened : is_opened_by k ≡ is_opened own

pub plan_of : (start : RunStart) (past : List Event) (gid : Gid)
    → IsPlanned (replay_of start past).downloads gid (own_of start past gid)
    → IsPlan (known_lengths start past gid).total (known_lengths start past gid).piece_len
plan_of start past gid p =
    subst (λ (o : Option PayloadLengths). IsPlan (unwrap_or o no_lengths).total (unwrap_or o no_lengths).piece_len)
    (sym p.known) p.plan

pub known : Laws → AccountsTellOpening → (past : List Event) (s : MachineState) (gid : Gid) (at : ℕ) (d : Download)
    (x : Entry) → KeepsRun past s → IsAt s.start past s.entries gid at d x
    → IsKnown (known_lengths s.start past gid).total (known_lengths s.start past gid).piece_len
    (own_of s.start past gid) x.state.account
known laws tells past s gid at d x k here =
    let start = s.start in
    let own = own_of start past gid in
    let l = known_lengths start past gid in
    let part = parts laws start past gid k.legal in
    let kept : KeepsDownload (own_of start past d.gid) (known_lengths start past d.gid) _ d x =
    k.downloads.each at d x here.added here.there in
    let account : x.state.account ≡ account_of l.total l.piece_len own =
    subst (λ (g : Gid). x.state.account
    ≡ account_of (known_lengths start past g).total (known_lengths start past g).piece_len (own_of start past g))
    here.gid_is kept.account in
    let plan : is_opened own ≡ true → IsPlan l.total l.piece_len = λ h. plan_of start past gid (part.planned h) in
    record {
      legal = part.legal;
      plan = plan;
      matches = subst (λ (a : Account). MatchesEvents l.total l.piece_len own a) (sym account)
          (laws.accounts l.total l.piece_len own plan part.legal);
      opened = ap is_opened_by account ∙ tells l.total l.piece_len own part.legal;
    }

-- ---- landings

pub record LandingFits (k : Account) (run : Run) : Type 0 where
  pub opened : is_opened_by k ≡ true
  pub within : run.first + run.count ≤ blocks_of k.progress.total k.progress.piece_len

pub landing_fits : Laws → (total len : ℕ) (own : List OwnEvent) (k : Account) (id mirror : ℕ) (run : Run)
    → IsKnown total len own k → MayLand own id mirror run → LandingFits k run
landing_fits laws total len own k id mirror run known may =
    let l = laws.sound.landings total len own id mirror run known.legal may in
    let rows = known.matches.rows l.opened in
    record { opened = known.opened ∙ l.opened; within = rw (rows.total_is, rows.piece_len_is) l.within }

-- ---- pieces

unverified_by : (total len : ℕ) (own : List OwnEvent) (k : Account) (piece : ℕ) → IsKnown total len own k
    → is_opened own ≡ true → piece < pieces_of total len → slice_index_or k.progress.verified piece false ≡ false
    → IsUnverified k.progress piece
unverified_by total len own k piece known opened within is =
    let rows = known.matches.rows opened in
    record {
      known = rw (rows.total_is, rows.piece_len_is) within;
      unverified = slice_get-get_or k.progress.verified piece false (let w = rows.verified in omega arith)
          ∙ ap (λ (t : Bool). Some t) is;
    }

pub settling_fits : (total len : ℕ) (own : List OwnEvent) (k : Account) (piece : ℕ) (giver : Giver)
    → IsKnown total len own k → MaySettle total len own piece giver → IsFullUnverified k.progress piece
settling_fits total len own k piece giver known may =
    let rows = known.matches.rows may.opened in
    let pieces = known.matches.pieces piece may.within in
    record {
      unverified = unverified_by total len own k piece known may.opened may.within (pieces.verified ∙ may.unverified);
      full = rw (rows.total_is, rows.piece_len_is)
          (λ b below is. known.matches.blocks b below ∙ may.full b below is);
    }

-- the finding with the giver that is kept may come next
pub settling_by : (total len : ℕ) (own : List OwnEvent) (k : Account) (piece : ℕ) (giver kept : Giver)
    → IsKnown total len own k → MaySettle total len own piece giver → slice_get k.progress.givers piece ≡ Some kept
    → MaySettle total len own piece kept
settling_by total len own k piece giver kept known may is =
    record {
      opened = may.opened;
      within = may.within;
      full = may.full;
      unverified = may.unverified;
      anew = may.anew;
      givers = rw (← get_or_from_slice_get k.progress.givers piece kept Nobody is)
          (known.matches.pieces piece may.within).giver;
    }

-- a piece is settled only once its download is opened
wrong_opened : (total len : ℕ) (own : List OwnEvent) (piece : ℕ) → LegalOwn total len own → IsWrongLast len piece own
    → is_opened own ≡ true
wrong_opened total len [] piece legal w = absurd w
wrong_opened total len (Opens verified blocks now ∷ own) piece legal w = refl
wrong_opened total len (Grants claim ∷ own) piece legal w = wrong_opened total len own piece legal.0 w
wrong_opened total len (Lands id mirror run ∷ own) piece legal w = wrong_opened total len own piece legal.0 w.1
wrong_opened total len (Settles other right giver ∷ own) piece legal w = legal.1.opened
wrong_opened total len (Clears other ∷ own) piece legal w = wrong_opened total len own piece legal.0 w.1
wrong_opened total len (Loses id mirror other mark ∷ own) piece legal w = wrong_opened total len own piece legal.0 w
wrong_opened total len (Sizes id told ∷ own) piece legal w = wrong_opened total len own piece legal.0 w
wrong_opened total len (Saves now ∷ own) piece legal w = wrong_opened total len own piece legal.0 w
wrong_opened total len (Checks right ∷ own) piece legal w = wrong_opened total len own piece legal.0 w
wrong_opened total len (Halts ends ∷ own) piece legal w = wrong_opened total len own piece legal.0 w

sole_opened : (total len : ℕ) (own : List OwnEvent) (piece : ℕ) → LegalOwn total len own
    → is_sole_in own piece ≡ true → is_opened own ≡ true
sole_opened total len [] piece legal s = absurd cc
sole_opened total len (Opens verified blocks now ∷ own) piece legal s = refl
sole_opened total len (Grants claim ∷ own) piece legal s = sole_opened total len own piece legal.0 s
sole_opened total len (Lands id mirror run ∷ own) piece legal s = sole_opened total len own piece legal.0 s
sole_opened total len (Settles other right giver ∷ own) piece legal s = legal.1.opened
sole_opened total len (Clears other ∷ own) piece legal s = sole_opened total len own piece legal.0 s
sole_opened total len (Loses id mirror other mark ∷ own) piece legal s = sole_opened total len own piece legal.0 s
sole_opened total len (Sizes id told ∷ own) piece legal s = sole_opened total len own piece legal.0 s
sole_opened total len (Saves now ∷ own) piece legal s = sole_opened total len own piece legal.0 s
sole_opened total len (Checks right ∷ own) piece legal s = sole_opened total len own piece legal.0 s
sole_opened total len (Halts ends ∷ own) piece legal s = sole_opened total len own piece legal.0 s

loss_opened : (total len : ℕ) (own : List OwnEvent) (piece : ℕ) → LegalOwn total len own → IsLossOf piece own
    → is_opened own ≡ true
loss_opened total len [] piece legal w = absurd w
loss_opened total len (Loses id mirror other mark ∷ own) piece legal w = sole_opened total len own piece legal.0 w.1
loss_opened total len (Opens verified blocks now ∷ own) piece legal w = refl
loss_opened total len (Grants claim ∷ own) piece legal w = absurd w
loss_opened total len (Lands id mirror run ∷ own) piece legal w = absurd w
loss_opened total len (Settles other right giver ∷ own) piece legal w = absurd w
loss_opened total len (Clears other ∷ own) piece legal w = absurd w
loss_opened total len (Sizes id told ∷ own) piece legal w = absurd w
loss_opened total len (Saves now ∷ own) piece legal w = absurd w
loss_opened total len (Checks right ∷ own) piece legal w = absurd w
loss_opened total len (Halts ends ∷ own) piece legal w = absurd w

pub clearing_fits : Laws → (total len : ℕ) (own : List OwnEvent) (k : Account) (piece : ℕ)
    → IsKnown total len own k → MayClear total len own piece → IsUnverified k.progress piece
clearing_fits laws total len own k piece known may =
    let opened : is_opened own ≡ true =
    ⊎_elim (λ (w : IsLossOf piece own). loss_opened total len own piece known.legal w)
    (λ (w : IsWrongLast len piece own). wrong_opened total len own piece known.legal w) may.cause in
    let c = laws.sound.cleared total len own piece (known.plan opened) known.legal may in
    unverified_by total len own k piece known opened may.within
    ((known.matches.pieces piece may.within).verified ∙ c.unverified)

-- ---- losses

pub some_is : {A : Type 0} (o : Option A) → is_some o ≡ true → (x : A) × (o ≡ Some x)
some_is None h = absurd cc
some_is (Some x) h = (x, refl)

second_holds : (a b : Bool) → (a || b) ≡ true → a ≡ false → b ≡ true
second_holds true b h never = absurd cc
second_holds false b h never = h

pub record FirstOpen (total len : ℕ) (own : List OwnEvent) (claim : Claim) (piece : ℕ) : Type 0 where
  pub block : ℕ
  pub is : first_open_since own claim ≡ Some block
  pub piece_is : piece_of len block ≡ piece
  pub within : block < blocks_of total len

stands_yes : (own : List OwnEvent) (claim : Claim) → Contains (standing_claims own) claim
    → is_standing own claim ≡ true
stands_yes own claim there =
    All-contains (λ (c : Claim). is_standing own c ≡ true) (standing_claims own) claim
    (filter_passes (is_standing own) (granted_claims own)) there

-- a claim of blocks that stands has a first open block
pub first_block : Laws → (total len : ℕ) (own : List OwnEvent) (id mirror piece : ℕ)
    → LegalOwn total len own → (may : MayBeLost len own id mirror piece) → is_opened own ≡ true
    → FirstOpen total len own may.claim piece
first_block laws total len own id mirror piece legal may opened =
    let blocks = (laws.sound.probes total len own may.claim legal may.stands).blocks opened in
    let some : is_some (first_open_since own may.claim) ≡ true =
    second_holds (is_probe may.claim) (is_some (first_open_since own may.claim))
    (and_right _ (is_probe may.claim || is_some (first_open_since own may.claim))
    (stands_yes own may.claim may.stands)) blocks in
    let b = some_is (first_open_since own may.claim) some in
    let f = found (is_open_since own may.claim) (blocks_in may.claim.run) b.0 b.1 in
    let u = laws.sound.open_blocks total len own may.claim b.0 legal may.stands f.passes in
    record {
      block = b.0;
      is = b.1;
      piece_is = ap (piece_of_first len) (sym b.1) ∙ may.piece_is;
      within = u.within;
    }

pub under_number : Laws → (total len : ℕ) (own : List OwnEvent) (k : Account) (id : ℕ) (claim : Claim)
    → IsKnown total len own k → Contains (standing_claims own) claim → claim.id ≡ id
    → standing_under k id ≡ Some claim
under_number laws total len own k id claim known there is =
    subst (λ (cs : List Claim). find (λ (c : Claim). c.id == id) cs ≡ Some claim) (sym known.matches.claims.standing)
    (find_one (λ (c : Claim). c.id == id) (standing_claims own) claim there (eq-eqb claim.id id is)
    (λ other here same. laws.sound.apart total len own other claim known.legal
    (contains_filter (is_standing own) (granted_claims own) other here)
    (contains_filter (is_standing own) (granted_claims own) claim there)
    (eqb-true other.id id same ∙ sym is)))

pub first_by : (total len : ℕ) (own : List OwnEvent) (k : Account) (claim : Claim)
    → IsKnown total len own k → Contains (standing_claims own) claim
    → first_still_open k claim ≡ first_open_since own claim
first_by total len own k claim known there =
    find_same (is_still_open k claim) (is_open_since own claim) (blocks_in claim.run)
    (All-contains (λ (c : Claim). (b : ℕ) → is_still_open k c b ≡ is_open_since own c b) (standing_claims own) claim
    known.matches.claims.open_blocks there)

pub losing_fits : Laws → (total len : ℕ) (own : List OwnEvent) (k : Account) (id mirror piece : ℕ)
    → IsKnown total len own k → MayBeLost len own id mirror piece → is_opened_by k ≡ true → IsOpenAt k id piece
losing_fits laws total len own k id mirror piece known may h =
    let opened : is_opened own ≡ true = sym known.opened ∙ h in
    let rows = known.matches.rows opened in
    let f = first_block laws total len own id mirror piece known.legal may opened in
    record {
      claim = may.claim;
      stands = under_number laws total len own k id may.claim known may.stands may.id_is;
      block = f.block;
      first = first_by total len own k may.claim known may.stands ∙ f.is;
      piece_is = ap (λ (n : ℕ). piece_of n f.block) rows.piece_len_is ∙ f.piece_is;
    }

-- the piece of a loss has a number that a piece may have
no_block : (n : ℕ) (claim : Claim) (own : List OwnEvent) → claim.run.count ≡ n → n ≡ 0
    → first_open_since own claim ≡ None
no_block n claim own is zero_is = rw (is, zero_is) refl

-- a probe is lost at piece 0
pub probe_piece : Laws → (total len : ℕ) (own : List OwnEvent) (id mirror piece : ℕ) → LegalOwn total len own
    → MayBeLost len own id mirror piece → is_opened own ≡ false → 0 ≡ piece
probe_piece laws total len own id mirror piece legal may un =
    let probe = (laws.sound.probes total len own may.claim legal may.stands).probe un in
    let none = no_block may.claim.run.count may.claim own refl (eqb-true may.claim.run.count 0 probe) in
    ap (piece_of_first len) (sym none) ∙ may.piece_is

piece_cases : Laws → (total len : ℕ) (own : List OwnEvent) (id mirror piece : ℕ) → LegalOwn total len own
    → (is_opened own ≡ true → IsPlan total len)
    → MayBeLost len own id mirror piece → (t : Bool) → is_opened own ≡ t → piece < MAX_PIECES
piece_cases laws total len own id mirror piece legal plans may true opened =
    let f = first_block laws total len own id mirror piece legal may opened in
    let plan = plans opened in
    let below = (laws.plans.of_pieces total len f.block plan f.within).piece in
    let most = plan.pieces in
    let same = f.piece_is in
    omega arith
piece_cases laws total len own id mirror piece legal plans may false un =
    let zero_is = probe_piece laws total len own id mirror piece legal may un in
    omega arith

pub losing_piece : Laws → (total len : ℕ) (own : List OwnEvent) (k : Account) (id mirror piece : ℕ)
    → IsKnown total len own k → MayBeLost len own id mirror piece → piece < MAX_PIECES
losing_piece laws total len own k id mirror piece known may =
    piece_cases laws total len own id mirror piece known.legal known.plan may (is_opened own) refl

-- ---- mirrors

pub mirror_known : (mirrors : ℕ) (own : List OwnEvent) (claim : Claim)
    → All (λ (c : Claim). c.mirror < mirrors) (granted_claims own) → Contains (standing_claims own) claim
    → claim.mirror < mirrors
mirror_known mirrors own claim all there =
    All-contains (λ (c : Claim). c.mirror < mirrors) (granted_claims own) claim all
    (contains_filter (is_standing own) (granted_claims own) claim there)
