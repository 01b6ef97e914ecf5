-- A download before its opening, and its claims.
use Rattle.std.proofs.Common.{◌≡◌, ℕ, suc, zero, ◌<◌, ◌≤◌, Bool, true, false, cond, Option, Some, None, List, [], ◌∷◌, All, length, map, replicate, take, refl, sym, ap, subst, arith}
use Rattle.std.specs.Prelude.{◌==◌, ◌&&◌, IfNone, IfSome, count_by, find, not, slice_index_or}
use Rattle.std.specs.Option.{option_and_then, option_map_or}
use Rattle.std.proofs.lemmas.Bool.Decides.{nat_tests}
use Rattle.std.proofs.lemmas.List.Elements.{All-head, All-tail}
use Rattle.dl_kinds.specs.declared.claims.Claim.{Claim}
use Rattle.dl_history.specs.Accounts.{Account, first_still_open, is_still_open}
use Rattle.piece_table.specs.Changes.{is_in}
use Rattle.segment_claim.specs.Situation.{is_on, loads_of}
use Rattle.one_download.specs.DownloadParts.{HoldsIn, IsOfMirrors, account_in, some_of}
use Rattle.one_download.specs.DownloadViews.{DownloadView, IsProbeAt, is_open_by, is_opened_by, standing_under}
use Rattle.mirror_blame.specs.Choice.{IsChoice}
use Rattle.one_download.specs.Grants.{IsProbeMirror, situation_with}
use Rattle.one_download.specs.PayloadViews.{PayloadView, account_before}
use Rattle.one_download.specs.declared.choices.Split.{Split}
use Rattle.one_download.specs.declared.payload.Before.{Before}

-- what is kept before the opening
pub unopened_account : (mirrors : ℕ) (payload : Option PayloadView) (probe : Option Claim) (before : Before)
    → HoldsIn mirrors payload probe → is_opened_by (account_in payload probe before) ≡ false
    → (account_in payload probe before).standing ≡ [] → account_in payload probe before ≡ account_before before
unopened_account mirrors None probe before holds first idle =
    ap (λ (l : List Claim). record (account_before before) { standing = l }) idle
unopened_account mirrors (Some payload) probe before holds first idle = let saved = holds.saved in absurd cc

-- what is found of a list that holds throughout holds
found_by : (P : Claim → Type 0) (b : Bool) (x : Claim) (o : Option Claim) → P x → IfSome o P
    → IfSome (cond b (Some x) o) P
found_by P true x o here rest = here
found_by P false x o here rest = rest

pub found_all : (P : Claim → Type 0) (p : Claim → Bool) (xs : List Claim) → All P xs → IfSome (find p xs) P
found_all P p [] all = tt
found_all P p (x ∷ xs) all =
    found_by P (p x) x (find p xs) (All-head P x xs all) (found_all P p xs (All-tail P x xs all))

pub claims_known : (mirrors id : ℕ) (k : Account) → IsOfMirrors mirrors k
    → IfSome (standing_under k id) (λ claim. claim.mirror < mirrors)
claims_known mirrors id k of =
    found_all (λ (claim : Claim). claim.mirror < mirrors) (λ (claim : Claim). claim.id == id) k.standing of.claims

probe_mirrors : (mirrors id : ℕ) (probe : Option Claim) → All (IsProbeAt mirrors) (some_of probe)
    → IfSome (find (λ claim. claim.id == id) (some_of probe)) (λ claim. claim.mirror < mirrors)
probe_mirrors mirrors id None all = tt
probe_mirrors mirrors id (Some claim) all =
    found_by (λ (c : Claim). c.mirror < mirrors) (claim.id == id) claim None
    (All-head (IsProbeAt mirrors) claim [] all).mirror tt

pub probe_known : (mirrors id : ℕ) (payload : Option PayloadView) (probe : Option Claim) (before : Before)
    → HoldsIn mirrors payload probe → payload ≡ None
    → IfSome (standing_under (account_in payload probe before) id) (λ claim. claim.mirror < mirrors)
probe_known mirrors id None probe before holds none = probe_mirrors mirrors id probe holds
probe_known mirrors id (Some payload) probe before holds none = absurd cc

and_first : (a b : Bool) → (a && b) ≡ true → a ≡ true
and_first true b h = refl
and_first false b h = cc

-- a probe has no open block
closed_by : (k : Account) (b : Bool) (claim : Claim) → claim.run.count ≡ 0
    → None ≡ option_and_then (first_still_open k) (cond b (Some claim) None)
closed_by k true claim none = rw none refl
closed_by k false claim none = refl

pub probe_closed : (mirrors id : ℕ) (payload : Option PayloadView) (probe : Option Claim) (before : Before)
    → HoldsIn mirrors payload probe → payload ≡ None
    → None ≡ option_and_then (first_still_open (account_in payload probe before))
    (standing_under (account_in payload probe before) id)
probe_closed mirrors id None None before holds none = refl
probe_closed mirrors id None (Some claim) before holds none =
    closed_by (account_in None (Some claim) before) (claim.id == id) claim
    (All-head (IsProbeAt mirrors) claim [] holds).count
probe_closed mirrors id (Some payload) probe before holds none = absurd cc

-- nor is any block open in it
shut_by : (k : Account) (b : Bool) (claim : Claim) (block : ℕ) → claim.run.count ≡ 0
    → option_map_or (λ (c : Claim). is_still_open k c block) (cond b (Some claim) None) false ≡ true → ⊥
shut_by k true claim block none h =
    let inside : is_in block claim.run ≡ true =
    and_first (is_in block claim.run) (not (slice_index_or k.progress.landed block false))
    (and_first (is_in block claim.run && not (slice_index_or k.progress.landed block false)) _ h) in
    grind (arith, nat_tests)
shut_by k false claim block none h = cc

pub probe_shut : (mirrors id block : ℕ) (payload : Option PayloadView) (probe : Option Claim) (before : Before)
    → HoldsIn mirrors payload probe → payload ≡ None
    → is_open_by (account_in payload probe before) id block ≡ true → ⊥
probe_shut mirrors id block None None before holds none h = cc
probe_shut mirrors id block None (Some claim) before holds none h =
    shut_by (account_in None (Some claim) before) (claim.id == id) claim block
    (All-head (IsProbeAt mirrors) claim [] holds).count h
probe_shut mirrors id block (Some payload) probe before holds none h = absurd cc

-- while no claim stands, no host has one
pub no_loads : (all hosts : List ℕ) (many : ℕ) → length hosts ≤ many
    → take (length hosts) (replicate many 0) ≡ map (λ host. count_by (is_on all host) []) hosts
no_loads all [] many few = refl
no_loads all (host ∷ hosts) zero few = absurd (omega arith)
no_loads all (host ∷ hosts) (suc many) few = ap (λ (xs : List ℕ). 0 ∷ xs) (no_loads all hosts many (omega arith))

pub if_some : (o : Option ℕ) (P : ℕ → Type 0) → ((m : ℕ) → o ≡ Some m → P m) → IfSome o P
if_some None P each = tt
if_some (Some m) P each = each m refl

pub if_none : (o : Option ℕ) (P : Type 0) → (o ≡ None → P) → IfNone o P
if_none None P each = each refl
if_none (Some m) P each = tt

-- the mirror that is chosen while no claim stands is the one for a probe ..
pub probe_by : (v : DownloadView) (split : Split) (hosts : List ℕ) (m : ℕ) → v.account.standing ≡ []
    → length hosts ≡ v.mirrors → length hosts ≤ 256
    → IsChoice v.mirrors v.max_tries v.marks 0 0 (take (length hosts) (replicate 256 0)) split.per_host m
    → IsProbeMirror (situation_with v split hosts) m
probe_by v split hosts m alone each few is =
    subst (λ n. IsChoice n v.max_tries v.marks 0 0 (loads_of hosts v.account.standing) split.per_host m) (sym each)
    (subst (λ (l : List Claim). IsChoice v.mirrors v.max_tries v.marks 0 0 (loads_of hosts l) split.per_host m) (sym alone)
    (subst (λ (l : List ℕ). IsChoice v.mirrors v.max_tries v.marks 0 0 l split.per_host m) (no_loads hosts hosts 256 few) is))

-- .. and the other way round
pub probe_from : (v : DownloadView) (split : Split) (hosts : List ℕ) (m : ℕ) → v.account.standing ≡ []
    → length hosts ≡ v.mirrors → length hosts ≤ 256 → IsProbeMirror (situation_with v split hosts) m
    → IsChoice v.mirrors v.max_tries v.marks 0 0 (take (length hosts) (replicate 256 0)) split.per_host m
probe_from v split hosts m alone each few is =
    subst (λ (l : List ℕ). IsChoice v.mirrors v.max_tries v.marks 0 0 l split.per_host m) (sym (no_loads hosts hosts 256 few))
    (subst (λ (l : List Claim). IsChoice v.mirrors v.max_tries v.marks 0 0 (loads_of hosts l) split.per_host m) alone
    (subst (λ n. IsChoice n v.max_tries v.marks 0 0 (loads_of hosts v.account.standing) split.per_host m) each is))
