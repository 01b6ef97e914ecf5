-- What methods ask for may be called.
use Rattle.std.proofs.Common.{◌≡◌, ◌≤◌, ◌==◌, ℕ, ℤ, zero, suc, Bool, true, false, List, [], ◌∷◌, length, Option, Some, None, Result, Ok, Err, option_map, option_and_then, refl, subst, ap, arith, if◌then◌else◌}
use Rattle.std.proofs.lemmas.Bool.{eqb-false, ltb-false}
use Rattle.std.specs.Prelude.{All, nat_le, nat_lt}
use Rattle.link_source.specs.Endpoint.{IsUsable}
use Rattle.machine_core.specs.LawfulCalls.{AreMirrors, IsLawful}
use Rattle.machine_core.specs.declared.calls.Call.TheVariants.{TellStatus, TellActive}
use Rattle.metainfo.specs.Info.{Info}
use Rattle.metainfo.specs.Rules.{IsMetaOfSome, metainfo_of}
use Rattle.metainfo.specs.declared.refusals.MetaErr.{MetaErr}
use Rattle.rpc_console.specs.Dispatch.{asking_without_options}
use Rattle.rpc_console.specs.Laws.{IsLawfulAsking}
use Rattle.rpc_console.specs.Methods.{bare_call, keyed_call, window_call}
use Rattle.rpc_console.specs.Params.{key_in, whole_in, count_in, how_in, keys_at}
use Rattle.rpc_console.specs.Torrents.{torrent_info, or_torrent_fault}
use Rattle.rpc_console.specs.Uris.{mirrors_fault}
use Rattle.rpc_console.specs.declared.asking.Asking.{Asking}
use Rattle.rpc_console.specs.declared.asking.Asking.TheVariants.{One}
use Rattle.rpc_console.specs.declared.methods.BareMethod.{BareMethod}
use Rattle.rpc_console.specs.declared.methods.BareMethod.TheVariants as bare
use Rattle.rpc_console.specs.declared.methods.KeyMethod.{KeyMethod}
use Rattle.rpc_console.specs.declared.methods.KeyMethod.TheVariants as keyed
use Rattle.rpc_console.specs.declared.methods.Method.{Method}
use Rattle.rpc_console.specs.declared.methods.Method.TheVariants as method
use Rattle.rpc_console.specs.declared.methods.WindowMethod.{WindowMethod}
use Rattle.rpc_console.specs.declared.methods.WindowMethod.TheVariants as window
use Rattle.dl_kinds.specs.declared.gid_key.GidKey.{GidKey}
use Rattle.rpc_envelope.specs.declared.fault.RpcFault.TheVariants.{NoUsableUri, TooManyUris, UnusableTorrent}
use Rattle.serde_json.specs.Data.{Data}

-- ---- mirrors

mirrors_by : (empty many : Bool)
    → (if empty then Some NoUsableUri else (if many then Some TooManyUris else None)) ≡ None
    → (empty ≡ false) × (many ≡ false)
mirrors_by true many none = absurd cc
mirrors_by false true none = absurd cc
mirrors_by false false none = (refl, refl)

pub mirrors_are : (count : ℕ) (uris : List (List ℕ)) → mirrors_fault count ≡ None → All IsUsable uris → AreMirrors count uris
mirrors_are count uris counted usable =
    let within = mirrors_by (count == 0) (nat_lt 256 count) counted in
    record { some = positive count (eqb-false count 0 within.0); few = ltb-false 256 count within.1; usable = usable }
  where
    positive : (count : ℕ) → (count ≡ 0 → ⊥) → 1 ≤ count
    positive zero none = absurd (none refl)
    positive (suc count) none = omega arith

-- ---- metainfo files

info_by : (read : Result Info MetaErr) (info : Info) → or_torrent_fault read ≡ Ok info → read ≡ Ok info
info_by (Ok said) info is = let same : said ≡ info = cc in ap Ok same
info_by (Err error) info is = cc

said_at : (few : Bool) (bytes : List ℕ) (info : Info)
    → (if few then or_torrent_fault (metainfo_of bytes) else Err UnusableTorrent) ≡ Ok info → IsMetaOfSome info
said_at true bytes info is = (bytes, info_by (metainfo_of bytes) info is)
said_at false bytes info is = cc

pub said_by : (bytes : List ℕ) (info : Info) → torrent_info bytes ≡ Ok info → IsMetaOfSome info
said_by bytes info is = said_at (nat_le (length bytes) 4294967295) bytes info is

-- ---- methods that set no options

abbrev IsLawfulIfAny : Option Asking → Type 0
IsLawfulIfAny None = Unit {0}
IsLawfulIfAny (Some asking) = IsLawfulAsking asking

mapped : {A : Type 0} (found : Option A) (f : A → Asking) → ((a : A) → IsLawfulAsking (f a)) → IsLawfulIfAny (option_map f found)
mapped None f all = tt
mapped (Some a) f all = all a

then_mapped : {A : Type 0} (found : Option A) (f : A → Option Asking) → ((a : A) → IsLawfulIfAny (f a))
    → IsLawfulIfAny (option_and_then f found)
then_mapped None f all = tt
then_mapped (Some a) f all = all a

bare_lawful : (which : BareMethod) → IsLawful (bare_call which)
bare_lawful bare.GetGlobalOption = tt
bare_lawful bare.GetGlobalStat = tt
bare_lawful bare.GetVersion = tt
bare_lawful bare.PauseAll = tt
bare_lawful bare.Purge = tt
bare_lawful bare.Shutdown = tt
bare_lawful bare.UnpauseAll = tt

keyed_lawful : (which : KeyMethod) (key : GidKey) → IsLawful (keyed_call which key)
keyed_lawful keyed.GetFiles key = tt
keyed_lawful keyed.GetOption key = tt
keyed_lawful keyed.GetUris key = tt
keyed_lawful keyed.Pause key = tt
keyed_lawful keyed.Remove key = tt
keyed_lawful keyed.RemoveResult key = tt
keyed_lawful keyed.Unpause key = tt

window_lawful : (which : WindowMethod) (offset : ℤ) (num : ℕ) → IsLawful (window_call which offset num)
window_lawful window.TellStopped offset num = tt
window_lawful window.TellWaiting offset num = tt

if_any : (which : Method) (params : List Data) → IsLawfulIfAny (asking_without_options which params)
if_any method.AddTorrent params = tt
if_any method.AddUri params = tt
if_any (method.Bare which) [] = bare_lawful which
if_any (method.Bare which) (d ∷ ds) = tt
if_any method.ChangeGlobalOption params = tt
if_any method.ChangeOption params = tt
if_any method.ChangePosition [] = tt
if_any method.ChangePosition (d ∷ []) = tt
if_any method.ChangePosition (d ∷ e ∷ []) = tt
if_any method.ChangePosition (d ∷ e ∷ f ∷ []) =
    then_mapped (key_in d) _ (λ key. then_mapped (whole_in e) _ (λ pos. mapped (how_in f) _ (λ from. tt)))
if_any method.ChangePosition (d ∷ e ∷ f ∷ g ∷ ds) = tt
if_any (method.Keyed which) [] = tt
if_any (method.Keyed which) (d ∷ []) = mapped (key_in d) _ (λ key. keyed_lawful which key)
if_any (method.Keyed which) (d ∷ e ∷ ds) = tt
if_any method.ListMethods [] = tt
if_any method.ListMethods (d ∷ ds) = tt
if_any method.TellActive params = mapped (keys_at params) (One TellActive) (λ keys. tt)
if_any method.TellStatus [] = tt
if_any method.TellStatus (d ∷ ds) = then_mapped (key_in d) _ (λ key. mapped (keys_at ds) (One (TellStatus key)) (λ keys. tt))
if_any (method.Window which) [] = tt
if_any (method.Window which) (d ∷ []) = tt
if_any (method.Window which) (d ∷ e ∷ ds) =
    then_mapped (whole_in d) _ (λ offset. then_mapped (count_in e) _
    (λ num. mapped (keys_at ds) (One (window_call which offset num)) (λ keys. window_lawful which offset num)))

pub plain_lawful : (which : Method) (params : List Data) (asking : Asking) → asking_without_options which params ≡ Some asking
    → IsLawfulAsking asking
plain_lawful which params asking is = subst IsLawfulIfAny is (if_any which params)
