-- The wants that are kept, read at the place of a download.
use Rattle.std.proofs.Common.{◌≡◌, ⊎_elim, ℕ, ◌<◌, ◌≤◌, Option, Some, None, List, length, get_or, slice_get, Bor, refl, sym, ap, ◌∙◌, arith}
use Rattle.std.specs.Prelude.{IfSome, option_copied}
use Rattle.std.specs.List.{position_or_len}
use Rattle.std.specs.Option.{option_and_then}
use Rattle.std.proofs.lemmas.List.Folds.{find_at}
use Rattle.std.proofs.lemmas.Option.{slice_get_cases, slice_get_past, slice_get_read}
use Rattle.control_file.specs.Wants.{IsWant}
use Rattle.control_file.specs.declared.want.Want.{Want}
use Rattle.dl_kinds.specs.declared.gid.Gid.{Gid}
use Rattle.machine_core.specs.Replays.{is_download, replay_of}
use Rattle.machine_core.specs.RunLegal.{download_in}
use Rattle.machine_core.specs.Starts.{Download, RunStart}
use Rattle.machine_core.specs.declared.events.Event.{Event}
use Rattle.stored_run.specs.Views.{kept_want}

pub none_some : {P : Type 0} {A : Type 0} (x : A) → None ≡ Some x → P
none_some x is = absurd cc

-- none of a download that wasn't added
pub kept_unadded : (wants : List (Option Want)) (start : RunStart) (past : List Event) (gid : Gid)
    → length wants ≤ length (replay_of start past).downloads → download_in start past gid ≡ None
    → kept_want wants start past gid ≡ None
kept_unadded wants start past gid few none =
    let ds = (replay_of start past).downloads in
    let place = position_or_len (is_download gid) ds in
    let there : slice_get ds place ≡ None = sym (find_at (is_download gid) ds) ∙ none in
    ⊎_elim
    (λ (found : (d : Download) × (place < length ds) × (slice_get ds place ≡ Some d) × (get_or ds place d ≡ d)).
    none_some found.0 (sym there ∙ found.2))
    (λ (past_it : (length ds ≤ place) × (slice_get ds place ≡ None)).
    let behind = past_it.0 in
    ap (option_and_then (λ (w : Option Want). w)) (slice_get_past wants place (omega arith)))
    (slice_get_cases ds place).1

pub kept_past : (wants : List (Option Want)) (n : ℕ) → length wants ≤ n
    → option_and_then (λ (w : Option Want). w) (slice_get wants n) ≡ None
kept_past wants n past = ap (option_and_then (λ (w : Option Want). w)) (slice_get_past wants n past)

pub kept_read : (wants : List (Option Want)) (n : ℕ) (x : Option Want) → n < length wants → x ≡ get_or wants n x
    → x ≡ option_and_then (λ (w : Option Want). w) (slice_get wants n)
kept_read wants n x within is =
    sym (ap (option_and_then (λ (w : Option Want). w)) (slice_get_read wants (length wants) n x refl within is))

pub sound_read : (o : Option (Bor Want)) (k : Option Want) → option_copied o ≡ k
    → ((want : Want) → k ≡ Some want → IsWant want) → IfSome o (λ want. IsWant want.now)
sound_read None k is sound = tt
sound_read (Some b) k is sound = sound b.now (sym is)
