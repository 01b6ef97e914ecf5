-- A file is refused for one reason, and then there is no call.
use Rattle.std.proofs.Common.{◌≡◌, ◌⊎◌, ◌+◌, ◌<◌, ◌≤◌, inl, inr, ⊎_elim, ℕ, List, Option, Some, None, length, refl, sym, ap, ◌∙◌, subst, arith}
use Rattle.std.specs.Prelude.{IfSome, Ok, Err, box_value}
use Rattle.command_line.specs.declared.source.Source.{Source}
use Rattle.command_line.specs.declared.source.Source.TheVariants as source
use Rattle.dl_disk.specs.Files.{Files}
use Rattle.dl_kinds.specs.declared.claims.TheConstants.{MAX_MIRRORS}
use Rattle.command_call.specs.Files.{HasBytes, IsTooLarge, Says}
use Rattle.command_call.specs.Sources.{AddsSaid, AddsTorrent, IsCallOf, RefusesMetainfo, RefusesSource}
use Rattle.command_call.specs.declared.refusals.SourceErr.{SourceErr}
use Rattle.command_call.specs.declared.refusals.SourceErr.TheVariants.{Fault, Meta, Mirrors, Missing, NoMemory, TooLarge}
use Rattle.machine_core.specs.LawfulCalls.{IsLawful}
use Rattle.machine_core.specs.declared.calls.Call.{Call}
use Rattle.machine_core.specs.declared.calls.Call.TheVariants.{AddTorrent}
use Rattle.metainfo.specs.Info.{Info}
use Rattle.metainfo.specs.Rules.{metainfo_of}
use Rattle.metainfo.specs.declared.refusals.MetaErr.{MetaErr}
use Rattle.option_set.specs.declared.setting.Assigned.{Assigned}
use Rattle.run_lifecycle.specs.Endings.{IsShownByFile}

-- ---- one file

bytes_one : (file : Option (List ℕ)) (one other : List ℕ) → file ≡ Some one → file ≡ Some other → one ≡ other
bytes_one file one other is also = (let same : Some one ≡ Some other = sym is ∙ also in cc)

none_or_some : {P : Type 0} (file : Option (List ℕ)) (bytes : List ℕ) → file ≡ None → file ≡ Some bytes → P
none_or_some file bytes none some = absurd (let clash : None ≡ Some bytes = sym none ∙ some in cc)

large_or_few : {P : Type 0} (file : Option (List ℕ)) (bytes : List ℕ) → IsTooLarge file → HasBytes file bytes → P
large_or_few file bytes large has =
    absurd (let same : length large.bytes ≡ length bytes = ap length
    (bytes_one file large.bytes bytes large.holds has.holds) in
    omega (arith, same, large.many, has.few))

-- its bytes break a rule
abbrev IsWrong : Option (List ℕ) → MetaErr → Type 0
IsWrong file error = (bytes : List ℕ) × HasBytes file bytes × (metainfo_of bytes ≡ Err error)

wrong_or_says : {P : Type 0} (file : Option (List ℕ)) (error : MetaErr) (info : Info) → IsWrong file error
    → Says file info → P
wrong_or_says file error info wrong says =
    let same = bytes_one file wrong.0 says.bytes wrong.1.holds says.has.holds in
    absurd (let clash : Err error ≡ Ok info = sym wrong.2 ∙ (ap metainfo_of same ∙ says.says) in cc)

says_one : (file : Option (List ℕ)) (one other : Info) → Says file one → Says file other → one ≡ other
says_one file one other is also =
    let same = bytes_one file is.bytes also.bytes is.has.holds also.has.holds in
    let infos : Ok one ≡ Ok other = sym is.says ∙ (ap metainfo_of same ∙ also.says) in
    cc

wrong_one : (file : Option (List ℕ)) (one other : MetaErr) → IsWrong file one → IsWrong file other → one ≡ other
wrong_one file one other is also =
    let same = bytes_one file is.0 also.0 is.1.holds also.1.holds in
    let errors : Err one ≡ Err other = sym is.2 ∙ (ap metainfo_of same ∙ also.2) in
    cc

-- ---- reasons

-- the other reason is this one, or doesn't come of the file
abbrev IsSameOrNone : SourceErr → SourceErr → Type 0
IsSameOrNone one other = (other ≡ one) ⊎ (other ≡ Fault) ⊎ (other ≡ NoMemory)

file_refused_once : (file : Option (List ℕ)) (uris : List (List ℕ)) (one other : SourceErr) → IsShownByFile one
    → RefusesMetainfo file uris one → RefusesMetainfo file uris other → IsSameOrNone one other
file_refused_once file uris Fault other shown is also = absurd shown
file_refused_once file uris NoMemory other shown is also = absurd shown
file_refused_once file uris one Fault shown is also = inr (inl refl)
file_refused_once file uris one NoMemory shown is also = inr (inr refl)
file_refused_once file uris Missing Missing shown is also = inl refl
file_refused_once file uris Missing TooLarge shown is also = none_or_some file also.bytes is also.holds
file_refused_once file uris Missing (Meta error) shown is also = none_or_some file also.0 is also.1.holds
file_refused_once file uris Missing
    (Mirrors count) shown is also = none_or_some file also.says.bytes is also.says.has.holds
file_refused_once file uris TooLarge Missing shown is also = none_or_some file is.bytes also is.holds
file_refused_once file uris TooLarge TooLarge shown is also = inl refl
file_refused_once file uris TooLarge (Meta error) shown is also = large_or_few file also.0 is also.1
file_refused_once file uris TooLarge (Mirrors count) shown is also = large_or_few file also.says.bytes is also.says.has
file_refused_once file uris (Meta error) Missing shown is also = none_or_some file is.0 also is.1.holds
file_refused_once file uris (Meta error) TooLarge shown is also = large_or_few file is.0 also is.1
file_refused_once file uris (Meta error) (Meta other) shown is also = inl (ap Meta (wrong_one file other error also is))
file_refused_once file uris (Meta error) (Mirrors count) shown is also = wrong_or_says file error also.info is also.says
file_refused_once file uris
    (Mirrors count) Missing shown is also = none_or_some file is.says.bytes also is.says.has.holds
file_refused_once file uris (Mirrors count) TooLarge shown is also = large_or_few file is.says.bytes also is.says.has
file_refused_once file uris (Mirrors count) (Meta error) shown is also = wrong_or_says file error is.info also is.says
file_refused_once file uris (Mirrors count) (Mirrors other) shown is also =
    let infos = says_one file also.info is.info also.says is.says in
    inl (ap Mirrors (also.count_is ∙ (ap (λ (i : Info). length i.seeds + length uris) infos ∙ sym is.count_is)))

not_by_memory : {P : Type 0} (error : SourceErr) → IsShownByFile error → error ≡ NoMemory → P
not_by_memory error shown is = absurd (subst IsShownByFile is shown)

pub refused_once : (seen : Files) (named : Source) (one other : SourceErr) → IsShownByFile one
    → RefusesSource seen named one
    → RefusesSource seen named other → IsSameOrNone one other
refused_once seen (source.Metainfo file uris) one other shown is also = file_refused_once
    (seen file) uris one other shown is also
refused_once seen (source.Mirrors uris) one other shown is also = not_by_memory one shown is
refused_once seen source.Console one other shown is also = not_by_memory one shown is

-- ---- no call

-- as many mirrors as a lawful call has
lawful_count : (info : Info) (uris : List (List ℕ)) (options : List Assigned) (call : Call)
    → AddsTorrent info uris options call
    → IsLawful call → (1 ≤ length info.seeds + length uris) × (length info.seeds + length uris ≤ MAX_MIRRORS)
lawful_count info uris options (AddTorrent meta its_uris its_options position) adds lawful =
    let seeds : length (box_value meta).seeds ≡ length info.seeds = ap (λ (i : Info). length i.seeds) adds.0 in
    let others : length its_uris ≡ length uris = ap length adds.1 in
    let some = lawful.mirrors.some in
    let few = lawful.mirrors.few in
    (omega (arith, seeds, others, some), omega (arith, seeds, others, few))
lawful_count info uris options other adds lawful = absurd adds

says_refused : {P : Type 0} (file : Option (List ℕ)) (uris : List (List ℕ)) (options : List Assigned) (call : Call)
    (error : SourceErr)
    → IsShownByFile error → RefusesMetainfo file uris error → AddsSaid file uris options call → IsLawful call → P
says_refused file uris options call Missing shown is said lawful = none_or_some file said.1.bytes is said.1.has.holds
says_refused file uris options call Fault shown is said lawful = absurd shown
says_refused file uris options call TooLarge shown is said lawful = large_or_few file said.1.bytes is said.1.has
says_refused file uris options call (Meta error) shown is said lawful = wrong_or_says file error said.0 is said.1
says_refused file uris options call (Mirrors count) shown is said lawful =
    let infos = says_one file is.info said.0 is.says said.1 in
    let counts : count ≡ length said.0.seeds + length uris =
    is.count_is ∙ ap (λ (i : Info). length i.seeds + length uris) infos in
    let within = lawful_count said.0 uris options call said.2 lawful in
    absurd (⊎_elim (λ (none : count ≡ 0). let some = within.0 in omega (arith, counts, none, some))
    (λ (many : MAX_MIRRORS < count). let few = within.1 in omega (arith, counts, many, few)) is.wrong)
says_refused file uris options call NoMemory shown is said lawful = absurd shown

pub called_unrefused : {P : Type 0} (seen : Files) (named : Source) (options : List Assigned) (call : Option Call)
    (error : SourceErr)
    → IsShownByFile error → RefusesSource seen named error → IsCallOf seen named options call → IfSome call IsLawful → P
called_unrefused seen (source.Metainfo file uris) options None error shown is called lawful = absurd called
called_unrefused seen (source.Metainfo file uris) options (Some call) error shown is called lawful =
    says_refused (seen file) uris options call error shown is called lawful
called_unrefused seen (source.Mirrors uris) options call error shown is called lawful = not_by_memory error shown is
called_unrefused seen source.Console options call error shown is called lawful = not_by_memory error shown is
