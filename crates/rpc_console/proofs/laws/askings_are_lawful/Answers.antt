use Rattle.std.proofs.Common.{◌≡◌, List, [], ◌∷◌, length, Option, Some, None, sym, subst}
use Rattle.std.specs.Prelude.{All, true}
use Rattle.option_set.specs.Assignments.{option_of}
use Rattle.option_set.specs.declared.setting.Assigned.{Assigned}
use Rattle.rpc_console.proofs.LawfulAskings.{plain_lawful, mirrors_are, said_by}
use Rattle.rpc_console.proofs.OptionLemmas.{all_taken}
use Rattle.rpc_console.proofs.laws.askings_are_lawful.Goals as goal
use Rattle.rpc_console.specs.Changes.{IsChange, IsGlobalChange}
use Rattle.rpc_console.specs.Further.{further_options}
use Rattle.rpc_console.specs.Laws.{AskingsAreLawful, IsLawfulAsking}
use Rattle.rpc_console.specs.Options.{AreOptions, takes_option}
use Rattle.rpc_console.specs.Torrents.{IsTorrentAsking, behind_uris}
use Rattle.rpc_console.specs.Uris.{IsUriAsking}
use Rattle.rpc_console.specs.declared.asking.Asking.{Asking}
use Rattle.rpc_console.specs.declared.methods.Method.TheVariants as method
use Rattle.rpc_console.specs.declared.options.OptionUse.{OptionUse}
use Rattle.rpc_console.specs.declared.options.OptionUse.TheVariants.{Adding, Changing, ChangingGlobally}
use Rattle.serde_json.specs.Data.{Data, Members}
use Rattle.serde_json.specs.Find.{as_object}

taken : (call : OptionUse) (found : Option Members) (options : List Assigned) → AreOptions call found options
    → All (λ setting. takes_option call (option_of setting) ≡ true) options
taken call None options are = absurd are
taken call (Some members) options are = all_taken call members options are.1

abbrev LawfulFrom : (List Data → Asking → Type 0) → Type 0
LawfulFrom Is = (params : List Data) (asking : Asking) → Is params asking → IsLawfulAsking asking

one : LawfulFrom IsChange
one [] asking is = absurd is
one (d ∷ []) asking is = absurd is
one (d ∷ e ∷ []) asking (key, key_is, options, are, asking_is) =
    subst IsLawfulAsking (sym asking_is) (taken Changing (as_object e) options are)
one (d ∷ e ∷ f ∷ ds) asking is = absurd is

global : LawfulFrom IsGlobalChange
global [] asking is = absurd is
global (d ∷ []) asking (options, are, asking_is) =
    subst IsLawfulAsking (sym asking_is) (taken ChangingGlobally (as_object d) options are)
global (d ∷ e ∷ ds) asking is = absurd is

uris_added : LawfulFrom IsUriAsking
uris_added [] asking is = absurd is
uris_added (d ∷ further) asking (uris, are, (usable, counted, options, options_are, asking_is)) =
    subst IsLawfulAsking (sym asking_is) (
      mirrors_are (length uris) uris counted usable,
      taken Adding (further_options further) options options_are,
    )

torrent_added : LawfulFrom IsTorrentAsking
torrent_added [] asking is = absurd is
torrent_added (d ∷ others) asking (bytes, uris, are, adds) =
    subst IsLawfulAsking (sym adds.asking_is) (record {
      said = said_by bytes _ adds.says;
      mirrors = mirrors_are _ uris adds.mirrors adds.usable;
      options_are = taken Adding (further_options (behind_uris others)) adds.options adds.options_are;
    })

all : AskingsAreLawful
all method.AddTorrent params asking is = torrent_added params asking is
all method.AddUri params asking is = uris_added params asking is
all (method.Bare which) params asking is = plain_lawful (method.Bare which) params asking is
all method.ChangeGlobalOption params asking is = global params asking is
all method.ChangeOption params asking is = one params asking is
all method.ChangePosition params asking is = plain_lawful method.ChangePosition params asking is
all (method.Keyed which) params asking is = plain_lawful (method.Keyed which) params asking is
all method.ListMethods params asking is = plain_lawful method.ListMethods params asking is
all method.TellActive params asking is = plain_lawful method.TellActive params asking is
all method.TellStatus params asking is = plain_lawful method.TellStatus params asking is
all (method.Window which) params asking is = plain_lawful (method.Window which) params asking is

pub returns : goal.returns
returns c = all
