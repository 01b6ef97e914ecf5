-- What `aria2.addTorrent` asks for, and why it is refused (aria2 manual, `aria2.addTorrent`): a metainfo file (BEP 3) in base64
-- (RFC 4648 section 4), then URIs, options and a position, which may be left out from the last on.
use Rattle.std.specs.Prelude.{◌≡◌, ◌+◌, ◌⊎◌, ℕ, All, List, [], ◌∷◌, length, nat_le, if◌then◌else◌, true, false, Option, Some, None, Result, Ok, Err, Box, box_value}
use Rattle.std.specs.declared.alloc.Global.{Global}
use Rattle.base64.specs.Engines.{standard}
use Rattle.base64.specs.GeneralPurpose.{IsBytes, encode_of}
use Rattle.link_source.specs.Endpoint.{IsUsable}
use Rattle.machine_core.specs.declared.calls.Call.TheVariants.{AddTorrent}
use Rattle.metainfo.specs.Info.{Info, info_of}
use Rattle.metainfo.specs.Rules.{metainfo_of}
use Rattle.metainfo.specs.declared.meta.Meta.{Meta}
use Rattle.metainfo.specs.declared.refusals.MetaErr.{MetaErr}
use Rattle.metainfo.specs.declared.refusals.MetaErr.TheVariants.{Bencode}
use Rattle.option_set.specs.declared.setting.Assigned.{Assigned}
use Rattle.rpc_console.specs.Askings.{plain}
use Rattle.rpc_console.specs.Further.{are_further, further_options, further_position}
use Rattle.rpc_console.specs.Options.{AreOptions, RefusesOptions}
use Rattle.rpc_console.specs.Params.{text_list}
use Rattle.rpc_console.specs.Uris.{RefusesUnusable, mirrors_fault}
use Rattle.rpc_console.specs.declared.asking.Asking.{Asking}
use Rattle.rpc_console.specs.declared.options.OptionUse.TheVariants.{Adding}
use Rattle.rpc_console.specs.declared.torrents.TheConstants.{MAX_TORRENT_LEN}
use Rattle.rpc_envelope.specs.declared.fault.RpcFault.{RpcFault}
use Rattle.rpc_envelope.specs.declared.fault.RpcFault.TheVariants.{BadParams, NotBencode, UnusableTorrent}
use Rattle.serde_json.specs.Data.{Data}
use Rattle.serde_json.specs.Find.{as_str}

-- ---- the metainfo file

-- the text writes these bytes
pub record IsBase64 (text bytes : List ℕ) : Type 0 where
  pub bytes_are : IsBytes bytes
  pub text_is : text ≡ encode_of standard bytes

abbrev pub HasBase64 : Data → List ℕ → Type 0
HasBase64 d bytes = (text : List ℕ) × (as_str d ≡ Some text) × IsBase64 text bytes

abbrev pub torrent_fault : MetaErr → RpcFault
torrent_fault (Bencode error) = NotBencode
torrent_fault other = UnusableTorrent

abbrev pub or_torrent_fault : Result Info MetaErr → Result Info RpcFault
or_torrent_fault (Ok info) = Ok info
or_torrent_fault (Err error) = Err (torrent_fault error)

-- what a metainfo file says, or why there is no download of it
abbrev pub torrent_info : List ℕ → Result Info RpcFault
torrent_info bytes =
    if nat_le (length bytes) MAX_TORRENT_LEN then or_torrent_fault (metainfo_of bytes) else Err UnusableTorrent

-- ---- the call

abbrev pub torrent_uris : List Data → Option (List (List ℕ))
torrent_uris [] = Some []
torrent_uris (d ∷ further) = text_list d

abbrev pub behind_uris : List Data → List Data
behind_uris [] = []
behind_uris (d ∷ further) = further

pub record AreTorrentParams (d : Data) (others : List Data) (bytes : List ℕ) (uris : List (List ℕ)) : Type 0 where
  pub bytes_are : HasBase64 d bytes
  pub uris_are : torrent_uris others ≡ Some uris
  pub further_are : are_further (behind_uris others) ≡ true

abbrev pub AreNoTorrentParams : Data → List Data → Type 0
AreNoTorrentParams d others =
    ((bytes : List ℕ) → HasBase64 d bytes → ⊥) ⊎ (torrent_uris others ≡ None) ⊎ (are_further (behind_uris others) ≡ false)

-- each URI leads to a mirror, the call takes the options, the metainfo file can be used, and of its seeds and the URIs there are
-- some and not too many
pub record AddsTorrentOf (bytes : List ℕ) (uris : List (List ℕ)) (further : List Data) (asking : Asking) : Type 0 where
  pub usable : All IsUsable uris
  pub options : List Assigned
  pub options_are : AreOptions Adding (further_options further) options
  pub meta : Box Meta Global
  pub says : torrent_info bytes ≡ Ok (info_of (box_value meta))
  pub mirrors : mirrors_fault (length (box_value meta).seeds + length uris) ≡ None
  pub asking_is : asking ≡ plain (AddTorrent meta uris options (further_position further))

-- the metainfo file can't be used, or there are no mirrors or too many
abbrev pub RefusesMetainfoOf : List ℕ → List (List ℕ) → RpcFault → Type 0
RefusesMetainfoOf bytes uris fault =
    (torrent_info bytes ≡ Err fault)
    ⊎ ((info : Info) × (torrent_info bytes ≡ Ok info) × (mirrors_fault (length info.seeds + length uris) ≡ Some fault))

-- the first of these isn't so
abbrev pub RefusesTorrentOf : List ℕ → List (List ℕ) → List Data → RpcFault → Type 0
RefusesTorrentOf bytes uris further fault =
    RefusesUnusable uris fault
    ⊎ (All IsUsable uris × RefusesOptions Adding (further_options further) fault)
    ⊎ (All IsUsable uris × (options : List Assigned) × AreOptions Adding (further_options further) options
    × RefusesMetainfoOf bytes uris fault)

abbrev pub IsTorrentAsking : List Data → Asking → Type 0
IsTorrentAsking [] asking = ⊥
IsTorrentAsking (d ∷ others) asking =
    (bytes : List ℕ) × (uris : List (List ℕ)) × AreTorrentParams d others bytes uris
    × AddsTorrentOf bytes uris (behind_uris others) asking

abbrev pub RefusesTorrentAsking : List Data → RpcFault → Type 0
RefusesTorrentAsking [] fault = fault ≡ BadParams
RefusesTorrentAsking (d ∷ others) fault =
    (AreNoTorrentParams d others × (fault ≡ BadParams))
    ⊎ ((bytes : List ℕ) × (uris : List (List ℕ)) × AreTorrentParams d others bytes uris
    × RefusesTorrentOf bytes uris (behind_uris others) fault)
