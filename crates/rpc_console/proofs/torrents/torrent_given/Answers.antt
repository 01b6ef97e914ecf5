use Rattle.std.proofs.Common.{rules, ◌∷◌, inr, map}
use Rattle.serde_json.specs.View.{view}
use Rattle.rpc_console.specs.Torrents.{AreTorrentParams, RefusesTorrentAsking, RefusesTorrentOf}
use Rattle.rpc_console.specs.declared.asking.Asking.{Asking}
use Rattle.rpc_console.proofs.OptionLemmas.{refused_by}
use Rattle.rpc_console.proofs.torrents.torrent_given.Goals as goal

pub returns-in-Some-Some-clause-refused : goal.returns-in-Some-Some-clause-refused
returns-in-Some-Some-clause-refused c =
    let d = view c.args.first.now in
    let ds = map view c.args.others.now in
    let uris = c.in-Some-Some.uris in
    let bytes = c.in-Some-Some.bytes.items in
    let further = c.behind_uris-further.ensures in
    let params : AreTorrentParams d ds bytes uris = record {
      bytes_are = search rules;
      uris_are = search rules;
      further_are = search rules;
    } in
    refused_by Asking c.added_torrent.result (RefusesTorrentOf c.deref.result.now uris (map view c.behind_uris-further.result.now))
    (RefusesTorrentAsking (d ∷ ds))
    (λ fault refuses. inr (bytes, uris, params, search rules)) c.added_torrent.ensures.refused
