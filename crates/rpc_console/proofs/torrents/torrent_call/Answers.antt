use Rattle.std.proofs.Common.{◌≡◌, ◌+◌, ◌∙◌, None, Ok, ap, length, subst, sym}
use Rattle.std.specs.Prelude.{box_value}
use Rattle.machine_core.specs.declared.calls.Call.TheVariants.{AddTorrent}
use Rattle.metainfo.specs.Info.{info_of}
use Rattle.metainfo.specs.declared.meta.Meta.{Meta}
use Rattle.rpc_console.specs.Askings.{plain}
use Rattle.rpc_console.specs.Torrents.{torrent_info}
use Rattle.rpc_console.specs.Uris.{mirrors_fault}
use Rattle.rpc_console.proofs.torrents.torrent_call.Goals as goal

pub returns-in_ok-new-in-Ok-clause-ok : goal.returns-in_ok-new-in-Ok-clause-ok
returns-in_ok-new-in-Ok-clause-ok c =
    let meta = c.in_ok-new-in-Ok.field-0 in
    let same : c.in-Ok.meta ≡ box_value meta = sym c.in_ok-new-in-Ok.ensures.ok in
    record {
      usable = c.requires.usable;
      options = c.args.options;
      options_are = c.requires.options;
      meta = meta;
      says = subst (λ (m : Meta). torrent_info c.args.bytes.now ≡ Ok (info_of m)) same c.in-Ok.ensures.ok.0;
      mirrors = subst (λ (m : Meta). mirrors_fault (length m.seeds + length c.args.uris) ≡ None) same c.in-Ok.ensures.ok.1;
      asking_is = c.plain.ensures ∙ ap (λ position. plain (AddTorrent meta c.args.uris c.args.options position)) c.further_position.ensures;
    }
