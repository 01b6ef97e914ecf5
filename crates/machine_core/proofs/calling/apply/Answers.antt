use Rattle.std.proofs.Common.{refl, sym, subst}
use Rattle.std.specs.Prelude.{All}
use Rattle.link_source.specs.Endpoint.{IsUsable}
use Rattle.metainfo.specs.declared.meta.Meta.{Meta}
use Rattle.machine_core.specs.CallParts.{CallParts, HasMirrors, IsApplied}
use Rattle.machine_core.specs.LawfulCalls.{IsLawful}
use Rattle.machine_core.specs.Starts.{Subject, Listed, Unlisted}
use Rattle.machine_core.specs.declared.applied.Applied.TheVariants.{Fine}
use Rattle.machine_core.specs.declared.calls.Call.{Call}
use Rattle.machine_core.specs.declared.calls.Call.TheVariants as call
use Rattle.machine_core.proofs.AddingCalls.{IsTorrentCall, adding_ok, adding_uri, torrent_call, torrent_mirrors, uri_mirrors}
use Rattle.machine_core.proofs.Called.{plain_applied}
use Rattle.machine_core.proofs.OptionCalls.{limiting_applied, setting_ok}
use Rattle.machine_core.proofs.calling.apply.Goals as goal

pub add-requires-in-AddTorrent-clause-seeds : goal.add-requires-in-AddTorrent-clause-seeds
add-requires-in-AddTorrent-clause-seeds c =
    let asked : Call =
    call.AddTorrent c.in-AddTorrent.meta c.in-AddTorrent.uris c.in-AddTorrent.options c.in-AddTorrent.position in
    let lawful : IsLawful asked = subst (λ (x : Call). IsLawful x) c.in-AddTorrent.is c.requires.lawful in
    let t : IsTorrentCall asked = torrent_call c.metainfo_is_sound.ensures asked in
    subst (λ (m : Meta). All IsUsable m.seeds) (sym c.deref.ensures) (t.1 lawful).seeds_are

pub add-requires-in-AddTorrent-clause-uris : goal.add-requires-in-AddTorrent-clause-uris
add-requires-in-AddTorrent-clause-uris c =
    let asked : Call =
    call.AddTorrent c.in-AddTorrent.meta c.in-AddTorrent.uris c.in-AddTorrent.options c.in-AddTorrent.position in
    let lawful : IsLawful asked = subst (λ (x : Call). IsLawful x) c.in-AddTorrent.is c.requires.lawful in
    lawful.mirrors.usable

pub returns-in-AddUri-clause-ok : goal.returns-in-AddUri-clause-ok
returns-in-AddUri-clause-ok c =
    let old : CallParts =
    record { queue = c.args.queue.now; global = c.args.global.now; shut = c.args.shut.now; entries = c.args.entries.now.items }
    in
    let new : CallParts = record old { queue = c.add.new.queue; entries = c.add.new.entries.items } in
    adding_ok c.add.result (call.AddUri c.in-AddUri.uris c.in-AddUri.options c.in-AddUri.position) c.args.call.now
    (Unlisted c.in-AddUri.uris) c.in-AddUri.options c.in-AddUri.position c.args.gids c.args.place old new c.in-AddUri.is
    (adding_uri c.in-AddUri.uris c.in-AddUri.options c.in-AddUri.position) refl refl
    (c.add.ensures.ok (Unlisted c.in-AddUri.uris) (uri_mirrors _ c.in-AddUri.uris cc))

pub returns-in-AddTorrent-clause-ok : goal.returns-in-AddTorrent-clause-ok
returns-in-AddTorrent-clause-ok c =
    let old : CallParts =
    record { queue = c.args.queue.now; global = c.args.global.now; shut = c.args.shut.now; entries = c.args.entries.now.items }
    in
    let new : CallParts =
    record old { queue = c.add-in-AddTorrent.new.queue; entries = c.add-in-AddTorrent.new.entries.items } in
    let uris = c.in-AddTorrent.uris in
    let subject : Subject = Listed c.in-AddTorrent.meta.value uris in
    let asked : Call = call.AddTorrent c.in-AddTorrent.meta uris c.in-AddTorrent.options c.in-AddTorrent.position in
    let t : IsTorrentCall asked = torrent_call c.metainfo_is_sound.ensures asked in
    adding_ok c.add-in-AddTorrent.result asked c.args.call.now subject c.in-AddTorrent.options c.in-AddTorrent.position
    c.args.gids c.args.place old new c.in-AddTorrent.is t.0 refl refl
    (c.add-in-AddTorrent.ensures.ok subject
    (subst (λ (m : Meta). HasMirrors subject m.seeds uris) (sym c.deref.ensures)
    (torrent_mirrors c.in-AddTorrent.meta.value uris)))

pub returns-in-ChangeOption-clause-ok : goal.returns-in-ChangeOption-clause-ok
returns-in-ChangeOption-clause-ok c =
    let old : CallParts =
    record { queue = c.args.queue.now; global = c.args.global.now; shut = c.args.shut.now; entries = c.args.entries.now.items }
    in
    let new : CallParts = record old { entries = c.change_option.new.entries.items } in
    setting_ok c.change_option.result c.args.call.now c.in-ChangeOption.key c.in-ChangeOption.options c.args.gids
    c.args.place old new c.in-ChangeOption.is refl refl refl c.change_option.ensures.entries c.change_option.ensures.answer

pub returns-in_ok-change_global-in-ChangeGlobalOption-clause-ok : goal.returns-in_ok-change_global-in-ChangeGlobalOption-clause-ok
returns-in_ok-change_global-in-ChangeGlobalOption-clause-ok c =
    let old : CallParts =
    record { queue = c.args.queue.now; global = c.args.global.now; shut = c.args.shut.now; entries = c.args.entries.now.items }
    in
    let new : CallParts = record old { queue = c.change_global.new.queue; global = c.change_global.new.global } in
    let done = c.in_ok-change_global-in-ChangeGlobalOption.ensures in
    subst (λ (x : Call). IsApplied x c.args.gids c.args.place old new Fine) (sym c.in-ChangeGlobalOption.is)
    (limiting_applied c.in-ChangeGlobalOption.options c.args.gids c.args.place old new done.global done.queue refl refl)

pub returns-in_default : goal.returns-in_default
returns-in_default c =
    let old : CallParts =
    record { queue = c.args.queue.now; global = c.args.global.now; shut = c.args.shut.now; entries = c.args.entries.now.items }
    in
    let new : CallParts =
    record old {
      queue = c.apply_plain.new.queue;
      shut = c.apply_plain.new.shut;
      entries = c.apply_plain.new.entries.items;
    } in
    record {
      ok = plain_applied c.args.call.now c.args.gids c.args.place old new c.apply_plain.result refl c.apply_plain.ensures;
      queue = tt;
      global = tt;
      shut = tt;
      entries = tt;
    }
