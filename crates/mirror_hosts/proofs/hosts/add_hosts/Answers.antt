use Rattle.std.proofs.Common.{◌∙◌, ◌++◌, ◌∷◌, [], List, ℕ, ap, sym, subst, append_assoc, map, take}
use Rattle.std.proofs.lemmas.Option.{get_or_from_slice_get, slice_get_within}
use Rattle.link_source.specs.Endpoint.{IsUsable}
use Rattle.mirror_hosts.specs.Hosts.{url_host}
use Rattle.mirror_hosts.proofs.Places.{map_more}
use Rattle.mirror_hosts.proofs.hosts.add_hosts.Goals as goal

pub host_of-requires : goal.host_of-requires
host_of-requires c =
    let urls = c.args.urls.now in
    subst IsUsable (get_or_from_slice_get urls c.loop-place.place c.at.result.now [] c.at.ensures ∙ sym c.as_str.ensures)
    (c.requires c.loop-place.place [] (slice_get_within urls c.loop-place.place c.at.result.now c.at.ensures))

pub loop-place-preserved : goal.loop-place-preserved
loop-place-preserved c =
    let urls = c.args.urls.now in
    let front = map url_host (take c.loop-place.place urls) in
    c.in_ok-push.ensures.ok
    ∙ ap (λ (hosts : List (List ℕ)). hosts ++ c.in_ok-host.host ∷ []) c.loop-place.invariant
    ∙ append_assoc c.args.hosts.now front (c.in_ok-host.host ∷ [])
    ∙ ap (λ (h : List ℕ). c.args.hosts.now ++ (front ++ h ∷ [])) (c.in_ok-host.ensures ∙ ap url_host c.as_str.ensures)
    ∙ ap (λ (hosts : List (List ℕ)). c.args.hosts.now ++ hosts)
    (map_more url_host urls c.at.result.now c.loop-place.place c.at.ensures)
