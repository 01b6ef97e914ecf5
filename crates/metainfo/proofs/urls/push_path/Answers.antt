use Rattle.std.proofs.Common.{sym, ap, ◌∙◌, List, ℕ, ◌++◌, take, map, string_bytes}
use Rattle.std.specs.List.{join_with_byte}
use Rattle.std.proofs.lemmas.List.{append_assoc}
use Rattle.metainfo.specs.Urls.{escaped}
use Rattle.metainfo.proofs.Escapes.{behind, part_joined}
use Rattle.metainfo.proofs.urls.push_path.Goals as goal

pub loop-place-preserved : goal.loop-place-preserved
loop-place-preserved c =
    let old = string_bytes c.args.url.now in
    let so_far = join_with_byte 47 (map escaped (take c.loop-place.place c.args.path.now)) in
    rw (c.in_ok-push_part.ensures, c.loop-place.invariant)
    (append_assoc old so_far (behind c.loop-place.place (escaped c.as_str.result.now))
    ∙ ap (λ (l : List ℕ). old ++ l) (sym (part_joined c.args.path.now c.loop-place.place c.as_str.result.now (rw (sym c.as_str.ensures) at c.at.ensures))))
