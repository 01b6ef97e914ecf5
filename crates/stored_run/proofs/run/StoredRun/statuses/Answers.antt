use Rattle.std.proofs.Common.{◌≡◌, ◌++◌, ◌∙◌, [], ◌∷◌, List, Option, ap, map, sym, take}
use Rattle.std.proofs.lemmas.List.{map-append}
use Rattle.dl_kinds.specs.declared.gid.Gid.{Gid}
use Rattle.dl_kinds.specs.declared.status.Status.{Status}
use Rattle.stored_run.specs.Saves.{gids_of, status_in}
use Rattle.stored_run.specs.declared.run.StoredView.{StoredView}
use Rattle.stored_run.proofs.Those.{take_at}
use Rattle.stored_run.proofs.run.StoredRun.statuses.Goals as goal

pub loop-n-preserved : goal.loop-n-preserved
loop-n-preserved g c =
    let v = c.args.self.now in
    let gids = gids_of v in
    let n = c.loop-n.n in
    let gid = c.gid_at.result in
    let status = status_in v.machine.start v.machine.past in
    let status_is : c.status.result ≡ status gid =
    c.status.ensures ∙ ap (λ (w : StoredView _). status_in w.machine.start w.machine.past gid) c.self.view_is in
    c.in_ok-push.ensures.items
    ∙ (ap (λ (l : List (Option Status)). l ++ c.status.result ∷ []) c.loop-n.invariant
    ∙ (ap (λ (st : Option Status). map status (take n gids) ++ st ∷ []) status_is
    ∙ (sym (map-append status (take n gids) (gid ∷ []))
    ∙ ap (λ (l : List Gid). map status l) (sym (take_at gids n gid c.gid_at.ensures)))))
