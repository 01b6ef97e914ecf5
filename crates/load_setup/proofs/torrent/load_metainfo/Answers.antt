use Rattle.std.proofs.Common.{◌∙◌, ◌++◌, List, ap, ℕ}
use Rattle.load_setup.specs.Metainfo.{digests_joined, metainfo_back, metainfo_by, metainfo_front}
use Rattle.load_setup.proofs.torrent.load_metainfo.Goals as goal

pub returns : goal.returns
unfolding metainfo_back metainfo_by metainfo_front
returns c =
    c.in_ok-extend_from_slice.ensures.items
    ∙ ap (λ (front : List ℕ). front ++ metainfo_back)
    (c.in_ok-add_digests.ensures ∙ ap (λ (front : List ℕ). front ++ digests_joined c.args.digests.now) (c.in_ok-text.ensures.items_if_clones_equal (λ x y same. same)))
