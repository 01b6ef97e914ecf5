use Rattle.std.proofs.Common.{◌≡◌, ◌++◌, List, length, map, take}
use Rattle.std.specs.Prelude.{option_copied}
use Rattle.std.specs.List.{enumerate_from}
use Rattle.dl_kinds.specs.declared.claims.Claim.{Claim}
use Rattle.run_report.specs.Uris.{uri_view, used_row}
use Rattle.run_report.proofs.uris.push_uris.Given as goal

abbrev pub invariant-loop-place : goal.invariant-loop-place
invariant-loop-place l =
    (standing : List Claim) → l.used ≡ used_row standing (length l.used)
    → l.views ≡ l.initial.views
    ++ map (uri_view standing (option_copied l.meta) l.file) (take l.place (enumerate_from l.first l.urls))
