use Rattle.std.proofs.Common.{◌≡◌, take}
use Rattle.span_map.specs.Layout.{total_of}
use Rattle.run_report.specs.Files.{file_views_from}
use Rattle.run_report.specs.Told.{facts_told}
use Rattle.run_report.proofs.told.Told.listed_views.Given as goal

abbrev pub invariant-loop-place : goal.invariant-loop-place
invariant-loop-place l = record {
  views : l.views ≡ file_views_from (facts_told l.self) 0 0 (take l.place l.files);
  first : l.first ≡ total_of (take l.place l.files);
}
