use Rattle.std.proofs.Common.{◌∙◌, ap, length}
use Rattle.load_setup.proofs.Groups.{digests_long}
use Rattle.tests_image.proofs.told.Goals as goal

pub count_right-requires-after_bounds : goal.count_right-requires-after_bounds
count_right-requires-after_bounds g c κs within = ap length c.in_ok-digests.ensures ∙ digests_long 5 64
