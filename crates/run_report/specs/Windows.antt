-- Which downloads of a list are told (aria2 manual, `aria2.tellWaiting`).
use Rattle.std.specs.Prelude.{ℕ, ℤ, pos, negsuc, List, take, drop, reverse}
use Rattle.dl_kinds.specs.declared.gid.Gid.{Gid}

-- so many from the offset on; a negative one counts from the back, -1 being the last, and goes backwards
abbrev pub window : ℤ → ℕ → List Gid → List Gid
window (pos offset) num gids = take num (drop offset gids)
window (negsuc offset) num gids = take num (drop offset (reverse gids))
