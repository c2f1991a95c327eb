use Rattle.std.proofs.Common.{◌≡◌, take}
use Rattle.std.specs.List.{flat_map}
use Rattle.fault_script.specs.Changes.{changes_of}
use Rattle.fault_script.proofs.masks.unsorted.Given as goal

abbrev pub invariant-loop-s : goal.invariant-loop-s
invariant-loop-s l = l.changes.items ≡ flat_map changes_of (take l.s-index l.strikes)
