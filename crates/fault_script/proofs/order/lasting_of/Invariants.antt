use Rattle.std.proofs.Common.{◌≡◌, take}
use Rattle.std.specs.List.{flat_map}
use Rattle.fault_script.specs.Index.{if_lasting}
use Rattle.fault_script.proofs.order.lasting_of.Given as goal

abbrev pub invariant-loop-s : goal.invariant-loop-s
invariant-loop-s l = l.lasting.items ≡ flat_map if_lasting (take l.s-index l.strikes)
