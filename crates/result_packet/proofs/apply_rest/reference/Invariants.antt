use Rattle.std.proofs.Common.{◌≡◌, drop}
use Rattle.esa_model.specs.Machine.{reference_all}
use Rattle.result_packet.proofs.apply_rest.reference.Given as goal

abbrev pub invariant-loop-block : goal.invariant-loop-block
invariant-loop-block l = reference_all l.blocks l.fn.keys ≡ reference_all (drop l.block-index l.blocks) l.keys
