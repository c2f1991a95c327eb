use Rattle.std.proofs.Common.{length, ap, ◌∙◌, arith}
use Rattle.std.proofs.lemmas.List.{length-replicate}
use Rattle.saved_machine.specs.Saved.{byte_at}
use Rattle.machine_save.proofs.Filling.{filling_start}
use Rattle.machine_save.proofs.Copies.{copied, copy_next}
use Rattle.machine_save.proofs.bringing.keys_of.Goals as goal

pub keys-init : goal.keys-init
keys-init c = filling_start (byte_at c.args.bytes.now) (length c.args.bytes.now) c.in_ok-keys.keys (ap length c.in_ok-keys.ensures ∙ length-replicate (length c.args.bytes.now) 0)

pub keys-preserved : goal.keys-preserved
keys-preserved c = copy_next c.args.bytes.now c.keys.keys c.set.new.keys c.keys.block c.keys-test.true c.keys.invariant c.set.ensures

pub returns : goal.returns
returns c = copied c.args.bytes.now c.keys.keys c.keys.block (omega arith) (omega arith) c.keys.invariant
