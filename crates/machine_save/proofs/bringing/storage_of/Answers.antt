use Rattle.std.proofs.Common.{length, ap, ◌∙◌, arith}
use Rattle.std.proofs.lemmas.List.{length-replicate}
use Rattle.saved_machine.specs.Saved.{byte_at}
use Rattle.machine_save.proofs.Filling.{filling_start}
use Rattle.machine_save.proofs.Copies.{copied, copy_next}
use Rattle.machine_save.proofs.bringing.storage_of.Goals as goal

pub bytes-init : goal.bytes-init
bytes-init c = filling_start (byte_at c.args.bytes.now) (length c.args.bytes.now) c.in_ok-storage.storage (ap length c.in_ok-storage.ensures ∙ length-replicate (length c.args.bytes.now) 0)

pub bytes-preserved : goal.bytes-preserved
bytes-preserved c = copy_next c.args.bytes.now c.bytes.storage c.store.new.storage c.bytes.at c.bytes-test.true c.bytes.invariant c.store.ensures

pub returns : goal.returns
returns c = copied c.args.bytes.now c.bytes.storage c.bytes.at (omega arith) (omega arith) c.bytes.invariant
