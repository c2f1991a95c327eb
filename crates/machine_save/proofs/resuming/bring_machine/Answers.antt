use Rattle.std.proofs.Common.{sym, subst}
use Rattle.save_writing.specs.Written.{save_of}
use Rattle.machine_save.specs.Bringing.{AllCanBe}
use Rattle.machine_save.proofs.StoodUp.{all_can_be}
use Rattle.machine_save.proofs.resuming.bring_machine.Goals as goal

pub all_held-requires : goal.all_held-requires
all_held-requires c =
    subst (λ xs. AllCanBe xs) (sym c.deref.ensures.value)
    (all_can_be (save_of c.args.s.now.head c.args.s.now.numbers c.args.s.now.cpus.items c.args.s.now.cores c.args.s.now.keys.now c.args.s.now.storage.now) c.requires.save)
