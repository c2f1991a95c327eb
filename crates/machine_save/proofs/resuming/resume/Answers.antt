use Rattle.std.proofs.Common.{◌≡◌, length, arith}
use Rattle.save_writing.specs.Written.{save_of}
use Rattle.saved_machine.specs.Saved.{counts_of}
use Rattle.machine_save.proofs.StoodUp.{read_again}
use Rattle.machine_save.proofs.resuming.resume.Goals as goal

pub returns-clause-ok : goal.returns-clause-ok
returns-clause-ok g c =
    let s = c.in_ok-s.s in
    let new = g.Z.Silicon.seen c.resume_cores.new.z in
    let long : length c.args.console.items ≡ c.len.result = omega (arith, c.len.ensures) in
    read_again c.args.turns (length c.args.console.items) c.len.result c.args.bytes.now
    (save_of s.head s.numbers s.cpus.items s.cores s.keys.now s.storage.now) c.in-Ok.machine
    c.counts_of.result (counts_of s.numbers) new long c.in_ok-s.ensures.ok
    (c.in-Ok.ensures.again (g.Z.Silicon.seen c.args.z.now) new c.resume_cores.ensures.stores)
    c.counts_of.ensures
