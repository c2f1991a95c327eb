-- What was woken and added is the start of the definitions.
use Rattle.std.proofs.Common.{refl, ap}
use Rattle.seen_memory.specs.Seen.{Shown}
use Rattle.g5_machine.proofs.Firsts.{by_mode_first, fits_first, placed_first, stands_first, there_first}
use Rattle.g5_machine.proofs.machine.Machine.new.Goals as goal

pub invariant_of-result : goal.invariant_of-result
invariant_of-result g c =
    let cpus = c.wake_cores.new.cpus.items in
    let old = g.Z.Silicon.seen c.args.z.now in
    let new = g.Z.Silicon.seen c.wake_cores.new.z in
    let entry = c.args.entry.address in
    let woken = c.wake_cores.ensures.woken in
    record {
      fits = fits_first c.args.config cpus entry old new c.requires.config woken;
      there = there_first cpus entry c.args.config.cpus old new woken;
      placed = placed_first c.args.config cpus c.add_spares.new.pool entry old new
          c.requires.config woken c.add_spares.ensures;
    }

pub returns-clause-stands : goal.returns-clause-stands
returns-clause-stands g c =
    stands_first _ c.args.config (g.Z.Silicon.seen c.args.z.now)
    (g.Z.Silicon.seen c.wake_cores.new.z) c.args.entry.address c.args.storage
    c.args.console.items c.requires.config c.wake_cores.ensures.woken c.add_spares.ensures
    (ap (λ (m : Shown). m.bytes) c.in_ok-memory.ensures)
    (rw (c.in_ok-keys.ensures, c.in_ok-bus.ensures, c.new-5.ensures, c.size.ensures.size) refl)
    c.zeros.ensures.counts c.requires.begun

pub returns-clause-by_mode : goal.returns-clause-by_mode
returns-clause-by_mode g c =
    by_mode_first _ c.args.config (g.Z.Silicon.seen c.args.z.now)
    (g.Z.Silicon.seen c.wake_cores.new.z) c.args.entry.address c.wake_cores.ensures.woken
    c.add_spares.ensures c.zeros.ensures.counts
