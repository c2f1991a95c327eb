use Rattle.std.proofs.Common.{ap, ◌∙◌, ℕ, take}
use Rattle.run_model.specs.declared.logs.Config.{Config}
use Rattle.save_writing.proofs.Writes.{save_written}
use Rattle.saved_machine.specs.Saved.{cores_of, cpus_of, head_of, numbers_of, saved}
use Rattle.machine_save.proofs.Fronts.{front_same}
use Rattle.machine_save.proofs.saving.save.Goals as goal

pub returns : goal.returns
unfolding saved
returns g c =
    let m = c.args.m.now in
    let z = g.Z.Silicon.seen c.args.z.now in
    let many = c.from-many.ensures ∙ c.cpus.ensures.own in
    save_written (saved m c.args.counts z) c.args.room.bytes.items c.put_front.new.self.bytes.items
    c.put_keys.new.room.bytes.items c.put_storage.new.room.bytes.items c.requires.empty
    (front_same c.args.room.bytes.items c.put_front.new.self.bytes.items c.head_of-head.result
    (head_of m.config) c.numbers_of.result (numbers_of m c.args.counts)
    (take c.from-many.result c.cpus_of-cpus.result) (cpus_of m.cpus.items m.side.bus m.config.cpus)
    c.cores_of.result (cores_of m.config m.cpus.items m.pool z) c.put_front.ensures.items
    (c.head_of-head.ensures ∙ ap (λ (q : Config). head_of q) c.config.ensures) c.numbers_of.ensures
    (ap (λ (k : ℕ). take k c.cpus_of-cpus.result) many ∙ c.cpus_of-cpus.ensures) c.cores_of.ensures)
    c.put_keys.ensures.items c.put_storage.ensures.items
