use Rattle.save_writing.proofs.Writes.{front_written}
use Rattle.save_writing.proofs.room.SaveRoom.put_front.Goals as goal

pub returns-clause-items : goal.returns-clause-items
returns-clause-items c = front_written c.args.head.now c.args.numbers.now c.args.cpus.now c.args.cores.now c.args.self.now.bytes.items c.put_all.new.room.items c.put_head.new.room.items c.put_numbers.new.room.items c.put_cpus.new.room.items c.put_cores.new.room.items
    c.put_all.ensures.items c.put_head.ensures.items c.put_numbers.ensures.items c.put_cpus.ensures.items c.put_cores.ensures.items
