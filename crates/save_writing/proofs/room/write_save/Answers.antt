use Rattle.save_writing.specs.Written.{save_of}
use Rattle.save_writing.proofs.Writes.{save_written}
use Rattle.save_writing.proofs.room.write_save.Goals as goal

pub returns : goal.returns
returns c = save_written (save_of c.args.head.now c.args.numbers.now c.args.cpus.now c.args.cores.now c.args.keys.now c.args.storage.now) c.args.room.bytes.items c.put_front.new.self.bytes.items c.put_bytes.new.room.items c.put_all.new.room.items
    c.requires.empty c.put_front.ensures.items c.put_bytes.ensures.items c.put_all.ensures.items
