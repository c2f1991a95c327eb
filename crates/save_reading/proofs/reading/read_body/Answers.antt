use Rattle.std.proofs.Common.{arith}
use Rattle.save_reading.proofs.Deciding.{body_read}
use Rattle.save_reading.proofs.reading.read_body.Goals as goal

pub returns-clause-read : goal.returns-clause-read
returns-clause-read c = body_read c.args.head c.numbers-numbers.result c.in_ok-cpus.cpus.items c.cores-cores.result c.split_at.result.0.now c.split_at.result.1.now c.args.bytes.now c.numbers-numbers.new.self.rest.now c.cpus.new.self.rest.now c.cores-cores.new.self.rest.now
    c.numbers-numbers.ensures.value c.numbers-numbers.ensures.rest c.in_ok-cpus.ensures.value c.in_ok-cpus.ensures.rest c.cores-cores.ensures.value c.cores-cores.ensures.rest c.split_at.ensures.front c.split_at.ensures.back
    (omega (arith, c.requires.long, c.numbers-numbers.ensures.left, c.in_ok-cpus.ensures.left, c.cores-cores.ensures.left))
