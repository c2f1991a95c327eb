use Rattle.std.proofs.Common.{◌∙◌}
use Rattle.save_writing.specs.Written.{save_of}
use Rattle.machine_save.proofs.StoodUp.{callers_save, counted_save, fits_save, head_is_good, of_save, placed_save, sized_save, stood_saved, there_save, typed_save}
use Rattle.machine_save.proofs.standing.stand_up.Goals as goal

pub config_of-requires : goal.config_of-requires
config_of-requires c = (head_is_good c.args.s.now.head c.requires.save.head).pages

pub resumed-requires-clause-fits : goal.resumed-requires-clause-fits
resumed-requires-clause-fits c = fits_save (save_of c.args.s.now.head c.args.s.now.numbers c.args.s.now.cpus.items c.args.s.now.cores c.args.s.now.keys.now c.args.s.now.storage.now) c.config_of.result c.args.cpus.items c.requires.save c.config_of.ensures c.requires.cpus

pub resumed-requires-clause-there : goal.resumed-requires-clause-there
resumed-requires-clause-there c = there_save (save_of c.args.s.now.head c.args.s.now.numbers c.args.s.now.cpus.items c.args.s.now.cores c.args.s.now.keys.now c.args.s.now.storage.now) c.args.cpus.items c.requires.save c.requires.cpus

pub resumed-requires-clause-placed : goal.resumed-requires-clause-placed
resumed-requires-clause-placed c = placed_save (save_of c.args.s.now.head c.args.s.now.numbers c.args.s.now.cpus.items c.args.s.now.cores c.args.s.now.keys.now c.args.s.now.storage.now) c.config_of.result c.args.cpus.items c.args.pool c.requires.save c.config_of.ensures c.requires.cpus c.requires.pool

pub resumed-requires-clause-counted : goal.resumed-requires-clause-counted
resumed-requires-clause-counted c = counted_save (save_of c.args.s.now.head c.args.s.now.numbers c.args.s.now.cpus.items c.args.s.now.cores c.args.s.now.keys.now c.args.s.now.storage.now) c.tally_of.result.turns c.tally_of.result.commits c.tally_of.result.read c.tally_of.result.written c.requires.save c.tally_of.ensures.turns c.tally_of.ensures.commits c.tally_of.ensures.read c.tally_of.ensures.written

pub returns-clause-again : goal.returns-clause-again
returns-clause-again c = λ z z2 stored. stood_saved (save_of c.args.s.now.head c.args.s.now.numbers c.args.s.now.cpus.items c.args.s.now.cores c.args.s.now.keys.now c.args.s.now.storage.now) c.resumed.result z z2 c.requires.save
    (of_save (save_of c.args.s.now.head c.args.s.now.numbers c.args.s.now.cpus.items c.args.s.now.cores c.args.s.now.keys.now c.args.s.now.storage.now) c.resumed.result c.config_of.result c.args.cpus.items c.args.pool c.args.memory c.args.side
    c.resumed.ensures.config c.resumed.ensures.cpus c.resumed.ensures.pool c.resumed.ensures.memory
    c.resumed.ensures.side (c.resumed.ensures.turns ∙ c.tally_of.ensures.turns)
    (c.resumed.ensures.commits ∙ c.tally_of.ensures.commits)
    (c.resumed.ensures.read ∙ c.tally_of.ensures.read)
    (c.resumed.ensures.written ∙ c.tally_of.ensures.written) c.config_of.ensures c.requires.cpus
    c.requires.bus c.requires.pool c.requires.memory c.requires.keys c.requires.clock) stored

pub returns-clause-typed : goal.returns-clause-typed
returns-clause-typed c = typed_save (save_of c.args.s.now.head c.args.s.now.numbers c.args.s.now.cpus.items c.args.s.now.cores c.args.s.now.keys.now c.args.s.now.storage.now) c.resumed.result
    (of_save (save_of c.args.s.now.head c.args.s.now.numbers c.args.s.now.cpus.items c.args.s.now.cores c.args.s.now.keys.now c.args.s.now.storage.now) c.resumed.result c.config_of.result c.args.cpus.items c.args.pool c.args.memory c.args.side
    c.resumed.ensures.config c.resumed.ensures.cpus c.resumed.ensures.pool c.resumed.ensures.memory
    c.resumed.ensures.side (c.resumed.ensures.turns ∙ c.tally_of.ensures.turns)
    (c.resumed.ensures.commits ∙ c.tally_of.ensures.commits)
    (c.resumed.ensures.read ∙ c.tally_of.ensures.read)
    (c.resumed.ensures.written ∙ c.tally_of.ensures.written) c.config_of.ensures c.requires.cpus
    c.requires.bus c.requires.pool c.requires.memory c.requires.keys c.requires.clock)

pub returns-clause-callers : goal.returns-clause-callers
returns-clause-callers c = callers_save (save_of c.args.s.now.head c.args.s.now.numbers c.args.s.now.cpus.items c.args.s.now.cores c.args.s.now.keys.now c.args.s.now.storage.now) c.resumed.result
    (of_save (save_of c.args.s.now.head c.args.s.now.numbers c.args.s.now.cpus.items c.args.s.now.cores c.args.s.now.keys.now c.args.s.now.storage.now) c.resumed.result c.config_of.result c.args.cpus.items c.args.pool c.args.memory c.args.side
    c.resumed.ensures.config c.resumed.ensures.cpus c.resumed.ensures.pool c.resumed.ensures.memory
    c.resumed.ensures.side (c.resumed.ensures.turns ∙ c.tally_of.ensures.turns)
    (c.resumed.ensures.commits ∙ c.tally_of.ensures.commits)
    (c.resumed.ensures.read ∙ c.tally_of.ensures.read)
    (c.resumed.ensures.written ∙ c.tally_of.ensures.written) c.config_of.ensures c.requires.cpus
    c.requires.bus c.requires.pool c.requires.memory c.requires.keys c.requires.clock)

pub returns-clause-sized : goal.returns-clause-sized
returns-clause-sized c = sized_save (save_of c.args.s.now.head c.args.s.now.numbers c.args.s.now.cpus.items c.args.s.now.cores c.args.s.now.keys.now c.args.s.now.storage.now) c.resumed.result c.requires.save
    (of_save (save_of c.args.s.now.head c.args.s.now.numbers c.args.s.now.cpus.items c.args.s.now.cores c.args.s.now.keys.now c.args.s.now.storage.now) c.resumed.result c.config_of.result c.args.cpus.items c.args.pool c.args.memory c.args.side
    c.resumed.ensures.config c.resumed.ensures.cpus c.resumed.ensures.pool c.resumed.ensures.memory
    c.resumed.ensures.side (c.resumed.ensures.turns ∙ c.tally_of.ensures.turns)
    (c.resumed.ensures.commits ∙ c.tally_of.ensures.commits)
    (c.resumed.ensures.read ∙ c.tally_of.ensures.read)
    (c.resumed.ensures.written ∙ c.tally_of.ensures.written) c.config_of.ensures c.requires.cpus
    c.requires.bus c.requires.pool c.requires.memory c.requires.keys c.requires.clock)
