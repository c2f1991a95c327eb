use Rattle.std.proofs.Common.{ap, ◌∙◌, []}
use Rattle.save_model.specs.Parts.{cpus_fields, cores_fields}
use Rattle.save_writing.specs.Written.{save_of}
use Rattle.save_reading.specs.Judging.{judge_all}
use Rattle.save_reading.proofs.Deciding.{judged_save}
use Rattle.save_reading.proofs.reading.first_outside.Goals as goal

pub returns : goal.returns
returns c = judged_save (save_of c.args.s.now.head c.args.s.now.numbers c.args.s.now.cpus.items c.args.s.now.cores c.args.s.now.keys.now c.args.s.now.storage.now) c.numbers.new.self c.cpus.new.self c.cores.new.self c.keys.new.self c.numbers.ensures.fields
    (c.cpus.ensures.fields ∙ ap (λ z. judge_all c.numbers.new.self (cpus_fields c.args.s.now.head [] z)) c.deref.ensures.value)
    (c.cores.ensures.fields ∙ ap (λ z. judge_all c.cpus.new.self (cores_fields c.args.s.now.head z 0 c.args.s.now.cores)) c.deref-2.ensures.value)
    c.keys.ensures.fields
