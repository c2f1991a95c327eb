use Rattle.std.proofs.Common.{take, subst}
use Rattle.std.proofs.lemmas.List.{take_rest}
use Rattle.g5_writing.specs.Outputs.{FileGrew}
use Rattle.g5_writing.proofs.Adding.{file_wrote, file_failed, file_next}
use Rattle.g5_writing.proofs.outputs.add_to_file.Goals as goal

pub returns-in-Err : goal.returns-in-Err
returns-in-Err g c =
    let w = c.write.ensures in
    let grew = file_wrote c.args.file.0 c.writes.rest.now (g.F.Shelf.seen c.writes.shelf) (g.F.Shelf.seen c.write.new.self) c.write.result w.content w.numbers w.found w.told w.reads w.cause.later in
    file_failed c.args.file.0 c.args.bytes.now c.writes.rest.now (g.F.Shelf.seen c.args.shelf.now) (g.F.Shelf.seen c.writes.shelf) (g.F.Shelf.seen c.write.new.self) w.content.count _ c.writes.invariant grew c.in-Err.ensures.cause.failed

pub writes-preserved : goal.writes-preserved
writes-preserved g c =
    let w = c.in-Ok.ensures in
    let grew = file_wrote c.args.file.0 c.writes.rest.now (g.F.Shelf.seen c.writes.shelf) (g.F.Shelf.seen c.write.new.self) _ w.content w.numbers w.found w.told w.reads w.cause.later in
    let exact = subst (λ k. FileGrew c.args.file.0 (take k c.writes.rest.now) (g.F.Shelf.seen c.writes.shelf) (g.F.Shelf.seen c.write.new.self)) (cc (w.content.answer)) grew in
    file_next c.args.file.0 c.args.bytes.now c.writes.rest.now _ (g.F.Shelf.seen c.args.shelf.now) (g.F.Shelf.seen c.writes.shelf) (g.F.Shelf.seen c.write.new.self) c.in-Ok.count c.writes.invariant exact (take_rest c.writes.rest.now c.in-Ok.count)
