use Rattle.std.proofs.Common.{◌∙◌, ap, arith, ℕ}
use Rattle.std.specs.Prelude.{Option}
use Rattle.std.specs.Option.{unwrap_or}
use Rattle.result_packet.proofs.Noted.{noted, noted_outside}
use Rattle.result_packet.proofs.notes.note_byte.Goals as goal

pub returns-then-a-size-clause-log : goal.returns-then-a-size-clause-log
returns-then-a-size-clause-log g c = λ s h. noted_outside (g.V.View.bytes c.args.view.now) s c.args.log.now c.args.a c.args.x (omega arith) h

pub returns-clause-log : goal.returns-clause-log
returns-clause-log g c = λ s h.
    rw c.store.ensures.log
    (noted (g.V.View.bytes c.args.view.now) s c.args.log.now c.args.a c.unwrap_or.result c.args.x (omega arith)
    (c.unwrap_or.ensures ∙ ap (λ (o : Option ℕ). unwrap_or o 0) c.byte.ensures.byte) h)
