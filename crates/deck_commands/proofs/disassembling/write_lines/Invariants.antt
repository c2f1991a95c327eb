use Rattle.std.proofs.Common.{◌-◌}
use Rattle.asm_text.specs.Lines.{listing}
use Rattle.g5_writing.proofs.Adding.{SinkSoFar}
use Rattle.deck_commands.proofs.disassembling.write_lines.Given as goal

abbrev pub invariant-lines : goal.invariant-lines
invariant-lines g l =
    SinkSoFar (listing l.storage l.count l.from) (listing l.storage (l.count - l.made) l.at)
    (g.O.Sink.seen l.initial.out) (g.O.Sink.seen l.out)
