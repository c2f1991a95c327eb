use Rattle.std.proofs.Common.{map}
use Rattle.source_commands.proofs.Reaching.{ReadSoFar}
use Rattle.source_commands.proofs.parts.read_parts.Given as goal

abbrev pub invariant-parts : goal.invariant-parts
invariant-parts g l =
    ReadSoFar (map (λ n. n.now) l.names) l.part (g.F.Shelf.seen l.initial.shelf)
    (g.F.Shelf.seen l.shelf) l.bytes.items
