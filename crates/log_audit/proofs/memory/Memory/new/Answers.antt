use Rattle.std.proofs.Common.{◌∙◌, refl}
use Rattle.log_audit.proofs.Keeping.{first_remembers, recent_first}
use Rattle.log_audit.proofs.memory.Memory.new.Goals as goal

pub returns : goal.returns
returns c =
    first_remembers _
    (cc (
      c.unknown.ensures,
      c.unknown-2.ensures,
      c.unknown-3.ensures,
      c.unknown-4.ensures,
      c.unknown-5.ensures,
      c.unknown-6.ensures,
      c.unknown-7.ensures,
      c.unknown-8.ensures,
    ))
    (c.no_turn.ensures ∙ recent_first) refl refl refl
