-- The source of a session's lines, which no other command reads.
use Rattle.std.proofs.Common.{◌≡◌, refl, sym, subst, Option, Some, None}
use Rattle.g5_outside.specs.Views.{SourceView}
use Rattle.program_model.specs.Commands.{Command, SessionNames, assemble, audit, debug, disassemble, generate, link, migrate, resume, run, save}
use Rattle.run_model.specs.declared.logs.Config.{Config}
use Rattle.g5_run.specs.Leaving.{KeepsKeys}

pub same_keys : (ask : Option Command) (k : SourceView) → KeepsKeys ask k k
same_keys None k = refl
same_keys (Some (run names c)) k = refl
same_keys (Some (debug names c)) k = tt
same_keys (Some (generate number turns)) k = refl
same_keys (Some (migrate old new)) k = refl
same_keys (Some (assemble source deck)) k = refl
same_keys (Some (disassemble deck at count)) k = refl
same_keys (Some (link out decks)) k = refl
same_keys (Some (save turns names file c)) k = refl
same_keys (Some (resume names)) k = refl
same_keys (Some (audit log)) k = refl

pub session_keys : (ask : Option Command) (names : SessionNames) (c : Config) (k l : SourceView)
    → ask ≡ Some (debug names c) → KeepsKeys ask k l
session_keys ask names c k l is = subst (λ q. KeepsKeys q k l) (sym is) tt
