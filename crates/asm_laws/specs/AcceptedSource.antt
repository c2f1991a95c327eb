-- Sources that have a program, and what is asked of one that is loaded.
-- Source: choice of this project.
use Rattle.std.specs.Prelude.{◌≡◌, ℕ, Bool, true, List, Option, None}
use Rattle.std.specs.List.{list_all, list_any}
use Rattle.asm_model.specs.declared.program.Defined.{Defined}
use Rattle.asm_model.specs.Line.{sources}
use Rattle.asm_model.specs.Refused.{refusal_of}
use Rattle.asm_model.specs.Program.{Assembly, assembly}
use Rattle.asm_deck.specs.LoadedSections.{is_named, is_full}
use Rattle.asm_deck.specs.Accepted.{EntryFits}

-- the sections, constants and entry of a source
unfoldable pub program : List ℕ → Assembly
program text = assembly (sources text)

-- each external name is that of a section, some section is not empty, and the entry, if there is one,
-- lies before the end of its section
pub record CanBeLoaded (a : Assembly) : Type 0 where
  pub named : list_all (λ m. is_named m a.sections) a.externals ≡ true
  pub some : list_any is_full a.sections ≡ true
  pub entry : EntryFits a.sections a.entry
