-- A state without its names.
use Rattle.std.specs.Prelude.{ℕ, ◌≤◌, List, [], ◌∷◌, ◌++◌, Bool, if◌then◌else◌, Option, Some, None}
use Rattle.asm_model.specs.declared.operands.Reference.{Reference}
use Rattle.asm_model.specs.declared.program.Base.{Base}
use Rattle.asm_model.specs.declared.program.Defined.{Defined}
use Rattle.asm_model.specs.declared.statements.Line.{Line}
use Rattle.asm_model.specs.declared.statements.Line.TheVariants.{Said}
use Rattle.asm_model.specs.declared.statements.Statement.{Statement}
use Rattle.asm_model.specs.Places.{State, start}
use Rattle.asm_places.specs.declared.spots.Spot.{Spot}

abbrev pub spot_of : State → Spot
spot_of s = record {
  ended = s.ended;
  section = s.section;
  offset = s.offset;
  total = s.total;
  base = s.base;
}

-- the state there, before which no line has a name
abbrev pub at : Spot → State
at p = record {
  ended = p.ended;
  section = p.section;
  offset = p.offset;
  total = p.total;
  base = p.base;
  names = [];
  externals = [];
}

-- what no section passes
pub record IsLow (p : Spot) : Type 0 where
  pub section : p.section ≤ 65535
  pub offset : p.offset ≤ 1048576
  pub total : p.total ≤ 16777216

-- ---- the rest of a state

-- names with that of a statement that stands there
abbrev pub with_named : List Defined → Option ℕ → Spot → List Defined
with_named names None p = names
with_named names (Some m) p =
    names ++ record { name = m; section = p.section; offset = p.offset } ∷ []

-- a state with external names alone
abbrev pub of_externals : List ℕ → State
of_externals ms = record start { externals = ms }

abbrev pub said : Statement → Line
said t = Said t

-- a state in which END came or not, in which a section has begun or not, and one with a base
abbrev pub of_end : Bool → State
of_end b = record start { ended = b }

abbrev pub of_section : Bool → State
of_section b = record start { section = if b then 1 else 0 }

abbrev pub of_base : Option Base → State
of_base b = record start { base = b }

abbrev pub referred : Reference → Option Reference
referred r = Some r
