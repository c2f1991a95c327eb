-- Lists of names, and functions that find a name in them.
use Rattle.std.specs.Prelude.{◌≡◌, ℕ, ◌<◌, if◌then◌else◌, List, [], ◌∷◌, Option, Some, None}
use Rattle.std.specs.List.{find}
use Rattle.asm_model.specs.declared.program.Defined.{Defined}
use Rattle.asm_model.specs.Places.{is_in}
use Rattle.asm_model.specs.Refused.{has_name}
use Rattle.asm_model.specs.Program.{place_in}

abbrev pub or_else : Option Defined → Option Defined → Option Defined
or_else (Some d) o = Some d
or_else None o = o

abbrev pub AllLow : List Defined → Type 0
AllLow [] = Unit {0}
AllLow (d ∷ ds) = (d.offset < 4294967296) × AllLow ds

-- each name is found where it stands first, and the offsets are below 2^32
pub record AreNamed (list : List Defined) (first : ℕ → Option Defined) : Type 0 where
  pub found : (q : ℕ) → first q ≡ find (has_name q) list
  pub low : AllLow list

abbrev pub number_in : ℕ → List ℕ → Option ℕ
number_in q list = if is_in q list then Some (place_in q list) else None

-- each name is found with its place
pub record AreNumbered (list : List ℕ) (place : ℕ → Option ℕ) : Type 0 where
  pub found : (q : ℕ) → place q ≡ number_in q list

abbrev pub or_then : Option ℕ → Option ℕ → Option ℕ
or_then (Some n) o = Some n
or_then None o = o
