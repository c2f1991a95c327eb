-- The bytes of a section.
use Rattle.std.specs.Prelude.{ℕ, List}

pub record SectionBytes : Type 0 where
  pub name : ℕ
  pub bytes : List ℕ
