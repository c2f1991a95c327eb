-- What the program says: a text whole, or a front of it where a call failed or took nothing.
-- Source: choice of this project.
use Rattle.std.specs.Prelude.{◌≡◌, ◌⊎◌, ℕ, List, ◌++◌, take, IsTrue}
use Rattle.g5_outside.specs.Views.{SinkView}
use Rattle.g5_outside.specs.Causes.{Rose}

pub record Says (text : List ℕ) (old new : SinkView) : Type 0 where
  pub count : ℕ
  pub front : IsTrue old.told → new.taken ≡ old.taken ++ take count text
  pub whole : (take count text ≡ text) ⊎ Rose old.faults new.faults
