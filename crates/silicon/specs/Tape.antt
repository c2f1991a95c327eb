-- What a silicon tells of the latches and packets that were handed in: the first ones, as many as
-- it has room for. Source: choice of this project.
use Rattle.std.specs.Prelude.{ℕ, List, [], ◌∷◌, ◌++◌, length, nat_lt, if◌then◌else◌}
use Rattle.silicon.specs.declared.handed.Handed.{Handed}

pub record Tape : Type 0 where
  pub room : ℕ
  pub items : List Handed

-- one item more, until the list is full
unfoldable pub tell : Tape → Handed → Tape
tell t h = record t {
  items = if nat_lt (length t.items) t.room then t.items ++ h ∷ [] else t.items;
}

-- several, in their order
abbrev pub tells : Tape → List Handed → Tape
tells t [] = t
tells t (h ∷ hs) = tells (tell t h) hs

-- with this room, nothing was handed in
abbrev pub empty : ℕ → Tape
empty room = record { room = room; items = [] }
