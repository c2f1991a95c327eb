-- A state that is seen as a place, names and external names.
use Rattle.std.proofs.Common.{◌≡◌, ℕ, false, List, ◌∙◌, ap}
use Rattle.asm_model.specs.declared.statements.Statement.{Statement}
use Rattle.asm_model.specs.declared.program.Defined.{Defined}
use Rattle.asm_model.specs.Places.{State, size, done, standing_at, past, after}
use Rattle.asm_model.specs.Refused.{is_too_big}
use Rattle.asm_places.specs.declared.spots.Spot.{Spot}
use Rattle.asm_places.specs.Spots.{spot_of, at, IsLow, with_named, of_externals, said}
use Rattle.asm_places.proofs.Walks.{whole_after, low_of}

abbrev state_of : Spot → List Defined → List ℕ → State
state_of p names ms = record {
  ended = p.ended;
  section = p.section;
  offset = p.offset;
  total = p.total;
  base = p.base;
  names = names;
  externals = ms;
}

pub low_view : (s : State) (p : Spot) (names : List Defined) (ms : List ℕ) → state_of p names ms ≡ s → is_too_big s ≡ false → IsLow p
low_view s p names ms v h = low_of (state_of p names ms) (ap is_too_big v ∙ h)

pub after_view : (s : State) (t : Statement) (p there next : Spot) (old names : List Defined) (ns ms : List ℕ)
    → state_of p old ns ≡ s
    → there ≡ spot_of (standing_at (at p) t.operation)
    → next ≡ spot_of (past (size t.operation) (at there))
    → names ≡ with_named old t.name there
    → ms ≡ (done (of_externals ns) t.operation).externals
    → state_of next names ms ≡ after s (said t)
after_view s t p there next old names ns ms v e f g h = whole_after (state_of p old ns) t there next names ms e f g h ∙ ap (λ (k : State). after k (said t)) v
