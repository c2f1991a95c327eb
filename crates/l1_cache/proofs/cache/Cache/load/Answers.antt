use Rattle.std.proofs.Common.{◌≡◌, ◌%◌, ℕ, List, refl, take, drop, ◌++◌, length, sym, subst, arith}
use Rattle.std.specs.Prelude.{Some}
use Rattle.std.proofs.lemmas.Grind.{common_steps}
use Rattle.l1_cache.specs.Lines.{Lines, Coherent, with_line}
use Rattle.l1_cache.proofs.Places.{set_again}
use Rattle.l1_cache.proofs.Cohering.{filled_coherent, line_present}
use Rattle.l1_cache.proofs.cache.Cache.load.Goals as goal

pub returns-then-has_line-clause-numbers : goal.returns-then-has_line-clause-numbers
returns-then-has_line-clause-numbers c =
    subst (λ (x : Lines). x.numbers ≡ with_line x.numbers c.args.line) c.self.view_is
    (sym (set_again c.self.inside.numbers (c.args.line % 64) (Some c.args.line) (c.if-has_line.ensures.0 refl)))

pub returns-clause-present : goal.returns-clause-present
returns-clause-present c = line_present c.self.inside.numbers c.args.line c.self.invariant.0

-- the bytes are lent to the copying as a slice, and stand in the field again after it
pub returns-clause-coherent : goal.returns-clause-coherent
returns-clause-coherent c = λ was.
    let s = c.args.storage.now in
    let here : Coherent (record { numbers = c.self.inside.numbers; bytes = c.self.inside.bytes.items; fills = c.self.inside.fills }) s =
    subst (λ (x : Lines). Coherent x s) (sym c.self.view_is) was in
    let lent : Coherent (record { numbers = c.self.inside.numbers; bytes = c.deref_mut.result.now; fills = c.self.inside.fills }) s =
    subst (λ (bs : List ℕ). Coherent (record { numbers = c.self.inside.numbers; bytes = bs; fills = c.self.inside.fills }) s) (sym c.deref_mut.ensures.value) here in
    let again : take c.self.inside.bytes.len (c.fill.new.bytes ++ drop (length c.fill.new.bytes) c.self.inside.bytes.items) ≡ c.fill.new.bytes =
    grind (arith, common_steps) in
    subst (λ (bs : List ℕ). Coherent (record { numbers = with_line c.self.inside.numbers c.args.line; bytes = bs; fills = c.saturating_add-self-inside.result }) s) (sym again)
    (filled_coherent c.self.inside.numbers c.deref_mut.result.now c.fill.new.bytes s c.args.line c.self.inside.fills c.saturating_add-self-inside.result
    lent c.self.invariant.0 c.fill.ensures)
