use Rattle.std.proofs.Common.{rules, ◌≡◌, ℕ, ◌++◌, [], ◌∷◌, length, Some, None, List, cond, eqb, sym, ◌∙◌, ap, subst}
use Rattle.std.specs.BTreeMap.{get}
use Rattle.std.specs.Ordering.{nat_cmp}
use Rattle.asm_places.specs.Named.{AreNumbered, or_then}
use Rattle.asm_places.proofs.Finding.{numbered_more}
use Rattle.asm_places.proofs.externals.Externals.with_new.Goals as goal

pub invariant_of-self : goal.invariant_of-self
invariant_of-self c =
    let ms = c.self.inside.list.items in
    let m = c.args.name in
    let old = get nat_cmp c.self.inside.places in
    let new = get nat_cmp c.add_place.new.places in
    let more : c.push.new.self.items ≡ ms ++ m ∷ [] = search rules in
    let n : c.len.result ≡ length ms = search rules in
    subst (λ (xs : List ℕ). AreNumbered xs new) (sym more)
    (numbered_more ms m old new c.self.invariant (λ q. c.in_ok-add_place.ensures q ∙ ap (λ (k : ℕ). or_then (old q) (cond (eqb m q) (Some k) None)) n))
