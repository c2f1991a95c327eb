use Rattle.std.proofs.Common.{rules, ◌≡◌, ◌++◌, [], ◌∷◌, List, sym, subst}
use Rattle.std.specs.BTreeMap.{get}
use Rattle.std.specs.Ordering.{nat_cmp}
use Rattle.asm_model.specs.declared.program.Defined.{Defined}
use Rattle.asm_places.specs.Named.{AreNamed}
use Rattle.asm_places.proofs.Finding.{named_more}
use Rattle.asm_places.proofs.naming.Names.with.Goals as goal

pub invariant_of-self : goal.invariant_of-self
invariant_of-self c =
    let ds = c.self.inside.list.items in
    let more : c.push.new.self.items ≡ ds ++ c.args.d ∷ [] = search rules in
    let new = get nat_cmp c.add_first.new.first in
    subst (λ (xs : List Defined). AreNamed xs new) (sym more) (named_more ds c.args.d (get nat_cmp c.self.inside.first) new c.self.invariant c.requires c.in_ok-add_first.ensures)
