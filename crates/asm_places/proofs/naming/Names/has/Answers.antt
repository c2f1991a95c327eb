use Rattle.std.proofs.Common.{List, sym, ◌∙◌, ap, subst, is_some}
use Rattle.std.specs.BTreeMap.{get}
use Rattle.std.specs.Ordering.{nat_cmp}
use Rattle.asm_model.specs.declared.program.Defined.{Defined}
use Rattle.asm_places.specs.Named.{AreNamed}
use Rattle.asm_places.proofs.Finding.{any_found}
use Rattle.asm_places.proofs.naming.Names.has.Goals as goal

pub returns : goal.returns
returns c =
    let i = subst (λ (ds : List Defined). AreNamed ds (get nat_cmp c.self.inside.first)) c.self.view_is c.self.invariant in
    c.contains_key.ensures ∙ (ap is_some (i.found c.args.name) ∙ sym (any_found c.args.name c.args.self.now))
