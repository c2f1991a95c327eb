use Rattle.std.proofs.Common.{List, sym, ◌∙◌, subst}
use Rattle.std.specs.BTreeMap.{get}
use Rattle.std.specs.Ordering.{nat_cmp}
use Rattle.asm_model.specs.declared.program.Defined.{Defined}
use Rattle.asm_places.specs.Named.{AreNamed}
use Rattle.asm_places.proofs.Finding.{find_low, place_found, place_none}
use Rattle.asm_places.proofs.naming.Names.place_of.Goals as goal

pub returns-in-Some-clause-place : goal.returns-in-Some-clause-place
returns-in-Some-clause-place c =
    let i = subst (λ (ds : List Defined). AreNamed ds (get nat_cmp c.self.inside.first)) c.self.view_is c.self.invariant in
    place_found c.args.name c.args.self.now c.in-Some.d.now (sym (i.found c.args.name) ∙ sym c.in-Some.ensures.value)

pub returns-in-Some-clause-low : goal.returns-in-Some-clause-low
returns-in-Some-clause-low c =
    let i = c.self.invariant in
    find_low c.args.name c.self.inside.list.items c.in-Some.d.now i.low (sym (i.found c.args.name) ∙ sym c.in-Some.ensures.value)

pub returns-in-None-clause-place : goal.returns-in-None-clause-place
returns-in-None-clause-place c =
    let i = subst (λ (ds : List Defined). AreNamed ds (get nat_cmp c.self.inside.first)) c.self.view_is c.self.invariant in
    c.nowhere.ensures ∙ place_none c.args.name c.args.self.now (sym (i.found c.args.name) ∙ sym c.in-None.ensures.value)
