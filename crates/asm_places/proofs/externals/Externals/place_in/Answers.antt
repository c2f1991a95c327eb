use Rattle.std.proofs.Common.{rules, ◌≡◌, length, sym, ◌∙◌, ap}
use Rattle.asm_model.specs.Program.{place_in}
use Rattle.asm_places.proofs.Finding.{place_missing}
use Rattle.asm_places.proofs.externals.Externals.place_in.Goals as goal

pub returns-in-None : goal.returns-in-None
returns-in-None c =
    let ms = c.self.inside.list.items in
    let e : c.len.result ≡ length ms = search rules in
    e ∙ (place_missing c.args.name ms (sym (c.self.invariant.found c.args.name) ∙ sym c.in-None.ensures.value) ∙ ap (place_in c.args.name) c.self.view_is)
