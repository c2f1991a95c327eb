use Rattle.std.proofs.Common.{ℕ, List, sym, ap, ◌∙◌}
use Rattle.std.specs.Prelude.{slice_get}
use Rattle.std.specs.Option.{unwrap_or}
use Rattle.esa_model.specs.Access.{byte, written}
use Rattle.operand_access.proofs.Over.{inside_over}
use Rattle.operand_access.proofs.bytes.byte_after.Goals as goal

pub returns-in-Some-clause-byte : goal.returns-in-Some-clause-byte
unfolding byte
returns-in-Some-clause-byte g c =
    let s : List ℕ = g.V.View.bytes c.args.view.now in
    let after : List ℕ = written c.args.r.now c.args.at c.args.bytes.now s in
    let here = sym c.byte.ensures.byte ∙ c.in-Some.is in
    sym (inside_over c.args.r.now c.args.at c.place_of-a.result c.in-Some.before c.overlaid.result c.args.bytes.now s here c.overlaid.ensures)
    ∙ ap (λ (a : ℕ). unwrap_or (slice_get after a) 0) c.place_of-a.ensures
