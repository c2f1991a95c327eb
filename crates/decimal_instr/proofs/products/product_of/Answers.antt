use Rattle.std.proofs.Common.{◌≡◌, ◌*◌, arith, ap, ◌∙◌}
use Rattle.esa_model.specs.Packed.{magnitude_of}
use Rattle.decimal_instr.proofs.Room.{product_small}
use Rattle.decimal_instr.proofs.products.product_of.Goals as goal

pub multiply-requires : goal.multiply-requires
multiply-requires c =
    let f = c.args.first.now in
    let s = c.args.second.now in
    let r = c.requires in
    let lt =
    product_small f s r.first_few r.second_some r.lengths r.room r.first_packed r.second_packed in
    let a = c.args.a.now in
    let b = c.args.b.now in
    let e : a.magnitude * b.magnitude ≡ magnitude_of f * magnitude_of s =
    ap (λ x. x * b.magnitude) r.first_is ∙ ap (λ x. magnitude_of f * x) r.second_is in
    omega arith
