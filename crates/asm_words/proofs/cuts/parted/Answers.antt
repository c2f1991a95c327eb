use Rattle.std.proofs.Common.{◌≡◌, ◌∷◌, ℕ, List, ap, sym, subst, ◌∙◌}
use Rattle.asm_words.specs.Cuts.{rest_split, AreParts}
use Rattle.asm_words.proofs.cuts.parted.Goals as goal

pub returns-in-Nothing : goal.returns-in-Nothing
returns-in-Nothing c =
    c.cut_at.ensures.parts
    ∙ ap (λ r. c.cut_at.result.0.now ∷ rest_split c.args.mark r) c.in-Nothing.is

pub returns-in-More : goal.returns-in-More
returns-in-More c =
    let P : List (List ℕ) → Type 0 = λ ps. AreParts ps c.parts_after.result in
    subst P
    (sym (c.cut_at.ensures.parts
    ∙ ap (λ r. c.cut_at.result.0.now ∷ rest_split c.args.mark r) c.in-More.is))
    c.parts_after.ensures
