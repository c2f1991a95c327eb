use Rattle.std.proofs.Common.{◌∙◌, length, sym, subst, ap, ℕ, List}
use Rattle.esa_model.specs.Access.{bytes}
use Rattle.esa_model.specs.Edit.{SameUpTo}
use Rattle.byte_rows.proofs.Source.{fewer}
use Rattle.byte_rows.proofs.edits.edit_by.Goals as goal

pub returns-clause-answer : goal.returns-clause-answer
returns-clause-answer g c =
    let n = length c.args.pattern.now in
    let r = c.args.r.now in
    let s = g.V.View.bytes c.args.view.now in
    let at = c.args.at in
    let all = bytes r s at 256 in
    let read = c.gather.ensures.bytes ∙ ap (bytes r s at) c.requires.room in
    let near : SameUpTo n c.gather.new.into all =
    subst (λ (xs : List ℕ). SameUpTo n xs all) (sym read) (fewer r s at n c.requires.few) in
    sym (c.edited.ensures.alike all near).0

pub returns-clause-pattern : goal.returns-clause-pattern
returns-clause-pattern g c =
    let n = length c.args.pattern.now in
    let r = c.args.r.now in
    let s = g.V.View.bytes c.args.view.now in
    let at = c.args.at in
    let all = bytes r s at 256 in
    let read = c.gather.ensures.bytes ∙ ap (bytes r s at) c.requires.room in
    let near : SameUpTo n c.gather.new.into all =
    subst (λ (xs : List ℕ). SameUpTo n xs all) (sym read) (fewer r s at n c.requires.few) in
    sym (c.edited.ensures.alike all near).1
