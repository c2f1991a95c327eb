-- Each clause is a law of the pieces of an operand.
use Rattle.std.proofs.Common.{◌∙◌, sym, length}
use Rattle.abs_storage.proofs.Pages.{covered_by, inside_by, outside_by}
use Rattle.abs_storage.proofs.storage.AbsStorage.pieces.Goals as goal

pub returns-then-begins_outside-clause-outside : goal.returns-then-begins_outside-clause-outside
returns-then-begins_outside-clause-outside c = λ _.
    outside_by c.size.result (length c.args.self.now) c.args.prefix c.args.wide c.args.real c.args.len c.cut-pieces.result
    c.cut-pieces.ensures c.size.ensures.size c.requires.some (sym c.begins_outside.ensures ∙ c.if-begins_outside.true)

pub returns-else-begins_outside-clause-bytes : goal.returns-else-begins_outside-clause-bytes
returns-else-begins_outside-clause-bytes c =
    covered_by c.args.prefix c.args.wide c.args.real c.args.len c.cut-pieces.result c.cut-pieces.ensures c.requires.most

pub returns-else-begins_outside-clause-inside : goal.returns-else-begins_outside-clause-inside
returns-else-begins_outside-clause-inside c =
    inside_by c.size.result (length c.args.self.now) c.args.prefix c.args.wide c.args.real c.args.len c.cut-pieces.result
    c.cut-pieces.ensures c.size.ensures.size c.size.ensures.pages c.requires.most (sym c.begins_outside.ensures ∙ c.if-begins_outside.false)
