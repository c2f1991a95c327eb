use Rattle.std.proofs.Common.{◌≡◌, sym, ◌∙◌}
use Rattle.asm_words.specs.declared.cuts.Rest.TheVariants.{Nothing, More}
use Rattle.asm_words.proofs.Parting.{two_parts, several_parts}
use Rattle.asm_words.proofs.cuts.parts_after.Goals as goal

pub returns-in-Nothing : goal.returns-in-Nothing
returns-in-Nothing c =
    two_parts c.args.mark c.args.first.now c.cut_at.result.0.now c.args.rest.now c.cut_at.result.1
    c.cut_at.ensures.parts c.in-Nothing.is

pub returns-in-More : goal.returns-in-More
returns-in-More c =
    several_parts c.args.mark c.args.first.now c.cut_at.result.0.now c.args.rest.now
    c.cut_at.result.1 c.cut_at.ensures.parts c.cut_at.ensures.more
    (λ (n : c.cut_at.result.1 ≡ Nothing). cc)
