use Rattle.std.proofs.Common.{length, refl, sym, ◌∙◌}
use Rattle.deck_link.proofs.Marks.{going_start, going_hit, going_next}
use Rattle.deck_link.proofs.clashes.clash_on.Goals as goal

pub loop-first-init : goal.loop-first-init
loop-first-init c = going_start (length c.args.marks.now) c.args.marks.now c.args.constants.now c.requires.none refl c.requires.inside

pub returns-then-is_hit : goal.returns-then-is_hit
returns-then-is_hit c =
    let l = c.loop-first in
    going_hit (length c.args.marks.now) l.marks l.rest.now c.in-Some.after.now c.args.constants.now c.in-Some.first.now l.invariant c.in-Some.ensures.cases.0 (sym c.is_hit.ensures ∙ c.if-is_hit.true)

pub loop-first-preserved : goal.loop-first-preserved
loop-first-preserved c =
    let l = c.loop-first in
    going_next (length c.args.marks.now) l.marks c.mark_constant.new.marks l.rest.now c.in-Some.after.now c.args.constants.now c.in-Some.first.now l.invariant c.in-Some.ensures.cases.0 (sym c.is_hit.ensures ∙ c.if-is_hit.false) c.mark_constant.ensures.value c.mark_constant.ensures.long
