use Rattle.std.proofs.Common.{◌∙◌, sym, ap, true, false, [], Err, eq-eqb}
use Rattle.std.proofs.lemmas.Bool.{ne_eqb}
use Rattle.std.proofs.lemmas.Result.{err_from_is_err_and}
use Rattle.run_model.specs.LogLines.{heading}
use Rattle.run_model.specs.LogReading.{ending}
use Rattle.log_audit.specs.Form.{entries_in, fed_lines}
use Rattle.log_audit.specs.Next.{as_ending}
use Rattle.log_audit.specs.Points.{first_refusal, unless}
use Rattle.log_audit.specs.Tallies.{tally_of}
use Rattle.log_audit.proofs.Verdicts.{refused_body, tail_body}
use Rattle.log_audit.proofs.auditing.audit_body.Goals as goal

pub returns-in_err-tally : goal.returns-in_err-tally
returns-in_err-tally c =
    let h = heading c.args.h.cpus c.args.h.spares c.args.h.threshold in
    let ls = fed_lines c.args.body.now in
    let t = c.in_ok-ending.ending in
    let residual = c.from_residual-in_err-tally in
    let p = err_from_is_err_and residual.result residual.ensures.1 in
    p.1
    ∙ ap (λ z. Err z) p.2
    ∙ refused_body h ls (ending t.turns t.returned) c.in_err-tally.field-0.0
    (sym (ap as_ending c.in_ok-ending.was) ∙ c.read_ending.ensures)
    (sym c.in_err-tally.was ∙ c.judge.ensures
    ∙ ap (λ k. unless (first_refusal k t.turns 2 [] (entries_in ls)) (tally_of (entries_in ls)))
    c.config_of.ensures)

pub returns-then-tally-ending : goal.returns-then-tally-ending
returns-then-tally-ending c =
    let h = heading c.args.h.cpus c.args.h.spares c.args.h.threshold in
    let ls = fed_lines c.args.body.now in
    let t = c.in_ok-ending.ending in
    sym
    (tail_body h ls (ending t.turns t.returned) c.in_ok-tally.tally false
    (sym (ap as_ending c.in_ok-ending.was) ∙ c.read_ending.ensures)
    (sym c.in_ok-tally.was ∙ c.judge.ensures
    ∙ ap (λ k. unless (first_refusal k t.turns 2 [] (entries_in ls)) (tally_of (entries_in ls)))
    c.config_of.ensures)
    (ne_eqb c.in_ok-tally.tally.returned t.returned c.if-tally-ending.true))

pub returns : goal.returns
returns c =
    let h = heading c.args.h.cpus c.args.h.spares c.args.h.threshold in
    let ls = fed_lines c.args.body.now in
    let t = c.in_ok-ending.ending in
    sym
    (tail_body h ls (ending t.turns t.returned) c.in_ok-tally.tally true
    (sym (ap as_ending c.in_ok-ending.was) ∙ c.read_ending.ensures)
    (sym c.in_ok-tally.was ∙ c.judge.ensures
    ∙ ap (λ k. unless (first_refusal k t.turns 2 [] (entries_in ls)) (tally_of (entries_in ls)))
    c.config_of.ensures)
    (eq-eqb c.in_ok-tally.tally.returned t.returned c.if-tally-ending.false))
