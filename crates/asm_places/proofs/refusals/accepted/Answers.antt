use Rattle.std.proofs.Common.{rules, ◌≡◌, Some, None}
use Rattle.asm_places.specs.Found.{form_refusal, name_refusal}
use Rattle.asm_places.proofs.Chains.{by_form, by_place, by_name}
use Rattle.asm_places.proofs.refusals.accepted.Goals as goal

pub returns-in-Some-clause-refused : goal.returns-in-Some-clause-refused
returns-in-Some-clause-refused c =
    let h : form_refusal c.args.sources.now ≡ Some c.in-Some.refusal = search rules in
    by_form c.args.sources.now c.in-Some.refusal h

pub returns-in-Err-clause-refused : goal.returns-in-Err-clause-refused
returns-in-Err-clause-refused c =
    let f : form_refusal c.args.sources.now ≡ None = search rules in
    by_place c.args.sources.now c.in-Err.refusal f c.in-Err.ensures.refused

pub returns-in-Some-name_refusal-clause-refused : goal.returns-in-Some-name_refusal-clause-refused
returns-in-Some-name_refusal-clause-refused c =
    let f : form_refusal c.args.sources.now ≡ None = search rules in
    let h : name_refusal c.names.result.now c.args.sources.now ≡ Some c.in-Some-name_refusal.refusal = search rules in
    by_name c.args.sources.now c.in-Some-name_refusal.refusal c.in-Ok.places c.names.result.now f c.in-Ok.ensures.none c.in-Ok.ensures.places c.names.ensures h
