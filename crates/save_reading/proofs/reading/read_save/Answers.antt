use Rattle.std.proofs.Common.{◌≡◌, sym, ap, ◌∙◌, subst, arith, Ok}
use Rattle.std.specs.Prelude.{IfOk, IfErr}
use Rattle.std.proofs.lemmas.List.{take_rest}
use Rattle.save_model.specs.Save.{read_by}
use Rattle.save_writing.specs.Written.{save_of}
use Rattle.save_reading.specs.Refusing.{IsRefused}
use Rattle.save_reading.proofs.Deciding.{bad_head, bad_length, read_by_parts}
use Rattle.save_reading.proofs.reading.read_save.Goals as goal

pub returns-in-None-clause-refusal : goal.returns-in-None-clause-refusal
returns-in-None-clause-refusal c = bad_head c.args.turns c.args.console c.args.bytes.now c.in-None.ensures.none

pub returns-then-bytes-size-clause-refusal : goal.returns-then-bytes-size-clause-refusal
returns-then-bytes-size-clause-refusal c = bad_length c.args.turns c.args.console c.args.bytes.now c.in-Some.head c.in-Some.ensures.good c.in-Some.ensures.some (omega (arith, c.if-bytes-size.true, c.size.ensures))

pub returns-clause-ok : goal.returns-clause-ok
returns-clause-ok c =
    subst (λ z. IfOk c.decide.result (λ s. z ≡ Ok (save_of s.head s.numbers s.cpus.items s.cores s.keys.now s.storage.now)))
    (sym (read_by_parts c.args.turns c.args.console c.args.bytes.now c.in-Some.head (save_of c.in-Ok.saved.head c.in-Ok.saved.numbers c.in-Ok.saved.cpus.items c.in-Ok.saved.cores c.in-Ok.saved.keys.now c.in-Ok.saved.storage.now) c.first_outside-bad.result
    c.in-Some.ensures.good c.in-Some.ensures.some (omega (arith, c.if-bytes-size.false, c.size.ensures)) (c.in-Ok.ensures.read ∙ ap (λ z. read_by c.in-Some.head z) (take_rest c.args.bytes.now 16)) c.first_outside-bad.ensures))
    c.decide.ensures.ok

pub returns-clause-refusal : goal.returns-clause-refusal
returns-clause-refusal c =
    subst (λ z. IfErr c.decide.result (λ e. IsRefused z e))
    (sym (read_by_parts c.args.turns c.args.console c.args.bytes.now c.in-Some.head (save_of c.in-Ok.saved.head c.in-Ok.saved.numbers c.in-Ok.saved.cpus.items c.in-Ok.saved.cores c.in-Ok.saved.keys.now c.in-Ok.saved.storage.now) c.first_outside-bad.result
    c.in-Some.ensures.good c.in-Some.ensures.some (omega (arith, c.if-bytes-size.false, c.size.ensures)) (c.in-Ok.ensures.read ∙ ap (λ z. read_by c.in-Some.head z) (take_rest c.args.bytes.now 16)) c.first_outside-bad.ensures))
    c.decide.ensures.refusal
