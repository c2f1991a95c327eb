use Rattle.std.proofs.Common.{arith, ◌≡◌, ◌∙◌, sym, false, Some, None, eqb, refl}
use Rattle.std.proofs.lemmas.Bool.Decides.{nat_tests}
use Rattle.turn_schedule.proofs.Counts.{no_count, count_read}
use Rattle.turn_schedule.proofs.words.count_of.Goals as goal

pub returns-then-not-is_decimal : goal.returns-then-not-is_decimal
returns-then-not-is_decimal c = sym (no_count c.args.digits.now (cc))

pub returns-in-Some-eq0 : goal.returns-in-Some-eq0
returns-in-Some-eq0 c = sym (count_read c.args.digits.now (Some 0) (cc) (cc))

pub returns-in-Some : goal.returns-in-Some
returns-in-Some c =
    let z : eqb c.in-Some.n 0 ≡ false = grind (arith, nat_tests) in
    sym (count_read c.args.digits.now (Some c.in-Some.n) (cc) (cc) ∙ rw z refl)

pub returns-in-None : goal.returns-in-None
returns-in-None c = sym (count_read c.args.digits.now None (cc) (cc))
