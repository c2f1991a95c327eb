use Rattle.std.proofs.Common.{arith, sym, ◌∙◌, ◌≡◌}
use Rattle.runit_ecc.specs.Syndrome.{parity}
use Rattle.runit_ecc.proofs.Judging.{reads_large, reads_clean, reads_even, reads_corrected, reads_odd}
use Rattle.runit_ecc.proofs.codewords.reading.Goals as goal

pub returns-then-stored-n-ne0 : goal.returns-then-stored-n-ne0
returns-then-stored-n-ne0 c = reads_large c.args.n c.args.c c.args.stored c.if-stored-n-ne0.true

pub returns-then-s-eq0 : goal.returns-then-s-eq0
returns-then-s-eq0 c =
    reads_clean c.args.n c.args.c c.args.stored c.syndrome_of-s.result c.value_at.result
    (record { wide = omega arith; checks = c.requires.checks; small = omega arith; names = c.syndrome_of-s.ensures })
    (sym c.parity_of.ensures.value ∙ c.if-parity_of-eq0.true) (omega arith) c.value_at.ensures

pub returns-else-s-eq0 : goal.returns-else-s-eq0
returns-else-s-eq0 c =
    reads_even c.args.n c.args.c c.args.stored c.syndrome_of-s.result
    (record { wide = omega arith; checks = c.requires.checks; small = omega arith; names = c.syndrome_of-s.ensures })
    (sym c.parity_of.ensures.value ∙ c.if-parity_of-eq0.true) c.if-s-eq0.false

pub returns-then-s-n : goal.returns-then-s-n
returns-then-s-n c =
    let odd : parity c.args.stored ≡ 1 = omega arith in
    reads_corrected c.args.n c.args.c c.args.stored c.syndrome_of-s.result c.value_at-then-s-n.result c.changed.result
    (record { wide = omega arith; checks = c.requires.checks; small = omega arith; names = c.syndrome_of-s.ensures })
    odd (omega arith) c.changed.ensures c.value_at-then-s-n.ensures

pub returns-else-s-n : goal.returns-else-s-n
returns-else-s-n c =
    let odd : parity c.args.stored ≡ 1 = omega arith in
    reads_odd c.args.n c.args.c c.args.stored c.syndrome_of-s.result
    (record { wide = omega arith; checks = c.requires.checks; small = omega arith; names = c.syndrome_of-s.ensures })
    odd (omega arith)
