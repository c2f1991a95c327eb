use Rattle.std.proofs.Common.{arith, sym, ◌∙◌, ap, ◌≡◌, ◌-◌}
use Rattle.runit_ecc.specs.Syndrome.{parity, set_checks}
use Rattle.runit_ecc.proofs.Judging.{IsMade, coded_even, coded_odd}
use Rattle.runit_ecc.proofs.codewords.coded.Goals as goal

pub returns-then-parity_of-eq0 : goal.returns-then-parity_of-eq0
returns-then-parity_of-eq0 c =
    let s = c.syndrome_of-s.ensures in
    let made : IsMade c.args.n c.args.c c.args.value c.placed_in-w.result c.with_all_checks-r.result = record {
      wide = omega arith;
      checks = c.requires.checks;
      needed = c.requires.needed;
      fits = c.requires.fits;
      put = c.placed_in-w.ensures;
      set = c.with_all_checks-r.ensures ∙ ap (λ x. set_checks (c.args.c - 1) x c.placed_in-w.result) s;
    } in
    coded_even c.args.n c.args.c c.args.value c.placed_in-w.result c.with_all_checks-r.result made (sym c.parity_of.ensures.value ∙ c.if-parity_of-eq0.true)

pub returns-else-parity_of-eq0 : goal.returns-else-parity_of-eq0
returns-else-parity_of-eq0 c =
    let s = c.syndrome_of-s.ensures in
    let made : IsMade c.args.n c.args.c c.args.value c.placed_in-w.result c.with_all_checks-r.result = record {
      wide = omega arith;
      checks = c.requires.checks;
      needed = c.requires.needed;
      fits = c.requires.fits;
      put = c.placed_in-w.ensures;
      set = c.with_all_checks-r.ensures ∙ ap (λ x. set_checks (c.args.c - 1) x c.placed_in-w.result) s;
    } in
    let odd : parity c.with_all_checks-r.result ≡ 1 = omega arith in
    c.changed.ensures ∙ coded_odd c.args.n c.args.c c.args.value c.placed_in-w.result c.with_all_checks-r.result made odd
