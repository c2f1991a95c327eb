use Rattle.std.proofs.Common.{length, ap, arith}
use Rattle.asm_places.proofs.Finding.{place_low}
use Rattle.asm_places.proofs.emission.push_word.Goals as goal

pub overflow_cast-place_in : goal.overflow_cast-place_in
overflow_cast-place_in c =
    let e = c.place_in.ensures in
    let l = place_low c.in-External.name c.externals.result.now in
    let n = ap length c.externals.ensures in
    let k = c.requires.count in
    omega (arith, e, l, n, k)

pub overflow_add-section-in-External : goal.overflow_add-section-in-External
overflow_add-section-in-External c =
    let e = c.place_in.ensures in
    let l = place_low c.in-External.name c.externals.result.now in
    let n = ap length c.externals.ensures in
    let k = c.requires.count in
    let s = c.section.ensures in
    omega (arith, e, l, n, k, s)
