use Rattle.std.proofs.Common.{◌≡◌, sym, ◌∙◌, arith}
use Rattle.std.proofs.lemmas.Bool.Decides.{nat_tests}
use Rattle.fault_script.proofs.Counted.{none_from_count, count_from_none}
use Rattle.fault_script.proofs.bits.Bits.is_empty.Goals as goal

pub returns : goal.returns
returns c =
    let bits = c.args.self.now in
    let e = bits.counted in (
      λ h b lt. let z : bits.ones ≡ 0 = grind (arith, nat_tests) in none_from_count bits.odd.items (sym e ∙ z) b lt,
      λ h. let z = e ∙ count_from_none bits.odd.items h in grind (arith, nat_tests),
    )
