use Rattle.std.proofs.Common.{◌+◌, ◌≤◌, sym, ◌∙◌, arith, refl, inl, inr}
use Rattle.std.proofs.lemmas.Bool.{cases_lt}
use Rattle.fault_script.specs.Changes.{at_place, Ends, NoneSet}
use Rattle.fault_script.proofs.Sweep.{Swept, swept_by, good_at, bad_at, good_before}
use Rattle.fault_script.proofs.masks.core_is_good.Goals as goal

pub loop-i-init : goal.loop-i-init
loop-i-init c = record {
  swept = record {
    struck_size = c.in_ok-struck.ensures.size;
    unlike_size = c.in_ok-unlike.ensures.size;
    struck_is = λ b lt. c.in_ok-struck.ensures.empty b;
    unlike_is = λ b lt. c.in_ok-unlike.ensures.empty b;
  };
  good = λ n first. good_before c.args.changes.now c.args.core n c.requires first;
}

pub loop-i-preserved : goal.loop-i-preserved
loop-i-preserved c =
    let cs = c.args.changes.now in
    let i = c.loop-i.i in
    let struck = c.flip.new.self.odd.items in
    let unlike = c.flip-in-loop-i.new.self.odd.items in
    let swept : Swept cs c.args.core (i + 1) struck unlike = swept_by cs c.args.core i c.loop-i.struck.odd.items c.loop-i.unlike.odd.items struck unlike c.is_of.result c.from.result c.from-in-loop-i.result c.loop-i.invariant.swept c.loop-i-test.true c.flip.ensures c.is_of.ensures c.from.ensures c.flip-in-loop-i.ensures c.from-in-loop-i.ensures in
    record {
      swept = swept;
      good = λ n high. elim (cases_lt n (at_place cs i)) [
        | inl before ↦ c.loop-i.invariant.good n (λ _. before)
        | inr from ↦
            let ends : Ends cs i = λ more. let h = high more in omega arith in
            good_at cs c.args.core i n struck unlike c.requires swept (record { inside = c.loop-i-test.true; low = from; high = high }) (c.may_stand.ensures.0 c.if-not-may_stand.false ends)
      ];
    }

pub returns-then-not-may_stand : goal.returns-then-not-may_stand
returns-then-not-may_stand c =
    let cs = c.args.changes.now in
    let i = c.loop-i.i in
    let struck = c.flip.new.self.odd.items in
    let unlike = c.flip-in-loop-i.new.self.odd.items in
    let swept : Swept cs c.args.core (i + 1) struck unlike = swept_by cs c.args.core i c.loop-i.struck.odd.items c.loop-i.unlike.odd.items struck unlike c.is_of.result c.from.result c.from-in-loop-i.result c.loop-i.invariant.swept c.loop-i-test.true c.flip.ensures c.is_of.ensures c.from.ensures c.flip-in-loop-i.ensures c.from-in-loop-i.ensures in (
      λ h. absurd (cc h),
      λ good.
          let same : at_place cs i ≤ at_place cs i = omega arith in
          let stands : Ends cs i → NoneSet unlike → NoneSet struck = λ ends none. bad_at cs c.args.core i (at_place cs i) struck unlike c.requires swept (record { inside = c.loop-i-test.true; low = same; high = ends }) (good (at_place cs i)) none in
          sym c.if-not-may_stand.true ∙ c.may_stand.ensures.1 stands,
    )

pub returns : goal.returns
returns c = (λ h n. c.loop-i.invariant.good n (λ more. absurd (omega arith)), λ h. refl)
