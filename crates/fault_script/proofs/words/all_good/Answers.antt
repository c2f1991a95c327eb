use Rattle.std.proofs.Common.{◌≡◌, ℕ, false, nat_eq, sym, ap, ◌∙◌, arith, refl}
use Rattle.std.specs.Prelude.{unwrap_or}
use Rattle.std.specs.HashMap as hash
use Rattle.std.proofs.lemmas.List.{take_all}
use Rattle.run_model.specs.Premise.{strikes_word}
use Rattle.fault_script.specs.Places.{place}
use Rattle.std.specs.List.{count_by}
use Rattle.fault_script.proofs.Threes.{counts_more, more_at, few_at, too_many}
use Rattle.fault_script.proofs.words.all_good.Goals as goal

pub loop-s-preserved-in-None : goal.loop-s-preserved-in-None
loop-s-preserved-in-None c =
    let ss = c.args.strikes.now in
    let i = c.loop-s.s-index in
    record {
      counts = λ d w k hd hw. let m = counts_more ss i d w k false c.loop-s-test.true (c.in-None.ensures.none d w k hd hw) in let o = c.loop-s.invariant.counts d w k hd hw in omega arith;
      few = λ d w k hd hw. let m = counts_more ss i d w k false c.loop-s-test.true (c.in-None.ensures.none d w k hd hw) in let o = c.loop-s.invariant.few d w k hd hw in omega arith;
    }

pub loop-s-preserved : goal.loop-s-preserved
loop-s-preserved c =
    let ss = c.args.strikes.now in
    let i = c.loop-s.s-index in
    let p = c.in-Some.p in
    let n = c.unwrap_or-n.result in
    let f = λ (q : ℕ). hash.get nat_eq c.loop-s.counts q in
    let here : n ≡ unwrap_or (f p) 0 = c.unwrap_or-n.ensures ∙ ap (λ o. unwrap_or o 0) (c.copied.ensures ∙ c.get.ensures.value) in
    let is = c.in-Some.ensures.some in
    record {
      counts = λ d w k hd hw.
          let m = counts_more ss i d w k (nat_eq p (place d w k)) c.loop-s-test.true (is.same d w k hd hw) in
          more_at f (hash.get nat_eq c.insert.new.self (place d w k)) p (place d w k) n _ (c.in_ok-insert.ensures.updates.0 (place d w k)) here (c.loop-s.invariant.counts d w k hd hw) ∙ sym m;
      few = λ d w k hd hw.
          let m = counts_more ss i d w k (nat_eq p (place d w k)) c.loop-s-test.true (is.same d w k hd hw) in
          let l = few_at f p (place d w k) n _ here (c.loop-s.invariant.counts d w k hd hw) c.if-n-ge2.false (c.loop-s.invariant.few d w k hd hw) in
          omega arith;
    }

pub returns-then-n-ge2 : goal.returns-then-n-ge2
returns-then-n-ge2 c =
    let ss = c.args.strikes.now in
    let p = c.in-Some.p in
    let n = c.unwrap_or-n.result in
    let f = λ (q : ℕ). hash.get nat_eq c.loop-s.counts q in
    let here : n ≡ unwrap_or (f p) 0 = c.unwrap_or-n.ensures ∙ ap (λ o. unwrap_or o 0) (c.copied.ensures ∙ c.get.ensures.value) in
    let is = c.in-Some.ensures.some in
    (λ h. absurd (cc h), λ few. absurd (too_many f ss c.loop-s.s-index is.core is.word is.block p n c.loop-s-test.true is.is (is.same is.core is.word is.block is.core_small is.word_small) (c.loop-s.invariant.counts is.core is.word is.block is.core_small is.word_small) here c.if-n-ge2.true (few is.core is.word is.block is.core_small is.word_small)))

pub returns : goal.returns
returns c =
    let ss = c.args.strikes.now in
    let all = take_all c.loop-s.s-index ss (omega arith) in
    (λ h d w k hd hw. let e = ap (count_by (strikes_word d w k)) all in let l = c.loop-s.invariant.few d w k hd hw in omega arith, λ h. refl)
