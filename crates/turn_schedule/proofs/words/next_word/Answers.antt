use Rattle.std.proofs.Common.{arith, ◌∙◌, ap, sym, take, drop}
use Rattle.turn_schedule.proofs.Steps.{IsCutAt, words_none, last_word, next_word, words_skip}
use Rattle.turn_schedule.proofs.words.next_word.Goals as goal

pub returns-then-tail-eq0-clause-some : goal.returns-then-tail-eq0-clause-some
returns-then-tail-eq0-clause-some c =
    let t = c.loop-rest.rest.now in
    let e = c.piece_len-end.ensures.value in
    let parts : IsCutAt t c.split_at.result.0.now c.split_at.result.1.now = record {
      front_is = c.split_at.ensures.front ∙ ap (λ k. take k t) e;
      tail_is = c.split_at.ensures.back ∙ ap (λ k. drop k t) e;
    } in
    let most = c.piece_len-end.ensures.within in
    let next = last_word t _ _ parts (omega arith) (omega arith) (omega (arith, most)) in
    record {
      words_are = sym c.loop-rest.invariant.same ∙ next.words_are;
      shorter = omega (arith, next.shorter);
    }

pub returns-then-end-gt0-clause-some : goal.returns-then-end-gt0-clause-some
returns-then-end-gt0-clause-some c =
    let t = c.loop-rest.rest.now in
    let e = c.piece_len-end.ensures.value in
    let parts : IsCutAt t c.split_at.result.0.now c.split_at.result.1.now = record {
      front_is = c.split_at.ensures.front ∙ ap (λ k. take k t) e;
      tail_is = c.split_at.ensures.back ∙ ap (λ k. drop k t) e;
    } in
    let rest = c.split_at-in-loop-rest.ensures.back in
    let next = next_word t _ _ _ parts (omega arith) rest (omega arith) in
    record {
      words_are = sym c.loop-rest.invariant.same ∙ next.words_are;
      shorter = omega (arith, next.shorter);
    }

pub loop-rest-preserved : goal.loop-rest-preserved
loop-rest-preserved c =
    let t = c.loop-rest.rest.now in
    let e = c.piece_len-end.ensures.value in
    let tail_is = c.split_at.ensures.back ∙ ap (λ k. drop k t) e in
    let rest = c.split_at-in-loop-rest.ensures.back in
    let skipped = words_skip t _ _ tail_is (omega arith) rest (omega arith) in
    record {
      same = sym skipped ∙ c.loop-rest.invariant.same;
      inside = omega arith;
    }

pub returns-clause-none : goal.returns-clause-none
returns-clause-none c =
    sym c.loop-rest.invariant.same ∙ words_none c.loop-rest.rest.now (omega arith)
