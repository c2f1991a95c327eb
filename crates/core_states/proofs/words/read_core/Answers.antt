use Rattle.std.proofs.Common.{◌≡◌, ◌∙◌, ◌<◌, arith, length}
use Rattle.core_states.proofs.Readings.{so_far_more, so_far_lost, so_far_end, words_all}
use Rattle.core_states.proofs.words.read_core.Goals as goal

pub returns-in-Bad-clause-read : goal.returns-in-Bad-clause-read
returns-in-Bad-clause-read g c =
    let lt : c.loop-word.word < 40 = omega arith in
    so_far_lost c.args.back c.args.core.0 c.loop-word.word c.loop-word.notes.items _ c.loop-word.words c.read_word-found.result.mark _ (g.Z.Silicon.seen c.loop-word.z)
    c.loop-word.invariant.chip lt c.in-Bad.is c.read_word-found.ensures.mark c.read_word-found.ensures.notes

pub loop-word-preserved : goal.loop-word-preserved
loop-word-preserved g c =
    let whole : length c.loop-word.words ≡ 40 = omega arith in
    let lt : c.loop-word.word < 40 = omega arith in
    record {
      tape = c.read_word-found.ensures.tape ∙ c.loop-word.invariant.tape;
      chip = so_far_more c.args.back c.args.core.0 c.loop-word.word c.loop-word.notes.items _ c.loop-word.words c.read_word-found.result.value c.read_word-found.result.mark _ (g.Z.Silicon.seen c.loop-word.z) _
          c.loop-word.invariant.chip lt whole c.in_default.not-Bad c.read_word-found.ensures.mark c.read_word-found.ensures.value c.read_word-found.ensures.notes c.read_word-found.ensures.fixes;
    }

pub returns-clause-read : goal.returns-clause-read
returns-clause-read g c = so_far_end _ _ c.loop-word.word _ c.loop-word.words _ _ c.loop-word.invariant.chip (omega arith)

pub returns-clause-words : goal.returns-clause-words
returns-clause-words g c = words_all _ _ c.loop-word.word _ c.loop-word.words _ _ c.loop-word.invariant.chip (omega arith) (omega arith)
