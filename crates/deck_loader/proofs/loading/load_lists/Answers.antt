use Rattle.std.proofs.Common.{◌<◌, arith}
use Rattle.deck_loader.proofs.loading.load_lists.Goals as goal

pub overflow_cast-result : goal.overflow_cast-result
overflow_cast-result c =
    let low = c.in_ok-deck.ensures.accepted.inside in
    let most = c.size.ensures.most in
    omega (arith, low, most)

pub returns-clause-inside : goal.returns-clause-inside
returns-clause-inside c =
    let low = c.in_ok-deck.ensures.accepted.inside in
    let size = c.size.ensures.size in
    omega (arith, low, size)
