use Rattle.std.proofs.Common.{◌≡◌}
use Rattle.std.specs.Prelude.{Some}
use Rattle.sparing.specs.Pools.{place_with}
use Rattle.sparing.proofs.Taken.{taken_out}
use Rattle.sparing.proofs.pool.take_out.Goals as goal

pub returns-clause-taken : goal.returns-clause-taken
returns-clause-taken g c =
    let f = g.S.Numbered.number_of in
    let all = c.args.list.now.items in
    let value = c.as_slice.ensures.value in
    let place = c.place_of.ensures in
    let is = c.in_ok-at.is in
    let was = c.in_ok-at.was in
    let ok = c.in_ok-at.ensures in
    let at : place_with f c.args.number.0 all ≡ Some c.in_ok-at.at = cc in
    taken_out f c.args.number.0 all c.in_ok-at.at c.remove.result c.remove.new.self.items
    c.requires.ascends at c.remove.ensures.value c.remove.ensures.items
