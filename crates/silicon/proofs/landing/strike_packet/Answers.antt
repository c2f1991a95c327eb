use Rattle.std.proofs.Common.{◌+◌, ap, ◌∙◌}
use Rattle.run_model.specs.Strikes.{mask_byte}
use Rattle.fault_script.specs.Walks.{IsOn}
use Rattle.silicon.specs.Chip.{masked}
use Rattle.silicon.proofs.Smalls.{both_masks}
use Rattle.silicon.proofs.landing.strike_packet.Goals as goal

pub returns-in-Some : goal.returns-in-Some
returns-in-Some c =
    let walk = c.in-Some.walk in
    let core = c.args.core.0 in
    let n = c.args.n in
    let unit = c.args.unit in
    let own = c.under.result.now in
    let lasting = c.lasting_under.result.now in
    let on : IsOn walk core (n + 1) = rw c.in-Some.is at c.requires in
    rw c.in-Some.is (
    c.flip_packet.ensures
    ∙ ap (masked (mask_byte lasting core unit n) 0) c.flip_by_briefs.ensures
    ∙ both_masks walk.ordered own lasting core n unit c.args.packet.now
    (c.under.ensures.part n on) (c.lasting_under.ensures.part n on))
