use Rattle.std.proofs.Common.{ℕ, List, ap, ◌∙◌}
use Rattle.esa_model.specs.Packet.{fields, packet}
use Rattle.esa_model.specs.Unit.{Done}
use Rattle.twin_units.proofs.Applied.{busy, packet_known, stepped}
use Rattle.twin_units.proofs.computing.compute.Goals as goal

pub returns-clause-packet : goal.returns-clause-packet
returns-clause-packet g c = λ told awake.
    let s : List ℕ = g.V.View.bytes c.args.view.now in
    let d : Done = c.event_told-d.result in
    let known = c.fields_of-f.ensures.fields ∙ ap (fields c.args.r.now d) c.event_told-d.ensures.same in
    packet_known c.args.r.now d s c.fields_of-f.result c.told.result c.told.ensures.packet known
    ∙ ap (λ (e : Done). packet c.args.r.now e s) (c.event_told-d.ensures.done told awake)

pub returns-clause-step : goal.returns-clause-step
returns-clause-step g c = λ m at told awake.
    let s : List ℕ = g.V.View.bytes c.args.view.now in
    let side = c.args.side.now in
    let d : Done = c.event_told-d.result in
    let known = c.fields_of-f.ensures.fields ∙ ap (fields c.args.r.now d) c.event_told-d.ensures.same in
    let due_done = c.event_told-d.ensures.done told (busy m c.args.cpu.0 c.args.r.now s side at awake) in
    stepped m c.args.cpu.0 c.args.r.now s side d c.fields_of-f.result c.told.result at c.told.ensures.packet known c.told.ensures.fine due_done
    (c.event_told-d.ensures.sound m at) c.applied_is_next.ensures.event
