-- The side is seen as a record of its parts.
use Rattle.std.proofs.Common.{◌∙◌, ℕ, List, ap, length, refl}
use Rattle.esa_model.specs.Line.{Side}
use Rattle.esa_model.specs.Packet.{read}
use Rattle.esa_model.specs.PacketCodes.{key_set_of}
use Rattle.esa_model.specs.Apply.{applied_keys, applied_storage}
use Rattle.esa_model.specs.Machine.{with_key}
use Rattle.result_packet.proofs.RunsStored.{stretches_few}
use Rattle.result_packet.proofs.packet.Packet.apply_rest.Goals as goal

pub returns-clause-keys : goal.returns-clause-keys
returns-clause-keys g c =
    let f = read c.args.self.now in
    c.set_told_key.ensures
    ∙ ap (λ (ks : List ℕ). with_key (key_set_of f.block f.key) ks)
    (c.note_told.ensures.keys
    ∙ ap (λ (ks : List ℕ). applied_keys c.args.r.now f (length (g.V.View.bytes c.args.view.now)) ks) (ap (λ (s : Side). s.keys) c.side.view_is))

pub returns-clause-bus : goal.returns-clause-bus
unfolding read
returns-clause-bus g c =
    let same = ap (λ (s : Side). s.bus) c.side.view_is in
    rw (c.signal.ensures, c.take.ensures, c.taken_of.ensures, c.request.ensures, c.sender.ensures, c.sigp_cpu.ensures, c.sigp_order.ensures, same) refl

pub returns-clause-console : goal.returns-clause-console
returns-clause-console g c =
    let same = ap (λ (s : Side). s.console) c.side.view_is in
    rw (c.skip.ensures, c.console_taken-read.ensures.count, c.left.ensures, same) refl

pub returns-clause-stretches : goal.returns-clause-stretches
returns-clause-stretches g c =
    stretches_few c.args.r.now c.args.self.now (g.V.View.bytes c.args.view.now) (applied_storage c.args.r.now (read c.args.self.now) (g.V.View.bytes c.args.view.now)) c.note_told.new.changed.items
    refl c.note_told.ensures.changed
