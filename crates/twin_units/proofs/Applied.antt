-- The packet of the event that is due, applied, is the step of the machine.
use Rattle.std.proofs.Common.{◌≡◌, ℕ, List, false, sym, ap, subst, ◌∙◌}
use Rattle.esa_model.specs.declared.machine.Registers.{Registers}
use Rattle.esa_model.specs.Apply.{apply}
use Rattle.esa_model.specs.Line.{Side}
use Rattle.esa_model.specs.Machine.{Machine, after, done, done_at, due_at, idle, is_idle, next, side_of}
use Rattle.esa_model.specs.Packet.{Fields, fields, packet, packet_of}
use Rattle.esa_model.specs.Unit.{Done}
use Rattle.packet_law.specs.Fine.{IsFine}
use Rattle.packet_law.specs.Sound.{IsSound}
use Rattle.twin_units.specs.Units.{due_beside, IsAt}

pub busy : (m : Machine) (i : ℕ) (r : Registers) (s : List ℕ) (side : Side) → IsAt m i r s side → idle m i ≡ false → is_idle (due_beside r i side) ≡ false
unfolding idle due_at
busy m i r s side at h = rw (sym at.registers, sym at.side) h

pub packet_known : (r : Registers) (d : Done) (s : List ℕ) (f : Fields) (p : List ℕ) → p ≡ packet_of f → f ≡ fields r d s → p ≡ packet r d s
unfolding packet
packet_known r d s f p told known = told ∙ ap packet_of known

pub stepped : (m : Machine) (i : ℕ) (r : Registers) (s : List ℕ) (side : Side) (d : Done) (f : Fields) (p : List ℕ) → IsAt m i r s side
    → p ≡ packet_of f → f ≡ fields r d s → IsFine f → d ≡ done r i s side → IsSound m i d
    → ((n : Machine) (j : ℕ) (e : Done) → IsSound n j e → IsFine (fields (n.registers j) e n.storage) → apply n j (packet (n.registers j) e n.storage) ≡ after n j e)
    → apply m i p ≡ next m i
unfolding next done_at
stepped m i r s side d f p at told known fine due_done sound law =
    let here : f ≡ fields (m.registers i) d m.storage = rw (at.registers, at.storage) known in
    let fine_here : IsFine (fields (m.registers i) d m.storage) = subst IsFine here fine in
    let same : d ≡ done (m.registers i) i m.storage (side_of m) = rw (at.registers, at.storage, at.side) due_done in
    ap (apply m i) (packet_known (m.registers i) d m.storage f p told here) ∙ (law m i d sound fine_here ∙ ap (after m i) same)
