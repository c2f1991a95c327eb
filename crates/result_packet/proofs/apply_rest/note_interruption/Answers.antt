use Rattle.std.proofs.Common.{◌≡◌, ◌∙◌, ℕ, refl, subst, sym, length}
use Rattle.std.specs.Prelude.{Some, Option}
use Rattle.esa_model.specs.declared.events.Interruption.{Interruption}
use Rattle.esa_model.specs.declared.machine.Psw.{Psw}
use Rattle.esa_model.specs.Machine.{swap_changed}
use Rattle.esa_model.specs.Packet.{read}
use Rattle.esa_model.specs.PacketCodes.{interruption_of}
use Rattle.result_packet.proofs.apply_rest.note_interruption.Goals as goal

pub returns-clause-keys : goal.returns-clause-keys
unfolding read
returns-clause-keys g c =
    let f = read c.args.p.now in
    let r = c.args.r.now in
    let size = length (g.V.View.bytes c.args.view.now) in
    let kind = c.in-Some.kind in
    let after : Psw → ℕ → Option Interruption → Type 0 = λ q n k. c.note_from-2.new.keys ≡ swap_changed r k q n size c.args.keys.now in
    let noted : after c.old_psw.result c.identification.result (Some kind) =
    rw (
      c.note_from-2.ensures.keys,
      c.note_from.ensures.same,
      c.note_from.ensures.keys,
      c.as_slice-2.ensures.value,
      c.as_slice.ensures.value,
      c.identification_bytes-own.ensures,
      c.old_psw_bytes-old.ensures,
      c.places_of-places.ensures.identification,
      c.places_of-places.ensures.old,
    ) refl in
    let known : interruption_of f.kind ≡ Some kind = sym c.interruption_in.ensures ∙ c.in-Some.is in
    subst (after f.old f.identification) (sym known)
    (subst (λ (n : ℕ). after f.old n (Some kind)) c.identification.ensures
    (subst (λ (q : Psw). after q c.identification.result (Some kind)) c.old_psw.ensures noted))
