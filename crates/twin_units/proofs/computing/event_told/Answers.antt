-- Byte 0 of the latch tells the event that is due.
use Rattle.std.proofs.Common.{◌≡◌, ℕ, ◌<◌, List, sym, ap, subst, ◌∙◌, arith}
use Rattle.std.specs.Prelude.{slice_index, drop}
use Rattle.twin_units.specs.Events.{requested}
use Rattle.twin_units.proofs.Latched.{unit_told, external_told, restart_told, early_told, refused_told, refused_by}
use Rattle.twin_units.proofs.Fetched.{unit_known}
use Rattle.twin_units.proofs.Sound.{sound_suppressed}
use Rattle.packet_law.specs.Sound.{IsSound}
use Rattle.esa_model.specs.Unit.{Done}
use Rattle.esa_model.specs.declared.machine.Registers.{Registers}
use Rattle.esa_model.specs.Line.{Side}
use Rattle.twin_units.specs.Units.{enabled_beside}
use Rattle.twin_units.proofs.computing.event_told.Goals as goal

pub returns-in-0-clause-done : goal.returns-in-0-clause-done
returns-in-0-clause-done g c = λ told busy.
    let s : List ℕ = g.V.View.bytes c.args.view.now in
    let number = subst (λ (bs : List ℕ). slice_index bs 0 ≡ 0) told c.in-0.is in
    let u = unit_told c.args.r.now c.args.cpu.0 s c.args.side.now busy number in
    let here = c.instruction_in.ensures ∙ (ap (λ (bs : List ℕ). drop 2 bs) told ∙ u.bytes) in
    c.unit_from.ensures.done
    ∙ (unit_known c.args.r.now c.args.cpu.0 s c.args.side.now _ u.code here ∙ sym u.done)

pub returns-in-1-clause-done : goal.returns-in-1-clause-done
returns-in-1-clause-done g c = λ told busy.
    let s : List ℕ = g.V.View.bytes c.args.view.now in
    let number = subst (λ (bs : List ℕ). slice_index bs 0 ≡ 1) told c.in-1.is in
    let r : Registers = c.args.r.now in
    let seen = ap (λ (side : Side). enabled_beside r c.args.cpu.0 side) c.side.view_is in
    c.external.ensures ∙ (ap (requested r) (c.enabled.ensures ∙ seen) ∙ sym (external_told c.args.r.now c.args.cpu.0 s c.args.side.now number))

pub returns-in-2-clause-done : goal.returns-in-2-clause-done
returns-in-2-clause-done g c = λ told busy.
    let s : List ℕ = g.V.View.bytes c.args.view.now in
    let number = subst (λ (bs : List ℕ). slice_index bs 0 ≡ 2) told c.in-2.is in
    c.restart.ensures ∙ sym (restart_told c.args.r.now c.args.cpu.0 s c.args.side.now number)

pub returns-in-3-clause-done : goal.returns-in-3-clause-done
returns-in-3-clause-done g c = λ told busy.
    let s : List ℕ = g.V.View.bytes c.args.view.now in
    let number = subst (λ (bs : List ℕ). slice_index bs 0 ≡ 3) told c.in-3.is in
    c.early.ensures ∙ sym (early_told c.args.r.now c.args.cpu.0 s c.args.side.now number)

pub returns-in_default-clause-done : goal.returns-in_default-clause-done
returns-in_default-clause-done g c = λ told busy.
    let s : List ℕ = g.V.View.bytes c.args.view.now in
    let above : 3 < slice_index c.args.latch.now 0 = let h = c.in_default in grind (arith, h) in
    let number = subst (λ (bs : List ℕ). 3 < slice_index bs 0) told above in
    c.refused_fetch.ensures ∙ (ap (refused_by c.args.r.now) told ∙ sym (refused_told c.args.r.now c.args.cpu.0 s c.args.side.now number))

pub returns-in_default-clause-sound : goal.returns-in_default-clause-sound
returns-in_default-clause-sound g c = λ m at. subst (λ (d : Done). IsSound m c.args.cpu.0 d) (sym c.refused_fetch.ensures) (sound_suppressed m c.args.cpu.0 c.args.r.now _ _)
