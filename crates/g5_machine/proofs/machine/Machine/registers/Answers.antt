-- The registers that are held are those of the state.
use Rattle.std.proofs.Common.{◌≡◌, ◌<◌, ℕ, length, Some, refl, ◌∙◌, subst}
use Rattle.std.specs.Prelude.{slice_get}
use Rattle.std.proofs.lemmas.Option.{slice_get_read}
use Rattle.g5_machine.proofs.Seeing.{registers_are, runs_as}
use Rattle.g5_machine.proofs.machine.Machine.registers.Goals as goal

pub returns-clause-runs : goal.returns-clause-runs
returns-clause-runs c = λ s st.
    let m = c.args.self.now in
    let i = c.args.cpu.0 in
    let inside : i < length m.cpus.items = subst (λ (n : ℕ). i < n) m.fits.cpus c.requires.known in
    let got : slice_get m.cpus.items i ≡ Some c.index.result.now =
    slice_get_read m.cpus.items _ i c.index.result.now refl inside c.index.ensures in
    runs_as (λ r. r.now) c.held_registers.result c.index.result.now s i c.held_registers.ensures (st.each i c.index.result.now got)

pub returns-clause-registers : goal.returns-clause-registers
returns-clause-registers c = λ z x st.
    let m = c.args.self.now in
    let i = c.args.cpu.0 in
    let inside : i < length m.cpus.items = subst (λ (n : ℕ). i < n) m.fits.cpus c.requires.known in
    let got : slice_get m.cpus.items i ≡ Some c.index.result.now =
    slice_get_read m.cpus.items _ i c.index.result.now refl inside c.index.ensures in
    c.held_registers.ensures
    ∙ registers_are c.index.result.now z x i (st.each i c.index.result.now got)
