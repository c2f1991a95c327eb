-- The core that is held is the one of the state.
use Rattle.std.proofs.Common.{◌≡◌, ◌<◌, ℕ, length, Some, refl, sym, ◌∙◌, subst}
use Rattle.std.specs.Prelude.{slice_get}
use Rattle.std.proofs.lemmas.Option.{slice_get_read}
use Rattle.g5_machine.proofs.Obeying.{core_is}
use Rattle.g5_machine.proofs.machine.Machine.core.Goals as goal

pub returns-clause-core : goal.returns-clause-core
returns-clause-core c = λ z x st.
    let m = c.args.self.now in
    let i = c.args.cpu.0 in
    let inside : i < length m.cpus.items = subst (λ (n : ℕ). i < n) m.fits.cpus c.requires.known in
    let got : slice_get m.cpus.items i ≡ Some c.index.result.now =
    slice_get_read m.cpus.items _ i c.index.result.now refl inside c.index.ensures in
    c.core_held.ensures
    ∙ sym (core_is c.index.result.now x.fate.cores i (st.each i c.index.result.now got).held)
