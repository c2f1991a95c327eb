-- The words of a CPU, by its state and by what is held for it.
use Rattle.std.proofs.Common.{◌≡◌, ◌⊎◌, inl, inr, ℕ, true, false, List, refl, sym, ap, ◌∙◌, codes, Some, None}
use Rattle.esa_model.specs.Bus.{signals_of}
use Rattle.esa_model.specs.Machine.{Machine}
use Rattle.esa_model.specs.declared.machine.CpuState.{CpuState}
use Rattle.esa_model.specs.declared.machine.CpuState.TheVariants.{Operating, Stopped}
use Rattle.esa_model.specs.declared.machine.Registers.{Registers}
use Rattle.g5_machine.specs.Standing.{registers_in}
use Rattle.program_model.specs.Debugger.{cpu_words, is_check_stop, words_text}
use Rattle.run_model.specs.Cores.{Cores}
use Rattle.run_model.specs.declared.faults.Mode.{Mode}
use Rattle.run_model.specs.declared.faults.Mode.TheVariants.{Running, Recovering, Lost}
use Rattle.g5_debugger.specs.Answering.{held_words, words_in}
use Rattle.g5_debugger.specs.declared.answers.CpuWords.{CpuWords}

pub runs : (mode : Mode) (r s : Registers) (w : CpuWords) (text : List ℕ)
    → Some r ≡ registers_in mode s → text ≡ words_text (words_in w r)
    → text ≡ held_words mode (words_in w s)
runs Running r s w text e is =
    let same : r ≡ s = cc e in
    is ∙ ap (λ q. words_text (words_in w q)) same
runs Recovering r s w text e is = absurd (cc e)
runs Lost r s w text e is = absurd (cc e)

pub runs_not : (mode : Mode) (s : Registers) (w : CpuWords) → None ≡ registers_in mode s
    → codes "recovering" ≡ held_words mode (words_in w s)
runs_not Running s w e = absurd (cc e)
runs_not Recovering s w e = refl
runs_not Lost s w e = refl

pub is_stopped : (m : Machine) (s : Cores) (i : ℕ) (ws : List ℕ) (state : CpuState)
    → is_check_stop state ≡ true → state ≡ (signals_of m.bus i).state
    → codes "check-stop" ≡ cpu_words m s i ws
is_stopped m s i ws state is e =
    let yes : is_check_stop (signals_of m.bus i).state ≡ true = ap is_check_stop (sym e) ∙ is in
    rw yes refl

pub goes : (m : Machine) (s : Cores) (i : ℕ) (ws text : List ℕ) (state : CpuState)
    → is_check_stop state ≡ false → state ≡ (signals_of m.bus i).state
    → text ≡ held_words (s.mode i) ws → text ≡ cpu_words m s i ws
goes m s i ws text state is e held =
    let no_stop : is_check_stop (signals_of m.bus i).state ≡ false
    = ap is_check_stop (sym e) ∙ is in
    held ∙ rw no_stop refl

pub no_stop : (state : CpuState) → (state ≡ Operating) ⊎ (state ≡ Stopped)
    → is_check_stop state ≡ false
no_stop state (inl e) = ap is_check_stop e
no_stop state (inr e) = ap is_check_stop e
