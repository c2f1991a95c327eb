-- Generated inputs are within their limits and accepted.
use Rattle.std.proofs.Common.{◌≡◌, ◌⊎◌, ℕ, List, [], length, sym, ap, ◌∙◌, subst, arith, inl, inr, Ok, Err}
use Rattle.std.specs.Prelude.{IsOkAnd}
use Rattle.deck_gen.specs.Accepted.{AreInLimits, Gives, IsInput, IsSchedule, IsScript}
use Rattle.job_inputs.specs.Accepts.{AreWithinLimits}
use Rattle.program_model.specs.Accepted.{Job, JobBytes, generated_bytes, job}
use Rattle.program_model.specs.Generator.{generated, generated_config}
use Rattle.program_model.specs.declared.status.Status.{Status}
use Rattle.program_model.specs.declared.status.Status.TheVariants.{NoMemory}
use Rattle.run_model.specs.Premise.{Within}
use Rattle.run_model.specs.Schedule.{turns_of}
use Rattle.gen_runs.specs.Inputs.{IsGeneratedJob}

-- these are the texts that are drawn, and no console input
pub record AreDrawn (number count : ℕ) (bytes : JobBytes) : Type 0 where
  pub deck : bytes.deck ≡ (generated number count).deck
  pub console : bytes.console ≡ []
  pub schedule : bytes.schedule ≡ (generated number count).schedule
  pub script : bytes.script ≡ (generated number count).script

abbrev bytes_of : List ℕ → List ℕ → List ℕ → List ℕ → JobBytes
bytes_of deck console schedule script =
    record { deck = deck; console = console; schedule = schedule; script = script }

bytes_are : (number count : ℕ) (x : JobBytes) → AreDrawn number count x
    → x ≡ generated_bytes number count
bytes_are number count x h =
    let g = generated number count in
    ap (λ d. bytes_of d x.console x.schedule x.script) h.deck
    ∙ ap (λ d. bytes_of g.deck d x.schedule x.script) h.console
    ∙ ap (λ d. bytes_of g.deck [] d x.script) h.schedule
    ∙ ap (λ d. bytes_of g.deck [] g.schedule d) h.script

pub job_is : (number count : ℕ) (x : JobBytes) (j : Job) (words lines : List ℕ)
    → AreDrawn number count x → IsInput number count → IsSchedule number count words
    → IsScript number count lines → job generated_config x ≡ Ok j → IsGeneratedJob number count j
job_is number count x j words lines drawn input schedule script is =
    let accepted : job generated_config (generated_bytes number count) ≡ Ok j =
    ap (job generated_config) (sym (bytes_are number count x drawn)) ∙ is in
    let gives : Gives number count j =
    subst (λ r. IsOkAnd r (λ i. Gives number count i)) accepted input in
    record {
      accepted = accepted;
      whole = ap turns_of gives.runs ∙ schedule.whole;
      within = subst Within (sym gives.strikes) script.within;
    }

pub only_memory : (number count : ℕ) (x : JobBytes) (s : Status) → AreDrawn number count x
    → IsInput number count → (s ≡ NoMemory) ⊎ (job generated_config x ≡ Err s) → s ≡ NoMemory
only_memory number count x s drawn input (inl e) = e
only_memory number count x s drawn input (inr is) =
    let refused : job generated_config (generated_bytes number count) ≡ Err s =
    ap (job generated_config) (sym (bytes_are number count x drawn)) ∙ is in
    absurd (subst (λ r. IsOkAnd r (λ i. Gives number count i)) refused input)

pub within_limits : (x : JobBytes) → AreInLimits x.deck x.schedule x.script → x.console ≡ []
    → AreWithinLimits x
within_limits x h none = record {
  deck = h.cards;
  console = omega (arith, ap length none);
  schedule = h.words;
  script = h.lines;
}
