-- The job of inputs, of which the first refused one gives the status.
use Rattle.std.proofs.Common.{◌≡◌, ◌⊎◌, ℕ, ◌*◌, List, refl, sym, subst, Result, Ok, Err, inl, inr}
use Rattle.deck_model.specs.Image.{Image, image}
use Rattle.deck_model.specs.declared.decks.DeckRefusal.{DeckRefusal}
use Rattle.deck_model.specs.declared.decks.DeckRefusal.TheVariants as deck
use Rattle.run_model.specs.Schedule.{schedule}
use Rattle.run_model.specs.Script.{script}
use Rattle.run_model.specs.declared.faults.ScriptRefusal.TheVariants as script_refusal
use Rattle.run_model.specs.declared.faults.Strike.{Strike}
use Rattle.run_model.specs.declared.logs.Config.{Config}
use Rattle.run_model.specs.declared.schedules.Run.{Run}
use Rattle.run_model.specs.declared.schedules.ScheduleRefusal.TheVariants as schedule_refusal
use Rattle.program_model.specs.Accepted.{JobBytes, job}
use Rattle.program_model.specs.declared.status.Status.{Status}
use Rattle.program_model.specs.declared.status.Status.TheVariants.{DeckRefused, ScheduleRefused, ScriptRefused, NoMemory}
use Rattle.job_inputs.specs.Accepts.{Refused, IsInputRefusal}

-- the status of refused inputs
pub record IsRefusal (c : Config) (bytes : JobBytes) (s : Status) : Type 0 where
  pub exact : (s ≡ NoMemory) ⊎ (job c bytes ≡ Err s)
  pub kind : IsInputRefusal s

no_memory : (c : Config) (bytes : JobBytes) (s : Status) → s ≡ NoMemory → IsRefusal c bytes s
no_memory c bytes s e = record { exact = inl e; kind = subst IsInputRefusal (sym e) tt }

pub same_image : (n m : ℕ) (d e : List ℕ) (meant : Result Image DeckRefusal) →
    n ≡ m → d ≡ e → image n d ≡ meant → image m e ≡ meant
same_image n m d e meant sizes decks h =
    subst (λ k. image k e ≡ meant) sizes (subst (λ x. image n x ≡ meant) decks h)

pub deck_refused : (c : Config) (bytes : JobBytes) (n : ℕ) (d : List ℕ) (s : Status) →
    n ≡ 4096 * c.pages → d ≡ bytes.deck →
    Refused (image n d) deck.NoMemory DeckRefused s → IsRefusal c bytes s
unfolding job
deck_refused c bytes n d s size same (inl e) = no_memory c bytes s e
deck_refused c bytes n d s size same (inr (r, other, is, e)) = record {
  exact = inr (rw (e, same_image n (4096 * c.pages) d bytes.deck (Err r) size same is) refl);
  kind = subst IsInputRefusal (sym e) other;
}

pub schedule_refused : (c : Config) (bytes : JobBytes) (i : Image) (s : Status) →
    image (4096 * c.pages) bytes.deck ≡ Ok i →
    Refused (schedule c.cpus bytes.schedule) schedule_refusal.NoMemory ScheduleRefused s →
    IsRefusal c bytes s
unfolding job
schedule_refused c bytes i s d (inl e) = no_memory c bytes s e
schedule_refused c bytes i s d (inr (r, other, is, e)) = record {
  exact = inr (rw (e, d, is) refl);
  kind = subst IsInputRefusal (sym e) other;
}

pub script_refused : (c : Config) (bytes : JobBytes) (i : Image) (runs : List Run) (s : Status) →
    image (4096 * c.pages) bytes.deck ≡ Ok i → schedule c.cpus bytes.schedule ≡ Ok runs →
    Refused (script bytes.script) script_refusal.NoMemory ScriptRefused s → IsRefusal c bytes s
unfolding job
script_refused c bytes i runs s d h (inl e) = no_memory c bytes s e
script_refused c bytes i runs s d h (inr (r, other, is, e)) = record {
  exact = inr (rw (e, d, h, is) refl);
  kind = subst IsInputRefusal (sym e) other;
}

pub accepted : (c : Config) (bytes : JobBytes) (i : Image) (runs : List Run) (ls : List Strike) →
    image (4096 * c.pages) bytes.deck ≡ Ok i → schedule c.cpus bytes.schedule ≡ Ok runs →
    script bytes.script ≡ Ok ls →
    job c bytes ≡ Ok (record { image = i; console = bytes.console; runs = runs; strikes = ls })
unfolding job
accepted c bytes i runs ls d h l = rw (d, h, l) refl
