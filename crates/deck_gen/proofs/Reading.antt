-- The generated texts are accepted.
use Rattle.std.proofs.Common.{◌≡◌, ℕ, ◌/◌, ◌≤◌, List, sym, ◌∙◌, ap, subst, refl, arith, lit≤, Result, Ok, Err}
use Rattle.std.specs.Prelude.{IsOkAnd}
use Rattle.deck_model.specs.Image.{Image, image}
use Rattle.deck_model.specs.declared.decks.DeckRefusal.{DeckRefusal}
use Rattle.run_model.specs.Schedule.{schedule}
use Rattle.run_model.specs.Script.{script}
use Rattle.program_model.specs.Accepted.{JobBytes, job, with_image, generated_bytes}
use Rattle.program_model.specs.Draws.{after}
use Rattle.program_model.specs.GeneratedDeck.{deck_draws}
use Rattle.program_model.specs.Generator.{generated, generated_strikes, generated_config, schedule_draws}
use Rattle.deck_gen.specs.Accepted.{IsDeck, IsSchedule, IsScript, IsInput, Gives, generated_runs}
use Rattle.deck_gen.proofs.ReadDeck.{has_image}
use Rattle.deck_gen.proofs.ReadRuns.{schedule_back, turns_back}
use Rattle.deck_gen.proofs.ReadLines.{script_back}
use Rattle.deck_gen.proofs.DrawnStrikes.{in_form, length-strikes, within}

pub is_deck :
    (number turns : ℕ) (text : List ℕ) → text ≡ (generated number turns).deck → IsDeck text
unfolding generated
is_deck number turns text e = subst IsDeck (sym e) (has_image 131072 number (lit≤ tt))

pub is_schedule :
    (number turns : ℕ) (text : List ℕ) → 1 ≤ turns → turns ≤ 1000000
    → text ≡ (generated number turns).schedule → IsSchedule number turns text
unfolding generated
is_schedule number turns text h k e = record {
  read = ap (schedule 8) e ∙ schedule_back turns (after deck_draws number) h k;
  whole = turns_back turns (after deck_draws number);
}

pub is_script :
    (number turns : ℕ) (text : List ℕ) → turns ≤ 1000000
    → text ≡ (generated number turns).script → IsScript number turns text
unfolding generated
is_script number turns text k e =
    let x = after deck_draws number in
    let y = after (schedule_draws turns x) x in
    let few : turns / 500 ≤ 10000 = omega arith in
    let l = length-strikes (turns / 500) 0 y in
    record {
      read =
          ap script e
          ∙ script_back (generated_strikes number turns) (in_form (turns / 500) y few)
          (omega (arith, l));
      within = within (turns / 500) y;
    }

-- ---- all of it

job_of :
    (number turns : ℕ) (bytes : JobBytes) (r : Result Image DeckRefusal)
    → IsOkAnd r (λ (i : Image). i.entry ≡ 65536)
    → schedule 8 bytes.schedule ≡ Ok (generated_runs number turns)
    → script bytes.script ≡ Ok (generated_strikes number turns)
    → IsOkAnd (with_image generated_config bytes r) (λ j. Gives number turns j)
job_of number turns bytes (Err e) h s t = absurd h
job_of number turns bytes (Ok i) h s t =
    rw (s, t) (record { entry = h; runs = refl; strikes = refl })

pub is_input :
    (number turns : ℕ) → 1 ≤ turns → turns ≤ 1000000 → IsInput number turns
unfolding job
is_input number turns h k =
    let bytes = generated_bytes number turns in
    job_of number turns bytes (image 131072 bytes.deck) (is_deck number turns bytes.deck refl)
    (is_schedule number turns bytes.schedule h k refl).read
    (is_script number turns bytes.script k refl).read
