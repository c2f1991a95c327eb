-- A deck that has no image.
use Rattle.std.proofs.Common.{◌≡◌, ℕ, List, refl, sym, subst, true, inl, inr}
use Rattle.deck_model.specs.Image.{image}
use Rattle.deck_model.specs.declared.decks.DeckRefusal.TheVariants as refusal
use Rattle.g5_outside.specs.Views.{ShelfView, SinkView}
use Rattle.g5_reading.specs.Inputs.{IsIn}
use Rattle.job_inputs.specs.Accepts.{Refused}
use Rattle.program_model.specs.Inputs.{limit}
use Rattle.program_model.specs.declared.inputs.Input.TheVariants.{Deck}
use Rattle.program_model.specs.declared.status.Status.{Status}
use Rattle.program_model.specs.declared.status.Status.TheVariants.{DeckRefused}
use Rattle.deck_commands.specs.Disassembles.{FailsToDisassemble, storage_size}

pub refuses : (name deck : List ℕ) (at count : ℕ) (a b : ShelfView) (o : SinkView) (s : Status)
    → IsIn name (limit Deck) a deck → b.numbers ≡ a.numbers → b.found ≡ true
    → Refused (image storage_size deck) refusal.NoMemory DeckRefused s
    → FailsToDisassemble name at count a b o o s
refuses name deck at count a b o s read numbers found h = elim h [
  | inl none ↦
      subst (λ q. FailsToDisassemble name at count a b o o q) (sym none)
      (record { why = tt; numbers = numbers; out = refl })
  | inr why ↦
      subst (λ q. FailsToDisassemble name at count a b o o q) (sym why.3)
      (record {
        deck = deck;
        read = read;
        refused = why.2;
        numbers = numbers;
        out = refl;
        found = found;
      })
]
