-- What the two files hold, by their names.
use Rattle.std.proofs.Common.{◌≡◌, ◌≢◌, inl, inr, subst, ℕ, Bool, true, false, List, [], ◌∷◌, ◌++◌, refl, sym, ◌∙◌, ap, IsTrue}
use Rattle.std.specs.Str.{bytes_eq}
use Rattle.std.proofs.lemmas.Slice.Eq.{bytes_eq-Decides}
use Rattle.g5_outside.specs.Views.{ShelfView, SinkView, Gave}
use Rattle.g5_writing.specs.Outputs.{Grew}
use Rattle.g5_writing.specs.Starts.{text_named, OnlyNames}
use Rattle.g5_writing.specs.declared.outputs.OutputFiles.{OutputFiles}
use Rattle.run_model.specs.declared.outputs.Place.TheVariants.{Log, Trace}
use Rattle.run_model.specs.Pieces.{Piece, text}
use Rattle.program_model.specs.Commands.{JobNames}
use Rattle.g5_run.specs.Holding.{Holds, HasOutputs}

pub not_true : (b : Bool) → (b ≡ true → ⊥) → b ≡ false
not_true true h = absurd (h refl)
not_true false h = refl

pub same_bytes : (xs : List ℕ) → bytes_eq xs xs ≡ true
same_bytes xs = (bytes_eq-Decides xs xs).1 refl

pub other_bytes : (xs ys : List ℕ) → xs ≢ ys → bytes_eq xs ys ≡ false
other_bytes xs ys ne = not_true (bytes_eq xs ys) (λ e. ne ((bytes_eq-Decides xs ys).0 e))

-- of two files, the newer is found by its name, and so is the older
pub named_newer : (s : ShelfView) (newer older : ℕ) (name : List ℕ) → s.numbers ≡ newer ∷ older ∷ [] → s.name_of newer ≡ name → text_named s name ≡ s.text_of newer
named_newer s newer older name numbers is = rw (numbers, is, same_bytes name) refl

pub named_older : (s : ShelfView) (newer older : ℕ) (name other : List ℕ) → s.numbers ≡ newer ∷ older ∷ [] → s.name_of newer ≡ other → s.name_of older ≡ name → name ≢ other → text_named s name ≡ s.text_of older
named_older s newer older name other numbers not is ne = rw (numbers, not, is, other_bytes other name (λ e. ne (sym e)), same_bytes name) refl

-- what was written to two empty files
pub holds_of : (names : JobNames) (files : OutputFiles) (pieces : List Piece) (s t : ShelfView) (o p : SinkView) → s.numbers ≡ files.trace.0 ∷ files.log.0 ∷ [] → (IsTrue s.told → s.name_of files.log.0 ≡ names.log) → (IsTrue s.told → s.name_of files.trace.0 ≡ names.trace) → names.log ≢ names.trace → (IsTrue s.told → text_named s names.log ≡ []) → (IsTrue s.told → text_named s names.trace ≡ []) → Grew files pieces s t o p → Holds names pieces t o p
holds_of names files pieces s t o p numbers log_name trace_name differ log_empty trace_empty g = record {
  log = λ told_now.
      let told : IsTrue s.told = sym g.told ∙ told_now in
      named_older t files.trace.0 files.log.0 names.log names.trace (g.numbers ∙ numbers) (g.names told files.trace.0 ∙ trace_name told) (g.names told files.log.0 ∙ log_name told) differ
      ∙ g.log told
      ∙ ap (λ z. z ++ text Log pieces) (sym (named_older s files.trace.0 files.log.0 names.log names.trace numbers (trace_name told) (log_name told) differ) ∙ log_empty told);
  trace = λ told_now.
      let told : IsTrue s.told = sym g.told ∙ told_now in
      named_newer t files.trace.0 files.log.0 names.trace (g.numbers ∙ numbers) (g.names told files.trace.0 ∙ trace_name told)
      ∙ g.trace told
      ∙ ap (λ z. z ++ text Trace pieces) (sym (named_newer s files.trace.0 files.log.0 names.trace numbers (trace_name told)) ∙ trace_empty told);
  out = g.out;
}

-- the two files that were started are there still, under their names
pub outputs_of : (names : JobNames) (files : OutputFiles) (pieces : List Piece) (s t : ShelfView) (o p : SinkView)
    → s.numbers ≡ files.trace.0 ∷ files.log.0 ∷ []
    → (IsTrue s.told → s.name_of files.log.0 ≡ names.log) → (IsTrue s.told → s.name_of files.trace.0 ≡ names.trace)
    → Grew files pieces s t o p → HasOutputs names t
outputs_of names files pieces s t o p numbers log_name trace_name g = record {
  log = files.log.0;
  trace = files.trace.0;
  numbers = g.numbers ∙ numbers;
  log_name = λ now. g.names (sym g.told ∙ now) files.log.0 ∙ log_name (sym g.told ∙ now);
  trace_name = λ now. g.names (sym g.told ∙ now) files.trace.0 ∙ trace_name (sym g.told ∙ now);
}

-- writing creates no file
pub still_named : (names : JobNames) (files : OutputFiles) (pieces : List Piece) (s t : ShelfView) (o p : SinkView)
    → (IsTrue s.told → OnlyNames names.log names.trace s) → Grew files pieces s t o p → IsTrue t.told → OnlyNames names.log names.trace t
still_named names files pieces s t o p named g now = λ n gave.
    elim (named (sym g.told ∙ now) n (subst (λ (ns : List ℕ). Gave ns n) g.numbers gave)) [
      | inl log ↦ inl (g.names (sym g.told ∙ now) n ∙ log)
      | inr trace ↦ inr (g.names (sym g.told ∙ now) n ∙ trace)
    ]
