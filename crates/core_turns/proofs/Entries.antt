-- One entry after another is written into a journal.
use Rattle.std.proofs.Common.{◌≡◌, ℕ, ◌+◌, ◌<◌, List, [], ◌∷◌, ◌++◌, length, take, get_or, refl, sym, ap, ◌∙◌, append_assoc, append-nil, add-one}
use Rattle.std.proofs.lemmas.List.{map-append}
use Rattle.std.proofs.Math.Seq.{take-suc}
use Rattle.run_model.specs.declared.faults.Note.{Note}
use Rattle.run_model.specs.declared.logs.Entry.{Entry}
use Rattle.run_model.specs.declared.logs.What.{What}
use Rattle.run_model.specs.declared.logs.What.TheVariants as what
use Rattle.run_model.specs.Cores.{entries_of, stamped, entry}
use Rattle.core_turns.specs.Journals.{Journal}
use Rattle.core_turns.specs.Journals.{Logs}

pub logs_none : (j : Journal) → Logs j j []
logs_none j = record {
  turn = refl;
  cpu = refl;
  core = refl;
  entries = sym (append-nil j.entries);
}

pub logs_then : (a b c : Journal) (xs ys : List What) → Logs a b xs → Logs b c ys
    → Logs a c (xs ++ ys)
logs_then a b c xs ys f g = record {
  turn = g.turn ∙ f.turn;
  cpu = g.cpu ∙ f.cpu;
  core = g.core ∙ f.core;
  entries =
      let later : c.entries ≡ b.entries ++ stamped a.turn a.cpu.0 a.core.0 ys =
      rw (sym f.turn, sym f.cpu, sym f.core) g.entries in
      later ∙ (ap (λ (es : List Entry). es ++ stamped a.turn a.cpu.0 a.core.0 ys) f.entries
      ∙ (append_assoc a.entries _ _
      ∙ ap (λ (es : List Entry). a.entries ++ es)
      (sym (map-append (entry a.turn a.cpu.0 a.core.0) xs ys))));
}

pub note_more : (notes : List Note) (i : ℕ) (n : Note) → i < length notes
    → get_or notes i n ≡ n
    → entries_of (take (i + 1) notes)
    ≡ entries_of (take i notes) ++ what.Corrected n.word n.bit ∷ []
note_more notes i n lt is =
    rw add-one (ap entries_of (take-suc notes i n lt)
    ∙ (map-append (λ (q : Note). what.Corrected q.word q.bit) (take i notes) _
    ∙ ap (λ (q : Note). entries_of (take i notes) ++ what.Corrected q.word q.bit ∷ []) is))
