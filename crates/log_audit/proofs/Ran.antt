-- The logs of runs are judged lawful.
use Rattle.std.proofs.Common.{◌≡◌, ℕ, List, [], ◌∷◌, ◌++◌, length, Option, Some, None, refl, sym, ap, ◌∙◌, append_assoc}
use Rattle.std.proofs.lemmas.List.{append-nil}
use Rattle.esa_model.specs.declared.machine.Event.{Event}
use Rattle.esa_model.specs.declared.machine.Event.TheVariants.{Commit, Idle, Stop, Key}
use Rattle.run_model.specs.declared.logs.Config.{Config}
use Rattle.run_model.specs.declared.logs.Entry.{Entry}
use Rattle.run_model.specs.declared.outputs.Place.TheVariants.{Log}
use Rattle.run_model.specs.Counts.{commits_by, counts}
use Rattle.run_model.specs.Lawful.{AllMeet, Lawful, Meets}
use Rattle.run_model.specs.LogLines.{entry_line, head, heading, tail}
use Rattle.run_model.specs.Pieces.{piece, text}
use Rattle.run_model.specs.Runs.{Told, entries}
use Rattle.run_model.specs.Texts.{commit_pieces, entry_pieces, turn_pieces, turns_pieces, whole}
use Rattle.run_laws.proofs.Same.{text_append}
use Rattle.run_laws.proofs.Summing.{counted}
use Rattle.run_laws.proofs.Tellings.{lawful_told}
use Rattle.log_audit.specs.Verdict.{audited, config_of}
use Rattle.log_audit.specs.Written.{LawfulIsYes, RunsAreYes, entry_lines, log_text, said, told_of}
use Rattle.log_audit.proofs.Verdicts.{yes_exactly}
use Rattle.log_audit.proofs.Writings.{written_log_is_read}

-- ---- the storage counts for nothing

abbrev bare : Config → Config
bare c = config_of (heading c.cpus c.spares c.threshold)

bare_meets :
    (c : Config) (last : ℕ) (past : List Entry) (e : Entry) → Meets c last past e
    → Meets (bare c) last past e
bare_meets c last past e m = record {
  turn = m.turn;
  core = m.core;
  retry = m.retry;
  fenced = m.fenced;
  spared = m.spared;
  stop = m.stop;
  returned = m.returned;
}

bare_all :
    (c : Config) (last : ℕ) (past es : List Entry) → AllMeet c last past es
    → AllMeet (bare c) last past es
bare_all c last past [] m = tt
bare_all c last past (e ∷ es) m =
    (bare_meets c last past e m.0, bare_all c last (e ∷ past) es m.1)

pub lawful_is_yes : LawfulIsYes
lawful_is_yes c es n m w law =
    (yes_exactly (log_text c es n m) (told_of es n)).1
    (record {
      log = said c es n m;
      form = written_log_is_read c es n m w;
      lawful = record { all = bare_all c n [] es law.all; tail = law.tail };
      counts = refl;
    })

-- ---- the log of a run

lines_append :
    (xs ys : List Entry) → entry_lines (xs ++ ys) ≡ entry_lines xs ++ entry_lines ys
lines_append [] ys = refl
lines_append (x ∷ xs) ys =
    ap (λ z. entry_line x ++ z) (lines_append xs ys)
    ∙ sym (append_assoc (entry_line x) (entry_lines xs) (entry_lines ys))

entries_text : (es : List Entry) → text Log (entry_pieces es) ≡ entry_lines es
entries_text [] = refl
entries_text (e ∷ es) = ap (λ z. entry_line e ++ z) (entries_text es)

commit_text : (n : ℕ) (t : Told) (o : Option Event) → text Log (commit_pieces n t o) ≡ []
commit_text n t None = refl
commit_text n t (Some (Commit i)) = refl
commit_text n t (Some (Idle i)) = refl
commit_text n t (Some (Stop i)) = refl
commit_text n t (Some (Key i)) = refl

turn_text : (n : ℕ) (t : Told) → text Log (turn_pieces n t) ≡ entry_lines t.entries
unfolding turn_pieces
turn_text n t =
    text_append Log (entry_pieces t.entries) (commit_pieces n t t.event)
    ∙ ap (λ z. text Log (entry_pieces t.entries) ++ z) (commit_text n t t.event)
    ∙ append-nil (text Log (entry_pieces t.entries)) ∙ entries_text t.entries

turns_text : (n : ℕ) (ts : List Told) → text Log (turns_pieces n ts) ≡ entry_lines (entries ts)
turns_text n [] = refl
turns_text n (t ∷ ts) =
    let rest = turns_pieces (commits_by t.event n) ts in
    text_append Log (turn_pieces n t) rest
    ∙ ap (λ z. z ++ text Log rest) (turn_text n t)
    ∙ ap (λ z. entry_lines t.entries ++ z) (turns_text (commits_by t.event n) ts)
    ∙ sym (lines_append t.entries (entries ts))

whole_text :
    (c : Config) (ts : List Told)
    → text Log (whole c ts) ≡ log_text c (entries ts) (length ts) (counts ts).returned
unfolding whole
whole_text c ts =
    let last = tail (counts ts).turns (counts ts).returned in
    ap (λ z. head c ++ z)
    (text_append Log (turns_pieces 0 ts) (piece Log last ∷ [])
    ∙ ap (λ z. z ++ (last ++ [])) (turns_text 0 ts)
    ∙ ap (λ z. entry_lines (entries ts) ++ z) (append-nil last)
    ∙ ap (λ k. entry_lines (entries ts) ++ tail k (counts ts).returned) (counted ts).turns)

pub runs_are_yes : RunsAreYes
runs_are_yes c xs ts valid told w =
    let law : Lawful c (length ts) (counts ts).returned (entries ts) =
    lawful_told c xs ts w.cpus valid told in
    ap audited (whole_text c ts)
    ∙ lawful_is_yes c (entries ts) (length ts) (counts ts).returned w law
