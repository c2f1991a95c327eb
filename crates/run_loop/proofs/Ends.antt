-- What the loop's clause says to a reader.
use Rattle.std.proofs.Common.{◌≡◌, ℕ, suc, ◌<◌, ◌≤◌, List, [], ◌∷◌, ◌++◌, length, take, drop, sym, ap, ◌∙◌, subst, arith, append-nil, append_assoc, inl, inr, Result, Ok, Err}
use Rattle.std.specs.Prelude.{map, IsTrue}
use Rattle.std.specs.List.{All}
use Rattle.std.proofs.lemmas.Bool.{cases_lt}
use Rattle.std.proofs.lemmas.List.{take_all, take-append-drop, length-take-le, take-take}
use Rattle.std.proofs.lemmas.List.Elements.{All-take}
use Rattle.g5_outside.specs.Views.{ShelfView, SinkView}
use Rattle.g5_writing.specs.Outputs.{Puts}
use Rattle.g5_writing.specs.declared.outputs.OutputFiles.{OutputFiles}
use Rattle.g5_writing.proofs.Putting.{puts_stop, text-append}
use Rattle.run_model.specs.declared.logs.Config.{Config}
use Rattle.run_model.specs.declared.outputs.Counts.{Counts}
use Rattle.run_model.specs.declared.outputs.Place.TheVariants.{Log, Trace, Out}
use Rattle.run_model.specs.declared.schedules.RunKind.{RunKind}
use Rattle.run_model.specs.declared.schedules.RunKind.TheVariants.{Turns, Key, Return}
use Rattle.run_model.specs.Cores.{Choice, first_cores}
use Rattle.run_model.specs.Counts.{commits_after, count_turns, none_made}
use Rattle.run_model.specs.Pieces.{Piece, text}
use Rattle.run_model.specs.Runs.{Model, Told, run_tells}
use Rattle.run_model.specs.Schedule.{Fits}
use Rattle.run_model.specs.Texts.{turns_pieces}
use Rattle.run_laws.specs.Runs.{ValidKind, ValidTurns}
use Rattle.run_loop.specs.Engines.{EngineView}
use Rattle.run_loop.specs.Making.{Tells, MakesFrom, SoundAfter, tells_by, state_by}
use Rattle.run_loop.specs.Fronts.{PutsFront, Begins, ToldByTurns}
use Rattle.run_loop.proofs.Joining.{pieces_append, tells_append, sound_front}
use Rattle.run_loop.proofs.Telling.{all_told}

-- of the turns that were made, those in front told what the definition says
front_told : {E : Type 0} (files : OutputFiles) (start : Counts) (ks : List RunKind)
    (old new : EngineView) (a b : ShelfView) (o p : SinkView) (r : Result Counts E) (x : Model)
    (j : ℕ) → (m : MakesFrom files start ks old new a b o p r) → old.stands x → j ≤ m.made
    → SoundAfter old x (take j ks) → take j m.told ≡ tells_by old x (take j ks)
front_told files start ks old new a b o p r x j m h le sound =
    let front : take j (take m.made ks) ≡ take j ks = take-take j m.made ks le in
    let short : length (take m.made ks) ≡ m.made = length-take-le m.made ks m.most in
    m.tells.fronts x h j (omega (arith, le, short))
    (subst (λ z. SoundAfter old x z) (sym front) sound)
    ∙ ap (λ z. tells_by old x z) front

-- the front was made: what is behind it was written too, or cut short
made_front : {E : Type 0} (files : OutputFiles) (start : Counts) (ks : List RunKind)
    (old new : EngineView) (a b : ShelfView) (o p : SinkView) (r : Result Counts E) (x : Model)
    (j : ℕ) → (m : MakesFrom files start ks old new a b o p r) → old.stands x → j ≤ m.made
    → SoundAfter old x (take j ks)
    → PutsFront files (turns_pieces start.commits (tells_by old x (take j ks))) a b o p r
made_front files start ks old new a b o p r x j m h le sound =
    let n : ℕ = start.commits in
    let told : take j m.told ≡ tells_by old x (take j ks) =
    front_told files start ks old new a b o p r x j m h le sound in
    let more : List Piece = turns_pieces (commits_after n (take j m.told)) (drop j m.told) in
    let split : turns_pieces n m.told ≡ turns_pieces n (take j m.told) ++ more =
    ap (turns_pieces n) (sym (take-append-drop j m.told))
    ∙ pieces_append n (take j m.told) (drop j m.told) in
    record {
      more = more;
      puts = subst (λ w. Puts files w a b o p r)
          (split ∙ ap (λ z. turns_pieces n z ++ more) told) m.written;
    }

-- a fault came before the front was made
cut_front : {E : Type 0} (files : OutputFiles) (start : Counts) (ks : List RunKind)
    (old new : EngineView) (a b : ShelfView) (o p : SinkView) (r : Result Counts E) (x : Model)
    (j : ℕ) → (m : MakesFrom files start ks old new a b o p r) → old.stands x → m.made < j
    → j ≤ length ks → SoundAfter old x (take j ks)
    → PutsFront files (turns_pieces start.commits (tells_by old x (take j ks))) a b o p r
cut_front files start ks old new a b o p (Ok n) x j m h lt le sound =
    absurd (omega (arith, lt, le, m.all))
cut_front files start ks old new a b o p (Err e) x j m h lt le sound =
    let n : ℕ = start.commits in
    let ls : List RunKind = take j ks in
    let front : take m.made ls ≡ take m.made ks = take-take m.made j ks (omega (arith, lt)) in
    let before : SoundAfter old x (take m.made ks) =
    subst (λ z. SoundAfter old x z) front
    (sound_front old.lines old.config x ls m.made sound) in
    let told : m.told ≡ tells_by old x (take m.made ks) =
    all_told (take m.made ks) m.told old new x m.tells h before in
    let rest : List Told =
    run_tells old.lines old.config (state_by old x (take m.made ks)) (drop m.made ls) in
    let all : tells_by old x ls ≡ m.told ++ rest =
    ap (λ z. tells_by old x z) (sym (take-append-drop m.made ls))
    ∙ ap (λ z. tells_by old x (z ++ drop m.made ls)) front
    ∙ tells_append old.lines old.config x (take m.made ks) (drop m.made ls)
    ∙ ap (λ z. z ++ rest) (sym told) in
    let pieces : turns_pieces n m.told ++ turns_pieces (commits_after n m.told) rest
    ≡ turns_pieces n (tells_by old x ls) ++ [] =
    sym (pieces_append n m.told rest) ∙ ap (turns_pieces n) (sym all) ∙ sym (append-nil _) in
    record {
      more = [];
      puts = subst (λ w. Puts {T = Counts} files w a b o p (Err e)) pieces
          (puts_stop {T = Counts} files (turns_pieces n m.told)
          (turns_pieces (commits_after n m.told) rest) a b o p e e m.written);
    }

-- For every script: of the turns in front that are sound the outputs have the pieces of the
-- definition, and behind them those of the other turns; at a fault all of these cut short.
pub front_run : {E : Type 0} (files : OutputFiles) (start : Counts) (ks : List RunKind)
    (old new : EngineView) (a b : ShelfView) (o p : SinkView) (r : Result Counts E) (x : Model)
    (j : ℕ) → MakesFrom files start ks old new a b o p r → old.stands x → j ≤ length ks
    → SoundAfter old x (take j ks)
    → PutsFront files (turns_pieces start.commits (tells_by old x (take j ks))) a b o p r
front_run files start ks old new a b o p r x j m h le sound = elim (cases_lt m.made j) [
  | inl lt ↦ cut_front files start ks old new a b o p r x j m h lt le sound
  | inr made ↦ made_front files start ks old new a b o p r x j m h made sound
]

-- where all turns are sound, all that was written is the definition's, up to a fault
pub sound_pieces : {E : Type 0} (files : OutputFiles) (start : Counts) (ks : List RunKind)
    (old new : EngineView) (a b : ShelfView) (o p : SinkView) (r : Result Counts E) (x : Model)
    → MakesFrom files start ks old new a b o p r → old.stands x → SoundAfter old x ks
    → Puts files (turns_pieces start.commits (tells_by old x ks)) a b o p r
sound_pieces {E} files start ks old new a b o p (Ok n) x m h sound =
    let made : take m.made ks ≡ ks = take_all m.made ks (omega (arith, m.all)) in
    let told : m.told ≡ tells_by old x ks =
    all_told ks m.told old new x (subst (λ z. Tells z m.told old new) made m.tells) h sound in
    subst (λ z. Puts {E = E} files (turns_pieces start.commits z) a b o p (Ok n)) told m.written
sound_pieces {E} files start ks old new a b o p (Err e) x m h sound =
    let n : ℕ = start.commits in
    let told : m.told ≡ tells_by old x (take m.made ks) =
    all_told (take m.made ks) m.told old new x m.tells h
    (sound_front old.lines old.config x ks m.made sound) in
    let rest : List Told =
    run_tells old.lines old.config (state_by old x (take m.made ks)) (drop m.made ks) in
    let all : tells_by old x ks ≡ m.told ++ rest =
    ap (λ z. tells_by old x z) (sym (take-append-drop m.made ks))
    ∙ tells_append old.lines old.config x (take m.made ks) (drop m.made ks)
    ∙ ap (λ z. z ++ rest) (sym told) in
    let pieces : turns_pieces n m.told ++ turns_pieces (commits_after n m.told) rest
    ≡ turns_pieces n (tells_by old x ks) =
    sym (pieces_append n m.told rest) ∙ ap (turns_pieces n) (sym all) in
    subst (λ w. Puts {T = Counts} files w a b o p (Err e)) pieces
    (puts_stop {T = Counts} files (turns_pieces n m.told)
    (turns_pieces (commits_after n m.told) rest) a b o p e e m.written)

-- and so are the counts, and the state in which the engine is left
pub sound_counts : {E : Type 0} (files : OutputFiles) (start : Counts) (ks : List RunKind)
    (old new : EngineView) (a b : ShelfView) (o p : SinkView) (n : Counts) (x : Model)
    → MakesFrom {E = E} files start ks old new a b o p (Ok n) → old.stands x
    → SoundAfter old x ks
    → (n ≡ count_turns start (tells_by old x ks)) × new.stands (state_by old x ks)
sound_counts files start ks old new a b o p n x m h sound =
    let made : take m.made ks ≡ ks = take_all m.made ks (omega (arith, m.all)) in
    let all : Tells ks m.told old new = subst (λ z. Tells z m.told old new) made m.tells in (
      m.counted ∙ ap (count_turns start) (all_told ks m.told old new x all h sound),
      all.stands x h sound,
    )

-- ---- texts of outputs that are told

pub log_begins : {T E : Type 0} (files : OutputFiles) (front : List Piece) (a b : ShelfView)
    (o p : SinkView) (x : T) → PutsFront {E = E} files front a b o p (Ok x) → IsTrue a.told
    → Begins (b.text_of files.log.0) (a.text_of files.log.0 ++ text Log front)
log_begins files front a b o p x f t = record {
  more = text Log f.more;
  is = f.puts.grew.log t
      ∙ ap (λ z. a.text_of files.log.0 ++ z)
      (ap (text Log) f.puts.all ∙ text-append Log front f.more)
      ∙ sym (append_assoc (a.text_of files.log.0) (text Log front) (text Log f.more));
}

pub trace_begins : {T E : Type 0} (files : OutputFiles) (front : List Piece) (a b : ShelfView)
    (o p : SinkView) (x : T) → PutsFront {E = E} files front a b o p (Ok x) → IsTrue a.told
    → Begins (b.text_of files.trace.0) (a.text_of files.trace.0 ++ text Trace front)
trace_begins files front a b o p x f t = record {
  more = text Trace f.more;
  is = f.puts.grew.trace t
      ∙ ap (λ z. a.text_of files.trace.0 ++ z)
      (ap (text Trace) f.puts.all ∙ text-append Trace front f.more)
      ∙ sym (append_assoc (a.text_of files.trace.0) (text Trace front) (text Trace f.more));
}

pub console_begins : {T E : Type 0} (files : OutputFiles) (front : List Piece)
    (a b : ShelfView) (o p : SinkView) (x : T) → PutsFront {E = E} files front a b o p (Ok x)
    → IsTrue o.told → Begins p.taken (o.taken ++ text Out front)
console_begins files front a b o p x f t = record {
  more = text Out f.more;
  is = f.puts.grew.out t
      ∙ ap (λ z. o.taken ++ z) (ap (text Out) f.puts.all ∙ text-append Out front f.more)
      ∙ sym (append_assoc o.taken (text Out front) (text Out f.more));
}

-- ---- for every script: what the laws of runs ask for

pub valid_kind : (c : Config) (k : RunKind) → Fits c.cpus k → ValidKind c k
valid_kind c (Turns i) h = h
valid_kind c (Key i) h = tt
valid_kind c (Return k) h = tt

pub valid_turns : (c : Config) (xs : List Choice) (ks : List RunKind)
    → map (λ (x : Choice). x.kind) xs ≡ ks → All (λ k. Fits c.cpus k) ks → ValidTurns c xs
valid_turns c [] ks e h = tt
valid_turns c (x ∷ xs) [] e h = absurd (cc e)
valid_turns c (x ∷ xs) (k ∷ ks) e h =
    let tail : All (λ j. Fits c.cpus j) ks = λ i d lt. h (suc i) d (omega (arith, lt)) in (
      subst (ValidKind c) (cc e) (valid_kind c k (h 0 k (omega arith))),
      valid_turns c xs ks (cc e) tail,
    )

-- what an engine at its start told is what some turns of CPUs that it has tell
pub told_by_turns : {E : Type 0} (files : OutputFiles) (ks : List RunKind)
    (old new : EngineView) (a b : ShelfView) (o p : SinkView) (r : Result Counts E)
    → (m : MakesFrom files none_made ks old new a b o p r)
    → old.stands_by_mode (first_cores old.config) → All (λ k. Fits old.config.cpus k) ks
    → ToldByTurns old new m.told
told_by_turns files ks old new a b o p r m h fits =
    let by = m.tells.by_mode (first_cores old.config) h in
    record {
      choices = by.choices;
      valid = valid_turns old.config by.choices (take m.made ks) by.kinds_are
          (All-take (λ k. Fits old.config.cpus k) m.made ks fits);
      tells = by.outlines_are;
      stands = by.stands;
    }
