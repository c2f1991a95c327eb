-- The first turns of a run from their parts: the head of the log, and the turns.
use Rattle.std.proofs.Common.{◌≡◌, ℕ, ◌+◌, ◌^◌, ◌≤◌, List, [], ◌∷◌, take, drop, refl, sym, ap, subst, arith, Result, Ok, Err}
use Rattle.g5_outside.specs.Views.{ShelfView, SinkView}
use Rattle.g5_writing.specs.Outputs.{Puts}
use Rattle.g5_writing.specs.declared.outputs.OutputFiles.{OutputFiles}
use Rattle.g5_writing.proofs.Putting.{puts_err_as, puts_then}
use Rattle.run_model.specs.declared.outputs.Counts.{Counts}
use Rattle.run_model.specs.declared.outputs.Place.TheVariants.{Log}
use Rattle.run_model.specs.declared.schedules.Run.{Run}
use Rattle.run_model.specs.declared.schedules.RunKind.{RunKind}
use Rattle.run_model.specs.Counts.{none_made}
use Rattle.run_model.specs.LogLines.{head}
use Rattle.run_model.specs.Pieces.{piece}
use Rattle.run_model.specs.Schedule.{kinds_of}
use Rattle.run_model.specs.Texts.{front, turns_pieces}
use Rattle.run_loop.specs.Bounds.{Below}
use Rattle.run_loop.specs.Engines.{EngineView}
use Rattle.run_loop.specs.Making.{MakesFrom}
use Rattle.run_loop.proofs.Telling.{tells_none}
use Rattle.saved_runs.specs.Parts.{MakesFirst}

-- ---- the counts before the first turn

pub none_below : (n : Counts) → n ≡ none_made → Below (2 ^ 60) n
none_below n e = subst (λ z. Below (2 ^ 60) z) (sym e) (record {
  turns = omega arith;
  commits = omega arith;
  fails = omega arith;
  retries = omega arith;
  corrected = omega arith;
  spared = omega arith;
  stopped = omega arith;
  returned = omega arith;
})

pub none_turned : (n : Counts) (m : ℕ) → n ≡ none_made → n.turns ≤ m
none_turned n m e = let none : n.turns ≡ 0 = ap (λ z. z.turns) e in omega (arith, none)

pub none_committed : (n : Counts) → n ≡ none_made → n.commits ≤ n.turns
none_committed n e = let none : n.commits ≡ 0 = ap (λ z. z.commits) e in omega (arith, none)

-- ---- what the calls answered, in the words of the first turns

pub first_said : {E : Type 0} (files : OutputFiles) (start : Counts) (rs ss : List Run) (most : ℕ)
    (old new : EngineView) (a b : ShelfView) (o p : SinkView) (r : Result Counts E)
    → start ≡ none_made → ss ≡ rs
    → MakesFrom files start (take most (drop start.turns (kinds_of ss))) old new a b o p r
    → MakesFrom files none_made (take most (kinds_of rs)) old new a b o p r
first_said files start rs ss most old new a b o p r none same m =
    subst (λ z. MakesFrom files none_made (take most (kinds_of z)) old new a b o p r) same
    (subst (λ n. MakesFrom files n (take most (drop n.turns (kinds_of ss))) old new a b o p r)
    none m)

-- ---- the parts one after another

-- a fault in the head: no turn is made
pub first_failed : {E : Type 0} (files : OutputFiles) (kinds : List RunKind) (old : EngineView)
    (a b : ShelfView) (o p : SinkView) (e : E)
    → Puts {T = Unit {0}} files (piece Log (head old.config) ∷ []) a b o p (Err e)
    → MakesFirst files kinds old old a b o p (Err e)
unfolding front
first_failed files kinds old a b o p e h = record {
  made = 0;
  most = omega arith;
  told = [];
  tells = tells_none old;
  all = tt;
  puts = puts_err_as {T = Unit {0}} {U = Counts} files (front old.config []) a b o p e e h;
  counted = tt;
}

-- the turns behind the head
pub first_made : {E : Type 0} (files : OutputFiles) (kinds : List RunKind)
    (old new : EngineView) (a b c : ShelfView) (o p q : SinkView) (r : Result Counts E)
    → Puts {T = Unit {0}} {E = E} files (piece Log (head old.config) ∷ []) a b o p (Ok tt)
    → MakesFrom files none_made kinds old new b c p q r
    → MakesFirst files kinds old new a c o q r
unfolding front
first_made {E} files kinds old new a b c o p q r h m = record {
  made = m.made;
  most = m.most;
  told = m.told;
  tells = m.tells;
  all = m.all;
  puts = puts_then {T = Unit {0}} files (piece Log (head old.config) ∷ [])
      (turns_pieces 0 m.told) a b c o p q tt r h m.written;
  counted = m.counted;
}
