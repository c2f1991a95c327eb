-- A whole run from its parts: the head of the log, the turns, the tail.
use Rattle.std.proofs.Common.{◌≡◌, ℕ, ◌+◌, ◌^◌, ◌≤◌, true, false, List, [], ◌∷◌, ◌++◌, refl, sym, ap, subst, arith, Result, Ok, Err}
use Rattle.std.proofs.lemmas.Bool.{false≢true}
use Rattle.g5_outside.specs.Views.{ShelfView, SinkView, Gave}
use Rattle.g5_writing.specs.Outputs.{HasFiles, Puts}
use Rattle.g5_writing.specs.declared.outputs.OutputFiles.{OutputFiles}
use Rattle.g5_writing.proofs.Putting.{puts_err_as, puts_ok_as, puts_then}
use Rattle.run_model.specs.declared.logs.Config.{Config}
use Rattle.run_model.specs.declared.outputs.Counts.{Counts}
use Rattle.run_model.specs.declared.outputs.Place.TheVariants.{Log}
use Rattle.run_model.specs.declared.schedules.Run.{Run}
use Rattle.run_model.specs.declared.schedules.RunKind.{RunKind}
use Rattle.run_model.specs.Cores.{first_cores}
use Rattle.run_model.specs.Counts.{counts, none_made}
use Rattle.run_model.specs.LogLines.{head, tail}
use Rattle.run_model.specs.Pieces.{Piece, piece}
use Rattle.run_model.specs.Runs.{Told}
use Rattle.run_model.specs.Schedule.{kinds_of}
use Rattle.run_model.specs.Texts.{front, turns_pieces, whole}
use Rattle.run_laws.proofs.Standing.{apart_first}
use Rattle.silicon.specs.Chip.{Chip}
use Rattle.run_loop.specs.Engines.{EngineView}
use Rattle.run_loop.specs.Making.{MakesFrom}
use Rattle.run_loop.proofs.Telling.{tells_none}
use Rattle.machine_runs.specs.Views.{IsReady}
use Rattle.machine_runs.specs.Whole.{AtStart, MakesWhole}
use Rattle.machine_runs.specs.declared.twin_machine.TwinMachine.{TwinMachine}

-- ---- the start

pub ready_first : (e : TwinMachine) (z : Chip) → AtStart e z → IsReady e z
ready_first e z s = record {
  begun = λ c lt. let none = s.begun c lt in omega (arith, none);
  calls_a = omega (arith, s.calls_a);
  calls_b = omega (arith, s.calls_b);
  cores = first_cores e.machine.config;
  by_mode = s.machine;
  apart = apart_first e.machine.config e.machine.fits.most;
}

pub room_first : (e : TwinMachine) (z : Chip) (n : ℕ) → AtStart e z → n ≤ 1000000
    → e.machine.counts.turns + n ≤ 2 ^ 47
room_first e z n s few =
    let none : 0 ≡ e.machine.counts.turns = s.machine.turns in
    omega (arith, few, none)

-- ---- the files are still there

pub files_stay : {T E : Type 0} (files : OutputFiles) (xs : List Piece) (a b : ShelfView)
    (o p : SinkView) (r : Result T E) → Puts files xs a b o p r → HasFiles a files
    → HasFiles b files
files_stay files xs a b o p r h has = record {
  log = subst (λ ns. Gave ns files.log.0) (sym h.grew.numbers) has.log;
  trace = subst (λ ns. Gave ns files.trace.0) (sym h.grew.numbers) has.trace;
  two = has.two;
}

-- ---- what the calls answered, in the words of the run

pub head_said : {E : Type 0} (files : OutputFiles) (c d : Config) (a b : ShelfView)
    (o p : SinkView) (r : Result (Unit {0}) E) → d ≡ c
    → Puts files (piece Log (head d) ∷ []) a b o p r
    → Puts files (piece Log (head c) ∷ []) a b o p r
head_said files c d a b o p r e h =
    subst (λ q. Puts files (piece Log (head q) ∷ []) a b o p r) e h

pub turns_said : {E : Type 0} (files : OutputFiles) (start : Counts) (rs ss : List Run)
    (old new : EngineView) (a b : ShelfView) (o p : SinkView) (r : Result Counts E)
    → start ≡ none_made → ss ≡ rs
    → MakesFrom files start (kinds_of ss) old new a b o p r
    → MakesFrom files none_made (kinds_of rs) old new a b o p r
turns_said files start rs ss old new a b o p r none same m =
    subst (λ z. MakesFrom files none_made (kinds_of z) old new a b o p r) same
    (subst (λ n. MakesFrom files n (kinds_of ss) old new a b o p r) none m)

-- ---- the parts one after another

-- a fault in the head: no turn is made
pub head_failed : {E : Type 0} (files : OutputFiles) (kinds : List RunKind) (old : EngineView)
    (a b : ShelfView) (o p : SinkView) (e : E)
    → Puts {T = Unit {0}} files (piece Log (head old.config) ∷ []) a b o p (Err e)
    → MakesWhole files kinds old old a b o p (Err e)
unfolding front
head_failed files kinds old a b o p e h = record {
  made = 0;
  most = omega arith;
  told = [];
  tells = tells_none old;
  ended = false;
  all = λ no. absurd (false≢true no);
  fine = tt;
  puts = puts_err_as {T = Unit {0}} {U = Counts} files (front old.config []) a b o p e e h;
  counted = tt;
}

-- a fault while turns are made
pub turns_failed : {E : Type 0} (files : OutputFiles) (kinds : List RunKind)
    (old new : EngineView) (a b c : ShelfView) (o p q : SinkView) (e : E)
    → Puts {T = Unit {0}} {E = E} files (piece Log (head old.config) ∷ []) a b o p (Ok tt)
    → MakesFrom files none_made kinds old new b c p q (Err e)
    → MakesWhole files kinds old new a c o q (Err e)
unfolding front
turns_failed {E} files kinds old new a b c o p q e h m = record {
  made = m.made;
  most = m.most;
  told = m.told;
  tells = m.tells;
  ended = false;
  all = λ no. absurd (false≢true no);
  fine = tt;
  puts = puts_then {T = Unit {0}} files (piece Log (head old.config) ∷ [])
      (turns_pieces 0 m.told) a b c o p q tt (Err e) h m.written;
  counted = tt;
}

-- the tail's line is that of the turns that were made
tail_is : (n : Counts) (told : List Told) → n ≡ counts told
    → tail n.turns n.returned ≡ tail (counts told).turns (counts told).returned
tail_is n told e = ap (λ (k : Counts). tail k.turns k.returned) e

-- all turns are made: what was written is whole, or was cut in the tail
whole_puts : {E : Type 0} (files : OutputFiles) (kinds : List RunKind) (old new : EngineView)
    (a b c d : ShelfView) (o p q s : SinkView) (n : Counts) (r : Result (Unit {0}) E)
    → Puts {T = Unit {0}} {E = E} files (piece Log (head old.config) ∷ []) a b o p (Ok tt)
    → (m : MakesFrom {E = E} files none_made kinds old new b c p q (Ok n))
    → Puts files (piece Log (tail n.turns n.returned) ∷ []) c d q s r
    → Puts files (whole old.config m.told) a d o s r
unfolding whole
whole_puts {E} files kinds old new a b c d o p q s n r h m t =
    let line : List Piece = piece Log (tail (counts m.told).turns (counts m.told).returned) ∷ [] in
    let last : Puts files line c d q s r =
    subst (λ z. Puts files (piece Log z ∷ []) c d q s r) (tail_is n m.told m.counted) t in
    puts_then {T = Unit {0}} files (piece Log (head old.config) ∷ [])
    (turns_pieces 0 m.told ++ line) a b d o p s tt r h
    (puts_then {T = Counts} files (turns_pieces 0 m.told) line b c d p q s n r m.written last)

pub tail_failed : {E : Type 0} (files : OutputFiles) (kinds : List RunKind)
    (old new : EngineView) (a b c d : ShelfView) (o p q s : SinkView) (n : Counts) (e : E)
    → Puts {T = Unit {0}} {E = E} files (piece Log (head old.config) ∷ []) a b o p (Ok tt)
    → MakesFrom {E = E} files none_made kinds old new b c p q (Ok n)
    → Puts {T = Unit {0}} files (piece Log (tail n.turns n.returned) ∷ []) c d q s (Err e)
    → MakesWhole files kinds old new a d o s (Err e)
tail_failed {E} files kinds old new a b c d o p q s n e h m t = record {
  made = m.made;
  most = m.most;
  told = m.told;
  tells = m.tells;
  ended = true;
  all = λ yes. m.all;
  fine = tt;
  puts = puts_err_as {T = Unit {0}} {U = Counts} files (whole old.config m.told) a d o s e e
      (whole_puts {E = E} files kinds old new a b c d o p q s n (Err e) h m t);
  counted = tt;
}

pub all_made : {E : Type 0} (files : OutputFiles) (kinds : List RunKind) (old new : EngineView)
    (a b c d : ShelfView) (o p q s : SinkView) (n : Counts)
    → Puts {T = Unit {0}} {E = E} files (piece Log (head old.config) ∷ []) a b o p (Ok tt)
    → MakesFrom {E = E} files none_made kinds old new b c p q (Ok n)
    → Puts {T = Unit {0}} {E = E} files (piece Log (tail n.turns n.returned) ∷ []) c d q s (Ok tt)
    → MakesWhole {E = E} files kinds old new a d o s (Ok n)
all_made {E} files kinds old new a b c d o p q s n h m t = record {
  made = m.made;
  most = m.most;
  told = m.told;
  tells = m.tells;
  ended = true;
  all = λ yes. m.all;
  fine = refl;
  puts = puts_ok_as {T = Unit {0}} {U = Counts} {E = E} files (whole old.config m.told) a d o s tt n
      (whole_puts {E = E} files kinds old new a b c d o p q s n (Ok tt) h m t);
  counted = m.counted;
}
