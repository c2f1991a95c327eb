-- The rest of a run from its parts: the turns, and the tail of the log.
use Rattle.std.proofs.Common.{◌≡◌, ℕ, ◌+◌, ◌-◌, ◌^◌, ◌≤◌, true, false, List, [], ◌∷◌, ◌++◌, length, take, drop, refl, sym, ap, ◌∙◌, subst, arith, Result, Ok, Err}
use Rattle.std.proofs.lemmas.Bool.{false≢true}
use Rattle.std.proofs.lemmas.List.{take_all, length-drop}
use Rattle.g5_outside.specs.Views.{ShelfView, SinkView}
use Rattle.g5_writing.specs.Outputs.{Puts}
use Rattle.g5_writing.specs.declared.outputs.OutputFiles.{OutputFiles}
use Rattle.g5_writing.proofs.Putting.{puts_err_as, puts_ok_as, puts_then}
use Rattle.run_model.specs.declared.outputs.Counts.{Counts}
use Rattle.run_model.specs.declared.outputs.Place.TheVariants.{Log}
use Rattle.run_model.specs.declared.schedules.Run.{Run}
use Rattle.run_model.specs.declared.schedules.RunKind.{RunKind}
use Rattle.run_model.specs.Counts.{count_turns}
use Rattle.run_model.specs.LogLines.{tail}
use Rattle.run_model.specs.Pieces.{Piece, piece}
use Rattle.run_model.specs.Schedule.{kinds_of, turns_of}
use Rattle.run_model.specs.Texts.{turns_pieces}
use Rattle.run_loop.specs.Engines.{EngineView}
use Rattle.run_loop.specs.Making.{MakesFrom}
use Rattle.run_loop.proofs.Runs.{kinds_length}
use Rattle.saved_runs.specs.Parts.{MakesRest, rest_by}

-- ---- what the calls answered, in the words of the rest

-- at most as many turns as the schedule has are all of them
all_left : (rs : List Run) (n most : ℕ) → most ≡ turns_of rs
    → take most (drop n (kinds_of rs)) ≡ drop n (kinds_of rs)
all_left rs n most e =
    let long : length (kinds_of rs) ≡ turns_of rs = kinds_length rs in
    let left : length (drop n (kinds_of rs)) ≡ length (kinds_of rs) - n =
    length-drop n (kinds_of rs) in
    take_all most (drop n (kinds_of rs)) (omega (arith, long, left, e))

pub rest_said : {E : Type 0} (files : OutputFiles) (start : Counts) (rs ss : List Run) (most : ℕ)
    (old new : EngineView) (a b : ShelfView) (o p : SinkView) (r : Result Counts E)
    → most ≡ turns_of rs → ss ≡ rs
    → MakesFrom files start (take most (drop start.turns (kinds_of ss))) old new a b o p r
    → MakesFrom files start (drop start.turns (kinds_of rs)) old new a b o p r
rest_said files start rs ss most old new a b o p r all same m =
    subst (λ ks. MakesFrom files start ks old new a b o p r) (all_left rs start.turns most all)
    (subst (λ z. MakesFrom files start (take most (drop start.turns (kinds_of z))) old new a b o p r)
    same m)

-- ---- the parts one after another

-- a fault while turns are made
pub rest_failed : {E : Type 0} (files : OutputFiles) (start : Counts) (kinds : List RunKind)
    (old new : EngineView) (a b : ShelfView) (o p : SinkView) (e : E)
    → MakesFrom files start kinds old new a b o p (Err e)
    → MakesRest files start kinds old new a b o p (Err e)
rest_failed files start kinds old new a b o p e m = record {
  made = m.made;
  most = m.most;
  told = m.told;
  tells = m.tells;
  ended = false;
  all = λ no. absurd (false≢true no);
  fine = tt;
  puts = m.written;
  counted = tt;
}

-- all turns are made: what was written is all of the rest, or was cut in the tail
rest_puts : {E : Type 0} (files : OutputFiles) (start : Counts) (kinds : List RunKind)
    (old new : EngineView) (a b c : ShelfView) (o p q : SinkView) (n : Counts)
    (r : Result (Unit {0}) E)
    → (m : MakesFrom {E = E} files start kinds old new a b o p (Ok n))
    → Puts files (piece Log (tail n.turns n.returned) ∷ []) b c p q r
    → Puts files (rest_by true start m.told) a c o q r
rest_puts {E} files start kinds old new a b c o p q n r m t =
    let k : Counts = count_turns start m.told in
    let line : List Piece = piece Log (tail k.turns k.returned) ∷ [] in
    let same : tail n.turns n.returned ≡ tail k.turns k.returned =
    ap (λ (z : Counts). tail z.turns z.returned) m.counted in
    puts_then {T = Counts} files (turns_pieces start.commits m.told) line a b c o p q n r m.written
    (subst (λ z. Puts files (piece Log z ∷ []) b c p q r) same t)

pub rest_cut : {E : Type 0} (files : OutputFiles) (start : Counts) (kinds : List RunKind)
    (old new : EngineView) (a b c : ShelfView) (o p q : SinkView) (n : Counts) (e : E)
    → MakesFrom {E = E} files start kinds old new a b o p (Ok n)
    → Puts {T = Unit {0}} files (piece Log (tail n.turns n.returned) ∷ []) b c p q (Err e)
    → MakesRest files start kinds old new a c o q (Err e)
rest_cut {E} files start kinds old new a b c o p q n e m t = record {
  made = m.made;
  most = m.most;
  told = m.told;
  tells = m.tells;
  ended = true;
  all = λ yes. m.all;
  fine = tt;
  puts = puts_err_as {T = Unit {0}} {U = Counts} files (rest_by true start m.told) a c o q e e
      (rest_puts {E = E} files start kinds old new a b c o p q n (Err e) m t);
  counted = tt;
}

pub rest_made : {E : Type 0} (files : OutputFiles) (start : Counts) (kinds : List RunKind)
    (old new : EngineView) (a b c : ShelfView) (o p q : SinkView) (n : Counts)
    → MakesFrom {E = E} files start kinds old new a b o p (Ok n)
    → Puts {T = Unit {0}} {E = E} files (piece Log (tail n.turns n.returned) ∷ []) b c p q (Ok tt)
    → MakesRest {E = E} files start kinds old new a c o q (Ok n)
rest_made {E} files start kinds old new a b c o p q n m t = record {
  made = m.made;
  most = m.most;
  told = m.told;
  tells = m.tells;
  ended = true;
  all = λ yes. m.all;
  fine = refl;
  puts = puts_ok_as {T = Unit {0}} {U = Counts} {E = E} files (rest_by true start m.told) a c o q tt n
      (rest_puts {E = E} files start kinds old new a b c o p q n (Ok tt) m t);
  counted = m.counted;
}
