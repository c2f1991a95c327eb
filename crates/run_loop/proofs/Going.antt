-- Turns that are made one after another: those of a run, and the runs of a schedule.
use Rattle.std.proofs.Common.{◌≡◌, ℕ, ◌+◌, ◌≤◌, List, [], ◌∷◌, ◌++◌, length, take, refl, sym, ap, ◌∙◌, subst, arith, length-append, append-nil, Result, Ok, Err}
use Rattle.std.proofs.Math.Seq.{take-append-add}
use Rattle.std.proofs.lemmas.List.{take_all, take-append-le}
use Rattle.g5_outside.specs.Views.{ShelfView, SinkView, Gave}
use Rattle.g5_writing.specs.Outputs.{Grew, HasFiles, Puts}
use Rattle.g5_writing.specs.declared.outputs.OutputFiles.{OutputFiles}
use Rattle.g5_writing.proofs.Putting.{grew_none, puts_then, puts_grew}
use Rattle.run_model.specs.declared.outputs.Counts.{Counts}
use Rattle.run_model.specs.declared.schedules.RunKind.{RunKind}
use Rattle.run_model.specs.Counts.{commits_by, commits_after, count_turns}
use Rattle.run_model.specs.Pieces.{Piece}
use Rattle.run_model.specs.Runs.{Told}
use Rattle.run_model.specs.Texts.{turn_pieces, turns_pieces}
use Rattle.run_laws.proofs.Summing.{commits_counted}
use Rattle.run_loop.specs.Engines.{EngineView}
use Rattle.run_loop.specs.Making.{Tells, MakesTurn, MakesFrom}
use Rattle.run_loop.proofs.Rising.{commits_rise}
use Rattle.run_loop.proofs.Joining.{pieces_append, counts_append}
use Rattle.run_loop.proofs.Telling.{tells_none, tells_one, tells_then}

-- ---- turns of these kinds were made, and what they told is written and counted

pub record Going (files : OutputFiles) (done : List RunKind) (start sum : Counts)
    (old now : EngineView) (a b : ShelfView) (o p : SinkView) : Type 0 where
  pub told : List Told
  pub tells : Tells done told old now
  pub grew : Grew files (turns_pieces start.commits told) a b o p
  pub counted : sum ≡ count_turns start told

pub going_start : (files : OutputFiles) (start : Counts) (old : EngineView) (a : ShelfView)
    (o : SinkView) → Going files [] start start old old a a o o
going_start files start old a o = record {
  told = [];
  tells = tells_none old;
  grew = grew_none files a o;
  counted = refl;
}

commits_few : (n : ℕ) (ts : List Told) → commits_after n ts ≤ n + length ts
commits_few n [] = omega arith
commits_few n (t ∷ ts) =
    let one = commits_rise t.event n in
    let rest = commits_few (commits_by t.event n) ts in
    omega (arith, one, rest)

-- the commits number the trace
number_is : (start sum : Counts) (ts : List Told) → sum ≡ count_turns start ts
    → sum.commits ≡ commits_after start.commits ts
number_is start sum ts e = ap (λ n. n.commits) e ∙ commits_counted start ts

-- they are at most as many as the turns
pub going_commits : (files : OutputFiles) (done : List RunKind) (start sum : Counts)
    (old now : EngineView) (a b : ShelfView) (o p : SinkView)
    → Going files done start sum old now a b o p → sum.commits ≤ start.commits + length done
going_commits files done start sum old now a b o p so =
    let number = number_is start sum so.told so.counted in
    let few = commits_few start.commits so.told in
    omega (arith, number, few, so.tells.each)

-- the files are still there
pub going_files : (files : OutputFiles) (done : List RunKind) (start sum : Counts)
    (old now : EngineView) (a b : ShelfView) (o p : SinkView)
    → Going files done start sum old now a b o p → HasFiles a files → HasFiles b files
going_files files done start sum old now a b o p so has = record {
  log = subst (λ ns. Gave ns files.log.0) (sym so.grew.numbers) has.log;
  trace = subst (λ ns. Gave ns files.trace.0) (sym so.grew.numbers) has.trace;
  two = has.two;
}

-- what more turns write stands behind what was written
puts_more : {T E : Type 0} (files : OutputFiles) (ts us : List Told) (start sum : Counts)
    (a b c : ShelfView) (o p q : SinkView) (r : Result T E) → sum ≡ count_turns start ts
    → Grew files (turns_pieces start.commits ts) a b o p
    → Puts files (turns_pieces sum.commits us) b c p q r
    → Puts files (turns_pieces start.commits (ts ++ us)) a c o q r
puts_more {T} {E} files ts us start sum a b c o p q r counted grew h =
    let whole : turns_pieces start.commits ts ++ turns_pieces sum.commits us
    ≡ turns_pieces start.commits (ts ++ us) =
    ap (λ n. turns_pieces start.commits ts ++ turns_pieces n us)
    (number_is start sum ts counted) ∙ sym (pieces_append start.commits ts us) in
    subst (λ w. Puts files w a c o q r) whole
    (puts_then {T = Unit {0}} files (turns_pieces start.commits ts) (turns_pieces sum.commits us)
    a b c o p q tt r
    (puts_grew {T = Unit {0}} {E = E} files (turns_pieces start.commits ts) a b o p tt grew) h)

grew_by : {T E : Type 0} (files : OutputFiles) (xs : List Piece) (a b : ShelfView)
    (o p : SinkView) (x : T) → Puts {E = E} files xs a b o p (Ok x) → Grew files xs a b o p
grew_by files xs a b o p x h = subst (λ z. Grew files z a b o p) h.all h.grew

-- ---- one turn is a run of one turn

pub one_made : {E : Type 0} (files : OutputFiles) (k : RunKind) (sum : Counts)
    (old new : EngineView) (a b : ShelfView) (o p : SinkView) (r : Result Counts E)
    → MakesTurn files k sum old new a b o p r → MakesFrom files sum (k ∷ []) old new a b o p r
one_made {E} files k sum old new a b o p (Ok n) h = record {
  made = 1;
  most = omega arith;
  all = refl;
  told = h.told ∷ [];
  tells = tells_one k h.told old new h.turns h.kept h.struck h.obeys h.follows;
  written = subst (λ w. Puts {E = E} files w a b o p (Ok n))
      (sym (append-nil (turn_pieces sum.commits h.told))) h.written;
  counted = h.counted;
}
one_made {E} files k sum old new a b o p (Err e) h = record {
  made = 1;
  most = omega arith;
  all = tt;
  told = h.told ∷ [];
  tells = tells_one k h.told old new h.turns h.kept h.struck h.obeys h.follows;
  written = subst (λ w. Puts {T = Counts} files w a b o p (Err e))
      (sym (append-nil (turn_pieces sum.commits h.told))) h.written;
  counted = tt;
}

-- ---- more turns

pub going_on : {E : Type 0} (files : OutputFiles) (done more : List RunKind)
    (start sum after : Counts) (old now new : EngineView) (a b c : ShelfView) (o p q : SinkView)
    → Going files done start sum old now a b o p
    → MakesFrom {E = E} files sum more now new b c p q (Ok after)
    → Going files (done ++ more) start after old new a c o q
going_on {E} files done more start sum after old now new a b c o p q so h = record {
  told = so.told ++ h.told;
  tells = tells_then done more so.told h.told old now new so.tells
      (subst (λ ks. Tells ks h.told now new) (take_all h.made more (omega (arith, h.all))) h.tells);
  grew = grew_by {E = E} files (turns_pieces start.commits (so.told ++ h.told)) a c o q after
      (puts_more files so.told h.told start sum a b c o p q (Ok after) so.counted so.grew h.written);
  counted = h.counted ∙ ap (λ n. count_turns n h.told) so.counted
      ∙ sym (counts_append start so.told h.told);
}

-- a fault ends the turns
pub going_failed : {E : Type 0} (files : OutputFiles) (done more rest : List RunKind)
    (start sum : Counts) (old now new : EngineView) (a b c : ShelfView) (o p q : SinkView) (f : E)
    → Going files done start sum old now a b o p
    → MakesFrom files sum more now new b c p q (Err f)
    → MakesFrom files start (done ++ (more ++ rest)) old new a c o q (Err f)
going_failed {E} files done more rest start sum old now new a b c o p q f so h =
    let long = length-append done (more ++ rest) in
    let longer = length-append more rest in
    let front : take (length done + h.made) (done ++ (more ++ rest)) ≡ done ++ take h.made more =
    take-append-add done (more ++ rest) h.made
    ∙ ap (λ z. done ++ z) (take-append-le h.made more rest h.most) in
    record {
      made = length done + h.made;
      most = omega (arith, h.most, long, longer);
      all = tt;
      told = so.told ++ h.told;
      tells = subst (λ ks. Tells ks (so.told ++ h.told) old new) (sym front)
          (tells_then done (take h.made more) so.told h.told old now new so.tells h.tells);
      written = puts_more files so.told h.told start sum a b c o p q (Err f) so.counted so.grew
          h.written;
      counted = tt;
    }

pub going_done : {E : Type 0} (files : OutputFiles) (ks : List RunKind) (start sum : Counts)
    (old now : EngineView) (a b : ShelfView) (o p : SinkView)
    → Going files ks start sum old now a b o p
    → MakesFrom {E = E} files start ks old now a b o p (Ok sum)
going_done {E} files ks start sum old now a b o p so = record {
  made = length ks;
  most = omega arith;
  all = refl;
  told = so.told;
  tells = subst (λ z. Tells z so.told old now) (sym (take_all (length ks) ks (omega arith)))
      so.tells;
  written = puts_grew {E = E} files (turns_pieces start.commits so.told) a b o p sum so.grew;
  counted = so.counted;
}
