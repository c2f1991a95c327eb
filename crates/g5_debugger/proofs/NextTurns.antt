-- The next turns of a schedule, one after another.
use Rattle.std.proofs.Common.{◌≡◌, ℕ, ◌+◌, ◌*◌, ◌^◌, ◌<◌, ◌≤◌, List, [], ◌∷◌, ◌++◌, length, take, drop, refl, sym, ap, ◌∙◌, subst, arith, length-append}
use Rattle.run_loop.specs.Bounds.{Below}
use Rattle.run_loop.specs.Engines.{EngineView}
use Rattle.run_loop.specs.Making.{Tells}
use Rattle.run_loop.proofs.Joining.{counts_append}
use Rattle.run_loop.proofs.Rising.{below_more}
use Rattle.run_loop.proofs.Telling.{tells_none, tells_then}
use Rattle.run_model.specs.Counts.{count_turns}
use Rattle.run_model.specs.declared.outputs.Counts.{Counts}
use Rattle.run_model.specs.declared.schedules.Run.{Run}
use Rattle.run_model.specs.declared.schedules.RunKind.{RunKind}
use Rattle.g5_debugger.specs.Left.{left}
use Rattle.g5_debugger.specs.Making.{MakesNext, MakesOne}
use Rattle.g5_debugger.specs.declared.making.Reached.{Reached}
use Rattle.g5_debugger.proofs.RunsLeft.{take_next, drop_next, take_whole, drop_whole, taken_few}

pub none_made : (runs : List Run) (start : Reached) (old : EngineView) → old.ready
    → MakesNext 0 runs start start old old
none_made runs start old ready = record {
  told = [];
  tells = tells_none old;
  behind = refl;
  counted = refl;
  small = λ most b. below_more most (most + 45 * 0) start.made (omega arith) b;
  ready = ready;
}

pub one_more : (n : ℕ) (runs : List Run) (start mid end : Reached) (k : RunKind)
    (old now new : EngineView) → left runs mid.place ≡ k ∷ left runs end.place
    → MakesNext n runs start mid old now → MakesOne k mid.made end.made now new
    → MakesNext (n + 1) runs start end old new
one_more n runs start mid end k old now new next a b =
    let ks : List RunKind = left runs start.place in
    let here : drop n ks ≡ k ∷ left runs end.place = sym a.behind ∙ next in
    let long : length (a.told ++ b.told ∷ []) ≡ length a.told + 1
    = length-append a.told (b.told ∷ []) in
    record {
      told = a.told ++ b.told ∷ [];
      tells = subst (λ q. Tells q (a.told ++ b.told ∷ []) old new)
          (sym (take_next n ks (left runs end.place) k here))
          (tells_then (take n ks) (k ∷ []) a.told (b.told ∷ []) old now new a.tells b.tells);
      behind = sym (drop_next n ks (left runs end.place) k here);
      counted = b.counted ∙ ap (λ m. count_turns m (b.told ∷ [])) a.counted
          ∙ sym (counts_append start.made a.told (b.told ∷ []));
      small = λ most h. below_more (most + 45 * length a.told + 45)
          (most + 45 * length (a.told ++ b.told ∷ [])) end.made (omega (arith, long))
          (b.small (most + 45 * length a.told) (a.small most h));
      ready = b.ready;
    }

-- where no turn is left, more turns are as many
pub no_more : (n m : ℕ) (runs : List Run) (start mid : Reached) (old now : EngineView)
    → left runs mid.place ≡ [] → n ≤ m → MakesNext n runs start mid old now
    → MakesNext m runs start mid old now
no_more n m runs start mid old now none le a =
    let ks : List RunKind = left runs start.place in
    let end : drop n ks ≡ [] = sym a.behind ∙ none in
    record {
      told = a.told;
      tells = subst (λ q. Tells q a.told old now) (take_whole n m ks end le) a.tells;
      behind = a.behind ∙ drop_whole n m ks end le;
      counted = a.counted;
      small = a.small;
      ready = a.ready;
    }

-- what is so before the next of them
pub record IsBefore (sum : Counts) (now : EngineView) : Type 0 where
  pub room : now.turns < 2 ^ 47
  pub below : Below (2 ^ 62) sum

pub before_next : (n count : ℕ) (runs : List Run) (start mid : Reached) (old now : EngineView)
    → n < count → old.turns + count ≤ 2 ^ 47 → Below (2 ^ 61) start.made → count ≤ 1000000
    → MakesNext n runs start mid old now → IsBefore mid.made now
before_next n count runs start mid old now lt room below few a =
    let ks : List RunKind = left runs start.place in
    let some : length (take n ks) ≤ n = taken_few n ks in
    record {
      room = omega (arith, lt, room, some, a.tells.turns);
      below = below_more (2 ^ 61 + 45 * length a.told) (2 ^ 62) mid.made
          (omega (arith, lt, few, some, a.tells.each)) (a.small (2 ^ 61) below);
    }
