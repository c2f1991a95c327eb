-- What turns told: nothing yet, one turn, and turns after turns.
use Rattle.std.proofs.Common.{◌≡◌, ℕ, zero, suc, ◌+◌, ◌-◌, ◌<◌, ◌≤◌, List, [], ◌∷◌, ◌++◌, length, take, refl, sym, ap, ◌∙◌, subst, arith, length-append, append-nil, inl, inr}
use Rattle.std.specs.Prelude.{map}
use Rattle.std.proofs.lemmas.Bool.{cases_lt}
use Rattle.std.specs.List.{All}
use Rattle.std.proofs.lemmas.List.Elements.{All-append, All-nil}
use Rattle.std.proofs.lemmas.List.{take_all, take-append-le, map-append}
use Rattle.std.proofs.Math.Seq.{take-append-add}
use Rattle.run_model.specs.declared.logs.Entry.{Entry}
use Rattle.run_model.specs.declared.schedules.RunKind.{RunKind}
use Rattle.run_model.specs.Cores.{Cores, Choice, outlines, cores_after}
use Rattle.run_model.specs.Fate.{Sound}
use Rattle.run_model.specs.Runs.{Model, Told, entries, tells, turned, run_tells, run_after, outline_of}
use Rattle.run_loop.specs.Engines.{EngineView, FailsAsStruck, IsStruck, Kept, Obeys, Follows, SoundTurn}
use Rattle.silicon.specs.Tape.{tells as tells_tape}
use Rattle.run_loop.specs.Making.{ByMode, Tells, SoundAfter, hands_by, tells_by, state_by}
use Rattle.run_loop.proofs.Joining.{outlines_append, cores_append, after_append, entries_append, hands_append, tape_append, tells_append, sound_run}

pub tells_none : (old : EngineView) → Tells [] [] old old
tells_none old = record {
  each = refl;
  turns = omega arith;
  kept = record { lines = refl; config = refl; hands = refl };
  struck = All-nil (λ (e : Entry). IsStruck old.lines e.core.0 e.what);
  by_mode = λ s h. record { choices = []; kinds_are = refl; outlines_are = refl; stands = h };
  fronts = λ x h j le sound.
      let none : j ≡ 0 = omega (arith, le) in
      subst (λ n. take n [] ≡ tells_by old x (take n [])) (sym none) refl;
  handed = λ x h sound. refl;
  stands = λ x h sound. h;
}

-- a front of one turn is none of it or all of it
one_front : (x : Model) (k : RunKind) (t : Told) (old : EngineView) (j : ℕ) → j ≤ 1
    → (SoundAfter old x (k ∷ []) → t ≡ tells old.lines old.config x k)
    → SoundAfter old x (take j (k ∷ [])) → take j (t ∷ []) ≡ tells_by old x (take j (k ∷ []))
one_front x k t old zero le f sound = refl
one_front x k t old (suc j) le f sound =
    let last : j ≡ 0 = omega (arith, le) in
    let here : SoundAfter old x (k ∷ []) =
    subst (λ n. SoundAfter old x (take (suc n) (k ∷ []))) last sound in
    subst (λ n. take (suc n) (t ∷ []) ≡ tells_by old x (take (suc n) (k ∷ []))) (sym last)
    (ap (λ z. z ∷ []) (f here))

pub tells_one : (k : RunKind) (t : Told) (old new : EngineView) → new.turns ≡ old.turns + 1
    → Kept old new → FailsAsStruck old.lines t.entries
    → ((s : Cores) → old.stands_by_mode s → Obeys s k old new t)
    → ((x : Model) → old.stands x → SoundTurn old x k → Follows x k old new t)
    → Tells (k ∷ []) (t ∷ []) old new
tells_one k t old new turns kept struck obeys follows = record {
  each = refl;
  turns = turns;
  kept = kept;
  struck = subst (λ es. FailsAsStruck old.lines es) (sym (append-nil t.entries)) struck;
  by_mode = λ s h.
      let o = obeys s h in
      record {
        choices = record { kind = k; met = o.met } ∷ [];
        kinds_are = refl;
        outlines_are = ap (λ z. z ∷ []) o.outline;
        stands = o.stands;
      };
  fronts = λ x h j le sound.
      one_front x k t old j le (λ here. (follows x h here).told) sound;
  handed = λ x h sound.
      (follows x h sound).handed ∙ ap (tells_tape old.tape) (sym (append-nil (old.hands x k)));
  stands = λ x h sound. (follows x h sound).stands;
}

by_mode_then : (s : Cores) (ks js : List RunKind) (ts us : List Told) (old mid new : EngineView)
    → Kept old mid → ByMode s ks ts old mid
    → ((r : Cores) → mid.stands_by_mode r → ByMode r js us mid new)
    → ByMode s (ks ++ js) (ts ++ us) old new
by_mode_then s ks js ts us old mid new kept b f =
    let r : Cores = cores_after old.config s b.choices in
    let g = f r b.stands in
    record {
      choices = b.choices ++ g.choices;
      kinds_are = map-append (λ (x : Choice). x.kind) b.choices g.choices
          ∙ ap (λ z. z ++ map (λ (x : Choice). x.kind) g.choices) b.kinds_are
          ∙ ap (λ z. ks ++ z) g.kinds_are;
      outlines_are = map-append outline_of ts us
          ∙ ap (λ z. z ++ map outline_of us) b.outlines_are
          ∙ ap (λ z. outlines old.config s b.choices ++ z)
          (g.outlines_are ∙ ap (λ c. outlines c r g.choices) kept.config)
          ∙ sym (outlines_append old.config s b.choices g.choices);
      stands = subst (λ z. new.stands_by_mode z) (sym (cores_append old.config s b.choices g.choices))
          (subst (λ c. new.stands_by_mode (cores_after c r g.choices)) kept.config g.stands);
    }

-- ---- fronts of turns after turns

-- sound at the seam, where it is sound later
seam_sound : (x : Model) (ks js : List RunKind) (old mid : EngineView) → Kept old mid
    → SoundAfter old x (ks ++ js) → SoundAfter mid (state_by old x ks) js
seam_sound x ks js old mid kept sound =
    let y : Model = state_by old x ks in
    let there : SoundAfter old y js =
    subst (λ z. Sound old.lines z.fate) (after_append old.lines old.config x ks js) sound in
    rw (kept.lines, kept.config) there

-- a view with the same script and configuration tells the same, and goes to the same state
same_tells : (x : Model) (js : List RunKind) (old mid : EngineView) → Kept old mid
    → tells_by mid x js ≡ tells_by old x js
same_tells x js old mid kept =
    ap (λ l. run_tells l mid.config x js) kept.lines
    ∙ ap (λ c. run_tells old.lines c x js) kept.config

same_state : (x : Model) (js : List RunKind) (old mid : EngineView) → Kept old mid
    → state_by mid x js ≡ state_by old x js
same_state x js old mid kept =
    ap (λ l. run_after l mid.config x js) kept.lines
    ∙ ap (λ c. run_after old.lines c x js) kept.config

-- where all of the turns are sound, all told what the definition says
pub all_told : (ks : List RunKind) (ts : List Told) (old new : EngineView) (x : Model)
    → Tells ks ts old new → old.stands x → SoundAfter old x ks → ts ≡ tells_by old x ks
all_told ks ts old new x t h sound =
    let n : ℕ = length ks in
    let whole : take n ks ≡ ks = take_all n ks (omega arith) in
    let told : take n ts ≡ ts = take_all n ts (omega (arith, t.each)) in
    sym told ∙ t.fronts x h n (omega arith) (subst (λ z. SoundAfter old x z) (sym whole) sound)
    ∙ ap (λ z. tells_by old x z) whole

-- a front that ends behind the seam
long_front : (x : Model) (ks js : List RunKind) (ts us : List Told) (old mid new : EngineView)
    (j : ℕ) → Tells ks ts old mid → Tells js us mid new → old.stands x → length ks < j
    → j ≤ length (ks ++ js) → SoundAfter old x (take j (ks ++ js))
    → take j (ts ++ us) ≡ tells_by old x (take j (ks ++ js))
long_front x ks js ts us old mid new j a b h lt le sound =
    let n : ℕ = j - length ks in
    let split : j ≡ length ks + n = omega (arith, lt) in
    let front : take j (ks ++ js) ≡ ks ++ take n js =
    ap (λ i. take i (ks ++ js)) split ∙ take-append-add ks js n in
    let split_told : j ≡ length ts + n = omega (arith, split, a.each) in
    let front_told : take j (ts ++ us) ≡ ts ++ take n us =
    ap (λ i. take i (ts ++ us)) split_told ∙ take-append-add ts us n in
    let y : Model = state_by old x ks in
    let here : SoundAfter old x (ks ++ take n js) =
    subst (λ z. SoundAfter old x z) front sound in
    let there : SoundAfter mid y (take n js) = seam_sound x ks (take n js) old mid a.kept here in
    let before : SoundAfter old x ks =
    sound_run old.lines old.config y (take n js)
    (subst (λ z. Sound old.lines z.fate) (after_append old.lines old.config x ks (take n js)) here) in
    let long : length (ks ++ js) ≡ length ks + length js = length-append ks js in
    let more : take n us ≡ tells_by mid y (take n js) =
    b.fronts y (a.stands x h before) n (omega (arith, le, long, split)) there in
    front_told ∙ ap (λ z. z ++ take n us) (all_told ks ts old mid x a h before)
    ∙ ap (λ z. tells_by old x ks ++ z) (more ∙ same_tells y (take n js) old mid a.kept)
    ∙ sym (tells_append old.lines old.config x ks (take n js))
    ∙ ap (λ z. tells_by old x z) (sym front)

-- a front that ends at the seam or before it
short_front : (x : Model) (ks js : List RunKind) (ts us : List Told) (old mid : EngineView) (j : ℕ)
    → Tells ks ts old mid → old.stands x → j ≤ length ks → SoundAfter old x (take j (ks ++ js))
    → take j (ts ++ us) ≡ tells_by old x (take j (ks ++ js))
short_front x ks js ts us old mid j a h small sound =
    let front : take j (ks ++ js) ≡ take j ks = take-append-le j ks js small in
    take-append-le j ts us (omega (arith, small, a.each))
    ∙ a.fronts x h j small (subst (λ z. SoundAfter old x z) front sound)
    ∙ ap (λ z. tells_by old x z) (sym front)

-- the state after turns after turns
seam_stands : (x : Model) (ks js : List RunKind) (ts us : List Told) (old mid new : EngineView)
    → Tells ks ts old mid → Tells js us mid new → old.stands x → SoundAfter old x (ks ++ js)
    → new.stands (state_by old x (ks ++ js))
seam_stands x ks js ts us old mid new a b h sound =
    let y : Model = state_by old x ks in
    let there : SoundAfter mid y js = seam_sound x ks js old mid a.kept sound in
    let before : SoundAfter old x ks =
    sound_run old.lines old.config y js
    (subst (λ z. Sound old.lines z.fate) (after_append old.lines old.config x ks js) sound) in
    subst (λ z. new.stands z)
    (same_state y js old mid a.kept ∙ sym (after_append old.lines old.config x ks js))
    (b.stands y (a.stands x h before) there)

-- what turns after turns handed in
same_hands : (x : Model) (js : List RunKind) (old mid : EngineView) → Kept old mid
    → hands_by mid x js ≡ hands_by old x js
same_hands x [] old mid kept = refl
same_hands x (j ∷ js) old mid kept =
    let next : turned mid.lines mid.config x j ≡ turned old.lines old.config x j =
    ap (λ l. turned l mid.config x j) kept.lines ∙ ap (λ c. turned old.lines c x j) kept.config in
    ap (λ f. f x j ++ hands_by mid (turned mid.lines mid.config x j) js) kept.hands
    ∙ ap (λ z. old.hands x j ++ z)
    (ap (λ y. hands_by mid y js) next
    ∙ same_hands (turned old.lines old.config x j) js old mid kept)

seam_handed : (x : Model) (ks js : List RunKind) (ts us : List Told) (old mid new : EngineView)
    → Tells ks ts old mid → Tells js us mid new → old.stands x → SoundAfter old x (ks ++ js)
    → new.tape ≡ tells_tape old.tape (hands_by old x (ks ++ js))
seam_handed x ks js ts us old mid new a b h sound =
    let y : Model = state_by old x ks in
    let there : SoundAfter mid y js = seam_sound x ks js old mid a.kept sound in
    let before : SoundAfter old x ks =
    sound_run old.lines old.config y js
    (subst (λ z. Sound old.lines z.fate) (after_append old.lines old.config x ks js) sound) in
    b.handed y (a.stands x h before) there
    ∙ ap (λ t. tells_tape t (hands_by mid y js)) (a.handed x h before)
    ∙ ap (λ hs. tells_tape (tells_tape old.tape (hands_by old x ks)) hs)
    (same_hands y js old mid a.kept)
    ∙ sym (tape_append old.tape (hands_by old x ks) (hands_by old y js))
    ∙ ap (tells_tape old.tape) (sym (hands_append old x ks js))

-- no failure in either without its strike
struck_then : (ts us : List Told) (old mid : EngineView) → Kept old mid
    → FailsAsStruck old.lines (entries ts) → FailsAsStruck mid.lines (entries us)
    → FailsAsStruck old.lines (entries (ts ++ us))
struck_then ts us old mid kept a b =
    subst (λ es. FailsAsStruck old.lines es) (sym (entries_append ts us))
    (All-append (λ (e : Entry). IsStruck old.lines e.core.0 e.what) (entries ts) (entries us) a
    (subst (λ ls. FailsAsStruck ls (entries us)) kept.lines b))

pub tells_then : (ks js : List RunKind) (ts us : List Told) (old mid new : EngineView)
    → Tells ks ts old mid → Tells js us mid new → Tells (ks ++ js) (ts ++ us) old new
tells_then ks js ts us old mid new a b =
    let long : length (ks ++ js) ≡ length ks + length js = length-append ks js in
    let long_told : length (ts ++ us) ≡ length ts + length us = length-append ts us in
    record {
      each = omega (arith, long, long_told, a.each, b.each);
      turns = omega (arith, long, a.turns, b.turns);
      kept = record {
        lines = b.kept.lines ∙ a.kept.lines;
        config = b.kept.config ∙ a.kept.config;
        hands = b.kept.hands ∙ a.kept.hands;
      };
      struck = struck_then ts us old mid a.kept a.struck b.struck;
      by_mode = λ s h. by_mode_then s ks js ts us old mid new a.kept (a.by_mode s h) b.by_mode;
      fronts = λ x h j le sound. elim (cases_lt (length ks) j) [
        | inl lt ↦ long_front x ks js ts us old mid new j a b h lt le sound
        | inr small ↦ short_front x ks js ts us old mid j a h small sound
      ];
      handed = λ x h sound. seam_handed x ks js ts us old mid new a b h sound;
      stands = λ x h sound. seam_stands x ks js ts us old mid new a b h sound;
    }
