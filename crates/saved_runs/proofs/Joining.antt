-- The first turns, an engine that is stood up again, and the rest: what all of them tell.
use Rattle.std.proofs.Common.{◌≡◌, ℕ, ◌+◌, ◌≤◌, List, [], ◌∷◌, ◌++◌, length, take, drop, refl, sym, ap, ◌∙◌, subst, arith}
use Rattle.std.proofs.lemmas.List.{take_all}
use Rattle.run_model.specs.declared.schedules.RunKind.{RunKind}
use Rattle.run_model.specs.Runs.{Model, Told, turned}
use Rattle.silicon.specs.Tape.{Tape, tells as tells_tape}
use Rattle.run_loop.specs.Engines.{EngineView}
use Rattle.run_loop.specs.Making.{SoundAfter, Tells, hands_by, state_by, tells_by}
use Rattle.run_loop.proofs.Telling.{tells_then}
use Rattle.saved_runs.specs.Joined.{IsOneRun, Resumes, TellsJoined}

-- An engine without what it hands in to its silicon: what turns tell does not hang on it, so that
-- turns on one silicon and turns on another are joined as those of one engine are.
abbrev pub bare : EngineView → ℕ → Tape → EngineView
bare v n t = record {
  lines = v.lines;
  config = v.config;
  turns = n;
  tape = t;
  ready = v.ready;
  stands_by_mode = v.stands_by_mode;
  stands = v.stands;
  hands = λ x k. [];
}

no_hands : (v : EngineView) (n : ℕ) (t : Tape) (x : Model) (ks : List RunKind)
    → hands_by (bare v n t) x ks ≡ []
no_hands v n t x [] = refl
no_hands v n t x (k ∷ ks) = no_hands v n t (turned v.lines v.config x k) ks

bared : (ks : List RunKind) (ts : List Told) (old mid new : EngineView) (n : ℕ) (t : Tape)
    → Tells ks ts old mid → Resumes mid new
    → Tells ks ts (bare old n t) (bare new (n + length ks) t)
bared ks ts old mid new n t h r = record {
  each = h.each;
  turns = refl;
  kept = record {
    lines = r.kept.lines ∙ h.kept.lines;
    config = r.kept.config ∙ h.kept.config;
    hands = refl;
  };
  struck = h.struck;
  by_mode = λ s b.
      let by = h.by_mode s b in
      record {
        choices = by.choices;
        kinds_are = by.kinds_are;
        outlines_are = by.outlines_are;
        stands = r.by_mode _ by.stands;
      };
  fronts = h.fronts;
  handed = λ x b sound. sym (ap (tells_tape t) (no_hands old n t x ks));
  stands = λ x b sound. r.stands _ (h.stands x b sound);
}

pub itself : (v : EngineView) → Resumes v v
itself v = record {
  kept = record { lines = refl; config = refl; hands = refl };
  by_mode = λ s h. h;
  stands = λ x h. h;
}

-- both parts as turns of one engine
pub bare_run : (ks js : List RunKind) (ts us : List Told) (old mid again new : EngineView)
    (t : Tape) → Tells ks ts old mid → Resumes mid again → Tells js us again new
    → Tells (ks ++ js) (ts ++ us) (bare old 0 t) (bare new (0 + length ks + length js) t)
bare_run ks js ts us old mid again new t a r b =
    tells_then ks js ts us (bare old 0 t) (bare again (0 + length ks) t)
    (bare new (0 + length ks + length js) t) (bared ks ts old mid again 0 t a r)
    (bared js us again new new (0 + length ks) t b (itself new))

pub joined : (ks js : List RunKind) (ts us : List Told) (old mid again new : EngineView)
    → Tells ks ts old mid → Resumes mid again → Tells js us again new
    → TellsJoined (ks ++ js) (ts ++ us) old new
joined ks js ts us old mid again new a r b =
    let h = bare_run ks js ts us old mid again new old.tape a r b in
    record {
      each = h.each;
      kept = record {
        lines = b.kept.lines ∙ r.kept.lines ∙ a.kept.lines;
        config = b.kept.config ∙ r.kept.config ∙ a.kept.config;
        hands = b.kept.hands ∙ r.kept.hands ∙ a.kept.hands;
      };
      struck = h.struck;
      by_mode = λ s m.
          let by = h.by_mode s m in
          record {
            choices = by.choices;
            kinds_are = by.kinds_are;
            outlines_are = by.outlines_are;
            stands = by.stands;
          };
      fronts = h.fronts;
      stands = h.stands;
    }

pub one_run : (ks : List RunKind) (ts : List Told) (old new : EngineView) (x : Model)
    → TellsJoined ks ts old new → old.stands x → SoundAfter old x ks → IsOneRun x ks ts old new
one_run ks ts old new x h stands sound =
    let n : ℕ = length ks in
    let whole : take n ks ≡ ks = take_all n ks (omega arith) in
    let told : take n ts ≡ ts = take_all n ts (omega (arith, h.each)) in
    record {
      says = sym told
          ∙ h.fronts x stands n (omega arith) (subst (λ z. SoundAfter old x z) (sym whole) sound)
          ∙ ap (λ z. tells_by old x z) whole;
      stands = h.stands x stands sound;
    }
