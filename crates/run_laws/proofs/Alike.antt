-- Two runs side by side, one without strikes.
use Rattle.std.proofs.Common.{◌≡◌, ◌⊎◌, ℕ, ◌+◌, Bool, true, false, List, [], ◌∷◌, Option, Some, None, refl, sym, ap, ◌∙◌, if◌then◌else◌, inl, inr}
use Rattle.std.specs.Prelude.{◌||◌}
use Rattle.std.specs.List.{list_any}
use Rattle.std.proofs.lemmas.Bool.{false≢true, true≢false}
use Rattle.run_model.specs.declared.faults.Strike.{Strike}
use Rattle.run_model.specs.declared.schedules.RunKind.{RunKind}
use Rattle.run_model.specs.declared.schedules.RunKind.TheVariants as kind
use Rattle.run_model.specs.declared.logs.What.{What}
use Rattle.esa_model.specs.declared.machine.Event.{Event}
use Rattle.esa_model.specs.declared.machine.Event.TheVariants as event
use Rattle.run_model.specs.declared.logs.Config.{Config}
use Rattle.esa_model.specs.Machine.{idle}
use Rattle.run_model.specs.Cores.{Cores, Met, is_fenced, return_by, does, stamped}
use Rattle.run_model.specs.Fate.{sight, met}
use Rattle.run_model.specs.Runs.{Model, fate_at, turned}
use Rattle.run_model.specs.Sorts.{is_stop, is_stop_entry}
use Rattle.run_laws.proofs.Rows.{does_by}
use Rattle.run_laws.proofs.Clean.{Alive, is_stop_event, Turns, turns_rows, Clean, clean_turn, clean_key}

-- ---- both, side by side
pub record Alike (x y : Model) : Type 0 where
  pub machine : x.machine ≡ y.machine
  pub alive : Alive x.fate.cores
  pub clean : Clean y.fate

abbrev pub is_return : RunKind → Bool
is_return (kind.Turns i) = false
is_return (kind.Key i) = false
is_return (kind.Return k) = true

-- what a turn of both does: the first run's stops by an entry; else it makes no event, or both make
-- one
pub record Both (ls : List Strike) (c : Config) (x y : Model) (k : RunKind) : Type 0 where
  pub stops : is_stop_event (fate_at ls c x k).outline.event ≡ true
      → list_any is_stop_entry (fate_at ls c x k).outline.entries ≡ true
  pub event : ((fate_at ls c x k).outline.event ≡ None)
      ⊎ (is_stop_event (fate_at ls c x k).outline.event ≡ true)
      ⊎ ((fate_at [] c y k).outline.event ≡ (fate_at ls c x k).outline.event)
  pub alive : is_stop_event (fate_at ls c x k).outline.event ≡ false
      → Alive (turned ls c x k).fate.cores
  pub clean : is_return k ≡ false → Clean (turned [] c y k).fate

pub stamped_stop : (t i k : ℕ) (ws : List What)
    → list_any is_stop_entry (stamped t i k ws) ≡ list_any is_stop ws
stamped_stop t i k [] = refl
stamped_stop t i k (w ∷ ws) = ap (λ b. is_stop w || b) (stamped_stop t i k ws)

return_alive : (s : Cores) (k : ℕ) (b : Bool) → Alive s → Alive (return_by s k b).after
return_alive s k true a = a
return_alive s k false a = a

pub return_event : (s : Cores) (k : ℕ) (b : Bool) → (return_by s k b).outline.event ≡ None
return_event s k true = refl
return_event s k false = refl

not_stop : (o : Option Event) → o ≡ None → is_stop_event o ≡ true → ⊥
not_stop o e h = false≢true (sym (ap is_stop_event e) ∙ h)

pub both : (ls : List Strike) (c : Config) (x y : Model) (k : RunKind) → Alike x y
    → Both ls c x y k
unfolding turned met
both ls c x y (kind.Turns i) a =
    let m : Met = met ls (sight x.machine i.0) x.fate i.0 in
    let w : Bool = idle x.machine i.0 in
    let t : Turns w i.0 (does c.threshold x.fate.cores i.0 m) =
    does_by c.threshold x.fate.cores i.0 m (Turns w i.0)
    (turns_rows c.threshold x.fate.cores i.0 w a.alive) in
    let q = clean_turn c y i a.clean in
    record {
      stops = λ h.
          stamped_stop (x.fate.cores.turns + 1) i.0 (x.fate.cores.core i.0)
          (does c.threshold x.fate.cores i.0 m).whats ∙ t.stops h;
      event = elim t.event [
        | inl e ↦ inl e
        | inr f ↦
            elim f [
              | inl e ↦ inr (inl e)
              | inr e ↦
                  inr (inr (q.0
                  ∙ ap (λ z. if idle z i.0 then Some (event.Idle i) else Some (event.Commit i))
                  (sym a.machine) ∙ sym e))
            ]
      ];
      alive = λ h. t.alive h;
      clean = λ h. q.1;
    }
both ls c x y (kind.Key i) a =
    record {
      stops = λ h. absurd (false≢true h);
      event = inr (inr refl);
      alive = λ h. a.alive;
      clean = λ h. clean_key c y i a.clean;
    }
both ls c x y (kind.Return k) a = record {
  stops = λ h.
      absurd (not_stop (return_by x.fate.cores k.0 (is_fenced c x.fate.cores k.0)).outline.event
      (return_event x.fate.cores k.0 (is_fenced c x.fate.cores k.0)) h);
  event = inl (return_event x.fate.cores k.0 (is_fenced c x.fate.cores k.0));
  alive = λ h. return_alive x.fate.cores k.0 (is_fenced c x.fate.cores k.0) a.alive;
  clean = λ h. absurd (true≢false h);
}
