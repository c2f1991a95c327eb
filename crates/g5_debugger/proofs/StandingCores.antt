-- A machine stands by its modes for the cores that are read off it.
use Rattle.std.proofs.Common.{◌≡◌, ℕ, ◌<◌, length, refl, sym, ap, ◌∙◌, subst, Some}
use Rattle.std.specs.Prelude.{get_or, slice_get}
use Rattle.std.proofs.lemmas.Option.{slice_get-get_or}
use Rattle.core_turns.specs.Held.{HeldBy, IsThere}
use Rattle.core_turns.specs.declared.held.Held.{Held}
use Rattle.core_turns.specs.declared.held.Held.TheVariants.{Running, Recovering, Lost, Taken}
use Rattle.g5_machine.specs.Standing.{StandsByMode}
use Rattle.g5_machine.specs.Turning.{core_there}
use Rattle.g5_machine.specs.declared.machine.Machine.{Machine}
use Rattle.g5_machine.proofs.Obeying.{core_is, there_at}
use Rattle.run_model.specs.Cores.{Cores, belongs, is_lost}
use Rattle.run_model.specs.Places.{Apart}
use Rattle.g5_debugger.specs.CoresOf.{cores_of, mode_there, retries_there}

held_by : (h : Held) (m : Machine) (i : ℕ) → slice_get m.cpus.items i ≡ Some h → IsThere h
    → HeldBy h (cores_of m) i
unfolding cores_of
held_by (Running k) m i got there = (ap mode_there got, ap core_there got, ap retries_there got)
held_by (Recovering k) m i got there = (ap mode_there got, ap core_there got, ap retries_there got)
held_by (Lost c r) m i got there = (ap mode_there got, ap core_there got, ap retries_there got)
held_by Taken m i got there = absurd there

pub stands_by_cores : (m : Machine) → StandsByMode m (cores_of m)
unfolding cores_of
stands_by_cores m = record {
  each = λ i h got. held_by h m i got (there_at m.cpus.items i h m.there got);
  spares = λ k. refl;
  turns = refl;
  commits = refl;
}

-- ---- other cores for which it stands are these, as far as it goes

mode_is : (h : Held) (s : Cores) (i : ℕ) → HeldBy h s i → s.mode i ≡ mode_there (Some h)
mode_is (Running k) s i e = e.0
mode_is (Recovering k) s i e = e.0
mode_is (Lost c r) s i e = e.0
mode_is Taken s i e = absurd e

record AreAlike (s t : Cores) (i : ℕ) : Type 0 where
  mode : s.mode i ≡ t.mode i
  core : s.core i ≡ t.core i

alike : (m : Machine) (s : Cores) (i : ℕ) → StandsByMode m s → i < m.config.cpus
    → AreAlike (cores_of m) s i
unfolding cores_of
alike m s i st lt =
    let inside : i < length m.cpus.items = subst (λ (n : ℕ). i < n) m.fits.cpus lt in
    let h : Held = get_or m.cpus.items i Taken in
    let got : slice_get m.cpus.items i ≡ Some h = slice_get-get_or m.cpus.items i Taken inside in
    let held : HeldBy h s i = st.each i h got in
    record {
      mode = ap mode_there got ∙ sym (mode_is h s i held);
      core = ap core_there got ∙ sym (core_is h s i held);
    }

spare_is : (m : Machine) (s : Cores) (k : ℕ) → StandsByMode m s
    → (cores_of m).spare k ≡ s.spare k
unfolding cores_of
spare_is m s k st = sym (st.spares k)

pub apart_cores : (m : Machine) (s : Cores) → StandsByMode m s → Apart m.config s
    → Apart m.config (cores_of m)
apart_cores m s st a = record {
  cores = λ i j lt less ne live lives same.
      let x = alike m s i st lt in
      let y = alike m s j st less in
      a.cores i j lt less ne (ap is_lost (sym x.mode) ∙ live) (ap is_lost (sym y.mode) ∙ lives)
      (sym x.core ∙ same ∙ y.core);
  free = λ i lt live.
      let x = alike m s i st lt in
      spare_is m s ((cores_of m).core i) st ∙ ap (λ k. s.spare k) x.core
      ∙ a.free i lt (ap is_lost (sym x.mode) ∙ live);
  own = λ i lt. let x = alike m s i st lt in ap (belongs m.config) x.core ∙ a.own i lt;
  spares = λ k is. a.spares k (sym (spare_is m s k st) ∙ is);
}
