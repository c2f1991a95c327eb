-- What a session keeps through the turns that it makes.
use Rattle.std.proofs.Common.{◌≡◌, ℕ, ◌+◌, ◌*◌, ◌^◌, ◌≤◌, true, List, [], ◌∷◌, ◌++◌, length, take, drop, refl, sym, ap, ◌∙◌, subst, arith, length-append}
use Rattle.std.specs.List.{All}
use Rattle.std.proofs.lemmas.List.{take-append-drop}
use Rattle.g5_machine.specs.Standing.{StandsByMode}
use Rattle.g5_machine.specs.declared.machine.Machine.{Machine}
use Rattle.machine_runs.specs.Views.{IsReady, view_of}
use Rattle.machine_runs.specs.declared.twin_machine.TwinMachine.{TwinMachine}
use Rattle.run_loop.specs.Bounds.{Below}
use Rattle.run_loop.proofs.Rising.{below_more}
use Rattle.run_loop.proofs.Runs.{kinds_length}
use Rattle.run_laws.proofs.Standing.{apart_first}
use Rattle.run_model.specs.Cores.{first_cores}
use Rattle.run_model.specs.Counts.{commits_by, count_entries, count_turn, count_turns, count_what, none_made}
use Rattle.run_model.specs.Places.{Apart}
use Rattle.run_model.specs.Runs.{Told}
use Rattle.run_model.specs.Schedule.{Fits, kinds_of, turns_of}
use Rattle.run_model.specs.declared.logs.Config.{Config}
use Rattle.run_model.specs.declared.logs.Entry.{Entry}
use Rattle.run_model.specs.declared.logs.What.{What}
use Rattle.run_model.specs.declared.logs.What.TheVariants as what
use Rattle.run_model.specs.declared.outputs.Counts.{Counts}
use Rattle.run_model.specs.declared.schedules.Run.{Run}
use Rattle.run_model.specs.declared.schedules.RunKind.{RunKind}
use Rattle.silicon.specs.Chip.{Chip}
use Rattle.silicon.specs.Tape.{Tape}
use Rattle.twin_units.specs.UnitsSeen.{plain}
use Rattle.g5_debugger.specs.CoresOf.{cores_of}
use Rattle.g5_debugger.specs.Fitting.{all_fit}
use Rattle.g5_debugger.specs.Left.{left}
use Rattle.g5_debugger.specs.Making.{MakesNext}
use Rattle.g5_debugger.specs.Sessions.{HasBegun, IsUnused}
use Rattle.g5_debugger.specs.declared.making.Reached.{Reached}
use Rattle.g5_debugger.specs.declared.session.Session.{Session}
use Rattle.g5_debugger.proofs.FittingRuns.{all_so, so_all}
use Rattle.g5_debugger.proofs.StandingCores.{apart_cores, stands_by_cores}

-- ---- turns are counted

turns_what : (n : Counts) (w : What) → (count_what n w).turns ≡ n.turns
turns_what n (what.Fail why at) = refl
turns_what n _ = refl

turns_entries : (n : Counts) (es : List Entry) → (count_entries n es).turns ≡ n.turns
turns_entries n [] = refl
turns_entries n (e ∷ es) = turns_entries (count_what n e.what) es ∙ turns_what n e.what

turns_counted : (n : Counts) (ts : List Told) → (count_turns n ts).turns ≡ n.turns + length ts
turns_counted n [] = omega arith
turns_counted n (t ∷ ts) =
    let rest = turns_counted (count_turn n t) ts in
    let one =
    turns_entries
    (record n { turns = n.turns + 1; commits = commits_by t.event n.commits })
    t.entries in
    omega (arith, rest, one)

-- ---- what is so of each session

pub record Keeps (e : TwinMachine) (runs : List Run) (r : Reached) : Type 0 where
  pub fits : all_fit e.machine.config.cpus runs ≡ true
  pub turns : r.made.turns ≡ e.machine.counts.turns
  pub few : r.made.turns + length (left runs r.place) ≤ 1000000
  pub below : Below (45 * r.made.turns) r.made
  pub calls_a : (plain e.a).calls ≤ e.machine.counts.turns
  pub calls_b : (plain e.b).calls ≤ e.machine.counts.turns
  pub apart : Apart e.machine.config (cores_of e.machine)

-- ---- at its start

pub keeps_first : (e : TwinMachine) (runs : List Run) (r : Reached) → IsUnused e
    → All (λ (q : Run). Fits e.machine.config.cpus q.what) runs → turns_of runs ≤ 1000000
    → r.made ≡ none_made → left runs r.place ≡ kinds_of runs → Keeps e runs r
keeps_first e runs r unused fits few none all =
    let m = e.machine in
    let made : r.made.turns ≡ 0 = ap (λ (n : Counts). n.turns) none in
    let turns : 0 ≡ m.counts.turns = unused.machine.turns in
    let long : length (left runs r.place) ≡ turns_of runs = ap length all ∙ kinds_length runs in
    record {
      fits = all_so m.config.cpus runs fits;
      turns = made ∙ turns;
      few = omega (arith, few, made, long);
      below = subst (λ n. Below (45 * n.turns) n) (sym none) below_none;
      calls_a = omega (arith, unused.calls_a);
      calls_b = omega (arith, unused.calls_b);
      apart = apart_cores m (first_cores m.config) unused.machine
          (apart_first m.config m.fits.most);
    }
  where
    below_none : Below 0 none_made
    below_none = record {
      turns = omega arith;
      commits = omega arith;
      fails = omega arith;
      retries = omega arith;
      corrected = omega arith;
      spared = omega arith;
      stopped = omega arith;
      returned = omega arith;
    }

-- ---- before the next turns

pub ready_of : (s : Session) (z : Chip) → HasBegun s.reached.made.turns z → IsReady s.engine z
ready_of s z begun = record {
  begun = λ c lt. let few = begun c lt in omega (arith, few, s.turns);
  calls_a = s.calls_a;
  calls_b = s.calls_b;
  cores = cores_of s.engine.machine;
  by_mode = stands_by_cores s.engine.machine;
  apart = s.apart;
}

pub fits_of : (s : Session)
    → All (λ (r : Run). Fits s.engine.machine.config.cpus r.what) s.schedule
fits_of s = so_all s.engine.machine.config.cpus s.schedule s.fits

pub room_of : (s : Session) (n : ℕ) → n ≤ 1000000
    → s.engine.machine.counts.turns + n ≤ 2 ^ 47
room_of s n few = omega (arith, few, s.turns, s.few)

pub below_of : (s : Session) → Below (2 ^ 61) s.reached.made
below_of s =
    below_more (45 * s.reached.made.turns) (2 ^ 61) s.reached.made (omega (arith, s.few)) s.below

-- ---- after them

pub keeps_next : (n : ℕ) (s : Session) (e : TwinMachine) (r : Reached) (z y : Chip) (v w : Tape)
    → MakesNext n s.schedule s.reached r (view_of s.engine z v) (view_of e y w)
    → Keeps e s.schedule r
keeps_next n s e r z y v w m =
    let ks : List RunKind = left s.schedule s.reached.place in
    let counted : r.made.turns ≡ s.reached.made.turns + length m.told
    = ap (λ (q : Counts). q.turns) m.counted ∙ turns_counted s.reached.made m.told in
    let parts : length (take n ks ++ drop n ks) ≡ length (take n ks) + length (drop n ks)
    = length-append (take n ks) (drop n ks) in
    let whole : length (take n ks ++ drop n ks) ≡ length ks
    = ap length (take-append-drop n ks) in
    let behind : length (left s.schedule r.place) ≡ length (drop n ks) = ap length m.behind in
    let now : e.machine.counts.turns ≡ s.engine.machine.counts.turns + length (take n ks)
    = m.tells.turns in
    let ready : IsReady e y = m.ready in
    record {
      fits = ap (λ (c : Config). all_fit c.cpus s.schedule) m.tells.kept.config ∙ s.fits;
      turns = omega (arith, counted, s.turns, now, m.tells.each);
      few = omega (arith, counted, s.few, parts, whole, behind, m.tells.each);
      below = below_more (45 * s.reached.made.turns + 45 * length m.told) (45 * r.made.turns)
          r.made (omega (arith, counted)) (m.small (45 * s.reached.made.turns) s.below);
      calls_a = ready.calls_a;
      calls_b = ready.calls_b;
      apart = apart_cores e.machine ready.cores ready.by_mode ready.apart;
    }

pub begun_next : (n : ℕ) (s : Session) (e : TwinMachine) (r : Reached) (z y : Chip) (v w : Tape)
    → MakesNext n s.schedule s.reached r (view_of s.engine z v) (view_of e y w)
    → HasBegun r.made.turns y
begun_next n s e r z y v w m = λ k lt.
    let ready : IsReady e y = m.ready in
    let few = ready.begun k lt in
    let same = (keeps_next n s e r z y v w m).turns in
    omega (arith, few, same)

-- ---- a machine that is new

pub unused_of : (m : Machine) (e : TwinMachine) → e.machine ≡ m → (plain e.a).calls ≡ 0
    → (plain e.b).calls ≡ 0 → StandsByMode m (first_cores m.config) → IsUnused e
unused_of m e same a b stands = record {
  machine = subst (λ (q : Machine). StandsByMode q (first_cores q.config)) (sym same) stands;
  calls_a = a;
  calls_b = b;
}

pub fits_with : (m : Machine) (e : TwinMachine) (runs : List Run) → e.machine ≡ m
    → All (λ (r : Run). Fits m.config.cpus r.what) runs
    → All (λ (r : Run). Fits e.machine.config.cpus r.what) runs
fits_with m e runs same fits =
    subst (λ (q : Machine). All (λ (r : Run). Fits q.config.cpus r.what) runs) (sym same) fits
