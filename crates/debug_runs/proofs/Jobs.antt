-- A session over a job, from what its calls give.
use Rattle.std.proofs.Common.{◌≡◌, ℕ, zero, suc, ◌<◌, ◌≤◌, false, List, [], ◌∷◌, ◌++◌, length, take, refl, sym, ap, ◌∙◌, subst, arith, Option, Some, Result, Ok, Err}
use Rattle.std.specs.Prelude.{min, slice_get, All}
use Rattle.std.proofs.lemmas.List.{length-take, take_min}
use Rattle.core_turns.specs.Handing.{hands}
use Rattle.core_turns.specs.declared.held.Held.{Held}
use Rattle.g5_debugger.specs.Sessions.{HasBegun, IsSession, IsUnused, left_of}
use Rattle.g5_debugger.specs.declared.session.Session.{Session}
use Rattle.g5_machine.specs.Standing.{StandsFor}
use Rattle.g5_outside.specs.Views.{SinkView}
use Rattle.machine_runs.proofs.AtJobs.{at_job}
use Rattle.machine_runs.proofs.RunTold.{IsAtJob, run_told}
use Rattle.machine_runs.specs.Jobs.{IsReadyJob, LeavesSilicon, run_hands}
use Rattle.machine_runs.specs.RunTells.{RunTells, turns}
use Rattle.machine_runs.specs.Views.{Stands, view_of}
use Rattle.machine_runs.specs.declared.ready.Ready.{Ready}
use Rattle.machine_runs.specs.declared.twin_machine.TwinMachine.{TwinMachine}
use Rattle.program_model.specs.Accepted.{Job, first_machine}
use Rattle.program_model.specs.Session.{Said, session_from}
use Rattle.program_model.specs.Session.{Session as ModelSession}
use Rattle.run_loop.specs.Engines.{EngineView}
use Rattle.run_loop.specs.Making.{SoundAfter, Tells, hands_by}
use Rattle.run_model.specs.Cores.{is_lost}
use Rattle.run_model.specs.Counts.{count_turns, counts, none_made}
use Rattle.run_model.specs.Fate.{Sound}
use Rattle.run_model.specs.Pieces.{Piece}
use Rattle.run_model.specs.Runs.{Model, Told, first_model, run_after, turned}
use Rattle.run_model.specs.Schedule.{kinds_of}
use Rattle.run_model.specs.Script.{lines}
use Rattle.run_model.specs.declared.faults.Strike.{Strike}
use Rattle.run_model.specs.declared.logs.Config.{Config}
use Rattle.run_model.specs.declared.outputs.Counts.{Counts}
use Rattle.run_model.specs.declared.schedules.Run.{Run}
use Rattle.run_model.specs.declared.schedules.RunKind.{RunKind}
use Rattle.silicon.specs.Chip.{Chip}
use Rattle.silicon.specs.Tape.{Tape, tells as tells_tape}
use Rattle.debug_runs.specs.CommandLines.{before_quit, turns_in}
use Rattle.debug_runs.specs.Conversing.{Carries, Converses, IsSoundTo, Writes, said_to}
use Rattle.debug_runs.specs.Holding.{CarriesJob, HoldsJob, IsSoundFor, hands_for, said_of_job, session_at_start}
use Rattle.debug_runs.proofs.Quits.{none_before, none_front}
use Rattle.debug_runs.proofs.Sayings.{NoQuit, after_model}

-- ---- a session at the start of a job

-- it is over the machine and the schedule of the job, and has made no turn
pub record StartsSession (s : Session) (r : Ready) : Type 0 where
  pub engine : s.engine ≡ r.machine
  pub left : left_of s ≡ kinds_of r.schedule
  pub made : s.reached.made ≡ none_made

pub at_start : (s : Session) (c : Config) (j : Job) (z : Chip) (t : Tape) (r : Ready)
    → IsReadyJob c j z r → StartsSession s r → IsAtJob c j (view_of s.engine z t)
at_start s c j z t r h starts =
    subst (λ (e : TwinMachine). IsAtJob c j (view_of e z t)) (sym starts.engine)
    (at_job c j z t r.machine h.starts h.fits)

left_is : (s : Session) (c : Config) (j : Job) (z : Chip) (r : Ready) → IsReadyJob c j z r
    → StartsSession s r → turns j ≡ left_of s
left_is s c j z r h starts =
    sym (starts.left ∙ ap (λ (rs : List Run). kinds_of rs) h.schedule)

pub first_of_job : (s : Session) (c : Config) (j : Job) (z : Chip) (t : Tape) (r : Ready)
    → IsReadyJob c j z r → StartsSession s r
    → IsSession s (view_of s.engine z t) (session_at_start c j)
first_of_job s c j z t r h starts = record {
  stands = (at_start s c j z t r h starts).stands;
  left = left_is s c j z r h starts;
  made = sym starts.made;
}

pub begun_first : (s : Session) (r : Ready) (z : Chip) → StartsSession s r → HasBegun 0 z
    → HasBegun s.reached.made.turns z
begun_first s r z starts begun =
    subst (λ (n : Counts). HasBegun n.turns z) (sym starts.made) begun

-- ---- the silicon after turns

some_held : (hs : List Held) (i : ℕ) → i < length hs → (h : Held) × (slice_get hs i ≡ Some h)
some_held [] i lt = absurd (omega (arith, lt))
some_held (h ∷ hs) zero lt = (h, refl)
some_held (h ∷ hs) (suc i) lt = some_held hs i (omega (arith, lt))

leaves : (c : Config) (e : TwinMachine) (z : Chip) (x : Model) → e.machine.config ≡ c
    → StandsFor e.machine z x → LeavesSilicon c x z
leaves c e z x same st = record {
  begun = st.begun;
  words = λ i lt live.
      let n : length e.machine.cpus.items ≡ c.cpus =
      sym e.machine.fits.cpus ∙ ap (λ (d : Config). d.cpus) same in
      let held = some_held e.machine.cpus.items i (omega (arith, lt, n)) in
      ((st.each i held.0 held.1).stores live).words;
}

hands_are : (e : TwinMachine) (z : Chip) (v : Tape) (x : Model) (ks : List RunKind)
    → hands_by (view_of e z v) x ks ≡ run_hands z.lines e.machine.config x ks
hands_are e z v x [] = refl
hands_are e z v x (k ∷ ks) =
    ap (λ hs. hands z.lines x k ++ hs)
    (hands_are e z v (turned z.lines e.machine.config x k) ks)

-- ---- lines that were carried out over a job

-- the definitions' session by the view and by the job is one
said_at : (c : Config) (j : Job) (v : EngineView) (xs : List (List ℕ)) → IsAtJob c j v
    → said_of_job c j xs ≡ said_to v (session_at_start c j) xs
said_at c j v xs at =
    let d : ModelSession = session_at_start c j in
    sym (ap (λ ls. session_from ls v.config d xs) at.lines
    ∙ ap (λ k. session_from j.strikes k d xs) at.config)

sound_at : (c : Config) (j : Job) (v : EngineView) (xs : List (List ℕ)) → IsAtJob c j v
    → IsSoundFor c j xs → IsSoundTo v (session_at_start c j) xs
sound_at c j v xs at sound =
    subst (λ ls. Sound ls (said_to v (session_at_start c j) xs).after.model.fate) (sym at.lines)
    (subst (λ (s : Said). Sound j.strikes s.after.model.fate) (said_at c j v xs at) sound)

module _ (c : Config) (j : Job) (asked : List (List ℕ)) (answers : List Piece)
    (s t : Session) (z y : Chip) (v w : Tape) (r : Ready)
    (h : IsReadyJob c j z r) (starts : StartsSession s r)
    (m : Carries asked s t (view_of s.engine z v) (view_of t.engine y w) answers) where
  tells_job : RunTells c j m.turns.told
  tells_job =
      let before : EngineView = view_of s.engine z v in
      let after : EngineView = view_of t.engine y w in
      let n : ℕ = turns_in before.config.cpus asked in
      let ks : List RunKind = turns j in
      let front : take n (left_of s) ≡ take (min n (length ks)) ks =
      ap (take n) (sym (left_is s c j z r h starts)) ∙ sym (take_min n ks) in
      run_told c j (min n (length ks)) m.turns.told before after
      (at_start s c j z v r h starts) (omega arith)
      (subst (λ q. Tells q m.turns.told before after) front m.turns.tells)

  turns_are : turns_in (view_of s.engine z v).config.cpus asked ≡ turns_in c.cpus asked
  turns_are =
      ap (λ (k : Config). turns_in k.cpus asked) (at_start s c j z v r h starts).config

  made_job : length m.turns.told ≡ min (turns_in c.cpus asked) (length (turns j))
  made_job =
      let n : ℕ = turns_in (view_of s.engine z v).config.cpus asked in
      m.turns.tells.each
      ∙ ap (λ (ks : List RunKind). length (take n ks)) (sym (left_is s c j z r h starts))
      ∙ length-take n (turns j)
      ∙ ap (λ k. min k (length (turns j))) turns_are

  fronts_job : (n : ℕ) → n ≤ length asked → IsSoundFor c j (take n asked)
      → take n answers ≡ (said_of_job c j (take n asked)).pieces
  fronts_job n le sound =
      let before : EngineView = view_of s.engine z v in
      let at = at_start s c j z v r h starts in
      m.fronts (session_at_start c j) (first_of_job s c j z v r h starts) n le
      (sound_at c j before (take n asked) at sound)
      ∙ ap (λ (x : Said). x.pieces) (sym (said_at c j before (take n asked) at))

  silicon_job : IsSoundFor c j asked → LeavesSilicon c (said_of_job c j asked).after.model y
  silicon_job sound =
      let before : EngineView = view_of s.engine z v in
      let at = at_start s c j z v r h starts in
      let x : Model = (said_of_job c j asked).after.model in
      let is = m.stands (session_at_start c j) (first_of_job s c j z v r h starts)
      (sound_at c j before asked at sound) in
      let stands : Stands t.engine y x =
      subst (λ (q : Said). Stands t.engine y q.after.model) (sym (said_at c j before asked at))
      is.stands in
      leaves c t.engine y x (m.turns.tells.kept.config ∙ at.config) stands.stands

  handed_job : NoQuit c.cpus asked → IsSoundFor c j asked
      → w ≡ tells_tape v (hands_for c j asked)
  handed_job none sound =
      let before : EngineView = view_of s.engine z v in
      let at = at_start s c j z v r h starts in
      let x : Model = first_model c (first_machine c j) in
      let n : ℕ = turns_in before.config.cpus asked in
      let ks : List RunKind = take n (left_of s) in
      let same : take (turns_in c.cpus asked) (turns j) ≡ ks =
      ap (λ k. take k (turns j)) (sym turns_are)
      ∙ ap (take n) (left_is s c j z r h starts) in
      let sound_turns : Sound j.strikes
      (run_after j.strikes c x (take (turns_in c.cpus asked) (turns j))).fate =
      subst (λ q. Sound j.strikes q.fate)
      (after_model j.strikes c (session_at_start c j) asked none) sound in
      let sounds : SoundAfter before x ks =
      subst (λ (d : Config). Sound before.lines (run_after before.lines d x ks).fate) (sym at.config)
      (subst (λ ls. Sound ls (run_after ls c x ks).fate) (sym at.lines)
      (subst (λ q. Sound j.strikes (run_after j.strikes c x q).fate) same sound_turns)) in
      m.turns.tells.handed x at.stands sounds
      ∙ ap (tells_tape v) (hands_are s.engine z v x ks
      ∙ ap (λ ls. run_hands ls s.engine.machine.config x ks) at.lines
      ∙ ap (λ d. run_hands j.strikes d x ks) at.config
      ∙ ap (λ q. run_hands j.strikes c x q) (sym same))

  carries_job : NoQuit c.cpus asked → CarriesJob c j asked m.turns.told answers y v w
  carries_job none = record {
    tells = tells_job;
    made = made_job;
    each = m.each;
    fronts = fronts_job;
    silicon = silicon_job;
    handed = handed_job none;
  }

front_at : {T E : Type 0} (c : Config) (j : Job) (commands : List ℕ) (s t : Session)
    (v w : EngineView) (o p : SinkView) (result : Result T E) → IsAtJob c j v
    → (m : Converses commands s t v w o p result)
    → before_quit c.cpus (lines commands) ≡ m.asked ++ m.more
front_at c j commands s t v w o p result at m =
    subst (λ (k : Config). before_quit k.cpus (lines commands) ≡ m.asked ++ m.more) at.config
    m.front

none_asked : {T E : Type 0} (c : Config) (j : Job) (commands : List ℕ) (s t : Session)
    (v w : EngineView) (o p : SinkView) (result : Result T E) → IsAtJob c j v
    → (m : Converses commands s t v w o p result) → NoQuit c.cpus m.asked
none_asked c j commands s t v w o p result at m =
    none_front c.cpus m.asked m.more
    (subst (NoQuit c.cpus) (front_at c j commands s t v w o p result at m)
    (none_before c.cpus (lines commands)))

pub held_whole : {T E : Type 0} (c : Config) (j : Job) (commands : List ℕ) (s t : Session)
    (z y : Chip) (v w : Tape) (r : Ready) (o p : SinkView) (u : T) (n : Counts)
    → IsReadyJob c j z r → StartsSession s r
    → Converses {E = E} commands s t (view_of s.engine z v) (view_of t.engine y w) o p (Ok u)
    → n ≡ t.reached.made → HoldsJob {E = E} c j commands y v w o p (Ok n)
held_whole c j commands s t z y v w r o p u n h starts m said =
    let before : EngineView = view_of s.engine z v in
    let after : EngineView = view_of t.engine y w in
    let at = at_start s c j z v r h starts in
    let told : List Told = m.carries.turns.told in
    let made : t.reached.made ≡ counts told =
    m.carries.turns.counted ∙ ap (λ n. count_turns n told) starts.made in
    record {
      asked = m.asked;
      more = m.more;
      front = front_at c j commands s t before after o p (Ok u) at m;
      all = m.all;
      told = told;
      answers = m.answers;
      carries = carries_job c j m.asked m.answers s t z y v w r h starts m.carries
          (none_asked c j commands s t before after o p (Ok u) at m);
      counted = said ∙ made;
      written = record {
        held = m.written.held;
        grew = m.written.grew;
        all = m.written.all;
        cut = tt;
        cause = tt;
      };
    }

pub held_cut : {T E : Type 0} (c : Config) (j : Job) (commands : List ℕ) (s t : Session)
    (z y : Chip) (v w : Tape) (r : Ready) (o p : SinkView) (e : E)
    → IsReadyJob c j z r → StartsSession s r
    → Converses {T = T} commands s t (view_of s.engine z v) (view_of t.engine y w) o p (Err e)
    → HoldsJob c j commands y v w o p (Err e)
held_cut c j commands s t z y v w r o p e h starts m =
    let before : EngineView = view_of s.engine z v in
    let after : EngineView = view_of t.engine y w in
    let at = at_start s c j z v r h starts in
    record {
      asked = m.asked;
      more = m.more;
      front = front_at c j commands s t before after o p (Err e) at m;
      all = tt;
      told = m.carries.turns.told;
      answers = m.answers;
      carries = carries_job c j m.asked m.answers s t z y v w r h starts m.carries
          (none_asked c j commands s t before after o p (Err e) at m);
      counted = tt;
      written = record {
        held = m.written.held;
        grew = m.written.grew;
        all = tt;
        cut = m.written.cut;
        cause = m.written.cause;
      };
    }
