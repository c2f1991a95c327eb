-- Files that are told give one job.
use Rattle.std.proofs.Common.{◌≡◌, ℕ, ◌≤◌, ◌<◌, List, length, refl, sym, ◌∙◌, ap, arith, Some, None, Ok, Err, IsTrue}
use Rattle.g5_outside.specs.Causes.{Rose}
use Rattle.g5_outside.specs.Views.{ShelfView, SourceView}
use Rattle.g5_outside.specs.Calls.{file_named}
use Rattle.g5_reading.specs.Inputs.{IsIn, IsTooLarge, IsUnreadInput}
use Rattle.job_inputs.specs.Reads.{AreRead, IsAboveLimit, IsAbsent, IsUnread}
use Rattle.program_model.specs.Accepted.{Job, JobBytes, job}
use Rattle.program_model.specs.Commands.{JobNames, SessionNames}
use Rattle.program_model.specs.Inputs.{limit}
use Rattle.program_model.specs.declared.inputs.Input.{Input}
use Rattle.program_model.specs.declared.inputs.Input.TheVariants.{Deck, Console, Schedule, Script, Keys, Log, Program, Part, Saved}
use Rattle.program_model.specs.declared.status.Status.{Status}
use Rattle.program_model.specs.declared.status.Status.TheVariants.{Done, CheckStopped, Usage, NoFile, ReadFault, WriteFault, DeckRefused, ScheduleRefused, ScriptRefused, TooLarge, NoMemory, LogRefused, SourceRefused, LinkRefused, SaveRefused, AuditNo}
use Rattle.run_model.specs.declared.logs.Config.{Config}
use Rattle.g5_run.specs.Accepting.{IsJob, inputs_of}
use Rattle.g5_run.specs.Complete.{IsAccepted, IsAcceptedSession, IsToldFile}

pub one_text : (name : List ℕ) (s : ShelfView) (x y : List ℕ) → file_named name s.files ≡ Some x
    → file_named name s.files ≡ Some y → x ≡ y
one_text name s x y e f = let both : Some x ≡ Some y = sym e ∙ f in cc

there : (name : List ℕ) (most : ℕ) (s : ShelfView) (x : List ℕ) → IsTrue s.told
    → IsIn name most s x → file_named name s.files ≡ None → ⊥
there name most s x t h none = let both : Some x ≡ None = sym (h.is t) ∙ none in absurd cc

not_above : (name : List ℕ) (most : ℕ) (s : ShelfView) (x : List ℕ) → IsTrue s.told
    → IsIn name most s x → IsTooLarge name most s → ⊥
not_above name most s x t h m =
    let e : length x ≡ length m.0 = ap length (one_text name s x m.0 (h.is t) m.1) in
    let bound : length x ≤ most = h.bound in
    let above : most < length m.0 = m.2 in
    absurd (omega arith)

abbrev pub bytes_of : List ℕ → List ℕ → List ℕ → List ℕ → JobBytes
bytes_of deck console schedule script = record {
  deck = deck;
  console = console;
  schedule = schedule;
  script = script;
}

pub same_bytes : (names : SessionNames) (s : ShelfView) (x y : JobBytes) → IsTrue s.told
    → AreRead names s x → AreRead names s y → x ≡ y
same_bytes names s x y t h k =
    let deck : x.deck ≡ y.deck =
    one_text names.deck s x.deck y.deck (h.deck_is.is t) (k.deck_is.is t) in
    let console : x.console ≡ y.console =
    one_text names.console s x.console y.console (h.console_is.is t) (k.console_is.is t) in
    let schedule : x.schedule ≡ y.schedule =
    one_text names.schedule s x.schedule y.schedule (h.schedule_is.is t) (k.schedule_is.is t) in
    let script : x.script ≡ y.script =
    one_text names.script s x.script y.script (h.script_is.is t) (k.script_is.is t) in
    ap (λ d. bytes_of d x.console x.schedule x.script) deck
    ∙ ap (λ d. bytes_of y.deck d x.schedule x.script) console
    ∙ ap (λ d. bytes_of y.deck y.console d x.script) schedule
    ∙ ap (λ d. bytes_of y.deck y.console y.schedule d) script

pub same_job : (names : JobNames) (c : Config) (i j : Job) (s : ShelfView) → IsTrue s.told
    → IsJob names c i s → IsJob names c j s → i ≡ j
same_job names c i j s t h k =
    let bytes = same_bytes (inputs_of names) s h.bytes k.bytes t h.read k.read in
    let both : Ok i ≡ Ok j = sym h.accepted ∙ ap (job c) bytes ∙ k.accepted in
    cc

-- ---- told files that give a job are not refused

-- the files are told, and give this job
pub record Gives (names : SessionNames) (c : Config) (j : Job) (shelf : ShelfView) : Type 0 where
  pub told : IsTrue shelf.told
  pub bytes : JobBytes
  pub read : AreRead names shelf bytes
  pub accepted : job c bytes ≡ Ok j

pub gives_run : (names : JobNames) (c : Config) (j : Job) (s : ShelfView)
    → IsAccepted names c j s → Gives (inputs_of names) c j s
gives_run names c j s ok = record {
  told = ok.told;
  bytes = ok.is.bytes;
  read = ok.is.read;
  accepted = ok.is.accepted;
}

pub gives_session : (names : SessionNames) (c : Config) (j : Job) (s : ShelfView)
    (k : SourceView) → IsAcceptedSession names c j s k → Gives names c j s
gives_session names c j s k ok = record {
  told = ok.told;
  bytes = ok.given.bytes;
  read = ok.given.read;
  accepted = ok.given.accepted;
}

pub not_refused : (names : SessionNames) (c : Config) (j : Job) (status : Status)
    (a : ShelfView) (bytes : JobBytes) → Gives names c j a → AreRead names a bytes
    → job c bytes ≡ Err status → ⊥
not_refused names c j status a bytes ok read refused =
    let same = same_bytes names a ok.bytes bytes ok.told ok.read read in
    let clash : Ok j ≡ Err status = sym ok.accepted ∙ ap (job c) same ∙ refused in
    absurd cc

not_absent : (names : SessionNames) (c : Config) (j : Job) (a b : ShelfView) (input : Input)
    → Gives names c j a → IsAbsent names a b input → ⊥
not_absent names c j a b Deck ok h =
    there names.deck (limit Deck) a ok.bytes.deck ok.told ok.read.deck_is (h.missing ok.told)
not_absent names c j a b Console ok h =
    there names.console (limit Console) a ok.bytes.console ok.told ok.read.console_is (h.missing ok.told)
not_absent names c j a b Schedule ok h =
    there names.schedule (limit Schedule) a ok.bytes.schedule ok.told ok.read.schedule_is (h.missing ok.told)
not_absent names c j a b Script ok h =
    there names.script (limit Script) a ok.bytes.script ok.told ok.read.script_is (h.missing ok.told)
not_absent names c j a b Keys ok h = absurd h.before
not_absent names c j a b Log ok h = absurd h.before
not_absent names c j a b Program ok h = absurd h.before
not_absent names c j a b (Part k) ok h = absurd h.before
not_absent names c j a b Saved ok h = absurd h.before

pub not_too_large : (names : SessionNames) (c : Config) (j : Job) (a b : ShelfView) (input : Input)
    → Gives names c j a → IsAboveLimit names a b input → ⊥
not_too_large names c j a b Deck ok h =
    not_above names.deck (limit Deck) a ok.bytes.deck ok.told ok.read.deck_is (h.above ok.told)
not_too_large names c j a b Console ok h =
    not_above names.console (limit Console) a ok.bytes.console ok.told ok.read.console_is (h.above ok.told)
not_too_large names c j a b Schedule ok h =
    not_above names.schedule (limit Schedule) a ok.bytes.schedule ok.told ok.read.schedule_is (h.above ok.told)
not_too_large names c j a b Script ok h =
    not_above names.script (limit Script) a ok.bytes.script ok.told ok.read.script_is (h.above ok.told)
not_too_large names c j a b Keys ok h = absurd h.before
not_too_large names c j a b Log ok h = absurd h.before
not_too_large names c j a b Program ok h = absurd h.before
not_too_large names c j a b (Part k) ok h = absurd h.before
not_too_large names c j a b Saved ok h = absurd h.before

-- where no call fails, they are read, or there is no memory
pub files_read : (names : SessionNames) (c : Config) (j : Job) (a b : ShelfView) (status : Status)
    → Gives names c j a → ¬ Rose a.read_faults b.read_faults → IsUnread names a b status
    → status ≡ NoMemory
files_read names c j a b Done ok reads h = absurd h
files_read names c j a b CheckStopped ok reads h = absurd h
files_read names c j a b Usage ok reads h = absurd h
files_read names c j a b (NoFile input) ok reads h =
    absurd (not_absent names c j a b input ok h)
files_read names c j a b ReadFault ok reads h = absurd (reads h)
files_read names c j a b WriteFault ok reads h = absurd h
files_read names c j a b (DeckRefused r) ok reads h = absurd h
files_read names c j a b (ScheduleRefused r) ok reads h = absurd h
files_read names c j a b (ScriptRefused r) ok reads h = absurd h
files_read names c j a b (TooLarge input) ok reads h =
    absurd (not_too_large names c j a b input ok h)
files_read names c j a b NoMemory ok reads h = refl
files_read names c j a b (LogRefused r) ok reads h = absurd h
files_read names c j a b (SourceRefused r) ok reads h = absurd h
files_read names c j a b (LinkRefused r) ok reads h = absurd h
files_read names c j a b (SaveRefused r) ok reads h = absurd h
files_read names c j a b (AuditNo r) ok reads h = absurd h

-- so is a single file that is told and within its limit
pub file_read : (input : Input) (name : List ℕ) (a b : ShelfView) (bytes : List ℕ)
    (status : Status) → IsToldFile name input a bytes → ¬ Rose a.read_faults b.read_faults
    → IsUnreadInput input name a b status → status ≡ NoMemory
file_read input name a b bytes Done ok reads h = absurd h
file_read input name a b bytes CheckStopped ok reads h = absurd h
file_read input name a b bytes Usage ok reads h = absurd h
file_read input name a b bytes (NoFile at) ok reads h =
    absurd (there name (limit input) a bytes ok.told ok.is (h.1.missing ok.told))
file_read input name a b bytes ReadFault ok reads h = absurd (reads h)
file_read input name a b bytes WriteFault ok reads h = absurd h
file_read input name a b bytes (DeckRefused r) ok reads h = absurd h
file_read input name a b bytes (ScheduleRefused r) ok reads h = absurd h
file_read input name a b bytes (ScriptRefused r) ok reads h = absurd h
file_read input name a b bytes (TooLarge at) ok reads h =
    absurd (not_above name (limit input) a bytes ok.told ok.is (h.1.above ok.told))
file_read input name a b bytes NoMemory ok reads h = refl
file_read input name a b bytes (LogRefused r) ok reads h = absurd h
file_read input name a b bytes (SourceRefused r) ok reads h = absurd h
file_read input name a b bytes (LinkRefused r) ok reads h = absurd h
file_read input name a b bytes (SaveRefused r) ok reads h = absurd h
file_read input name a b bytes (AuditNo r) ok reads h = absurd h
