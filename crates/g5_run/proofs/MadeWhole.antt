-- A run, a session or a generated run whose inputs are accepted and of whose calls none fails is carried
-- out to its end, where there is memory.
use Rattle.std.proofs.Common.{◌≡◌, ◌⊎◌, ◌≤◌, ◌<◌, ℕ, length, refl, ap, arith, inl, inr}
use Rattle.debug_command.specs.Preparing.{IsRefused as IsRefusedSession}
use Rattle.g5_outside.specs.Causes.{Rose}
use Rattle.g5_outside.specs.Views.{ShelfView, SinkView, SourceView}
use Rattle.program_model.specs.Accepted.{Job}
use Rattle.program_model.specs.Commands.{JobNames, SessionNames}
use Rattle.program_model.specs.Inputs.{limit}
use Rattle.program_model.specs.declared.inputs.Input.{Input}
use Rattle.program_model.specs.declared.inputs.Input.TheVariants.{Deck, Console, Schedule, Script, Keys, Log, Program, Part, Saved}
use Rattle.program_model.specs.declared.status.Status.{Status}
use Rattle.program_model.specs.declared.status.Status.TheVariants.{Done, CheckStopped, Usage, NoFile, ReadFault, WriteFault, DeckRefused, ScheduleRefused, ScriptRefused, TooLarge, NoMemory, LogRefused, SourceRefused, LinkRefused, SaveRefused, AuditNo}
use Rattle.run_model.specs.declared.logs.Config.{Config}
use Rattle.g5_run.specs.Accepting.{IsRefused, inputs_of}
use Rattle.g5_run.specs.Complete.{IsAccepted, IsAcceptedSession, IsMade, NothingFailed}
use Rattle.g5_run.specs.Conversing.{DebugEnds}
use Rattle.g5_run.specs.Ends.{JobEnds}
use Rattle.g5_run.specs.Generates.{GenEnds}
use Rattle.g5_run.specs.Leaving.{Beside, SiliconAfter}
use Rattle.g5_run.proofs.Accepted.{files_read, gives_run, gives_session, not_refused, not_too_large}

abbrev pub OrNoMemory : Type 0 → Status → Type 0
OrNoMemory whole status = whole ⊎ (status ≡ NoMemory)

-- ---- a run

run_refused : (names : JobNames) (c : Config) (j : Job) (a b : ShelfView) (status : Status)
    → IsRefused names c a b status → IsAccepted names c j a
    → ¬ Rose a.read_faults b.read_faults → status ≡ NoMemory
run_refused names c j a b Done h ok reads =
    files_read (inputs_of names) c j a b Done (gives_run names c j a ok) reads h
run_refused names c j a b CheckStopped h ok reads =
    files_read (inputs_of names) c j a b CheckStopped (gives_run names c j a ok) reads h
run_refused names c j a b Usage h ok reads =
    files_read (inputs_of names) c j a b Usage (gives_run names c j a ok) reads h
run_refused names c j a b (NoFile input) h ok reads =
    files_read (inputs_of names) c j a b (NoFile input) (gives_run names c j a ok) reads h
run_refused names c j a b ReadFault h ok reads =
    files_read (inputs_of names) c j a b ReadFault (gives_run names c j a ok) reads h
run_refused names c j a b WriteFault h ok reads =
    files_read (inputs_of names) c j a b WriteFault (gives_run names c j a ok) reads h
run_refused names c j a b (DeckRefused r) h ok reads =
    absurd (not_refused (inputs_of names) c j (DeckRefused r) a h.bytes (gives_run names c j a ok)
    h.read h.refused)
run_refused names c j a b (ScheduleRefused r) h ok reads =
    absurd (not_refused (inputs_of names) c j (ScheduleRefused r) a h.bytes (gives_run names c j a ok)
    h.read h.refused)
run_refused names c j a b (ScriptRefused r) h ok reads =
    absurd (not_refused (inputs_of names) c j (ScriptRefused r) a h.bytes (gives_run names c j a ok)
    h.read h.refused)
run_refused names c j a b (TooLarge input) h ok reads =
    files_read (inputs_of names) c j a b (TooLarge input) (gives_run names c j a ok) reads h
run_refused names c j a b NoMemory h ok reads =
    files_read (inputs_of names) c j a b NoMemory (gives_run names c j a ok) reads h
run_refused names c j a b (LogRefused r) h ok reads =
    files_read (inputs_of names) c j a b (LogRefused r) (gives_run names c j a ok) reads h
run_refused names c j a b (SourceRefused r) h ok reads =
    files_read (inputs_of names) c j a b (SourceRefused r) (gives_run names c j a ok) reads h
run_refused names c j a b (LinkRefused r) h ok reads =
    files_read (inputs_of names) c j a b (LinkRefused r) (gives_run names c j a ok) reads h
run_refused names c j a b (SaveRefused r) h ok reads =
    files_read (inputs_of names) c j a b (SaveRefused r) (gives_run names c j a ok) reads h
run_refused names c j a b (AuditNo r) h ok reads =
    files_read (inputs_of names) c j a b (AuditNo r) (gives_run names c j a ok) reads h

pub run_complete : (names : JobNames) (c : Config) (j : Job) (a b : ShelfView) (o p e f : SinkView)
    (z : SiliconAfter) (status : Status) → JobEnds names c a b o p e f z status
    → IsAccepted names c j a → NothingFailed a b o p → OrNoMemory (IsMade status) status
run_complete names c j a b o p e f z Done h ok nf = inl (inl refl)
run_complete names c j a b o p e f z CheckStopped h ok nf = inl (inr refl)
run_complete names c j a b o p e f z Usage h ok nf =
    inr (run_refused names c j a b Usage h.0.because ok nf.reads)
run_complete names c j a b o p e f z (NoFile input) h ok nf =
    inr (run_refused names c j a b (NoFile input) h.0.because ok nf.reads)
run_complete names c j a b o p e f z ReadFault h ok nf =
    inr (run_refused names c j a b ReadFault h.0.because ok nf.reads)
run_complete names c j a b o p e f z WriteFault h ok nf =
    absurd (elim h.0.cause [ inl shelf ↦ nf.writes shelf | inr sink ↦ nf.out sink ])
run_complete names c j a b o p e f z (DeckRefused r) h ok nf =
    inr (run_refused names c j a b (DeckRefused r) h.0.because ok nf.reads)
run_complete names c j a b o p e f z (ScheduleRefused r) h ok nf =
    inr (run_refused names c j a b (ScheduleRefused r) h.0.because ok nf.reads)
run_complete names c j a b o p e f z (ScriptRefused r) h ok nf =
    inr (run_refused names c j a b (ScriptRefused r) h.0.because ok nf.reads)
run_complete names c j a b o p e f z (TooLarge input) h ok nf =
    inr (run_refused names c j a b (TooLarge input) h.0.because ok nf.reads)
run_complete names c j a b o p e f z NoMemory h ok nf = inr refl
run_complete names c j a b o p e f z (LogRefused r) h ok nf =
    inr (run_refused names c j a b (LogRefused r) h.0.because ok nf.reads)
run_complete names c j a b o p e f z (SourceRefused r) h ok nf =
    inr (run_refused names c j a b (SourceRefused r) h.0.because ok nf.reads)
run_complete names c j a b o p e f z (LinkRefused r) h ok nf =
    inr (run_refused names c j a b (LinkRefused r) h.0.because ok nf.reads)
run_complete names c j a b o p e f z (SaveRefused r) h ok nf =
    inr (run_refused names c j a b (SaveRefused r) h.0.because ok nf.reads)
run_complete names c j a b o p e f z (AuditNo r) h ok nf =
    inr (run_refused names c j a b (AuditNo r) h.0.because ok nf.reads)

-- ---- a session

-- its lines are within their limit
lines_fit : (names : SessionNames) (c : Config) (j : Job) (a b : ShelfView) (k l : SourceView)
    (input : Input) → IsRefusedSession names c a b k l (TooLarge input)
    → IsAcceptedSession names c j a k → ⊥
lines_fit names c j a b k l Deck h ok =
    not_too_large names c j a b Deck (gives_session names c j a k ok) h
lines_fit names c j a b k l Console h ok =
    not_too_large names c j a b Console (gives_session names c j a k ok) h
lines_fit names c j a b k l Schedule h ok =
    not_too_large names c j a b Schedule (gives_session names c j a k ok) h
lines_fit names c j a b k l Script h ok =
    not_too_large names c j a b Script (gives_session names c j a k ok) h
lines_fit names c j a b k l Keys h ok =
    let e : length ok.lines ≡ length k.left = ap length (ok.given.lines_are.is ok.keys_told) in
    let bound : length ok.lines ≤ limit Keys = ok.given.lines_are.bound in
    let above : limit Keys < length k.left = h.above ok.keys_told in
    absurd (omega arith)
lines_fit names c j a b k l Log h ok =
    not_too_large names c j a b Log (gives_session names c j a k ok) h
lines_fit names c j a b k l Program h ok =
    not_too_large names c j a b Program (gives_session names c j a k ok) h
lines_fit names c j a b k l (Part n) h ok =
    not_too_large names c j a b (Part n) (gives_session names c j a k ok) h
lines_fit names c j a b k l Saved h ok =
    not_too_large names c j a b Saved (gives_session names c j a k ok) h

session_refused : (names : SessionNames) (c : Config) (j : Job) (a b : ShelfView)
    (k l : SourceView) (status : Status) → IsRefusedSession names c a b k l status
    → IsAcceptedSession names c j a k → ¬ Rose a.read_faults b.read_faults
    → ¬ Rose k.faults l.faults → status ≡ NoMemory
session_refused names c j a b k l Done h ok reads lines =
    files_read names c j a b Done (gives_session names c j a k ok) reads h
session_refused names c j a b k l CheckStopped h ok reads lines =
    files_read names c j a b CheckStopped (gives_session names c j a k ok) reads h
session_refused names c j a b k l Usage h ok reads lines =
    files_read names c j a b Usage (gives_session names c j a k ok) reads h
session_refused names c j a b k l (NoFile input) h ok reads lines =
    files_read names c j a b (NoFile input) (gives_session names c j a k ok) reads h
session_refused names c j a b k l ReadFault h ok reads lines =
    absurd (elim h [ inl files ↦ reads files | inr source ↦ lines source ])
session_refused names c j a b k l WriteFault h ok reads lines =
    files_read names c j a b WriteFault (gives_session names c j a k ok) reads h
session_refused names c j a b k l (DeckRefused r) h ok reads lines =
    absurd (not_refused names c j (DeckRefused r) a h.bytes (gives_session names c j a k ok) h.read
    h.refused)
session_refused names c j a b k l (ScheduleRefused r) h ok reads lines =
    absurd (not_refused names c j (ScheduleRefused r) a h.bytes (gives_session names c j a k ok) h.read
    h.refused)
session_refused names c j a b k l (ScriptRefused r) h ok reads lines =
    absurd (not_refused names c j (ScriptRefused r) a h.bytes (gives_session names c j a k ok) h.read
    h.refused)
session_refused names c j a b k l (TooLarge input) h ok reads lines =
    absurd (lines_fit names c j a b k l input h ok)
session_refused names c j a b k l NoMemory h ok reads lines =
    files_read names c j a b NoMemory (gives_session names c j a k ok) reads h
session_refused names c j a b k l (LogRefused r) h ok reads lines =
    files_read names c j a b (LogRefused r) (gives_session names c j a k ok) reads h
session_refused names c j a b k l (SourceRefused r) h ok reads lines =
    files_read names c j a b (SourceRefused r) (gives_session names c j a k ok) reads h
session_refused names c j a b k l (LinkRefused r) h ok reads lines =
    files_read names c j a b (LinkRefused r) (gives_session names c j a k ok) reads h
session_refused names c j a b k l (SaveRefused r) h ok reads lines =
    files_read names c j a b (SaveRefused r) (gives_session names c j a k ok) reads h
session_refused names c j a b k l (AuditNo r) h ok reads lines =
    files_read names c j a b (AuditNo r) (gives_session names c j a k ok) reads h

pub session_complete : (names : SessionNames) (c : Config) (j : Job) (a b : ShelfView)
    (o p e f : SinkView) (z : Beside) (status : Status) → DebugEnds names c a b o p e f z status
    → IsAcceptedSession names c j a z.keys → NothingFailed a b o p
    → ¬ Rose z.keys.faults z.keys_after.faults → OrNoMemory (status ≡ Done) status
session_complete names c j a b o p e f z Done h ok nf lines = inl refl
session_complete names c j a b o p e f z CheckStopped h ok nf lines =
    inr (session_refused names c j a b z.keys z.keys_after CheckStopped h.0.because ok nf.reads
    lines)
session_complete names c j a b o p e f z Usage h ok nf lines =
    inr (session_refused names c j a b z.keys z.keys_after Usage h.0.because ok nf.reads
    lines)
session_complete names c j a b o p e f z (NoFile input) h ok nf lines =
    inr (session_refused names c j a b z.keys z.keys_after (NoFile input) h.0.because ok nf.reads
    lines)
session_complete names c j a b o p e f z ReadFault h ok nf lines =
    inr (session_refused names c j a b z.keys z.keys_after ReadFault h.0.because ok nf.reads
    lines)
session_complete names c j a b o p e f z WriteFault h ok nf lines =
    absurd (nf.out h.0.session.written.cause)
session_complete names c j a b o p e f z (DeckRefused r) h ok nf lines =
    inr (session_refused names c j a b z.keys z.keys_after (DeckRefused r) h.0.because ok nf.reads
    lines)
session_complete names c j a b o p e f z (ScheduleRefused r) h ok nf lines =
    inr (session_refused names c j a b z.keys z.keys_after (ScheduleRefused r) h.0.because ok nf.reads
    lines)
session_complete names c j a b o p e f z (ScriptRefused r) h ok nf lines =
    inr (session_refused names c j a b z.keys z.keys_after (ScriptRefused r) h.0.because ok nf.reads
    lines)
session_complete names c j a b o p e f z (TooLarge input) h ok nf lines =
    inr (session_refused names c j a b z.keys z.keys_after (TooLarge input) h.0.because ok nf.reads
    lines)
session_complete names c j a b o p e f z NoMemory h ok nf lines =
    inr (session_refused names c j a b z.keys z.keys_after NoMemory h.0.because ok nf.reads
    lines)
session_complete names c j a b o p e f z (LogRefused r) h ok nf lines =
    inr (session_refused names c j a b z.keys z.keys_after (LogRefused r) h.0.because ok nf.reads
    lines)
session_complete names c j a b o p e f z (SourceRefused r) h ok nf lines =
    inr (session_refused names c j a b z.keys z.keys_after (SourceRefused r) h.0.because ok nf.reads
    lines)
session_complete names c j a b o p e f z (LinkRefused r) h ok nf lines =
    inr (session_refused names c j a b z.keys z.keys_after (LinkRefused r) h.0.because ok nf.reads
    lines)
session_complete names c j a b o p e f z (SaveRefused r) h ok nf lines =
    inr (session_refused names c j a b z.keys z.keys_after (SaveRefused r) h.0.because ok nf.reads
    lines)
session_complete names c j a b o p e f z (AuditNo r) h ok nf lines =
    inr (session_refused names c j a b z.keys z.keys_after (AuditNo r) h.0.because ok nf.reads
    lines)

-- ---- a generated run

pub gen_complete : (number turns : ℕ) (o p e f : SinkView) (z : SiliconAfter) (status : Status)
    → GenEnds number turns o p e f z status → ¬ Rose o.faults p.faults
    → OrNoMemory (IsMade status) status
gen_complete number turns o p e f z Done h out = inl (inl refl)
gen_complete number turns o p e f z CheckStopped h out = inl (inr refl)
gen_complete number turns o p e f z Usage h out = absurd h
gen_complete number turns o p e f z (NoFile input) h out = absurd h
gen_complete number turns o p e f z ReadFault h out = absurd h
gen_complete number turns o p e f z WriteFault h out = absurd (out h.cause)
gen_complete number turns o p e f z (DeckRefused r) h out = absurd h
gen_complete number turns o p e f z (ScheduleRefused r) h out = absurd h
gen_complete number turns o p e f z (ScriptRefused r) h out = absurd h
gen_complete number turns o p e f z (TooLarge input) h out = absurd h
gen_complete number turns o p e f z NoMemory h out = inr refl
gen_complete number turns o p e f z (LogRefused r) h out = absurd h
gen_complete number turns o p e f z (SourceRefused r) h out = absurd h
gen_complete number turns o p e f z (LinkRefused r) h out = absurd h
gen_complete number turns o p e f z (SaveRefused r) h out = absurd h
gen_complete number turns o p e f z (AuditNo r) h out = absurd h
