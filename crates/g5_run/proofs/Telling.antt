-- How the program ends, from how a run ends and from what the words ask for.
use Rattle.std.proofs.Common.{◌≡◌, ℕ, ◌≤◌, Bool, true, false, List, refl, sym, ap, subst, Option, Some, None, if◌then◌else◌}
use Rattle.std.specs.Prelude.{◌==◌, codes, option_and_then}
use Rattle.g5_outside.specs.Views.{ShelfView, SinkView}
use Rattle.g5_words.specs.Ranges.{IsInLimits}
use Rattle.program_model.specs.Commands.{Command, JobNames, SessionNames, assemble, audit, command, debug, disassemble, generate, link, migrate, run}
use Rattle.program_model.specs.Given.{Text}
use Rattle.program_model.specs.Inputs.{input_name}
use Rattle.program_model.specs.Statuses.{line_of}
use Rattle.program_model.specs.declared.status.Status.{Status}
use Rattle.program_model.specs.declared.status.Status.TheVariants.{Done, CheckStopped, Usage, NoFile, ReadFault, WriteFault, DeckRefused, ScheduleRefused, ScriptRefused, TooLarge, NoMemory, LogRefused, SourceRefused, LinkRefused, SaveRefused, AuditNo}
use Rattle.run_model.specs.declared.logs.Config.{Config}
use Rattle.run_model.specs.declared.outputs.Counts.{Counts}
use Rattle.run_model.specs.Texts.{report}
use Rattle.status_lines.specs.Says.{Says}
use Rattle.g5_run.specs.Asked.{asked, if_built}
use Rattle.g5_run.specs.Assembling.{AsmEnds}
use Rattle.g5_run.specs.Conversing.{DebugEnds}
use Rattle.g5_run.specs.Converts.{MigrateEnds}
use Rattle.g5_run.specs.Ends.{CommandEnds, Ends, EndsWhole, JobEnds, Reports, SaysAlone}
use Rattle.g5_run.specs.Generates.{GenEnds}
use Rattle.g5_run.specs.Judges.{AuditEnds}
use Rattle.g5_run.specs.Leaving.{Beside, SiliconAfter, status_by}
use Rattle.g5_run.specs.Linking.{LinkEnds}
use Rattle.g5_run.specs.Shows.{DisEnds}

-- ---- a run that was made to its end is reported

by_status : (names : JobNames) (c : Config) (a b : ShelfView) (o p e f : SinkView) (z : SiliconAfter)
    (done : Bool) → Reports names c a b o p e f z (if done then Done else CheckStopped)
    → JobEnds names c a b o p e f z (if done then Done else CheckStopped)
by_status names c a b o p e f z true r = r
by_status names c a b o p e f z false r = r

pub whole_ends : (names : JobNames) (c : Config) (n : Counts) (within : Bool) (a b : ShelfView)
    (o p e f : SinkView) (z : SiliconAfter) (status : Status) → EndsWhole names c n within a b o p z
    → Says (report within n) e f → status ≡ status_by n → JobEnds names c a b o p e f z status
whole_ends names c n within a b o p e f z status whole said is =
    subst (λ s. JobEnds names c a b o p e f z s) (sym is)
    (by_status names c a b o p e f z (n.stopped == 0) (record {
      count = n;
      within = within;
      whole = whole;
      status_is = refl;
      said = said;
    }))

-- ---- what the words ask for

pub asked_is : (words : List Text) (d : Command) → command words ≡ Some d
    → asked words ≡ if_built d
unfolding asked
asked_is words d e = ap (option_and_then if_built) e

pub asked_none : (words : List Text) → command words ≡ None → asked words ≡ None
unfolding asked
asked_none words e = ap (option_and_then if_built) e

-- ---- the end of a command is that of the program

no_memory_line : (d : Command) → line_of (input_name d) NoMemory ≡ codes "no memory\n"
unfolding line_of
no_memory_line d = refl

says_no_memory : (d : Command) (e f : SinkView) → Says (line_of (input_name d) NoMemory) e f
    → Says (codes "no memory\n") e f
says_no_memory d e f h = subst (λ t. Says t e f) (no_memory_line d) h

abbrev LacksMemory : ShelfView → ShelfView → SinkView → SinkView → SinkView → SinkView → Type 0
LacksMemory a b o p e f = SaysAlone (codes "no memory\n") a b o p e f

-- no command ends with Usage, and each says the same where memory is wanted
command_ends : (ask : Option Command) (a b : ShelfView) (o p e f : SinkView) (z : Beside)
    (status : Status) → CommandEnds ask a b o p e f z status
    → (CommandEnds ask a b o p e f z Usage → ⊥)
    → (CommandEnds ask a b o p e f z NoMemory → LacksMemory a b o p e f)
    → Ends ask a b o p e f z status
command_ends ask a b o p e f z Done h usage memory = h
command_ends ask a b o p e f z CheckStopped h usage memory = h
command_ends ask a b o p e f z Usage h usage memory = absurd (usage h)
command_ends ask a b o p e f z (NoFile input) h usage memory = h
command_ends ask a b o p e f z ReadFault h usage memory = h
command_ends ask a b o p e f z WriteFault h usage memory = h
command_ends ask a b o p e f z (DeckRefused r) h usage memory = h
command_ends ask a b o p e f z (ScheduleRefused r) h usage memory = h
command_ends ask a b o p e f z (ScriptRefused r) h usage memory = h
command_ends ask a b o p e f z (TooLarge input) h usage memory = h
command_ends ask a b o p e f z NoMemory h usage memory = memory h
command_ends ask a b o p e f z (LogRefused r) h usage memory = h
command_ends ask a b o p e f z (SourceRefused r) h usage memory = h
command_ends ask a b o p e f z (LinkRefused r) h usage memory = h
command_ends ask a b o p e f z (SaveRefused r) h usage memory = h
command_ends ask a b o p e f z (AuditNo r) h usage memory = h

pub run_ends : (ask : Option Command) (names : JobNames) (c : Config) (a b : ShelfView)
    (o p e f : SinkView) (z : Beside) (status : Status) → ask ≡ Some (run names c) → IsInLimits c
    → JobEnds names c a b o p e f z.silicon status → Ends ask a b o p e f z status
run_ends ask names c a b o p e f z status is l h =
    subst (λ q. Ends q a b o p e f z status) (sym is)
    (command_ends (Some (run names c)) a b o p e f z status (l, h) (λ u. u.1.0.because)
    (λ m. record {
      untouched = m.1.0.untouched;
      said = says_no_memory (run names c) e f m.1.1;
    }))

pub debug_ends : (ask : Option Command) (names : SessionNames) (c : Config) (a b : ShelfView)
    (o p e f : SinkView) (z : Beside) (status : Status) → ask ≡ Some (debug names c) → IsInLimits c
    → DebugEnds names c a b o p e f z status → Ends ask a b o p e f z status
debug_ends ask names c a b o p e f z status is l h =
    subst (λ q. Ends q a b o p e f z status) (sym is)
    (command_ends (Some (debug names c)) a b o p e f z status (l, h) (λ u. u.1.0.because)
    (λ m. record {
      untouched = record { numbers = m.1.0.numbers; out = m.1.0.out };
      said = says_no_memory (debug names c) e f m.1.1;
    }))

pub gen_ends : (ask : Option Command) (number turns : ℕ) (a : ShelfView) (o p e f : SinkView)
    (z : Beside) (status : Status) → ask ≡ Some (generate number turns) → 1 ≤ turns
    → turns ≤ 1000000 → GenEnds number turns o p e f z.silicon status
    → Ends ask a a o p e f z status
gen_ends ask number turns a o p e f z status is some few h =
    subst (λ q. Ends q a a o p e f z status) (sym is)
    (command_ends (Some (generate number turns)) a a o p e f z status
    (record { some = some; few = few; shelf = refl; ends = h }) (λ u. u.ends)
    (λ m. record {
      untouched = record { numbers = refl; out = m.ends.0 };
      said = says_no_memory (generate number turns) e f m.ends.1;
    }))

pub migrate_ends : (ask : Option Command) (old new : Text) (a b : ShelfView) (o e f : SinkView)
    (z : Beside) (status : Status) → ask ≡ Some (migrate old new)
    → MigrateEnds old new a b e f status → Ends ask a b o o e f z status
migrate_ends ask old new a b o e f z status is h =
    subst (λ q. Ends q a b o o e f z status) (sym is)
    (command_ends (Some (migrate old new)) a b o o e f z status (record { out = refl; ends = h })
    (λ u. u.ends.0.1)
    (λ m. record {
      untouched = record { numbers = m.ends.0.0; out = refl };
      said = says_no_memory (migrate old new) e f m.ends.1;
    }))

pub asm_ends : (ask : Option Command) (source deck : Text) (a b : ShelfView) (o e f : SinkView)
    (z : Beside) (status : Status) → ask ≡ Some (assemble source deck)
    → AsmEnds source deck a b e f status → Ends ask a b o o e f z status
asm_ends ask source deck a b o e f z status is h =
    subst (λ q. Ends q a b o o e f z status) (sym is)
    (command_ends (Some (assemble source deck)) a b o o e f z status
    (record { out = refl; ends = h }) (λ u. u.ends.0.1)
    (λ m. record {
      untouched = record { numbers = m.ends.0.0; out = refl };
      said = says_no_memory (assemble source deck) e f m.ends.1;
    }))

pub dis_ends : (ask : Option Command) (deck : Text) (at count : ℕ) (a b : ShelfView)
    (o p e f : SinkView) (z : Beside) (status : Status) → ask ≡ Some (disassemble deck at count)
    → DisEnds deck at count a b o p e f status → Ends ask a b o p e f z status
dis_ends ask deck at count a b o p e f z status is h =
    subst (λ q. Ends q a b o p e f z status) (sym is)
    (command_ends (Some (disassemble deck at count)) a b o p e f z status h (λ u. u.0.why)
    (λ m. record {
      untouched = record { numbers = m.0.numbers; out = m.0.out };
      said = says_no_memory (disassemble deck at count) e f m.1;
    }))

pub link_ends : (ask : Option Command) (out : Text) (decks : List Text) (a b : ShelfView)
    (o e f : SinkView) (z : Beside) (status : Status) → ask ≡ Some (link out decks)
    → LinkEnds out decks a b e f status → Ends ask a b o o e f z status
link_ends ask out decks a b o e f z status is h =
    subst (λ q. Ends q a b o o e f z status) (sym is)
    (command_ends (Some (link out decks)) a b o o e f z status (record { out = refl; ends = h })
    (λ u. u.ends.0.1)
    (λ m. record {
      untouched = record { numbers = m.ends.0.0; out = refl };
      said = says_no_memory (link out decks) e f m.ends.1;
    }))

pub audit_ends : (ask : Option Command) (log : Text) (a b : ShelfView) (o p e f : SinkView)
    (z : Beside) (status : Status) → ask ≡ Some (audit log)
    → AuditEnds log a b o p e f status → Ends ask a b o p e f z status
audit_ends ask log a b o p e f z status is h =
    subst (λ q. Ends q a b o p e f z status) (sym is)
    (command_ends (Some (audit log)) a b o p e f z status h (λ u. u.0.why)
    (λ m. record {
      untouched = record { numbers = m.0.numbers; out = m.0.out };
      said = says_no_memory (audit log) e f m.1;
    }))
