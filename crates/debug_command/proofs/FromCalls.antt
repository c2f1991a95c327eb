-- How a session was held, from what its calls give.
use Rattle.std.proofs.Common.{◌≡◌, ℕ, List, sym, ◌∙◌, ap, subst, true, Ok, Err}
use Rattle.debug_runs.proofs.Ends.{cut_said, whole_said}
use Rattle.debug_runs.specs.Holding.{HoldsJob}
use Rattle.g5_outside.specs.Views.{ShelfView, SinkView, SourceView}
use Rattle.g5_outside.specs.declared.outside.Failed.{Failed}
use Rattle.machine_runs.specs.Jobs.{IsReadyJob}
use Rattle.program_model.specs.Accepted.{Job}
use Rattle.program_model.specs.Commands.{SessionNames}
use Rattle.program_model.specs.declared.status.Status.{Status}
use Rattle.program_model.specs.declared.status.Status.TheVariants.{Done, CheckStopped, Usage, NoFile, ReadFault, WriteFault, DeckRefused, ScheduleRefused, ScriptRefused, TooLarge, NoMemory, LogRefused, SourceRefused, LinkRefused, SaveRefused, AuditNo}
use Rattle.run_model.specs.declared.logs.Config.{Config}
use Rattle.run_model.specs.declared.outputs.Counts.{Counts}
use Rattle.silicon.specs.Chip.{Chip}
use Rattle.silicon.specs.Tape.{Tape}
use Rattle.debug_command.specs.Preparing.{IsPrepared, IsRefused}
use Rattle.debug_command.specs.Sessions.{BeginsNone, CutsSession, FailsToHold, HoldsSession}
use Rattle.debug_command.specs.declared.preparing.Prepared.{Prepared}

pub session_held : (names : SessionNames) (c : Config) (a b : ShelfView) (k : SourceView)
    (o q : SinkView) (y z : Chip) (u v w : Tape) (p : Prepared) (xs : List ℕ) (n : Counts)
    → IsPrepared names c a k y p → b.numbers ≡ a.numbers → b.found ≡ true → v ≡ u → xs ≡ p.lines.items
    → ((d : Config) (j : Job) → IsReadyJob d j y p.ready
    → HoldsJob {E = Failed} d j xs z v w o q (Ok n))
    → HoldsSession names c a b k o q z u w (record { within = p.ready.within; counts = n })
session_held names c a b k o q y z u v w p xs n is numbers found tape same h =
    let held : HoldsJob {E = Failed} c is.job p.lines.items z u w o q (Ok n) =
    subst (λ t. HoldsJob {E = Failed} c is.job p.lines.items z t w o q (Ok n)) tape
    (subst (λ ls. HoldsJob {E = Failed} c is.job ls z v w o q (Ok n)) same (h c is.job is.ready)) in
    record {
      job = is.job;
      lines = p.lines.items;
      given = is.given;
      premise = is.ready.premise;
      session = held;
      whole = whole_said {E = Failed} c is.job p.lines.items z u w o q n held;
      numbers = numbers;
      found = found;
    }

pub session_cut : (names : SessionNames) (c : Config) (a b : ShelfView) (k : SourceView)
    (o q : SinkView) (y z : Chip) (v w : Tape) (p : Prepared) (xs : List ℕ) (e : Failed)
    → IsPrepared names c a k y p → b.numbers ≡ a.numbers → b.found ≡ true → xs ≡ p.lines.items
    → ((d : Config) (j : Job) → IsReadyJob d j y p.ready → HoldsJob d j xs z v w o q (Err e))
    → CutsSession names c a b k o q
session_cut names c a b k o q y z v w p xs e is numbers found same h =
    let held : HoldsJob c is.job p.lines.items z v w o q (Err e) =
    subst (λ ls. HoldsJob c is.job ls z v w o q (Err e)) same (h c is.job is.ready) in
    record {
      job = is.job;
      lines = p.lines.items;
      given = is.given;
      failed = e;
      chip = z;
      before = v;
      after = w;
      session = held;
      cut = cut_said c is.job p.lines.items z v w o q e held;
      numbers = numbers;
      found = found;
    }

-- a refusal before the first line is no failed write
pub none_begun : (names : SessionNames) (c : Config) (a b : ShelfView) (k l : SourceView)
    (o : SinkView) (s : Status) → IsRefused names c a b k l s
    → BeginsNone names c a b k l o o s → FailsToHold names c a b k l o o s
none_begun names c a b k l o Done h n = n
none_begun names c a b k l o CheckStopped h n = n
none_begun names c a b k l o Usage h n = n
none_begun names c a b k l o (NoFile input) h n = n
none_begun names c a b k l o ReadFault h n = n
none_begun names c a b k l o WriteFault h n = absurd h
none_begun names c a b k l o (DeckRefused r) h n = n
none_begun names c a b k l o (ScheduleRefused r) h n = n
none_begun names c a b k l o (ScriptRefused r) h n = n
none_begun names c a b k l o (TooLarge input) h n = n
none_begun names c a b k l o NoMemory h n = n
none_begun names c a b k l o (LogRefused r) h n = n
none_begun names c a b k l o (SourceRefused r) h n = n
none_begun names c a b k l o (LinkRefused r) h n = n
none_begun names c a b k l o (SaveRefused r) h n = n
none_begun names c a b k l o (AuditNo r) h n = n
