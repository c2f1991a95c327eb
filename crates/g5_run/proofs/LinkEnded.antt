-- What follows from how a command ends that links decks.
use Rattle.std.proofs.Common.{◌≡◌, List, true, refl, inl, inr}
use Rattle.g5_outside.specs.Views.{ShelfView, SinkView}
use Rattle.program_model.specs.Given.{Text}
use Rattle.program_model.specs.declared.status.Status.{Status}
use Rattle.program_model.specs.declared.status.Status.TheVariants.{Done, CheckStopped, Usage, NoFile, ReadFault, WriteFault, DeckRefused, ScheduleRefused, ScriptRefused, TooLarge, NoMemory, LogRefused, SourceRefused, LinkRefused, SaveRefused, AuditNo}
use Rattle.g5_run.specs.Complete.{ComesBeforeOutput, IsLinkable, NothingFailed}
use Rattle.g5_run.specs.Linking.{LinkEnds}
use Rattle.g5_run.specs.Searching.{ComesAfterSearch}
use Rattle.g5_run.proofs.MadeWhole.{OrNoMemory}
use Rattle.g5_run.proofs.PartsRead.{parts_linked, parts_read}

-- ---- before the file is created nothing is touched

pub link_untouched : (out : Text) (decks : List Text) (a b : ShelfView) (e f : SinkView)
    (status : Status) → LinkEnds out decks a b e f status → ComesBeforeOutput status
    → b.numbers ≡ a.numbers
link_untouched out decks a b e f Done h k = absurd k
link_untouched out decks a b e f CheckStopped h k = absurd k
link_untouched out decks a b e f Usage h k = h.0.0
link_untouched out decks a b e f (NoFile input) h k = h.0.0
link_untouched out decks a b e f ReadFault h k = h.0.0
link_untouched out decks a b e f WriteFault h k = absurd k
link_untouched out decks a b e f (DeckRefused r) h k = h.0.0
link_untouched out decks a b e f (ScheduleRefused r) h k = h.0.0
link_untouched out decks a b e f (ScriptRefused r) h k = h.0.0
link_untouched out decks a b e f (TooLarge input) h k = h.0.0
link_untouched out decks a b e f NoMemory h k = h.0.0
link_untouched out decks a b e f (LogRefused r) h k = h.0.0
link_untouched out decks a b e f (SourceRefused r) h k = h.0.0
link_untouched out decks a b e f (LinkRefused r) h k = h.0.numbers
link_untouched out decks a b e f (SaveRefused r) h k = h.0.0
link_untouched out decks a b e f (AuditNo r) h k = absurd k

-- ---- at a status that comes after the searches each deck was found

pub link_found : (out : Text) (decks : List Text) (a b : ShelfView) (e f : SinkView)
    (status : Status) → LinkEnds out decks a b e f status → ComesAfterSearch status
    → b.found ≡ true
link_found out decks a b e f Done h k = h.0.found
link_found out decks a b e f CheckStopped h k = absurd h.0.1
link_found out decks a b e f Usage h k = absurd k
link_found out decks a b e f (NoFile input) h k = absurd k
link_found out decks a b e f ReadFault h k = absurd k
link_found out decks a b e f WriteFault h k = h.0.found
link_found out decks a b e f (DeckRefused r) h k = absurd h.0.1
link_found out decks a b e f (ScheduleRefused r) h k = absurd h.0.1
link_found out decks a b e f (ScriptRefused r) h k = absurd h.0.1
link_found out decks a b e f (TooLarge input) h k = h.0.1.finds.found
link_found out decks a b e f NoMemory h k = absurd k
link_found out decks a b e f (LogRefused r) h k = absurd h.0.1
link_found out decks a b e f (SourceRefused r) h k = absurd h.0.1
link_found out decks a b e f (LinkRefused r) h k = h.0.found
link_found out decks a b e f (SaveRefused r) h k = absurd h.0.1
link_found out decks a b e f (AuditNo r) h k = absurd h.0.1

-- ---- decks that can be linked are linked, or there is no memory

pub link_complete : (out : Text) (decks : List Text) (a b : ShelfView) (o p e f : SinkView)
    (status : Status) → LinkEnds out decks a b e f status → IsLinkable decks a
    → NothingFailed a b o p → OrNoMemory (status ≡ Done) status
link_complete out decks a b o p e f Done h ok nf = inl refl
link_complete out decks a b o p e f CheckStopped h ok nf =
    inr (parts_read decks a b CheckStopped ok nf.reads h.0.1)
link_complete out decks a b o p e f Usage h ok nf =
    inr (parts_read decks a b Usage ok nf.reads h.0.1)
link_complete out decks a b o p e f (NoFile input) h ok nf =
    inr (parts_read decks a b (NoFile input) ok nf.reads h.0.1)
link_complete out decks a b o p e f ReadFault h ok nf =
    inr (parts_read decks a b ReadFault ok nf.reads h.0.1)
link_complete out decks a b o p e f WriteFault h ok nf = absurd (nf.writes h.0.cause)
link_complete out decks a b o p e f (DeckRefused r) h ok nf =
    inr (parts_read decks a b (DeckRefused r) ok nf.reads h.0.1)
link_complete out decks a b o p e f (ScheduleRefused r) h ok nf =
    inr (parts_read decks a b (ScheduleRefused r) ok nf.reads h.0.1)
link_complete out decks a b o p e f (ScriptRefused r) h ok nf =
    inr (parts_read decks a b (ScriptRefused r) ok nf.reads h.0.1)
link_complete out decks a b o p e f (TooLarge input) h ok nf =
    inr (parts_read decks a b (TooLarge input) ok nf.reads h.0.1)
link_complete out decks a b o p e f NoMemory h ok nf = inr refl
link_complete out decks a b o p e f (LogRefused r) h ok nf =
    inr (parts_read decks a b (LogRefused r) ok nf.reads h.0.1)
link_complete out decks a b o p e f (SourceRefused r) h ok nf =
    inr (parts_read decks a b (SourceRefused r) ok nf.reads h.0.1)
link_complete out decks a b o p e f (LinkRefused r) h ok nf =
    absurd (parts_linked decks a b r ok h.0)
link_complete out decks a b o p e f (SaveRefused r) h ok nf =
    inr (parts_read decks a b (SaveRefused r) ok nf.reads h.0.1)
link_complete out decks a b o p e f (AuditNo r) h ok nf =
    inr (parts_read decks a b (AuditNo r) ok nf.reads h.0.1)
