-- The texts of refusals of decks, sources, links, saves and logs: the name, a blank and the number,
-- or the name alone where there is none. Source: choice of this project.
use Rattle.std.specs.Prelude.{ℕ, List, codes}
use Rattle.deck_model.specs.declared.decks.DeckRefusal.{DeckRefusal}
use Rattle.deck_model.specs.declared.decks.DeckRefusal.TheVariants as deck
use Rattle.run_model.specs.RefusalTexts.{numbered_text}
use Rattle.program_model.specs.declared.refusals.AsmRefusal.{AsmRefusal}
use Rattle.program_model.specs.declared.refusals.AsmRefusal.TheVariants as source
use Rattle.program_model.specs.declared.refusals.LinkRefusal.{LinkRefusal}
use Rattle.program_model.specs.declared.refusals.LinkRefusal.TheVariants as link
use Rattle.program_model.specs.declared.refusals.SaveRefusal.{SaveRefusal}
use Rattle.program_model.specs.declared.refusals.SaveRefusal.TheVariants as save
use Rattle.program_model.specs.declared.refusals.AuditRefusal.{AuditRefusal}
use Rattle.program_model.specs.declared.refusals.AuditRefusal.TheVariants as audit

abbrev pub deck_refusal_text : DeckRefusal → List ℕ
deck_refusal_text deck.NotCards = codes "NotCards"
deck_refusal_text (deck.BadFirstByte n) = numbered_text (codes "BadFirstByte") n
deck_refusal_text (deck.UnknownCard n) = numbered_text (codes "UnknownCard") n
deck_refusal_text (deck.BadCount n) = numbered_text (codes "BadCount") n
deck_refusal_text (deck.Unsupported n) = numbered_text (codes "Unsupported") n
deck_refusal_text deck.NoEnd = codes "NoEnd"
deck_refusal_text (deck.DuplicateId n) = numbered_text (codes "DuplicateId") n
deck_refusal_text (deck.DuplicateName n) = numbered_text (codes "DuplicateName") n
deck_refusal_text (deck.UnknownId n) = numbered_text (codes "UnknownId") n
deck_refusal_text (deck.TextOutside n) = numbered_text (codes "TextOutside") n
deck_refusal_text (deck.RldOutside n) = numbered_text (codes "RldOutside") n
deck_refusal_text deck.EntryOutside = codes "EntryOutside"
deck_refusal_text (deck.Unresolved n) = numbered_text (codes "Unresolved") n
deck_refusal_text deck.NoRoom = codes "NoRoom"
deck_refusal_text deck.NoMemory = codes "NoMemory"

abbrev pub source_refusal_text : AsmRefusal → List ℕ
source_refusal_text (source.BadLine n) = numbered_text (codes "BadLine") n
source_refusal_text (source.UnknownOp n) = numbered_text (codes "UnknownOp") n
source_refusal_text (source.NoSection n) = numbered_text (codes "NoSection") n
source_refusal_text source.NoEndStatement = codes "NoEndStatement"
source_refusal_text (source.TooBig n) = numbered_text (codes "TooBig") n
source_refusal_text (source.Doubled n) = numbered_text (codes "Doubled") n
source_refusal_text (source.Undefined n) = numbered_text (codes "Undefined") n
source_refusal_text (source.NoBase n) = numbered_text (codes "NoBase") n
source_refusal_text (source.OutOfRange n) = numbered_text (codes "OutOfRange") n
source_refusal_text source.NoMemory = codes "NoMemory"

-- a refusal of the decks is shown as it is
abbrev pub link_refusal_text : LinkRefusal → List ℕ
link_refusal_text (link.Deck r) = deck_refusal_text r
link_refusal_text (link.Clash n) = numbered_text (codes "Clash") n
link_refusal_text (link.Label n) = numbered_text (codes "Label") n
link_refusal_text link.BlankEntry = codes "BlankEntry"
link_refusal_text link.TooLong = codes "TooLong"
link_refusal_text link.NoMemory = codes "NoMemory"

abbrev pub save_refusal_text : SaveRefusal → List ℕ
save_refusal_text save.BadHead = codes "BadHead"
save_refusal_text save.BadLength = codes "BadLength"
save_refusal_text (save.BadField at) = numbered_text (codes "BadField") at
save_refusal_text save.PastSchedule = codes "PastSchedule"
save_refusal_text save.PastConsole = codes "PastConsole"
save_refusal_text save.NoMemory = codes "NoMemory"

abbrev pub audit_refusal_text : AuditRefusal → List ℕ
audit_refusal_text (audit.BadLine n) = numbered_text (codes "BadLine") n
audit_refusal_text (audit.Turn n) = numbered_text (codes "Turn") n
audit_refusal_text (audit.Core n) = numbered_text (codes "Core") n
audit_refusal_text (audit.Retry n) = numbered_text (codes "Retry") n
audit_refusal_text (audit.Fenced n) = numbered_text (codes "Fenced") n
audit_refusal_text (audit.Spared n) = numbered_text (codes "Spared") n
audit_refusal_text (audit.Stop n) = numbered_text (codes "Stop") n
audit_refusal_text (audit.Returned n) = numbered_text (codes "Returned") n
audit_refusal_text audit.Tail = codes "Tail"
