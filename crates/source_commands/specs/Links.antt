-- How decks are linked, from files to a file: each status by its cause. The decks are read in their
-- order, and no file is created before the linked deck is whole. Source: choice of this project.
use Rattle.std.specs.Prelude.{◌≡◌, ℕ, List, [], ◌∷◌, take, Ok, Err, IsTrue, true}
use Rattle.g5_outside.specs.Causes.{Rose}
use Rattle.g5_outside.specs.Views.{ShelfView}
use Rattle.g5_writing.specs.Starts.{OnlyName, text_named}
use Rattle.link_model.specs.Link.{link_of}
use Rattle.link_model.specs.Loading.{LoadAlike}
use Rattle.program_model.specs.Given.{Text}
use Rattle.program_model.specs.declared.refusals.LinkRefusal.{LinkRefusal}
use Rattle.program_model.specs.declared.status.Status.{Status}
use Rattle.program_model.specs.declared.status.Status.TheVariants.{WriteFault, LinkRefused}
use Rattle.source_commands.specs.Parts.{AreParts, IsUnread}

-- the new file alone was created, with the linked deck; it is loaded as the parts are, from every
-- origin
pub record Links (out : Text) (names : List Text) (a b : ShelfView) : Type 0 where
  pub parts : List ℕ
  pub read : AreParts names a parts
  pub deck : List ℕ
  pub is : link_of parts ≡ Ok deck
  pub alike : LoadAlike deck parts
  pub file : ℕ
  pub numbers : b.numbers ≡ file ∷ []
  pub named : IsTrue a.told → OnlyName out b
  pub holds : IsTrue a.told → text_named b out ≡ deck
  pub found : b.found ≡ true

-- it has some first bytes of it, or could not be created
pub record LinksInPart (out : Text) (names : List Text) (a b : ShelfView) : Type 0 where
  pub parts : List ℕ
  pub read : AreParts names a parts
  pub deck : List ℕ
  pub is : link_of parts ≡ Ok deck
  pub count : ℕ
  pub named : IsTrue a.told → OnlyName out b
  pub holds : IsTrue a.told → text_named b out ≡ take count deck
  pub cause : Rose a.write_faults b.write_faults
  pub found : b.found ≡ true

-- the parts are not linked, and no file was created
pub record RefusesParts (names : List Text) (a b : ShelfView) (refusal : LinkRefusal) :
    Type 0 where
  pub parts : List ℕ
  pub read : AreParts names a parts
  pub refused : link_of parts ≡ Err refusal
  pub numbers : b.numbers ≡ a.numbers
  pub found : b.found ≡ true

-- each status by its cause
abbrev pub FailsToLink : Text → List Text → ShelfView → ShelfView → Status → Type 0
FailsToLink out names a b WriteFault = LinksInPart out names a b
FailsToLink out names a b (LinkRefused refusal) = RefusesParts names a b refusal
FailsToLink out names a b status = (b.numbers ≡ a.numbers) × IsUnread names a b status
