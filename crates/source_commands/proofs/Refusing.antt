-- Parts that are not linked.
use Rattle.std.proofs.Common.{◌≡◌, List, ℕ, true, Err}
use Rattle.deck_link.specs.Answers.{Refused}
use Rattle.g5_outside.specs.Views.{ShelfView}
use Rattle.link_model.specs.Link.{link_of}
use Rattle.program_model.specs.Conversions.{link_status}
use Rattle.program_model.specs.Given.{Text}
use Rattle.program_model.specs.declared.refusals.LinkRefusal.{LinkRefusal}
use Rattle.program_model.specs.declared.refusals.LinkRefusal.TheVariants.{Deck, Clash, Label, BlankEntry, TooLong, NoMemory}
use Rattle.source_commands.specs.Links.{FailsToLink, RefusesParts}
use Rattle.source_commands.specs.Parts.{AreParts}

refusing : (names : List Text) (a b : ShelfView) (parts : List ℕ) (r : LinkRefusal)
    → AreParts names a parts → b.numbers ≡ a.numbers → b.found ≡ true
    → link_of parts ≡ Err r → RefusesParts names a b r
refusing names a b parts r read numbers found is = record {
  parts = parts;
  read = read;
  refused = is;
  numbers = numbers;
  found = found;
}

pub link_refuses : (out : Text) (names : List Text) (a b : ShelfView) (parts : List ℕ)
    (r : LinkRefusal) → AreParts names a parts → b.numbers ≡ a.numbers → b.found ≡ true
    → Refused (link_of parts) r → FailsToLink out names a b (link_status r)
link_refuses out names a b parts NoMemory read numbers found h = (numbers, tt)
link_refuses out names a b parts (Deck r) read numbers found h =
    refusing names a b parts (Deck r) read numbers found h
link_refuses out names a b parts (Clash n) read numbers found h =
    refusing names a b parts (Clash n) read numbers found h
link_refuses out names a b parts (Label n) read numbers found h =
    refusing names a b parts (Label n) read numbers found h
link_refuses out names a b parts BlankEntry read numbers found h =
    refusing names a b parts BlankEntry read numbers found h
link_refuses out names a b parts TooLong read numbers found h =
    refusing names a b parts TooLong read numbers found h
