-- Lines with their line feeds. Source: choice of this project.
use Rattle.std.specs.Prelude.{ℕ, List, Option, option_map}
use Rattle.std.specs.Borrow.{Bor}

-- the text that is lent, if there is one
abbrev pub content_of : Option (Bor (List ℕ)) → Option (List ℕ)
content_of text = option_map (λ t. t.now) text
