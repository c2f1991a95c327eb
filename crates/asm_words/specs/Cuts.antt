-- How a text is cut at a byte, and operands at their commas.
use Rattle.std.specs.Prelude.{◌≡◌, ℕ, ◌+◌, ◌<◌, ◌==◌, Bool, if◌then◌else◌, List, [], ◌∷◌, length, take, drop}
use Rattle.std.specs.List.{list_any, slice_split}
use Rattle.asm_model.specs.Pieces.{pieces, is_left, is_right}
use Rattle.asm_words.specs.declared.cuts.Rest.{Rest}
use Rattle.asm_words.specs.declared.cuts.Rest.TheVariants.{Nothing, More}
use Rattle.asm_words.specs.declared.cuts.Parts.{Parts}
use Rattle.asm_words.specs.declared.cuts.Parts.TheVariants.{One, Two, Several}

abbrev pub is_byte : ℕ → ℕ → Bool
is_byte mark b = b == mark

-- what follows, cut at a byte, and cut as operands
abbrev pub rest_split : ℕ → Rest → List (List ℕ)
rest_split mark Nothing = []
rest_split mark (More t) = slice_split (is_byte mark) t.now

abbrev pub rest_pieces : Rest → List (List ℕ)
rest_pieces Nothing = []
rest_pieces (More t) = pieces [] t.now

-- what follows is shorter than so many bytes
abbrev pub IsShorter : Rest → ℕ → Type 0
IsShorter Nothing n = Unit {0}
IsShorter (More t) n = length t.now < n

-- what follows has a part
abbrev pub HasParts : ℕ → Rest → Type 0
HasParts mark Nothing = Unit {0}
HasParts mark (More t) = 0 < length (slice_split (is_byte mark) t.now)

-- the parts of a text that was cut
abbrev pub AreParts : List (List ℕ) → Parts → Type 0
AreParts ps (One a) = ps ≡ a.now ∷ []
AreParts ps (Two a b) = ps ≡ a.now ∷ b.now ∷ []
AreParts ps Several = 2 < length ps

-- operands cut at a place, where a comma stands or the text ends
abbrev pub pieces_at : List ℕ → ℕ → List (List ℕ)
pieces_at text n =
    if n == length text then text ∷ [] else take n text ∷ pieces [] (drop (n + 1) text)

-- no comma outside parentheses stands before a place
pub record IsInPiece (text : List ℕ) (i : ℕ) (left right : Bool) : Type 0 where
  pub rest : pieces [] text ≡ pieces (take i text) (drop i text)
  pub opened : left ≡ list_any is_left (take i text)
  pub shut : right ≡ list_any is_right (take i text)
