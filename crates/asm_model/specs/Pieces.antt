-- The operands of a statement: pieces of text between commas, each of one of five forms.
-- Source: choice of this project.
use Rattle.std.specs.Prelude.{ℕ, ◌+◌, ◌-◌, ◌==◌, ◌&&◌, Bool, true, false, not, nat_lt, if◌then◌else◌, List, [], ◌∷◌, ◌++◌, length, take, drop, map, slice_index, Option, Some, None}
use Rattle.std.specs.List.{list_any, slice_split}
use Rattle.std.specs.Str.Parse.{digits_value}
use Rattle.run_model.specs.Numbers.{is_decimal}
use Rattle.asm_model.specs.declared.operands.Operand.{Operand}
use Rattle.asm_model.specs.declared.operands.Operand.TheVariants.{Plain, Negative, Based, Indexed, Named, Bad}
use Rattle.asm_model.specs.Words.{capped, name_of, number_of}

abbrev pub is_left : ℕ → Bool
is_left b = b == 40

abbrev pub is_right : ℕ → Bool
is_right b = b == 41

abbrev pub is_comma : ℕ → Bool
is_comma b = b == 44

abbrev pub is_plus : ℕ → Bool
is_plus b = b == 43

-- a parenthesis is not closed yet
abbrev pub is_within : List ℕ → Bool
is_within held = list_any is_left held && not (list_any is_right held)

abbrev pub piece_step : Bool → List ℕ → ℕ → (List ℕ → List (List ℕ)) → List (List ℕ)
piece_step true held b more = held ∷ more []
piece_step false held b more = more (held ++ b ∷ [])

-- the pieces of a text, parted by the commas outside parentheses, after bytes that are held
abbrev pub pieces : List ℕ → List ℕ → List (List ℕ)
pieces held [] = held ∷ []
pieces held (b ∷ bs) =
    piece_step (is_comma b && not (is_within held)) held b (λ next. pieces next bs)

-- ---- n and -n

abbrev pub plain : Option ℕ → Operand
plain None = Bad
plain (Some n) = Plain n

abbrev pub negative : Bool → List ℕ → Operand
negative true w = Negative (capped (digits_value 10 w))
negative false w = Bad

-- only a decimal has a sign
abbrev pub signed : List ℕ → Operand
signed w =
    if slice_index w 0 == 45 then negative (is_decimal (drop 1 w)) (drop 1 w)
    else plain (number_of w)

-- ---- name and name+n

abbrev pub word : Option ℕ → List ℕ → Operand
word (Some name) w = Named name 0
word None w = signed w

-- what is added to a name is at most 2,147,483,647
abbrev pub with_plus : Option ℕ → Option ℕ → Operand
with_plus None n = Bad
with_plus (Some name) None = Bad
with_plus (Some name) (Some n) = if nat_lt n 2147483648 then Named name n else Bad

abbrev pub simple : List (List ℕ) → Operand
simple [] = Bad
simple (w ∷ []) = word (name_of w) w
simple (w ∷ n ∷ []) = with_plus (name_of w) (number_of n)
simple (w ∷ n ∷ m ∷ more) = Bad

unfoldable pub simple_operand : List ℕ → Operand
simple_operand w = simple (slice_split is_plus w)

-- ---- d(b) and d(x,b)

abbrev pub based : Option ℕ → Option ℕ → Operand
based None b = Bad
based (Some d) None = Bad
based (Some d) (Some b) = Based d b

abbrev pub indexed : Option ℕ → Option ℕ → Option ℕ → Operand
indexed None x b = Bad
indexed (Some d) None b = Bad
indexed (Some d) (Some x) None = Bad
indexed (Some d) (Some x) (Some b) = Indexed d x b

abbrev pub inner : List ℕ → List (List ℕ) → Operand
inner d [] = Bad
inner d (b ∷ []) = based (number_of d) (number_of b)
inner d (x ∷ b ∷ []) = indexed (number_of d) (number_of x) (number_of b)
inner d (x ∷ b ∷ c ∷ more) = Bad

-- a displacement, and what follows its left parenthesis
unfoldable pub closed : List ℕ → List ℕ → Operand
closed d i =
    if slice_index i (length i - 1) == 41 then inner d (slice_split is_comma (take (length i - 1) i))
    else Bad

abbrev pub by_parens : List (List ℕ) → Operand
by_parens [] = Bad
by_parens (w ∷ []) = simple_operand w
by_parens (d ∷ i ∷ []) = closed d i
by_parens (d ∷ i ∷ j ∷ more) = Bad

unfoldable pub operand_of : List ℕ → Operand
operand_of piece = by_parens (slice_split is_left piece)

-- the operands of a statement; none where it has no text
unfoldable pub operands : List ℕ → List Operand
operands text = if length text == 0 then [] else map operand_of (pieces [] text)
