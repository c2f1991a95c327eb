-- The words after a command's name: names, and options with their values.
-- Source: choice of this project.
-- An option is `--name=value` or `--name value` and comes once, anywhere after the command's name.
-- After `--` every word is a name. Any other word that begins with a hyphen and is longer than one
-- character is refused, and no name of an option is shortened.
use Rattle.std.specs.Prelude.{ℕ, ◌==◌, ◌&&◌, Bool, true, not, List, [], ◌∷◌, ◌++◌, Option, Some, None, option_and_then, option_map, find, if◌then◌else◌, is_some}
use Rattle.std.specs.List.{list_any, before_first, after_first}
use Rattle.std.specs.Str.{bytes_eq}

abbrev pub Text : Type 0
Text = List ℕ

-- the names in their order, and the options with their values, the last of them first
pub record Given : Type 0 where
  pub names : List Text
  pub options : List (Text × Text)

abbrev pub nothing : Given
nothing = record { names = []; options = [] }

-- what may come next: a name or an option, the value of an option, or names alone
pub data Next : Type 0 where
  any : Next
  value_of : Text → Next
  only_names : Next

-- ---- a word by itself

abbrev pub hyphen : ℕ
hyphen = 45

-- not longer than one character, or without a hyphen before it
abbrev pub is_name : Text → Bool
is_name [] = true
is_name (b ∷ []) = true
is_name (b ∷ c ∷ bs) = not (b == hyphen)

abbrev pub is_equals : ℕ → Bool
is_equals b = b == 61

-- the part before the first `=`, and the part after it, if there is one
abbrev pub cut : Text → Text × Option Text
cut text = (
  before_first is_equals text,
  if list_any is_equals text then Some (after_first is_equals text) else None,
)

-- `--name` or `--name=value`
abbrev pub option_of : Text → Option (Text × Option Text)
option_of [] = None
option_of (b ∷ []) = None
option_of (b ∷ c ∷ []) = None
option_of (b ∷ c ∷ d ∷ bs) = if b == hyphen && c == hyphen then Some (cut (d ∷ bs)) else None

-- ---- a word after others

abbrev pub with_name : Text → Given → Given
with_name word g = record g { names = g.names ++ word ∷ [] }

abbrev pub option_value : Text → List (Text × Text) → Option Text
option_value name options = option_map (λ o. o.1) (find (λ o. bytes_eq o.0 name) options)

-- an option comes once
abbrev pub with_option : Text → Text → Given → Option (Next × Given)
with_option name value g =
    if is_some (option_value name g.options) then None
    else Some (any, record g { options = (name, value) ∷ g.options })

abbrev pub knows : List Text → Text → Bool
knows known name = list_any (λ k. bytes_eq k name) known

abbrev pub option_met : Text → Option Text → Given → Option (Next × Given)
option_met name None g = Some (value_of name, g)
option_met name (Some value) g = with_option name value g

abbrev pub option_word : List Text → Option (Text × Option Text) → Given → Option (Next × Given)
option_word known None g = None
option_word known (Some p) g = if knows known p.0 then option_met p.0 p.1 g else None

abbrev pub any_word : List Text → Text → Given → Option (Next × Given)
any_word known word g =
    if bytes_eq word (hyphen ∷ hyphen ∷ []) then Some (only_names, g)
    else (if is_name word then Some (any, with_name word g)
    else option_word known (option_of word) g)

abbrev pub word_read : List Text → Text → Next → Given → Option (Next × Given)
word_read known word any g = any_word known word g
word_read known word (value_of name) g = if is_name word then with_option name word g else None
word_read known word only_names g = Some (only_names, with_name word g)

-- ---- all of them

abbrev pub finish : Next → Given → Option Given
finish any g = Some g
finish (value_of name) g = None
finish only_names g = Some g

unfoldable pub given_from : List Text → Option (Next × Given) → List Text → Option Given
given_from known s [] = option_and_then (λ p. finish p.0 p.1) s
given_from known s (word ∷ words) =
    given_from known (option_and_then (λ p. word_read known word p.0 p.1) s) words

-- the words of a command with these options, or none where they are not of this form
abbrev pub given : List Text → List Text → Option Given
given known words = given_from known (Some (any, nothing)) words
