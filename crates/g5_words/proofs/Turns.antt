-- One word of clap's walk over a command with options of one value and one list of names.
use Rattle.std.proofs.Common.{◌≡◌, ℕ, Bool, true, false, List, [], ◌∷◌, Option, Some, None, refl}
use Rattle.std.specs.Str.{bytes_eq, chars}
use Rattle.std.specs.Prelude.{slice_get}
use Rattle.clap.specs.Lexer.{long_of, short_of}
use Rattle.clap.specs.Kinds.{Kinds, or_else}
use Rattle.clap.specs.Walk.{Row, Walk, Waiting, Held, Rule, idle, option, positional, walked, used, settled_rows}
use Rattle.clap.specs.Simple.{Shape}
use Rattle.clap.specs.Faults.{turn_fault, settle_fault, react_fault, flags_fault}
use Rattle.clap.specs.declared.error.kind.ErrorKind.TheVariants as kind
use Rattle.program_model.specs.Given.{Text, knows}
use Rattle.g5_words.specs.ClapCommand.{names_id}
use Rattle.g5_words.proofs.Views.{dash_dash}
use Rattle.g5_words.proofs.Rows.{is_same, and_false}
use Rattle.g5_words.proofs.Leaf.{leaf, rules_for, option_rule, by_index, by_short, by_long, by_id}

pub or_else_nil : (k : Kinds) → or_else k [] ≡ k
or_else_nil [] = refl
or_else_nil (k ∷ ks) = refl

abbrev pub held : List Row → Option (Text × List Text) → Held
held rows pending = record { rows = rows; pending = pending; skip = 0 }

abbrev pub at : List Row → Option (Text × List Text) → Waiting → Bool → Walk
at rows pending waiting trailing = record { held = held rows pending; waiting = waiting; position = 1; is_trailing = trailing; stopped = None }

-- no option waits for its value
abbrev pub Free : Waiting → Type 0
Free idle = Unit {0}
Free (option id) = ⊥
Free positional = Unit {0}

module _ (name : Text) (known : List Text) where
  abbrev pub s : Shape
  s = leaf name known

  abbrev pub rules : List Rule
  rules = rules_for known

  abbrev pub settling : List Row → Option (Text × List Text) → Kinds
  settling rows p = settle_fault rules false (held rows p)

  -- ---- a word that goes to the names
  pub trailing_turn : (rows : List Row) (p : Option (Text × List Text)) (waiting : Waiting) (word : Text) → turn_fault s [] (at rows p waiting true) word ≡ settling rows p
  trailing_turn rows p waiting word = rw (by_index known, and_false _) refl

  pub trailing_walked : (rows : List Row) (p : Option (Text × List Text)) (waiting : Waiting) (word : Text)
      → walked rules [] (at rows p waiting true) word ≡ at (settled_rows rules p rows) (Some (names_id, word ∷ [])) positional true
  unfolding walked
  trailing_walked rows p waiting word = rw (by_index known, and_false _) refl

  pub plain_turn : (rows : List Row) (p : Option (Text × List Text)) (waiting : Waiting) (word : Text) → Free waiting → bytes_eq word dash_dash ≡ false → long_of word ≡ None
      → short_of word ≡ None → turn_fault s [] (at rows p waiting false) word ≡ settling rows p
  plain_turn rows p idle word free b l h = rw (b, l, h, by_index known, and_false _) refl
  plain_turn rows p positional word free b l h = rw (b, l, h, by_index known, and_false _) refl
  plain_turn rows p (option id) word free b l h = absurd free

  pub plain_walked : (rows : List Row) (p : Option (Text × List Text)) (waiting : Waiting) (word : Text) → Free waiting → bytes_eq word dash_dash ≡ false → long_of word ≡ None
      → short_of word ≡ None → walked rules [] (at rows p waiting false) word ≡ at (settled_rows rules p rows) (Some (names_id, word ∷ [])) positional false
  unfolding walked
  plain_walked rows p idle word free b l h = rw (b, l, h, by_index known, and_false _) refl
  plain_walked rows p positional word free b l h = rw (b, l, h, by_index known, and_false _) refl
  plain_walked rows p (option id) word free b l h = absurd free

  -- ---- the value of an option
  pub value_turn : (rows : List Row) (id word : Text) → knows known id ≡ true → bytes_eq word dash_dash ≡ false → long_of word ≡ None → short_of word ≡ None
      → turn_fault s [] (at rows (Some (id, [])) (option id) false) word ≡ []
  value_turn rows id word k b l h = rw (b, l, h) refl

  pub value_walked : (rows : List Row) (id word : Text) → knows known id ≡ true → bytes_eq word dash_dash ≡ false → long_of word ≡ None → short_of word ≡ None
      → walked rules [] (at rows (Some (id, [])) (option id) false) word ≡ at rows (Some (id, word ∷ [])) idle false
  unfolding walked
  value_walked rows id word k b l h = rw (b, l, h, by_id known id k, is_same id id refl) refl

  pub value_missing : (rows : List Row) (id : Text) → knows known id ≡ true → settling rows (Some (id, [])) ≡ kind.InvalidValue ∷ []
  value_missing rows id k = rw (by_id known id k) refl

  -- ---- `--`
  pub dashes_turn : (rows : List Row) (p : Option (Text × List Text)) (waiting : Waiting) (word : Text) → bytes_eq word dash_dash ≡ true → turn_fault s [] (at rows p waiting false) word ≡ []
  dashes_turn rows p idle word b = rw b refl
  dashes_turn rows p positional word b = rw b refl
  dashes_turn rows p (option id) word b = rw b refl

  pub dashes_walked : (rows : List Row) (p : Option (Text × List Text)) (waiting : Waiting) (word : Text) → bytes_eq word dash_dash ≡ true
      → walked rules [] (at rows p waiting false) word ≡ at rows p waiting true
  unfolding walked
  dashes_walked rows p idle word b = rw b refl
  dashes_walked rows p positional word b = rw b refl
  dashes_walked rows p (option id) word b = rw b refl

  -- ---- `-abc`
  pub short_turn : (rows : List Row) (p : Option (Text × List Text)) (waiting : Waiting) (word : Text) (x : ℕ) (xs : Text) (c : ℕ) → bytes_eq word dash_dash ≡ false → long_of word ≡ None
      → short_of word ≡ Some (x ∷ xs) → slice_get (chars (x ∷ xs)) 0 ≡ Some c → turn_fault s [] (at rows p waiting false) word ≡ kind.UnknownArgument ∷ []
  unfolding flags_fault
  short_turn rows p idle word x xs c b l h q = rw (b, l, h, q, by_short known c) refl
  short_turn rows p positional word x xs c b l h q = rw (b, l, h, q, by_short known c) refl
  short_turn rows p (option id) word x xs c b l h q = rw (b, l, h, q, by_short known c) refl

  -- ---- `--name` and `--name=value`
  pub unknown_turn : (rows : List Row) (p : Option (Text × List Text)) (waiting : Waiting) (word n : Text) (v : Option Text) → bytes_eq word dash_dash ≡ false → long_of word ≡ Some (n, v)
      → knows known n ≡ false → turn_fault s [] (at rows p waiting false) word ≡ kind.UnknownArgument ∷ []
  unknown_turn rows p idle word n v b l k = rw (b, l, by_long known n, k) refl
  unknown_turn rows p positional word n v b l k = rw (b, l, by_long known n, k) refl
  unknown_turn rows p (option id) word n v b l k = rw (b, l, by_long known n, k) refl

  pub given_turn : (rows : List Row) (p : Option (Text × List Text)) (waiting : Waiting) (word n v : Text) → bytes_eq word dash_dash ≡ false → long_of word ≡ Some (n, Some v)
      → knows known n ≡ true → turn_fault s [] (at rows p waiting false) word ≡ react_fault rules false (option_rule n) (v ∷ []) (held rows p)
  given_turn rows p idle word n v b l k = rw (b, l, by_long known n, k) (or_else_nil _)
  given_turn rows p positional word n v b l k = rw (b, l, by_long known n, k) (or_else_nil _)
  given_turn rows p (option id) word n v b l k = rw (b, l, by_long known n, k) (or_else_nil _)

  pub given_walked : (rows : List Row) (p : Option (Text × List Text)) (waiting : Waiting) (word n v : Text) → bytes_eq word dash_dash ≡ false → long_of word ≡ Some (n, Some v)
      → knows known n ≡ true → walked rules [] (at rows p waiting false) word ≡ at (used (option_rule n) (v ∷ []) (settled_rows rules p rows)) None idle false
  unfolding walked
  given_walked rows p idle word n v b l k = rw (b, l, by_long known n, k) refl
  given_walked rows p positional word n v b l k = rw (b, l, by_long known n, k) refl
  given_walked rows p (option id) word n v b l k = rw (b, l, by_long known n, k) refl

  pub begun_turn : (rows : List Row) (p : Option (Text × List Text)) (waiting : Waiting) (word n : Text) → bytes_eq word dash_dash ≡ false → long_of word ≡ Some (n, None)
      → knows known n ≡ true → turn_fault s [] (at rows p waiting false) word ≡ settling rows p
  begun_turn rows p idle word n b l k = rw (b, l, by_long known n, k) (or_else_nil _)
  begun_turn rows p positional word n b l k = rw (b, l, by_long known n, k) (or_else_nil _)
  begun_turn rows p (option id) word n b l k = rw (b, l, by_long known n, k) (or_else_nil _)

  pub begun_walked : (rows : List Row) (p : Option (Text × List Text)) (waiting : Waiting) (word n : Text) → bytes_eq word dash_dash ≡ false → long_of word ≡ Some (n, None)
      → knows known n ≡ true → walked rules [] (at rows p waiting false) word ≡ at (settled_rows rules p rows) (Some (n, [])) (option n) false
  unfolding walked
  begun_walked rows p idle word n b l k = rw (b, l, by_long known n, k) refl
  begun_walked rows p positional word n b l k = rw (b, l, by_long known n, k) refl
  begun_walked rows p (option id) word n b l k = rw (b, l, by_long known n, k) refl
