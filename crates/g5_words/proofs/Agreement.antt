-- clap's walk over a command's words agrees with `given`.
use Rattle.std.proofs.Common.{◌≡◌, ◌∙◌, Bool, true, false, cond, List, [], ◌∷◌, ◌++◌, Option, Some, None, refl, ap, ap₂, sym, subst, true≢false}
use Rattle.std.specs.List.{fold}
use Rattle.std.specs.Option.{option_map, unwrap_or, is_some}
use Rattle.std.specs.Str.{bytes_eq}
use Rattle.clap.specs.Lexer.{long_of}
use Rattle.clap.specs.Kinds.{Kinds, or_else}
use Rattle.clap.specs.Walk.{Row, Walk, Waiting, idle, option, positional, walked, used, settled_rows, all_of, has_row}
use Rattle.clap.specs.Faults.{walk_fault, turn_fault, settle_fault, react_fault}
use Rattle.clap.specs.declared.error.kind.ErrorKind.{ErrorKind}
use Rattle.clap.specs.declared.error.kind.ErrorKind.TheVariants as kind
use Rattle.clap.specs.declared.builder.value_parser.Reading.TheVariants.{AsWritten}
use Rattle.program_model.specs.Given.{Text, Given, Next, any, value_of, only_names, is_name, knows, option_value, option_met, given_from, with_name, with_option, any_word}
use Rattle.g5_words.specs.ClapCommand.{names_id}
use Rattle.g5_words.proofs.Views.{View, dashes, plain, long, short, Spelt, view, dash_dash}
use Rattle.g5_words.proofs.Rows.{same, is_same, put, all_same, all_other, without_none, has_all}
use Rattle.g5_words.proofs.Leaf.{option_rule, by_id, by_names_id}
use Rattle.g5_words.proofs.Turns.{at, held, Free, or_else_nil, s, rules, settling, trailing_turn, trailing_walked, plain_turn, plain_walked, value_turn, value_walked, value_missing, dashes_turn, dashes_walked, short_turn, unknown_turn, given_turn, given_walked, begun_turn, begun_walked}

-- each word is text
abbrev pub AllSpelt : List Text → Type 0
AllSpelt [] = Unit {0}
AllSpelt (word ∷ words) = Spelt word × AllSpelt words

some_kind : (k : ErrorKind) (ks : Kinds) → (k ∷ ks) ≡ [] → ⊥
some_kind k ks e = true≢false (ap head e)
  where
    head : Kinds → Bool
    head [] = false
    head (x ∷ xs) = true

-- the rows have what was given
pub record Holds (rows : List Row) (g : Given) : Type 0 where
  pub names : unwrap_or (all_of names_id rows) [] ≡ g.names
  pub options : (id : Text) → bytes_eq id names_id ≡ false → all_of id rows ≡ option_map (λ v. v ∷ []) (option_value id g.options)

-- a known option is no list of names
pub apart : (known : List Text) (id : Text) → knows known names_id ≡ false → knows known id ≡ true → bytes_eq id names_id ≡ false
apart known id none k = go (bytes_eq id names_id) refl
  where
    go : (t : Bool) → bytes_eq id names_id ≡ t → t ≡ false
    go false q = refl
    go true q = absurd (true≢false (sym k ∙ ap (knows known) (same id names_id q) ∙ none))

pub flipped : (a b : Text) → bytes_eq a b ≡ false → bytes_eq b a ≡ false
flipped a b e = go (bytes_eq b a) refl
  where
    go : (t : Bool) → bytes_eq b a ≡ t → t ≡ false
    go false q = refl
    go true q = absurd (true≢false (sym (is_same a b (sym (same b a q))) ∙ e))

pub holds_name : (rows : List Row) (g : Given) (word : Text) → Holds rows g → Holds (put names_id AsWritten word rows) (with_name word g)
holds_name rows g word h = record {
  names = ap (λ o. unwrap_or o []) (all_same names_id AsWritten word rows) ∙ ap (λ ns. ns ++ word ∷ []) h.names;
  options = λ id ne. all_other id names_id AsWritten word rows ne ∙ h.options id ne;
}

pub holds_option : (rows : List Row) (g : Given) (name value : Text) → bytes_eq name names_id ≡ false → option_value name g.options ≡ None → Holds rows g
    → Holds (put name AsWritten value rows) (record g { options = (name, value) ∷ g.options })
holds_option rows g name value ne none h = record {
  names = ap (λ o. unwrap_or o []) (all_other names_id name AsWritten value rows (flipped name names_id ne)) ∙ h.names;
  options = λ id away. which id away (bytes_eq name id) refl;
}
  where
    which : (id : Text) → bytes_eq id names_id ≡ false → (t : Bool) → bytes_eq name id ≡ t
        → all_of id (put name AsWritten value rows) ≡ option_map (λ v. v ∷ []) (option_value id ((name, value) ∷ g.options))
    which id away true q =
        rw q (ap (λ i. all_of i (put name AsWritten value rows)) (sym (same name id q)) ∙ all_same name AsWritten value rows
        ∙ ap (λ o. Some (unwrap_or o [] ++ value ∷ [])) (h.options name ne ∙ ap (option_map (λ v. v ∷ [])) none))
    which id away false q = rw q (all_other id name AsWritten value rows (flipped name id q) ∙ h.options id away)

pub has_option : (rows : List Row) (g : Given) (name : Text) → bytes_eq name names_id ≡ false → Holds rows g → has_row name rows ≡ is_some (option_value name g.options)
has_option rows g name ne h = has_all name rows ∙ ap is_some (h.options name ne) ∙ mapped (option_value name g.options)
  where
    mapped : (o : Option Text) → is_some (option_map (λ v. v ∷ []) o) ≡ is_some o
    mapped None = refl
    mapped (Some v) = refl

module _ (name : Text) (known : List Text) where
  abbrev pub total : Walk → List Text → Kinds
  total w words = or_else (walk_fault (s name known) [] w words) (settle_fault (rules name known) false (fold (walked (rules name known) []) w words).held)

  abbrev pub ended : Walk → List Text → List Row
  ended w words = settled_rows (rules name known) (fold (walked (rules name known) []) w words).held.pending (fold (walked (rules name known) []) w words).held.rows

  abbrev pub Agrees : Walk → List Text → Option Given → Type 0
  Agrees w words None = total w words ≡ [] → ⊥
  Agrees w words (Some g) = (total w words ≡ []) × Holds (ended w words) g

  pub given_none : (words : List Text) → given_from known None words ≡ None
  unfolding given_from
  given_none [] = refl
  given_none (word ∷ words) = given_none words

  total_nil : (rows : List Row) (p : Option (Text × List Text)) (waiting : Waiting) (t : Bool) → total (at rows p waiting t) [] ≡ settling name known rows p
  unfolding walk_fault
  total_nil rows p waiting t = refl

  total_next : (w after : Walk) (word : Text) (words : List Text) (k : Kinds) → turn_fault (s name known) [] w word ≡ k → walked (rules name known) [] w word ≡ after
      → total w (word ∷ words) ≡ or_else (or_else k (walk_fault (s name known) [] after words)) (settle_fault (rules name known) false (fold (walked (rules name known) []) after words).held)
  unfolding walk_fault
  total_next w after word words k e f = ap₂ (λ (x : Kinds) (v : Walk). or_else (or_else x (walk_fault (s name known) [] v words)) (settle_fault (rules name known) false (fold (walked (rules name known) []) v words).held)) e f

  total_stop : (w : Walk) (word : Text) (words : List Text) (k : ErrorKind) (ks : Kinds) → turn_fault (s name known) [] w word ≡ k ∷ ks → total w (word ∷ words) ≡ [] → ⊥
  total_stop w word words k ks e none = some_kind k _ (sym (total_next w (walked (rules name known) [] w word) word words (k ∷ ks) e refl) ∙ none)

  -- both go on alike
  abbrev Follows : Walk → Walk → List Text → Type 0
  Follows w after words = (total w words ≡ total after words) × (total after words ≡ [] → ended w words ≡ ended after words)

  pub agrees_as : (w after : Walk) (words more : List Text) (o : Option Given) → total w words ≡ total after more → (total after more ≡ [] → ended w words ≡ ended after more)
      → Agrees after more o → Agrees w words o
  agrees_as w after words more None e f h = λ none. h (sym e ∙ none)
  agrees_as w after words more (Some g) e f h = (e ∙ h.0, subst (λ rows. Holds rows g) (sym (f h.0)) h.1)

  agrees_next : (w after : Walk) (word : Text) (words : List Text) (o : Option Given) → turn_fault (s name known) [] w word ≡ [] → walked (rules name known) [] w word ≡ after
      → Agrees after words o → Agrees w (word ∷ words) o
  agrees_next w after word words o e f h = agrees_as w after (word ∷ words) words o (total_next w after word words [] e f) (λ none. ap (λ (v : Walk). ended v words) f) h

  agrees_stop : (w : Walk) (word : Text) (words : List Text) (k : ErrorKind) (ks : Kinds) → turn_fault (s name known) [] w word ≡ k ∷ ks → Agrees w (word ∷ words) (given_from known None words)
  agrees_stop w word words k ks e = subst (Agrees w (word ∷ words)) (sym (given_none words)) (λ none. total_stop w word words k ks e none)

  -- ---- a value that waits to be used, and the same where it is used

  abbrev settled_at : List Row → Option (Text × List Text) → Waiting → Bool → Walk
  settled_at rows p waiting t = at (settled_rows (rules name known) p rows) None waiting t

  data Step (rows : List Row) (p : Option (Text × List Text)) (waiting : Waiting) (t : Bool) (word : Text) : Type 0 where
    passes_on : t ≡ false → bytes_eq word dash_dash ≡ true → Step rows p waiting t word
    fails : (k : ErrorKind) (ks : Kinds) → turn_fault (s name known) [] (at rows p waiting t) word ≡ k ∷ ks
        → turn_fault (s name known) [] (settled_at rows p waiting t) word ≡ k ∷ ks → Step rows p waiting t word
    settles : turn_fault (s name known) [] (at rows p waiting t) word ≡ or_else (settling name known rows p) (turn_fault (s name known) [] (settled_at rows p waiting t) word)
        → walked (rules name known) [] (at rows p waiting t) word ≡ walked (rules name known) [] (settled_at rows p waiting t) word → Step rows p waiting t word

  step_trailing : (rows : List Row) (p : Option (Text × List Text)) (waiting : Waiting) (word : Text) → Step rows p waiting true word
  step_trailing rows p waiting word = settles
      (trailing_turn name known rows p waiting word ∙ sym (or_else_nil _) ∙ ap (or_else (settling name known rows p)) (sym (trailing_turn name known (settled_rows (rules name known) p rows) None waiting word)))
      (trailing_walked name known rows p waiting word ∙ sym (trailing_walked name known (settled_rows (rules name known) p rows) None waiting word))

  step_free : (rows : List Row) (p : Option (Text × List Text)) (waiting : Waiting) (word : Text) → Free waiting → Spelt word → Step rows p waiting false word
  step_free rows p waiting word free spelt = by_view (view word)
    where
      on_long : (n : Text) (v : Option Text) (t : Bool) → knows known n ≡ t → bytes_eq word dash_dash ≡ false → long_of word ≡ Some (n, v) → Step rows p waiting false word
      on_long n v false k b l = fails kind.UnknownArgument [] (unknown_turn name known rows p waiting word n v b l k) (unknown_turn name known (settled_rows (rules name known) p rows) None waiting word n v b l k)
      on_long n None true k b l = settles
          (begun_turn name known rows p waiting word n b l k ∙ sym (or_else_nil _) ∙ ap (or_else (settling name known rows p)) (sym (begun_turn name known (settled_rows (rules name known) p rows) None waiting word n b l k)))
          (begun_walked name known rows p waiting word n b l k ∙ sym (begun_walked name known (settled_rows (rules name known) p rows) None waiting word n b l k))
      on_long n (Some v) true k b l = settles
          (given_turn name known rows p waiting word n v b l k ∙ ap (or_else (settling name known rows p)) (sym (given_turn name known (settled_rows (rules name known) p rows) None waiting word n v b l k)))
          (given_walked name known rows p waiting word n v b l k ∙ sym (given_walked name known (settled_rows (rules name known) p rows) None waiting word n v b l k))

      by_view : View word → Step rows p waiting false word
      by_view (dashes b) = passes_on refl b
      by_view (plain b l h i) = settles
          (plain_turn name known rows p waiting word free b l h ∙ sym (or_else_nil _) ∙ ap (or_else (settling name known rows p)) (sym (plain_turn name known (settled_rows (rules name known) p rows) None waiting word free b l h)))
          (plain_walked name known rows p waiting word free b l h ∙ sym (plain_walked name known (settled_rows (rules name known) p rows) None waiting word free b l h))
      by_view (long q b l i o) = on_long q.0 q.1 (knows known q.0) refl b l
      by_view (short x xs b l h i o w) =
          let c = spelt x xs w in
          fails kind.UnknownArgument [] (short_turn name known rows p waiting word x xs c.0 b l h c.1) (short_turn name known (settled_rows (rules name known) p rows) None waiting word x xs c.0 b l h c.1)

  follows_step : (rows : List Row) (p : Option (Text × List Text)) (waiting : Waiting) (t : Bool) (word : Text) (words : List Text) → settling name known rows p ≡ []
      → Follows (at rows p waiting true) (settled_at rows p waiting true) words → Step rows p waiting t word → Follows (at rows p waiting t) (settled_at rows p waiting t) (word ∷ words)
  follows_step rows p waiting true word words none rest (passes_on u b) = absurd (true≢false u)
  follows_step rows p waiting false word words none rest (passes_on u b) =
      let q = settled_rows (rules name known) p rows in
      let one = total_next (at rows p waiting false) (at rows p waiting true) word words [] (dashes_turn name known rows p waiting word b) (dashes_walked name known rows p waiting word b) in
      let two = total_next (at q None waiting false) (at q None waiting true) word words [] (dashes_turn name known q None waiting word b) (dashes_walked name known q None waiting word b) in (
        one ∙ rest.0 ∙ sym two,
        λ n. ap (λ (v : Walk). ended v words) (dashes_walked name known rows p waiting word b) ∙ rest.1 (sym two ∙ n) ∙ ap (λ (v : Walk). ended v words) (sym (dashes_walked name known q None waiting word b)),
      )
  follows_step rows p waiting t word words none rest (fails k ks e f) = (
    total_next (at rows p waiting t) (walked (rules name known) [] (at rows p waiting t) word) word words (k ∷ ks) e refl
        ∙ sym (total_next (settled_at rows p waiting t) (walked (rules name known) [] (settled_at rows p waiting t) word) word words (k ∷ ks) f refl),
    λ n. absurd (total_stop (settled_at rows p waiting t) word words k ks f n),
  )
  follows_step rows p waiting t word words none rest (settles e f) =
      let after = walked (rules name known) [] (settled_at rows p waiting t) word in
      let turn = turn_fault (s name known) [] (settled_at rows p waiting t) word in (
        total_next (at rows p waiting t) after word words turn (e ∙ ap (λ k. or_else k turn) none) f
            ∙ sym (total_next (settled_at rows p waiting t) after word words turn refl refl),
        λ n. ap (λ (v : Walk). ended v words) f,
      )

  follows_nil : (rows : List Row) (p : Option (Text × List Text)) (waiting : Waiting) (t : Bool) → settling name known rows p ≡ [] → Follows (at rows p waiting t) (settled_at rows p waiting t) []
  follows_nil rows p waiting t none = (total_nil rows p waiting t ∙ none ∙ sym (total_nil (settled_rows (rules name known) p rows) None waiting t), λ n. refl)

  follows_trailing : (words : List Text) (rows : List Row) (p : Option (Text × List Text)) (waiting : Waiting) → settling name known rows p ≡ []
      → Follows (at rows p waiting true) (settled_at rows p waiting true) words
  follows_trailing [] rows p waiting none = follows_nil rows p waiting true none
  follows_trailing (word ∷ words) rows p waiting none = follows_step rows p waiting true word words none (follows_trailing words rows p waiting none) (step_trailing rows p waiting word)

  follows_free : (words : List Text) (rows : List Row) (p : Option (Text × List Text)) (waiting : Waiting) → Free waiting → AllSpelt words → settling name known rows p ≡ []
      → Follows (at rows p waiting false) (settled_at rows p waiting false) words
  follows_free [] rows p waiting free spelt none = follows_nil rows p waiting false none
  follows_free (word ∷ words) rows p waiting free spelt none =
      follows_step rows p waiting false word words none (follows_trailing words rows p waiting none) (step_free rows p waiting word free spelt.0)

  -- a value that can't be used is refused in the end
  doomed_step : (rows : List Row) (p : Option (Text × List Text)) (waiting : Waiting) (t : Bool) (word : Text) (words : List Text) (k : ErrorKind) (ks : Kinds) → settling name known rows p ≡ k ∷ ks
      → (total (at rows p waiting true) words ≡ [] → ⊥) → Step rows p waiting t word → total (at rows p waiting t) (word ∷ words) ≡ [] → ⊥
  doomed_step rows p waiting true word words k ks bad rest (passes_on u b) = absurd (true≢false u)
  doomed_step rows p waiting false word words k ks bad rest (passes_on u b) =
      λ n. rest (sym (total_next (at rows p waiting false) (at rows p waiting true) word words [] (dashes_turn name known rows p waiting word b) (dashes_walked name known rows p waiting word b)) ∙ n)
  doomed_step rows p waiting t word words k ks bad rest (fails l ls e f) = total_stop (at rows p waiting t) word words l ls e
  doomed_step rows p waiting t word words k ks bad rest (settles e f) =
      total_stop (at rows p waiting t) word words k ks (e ∙ ap (λ x. or_else x (turn_fault (s name known) [] (settled_at rows p waiting t) word)) bad)

  doomed_nil : (rows : List Row) (p : Option (Text × List Text)) (waiting : Waiting) (t : Bool) (k : ErrorKind) (ks : Kinds) → settling name known rows p ≡ k ∷ ks → total (at rows p waiting t) [] ≡ [] → ⊥
  doomed_nil rows p waiting t k ks bad n = some_kind k ks (sym bad ∙ sym (total_nil rows p waiting t) ∙ n)

  doomed_trailing : (words : List Text) (rows : List Row) (p : Option (Text × List Text)) (waiting : Waiting) (k : ErrorKind) (ks : Kinds) → settling name known rows p ≡ k ∷ ks
      → total (at rows p waiting true) words ≡ [] → ⊥
  doomed_trailing [] rows p waiting k ks bad = doomed_nil rows p waiting true k ks bad
  doomed_trailing (word ∷ words) rows p waiting k ks bad = doomed_step rows p waiting true word words k ks bad (doomed_trailing words rows p waiting k ks bad) (step_trailing rows p waiting word)

  doomed_free : (words : List Text) (rows : List Row) (p : Option (Text × List Text)) (waiting : Waiting) (k : ErrorKind) (ks : Kinds) → Free waiting → AllSpelt words → settling name known rows p ≡ k ∷ ks
      → total (at rows p waiting false) words ≡ [] → ⊥
  doomed_free [] rows p waiting k ks free spelt bad = doomed_nil rows p waiting false k ks bad
  doomed_free (word ∷ words) rows p waiting k ks free spelt bad =
      doomed_step rows p waiting false word words k ks bad (doomed_trailing words rows p waiting k ks bad) (step_free rows p waiting word free spelt.0)

  -- ---- the agreement

  module _ (none : knows known names_id ≡ false) where
    name_settles : (rows : List Row) (word : Text) → settling name known rows (Some (names_id, word ∷ [])) ≡ []
    name_settles rows word = rw (by_names_id known none) refl

    name_put : (rows : List Row) (word : Text) → settled_rows (rules name known) (Some (names_id, word ∷ [])) rows ≡ put names_id AsWritten word rows
    name_put rows word = rw (by_names_id known none) refl

    value_settles : (rows : List Row) (id word : Text) → knows known id ≡ true → has_row id rows ≡ false → settling name known rows (Some (id, word ∷ [])) ≡ []
    value_settles rows id word k e = rw (by_id known id k, e) refl

    value_repeats : (rows : List Row) (id word : Text) → knows known id ≡ true → has_row id rows ≡ true → settling name known rows (Some (id, word ∷ [])) ≡ kind.ArgumentConflict ∷ []
    value_repeats rows id word k e = rw (by_id known id k, e) refl

    used_put : (rows : List Row) (id word : Text) → has_row id rows ≡ false → used (option_rule id) (word ∷ []) rows ≡ put id AsWritten word rows
    used_put rows id word e = ap (put id AsWritten word) (without_none id rows e)

    value_put : (rows : List Row) (id word : Text) → knows known id ≡ true → has_row id rows ≡ false → settled_rows (rules name known) (Some (id, word ∷ [])) rows ≡ put id AsWritten word rows
    value_put rows id word k e = rw (by_id known id k) (used_put rows id word e)

    react_passes_on : (rows : List Row) (id word : Text) → has_row id rows ≡ false → react_fault (rules name known) false (option_rule id) (word ∷ []) (held rows None) ≡ []
    react_passes_on rows id word e = rw e refl

    react_repeats : (rows : List Row) (id word : Text) → has_row id rows ≡ true → react_fault (rules name known) false (option_rule id) (word ∷ []) (held rows None) ≡ kind.ArgumentConflict ∷ []
    react_repeats rows id word e = rw e refl

    given_missing : (rows : List Row) (id n v : Text) → knows known id ≡ true → react_fault (rules name known) false (option_rule n) (v ∷ []) (held rows (Some (id, []))) ≡ kind.InvalidValue ∷ []
    given_missing rows id n v k = rw (by_id known id k) refl

    none_where : (rows : List Row) (g : Given) (id : Text) → knows known id ≡ true → Holds rows g → has_row id rows ≡ false → option_value id g.options ≡ None
    none_where rows g id k h e = go (option_value id g.options) (sym (has_option rows g id (apart known id none k) h) ∙ e)
      where
        go : (o : Option Text) → is_some o ≡ false → o ≡ None
        go None q = refl
        go (Some v) q = absurd (true≢false q)

    repeats : (rows : List Row) (g : Given) (id value : Text) → knows known id ≡ true → Holds rows g → has_row id rows ≡ true → with_option id value g ≡ None
    repeats rows g id value k h e = ap (λ b. cond b None (Some (any, record g { options = (id, value) ∷ g.options }))) (sym (has_option rows g id (apart known id none k) h) ∙ e)

    joins : (rows : List Row) (g : Given) (id value : Text) → knows known id ≡ true → Holds rows g → has_row id rows ≡ false → with_option id value g ≡ Some (any, record g { options = (id, value) ∷ g.options })
    joins rows g id value k h e = ap (λ b. cond b None (Some (any, record g { options = (id, value) ∷ g.options }))) (sym (has_option rows g id (apart known id none k) h) ∙ e)

    read_as : (w : Walk) (words more : List Text) (a b : Option (Next × Given)) → a ≡ b → Agrees w words (given_from known b more) → Agrees w words (given_from known a more)
    read_as w words more a b e h = subst (λ x. Agrees w words (given_from known x more)) (sym e) h

    pub record Sims (words : List Text) : Type 0 where
      pub on_any : (rows : List Row) (g : Given) (waiting : Waiting) → Free waiting → Holds rows g → Agrees (at rows None waiting false) words (given_from known (Some (any, g)) words)
      pub on_value : (rows : List Row) (g : Given) (id : Text) → knows known id ≡ true → Holds rows g → Agrees (at rows (Some (id, [])) (option id) false) words (given_from known (Some (value_of id, g)) words)
      pub on_names : (rows : List Row) (g : Given) (waiting : Waiting) → Holds rows g → Agrees (at rows None waiting true) words (given_from known (Some (only_names, g)) words)

    module _ (word : Text) (words : List Text) (spelt : Spelt word) (all_spelt : AllSpelt words) (rest : Sims words) where
      -- a value that is used
      value_used : (rows : List Row) (g : Given) (id value : Text) → knows known id ≡ true → Holds rows g → (t : Bool) → has_row id rows ≡ t
          → Agrees (at rows (Some (id, value ∷ [])) idle false) words (given_from known (with_option id value g) words)
      value_used rows g id value k h true e =
          read_as (at rows (Some (id, value ∷ [])) idle false) words words (with_option id value g) None (repeats rows g id value k h e)
          (subst (Agrees (at rows (Some (id, value ∷ [])) idle false) words) (sym (given_none words))
          (doomed_free words rows (Some (id, value ∷ [])) idle kind.ArgumentConflict [] tt all_spelt (value_repeats rows id value k e)))
      value_used rows g id value k h false e =
          let g2 = record g { options = (id, value) ∷ g.options } in
          let f = follows_free words rows (Some (id, value ∷ [])) idle tt all_spelt (value_settles rows id value k e) in
          read_as (at rows (Some (id, value ∷ [])) idle false) words words (with_option id value g) (Some (any, g2)) (joins rows g id value k h e)
          (agrees_as (at rows (Some (id, value ∷ [])) idle false) (settled_at rows (Some (id, value ∷ [])) idle false) words words (given_from known (Some (any, g2)) words) f.0 f.1
          (subst (λ rs. Agrees (at rs None idle false) words (given_from known (Some (any, g2)) words)) (sym (value_put rows id value k e))
          (rest.on_any (put id AsWritten value rows) g2 idle tt (holds_option rows g id value (apart known id none k) (none_where rows g id k h e) h))))

      value_given : (rows : List Row) (g : Given) (waiting : Waiting) (id value : Text) → bytes_eq word dash_dash ≡ false → long_of word ≡ Some (id, Some value) → knows known id ≡ true → Holds rows g
          → (t : Bool) → has_row id rows ≡ t → Agrees (at rows None waiting false) (word ∷ words) (given_from known (with_option id value g) words)
      value_given rows g waiting id value b l k h true e =
          read_as (at rows None waiting false) (word ∷ words) words (with_option id value g) None (repeats rows g id value k h e)
          (agrees_stop (at rows None waiting false) word words kind.ArgumentConflict [] (given_turn name known rows None waiting word id value b l k ∙ react_repeats rows id value e))
      value_given rows g waiting id value b l k h false e =
          let g2 = record g { options = (id, value) ∷ g.options } in
          read_as (at rows None waiting false) (word ∷ words) words (with_option id value g) (Some (any, g2)) (joins rows g id value k h e)
          (agrees_next (at rows None waiting false) (at (put id AsWritten value rows) None idle false) word words (given_from known (Some (any, g2)) words)
          (given_turn name known rows None waiting word id value b l k ∙ react_passes_on rows id value e)
          (given_walked name known rows None waiting word id value b l k ∙ ap (λ rs. at rs None idle false) (used_put rows id value e))
          (rest.on_any (put id AsWritten value rows) g2 idle tt (holds_option rows g id value (apart known id none k) (none_where rows g id k h e) h)))

      any_long : (rows : List Row) (g : Given) (waiting : Waiting) (n : Text) (v : Option Text) → bytes_eq word dash_dash ≡ false → long_of word ≡ Some (n, v) → Holds rows g
          → (t : Bool) → knows known n ≡ t → Agrees (at rows None waiting false) (word ∷ words) (given_from known (cond t (option_met n v g) None) words)
      any_long rows g waiting n v b l h false k = agrees_stop (at rows None waiting false) word words kind.UnknownArgument [] (unknown_turn name known rows None waiting word n v b l k)
      any_long rows g waiting n (Some v) b l h true k = value_given rows g waiting n v b l k h (has_row n rows) refl
      any_long rows g waiting n None b l h true k =
          agrees_next (at rows None waiting false) (at rows (Some (n, [])) (option n) false) word words (given_from known (Some (value_of n, g)) words)
          (begun_turn name known rows None waiting word n b l k) (begun_walked name known rows None waiting word n b l k) (rest.on_value rows g n k h)

      name_used : (rows : List Row) (g : Given) → Holds rows g → Agrees (at rows (Some (names_id, word ∷ [])) positional false) words (given_from known (Some (any, with_name word g)) words)
      name_used rows g h =
          let f = follows_free words rows (Some (names_id, word ∷ [])) positional tt all_spelt (name_settles rows word) in
          agrees_as (at rows (Some (names_id, word ∷ [])) positional false) (settled_at rows (Some (names_id, word ∷ [])) positional false) words words (given_from known (Some (any, with_name word g)) words) f.0 f.1
          (subst (λ rs. Agrees (at rs None positional false) words (given_from known (Some (any, with_name word g)) words)) (sym (name_put rows word))
          (rest.on_any (put names_id AsWritten word rows) (with_name word g) positional tt (holds_name rows g word h)))

      any_step : (rows : List Row) (g : Given) (waiting : Waiting) → Free waiting → Holds rows g → View word → Agrees (at rows None waiting false) (word ∷ words) (given_from known (any_word known word g) words)
      any_step rows g waiting free h (dashes b) =
          read_as (at rows None waiting false) (word ∷ words) words (any_word known word g) (Some (only_names, g)) (rw b refl)
          (agrees_next (at rows None waiting false) (at rows None waiting true) word words (given_from known (Some (only_names, g)) words)
          (dashes_turn name known rows None waiting word b) (dashes_walked name known rows None waiting word b) (rest.on_names rows g waiting h))
      any_step rows g waiting free h (plain b l sh i) =
          read_as (at rows None waiting false) (word ∷ words) words (any_word known word g) (Some (any, with_name word g)) (rw (b, i) refl)
          (agrees_next (at rows None waiting false) (at rows (Some (names_id, word ∷ [])) positional false) word words (given_from known (Some (any, with_name word g)) words)
          (plain_turn name known rows None waiting word free b l sh) (plain_walked name known rows None waiting word free b l sh) (name_used rows g h))
      any_step rows g waiting free h (long q b l i o) =
          read_as (at rows None waiting false) (word ∷ words) words (any_word known word g) (cond (knows known q.0) (option_met q.0 q.1 g) None) (rw (b, i, o) refl)
          (any_long rows g waiting q.0 q.1 b l h (knows known q.0) refl)
      any_step rows g waiting free h (short x xs b l sh i o w) =
          let c = spelt x xs w in
          read_as (at rows None waiting false) (word ∷ words) words (any_word known word g) None (rw (b, i, o) refl)
          (agrees_stop (at rows None waiting false) word words kind.UnknownArgument [] (short_turn name known rows None waiting word x xs c.0 b l sh c.1))

      value_long : (rows : List Row) (id n : Text) (v : Option Text) → knows known id ≡ true → bytes_eq word dash_dash ≡ false → long_of word ≡ Some (n, v) → (t : Bool) → knows known n ≡ t
          → Agrees (at rows (Some (id, [])) (option id) false) (word ∷ words) (given_from known None words)
      value_long rows id n v k b l false u = agrees_stop (at rows (Some (id, [])) (option id) false) word words kind.UnknownArgument [] (unknown_turn name known rows (Some (id, [])) (option id) word n v b l u)
      value_long rows id n None k b l true u =
          agrees_stop (at rows (Some (id, [])) (option id) false) word words kind.InvalidValue [] (begun_turn name known rows (Some (id, [])) (option id) word n b l u ∙ value_missing name known rows id k)
      value_long rows id n (Some v) k b l true u =
          agrees_stop (at rows (Some (id, [])) (option id) false) word words kind.InvalidValue [] (given_turn name known rows (Some (id, [])) (option id) word n v b l u
          ∙ given_missing rows id n v k)

      no_name : bytes_eq word dash_dash ≡ true → is_name word ≡ false
      no_name b = ap is_name (same word dash_dash b)

      value_step : (rows : List Row) (g : Given) (id : Text) → knows known id ≡ true → Holds rows g → View word
          → Agrees (at rows (Some (id, [])) (option id) false) (word ∷ words) (given_from known (cond (is_name word) (with_option id word g) None) words)
      value_step rows g id k h (dashes b) =
          read_as (at rows (Some (id, [])) (option id) false) (word ∷ words) words (cond (is_name word) (with_option id word g) None) None (rw (no_name b) refl)
          (subst (Agrees (at rows (Some (id, [])) (option id) false) (word ∷ words)) (sym (given_none words))
          (λ n. doomed_trailing words rows (Some (id, [])) (option id) kind.InvalidValue [] (value_missing name known rows id k)
          (sym (total_next (at rows (Some (id, [])) (option id) false) (at rows (Some (id, [])) (option id) true) word words [] (dashes_turn name known rows (Some (id, [])) (option id) word b)
          (dashes_walked name known rows (Some (id, [])) (option id) word b)) ∙ n)))
      value_step rows g id k h (plain b l sh i) =
          read_as (at rows (Some (id, [])) (option id) false) (word ∷ words) words (cond (is_name word) (with_option id word g) None) (with_option id word g) (rw i refl)
          (agrees_next (at rows (Some (id, [])) (option id) false) (at rows (Some (id, word ∷ [])) idle false) word words (given_from known (with_option id word g) words)
          (value_turn name known rows id word k b l sh) (value_walked name known rows id word k b l sh) (value_used rows g id word k h (has_row id rows) refl))
      value_step rows g id k h (long q b l i o) =
          read_as (at rows (Some (id, [])) (option id) false) (word ∷ words) words (cond (is_name word) (with_option id word g) None) None (rw i refl)
          (value_long rows id q.0 q.1 k b l (knows known q.0) refl)
      value_step rows g id k h (short x xs b l sh i o w) =
          let c = spelt x xs w in
          read_as (at rows (Some (id, [])) (option id) false) (word ∷ words) words (cond (is_name word) (with_option id word g) None) None (rw i refl)
          (agrees_stop (at rows (Some (id, [])) (option id) false) word words kind.UnknownArgument [] (short_turn name known rows (Some (id, [])) (option id) word x xs c.0 b l sh c.1))

      names_step : (rows : List Row) (g : Given) (waiting : Waiting) → Holds rows g → Agrees (at rows None waiting true) (word ∷ words) (given_from known (Some (only_names, with_name word g)) words)
      names_step rows g waiting h =
          let f = follows_trailing words rows (Some (names_id, word ∷ [])) positional (name_settles rows word) in
          agrees_next (at rows None waiting true) (at rows (Some (names_id, word ∷ [])) positional true) word words (given_from known (Some (only_names, with_name word g)) words)
          (trailing_turn name known rows None waiting word) (trailing_walked name known rows None waiting word)
          (agrees_as (at rows (Some (names_id, word ∷ [])) positional true) (settled_at rows (Some (names_id, word ∷ [])) positional true) words words (given_from known (Some (only_names, with_name word g)) words) f.0 f.1
          (subst (λ rs. Agrees (at rs None positional true) words (given_from known (Some (only_names, with_name word g)) words)) (sym (name_put rows word))
          (rest.on_names (put names_id AsWritten word rows) (with_name word g) positional (holds_name rows g word h))))

    pub sim : (words : List Text) → AllSpelt words → Sims words
    unfolding given_from
    sim [] spelt = record {
      on_any = λ rows g waiting free h. (total_nil rows None waiting false, h);
      on_value = λ rows g id k h. doomed_nil rows (Some (id, [])) (option id) false kind.InvalidValue [] (value_missing name known rows id k);
      on_names = λ rows g waiting h. (total_nil rows None waiting true, h);
    }
    sim (word ∷ words) spelt =
        let rest = sim words spelt.1 in
        record {
          on_any = λ rows g waiting free h. any_step word words spelt.0 spelt.1 rest rows g waiting free h (view word);
          on_value = λ rows g id k h. value_step word words spelt.0 spelt.1 rest rows g id k h (view word);
          on_names = λ rows g waiting h. names_step word words spelt.0 spelt.1 rest rows g waiting h;
        }
