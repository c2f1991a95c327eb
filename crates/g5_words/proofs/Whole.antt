-- The whole parse of a command's words.
use Rattle.std.proofs.Common.{◌≡◌, ◌∙◌, ◌&&◌, Bool, true, false, not, cond, List, [], ◌∷◌, drop, Option, Some, None, refl, ap, ap₂, sym, subst, inl, inr}
use Rattle.std.specs.List.{fold, find, list_any}
use Rattle.std.specs.Option.{option_map, unwrap_or, is_some, option_and_then}
use Rattle.std.specs.Prelude.{slice_get}
use Rattle.std.specs.Str.{bytes_eq}
use Rattle.clap.specs.Kinds.{Kinds, or_else, HasKind, IsAmong}
use Rattle.clap.specs.Values.{kind_of}
use Rattle.clap.specs.declared.error.Error.{Error}
use Rattle.clap.specs.declared.error.kind.ErrorKind.TheVariants.{OutOfMemory}
use Rattle.clap.specs.Walk.{Row, Rule, Walk, idle, walked, walk, walk_from, nothing_held, with_default, has_row, all_of, first_of, rows_of, finished, settled, rows_after}
use Rattle.clap.specs.Simple.{App, built, is_simple, matches_of, entered, names_of}
use Rattle.clap.specs.Faults.{fault_of, level_fault, walk_fault, settle_fault, defaults_fault, entered_fault, is_simple_and_free, built_fault}
use Rattle.clap.specs.Matches.{found_of, first_value, matched_of, raw_values}
use Rattle.clap.specs.declared.parser.matches.Found.{Found}
use Rattle.clap.specs.declared.parser.matches.ArgMatches.{ArgMatches}
use Rattle.clap.proofs.WalkLemmas.{first_value-rows, raw_values-rows}
use Rattle.program_model.specs.Given.{Text, Given, knows, option_value, given, nothing}
use Rattle.program_model.specs.Commands.{options_if}
use Rattle.g5_words.specs.ClapCommand.{program_name, names_id, app_for}
use Rattle.g5_words.specs.Found.{IsFound}
use Rattle.g5_words.proofs.Rows.{or_true}
use Rattle.g5_words.proofs.Leaf.{leaf, rules_for, option_rule, names_rule}
use Rattle.g5_words.proofs.Turns.{at, or_else_nil}
use Rattle.g5_words.proofs.Agreement.{AllSpelt, Holds, total, ended, Agrees, sim}

pub built_is : (has : Bool) → built (app_for (options_if has)) ≡ record { top = leaf program_name (options_if has); subs = [] }
built_is true = refl
built_is false = refl

pub simple_is : (has : Bool) → is_simple_and_free (app_for (options_if has)) ≡ true
simple_is true = refl
simple_is false = refl

pub is_simple_is : (has : Bool) → is_simple (app_for (options_if has)) ≡ true
is_simple_is true = refl
is_simple_is false = refl

no_names : (has : Bool) → knows (options_if has) names_id ≡ false
no_names true = refl
no_names false = refl

defaults_pass : (known : List Text) (rows : List Row) → defaults_fault rows (rules_for known) ≡ []
unfolding defaults_fault
defaults_pass [] rows = rw (or_true _) refl
defaults_pass (k ∷ known) rows = rw (or_true _) (defaults_pass known (with_default rows (option_rule k)))

none_required : (known : List Text) (p : Rule → Bool) → list_any (λ (a : Rule). a.required && p a) (rules_for known) ≡ false
none_required [] p = refl
none_required (k ∷ known) p = none_required known p

no_default : (a : Rule) (rows : List Row) → a.defaults ≡ [] → with_default rows a ≡ rows
no_default a rows e = go (has_row a.id rows)
  where
    go : (t : Bool) → cond t rows (Rattle.clap.specs.Walk.default_rows a.id (Rattle.clap.specs.Walk.reading_by a) a.defaults rows) ≡ rows
    go true = refl
    go false = rw e refl

no_defaults : (known : List Text) (rows : List Row) → fold with_default rows (rules_for known) ≡ rows
no_defaults [] rows = no_default names_rule rows refl
no_defaults (k ∷ known) rows = ap (λ rs. fold with_default rs (rules_for known)) (no_default (option_rule k) rows refl) ∙ no_defaults known rows

or_else_assoc : (a b c : Kinds) → or_else a (or_else b c) ≡ or_else (or_else a b) c
or_else_assoc [] b c = refl
or_else_assoc (k ∷ ks) b c = refl

level_is : (name : Text) (known words : List Text) → level_fault (leaf name known) [] nothing_held words false [] ≡ total name known (at [] None idle false) words
level_is name known words =
    let w = walk_fault (leaf name known) [] (walk_from nothing_held) words in
    let end = (walk (rules_for known) [] nothing_held words).held in
    ap (λ k. or_else w (or_else (settle_fault (rules_for known) false end) k))
    (ap₂ or_else (defaults_pass known (settled (rules_for known) end).rows)
    (ap (λ b. Rattle.clap.specs.Kinds.check_kinds false false b) (none_required known (λ a. not (Rattle.clap.specs.Takes.is_given a.id (finished (rules_for known) end))))))
    ∙ ap (or_else w) (or_else_nil _)

no_sub : (a : App) → a.subs ≡ [] → (stop : Option (Text × List Text)) → entered a stop ≡ None
no_sub a e None = refl
no_sub a e (Some p) = rw e refl

no_sub_fault : (a : App) → a.subs ≡ [] → (stop : Option (Text × List Text)) → entered_fault a stop ≡ []
no_sub_fault a e None = refl
no_sub_fault a e (Some p) = rw e refl

built_fault_is : (name : Text) (known words : List Text) → built_fault (record { top = leaf name known; subs = [] }) nothing_held words ≡ total name known (at [] None idle false) words
built_fault_is name known words =
    let a : App = record { top = leaf name known; subs = [] } in
    let stop = (walk (rules_for known) [] nothing_held words).stopped in
    ap₂ (λ (b : Bool) (k : Kinds). level_fault (leaf name known) [] nothing_held words b k) (ap is_some (no_sub a refl stop)) (no_sub_fault a refl stop) ∙ level_is name known words

pub fault_is : (has : Bool) (words : List Text) → fault_of (app_for (options_if has)) words ≡ total program_name (options_if has) (at [] None idle false) (drop 1 words)
fault_is has words = ap (λ (a : App). built_fault a nothing_held (drop 1 words)) (built_is has) ∙ built_fault_is program_name (options_if has) (drop 1 words)

pub matches_are : (has : Bool) (words : List Text) → matches_of (app_for (options_if has)) words ≡ ended program_name (options_if has) (at [] None idle false) (drop 1 words)
matches_are has words =
    ap (λ (a : App). rows_after a.top.rules (names_of a) (drop 1 words)) (built_is has) ∙ no_defaults (options_if has) _

pub agreed : (has : Bool) (words : List Text) → AllSpelt words → Agrees program_name (options_if has) (at [] None idle false) words (given (options_if has) words)
agreed has words spelt = (sim program_name (options_if has) (no_names has) words spelt).on_any [] nothing idle tt (record { names = refl; options = λ id ne. refl })

found_in : (f : Found) (rows : List Row) (g : Given) → rows_of f ≡ rows → Holds rows g
    → (unwrap_or (option_map raw_values (matched_of f names_id)) [] ≡ g.names) × ((id : Text) → bytes_eq id names_id ≡ false → first_value f id ≡ option_value id g.options)
found_in f rows g e h = (
  ap (λ o. unwrap_or o []) (raw_values-rows f names_id ∙ ap (all_of names_id) e) ∙ h.names,
  λ id ne. first_value-rows f id ∙ ap (first_of id) e ∙ first (find (λ (r : Row). bytes_eq r.id id) rows) ∙ ap (option_and_then (λ vs. slice_get vs 0)) (h.options id ne) ∙ back (option_value id g.options),
)
  where
    first : (o : Option Row) → option_and_then (λ (r : Row). slice_get r.values 0) o ≡ option_and_then (λ vs. slice_get vs 0) (option_map (λ (r : Row). r.values) o)
    first None = refl
    first (Some r) = refl

    back : (o : Option Text) → option_and_then (λ (vs : List Text). slice_get vs 0) (option_map (λ v. v ∷ []) o) ≡ o
    back None = refl
    back (Some v) = refl

-- where the parse passes, the matches have what the words give
pub found_where : (has : Bool) (words : List Text) (m : ArgMatches) → AllSpelt (drop 1 words) → fault_of (app_for (options_if has)) words ≡ []
    → rows_of (found_of m) ≡ matches_of (app_for (options_if has)) words → IsFound (given (options_if has) (drop 1 words)) m
found_where has words m spelt none rows = go (given (options_if has) (drop 1 words)) refl (agreed has (drop 1 words) spelt)
  where
    go : (o : Option Given) → given (options_if has) (drop 1 words) ≡ o → Agrees program_name (options_if has) (at [] None idle false) (drop 1 words) o → IsFound o m
    go None e h = absurd (h (sym (fault_is has words) ∙ none))
    go (Some g) e h =
        let f = found_in (found_of m) (ended program_name (options_if has) (at [] None idle false) (drop 1 words)) g (rows ∙ matches_are has words) h.1 in
        (g, refl, record { names = f.0; options = f.1 })

-- where it fails by a kind, the words have no such form
pub none_where_fails : (has : Bool) (words : List Text) → AllSpelt (drop 1 words) → (fault_of (app_for (options_if has)) words ≡ [] → ⊥) → given (options_if has) (drop 1 words) ≡ None
none_where_fails has words spelt some = go (given (options_if has) (drop 1 words)) refl (agreed has (drop 1 words) spelt)
  where
    go : (o : Option Given) → given (options_if has) (drop 1 words) ≡ o → Agrees program_name (options_if has) (at [] None idle false) (drop 1 words) o → o ≡ None
    go None e h = refl
    go (Some g) e h = absurd (some (fault_is has words ∙ h.0))

-- an error that is no want of memory has a kind
pub no_kind : (e : Error) (kinds : Kinds) → HasKind kinds e → (kind_of e ≡ OutOfMemory → ⊥) → kinds ≡ [] → ⊥
no_kind e kinds (inl memory) other none = other memory
no_kind e kinds (inr among) other none = subst (IsAmong (kind_of e)) none among
