-- clap's walk over the words of a command with options of one value and one list of names.
use Rattle.std.proofs.Common.{◌≡◌, ◌∙◌, ℕ, ◌||◌, Bool, true, false, cond, List, [], ◌∷◌, ◌++◌, map, Some, None, refl, ap, sym, true≢false}
use Rattle.std.specs.Str.{bytes_eq}
use Rattle.clap.specs.Walk.{Rule, arg_by_id, arg_by_long, arg_by_short, arg_by_index}
use Rattle.clap.specs.Simple.{Shape, new_rule, new_shape}
use Rattle.clap.specs.declared.builder.action.ArgAction.TheVariants.{Set, Append}
use Rattle.clap.specs.declared.builder.value_parser.ValueParser.TheVariants as vp
use Rattle.program_model.specs.Given.{Text, knows}
use Rattle.g5_words.specs.ClapCommand.{names_id}
use Rattle.g5_words.proofs.Rows.{same}

-- an option and the list of names, as a build fills them in
abbrev pub option_rule : Text → Rule
option_rule name = record (new_rule name) {
  long = Some name;
  action = Some Set;
  parser = Some vp.String;
  range = Some (record { start_inclusive = 1; end_inclusive = 1 });
}

abbrev pub names_rule : Rule
names_rule = record (new_rule names_id) {
  action = Some Append;
  index = Some 1;
  parser = Some vp.String;
  range = Some (record { start_inclusive = 1; end_inclusive = 1 });
}

abbrev pub rules_for : List Text → List Rule
rules_for known = map option_rule known ++ names_rule ∷ []

abbrev pub leaf : Text → List Text → Shape
leaf name known = record (new_shape name) { rules = rules_for known; disable_help_flag = true; disable_help_subcommand = true; is_built = true }

-- ---- the look-ups

pub by_index : (known : List Text) → arg_by_index (rules_for known) 1 ≡ Some names_rule
by_index [] = refl
by_index (k ∷ known) = by_index known

pub by_short : (known : List Text) (c : ℕ) → arg_by_short (rules_for known) c ≡ None
by_short [] c = refl
by_short (k ∷ known) c = by_short known c

pub by_long : (known : List Text) (name : Text) → arg_by_long (rules_for known) name ≡ cond (knows known name) (Some (option_rule name)) None
by_long [] name = refl
by_long (k ∷ known) name = go (bytes_eq k name) refl (by_long known name)
  where
    go : (t : Bool) → bytes_eq k name ≡ t → arg_by_long (rules_for known) name ≡ cond (knows known name) (Some (option_rule name)) None
        → arg_by_long (rules_for (k ∷ known)) name ≡ cond (knows (k ∷ known) name) (Some (option_rule name)) None
    go true e h = rw e (ap (λ n. Some (option_rule n)) (same k name e))
    go false e h = rw e h

pub by_id : (known : List Text) (name : Text) → knows known name ≡ true → arg_by_id (rules_for known) name ≡ Some (option_rule name)
by_id [] name e = absurd (true≢false (sym e))
by_id (k ∷ known) name e = go (bytes_eq k name) refl e (λ h. by_id known name h)
  where
    go : (t : Bool) → bytes_eq k name ≡ t → knows (k ∷ known) name ≡ true → (knows known name ≡ true → arg_by_id (rules_for known) name ≡ Some (option_rule name))
        → arg_by_id (rules_for (k ∷ known)) name ≡ Some (option_rule name)
    go true q h rest = rw q (ap (λ n. Some (option_rule n)) (same k name q))
    go false q h rest = rw q (rest (sym (ap (λ b. b || knows known name) q) ∙ h))

pub by_names_id : (known : List Text) → knows known names_id ≡ false → arg_by_id (rules_for known) names_id ≡ Some names_rule
by_names_id [] e = refl
by_names_id (k ∷ known) e = go (bytes_eq k names_id) refl e (λ h. by_names_id known h)
  where
    go : (t : Bool) → bytes_eq k names_id ≡ t → knows (k ∷ known) names_id ≡ false → (knows known names_id ≡ false → arg_by_id (rules_for known) names_id ≡ Some names_rule)
        → arg_by_id (rules_for (k ∷ known)) names_id ≡ Some names_rule
    go true q h rest = absurd (true≢false (sym (ap (λ b. b || knows known names_id) q) ∙ h))
    go false q h rest = rw q (rest (sym (ap (λ b. b || knows known names_id) q) ∙ h))
