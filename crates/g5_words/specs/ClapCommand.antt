-- What clap is told of a command: its options, which each take a value, and its names.
-- Source: choice of this project, in clap's terms.
use Rattle.std.specs.Prelude.{List, [], ◌∷◌, ◌++◌, map, Some, true, codes}
use Rattle.clap.specs.Walk.{Rule}
use Rattle.clap.specs.Simple.{App, new_app, new_rule}
use Rattle.clap.specs.declared.builder.action.ArgAction.TheVariants.{Set, Append}
use Rattle.program_model.specs.Given.{Text}

abbrev pub option_arg : Text → Rule
option_arg name = record (new_rule name) { long = Some name; action = Some Set }

-- the id under which clap keeps the names
abbrev pub names_id : Text
names_id = codes "names"

abbrev pub names_arg : Rule
names_arg = record (new_rule names_id) { action = Some Append }

abbrev pub program_name : Text
program_name = codes "g5"

-- without the option that asks for help
abbrev pub bare_app : App
bare_app = record (new_app program_name) {
  top = record (new_app program_name).top { disable_help_flag = true };
}

abbrev pub with_rules : App → List Rule → App
with_rules a rules = record a { top = record a.top { rules = a.top.rules ++ rules } }

-- the command with these options
abbrev pub app_for : List Text → App
app_for known = with_rules (with_rules bare_app (map option_arg known)) (names_arg ∷ [])
