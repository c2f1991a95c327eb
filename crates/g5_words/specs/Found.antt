-- What clap's matches have of the words. Source: choice of this project, in clap's terms.
use Rattle.std.specs.Prelude.{◌≡◌, false, List, [], Option, Some, option_map, unwrap_or}
use Rattle.std.specs.Str.{bytes_eq}
use Rattle.clap.specs.Matches.{found_of, first_value, matched_of, raw_values}
use Rattle.clap.specs.declared.parser.matches.ArgMatches.{ArgMatches}
use Rattle.program_model.specs.Given.{Text, Given, option_value}
use Rattle.g5_words.specs.ClapCommand.{names_id}

-- the names that clap found
abbrev pub names_in : ArgMatches → List Text
names_in m = unwrap_or (option_map raw_values (matched_of (found_of m) names_id)) []

pub record Finds (m : ArgMatches) (g : Given) : Type 0 where
  pub names : names_in m ≡ g.names
  pub options : (id : Text) → bytes_eq id names_id ≡ false
      → first_value (found_of m) id ≡ option_value id g.options

-- the words have a form, and the matches are of it
abbrev pub IsFound : Option Given → ArgMatches → Type 0
IsFound o m = (g : Given) × (o ≡ Some g) × Finds m g
