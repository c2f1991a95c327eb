-- Command lines worked by hand. Source: choice of this project.
use Rattle.std.specs.Prelude.{ℕ, ◌≡◌, refl, [], ◌∷◌, Option, Some, None, codes}
use Rattle.std.specs.List.{slice_split}
use Rattle.run_model.specs.Numbers.{number_up_to, is_decimal}
use Rattle.run_model.specs.Script.{is_blank}
use Rattle.run_model.specs.declared.logs.Config.{Config}
use Rattle.program_model.specs.Addresses.{address}
use Rattle.program_model.specs.Given.{Text, given_from}
use Rattle.program_model.specs.Commands.{JobNames, Command, run, debug, disassemble, link, save, audit, job_names, session_names, form, command}

-- what a line of words that are parted by blanks asks for
pub asked : Text → Option Command
unfolding given_from form address number_up_to is_decimal
asked line = command (slice_split is_blank line)

abbrev config : ℕ → ℕ → ℕ → ℕ → Config
config cpus spares pages threshold = record {
  cpus = cpus;
  spares = spares;
  pages = pages;
  threshold = threshold;
}

abbrev job : JobNames
job = job_names (codes "D") (codes "C") (codes "S") (codes "F") (codes "L") (codes "T")

-- ---- accepted

pub defaults : asked (codes "run D C S F L T") ≡ Some (run job (config 1 0 32 3))
unfolding asked
defaults = refl

pub options_anywhere :
    asked (codes "run --cpus=2 D --storage 192 C S -- F L T") ≡ Some (run job (config 2 0 48 3))
unfolding asked
options_anywhere = refl

pub names_after_hyphens : asked (codes "audit -- -L") ≡ Some (audit (codes "-L"))
unfolding asked
names_after_hyphens = refl

pub one_hyphen : asked (codes "audit -") ≡ Some (audit (codes "-"))
unfolding asked
one_hyphen = refl

pub three_outputs : asked (codes "save 0 D C S F L T V --threshold=0 --spares 8")
    ≡ Some (save 0 job (codes "V") (config 1 8 32 0))
unfolding asked
three_outputs = refl

pub six_digits : asked (codes "dis D 010000 1000") ≡ Some (disassemble (codes "D") 0x10000 1000)
unfolding asked
six_digits = refl

pub two_decks : asked (codes "link O A A") ≡ Some (link (codes "O") (codes "A" ∷ codes "A" ∷ []))
unfolding asked
two_decks = refl

pub session : asked (codes "debug D C S F --cpus 8")
    ≡ Some (debug (session_names (codes "D") (codes "C") (codes "S") (codes "F")) (config 8 0 32 3))
unfolding asked
session = refl

-- ---- refused

pub missing_names : asked (codes "run D C") ≡ None
unfolding asked
missing_names = refl

pub nine_cpus : asked (codes "run --cpus=9 D C S F L T") ≡ None
unfolding asked
nine_cpus = refl

pub leading_zero : asked (codes "run --cpus=01 D C S F L T") ≡ None
unfolding asked
leading_zero = refl

pub given_twice : asked (codes "run --cpus=2 --cpus=2 D C S F L T") ≡ None
unfolding asked
given_twice = refl

pub shortened : asked (codes "run --cpu=2 D C S F L T") ≡ None
unfolding asked
shortened = refl

pub no_value : asked (codes "run D C S F L T --cpus") ≡ None
unfolding asked
no_value = refl

pub log_as_trace : asked (codes "run D C S F L L") ≡ None
unfolding asked
log_as_trace = refl

pub storage_between_steps : asked (codes "run D C S F L T --storage=129") ≡ None
unfolding asked
storage_between_steps = refl

pub help : asked (codes "run --help") ≡ None
unfolding asked
help = refl

pub options_of_resume : asked (codes "resume --cpus=1 V C S F L T") ≡ None
unfolding asked
options_of_resume = refl

pub deck_as_linked_deck : asked (codes "link O A O") ≡ None
unfolding asked
deck_as_linked_deck = refl

pub save_as_trace : asked (codes "save 1 D C S F L T T") ≡ None
unfolding asked
save_as_trace = refl

pub no_turns : asked (codes "gen 7 0") ≡ None
unfolding asked
no_turns = refl

pub no_words : command [] ≡ None
no_words = refl
