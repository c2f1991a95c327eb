use Rattle.save_model.proofs.SaveAgain.{accepted_again, accepted_in_console, accepted_in_schedule, accepted_is_save}
use Rattle.save_model.proofs.laws.read_saves_are_written.Goals as goal

pub returns-clause-again : goal.returns-clause-again
returns-clause-again c = accepted_again

pub returns-clause-save : goal.returns-clause-save
returns-clause-save c = accepted_is_save

pub returns-clause-in_schedule : goal.returns-clause-in_schedule
returns-clause-in_schedule c = accepted_in_schedule

pub returns-clause-in_console : goal.returns-clause-in_console
returns-clause-in_console c = accepted_in_console
