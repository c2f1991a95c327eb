use Rattle.save_model.proofs.SaveRead.{read_again, read_past_console, read_past_schedule, written_size}
use Rattle.save_model.proofs.laws.written_saves_are_read.Goals as goal

pub returns-clause-length : goal.returns-clause-length
returns-clause-length c = written_size

pub returns-clause-read : goal.returns-clause-read
returns-clause-read c = read_again

pub returns-clause-past_schedule : goal.returns-clause-past_schedule
returns-clause-past_schedule c = read_past_schedule

pub returns-clause-past_console : goal.returns-clause-past_console
returns-clause-past_console c = read_past_console
