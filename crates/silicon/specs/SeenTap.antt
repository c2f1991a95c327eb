-- What contracts see of a silicon that tells what it is handed. Source: choice of this project.
use Rattle.silicon.specs.Chip.{Chip}
use Rattle.silicon.specs.Seen.{chip}
use Rattle.silicon.specs.Tape.{Tape}
use Rattle.silicon.specs.declared.tap_silicon.TapSilicon.{TapSilicon}

abbrev pub tap_chip : TapSilicon → Chip
tap_chip s = chip s.under

abbrev pub tap_tape : TapSilicon → Tape
tap_tape s = record { room = s.room; items = s.told.items }
