use Rattle.std.proofs.Common.{sym, ◌+◌}
use Rattle.runit_ecc.proofs.Deciding.{reads_is}
use Rattle.runit_ecc.proofs.Judging.{reads_below}
use Rattle.runit_ecc.proofs.codewords.Code.read.Goals as goal

pub returns-clause-is : goal.returns-clause-is
returns-clause-is g c = sym (reads_is (g.row.D + g.row.C) g.row.C c.args.stored c.reading.result c.requires.checks c.reading.ensures)

pub returns-clause-below : goal.returns-clause-below
returns-clause-below g c = reads_below (g.row.D + g.row.C) g.row.C c.args.stored c.reading.result g.row.D c.requires.room c.reading.ensures
