use Rattle.run_laws.proofs.Tellings.{lawful_told, retries_told, no_spare_told}
use Rattle.run_loop.proofs.laws.lawful_and_few_retries.Goals as goal

pub returns-clause-lawful : goal.returns-clause-lawful
returns-clause-lawful g c = λ y z v w told few t.
    lawful_told (g.E.Engine.seen c.args.old.now y v).config t.choices told few t.valid t.tells

pub returns-clause-retries : goal.returns-clause-retries
returns-clause-retries g c = λ y z v w told i t.
    retries_told (g.E.Engine.seen c.args.old.now y v).config t.choices told i t.tells

pub returns-clause-no_spare : goal.returns-clause-no_spare
returns-clause-no_spare g c = λ y z v w before t i k by h.
    no_spare_told (g.E.Engine.seen c.args.old.now y v).config by.choices before t i k by.tells h
