use Rattle.std.proofs.Common.{◌/◌, refl, sym, subst}
use Rattle.l1_cache.specs.Lines.{Lines, Coherent}
use Rattle.l1_cache.proofs.Cohering.{cleared_coherent, absent_coherent}
use Rattle.l1_cache.proofs.cache.Cache.invalidate_line.Goals as goal

pub returns-then-has_line-clause-coherent : goal.returns-then-has_line-clause-coherent
returns-then-has_line-clause-coherent c = λ s t d was.
    cleared_coherent c.self.inside.numbers c.self.inside.bytes.items s t (c.args.at / 256) c.self.inside.fills
    (c.if-has_line.ensures.0 refl) c.self.invariant.0 d (subst (λ (x : Lines). Coherent x s) (sym c.self.view_is) was)

pub returns-else-has_line-clause-coherent : goal.returns-else-has_line-clause-coherent
returns-else-has_line-clause-coherent c = λ s t d was.
    subst (λ (x : Lines). Coherent x t) c.self.view_is
    (absent_coherent c.self.inside.numbers c.self.inside.bytes.items s t (c.args.at / 256) c.self.inside.fills
    (λ is. let no = c.if-has_line.ensures.1 is in absurd cc) d (subst (λ (x : Lines). Coherent x s) (sym c.self.view_is) was))
