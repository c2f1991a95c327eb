use Rattle.std.proofs.Common.{List, arith, sym, subst}
use Rattle.std.proofs.lemmas.Grind.{common_steps}
use Rattle.l1_cache.specs.Lines.{Lines}
use Rattle.cached_storage.specs.Caches.{AllCoherent}
use Rattle.cached_storage.proofs.Parts.{one_more_cache}
use Rattle.cached_storage.proofs.caches.new_caches.Goals as goal

pub loop-core-preserved : goal.loop-core-preserved
loop-core-preserved c = record {
  cores = let i = c.loop-core.invariant.cores in grind (arith, common_steps, i);
  coherent = λ s. subst (λ (cs : List Lines). AllCoherent cs s) (sym c.in_default.ensures.items)
      (one_more_cache c.loop-core.caches.items c.in_ok-new.field-0 s (c.loop-core.invariant.coherent s) (c.in_ok-new.ensures.coherent s));
}
