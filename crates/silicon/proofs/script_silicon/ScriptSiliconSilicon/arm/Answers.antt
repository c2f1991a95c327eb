use Rattle.std.proofs.Common.{ℕ, sym, subst}
use Rattle.fault_script.specs.Walks.{IsOn}
use Rattle.silicon.proofs.script_silicon.ScriptSiliconSilicon.arm.Goals as goal

pub invariant_of-self : goal.invariant_of-self
invariant_of-self c = record {
  form = rw c.walk.ensures.lines c.walk.ensures.form;
  follow = λ core l. subst (λ (n : ℕ). IsOn c.walk.result core n) (sym (c.requires.begun core l)) (c.walk.ensures.start core l);
}
