use Rattle.std.proofs.Common.{rules, ◌≡◌, ℕ, ◌||◌, [], ◌∷◌, ◌++◌, false, List, Option, subst, sym, ap, ◌∙◌}
use Rattle.std.specs.BTreeSet.{contains}
use Rattle.std.specs.List.{list_any}
use Rattle.std.specs.Ordering.{nat_cmp}
use Rattle.run_model.specs.Script.{same_latch}
use Rattle.run_model.specs.declared.faults.Strike.{Strike}
use Rattle.fault_script.specs.Latches.{is_latch, IsGathered}
use Rattle.fault_script.proofs.Gathering.{gathered_more}
use Rattle.fault_script.proofs.gathered.Gathered.with.Goals as goal

pub invariant_of-self : goal.invariant_of-self
invariant_of-self c =
    let ls = c.self.inside.strikes.items in
    let fresh : list_any (same_latch c.args.s) ls ≡ false = search rules in
    let more : c.push.new.self.items ≡ ls ++ c.args.s ∷ [] = search rules in
    let has = contains nat_cmp c.self.inside.latches in
    let new = contains nat_cmp c.note.new.latches in
    subst (λ (xs : List Strike). IsGathered xs new) (sym more) (gathered_more ls c.args.s has new c.self.invariant c.requires.range fresh (λ q. c.in_ok-note.ensures q ∙ ap (λ (o : Option ℕ). is_latch o q || has q) c.latch_of_strike.ensures))
