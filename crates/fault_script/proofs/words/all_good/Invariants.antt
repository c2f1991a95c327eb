use Rattle.std.proofs.Common.{◌≡◌, ℕ, ◌<◌, ◌≤◌, take}
use Rattle.std.specs.Prelude.{unwrap_or, nat_eq}
use Rattle.std.specs.List.{count_by}
use Rattle.std.specs.HashMap as hash
use Rattle.run_model.specs.Premise.{strikes_word}
use Rattle.fault_script.specs.Places.{place}
use Rattle.fault_script.proofs.words.all_good.Given as goal

abbrev pub invariant-loop-s : goal.invariant-loop-s
invariant-loop-s l = record {
  counts : (c w k : ℕ) → c < 16 → w < 40 → unwrap_or (hash.get nat_eq l.counts (place c w k)) 0 ≡ count_by (strikes_word c w k) (take l.s-index l.strikes);
  few : (c w k : ℕ) → c < 16 → w < 40 → count_by (strikes_word c w k) (take l.s-index l.strikes) ≤ 2;
}
