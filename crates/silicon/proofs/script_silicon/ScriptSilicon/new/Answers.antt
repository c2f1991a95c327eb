use Rattle.std.proofs.Common.{ℕ, ◌+◌, ◌*◌, List, get_or, ap, ◌∙◌}
use Rattle.silicon.specs.Lines.{lines_of}
use Rattle.silicon.proofs.Smalls.{zero_in}
use Rattle.silicon.proofs.script_silicon.ScriptSilicon.new.Goals as goal

pub returns : goal.returns
returns c =
    let e = c.blank.ensures in
    record {
      lines = ap lines_of e.walk;
      begun = λ k h. ap (λ (xs : List ℕ). get_or xs k 0) e.begun ∙ zero_in 16 k;
      word = λ k w h l. ap (λ (xs : List ℕ). get_or xs (k * 40 + w) 0) e.words ∙ zero_in 640 (k * 40 + w);
    }
