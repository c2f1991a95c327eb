-- The front of a save, of parts that are the same.
use Rattle.std.proofs.Common.{◌≡◌, ℕ, List, ◌++◌, ap, ◌∙◌}
use Rattle.save_model.specs.declared.parts.SaveHead.{SaveHead}
use Rattle.save_model.specs.declared.parts.SavedNumbers.{SavedNumbers}
use Rattle.save_model.specs.declared.parts.SavedCpu.{SavedCpu}
use Rattle.save_model.specs.declared.parts.SavedCore.{SavedCore}
use Rattle.save_writing.specs.Written.{front_of}

pub front_same : (a b : List ℕ) (h h2 : SaveHead) (n n2 : SavedNumbers) (cs cs2 : List SavedCpu)
    (ks ks2 : List SavedCore) → b ≡ a ++ front_of h n cs ks → h ≡ h2 → n ≡ n2 → cs ≡ cs2
    → ks ≡ ks2 → b ≡ a ++ front_of h2 n2 cs2 ks2
front_same a b h h2 n n2 cs cs2 ks ks2 e p q r s =
    e
    ∙ ap (λ x. a ++ front_of x n cs ks) p
    ∙ ap (λ x. a ++ front_of h2 x cs ks) q
    ∙ ap (λ x. a ++ front_of h2 n2 x ks) r
    ∙ ap (λ x. a ++ front_of h2 n2 cs2 x) s
