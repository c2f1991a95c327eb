-- A line is invalidated in one cache after the other.
use Rattle.std.proofs.Common.{ℕ, ◌+◌, ◌<◌, ◌≤◌, List, [], ◌∷◌, ◌++◌, length, get_or, sym, subst, arith}
use Rattle.std.specs.Prelude.{slice_set}
use Rattle.std.specs.List.{AllWithin}
use Rattle.std.proofs.lemmas.List.{length-set, get_or-set_other}
use Rattle.std.proofs.lemmas.List.Elements.{AllWithin-none, AllWithin-more_set, AllWithin-from_all, All-from_all_within, All-append, All-from_recursion}
use Rattle.l1_cache.specs.Lines.{Lines, Coherent}
use Rattle.cached_storage.specs.Caches.{AllCoherent}

-- the first i caches are coherent with t, the others with s
pub record Parted (i : ℕ) (cs : List Lines) (s t : List ℕ) : Type 0 where
  pub done : AllWithin (λ (c : Lines). Coherent c t) cs 0 i
  pub rest : AllWithin (λ (c : Lines). Coherent c s) cs i (length cs)

pub none_done : (cs : List Lines) (s t : List ℕ) → AllCoherent cs s → Parted 0 cs s t
none_done cs s t was = record {
  done = AllWithin-none (λ (c : Lines). Coherent c t) cs 0;
  rest = AllWithin-from_all (λ (c : Lines). Coherent c s) cs was;
}

pub all_done : (i : ℕ) (cs : List Lines) (s t : List ℕ) → length cs ≤ i → Parted i cs s t → AllCoherent cs t
all_done i cs s t h p = All-from_all_within (λ (c : Lines). Coherent c t) cs (λ k d low high. p.done k d low (omega (arith, h, high)))

pub one_more_done : (i : ℕ) (cs : List Lines) (s t : List ℕ) (d c : Lines) → i < length cs
    → (Coherent (get_or cs i d) s → Coherent c t) → Parted i cs s t → Parted (i + 1) (slice_set cs i c) s t
one_more_done i cs s t d c h makes p = record {
  done = AllWithin-more_set cs i c h (λ (b : Lines). Coherent b t) p.done (makes (p.rest i d (omega arith) h));
  rest = λ k e low high.
      subst (λ (b : Lines). Coherent b s) (sym (get_or-set_other cs i k c e (omega (arith, low))))
      (p.rest k e (omega (arith, low)) (let l = length-set cs i c in omega (arith, l, high)));
}

pub one_more_cache : (cs : List Lines) (c : Lines) (s : List ℕ) → AllCoherent cs s → Coherent c s → AllCoherent (cs ++ c ∷ []) s
one_more_cache cs c s was h =
    All-append P cs (c ∷ []) was (All-from_recursion P (c ∷ []) (h, tt))
  where
    P : Lines → Type 0
    P d = Coherent d s
