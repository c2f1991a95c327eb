-- A text that is added to the sink part by part.
use Rattle.std.proofs.Common.{◌≡◌, ℕ, zero, suc, List, [], ◌∷◌, ◌++◌, take, drop, length, refl, sym, ◌∙◌, ap, subst, append-nil, arith, Ok, Err}
use Rattle.std.specs.Prelude.{min}
use Rattle.std.proofs.lemmas.List.{take-append-le, take_min}
use Rattle.g5_outside.specs.Views.{SinkView}
use Rattle.g5_writing.specs.Outputs.{AddsToSink, SinkGrew}
use Rattle.g5_writing.proofs.Adding.{SinkSoFar, sink_failed, sink_next}

pub take_front : (xs ys : List ℕ) (k : ℕ) → take (min k (length xs)) (xs ++ ys) ≡ take k xs
take_front xs ys k = take-append-le (min k (length xs)) xs ys (omega arith) ∙ take_min k xs

take_all : (xs ys : List ℕ) → take (length xs) (xs ++ ys) ≡ xs
take_all [] ys = refl
take_all (x ∷ xs) ys = ap (λ zs. x ∷ zs) (take_all xs ys)

drop_all : (xs ys : List ℕ) → drop (length xs) (xs ++ ys) ≡ ys
drop_all [] ys = refl
drop_all (x ∷ xs) ys = drop_all xs ys

grew_none : (a : SinkView) → SinkGrew [] a a
grew_none a = record { told = refl; faults = omega arith; text = λ t. sym (append-nil a.taken) }

-- none of it is added yet
pub none_added : (whole : List ℕ) (a : SinkView) → SinkSoFar whole whole a a
none_added whole a = record { count = 0; rest_is = refl; grew = grew_none a }

-- the next part is added
pub part_added : {T E : Type 0} (whole rest part left : List ℕ) (a b c : SinkView) (x : T)
    → rest ≡ part ++ left → SinkSoFar whole rest a b → AddsToSink {E = E} part b c (Ok x)
    → SinkSoFar whole left a c
part_added whole rest part left a b c x e so h =
    let k : ℕ = length part in
    let all : take h.count part ≡ take k rest = h.all ∙ sym (take_all part left) ∙ ap (λ r. take k r) (sym e) in
    sink_next whole rest left a b c k so (subst (λ z. SinkGrew z b c) all h.grew)
    (sym (drop_all part left) ∙ ap (λ r. drop k r) (sym e))

-- the next part is added as far as some place in it
pub part_cut : {T U E : Type 0} (whole rest part left : List ℕ) (a b c : SinkView) (failed : E)
    → rest ≡ part ++ left → SinkSoFar whole rest a b → AddsToSink {T = T} part b c (Err failed)
    → AddsToSink {T = U} whole a c (Err failed)
part_cut {T} {U} {E} whole rest part left a b c failed e so h =
    let k : ℕ = min h.count (length part) in
    let front : take h.count part ≡ take k rest = sym (take_front part left h.count) ∙ ap (λ r. take k r) (sym e) in
    sink_failed {T = U} whole rest a b c k failed so (subst (λ z. SinkGrew z b c) front h.grew) h.cause

drop_none : (n : ℕ) (xs : List ℕ) → [] ≡ drop n xs → take n xs ≡ xs
drop_none zero [] h = refl
drop_none zero (x ∷ xs) h = absurd cc
drop_none (suc n) [] h = refl
drop_none (suc n) (x ∷ xs) h = ap (λ zs. x ∷ zs) (drop_none n xs h)

-- no part is left
pub all_added : {T E : Type 0} (whole rest : List ℕ) (a b : SinkView) (x : T) → rest ≡ []
    → SinkSoFar whole rest a b → AddsToSink {E = E} whole a b (Ok x)
all_added whole rest a b x e so =
    record { count = so.count; grew = so.grew; all = drop_none so.count whole (sym e ∙ so.rest_is); cause = tt }
