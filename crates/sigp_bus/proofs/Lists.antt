-- Lists of which one element is changed, and the list of signals while a check-stop goes over it.
use Rattle.std.proofs.Common.{◌≡◌, ◌<◌, ◌≤◌, ℕ, ◌+◌, List, ◌∷◌, ◌++◌, length, take, drop, slice_set, ap, subst, arith, append_assoc}
use Rattle.std.proofs.Math.Seq.{set_out, take-length, drop-length}
use Rattle.std.proofs.lemmas.List.{take_more_set, drop-set-lt, drop_more, append-nil}
use Rattle.std.proofs.lemmas.Option.{unwrap_or-slice_get}
use Rattle.esa_model.specs.declared.machine.Signals.{Signals}
use Rattle.esa_model.specs.declared.machine.CpuState.TheVariants.{CheckStop}
use Rattle.esa_model.specs.Bus.{alerted, signals_of, quiet}
use Rattle.sigp_bus.specs.Alerts.{alert}

-- a place past the end is passed over
pub set_outside : {X : Type 0} → (xs : List X) (i : ℕ) (x : X) → length xs ≤ i → slice_set xs i x ≡ xs
set_outside xs i x h = set_out xs i x h

-- the part that is left begins with the CPU that is next
left_more : (i k : ℕ) (xs : List Signals) → k < length xs
    → alerted i k (drop k xs) ≡ alert i k (signals_of xs k) ∷ alerted i (k + 1) (drop (k + 1) xs)
unfolding signals_of
left_more i k xs h =
    rw (unwrap_or-slice_get xs k (quiet CheckStop)) (ap (alerted i k) (drop_more xs k (quiet CheckStop) h))

-- one CPU more
pub alerted_step : (i k : ℕ) (xs : List Signals) → k < length xs
    → take k xs ++ alerted i k (drop k xs)
    ≡ take (k + 1) (slice_set xs k (alert i k (signals_of xs k))) ++ alerted i (k + 1) (drop (k + 1) (slice_set xs k (alert i k (signals_of xs k))))
alerted_step i k xs h =
    let front = take_more_set xs k (alert i k (signals_of xs k)) h in
    let back = drop-set-lt (k + 1) xs k (alert i k (signals_of xs k)) (omega arith) in
    rw (front, back, append_assoc) (ap (λ ys. take k xs ++ ys) (left_more i k xs h))

-- all of them
pub alerted_end : (i k : ℕ) (xs : List Signals) → length xs ≡ k
    → take k xs ++ alerted i k (drop k xs) ≡ xs
alerted_end i k xs h =
    let P : ℕ → Type 0 = λ n. take n xs ++ alerted i n (drop n xs) ≡ xs in
    subst P h (rw (take-length xs, drop-length xs) (append-nil xs))
