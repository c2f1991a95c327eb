-- The first enabled request of the whole list is that of the first sort that has one.
use Rattle.std.proofs.Common.{◌≡◌, ℕ, ◌+◌, List, [], ◌∷◌, ◌++◌, Bool, true, false, refl, ap, ◌∙◌, Option, Some, None}
use Rattle.std.specs.Prelude.{find, if◌then◌else◌}
use Rattle.std.specs.List.{position_from}
use Rattle.esa_model.specs.declared.machine.CpuNo.{CpuNo}
use Rattle.esa_model.specs.declared.machine.Signals.{Signals}
use Rattle.esa_model.specs.declared.machine.Request.{Request}
use Rattle.esa_model.specs.declared.machine.Request.TheVariants.{Key, Malfunction, Emergency, ExternalCall, Comparator, Timer}
use Rattle.esa_model.specs.Bus.{cpu_no}
use Rattle.esa_model.specs.Clocks.{passes_comparator, is_timer_negative}
use Rattle.esa_model.specs.Event.{requests, masked, mask_bit, from_senders, from_call, from_clocks}
use Rattle.psw_interrupts.specs.Parts.{first_unmasked, one_or, sender_or, sent_or, call_or}

-- a sort that is enabled
enabled_sort : (test : Request → Bool) (sort : CpuNo → Request) (k : ℕ) (flags : List Bool) (rest : List Request)
    → ((c : CpuNo) → test (sort c) ≡ true)
    → find test (from_senders sort k flags ++ rest) ≡ sender_or sort (position_from (λ b. b) k flags) (find test rest)
enabled_sort test sort k [] rest h = refl
enabled_sort test sort k (true ∷ bs) rest h = rw (h (cpu_no k)) refl
enabled_sort test sort k (false ∷ bs) rest h = enabled_sort test sort (k + 1) bs rest h

-- a sort that is not
masked_sort : (test : Request → Bool) (sort : CpuNo → Request) (k : ℕ) (flags : List Bool) (rest : List Request)
    → ((c : CpuNo) → test (sort c) ≡ false)
    → find test (from_senders sort k flags ++ rest) ≡ find test rest
masked_sort test sort k [] rest h = refl
masked_sort test sort k (true ∷ bs) rest h = rw (h (cpu_no k)) (masked_sort test sort (k + 1) bs rest h)
masked_sort test sort k (false ∷ bs) rest h = masked_sort test sort (k + 1) bs rest h

pub one_sort : (test : Request → Bool) (sort : CpuNo → Request) (on : Bool) (flags : List Bool) (rest : List Request)
    → ((c : CpuNo) → test (sort c) ≡ on)
    → find test (from_senders sort 0 flags ++ rest) ≡ sent_or on sort flags (find test rest)
one_sort test sort true flags rest h = enabled_sort test sort 0 flags rest h
one_sort test sort false flags rest h = masked_sort test sort 0 flags rest h

call_sort : (test : Request → Bool) (on : Bool) (pending : Option CpuNo) (rest : List Request)
    → ((c : CpuNo) → test (ExternalCall c) ≡ on)
    → find test (from_call pending ++ rest) ≡ call_or on pending (find test rest)
call_sort test true None rest h = refl
call_sort test false None rest h = refl
call_sort test true (Some c) rest h = rw (h c) refl
call_sort test false (Some c) rest h = rw (h c) refl

one_request : (test : Request → Bool) (q : Request) (on holds : Bool) (rest : List Request) → test q ≡ on
    → find test ((if holds then q ∷ [] else []) ++ rest) ≡ one_or q on holds (find test rest)
one_request test q true true rest h = rw h refl
one_request test q true false rest h = refl
one_request test q false true rest h = rw h refl
one_request test q false false rest h = refl

last_request : (test : Request → Bool) (q : Request) (on holds : Bool) → test q ≡ on
    → find test (if holds then q ∷ [] else []) ≡ one_or q on holds None
last_request test q true true h = rw h refl
last_request test q true false h = refl
last_request test q false true h = rw h refl
last_request test q false false h = refl

pub first_in_parts : (cr0 : ℕ) (words : List ℕ) (clock : ℕ) (s : Signals)
    → first_unmasked cr0 words clock s
    ≡ one_or Key (masked cr0 25) s.key
    (sent_or (masked cr0 16) Malfunction s.malfunction
    (sent_or (masked cr0 17) Emergency s.emergency
    (call_or (masked cr0 18) s.external_call
    (one_or Comparator (masked cr0 20) (passes_comparator words clock)
    (one_or Timer (masked cr0 21) (is_timer_negative words clock) None)))))
unfolding first_unmasked requests
first_in_parts cr0 words clock s =
    let test : Request → Bool = λ q. masked cr0 (mask_bit q) in
    let passes = passes_comparator words clock in
    let negative = is_timer_negative words clock in
    let timers : List Request = if negative then Timer ∷ [] else [] in
    let clocks = from_clocks words clock in
    let calls = from_call s.external_call ++ clocks in
    let emergencies = from_senders Emergency 0 s.emergency ++ calls in
    let alerts = from_senders Malfunction 0 s.malfunction ++ emergencies in
    one_request test Key (masked cr0 25) s.key alerts refl
    ∙ ap (one_or Key (masked cr0 25) s.key)
    (one_sort test Malfunction (masked cr0 16) s.malfunction emergencies (λ c. refl)
    ∙ ap (sent_or (masked cr0 16) Malfunction s.malfunction)
    (one_sort test Emergency (masked cr0 17) s.emergency calls (λ c. refl)
    ∙ ap (sent_or (masked cr0 17) Emergency s.emergency)
    (call_sort test (masked cr0 18) s.external_call clocks (λ c. refl)
    ∙ ap (call_or (masked cr0 18) s.external_call)
    (one_request test Comparator (masked cr0 20) passes timers refl
    ∙ ap (one_or Comparator (masked cr0 20) passes)
    (last_request test Timer (masked cr0 21) negative refl)))))
