-- What a packet stores makes few stretches: its two pieces at most 129, the old PSW and the identification,
-- which begin at even addresses, four and two.
use Rattle.std.proofs.Common.{◌≡◌, ℕ, suc, ◌+◌, ◌/◌, ◌%◌, ◌≤◌, Bool, false, List, [], ◌∷◌, length, refl, ap, ◌∙◌, arith}
use Rattle.std.specs.Prelude.{slice_set, Option, Some, None}
use Rattle.esa_model.specs.declared.changes.Changed.{Changed}
use Rattle.esa_model.specs.declared.events.Interruption.{Interruption}
use Rattle.esa_model.specs.declared.events.Interruption.TheVariants.{Program, SupervisorCall, External, Restart}
use Rattle.esa_model.specs.declared.machine.Registers.{Registers}
use Rattle.esa_model.specs.declared.machine.Psw.{Psw}
use Rattle.esa_model.specs.Psw.{wrapped}
use Rattle.esa_model.specs.Access.{place, absolute, written}
use Rattle.esa_model.specs.Machine.{psw_bytes, identification_bytes, swap_stored}
use Rattle.esa_model.specs.Places.{old_at, identification_at}
use Rattle.esa_model.specs.Packet.{Fields, read}
use Rattle.esa_model.specs.PacketCodes.{interruption_of}
use Rattle.esa_model.specs.Apply.{piece, first_bytes, second_bytes, applied_storage}
use Rattle.esa_model.specs.Changes.{stretches, changed_bytes}
use Rattle.result_packet.specs.Applied.{pieces_stored}
use Rattle.result_packet.proofs.Runs.{runs, no_runs, stretches_runs, runs_set, runs_set_two, runs_piece}
use Rattle.result_packet.proofs.Tail.{pieces_short}

-- ---- an even address and the next one stand side by side

wrapped_next : (p : Psw) (n : ℕ) → n % 2 ≡ 0 → wrapped p (n + 1) ≡ wrapped p n + 1
wrapped_next p n h = grind (arith, h)

wrapped_even : (p : Psw) (n : ℕ) → n % 2 ≡ 0 → wrapped p n % 2 ≡ 0
wrapped_even p n h = grind (arith, h)

absolute_next : (prefix w : ℕ) → w % 2 ≡ 0 → absolute prefix (w + 1) ≡ absolute prefix w + 1
absolute_next prefix w h =
    let d : (w + 1) / 4096 ≡ w / 4096 = omega (arith, h) in
    let m : (w + 1) % 4096 ≡ w % 4096 + 1 = omega (arith, h) in
    rw (d, m) (grind (arith, h))

place_next : (r : Registers) (n : ℕ) → n % 2 ≡ 0 → place r (n + 1) ≡ suc (place r n)
unfolding place
place_next r n h =
    ap (absolute r.prefix) (wrapped_next r.psw n h)
    ∙ (absolute_next r.prefix (wrapped r.psw n) (wrapped_even r.psw n h) ∙ omega arith)

runs_written : (r : Registers) (b : Bool) (os xs ns : List ℕ) (at : ℕ) → at % 2 ≡ 0
    → runs b os (written r at xs ns) ≤ runs b os ns + (length xs + 1) / 2
runs_written r b os [] ns at h = omega arith
runs_written r b os (x ∷ []) ns at h = let e = runs_set b os ns (place r at) x in omega (arith, e)
runs_written r b os (x ∷ y ∷ xs) ns at h =
    let next = place_next r at h in
    let e = runs_set_two b os ns (place r at) x y in
    let f = runs_written r b os xs (slice_set (slice_set ns (place r at) x) (suc (place r at)) y) (at + 1 + 1) (omega (arith, h)) in
    rw next (omega (arith, e, f))

-- ---- the parts of a packet

pub psw_short : (p : Psw) → length (psw_bytes p) ≤ 8
psw_short p = grind arith

pub identification_short : (k : Interruption) (identification : ℕ) → length (identification_bytes k identification) ≤ 4
identification_short Program identification = grind arith
identification_short SupervisorCall identification = grind arith
identification_short External identification = grind arith
identification_short Restart identification = grind arith

old_even : (k : Interruption) → old_at k % 2 ≡ 0
old_even Program = refl
old_even SupervisorCall = refl
old_even External = refl
old_even Restart = refl

identification_even : (k : Interruption) → identification_at k % 2 ≡ 0
identification_even Program = refl
identification_even SupervisorCall = refl
identification_even External = refl
identification_even Restart = refl

runs_swap : (r : Registers) (k : Option Interruption) (old : Psw) (identification : ℕ) (os ns : List ℕ)
    → runs false os (swap_stored r k old identification ns) ≤ runs false os ns + 6
runs_swap r None old identification os ns = omega arith
runs_swap r (Some k) old identification os ns =
    let first : List ℕ = psw_bytes old in
    let second : List ℕ = identification_bytes k identification in
    let one = runs_written r false os first ns (old_at k) (old_even k) in
    let more = runs_written r false os second (written r (old_at k) first ns) (identification_at k) (identification_even k) in
    let eight = psw_short old in
    let four = identification_short k identification in
    omega (arith, one, more, eight, four)

runs_pieces : (os first second : List ℕ) (a b : ℕ) → length first + length second ≤ 256 → runs false os (piece b second (piece a first os)) ≤ 129
runs_pieces os first second a b h =
    let none = no_runs os in
    let one = runs_piece false os first os a in
    let two = runs_piece false os second (piece a first os) b in
    omega (arith, none, one, two, h)

runs_applied : (r : Registers) (p storage : List ℕ) → runs false storage (applied_storage r (read p) storage) ≤ 135
unfolding applied_storage
runs_applied r p storage =
    let f : Fields = read p in
    let pieces = runs_pieces storage (first_bytes f) (second_bytes f) f.first_at f.second_at (pieces_short p) in
    let all = runs_swap r (interruption_of f.kind) f.old f.identification storage (pieces_stored f storage) in
    omega (arith, pieces, all)

pub stretches_few : (r : Registers) (p before after : List ℕ) (cs : List Changed) → after ≡ applied_storage r (read p) before
    → cs ≡ changed_bytes before after → length (stretches cs) ≤ 135
stretches_few r p before after cs h changed =
    let few = runs_applied r p before in
    rw (changed, h, stretches_runs before (applied_storage r (read p) before)) few
