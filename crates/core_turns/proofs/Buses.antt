-- An event leaves as many CPUs as there were.
use Rattle.std.proofs.Common.{◌≡◌, ℕ, suc, ◌+◌, Bool, true, false, List, [], ◌∷◌, Option, Some, None, length, refl, ap, ◌∙◌, if◌then◌else◌}
use Rattle.std.specs.Prelude.{nat_lt}
use Rattle.std.proofs.lemmas.List.{length-set}
use Rattle.esa_model.specs.declared.events.SentOrder.{SentOrder}
use Rattle.esa_model.specs.declared.events.Taken.{Taken}
use Rattle.esa_model.specs.declared.machine.Event.{Event}
use Rattle.esa_model.specs.declared.machine.Event.TheVariants.{Commit, Idle, Stop, Key}
use Rattle.esa_model.specs.declared.machine.Signals.{Signals}
use Rattle.esa_model.specs.Bus.{after_sending, alerted, check_stopped, keyed, signalled, taken}
use Rattle.esa_model.specs.Machine.{Machine, after, done_at, next}
use Rattle.esa_model.specs.Run.{run, step}
use Rattle.run_model.specs.Runs.{events_of}

taken_len : (t : Option Taken) (i : ℕ) (bus : List Signals) → length (taken t i bus) ≡ length bus
unfolding taken
taken_len t i bus = length-set bus i _

signalled_len : (order from to : ℕ) (bus : List Signals)
    → length (signalled order from to bus) ≡ length bus
unfolding signalled
signalled_len order from to bus = length-set bus to _

sending_len : (o : Option SentOrder) (i : ℕ) (bus : List Signals)
    → length (after_sending o i bus) ≡ length bus
sending_len None i bus = refl
sending_len (Some o) i bus = signalled_len o.order i o.to bus

next_len : (m : Machine) (i : ℕ) → length (next m i).bus ≡ length m.bus
unfolding next after
next_len m i = sending_len (done_at m i).sent i (taken (done_at m i).taken i m.bus)
    ∙ taken_len (done_at m i).taken i m.bus

keyed_len : (i : ℕ) (bus : List Signals) → length (keyed i bus) ≡ length bus
unfolding keyed
keyed_len i bus = length-set bus i _

alerted_len : (i k : ℕ) (bus : List Signals) → length (alerted i k bus) ≡ length bus
alerted_len i k [] = refl
alerted_len i k (s ∷ ss) = ap suc (alerted_len i (k + 1) ss)

stopped_by : (b : Bool) (i : ℕ) (bus : List Signals)
    → length (if b then alerted i 0 bus else bus) ≡ length bus
stopped_by true i bus = alerted_len i 0 bus
stopped_by false i bus = refl

stopped_len : (i : ℕ) (bus : List Signals) → length (check_stopped i bus) ≡ length bus
unfolding check_stopped
stopped_len i bus = stopped_by (nat_lt i (length bus)) i bus

step_len : (m : Machine) (e : Event) → length (step m e).bus ≡ length m.bus
step_len m (Commit i) = next_len m i.0
step_len m (Idle i) = refl
step_len m (Stop i) = stopped_len i.0 m.bus
step_len m (Key i) = keyed_len i.0 m.bus

pub events_len : (m : Machine) (e : Option Event) → length (run m (events_of e)).bus ≡ length m.bus
events_len m None = refl
events_len m (Some e) = step_len m e
