-- What follows of a turn that commits, and of one that does not.
use Rattle.std.proofs.Common.{◌≡◌, ℕ, Bool, true, false, Option, Some, None, refl, sym, ap, ◌∙◌, if◌then◌else◌}
use Rattle.std.specs.Prelude.{nat_lt}
use Rattle.std.proofs.lemmas.Bool.{true≢false}
use Rattle.esa_model.specs.Bus.{cpu_no}
use Rattle.esa_model.specs.Machine.{at}
use Rattle.esa_model.specs.declared.machine.Event.TheVariants.{Commit}
use Rattle.run_model.specs.declared.faults.Mode.TheVariants.{Running, Recovering, Lost}
use Rattle.run_model.specs.Cores.{Cores, Did, Met, does, by_mode, is_lost, lowest, recover_by, spare_by, transfer_by}
use Rattle.run_model.specs.Reading.{Reading}
use Rattle.run_laws.proofs.At.{at_same}
use Rattle.run_laws.proofs.Rows.{does_by}

abbrev Runs : Cores → ℕ → Did → Type 0
Runs s i d = d.event ≡ Some (Commit (cpu_no i)) → (s.mode i ≡ Running) × (d.after.mode i ≡ Running)

-- a CPU that commits was running, and is
pub commit_runs : (t : ℕ) (s : Cores) (i : ℕ) (x : Met)
    → (does t s i x).event ≡ Some (Commit (cpu_no i))
    → (s.mode i ≡ Running) × ((does t s i x).after.mode i ≡ Running)
commit_runs t s i x =
    does_by t s i x (Runs s i) (record {
      gone = λ m is. absurd (cc is);
      waits = λ m w is. absurd (cc is);
      commits = λ m w notes is. (m, m);
      fails = λ m notes why n is. absurd (cc is);
      scrub_lost = λ m notes w is. absurd (cc is);
      retries = λ m lt notes is. absurd (cc is);
      retry_lost = λ m lt notes w is. absurd (cc is);
      none_left = λ m le e is. absurd (cc is);
      transfers = λ m le k e notes is. absurd (cc is);
      transfer_lost = λ m le k e notes w is. absurd (cc is);
    })

-- one that is lost stays so
pub lost_stays : (t : ℕ) (s : Cores) (i : ℕ) (x : Met) → s.mode i ≡ Lost
    → (does t s i x).after.mode i ≡ Lost
unfolding does
lost_stays t s i x is = ap (λ m. (by_mode t s i x m).after.mode i) is ∙ is

-- ---- a recovering CPU that runs again

off : (P : Type 0) (s : Cores) (i : ℕ) → at s.mode i Lost i ≡ Running → P
off P s i is =
    absurd (true≢false (sym (ap is_lost (at_same s.mode i Lost)) ∙ ap is_lost is))

again_retry : (s : Cores) (i : ℕ) (r : Reading) (o : Option ℕ) → r.lost ≡ o
    → (recover_by s i r o).after.mode i ≡ Running → r.lost ≡ None
again_retry s i r None e is = e
again_retry s i r (Some w) e is = off _ s i is

again_spare : (s : Cores) (i k : ℕ) (r : Reading) (o : Option ℕ) → r.lost ≡ o
    → (spare_by s i k r o).after.mode i ≡ Running → r.lost ≡ None
again_spare s i k r None e is = e
again_spare s i k r (Some w) e is = off _ s i is

again_transfer : (s : Cores) (i : ℕ) (r : Reading) (o : Option ℕ)
    → (transfer_by s i r o).after.mode i ≡ Running → r.lost ≡ None
again_transfer s i r None is = off _ s i is
again_transfer s i r (Some k) is = again_spare s i k r r.lost refl is

again_by : (s : Cores) (i : ℕ) (r : Reading) (b : Bool)
    → (if b then recover_by s i r r.lost
    else transfer_by s i r (lowest s.spare 0 16)).after.mode i ≡ Running → r.lost ≡ None
again_by s i r true is = again_retry s i r r.lost refl is
again_by s i r false is = again_transfer s i r (lowest s.spare 0 16) is

-- no word of its core was lost
pub runs_again : (t : ℕ) (s : Cores) (i : ℕ) (x : Met) → s.mode i ≡ Recovering
    → (does t s i x).after.mode i ≡ Running → x.reading.lost ≡ None
unfolding does
runs_again t s i x is again =
    again_by s i x.reading (nat_lt (s.retries i) t)
    (sym (ap (λ m. (by_mode t s i x m).after.mode i) is) ∙ again)
