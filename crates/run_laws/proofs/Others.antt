-- A turn of a CPU leaves the others' cores, modes and retries.
use Rattle.std.proofs.Common.{ℕ, ◌+◌, refl}
use Rattle.run_model.specs.declared.faults.Mode.TheVariants.{Running, Recovering, Lost}
use Rattle.run_model.specs.Cores.{Cores, Met, does}
use Rattle.run_laws.specs.Bounds.{Others}
use Rattle.run_laws.proofs.At.{at_other}
use Rattle.run_laws.proofs.Rows.{does_by}

pub others_stay : (t : ℕ) (s : Cores) (i : ℕ) (x : Met) → Others s i (does t s i x)
others_stay t s i x =
    does_by t s i x (Others s i) (record {
      gone = λ m. record { core = λ j ne. refl; mode = λ j ne. refl; retries = λ j ne. refl };
      waits = λ m w. record { core = λ j ne. refl; mode = λ j ne. refl; retries = λ j ne. refl };
      commits = λ m w notes. record {
        core = λ j ne. refl;
        mode = λ j ne. refl;
        retries = λ j ne. at_other s.retries i 0 j ne;
      };
      fails = λ m notes why n. record {
        core = λ j ne. refl;
        mode = λ j ne. at_other s.mode i Recovering j ne;
        retries = λ j ne. refl;
      };
      scrub_lost = λ m notes w. record {
        core = λ j ne. refl;
        mode = λ j ne. at_other s.mode i Lost j ne;
        retries = λ j ne. refl;
      };
      retries = λ m lt notes. record {
        core = λ j ne. refl;
        mode = λ j ne. at_other s.mode i Running j ne;
        retries = λ j ne. at_other s.retries i (s.retries i + 1) j ne;
      };
      retry_lost = λ m lt notes w. record {
        core = λ j ne. refl;
        mode = λ j ne. at_other s.mode i Lost j ne;
        retries = λ j ne. refl;
      };
      none_left = λ m le is. record {
        core = λ j ne. refl;
        mode = λ j ne. at_other s.mode i Lost j ne;
        retries = λ j ne. refl;
      };
      transfers = λ m le k is notes. record {
        core = λ j ne. at_other s.core i k j ne;
        mode = λ j ne. at_other s.mode i Running j ne;
        retries = λ j ne. at_other s.retries i 0 j ne;
      };
      transfer_lost = λ m le k is notes w. record {
        core = λ j ne. refl;
        mode = λ j ne. at_other s.mode i Lost j ne;
        retries = λ j ne. refl;
      };
    })
