-- A text that is added by several calls.
use Rattle.std.proofs.Common.{◌≡◌, ℕ, ◌+◌, ◌≤◌, List, ◌++◌, take, drop, refl, ◌∙◌, ap, subst, arith, append_assoc, Result, Err}
use Rattle.std.proofs.lemmas.List.{drop-drop}
use Rattle.std.proofs.Math.Seq.{take-add}
use Rattle.g5_outside.specs.Views.{ShelfView, SinkView}
use Rattle.g5_outside.specs.Causes.{Rose}
use Rattle.g5_outside.specs.Calls.{Writes, Takes}
use Rattle.g5_writing.specs.Outputs.{FileGrew, SinkGrew, AddsToFile, AddsToSink}
use Rattle.g5_writing.proofs.Faults.{rose_before}

pub file_grew_more : (f : ℕ) (x y : List ℕ) (a b c : ShelfView) → FileGrew f x a b → FileGrew f y b c → FileGrew f (x ++ y) a c
file_grew_more f x y a b c p q = record {
  numbers = q.numbers ∙ p.numbers;
  found = q.found ∙ p.found;
  told = q.told ∙ p.told;
  reads = omega (arith, p.reads, q.reads);
  writes = omega (arith, p.writes, q.writes);
  text = λ t. q.text (p.told ∙ t) ∙ ap (λ z. z ++ y) (p.text t) ∙ append_assoc (a.text_of f) x y;
  names = λ t n. q.names (p.told ∙ t) n ∙ p.names t n;
  others = λ t n ne. q.others (p.told ∙ t) n ne ∙ p.others t n ne;
}

pub sink_grew_more : (x y : List ℕ) (a b c : SinkView) → SinkGrew x a b → SinkGrew y b c → SinkGrew (x ++ y) a c
sink_grew_more x y a b c p q = record {
  told = q.told ∙ p.told;
  faults = omega (arith, p.faults, q.faults);
  text = λ t. q.text (p.told ∙ t) ∙ ap (λ z. z ++ y) (p.text t) ∙ append_assoc a.taken x y;
}

-- so many of the bytes are added, and these are the rest
pub record FileSoFar (f : ℕ) (bytes rest : List ℕ) (old new : ShelfView) : Type 0 where
  pub count : ℕ
  pub rest_is : rest ≡ drop count bytes
  pub grew : FileGrew f (take count bytes) old new

pub record SinkSoFar (bytes rest : List ℕ) (old new : SinkView) : Type 0 where
  pub count : ℕ
  pub rest_is : rest ≡ drop count bytes
  pub grew : SinkGrew (take count bytes) old new

pub file_next : (f : ℕ) (bytes rest left : List ℕ) (a b c : ShelfView) (k : ℕ) → FileSoFar f bytes rest a b → FileGrew f (take k rest) b c → left ≡ drop k rest → FileSoFar f bytes left a c
file_next f bytes rest left a b c k so g e = record {
  count = so.count + k;
  rest_is = e ∙ ap (λ r. drop k r) so.rest_is ∙ drop-drop k so.count bytes;
  grew = rw (take-add so.count k bytes) (file_grew_more f (take so.count bytes) (take k (drop so.count bytes)) a b c so.grew (subst (λ r. FileGrew f (take k r) b c) so.rest_is g));
}

pub sink_next : (bytes rest left : List ℕ) (a b c : SinkView) (k : ℕ) → SinkSoFar bytes rest a b → SinkGrew (take k rest) b c → left ≡ drop k rest → SinkSoFar bytes left a c
sink_next bytes rest left a b c k so g e = record {
  count = so.count + k;
  rest_is = e ∙ ap (λ r. drop k r) so.rest_is ∙ drop-drop k so.count bytes;
  grew = rw (take-add so.count k bytes) (sink_grew_more (take so.count bytes) (take k (drop so.count bytes)) a b c so.grew (subst (λ r. SinkGrew (take k r) b c) so.rest_is g));
}

-- one call of `write`
pub file_wrote : {T : Type 0} (f : ℕ) (bytes : List ℕ) (a b : ShelfView) (r : Result ℕ T) (w : Writes f bytes a b r) → b.numbers ≡ a.numbers → b.found ≡ a.found → b.told ≡ a.told → a.read_faults ≤ b.read_faults → a.write_faults ≤ b.write_faults → FileGrew f (take w.count bytes) a b
file_wrote f bytes a b r w numbers found told reads writes = record { numbers = numbers; found = found; told = told; reads = reads; writes = writes; text = w.text; names = w.names; others = w.others }

pub sink_took : {T : Type 0} (bytes : List ℕ) (a b : SinkView) (r : Result ℕ T) (w : Takes bytes a b r) → b.told ≡ a.told → a.faults ≤ b.faults → SinkGrew (take w.count bytes) a b
sink_took bytes a b r w told faults = record { told = told; faults = faults; text = w.text }

-- a call that failed ends the loop
pub file_failed : {T E : Type 0} (f : ℕ) (bytes rest : List ℕ) (a b c : ShelfView) (k : ℕ) (e : E) → FileSoFar f bytes rest a b → FileGrew f (take k rest) b c → Rose b.write_faults c.write_faults → AddsToFile {T = T} f bytes a c (Err e)
file_failed f bytes rest a b c k e so g rose =
    let next = file_next f bytes rest (drop k rest) a b c k so g refl in
    record { count = next.count; grew = next.grew; all = tt; cause = rose_before a.write_faults b.write_faults c.write_faults so.grew.writes rose }

pub sink_failed : {T E : Type 0} (bytes rest : List ℕ) (a b c : SinkView) (k : ℕ) (e : E) → SinkSoFar bytes rest a b → SinkGrew (take k rest) b c → Rose b.faults c.faults → AddsToSink {T = T} bytes a c (Err e)
sink_failed bytes rest a b c k e so g rose =
    let next = sink_next bytes rest (drop k rest) a b c k so g refl in
    record { count = next.count; grew = next.grew; all = tt; cause = rose_before a.faults b.faults c.faults so.grew.faults rose }
