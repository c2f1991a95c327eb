-- Texts and counts of the first turns and of the rest are those of the whole.
use Rattle.std.proofs.Common.{◌≡◌, ℕ, ◌+◌, ◌≤◌, true, false, List, [], ◌∷◌, ◌++◌, length, take, drop, refl, sym, ap, ◌∙◌, subst, arith, append_assoc}
use Rattle.std.proofs.lemmas.List.{take-append-drop}
use Rattle.run_model.specs.declared.logs.Config.{Config}
use Rattle.run_model.specs.declared.logs.Entry.{Entry}
use Rattle.run_model.specs.declared.logs.What.{What}
use Rattle.run_model.specs.declared.logs.What.TheVariants as what
use Rattle.run_model.specs.declared.outputs.Counts.{Counts}
use Rattle.run_model.specs.declared.outputs.Place.TheVariants.{Log}
use Rattle.run_model.specs.Counts.{commits_by, commits_after, count_entries, count_turn, count_turns, count_what, counts, none_made}
use Rattle.run_model.specs.LogLines.{head, tail}
use Rattle.run_model.specs.Pieces.{Piece, piece}
use Rattle.run_model.specs.Runs.{Told}
use Rattle.run_model.specs.Texts.{front, turns_pieces, whole}
use Rattle.run_laws.proofs.Summing.{commits_counted}
use Rattle.run_loop.proofs.Joining.{counts_append, pieces_append}
use Rattle.saved_runs.specs.Counting.{SameCounts}
use Rattle.saved_runs.specs.Parts.{rest_by}

-- ---- counts

same_what : (m n : Counts) (w : What) → SameCounts m n
    → SameCounts (count_what m w) (count_what n w)
same_what m n (what.Fail why at) s = record { turns = s.turns; commits = s.commits; retries = s.retries; spared = s.spared; stopped = s.stopped; returned = s.returned }
same_what m n (what.Retry r) s = record { turns = s.turns; commits = s.commits; retries = ap (λ k. k + 1) s.retries; spared = s.spared; stopped = s.stopped; returned = s.returned }
same_what m n (what.Corrected w b) s = record { turns = s.turns; commits = s.commits; retries = s.retries; spared = s.spared; stopped = s.stopped; returned = s.returned }
same_what m n (what.Uncorrectable w) s = s
same_what m n what.Fenced s = s
same_what m n (what.Spared k) s = record { turns = s.turns; commits = s.commits; retries = s.retries; spared = ap (λ k. k + 1) s.spared; stopped = s.stopped; returned = s.returned }
same_what m n what.NoSpare s = s
same_what m n what.Stop s = record { turns = s.turns; commits = s.commits; retries = s.retries; spared = s.spared; stopped = ap (λ k. k + 1) s.stopped; returned = s.returned }
same_what m n what.Returned s = record { turns = s.turns; commits = s.commits; retries = s.retries; spared = s.spared; stopped = s.stopped; returned = ap (λ k. k + 1) s.returned }

same_entries : (m n : Counts) (es : List Entry) → SameCounts m n
    → SameCounts (count_entries m es) (count_entries n es)
same_entries m n [] s = s
same_entries m n (e ∷ es) s =
    same_entries (count_what m e.what) (count_what n e.what) es (same_what m n e.what s)

same_turn : (m n : Counts) (t : Told) → SameCounts m n
    → SameCounts (count_turn m t) (count_turn n t)
same_turn m n t s =
    same_entries (record m { turns = m.turns + 1; commits = commits_by t.event m.commits })
    (record n { turns = n.turns + 1; commits = commits_by t.event n.commits }) t.entries
    (record {
      turns = ap (λ k. k + 1) s.turns;
      commits = ap (commits_by t.event) s.commits;
      retries = s.retries;
      spared = s.spared;
      stopped = s.stopped;
      returned = s.returned;
    })

same_turns : (m n : Counts) (ts : List Told) → SameCounts m n
    → SameCounts (count_turns m ts) (count_turns n ts)
same_turns m n [] s = s
same_turns m n (t ∷ ts) s =
    same_turns (count_turn m t) (count_turn n t) ts (same_turn m n t s)

-- turns behind others, counted from what was carried over
pub same_counts : (start : Counts) (ts us : List Told) → SameCounts start (counts ts)
    → SameCounts (count_turns start us) (counts (ts ++ us))
same_counts start ts us s =
    subst (λ n. SameCounts (count_turns start us) n) (sym (counts_append none_made ts us))
    (same_turns start (counts ts) us s)

-- ---- pieces

pub pieces_then : (start : Counts) (ts us : List Told) → SameCounts start (counts ts)
    → turns_pieces 0 ts ++ turns_pieces start.commits us ≡ turns_pieces 0 (ts ++ us)
pieces_then start ts us s =
    let number : start.commits ≡ commits_after 0 ts = s.commits ∙ commits_counted none_made ts in
    ap (λ n. turns_pieces 0 ts ++ turns_pieces n us) number ∙ sym (pieces_append 0 ts us)

pub front_then : (c : Config) (start : Counts) (ts us : List Told) → SameCounts start (counts ts)
    → front c ts ++ rest_by false start us ≡ front c (ts ++ us)
unfolding front
front_then c start ts us s = ap (λ z. piece Log (head c) ∷ z) (pieces_then start ts us s)

pub whole_then : (c : Config) (start : Counts) (ts us : List Told) → SameCounts start (counts ts)
    → front c ts ++ rest_by true start us ≡ whole c (ts ++ us)
unfolding front whole
whole_then c start ts us s =
    let a : List Piece = turns_pieces 0 ts in
    let b : List Piece = turns_pieces start.commits us in
    let n : Counts = count_turns start us in
    let m : Counts = counts (ts ++ us) in
    let last : SameCounts n m = same_counts start ts us s in
    let line : tail n.turns n.returned ≡ tail m.turns m.returned =
    ap (λ k. tail k n.returned) last.turns ∙ ap (λ k. tail m.turns k) last.returned in
    ap (λ z. piece Log (head c) ∷ z)
    (sym (append_assoc a b (piece Log (tail n.turns n.returned) ∷ []))
    ∙ ap (λ z. z ++ piece Log (tail n.turns n.returned) ∷ []) (pieces_then start ts us s)
    ∙ ap (λ z. turns_pieces 0 (ts ++ us) ++ piece Log z ∷ []) line)

-- ---- the same of a list that is cut in two

pub same_cut : (start : Counts) (ts : List Told) (n : ℕ) → SameCounts start (counts (take n ts))
    → SameCounts (count_turns start (drop n ts)) (counts ts)
same_cut start ts n s =
    subst (λ z. SameCounts (count_turns start (drop n ts)) (counts z)) (take-append-drop n ts)
    (same_counts start (take n ts) (drop n ts) s)

pub whole_cut : (c : Config) (start : Counts) (ts : List Told) (n : ℕ)
    → SameCounts start (counts (take n ts))
    → front c (take n ts) ++ rest_by true start (drop n ts) ≡ whole c ts
whole_cut c start ts n s =
    whole_then c start (take n ts) (drop n ts) s ∙ ap (whole c) (take-append-drop n ts)
