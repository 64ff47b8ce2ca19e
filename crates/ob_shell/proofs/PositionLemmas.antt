-- By what statements go that are served one after the other, alone or several together.
use Rattle.ob_shell.proofs.Words.{Access, ap, append-nil, arith, length, List, next, Option, Public, refl, script, Position, sym, turns_of, ℕ, [], ◌++◌, ◌+◌, ◌∙◌, ◌∷◌, ◌≡◌}
use Rattle.ob_headline.specs.Flights.{after_entries, position_alone, positions, positions_in_flight}
use Rattle.ob_script.specs.Flights.{Alone, Entry, Together, flight_accesses, next_flight, trace_in, words_from}
use Rattle.ob_script.specs.Trace.{Served}

-- ---- the words that are left
pub plus : (n t k : ℕ) → (n + t) + k ≡ n + (t + k)
plus n t k = omega arith

none_more : (k : ℕ) → 0 + k ≡ k
none_more k = omega arith

pub words_later : (words : ℕ → ℕ) (n t : ℕ) → words_from words (n + t) ≡ words_from (words_from words n) t
words_later words n t = λ i k. words (plus n t k i)

pub words_whole : (words : ℕ → ℕ) → words_from words 0 ≡ words
words_whole words = λ i k. words (none_more k i)

-- ---- after n of them
pub positions_later : (words : ℕ → ℕ) (n t : ℕ) (p : Public) (m : ℕ) (entries : List Entry) → positions words (n + t) p m entries ≡ positions (words_from words n) t p m entries
unfolding positions
positions_later words n t p m [] = refl
positions_later words n t p m (Alone x ∷ entries) =
    ap (λ (l : List Position). position_alone p m x ∷ l) (positions_later words n t (next p x.skeleton x.seen) (m + length (script p x.skeleton x.seen)) entries)
positions_later words n t p m (Together flown left ∷ entries) =
    let w = words_later words n t in
    let u = turns_of p flown in
    let q = next_flight p flown (words_from (words_from words n) t) in
    let k = m + length (flight_accesses p flown left (words_from (words_from words n) t)) in
    let here = positions_in_flight p m flown (words_from (words_from words n) t) left 0 (length flown) in
    (λ i. positions_in_flight p m flown (w i) left 0 (length flown) ++ positions words (plus n t u i) (next_flight p flown (w i)) (m + length (flight_accesses p flown left (w i))) entries)
    ∙ ap (λ (l : List Position). here ++ l) (positions_later words n (t + u) q k entries)

pub trace_later : (words : ℕ → ℕ) (n t : ℕ) (p : Public) (entries : List Entry) → trace_in words (n + t) p entries ≡ trace_in (words_from words n) t p entries
unfolding trace_in
trace_later words n t p [] = refl
trace_later words n t p (Alone x ∷ entries) =
    ap (λ (l : List Access). script p x.skeleton x.seen ++ l) (trace_later words n t (next p x.skeleton x.seen) entries)
trace_later words n t p (Together flown left ∷ entries) =
    let w = words_later words n t in
    let u = turns_of p flown in
    let q = next_flight p flown (words_from (words_from words n) t) in
    let here = flight_accesses p flown left (words_from (words_from words n) t) in
    (λ i. flight_accesses p flown left (w i) ++ trace_in words (plus n t u i) (next_flight p flown (w i)) entries)
    ∙ ap (λ (l : List Access). here ++ l) (trace_later words n (t + u) q entries)

pub after_later : (words : ℕ → ℕ) (n t : ℕ) (p : Public) (entries : List Entry) → after_entries words (n + t) p entries ≡ after_entries (words_from words n) t p entries
unfolding after_entries
after_later words n t p [] = refl
after_later words n t p (Alone x ∷ entries) = after_later words n t (next p x.skeleton x.seen) entries
after_later words n t p (Together flown left ∷ entries) =
    let w = words_later words n t in
    let u = turns_of p flown in
    (λ i. after_entries words (plus n t u i) (next_flight p flown (w i)) entries) ∙ after_later words n (t + u) (next_flight p flown (words_from (words_from words n) t)) entries

-- ---- the first of them, and then the others
-- one that is served alone
module _ (words words1 : ℕ → ℕ) (p p1 : Public) (m m1 : ℕ) (x : Served) (same : words1 ≡ words) (public : p1 ≡ next p x.skeleton x.seen) (asked : m1 ≡ m + length (script p x.skeleton x.seen)) (entries : List Entry) where
  pub positions_alone_then : positions words 0 p m (Alone x ∷ entries) ≡ position_alone p m x ∷ positions words1 0 p1 m1 entries
  unfolding positions
  positions_alone_then = λ i. position_alone p m x ∷ positions (sym same i) 0 (sym public i) (sym asked i) entries

  pub trace_alone_then : trace_in words 0 p (Alone x ∷ entries) ≡ script p x.skeleton x.seen ++ trace_in words1 0 p1 entries
  unfolding trace_in
  trace_alone_then = λ i. script p x.skeleton x.seen ++ trace_in (sym same i) 0 (sym public i) entries

  pub after_alone_then : after_entries words 0 p (Alone x ∷ entries) ≡ after_entries words1 0 p1 entries
  unfolding after_entries
  after_alone_then = λ i. after_entries (sym same i) 0 (sym public i) entries

-- several that fly
module _ (words words1 : ℕ → ℕ) (p p1 : Public) (m m1 : ℕ) (flown : List Served) (left : Option ℕ)
    (same : words1 ≡ words_from words (turns_of p flown)) (public : p1 ≡ next_flight p flown words) (asked : m1 ≡ m + length (flight_accesses p flown left words)) (entries : List Entry) where
  abbrev u : ℕ
  u = turns_of p flown

  turned : 0 + u ≡ u + 0
  turned = omega arith

  pub positions_flown_then : positions words 0 p m (Together flown left ∷ entries) ≡ positions_in_flight p m flown words left 0 (length flown) ++ positions words1 0 p1 m1 entries
  unfolding positions
  positions_flown_then =
      let w = words_whole words in
      let here = positions_in_flight p m flown words left 0 (length flown) in
      (λ i. positions_in_flight p m flown (w i) left 0 (length flown) ++ positions words (turned i) (next_flight p flown (w i)) (m + length (flight_accesses p flown left (w i))) entries)
      ∙ ap (λ (l : List Position). here ++ l) (positions_later words u 0 (next_flight p flown words) (m + length (flight_accesses p flown left words)) entries)
      ∙ (λ i. here ++ positions (sym same i) 0 (sym public i) (sym asked i) entries)

  pub trace_flown_then : trace_in words 0 p (Together flown left ∷ entries) ≡ flight_accesses p flown left words ++ trace_in words1 0 p1 entries
  unfolding trace_in
  trace_flown_then =
      let w = words_whole words in
      let here = flight_accesses p flown left words in
      (λ i. flight_accesses p flown left (w i) ++ trace_in words (turned i) (next_flight p flown (w i)) entries)
      ∙ ap (λ (l : List Access). here ++ l) (trace_later words u 0 (next_flight p flown words) entries)
      ∙ (λ i. here ++ trace_in (sym same i) 0 (sym public i) entries)

  pub after_flown_then : after_entries words 0 p (Together flown left ∷ entries) ≡ after_entries words1 0 p1 entries
  unfolding after_entries
  after_flown_then =
      let w = words_whole words in
      (λ i. after_entries words (turned i) (next_flight p flown (w i)) entries)
      ∙ after_later words u 0 (next_flight p flown words) entries
      ∙ (λ i. after_entries (sym same i) 0 (sym public i) entries)

-- a flight after which nothing comes
pub positions_flown_last : (words : ℕ → ℕ) (p : Public) (m : ℕ) (flown : List Served) (left : Option ℕ) → positions words 0 p m (Together flown left ∷ []) ≡ positions_in_flight p m flown words left 0 (length flown)
unfolding positions
positions_flown_last words p m flown left =
    let w = words_whole words in
    (λ i. positions_in_flight p m flown (w i) left 0 (length flown) ++ []) ∙ append-nil (positions_in_flight p m flown words left 0 (length flown))

pub trace_flown_last : (words : ℕ → ℕ) (p : Public) (flown : List Served) (left : Option ℕ) → trace_in words 0 p (Together flown left ∷ []) ≡ flight_accesses p flown left words
unfolding trace_in
trace_flown_last words p flown left =
    let w = words_whole words in
    (λ i. flight_accesses p flown left (w i) ++ []) ∙ append-nil (flight_accesses p flown left words)
