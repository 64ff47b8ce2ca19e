-- How the statements of some texts are served from a machine on, each alone, or several together.
use Rattle.ob_shell.proofs.Words.{Access, All, All-cons, All-nil, ap, arith, asked_of, Bool, Err, false, Flights, gathered_then, if◌then◌else◌, inl, inr, length, List, Machine, most_flown, nat_le, next, None, Ok, Option, place_now, public_of, refl, script, Position, Seen, skeleton, Some, Spelt, Stmt, subst, suc, sym, take, true, ℕ, [], ◌++◌, ◌+◌, ◌-◌, ◌<◌, ◌∙◌, ◌∷◌, ◌≡◌}
use Rattle.ob_headline.specs.Flights.{AreEntries, AreGathered, EndedBy, MayFly as FlyMay, position_alone, positions, served_by, whole_of}
use Rattle.ob_script.specs.Flights.{Alone, Entry, Together, trace_in}
use Rattle.ob_script.specs.Trace.{Served}
use Rattle.ob_shell.proofs.HowLemmas.{StartsApart}
use Rattle.ob_shell.proofs.PositionLemmas.{positions_alone_then}

-- ---- from a machine on
module _ {R : Type 0} where
  abbrev pub positions_at : Machine R → List Entry → List Position
  positions_at m entries = positions m.flights.words 0 (public_of m.engine) (asked_of m) entries

  abbrev pub trace_at : Machine R → List Entry → List Access
  trace_at m entries = trace_in m.flights.words 0 (public_of m.engine) entries

  abbrev pub most_at : Machine R → ℕ
  most_at m = most_flown m.flights.settings (public_of m.engine)

  -- so these statements are served, of which the first were answered
  pub record EntriesSo (m : Machine R) (entries : List Entry) (spelt : List Spelt) (seen last : List Served) : Type 0 where
    pub served : served_by entries ≡ seen ++ last
    pub are : AreEntries (most_at m) (length seen) entries
    pub gathers : AreGathered (most_at m) m.gathered.flown (positions_at m entries) spelt
    pub ended : All (λ (v : Position). EndedBy v.left v) (take (length seen) (positions_at m entries))
    pub starts : StartsApart (most_at m) (public_of m.engine) m.gathered.flown spelt

-- ---- entries
minus_one : (n : ℕ) → suc n - 1 ≡ n
minus_one n = omega arith

pub alone_are : (most n : ℕ) (x : Served) (entries : List Entry) → AreEntries most n entries → AreEntries most (suc n) (Alone x ∷ entries)
unfolding AreEntries
alone_are most n x entries are = (tt, inl (omega arith), subst (λ (k : ℕ). AreEntries most k entries) (sym (minus_one n)) are)

pub whole_alone : (n : ℕ) (x : Served) (entries : List Entry) → whole_of (suc n) (Alone x ∷ entries) ≡ Alone x ∷ whole_of n entries
unfolding whole_of
whole_alone n x entries =
    let fits : nat_le 1 (suc n) ≡ true = grind arith in
    ap (λ (b : Bool). if b then Alone x ∷ whole_of (suc n - 1) entries else []) fits ∙ ap (λ (k : ℕ). Alone x ∷ whole_of k entries) (minus_one n)

minus_more : (k n : ℕ) → (k + n) - k ≡ n
minus_more k n = omega arith

fits_more : (k n : ℕ) → nat_le k (k + n) ≡ true
fits_more k n = grind arith

pub whole_flown : (n : ℕ) (flown : List Served) (left : Option ℕ) (entries : List Entry) → whole_of (length flown + n) (Together flown left ∷ entries) ≡ Together flown left ∷ whole_of n entries
unfolding whole_of
whole_flown n flown left entries =
    ap (λ (b : Bool). if b then Together flown left ∷ whole_of ((length flown + n) - length flown) entries else []) (fits_more (length flown) n)
    ∙ ap (λ (k : ℕ). Together flown left ∷ whole_of k entries) (minus_more (length flown) n)

fits_less : (k n : ℕ) → n < k → nat_le k n ≡ false
fits_less k n less = grind arith

pub whole_left : (n : ℕ) (flown : List Served) (left : Option ℕ) → n < length flown → whole_of n (Together flown left ∷ []) ≡ []
unfolding whole_of
whole_left n flown left less = ap (λ (b : Bool). if b then Together flown left ∷ whole_of (n - length flown) [] else []) (fits_less (length flown) n less)

pub flown_are : (most n : ℕ) (flown : List Served) (entries : List Entry) → FlyMay most flown → AreEntries most n entries → AreEntries most (length flown + n) (Together flown None ∷ entries)
unfolding AreEntries
flown_are most n flown entries may are = ((may, omega arith), inl (omega arith), subst (λ (k : ℕ). AreEntries most k entries) (sym (minus_more (length flown) n)) are)

pub left_are : (most n k : ℕ) (flown : List Served) → FlyMay most flown → n < length flown → AreEntries most n (Together flown (Some k) ∷ [])
unfolding AreEntries
left_are most n k flown may less = ((may, less), inr refl, tt)

-- ---- from a machine on
module _ {R : Type 0} where
  -- no statement
  pub no_entries : (m : Machine R) → EntriesSo m [] [] [] []
  unfolding served_by AreEntries AreGathered
  no_entries m = record {
    served = refl;
    are = tt;
    gathers = tt;
    ended = All-nil (λ (v : Position). EndedBy v.left v);
    starts = tt;
  }

  pub none_refused : (m : Machine R) (at : ℕ) → EntriesSo m [] (Err at ∷ []) [] []
  unfolding served_by AreEntries AreGathered
  none_refused m at = record {
    served = refl;
    are = tt;
    gathers = tt;
    ended = All-nil (λ (v : Position). EndedBy v.left v);
    starts = tt;
  }

  -- one that was begun
  pub one_entry : (m : Machine R) (stmt : Stmt) (here : Seen) → place_now (most_at m) (public_of m.engine) m.gathered.flown (skeleton stmt) ≡ 0
      → EntriesSo m (Alone (record { skeleton = skeleton stmt; seen = here }) ∷ []) (Ok stmt ∷ []) [] (record { skeleton = skeleton stmt; seen = here } ∷ [])
  unfolding served_by AreEntries AreGathered positions
  one_entry m stmt here apart = record {
    served = refl;
    are = (tt, inr refl, tt);
    gathers = (sym apart, tt);
    ended = All-nil (λ (v : Position). EndedBy v.left v);
    starts = apart;
  }

  -- a text more that is no statement
  pub refused_entries : (m m1 : Machine R) (at : ℕ) (entries : List Entry) (spelt : List Spelt) (seen last : List Served) → m1.gathered.flown ≡ 0 → m1.flights ≡ m.flights → public_of m1.engine ≡ public_of m.engine → asked_of m1 ≡ asked_of m
      → EntriesSo m1 entries spelt seen last → EntriesSo m entries (Err at ∷ spelt) seen last
  unfolding AreGathered
  refused_entries m m1 at entries spelt seen last none flights public asked rest =
      let most : most_at m1 ≡ most_at m = λ i. most_flown (flights i).settings (public i) in
      let there : positions_at m1 entries ≡ positions_at m entries = λ i. positions (flights i).words 0 (public i) (asked i) entries in
      record {
        served = rest.served;
        are = subst (λ (k : ℕ). AreEntries k (length seen) entries) most rest.are;
        gathers =
            subst (λ (vs : List Position). AreGathered (most_at m) 0 vs spelt) there
            (subst (λ (k : ℕ). AreGathered k 0 (positions_at m1 entries) spelt) most (subst (λ (k : ℕ). AreGathered (most_at m1) k (positions_at m1 entries) spelt) none rest.gathers));
        ended = subst (λ (vs : List Position). All (λ (v : Position). EndedBy v.left v) (take (length seen) vs)) there rest.ended;
        starts = tt;
      }

  -- a statement more
  module _ (m m1 : Machine R) (stmt : Stmt) (here : Seen) (flights : m1.flights ≡ m.flights) (public : public_of m1.engine ≡ next (public_of m.engine) (skeleton stmt) here)
      (asked : asked_of m1 ≡ asked_of m + length (script (public_of m.engine) (skeleton stmt) here)) where
    abbrev x : Served
    x = record { skeleton = skeleton stmt; seen = here }

    pub most_alone : most_at m1 ≡ most_at m
    most_alone = λ i. most_flown (flights i).settings (public i)

    pub positions_more : (entries : List Entry) → positions_at m (Alone x ∷ entries) ≡ position_alone (public_of m.engine) (asked_of m) x ∷ positions_at m1 entries
    positions_more = positions_alone_then m.flights.words m1.flights.words (public_of m.engine) (public_of m1.engine) (asked_of m) (asked_of m1) x (ap (λ (f : Flights). f.words) flights) public asked

    pub alone_entries : (entries : List Entry) (spelt : List Spelt) (seen last : List Served) → place_now (most_at m) (public_of m.engine) m.gathered.flown (skeleton stmt) ≡ 0
        → m1.gathered.flown ≡ gathered_then (public_of m.engine) 0 (skeleton stmt) → EntriesSo m1 entries spelt seen last → EntriesSo m (Alone x ∷ entries) (Ok stmt ∷ spelt) (x ∷ seen) last
    unfolding AreGathered served_by
    alone_entries entries spelt seen last apart gathered rest =
        let there = sym (positions_more entries) in
        record {
          served = ap (λ (l : List Served). x ∷ l) rest.served;
          are = alone_are (most_at m) (length seen) x entries (subst (λ (k : ℕ). AreEntries k (length seen) entries) most_alone rest.are);
          gathers = subst (λ (vs : List Position). AreGathered (most_at m) m.gathered.flown vs (Ok stmt ∷ spelt)) there (
            sym apart,
            subst (λ (k : ℕ). AreGathered (most_at m) k (positions_at m1 entries) spelt) gathered (subst (λ (k : ℕ). AreGathered k m1.gathered.flown (positions_at m1 entries) spelt) most_alone rest.gathers),
          );
          ended = subst (λ (vs : List Position). All (λ (v : Position). EndedBy v.left v) (take (suc (length seen)) vs)) there
              (All-cons (λ (v : Position). EndedBy v.left v) (position_alone (public_of m.engine) (asked_of m) x) (take (length seen) (positions_at m1 entries)) tt rest.ended);
          starts = apart;
        }
