-- Which statements fly together follows from what is seen of them, and from which come right after a text that is none.
use Rattle.ob_headline.proofs.Words.{All, All-head, Answer, ap, AreEntries, AreSeen, arith, asked_by, Bool, cases_lt, drop, End, Err, false, FlightSettings, Gathering, gathering_after, get_back, get_front, headings_of, if◌then◌else◌, inl, inr, length, length-append, List, map, may_fly, most_of, nat_lt, next, None, not, Ok, Option, option_map_or, Public, refl, script, positions_of, Seen, seen_by, Served, Skeleton, slice_get, Some, SomeRun, Spelt, Stmt, subst, suc, sym, Table, tables_after, tables_then, take, true, Whole, zero, ℕ, [], ⊤, ◌&&◌, ◌++◌, ◌+◌, ◌-◌, ◌<◌, ◌∙◌, ◌∷◌, ◌≡◌, ◌≤◌}
use Rattle.std.proofs.Math.Seq.{take-length}
use Rattle.ob_base.specs.declared.skeleton.Skeleton.TheVariants as K
use Rattle.ob_base.specs.declared.skeleton.Source.TheVariants.{Table as OneTable, Join}
use Rattle.ob_headline.proofs.FlightPositions.{positions_get, positions_long}
use Rattle.ob_headline.proofs.RerunLemmas.{answered_all}
use Rattle.ob_headline.proofs.ServedAlone.{AreOf}
use Rattle.ob_headline.specs.Flights.{AreGathered, IsEntry, Position, gathered_then, most_flown, place_now, position_in_flight, position_alone, positions, positions_in_flight, served_by}
use Rattle.ob_headline.specs.Reruns.{GoOnFromOne, ShowTheSame, Stated, breaks_in, stated}
use Rattle.ob_headline.specs.Statements.{statements}
use Rattle.ob_mean.specs.Refusals.{is_index}
use Rattle.ob_script.specs.FlightLaws.{SelectsFromOne}
use Rattle.ob_script.specs.Flights.{Alone, Entry, Together, drawn, flight_accesses, next_flight, served_in, trace_in, turns_of, words_from}

-- ---- they are these statements
seen_are : (Leaves : Public → Stmt → Seen → Type 0) (positions : List Position) (g : Option Gathering) (spelt : List Spelt) (answers : List Answer) (seen : List Served) → AreSeen Leaves positions g spelt answers seen → AreOf spelt seen
unfolding AreSeen AreOf
seen_are Leaves positions g [] answers seen are = are
seen_are Leaves positions g (Err at ∷ spelt) [] seen are = seen_are Leaves positions None spelt [] seen are
seen_are Leaves positions g (Err at ∷ spelt) (one ∷ answers) seen are = seen_are Leaves positions None spelt answers seen are.1
seen_are Leaves positions g (Ok stmt ∷ spelt) [] [] are = absurd are
seen_are Leaves positions g (Ok stmt ∷ spelt) (one ∷ answers) [] are = absurd are
seen_are Leaves [] g (Ok stmt ∷ spelt) [] (x ∷ seen) are = absurd are
seen_are Leaves [] g (Ok stmt ∷ spelt) (one ∷ answers) (x ∷ seen) are = absurd are
seen_are Leaves (v ∷ positions) g (Ok stmt ∷ spelt) [] (x ∷ seen) are = (are.0, seen_are Leaves positions (gathering_after v.public v.asked g stmt x.seen.end) spelt [] seen are.2)
seen_are Leaves (v ∷ positions) g (Ok stmt ∷ spelt) (one ∷ answers) (x ∷ seen) are = (are.0, seen_are Leaves positions (gathering_after v.public v.asked g stmt x.seen.end) spelt answers seen are.3)

of_long : (spelt : List Spelt) (seen : List Served) → AreOf spelt seen → length seen ≡ length (statements spelt)
unfolding AreOf statements
of_long [] seen of = ap length of
of_long (Err at ∷ spelt) seen of = of_long spelt seen of
of_long (Ok stmt ∷ spelt) [] of = absurd of
of_long (Ok stmt ∷ spelt) (x ∷ seen) of = ap (λ (n : ℕ). suc n) (of_long spelt seen of.1)

-- ---- what was gathered before each, by which come after a text that is none
abbrev gap : Bool → ℕ → ℕ
gap apart g = if apart then 0 else g

unfoldable GatheredBy : (most g : ℕ) → List Position → List Bool → List Served → Type 0
GatheredBy most g vs bs [] = ⊤
GatheredBy most g [] bs (x ∷ xs) = ⊥
GatheredBy most g (v ∷ vs) [] (x ∷ xs) = ⊥
GatheredBy most g (v ∷ vs) (b ∷ bs) (x ∷ xs) = (v.place ≡ place_now most v.public (gap b g) x.skeleton) × GatheredBy most (gathered_then v.public v.place x.skeleton) vs bs xs

by_breaks : (most : ℕ) (apart : Bool) (g : ℕ) (vs : List Position) (spelt : List Spelt) (xs : List Served) → AreOf spelt xs → AreGathered most (gap apart g) vs spelt → GatheredBy most g vs (map (λ (t : Stated). t.apart) (stated true apart spelt)) xs
unfolding AreOf AreGathered GatheredBy stated
by_breaks most apart g vs [] xs of are = subst (λ (l : List Served). GatheredBy most g vs [] l) (sym of) tt
by_breaks most apart g vs (Err at ∷ spelt) xs of are = by_breaks most true g vs spelt xs of are
by_breaks most apart g vs (Ok stmt ∷ spelt) [] of are = absurd of
by_breaks most apart g [] (Ok stmt ∷ spelt) (x ∷ xs) of are = absurd are
by_breaks most apart g (v ∷ vs) (Ok stmt ∷ spelt) (x ∷ xs) of are = (
  are.0 ∙ ap (place_now most v.public (gap apart g)) (sym of.0),
  by_breaks most false (gathered_then v.public v.place x.skeleton) vs spelt xs of.1 (subst (λ (s : Skeleton). AreGathered most (gathered_then v.public v.place s) vs spelt) (sym of.0) are.1),
)

-- of the one after another
record GathersNext (most : ℕ) (u v : Position) (x y : Served) (bs : List Bool) (j : ℕ) : Type 0 where
  apart : Bool
  at : slice_get bs (suc j) ≡ Some apart
  place : v.place ≡ place_now most v.public (gap apart (gathered_then u.public u.place x.skeleton)) y.skeleton

gathered_at : (most g : ℕ) (vs : List Position) (bs : List Bool) (xs : List Served) (j : ℕ) (u v : Position) (x y : Served) → GatheredBy most g vs bs xs → slice_get vs j ≡ Some u → slice_get vs (suc j) ≡ Some v → slice_get xs j ≡ Some x → slice_get xs (suc j) ≡ Some y
    → GathersNext most u v x y bs j
unfolding GatheredBy
gathered_at most g vs bs [] j u v x y are a b c d = absurd (cc c)
gathered_at most g [] bs (z ∷ xs) j u v x y are a b c d = absurd are
gathered_at most g (w ∷ vs) [] (z ∷ xs) j u v x y are a b c d = absurd are
gathered_at most g (w ∷ vs) (o ∷ bs) (z ∷ []) zero u v x y are a b c d = absurd (cc d)
gathered_at most g (w ∷ []) (o ∷ bs) (z ∷ z1 ∷ xs) zero u v x y are a b c d = absurd are.1
gathered_at most g (w ∷ w1 ∷ vs) (o ∷ []) (z ∷ z1 ∷ xs) zero u v x y are a b c d = absurd are.1
gathered_at most g (w ∷ w1 ∷ vs) (o ∷ o1 ∷ bs) (z ∷ z1 ∷ xs) zero u v x y are a b c d =
    let first : w ≡ u = cc a in
    let second : w1 ≡ v = cc b in
    let one : z ≡ x = cc c in
    let two : z1 ≡ y = cc d in
    record { apart = o1; at = refl; place = ap (λ (s : Position). s.place) (sym second) ∙ are.1.0 ∙ (λ i. place_now most (second i).public (gap o1 (gathered_then (first i).public (first i).place (one i).skeleton)) (two i).skeleton) }
gathered_at most g (w ∷ vs) (o ∷ bs) (z ∷ xs) (suc j) u v x y are a b c d =
    let rest = gathered_at most (gathered_then w.public w.place z.skeleton) vs bs xs j u v x y are.1 a b c d in
    record { apart = rest.apart; at = rest.at; place = rest.place }

-- ---- which may fly hangs on tables alone
pub may_by : (p q : Public) (s : Skeleton) → p.tables ≡ q.tables → may_fly p s ≡ may_fly q s
may_by p q (K.Rows (OneTable table) columns) same = ap (λ (ts : List Table). not (is_index (headings_of ts) table)) same
may_by p q (K.Groups table columns key) same = ap (λ (ts : List Table). not (is_index (headings_of ts) table)) same
may_by p q other same = refl

pub selects_one : (p : Public) (s : Skeleton) → may_fly p s ≡ true → SelectsFromOne s
selects_one p (K.Rows (OneTable table) columns) may = tt
selects_one p (K.Groups table columns key) may = tt
selects_one p other may = absurd (cc may)

tables_stay : (p : Public) (s : Skeleton) (end : End) → tables_after p s ≡ p.tables → tables_then p s end ≡ p.tables
tables_stay p s Whole same = same
tables_stay p s other same = refl

-- a SELECT leaves them
pub selects_stay : (p : Public) (x : Served) → SelectsFromOne x.skeleton → (next p x.skeleton x.seen).tables ≡ p.tables
selects_stay p x selects = go x.skeleton selects
  where
    go : (s : Skeleton) → SelectsFromOne s → tables_then p s x.seen.end ≡ p.tables
    go (K.Rows (OneTable table) columns) selects = tables_stay p (K.Rows (OneTable table) columns) x.seen.end refl
    go (K.Groups table columns key) selects = tables_stay p (K.Groups table columns key) x.seen.end refl
    go (K.Rows (Join a b on equals) columns) selects = absurd selects
    go (K.Create table columns capacity shape) selects = absurd selects
    go (K.Insert table columns) selects = absurd selects
    go (K.Update table columns) selects = absurd selects
    go (K.Delete table) selects = absurd selects
    go (K.Drop table) selects = absurd selects

-- ---- one entry
abbrev size : Entry → ℕ
size e = length (served_in e)

module _ (words : ℕ → ℕ) (t : ℕ) (p : Public) (m : ℕ) where
  abbrev positions_in : Entry → List Position
  positions_in (Alone x) = position_alone p m x ∷ []
  positions_in (Together flown left) = positions_in_flight p m flown (words_from words t) left 0 (length flown)

  -- what is so after it
  abbrev turns_past : Entry → ℕ
  turns_past (Alone x) = t
  turns_past (Together flown left) = t + turns_of p flown

  abbrev public_past : Entry → Public
  public_past (Alone x) = next p x.skeleton x.seen
  public_past (Together flown left) = next_flight p flown (words_from words t)

  abbrev count_past : Entry → ℕ
  count_past (Alone x) = m + length (script p x.skeleton x.seen)
  count_past (Together flown left) = m + length (flight_accesses p flown left (words_from words t))

  abbrev rest_positions : Entry → List Entry → List Position
  rest_positions e es = positions words (turns_past e) (public_past e) (count_past e) es

  positions_is : (e : Entry) (es : List Entry) → positions words t p m (e ∷ es) ≡ positions_in e ++ rest_positions e es
  unfolding positions
  positions_is (Alone x) es = refl
  positions_is (Together flown left) es = refl

  positions_size : (e : Entry) → length (positions_in e) ≡ size e
  positions_size (Alone x) = refl
  positions_size (Together flown left) = positions_long p m flown (words_from words t) left 0 (length flown)

  -- the position at a place within it
  record PositionAt (i : ℕ) (vs : List Position) : Type 0 where
    position : Position
    at : slice_get vs i ≡ Some position
    place : position.place ≡ i
    tables : position.public.tables ≡ p.tables

  position_at : (e : Entry) (i : ℕ) → i < size e → PositionAt i (positions_in e)
  position_at (Alone x) zero less = record { position = position_alone p m x; at = refl; place = refl; tables = refl }
  position_at (Alone x) (suc i) less = absurd (omega (arith, less))
  position_at (Together flown left) i less = record {
    position = position_in_flight p m flown (words_from words t) left (0 + i);
    at = positions_get p m flown (words_from words t) left 0 (length flown) i less;
    place = omega arith;
    tables = refl;
  }

  position_front : (e : Entry) (es : List Entry) (i : ℕ) → i < size e → PositionAt i (positions words t p m (e ∷ es))
  position_front e es i less =
      let here = position_at e i less in
      let long = positions_size e in
      record {
        position = here.position;
        at = ap (λ (vs : List Position). slice_get vs i) (positions_is e es) ∙ get_front (positions_in e) (rest_positions e es) i (omega (arith, less, long)) ∙ here.at;
        place = here.place;
        tables = here.tables;
      }

has_one : (most n : ℕ) (e : Entry) → IsEntry most n e → 1 ≤ size e
has_one most n (Alone x) is = omega arith
has_one most n (Together flown None) is = let some = is.0.some in omega (arith, some)
has_one most n (Together flown (Some asked)) is = let some = is.0.some in omega (arith, some)

get_some : {A : Type 0} (xs : List A) (i : ℕ) → i < length xs → (x : A) × (slice_get xs i ≡ Some x)
get_some [] i less = absurd (omega (arith, less))
get_some (x ∷ xs) zero less = (x, refl)
get_some (x ∷ xs) (suc i) less = get_some xs i (omega (arith, less))

-- a larger flight has SELECTs alone
selects_of : (most k : ℕ) (f : Entry) → IsEntry most k f → 2 ≤ size f → All (λ (x : Served). SelectsFromOne x.skeleton) (served_in f)
selects_of most k (Alone x) is two = absurd (omega (arith, two))
selects_of most k (Together flown None) is two = is.0.select
selects_of most k (Together flown (Some asked)) is two = is.0.select

-- so a smaller entry in its place leaves the tables
past_stays : (words : ℕ → ℕ) (t : ℕ) (p : Public) (e : Entry) (es : List Served) (ys zs : List Served) → served_in e ++ es ≡ ys ++ zs → 1 ≤ length ys → All (λ (x : Served). SelectsFromOne x.skeleton) ys → (public_past words t p 0 e).tables ≡ p.tables
past_stays words t p (Together flown left) es ys zs same some selects = refl
past_stays words t p (Alone x) es [] zs same some selects = absurd (omega (arith, some))
past_stays words t p (Alone x) es (y ∷ ys) zs same some selects =
    let one : y ≡ x = cc (sym same) in
    selects_stay p x (subst (λ (z : Served). SelectsFromOne z.skeleton) one (All-head (λ (z : Served). SelectsFromOne z.skeleton) y ys selects))

same_place : (most : ℕ) (p q : Public) (g h : ℕ) (s : Skeleton) → may_fly p s ≡ may_fly q s → g ≡ h → place_now most p g s ≡ place_now most q h s
same_place most p q g h s may same = λ i. if may i && nat_lt (same i) most then same i else 0

same_then : (p q : Public) (g h : ℕ) (s : Skeleton) → may_fly p s ≡ may_fly q s → g ≡ h → gathered_then p g s ≡ gathered_then q h s
same_then p q g h s may same = λ i. if may i then same i + 1 else 0

-- no entry is smaller than another in its place
module _ (most : ℕ) (words : ℕ → ℕ) (t : ℕ) (p : Public) (m : ℕ) (e : Entry) (es : List Entry) (f : Entry) (fs : List Entry) (n k : ℕ) (are : AreEntries most n (e ∷ es)) (are_too : AreEntries most k (f ∷ fs))
    (same : served_by (e ∷ es) ≡ served_by (f ∷ fs)) (less : size e < size f) (g : ℕ) (bs : List Bool) (by : GatheredBy most g (positions words t p m (e ∷ es)) bs (served_by (e ∷ es))) (by_too : GatheredBy most g (positions words t p m (f ∷ fs)) bs (served_by (f ∷ fs))) where
  first_is : (n : ℕ) (l : List Entry) → AreEntries most n l → 1 ≤ length (served_by l) → (q : Public) (u c : ℕ) → PositionAt words u q c 0 (positions words u q c l)
  unfolding AreEntries served_by
  first_is n [] are some q u c = absurd (omega (arith, some))
  first_is n (h ∷ l) are some q u c = let one = has_one most n h are.0 in position_front words u q c h l 0 (omega (arith, one))

  conflict : ⊥
  unfolding AreEntries served_by
  conflict =
      let a : ℕ = size e in
      let j : ℕ = a - 1 in
      let one : 1 ≤ a = has_one most n e are.0 in
      let next_j : suc j ≡ a = omega (arith, one) in
      let xs : List Served = served_by (e ∷ es) in
      let whole : length xs ≡ a + length (served_by es) = length-append (served_in e) (served_by es) in
      let whole_too = length-append (served_in f) (served_by fs) in
      let long = ap length same in
      let more : 1 ≤ length (served_by es) = omega (arith, whole, whole_too, long, less) in
      let x = get_some xs j (omega (arith, whole, one)) in
      let y = get_some xs (suc j) (omega (arith, whole, more, next_j)) in
      let u = position_front words t p m e es j (omega (arith, one)) in
      let u_too = position_front words t p m f fs j (omega (arith, less)) in
      let v_too = position_front words t p m f fs (suc j) (omega (arith, less, next_j)) in
      let q : Public = public_past words t p m e in
      let first = first_is (n - a) es are.2 more q (turns_past words t p m e) (count_past words t p m e) in
      let positions_long_e = positions_size words t p m e in
      let back : slice_get (positions words t p m (e ∷ es)) (suc j) ≡ Some first.position =
      ap (λ (vs : List Position). slice_get vs (suc j)) (positions_is words t p m e es)
      ∙ get_back (positions_in words t p m e) (rest_positions words t p m e es) (suc j) (omega (arith, positions_long_e, next_j))
      ∙ ap (slice_get (rest_positions words t p m e es)) (omega (arith, positions_long_e, next_j)) ∙ first.at in
      let here = gathered_at most g (positions words t p m (e ∷ es)) bs xs j u.position first.position x.0 y.0 by u.at back x.1 y.1 in
      let there =
      gathered_at most g (positions words t p m (f ∷ fs)) bs xs j u_too.position v_too.position x.0 y.0 (subst (λ (l : List Served). GatheredBy most g (positions words t p m (f ∷ fs)) bs l) (sym same) by_too) u_too.at v_too.at x.1 y.1 in
      let stays : q.tables ≡ p.tables = past_stays words t p e (served_by es) (served_in f) (served_by fs) same (omega (arith, less)) (selects_of most k f are_too.0 (omega (arith, less, one))) in
      let apart : here.apart ≡ there.apart = let two = there.at in let first_at = here.at in cc (first_at, two) in
      let behind = same_then u.position.public u_too.position.public u.position.place u_too.position.place x.0.skeleton (may_by u.position.public u_too.position.public x.0.skeleton (u.tables ∙ sym u_too.tables)) (u.place ∙ sym u_too.place) in
      let place =
      same_place most first.position.public v_too.position.public (gap here.apart (gathered_then u.position.public u.position.place x.0.skeleton)) (gap there.apart (gathered_then u_too.position.public u_too.position.place x.0.skeleton)) y.0.skeleton
      (may_by first.position.public v_too.position.public y.0.skeleton (first.tables ∙ stays ∙ sym v_too.tables)) (λ i. gap (apart i) (behind i)) in
      let none : 0 ≡ suc j = sym first.place ∙ here.place ∙ place ∙ sym there.place ∙ v_too.place in
      omega (arith, none)

-- ---- entries of the same size are the same
split_both : (xs ys zs ws : List Served) → length xs ≡ length ys → xs ++ zs ≡ ys ++ ws → (xs ≡ ys) × (zs ≡ ws)
split_both [] [] zs ws long same = (refl, same)
split_both [] (y ∷ ys) zs ws long same = absurd (omega (arith, long))
split_both (x ∷ xs) [] zs ws long same = absurd (omega (arith, long))
split_both (x ∷ xs) (y ∷ ys) zs ws long same =
    let first : x ≡ y = cc same in
    let rest = split_both xs ys zs ws (omega (arith, long)) (cc same) in
    (λ i. first i ∷ rest.0 i, rest.1)

same_entry : (most n k : ℕ) (e f : Entry) → IsEntry most n e → IsEntry most k f → size e ≤ n → size f ≤ k → served_in e ≡ served_in f → e ≡ f
same_entry most n k (Alone x) (Alone y) is is_too all all_too same = let one : x ≡ y = cc same in ap Alone one
same_entry most n k (Alone x) (Together flown None) is is_too all all_too same = let long = ap length same in let some = is_too.0.some in absurd (omega (arith, long, some))
same_entry most n k (Alone x) (Together flown (Some asked)) is is_too all all_too same = let few = is_too.1 in absurd (omega (arith, few, all_too))
same_entry most n k (Together flown None) (Alone x) is is_too all all_too same = let long = ap length same in let some = is.0.some in absurd (omega (arith, long, some))
same_entry most n k (Together flown None) (Together others None) is is_too all all_too same = ap (λ (l : List Served). Together l None) same
same_entry most n k (Together flown None) (Together others (Some asked)) is is_too all all_too same = let few = is_too.1 in absurd (omega (arith, few, all_too))
same_entry most n k (Together flown (Some asked)) f is is_too all all_too same = let few = is.1 in absurd (omega (arith, few, all))

-- what is gathered after some
g_past : (g : ℕ) → List Position → List Served → ℕ
g_past g [] xs = g
g_past g (v ∷ vs) [] = g
g_past g (v ∷ vs) (x ∷ xs) = g_past (gathered_then v.public v.place x.skeleton) vs xs

gathered_past : (most g : ℕ) (vs ws : List Position) (bs : List Bool) (xs ys : List Served) → length vs ≡ length xs → GatheredBy most g (vs ++ ws) bs (xs ++ ys) → GatheredBy most (g_past g vs xs) ws (drop (length xs) bs) ys
unfolding GatheredBy g_past
gathered_past most g [] ws bs [] ys long by = by
gathered_past most g [] ws bs (x ∷ xs) ys long by = absurd (omega (arith, long))
gathered_past most g (v ∷ vs) ws bs [] ys long by = absurd (omega (arith, long))
gathered_past most g (v ∷ vs) ws [] (x ∷ xs) ys long by = absurd by
gathered_past most g (v ∷ vs) ws (b ∷ bs) (x ∷ xs) ys long by = gathered_past most (gathered_then v.public v.place x.skeleton) vs ws bs xs ys (omega (arith, long)) by.1

-- ---- all of them
no_entry : (most n : ℕ) (e : Entry) (es : List Entry) → AreEntries most n (e ∷ es) → [] ≡ served_by (e ∷ es) → ⊥
unfolding AreEntries served_by
no_entry most n e es are none =
    let long = ap length none in
    let one = has_one most n e are.0 in
    omega (arith, long, one, length-append (served_in e) (served_by es))

unique : (most : ℕ) (words : ℕ → ℕ) (es fs : List Entry) (t : ℕ) (p : Public) (m n k : ℕ) → AreEntries most n es → AreEntries most k fs → n ≡ length (served_by es) → k ≡ length (served_by fs) → served_by es ≡ served_by fs → (g : ℕ) (bs : List Bool)
    → GatheredBy most g (positions words t p m es) bs (served_by es) → GatheredBy most g (positions words t p m fs) bs (served_by fs) → es ≡ fs
unfolding AreEntries served_by
unique most words [] [] t p m n k are are_too all all_too same g bs by by_too = refl
unique most words [] (f ∷ fs) t p m n k are are_too all all_too same g bs by by_too = absurd (no_entry most k f fs are_too same)
unique most words (e ∷ es) [] t p m n k are are_too all all_too same g bs by by_too = absurd (no_entry most n e es are (sym same))
unique most words (e ∷ es) (f ∷ fs) t p m n k are are_too all all_too same g bs by by_too = elim (cases_lt (size e) (size f)) [
  | inl less ↦ absurd (conflict most words t p m e es f fs n k are are_too same less g bs by by_too)
  | inr past ↦ elim (cases_lt (size f) (size e)) [
    | inl less ↦ absurd (conflict most words t p m f fs e es k n are_too are (sym same) less g bs by_too by)
    | inr most_too ↦
        let whole = length-append (served_in e) (served_by es) in
        let whole_too = length-append (served_in f) (served_by fs) in
        let both = split_both (served_in e) (served_in f) (served_by es) (served_by fs) (omega (arith, past, most_too)) same in
        let one : e ≡ f = same_entry most n k e f are.0 are_too.0 (omega (arith, all, whole)) (omega (arith, all_too, whole_too)) both.0 in
        let here = gathered_past most g (positions_in words t p m e) (rest_positions words t p m e es) bs (served_in e) (served_by es) (positions_size words t p m e)
        (subst (λ (vs : List Position). GatheredBy most g vs bs (served_in e ++ served_by es)) (positions_is words t p m e es) by) in
        let there = gathered_past most g (positions_in words t p m f) (rest_positions words t p m f fs) bs (served_in f) (served_by fs) (positions_size words t p m f)
        (subst (λ (vs : List Position). GatheredBy most g vs bs (served_in f ++ served_by fs)) (positions_is words t p m f fs) by_too) in
        let there_too = subst (λ (h : Entry). GatheredBy most (g_past g (positions_in words t p m h) (served_in h)) (rest_positions words t p m h fs) (drop (length (served_in h)) bs) (served_by fs)) (sym one) there in
        let rest =
        unique most words es fs (turns_past words t p m e) (public_past words t p m e) (count_past words t p m e) (n - size e) (k - size f) are.2 are_too.2 (omega (arith, all, whole)) (omega (arith, all_too, whole_too)) both.1
        (g_past g (positions_in words t p m e) (served_in e)) (drop (length (served_in e)) bs) here there_too in
        λ i. one i ∷ rest i
  ]
]

-- ---- runs
-- of one that came to its end each statement was answered
module _ (one : SomeRun) (ended : one.report.status ≤ 1) where
  of : AreOf one.run.story.spelt (seen_by one)
  of = seen_are _ (positions_of one.base one.run.story.entries) None one.run.story.spelt one.run.story.answers (seen_by one) one.run.accesses.lawful

  all_seen : length one.run.story.seen ≡ length (served_by one.run.story.entries)
  all_seen =
      let each = answered_all one.run ended in
      let served : length one.run.story.served ≡ length one.run.story.spelt = omega (arith, each, one.run.statements.each) in
      let whole : take (length one.run.story.served) one.run.story.spelt ≡ one.run.story.spelt = ap (λ (n : ℕ). take n one.run.story.spelt) served ∙ take-length one.run.story.spelt in
      let seen = one.run.accesses.each_seen ∙ ap (λ (l : List Spelt). length (statements l)) whole in
      let all = of_long one.run.story.spelt (seen_by one) of in
      seen ∙ sym all ∙ ap length (sym one.run.accesses.entered.served)

  gathered : GatheredBy (most_of one.base) 0 (positions_of one.base one.run.story.entries) (breaks_in one.run.story.spelt) (served_by one.run.story.entries)
  gathered =
      subst (λ (xs : List Served). GatheredBy (most_of one.base) 0 (positions_of one.base one.run.story.entries) (breaks_in one.run.story.spelt) xs) (sym one.run.accesses.entered.served)
      (by_breaks (most_of one.base) false 0 (positions_of one.base one.run.story.entries) one.run.story.spelt (seen_by one) of one.run.accesses.entered.gathered)

abbrev words_by : Option FlightSettings → ℕ → ℕ
words_by flight = drawn (option_map_or (λ (f : FlightSettings). f.start) flight 0)

pub ask_by_entries : (a b : SomeRun) → GoOnFromOne a b → a.report.status ≤ 1 → b.report.status ≤ 1 → ShowTheSame a b → asked_by a ≡ asked_by b
ask_by_entries a b same ended ended_too show =
    let es : List Entry = a.run.story.entries in
    let fs : List Entry = b.run.story.entries in
    let served : served_by es ≡ served_by fs = a.run.accesses.entered.served ∙ show.seen ∙ sym b.run.accesses.entered.served in
    let there : GatheredBy (most_flown a.base.flight a.base.public) 0 (positions (words_by a.base.flight) 0 a.base.public a.base.count fs) (breaks_in a.run.story.spelt) (served_by fs) =
    subst (λ (bs : List Bool). GatheredBy (most_flown a.base.flight a.base.public) 0 (positions (words_by a.base.flight) 0 a.base.public a.base.count fs) bs (served_by fs)) (sym show.breaks)
    (subst (λ (m : ℕ). GatheredBy (most_flown a.base.flight a.base.public) 0 (positions (words_by a.base.flight) 0 a.base.public m fs) (breaks_in b.run.story.spelt) (served_by fs)) (sym same.count)
    (subst (λ (p : Public). GatheredBy (most_flown a.base.flight p) 0 (positions (words_by a.base.flight) 0 p b.base.count fs) (breaks_in b.run.story.spelt) (served_by fs)) (sym same.public)
    (subst (λ (o : Option FlightSettings). GatheredBy (most_flown o b.base.public) 0 (positions (words_by o) 0 b.base.public b.base.count fs) (breaks_in b.run.story.spelt) (served_by fs)) (sym show.flight) (gathered b ended_too)))) in
    let are_too : AreEntries (most_flown a.base.flight a.base.public) (length b.run.story.seen) fs =
    subst (λ (p : Public). AreEntries (most_flown a.base.flight p) (length b.run.story.seen) fs) (sym same.public)
    (subst (λ (o : Option FlightSettings). AreEntries (most_flown o b.base.public) (length b.run.story.seen) fs) (sym show.flight) b.run.accesses.entered.entries) in
    let one : es ≡ fs =
    unique (most_of a.base) (words_by a.base.flight) es fs 0 a.base.public a.base.count (length a.run.story.seen) (length b.run.story.seen) a.run.accesses.entered.entries are_too (all_seen a ended) (all_seen b ended_too) served 0 (breaks_in a.run.story.spelt)
    (gathered a ended) there in
    a.run.accesses.asked ∙ (λ i. same.before i ++ trace_in (words_by (show.flight i)) 0 (same.public i) (one i)) ∙ sym b.run.accesses.asked
