-- Texts are gathered to fly by their meaning as they are by the rule.
use Rattle.ob_headline.proofs.Words.{All, All-head, ap, append-nil, append_assoc, arith, Bool, Err, false, first_course, if◌then◌else◌, inl, inr, is_full_now, length, length-append, List, map, may_fly, meant_entries, nat_lt, nat_tests, next, None, Ok, Public, refl, script, Served, served, served_full, Session, Skeleton, skeleton, Spelt, Stmt, subst, sym, true, ℕ, [], ◌&&◌, ◌++◌, ◌+◌, ◌<◌, ◌∙◌, ◌∷◌, ◌≡◌, ◌≤◌, ◌⊎◌}
use Rattle.std.proofs.lemmas.List.{length-map}
use Rattle.std.proofs.lemmas.List.Elements.{All-append, All-cons, All-nil, All-tail}
use Rattle.ob_headline.proofs.SameEntries.{may_by, selects_one, selects_stay}
use Rattle.ob_headline.specs.Disturbed.{Course, behind_together, course_alone, course_now, course_with, entries_now, entries_with, flown_meant, gathering, landed, meant_together, now_alone, turns_then}
use Rattle.ob_headline.specs.Flights.{AreGathered, Position, gathered_then, place_now, positions, positions_in_flight}
use Rattle.ob_mean.specs.Replay as Hows
use Rattle.ob_script.specs.Flights.{Alone, Entry, flight_accesses, flight_public, words_from}

-- ---- one place
-- a flight begins after none that may go on with it
abbrev Fresh : (most g : ℕ) → Type 0
Fresh most g = (g ≡ 0) ⊎ (most ≤ g)

abbrev Flies : Public → Stmt → Type 0
Flies p stmt = may_fly p (skeleton stmt) ≡ true

place_first : (most g : ℕ) (p : Public) (s : Skeleton) → Fresh most g → 0 ≡ place_now most p g s
place_first most g p s fresh = go (may_fly p s) (nat_lt g most) refl
  where
    go : (flies less : Bool) → nat_lt g most ≡ less → 0 ≡ (if flies && less then g else 0)
    go false less is = refl
    go true false is = refl
    go true true is = elim fresh [ inl none ↦ sym none | inr over ↦ absurd (grind (arith, nat_tests, is, over)) ]

place_on : (most g : ℕ) (p : Public) (s : Skeleton) → may_fly p s ≡ true → g < most → g ≡ place_now most p g s
place_on most g p s flies less =
    let test : nat_lt g most ≡ true = grind (arith, nat_tests, less) in
    sym (λ i. if flies i && test i then g else 0)

place_alone : (most g : ℕ) (p : Public) (s : Skeleton) → may_fly p s ≡ false → 0 ≡ place_now most p g s
place_alone most g p s not = sym (λ i. if not i && nat_lt g most then g else 0)

then_one : (p : Public) (place : ℕ) (s : Skeleton) → may_fly p s ≡ true → place + 1 ≡ gathered_then p place s
then_one p place s flies = sym (λ i. if flies i then place + 1 else 0)

then_none : (p : Public) (place : ℕ) (s : Skeleton) → may_fly p s ≡ false → 0 ≡ gathered_then p place s
then_none p place s not = sym (λ i. if not i then place + 1 else 0)

-- ---- those that fly together
module _ (most : ℕ) where
  aloft : (p : Public) (m : ℕ) (flown : List Served) (words : ℕ → ℕ) (i : ℕ) (ws : List Stmt) (vs : List Position) (more : List Spelt) → All (Flies p) ws → i + length ws ≤ most → AreGathered most (i + length ws) vs more
      → AreGathered most i (positions_in_flight p m flown words None i (length ws) ++ vs) (map Ok ws ++ more)
  unfolding AreGathered positions_in_flight
  aloft p m flown words i [] vs more fly few rest = let same : i + 0 ≡ i = omega arith in subst (λ (n : ℕ). AreGathered most n vs more) same rest
  aloft p m flown words i (w ∷ ws) vs more fly few rest =
      let q = flight_public (length flown) p in
      let flies : may_fly q (skeleton w) ≡ true = may_by q p (skeleton w) refl ∙ All-head (Flies p) w ws fly in
      let count : i + length (w ∷ ws) ≡ (i + 1) + length ws = omega arith in (
        place_on most i q (skeleton w) flies (omega (arith, few)),
        subst (λ (n : ℕ). AreGathered most n (positions_in_flight p m flown words None (i + 1) (length ws) ++ vs) (map Ok ws ++ more)) (then_one q i (skeleton w) flies)
            (aloft p m flown words (i + 1) ws vs more (All-tail (Flies p) w ws fly) (omega (arith, few)) (subst (λ (n : ℕ). AreGathered most n vs more) count rest)),
      )

  abbrev count_then : (g : ℕ) → List Stmt → ℕ
  count_then g [] = g
  count_then g (w ∷ ws) = length (w ∷ ws)

  together : (words : ℕ → ℕ) (s : Session) (t m g : ℕ) (ws : List Stmt) (es : List Entry) (more : List Spelt) → Fresh most g → All (Flies s.public) ws → length ws ≤ most
      → ((n : ℕ) → AreGathered most (count_then g ws) (positions words (turns_then t s ws) (behind_together (words_from words t) s ws).public n es) more)
      → AreGathered most g (positions words t s.public m (meant_together s ws ++ es)) (map Ok ws ++ more)
  unfolding AreGathered positions positions_in_flight
  together words s t m g [] es more fresh fly few rest = rest m
  together words s t m g (w ∷ []) es more fresh fly few rest =
      let x = served Hows.Alone s w in
      let asked = m + length (script s.public x.skeleton x.seen) in (
        place_first most g s.public (skeleton w) fresh,
        subst (λ (n : ℕ). AreGathered most n (positions words t (next s.public x.skeleton x.seen) asked es) more) (then_one s.public 0 (skeleton w) (All-head (Flies s.public) w [] fly)) (rest asked),
      )
  together words s t m g (w ∷ x ∷ ws) es more fresh fly few rest =
      let flown = flown_meant s (w ∷ x ∷ ws) in
      let q = flight_public (length flown) s.public in
      let long : length flown ≡ length (w ∷ x ∷ ws) = length-map (w ∷ x ∷ ws) _ in
      let flies : may_fly q (skeleton w) ≡ true = may_by q s.public (skeleton w) refl ∙ All-head (Flies s.public) w (x ∷ ws) fly in
      let count : length (w ∷ x ∷ ws) ≡ 1 + length (x ∷ ws) = omega arith in
      let asked = m + length (flight_accesses s.public flown None (words_from words t)) in
      let vs = positions words (turns_then t s (w ∷ x ∷ ws)) (behind_together (words_from words t) s (w ∷ x ∷ ws)).public asked es in
      subst (λ (n : ℕ). AreGathered most g (positions_in_flight s.public m flown (words_from words t) None 0 n ++ vs) (map Ok (w ∷ x ∷ ws) ++ more)) (sym long) (
        place_first most g q (skeleton w) fresh,
        subst (λ (n : ℕ). AreGathered most n (positions_in_flight s.public m flown (words_from words t) None (0 + 1) (length (x ∷ ws)) ++ vs) (map Ok (x ∷ ws) ++ more)) (then_one q 0 (skeleton w) flies)
            (aloft s.public m flown (words_from words t) 1 (x ∷ ws) vs more (All-tail (Flies s.public) w (x ∷ ws) fly) (omega (arith, few)) (subst (λ (n : ℕ). AreGathered most n vs more) count (rest asked))),
      )

-- SELECTs leave the tables
together_tables : (words : ℕ → ℕ) (s : Session) (ws : List Stmt) → All (Flies s.public) ws → (behind_together words s ws).public.tables ≡ s.public.tables
together_tables words s [] fly = refl
together_tables words s (w ∷ []) fly = selects_stay s.public (served Hows.Alone s w) (selects_one s.public (skeleton w) (All-head (Flies s.public) w [] fly))
together_tables words s (w ∷ x ∷ ws) fly = refl

ok_more : (ws : List Stmt) (stmt : Stmt) (more : List Spelt) → map Ok (ws ++ stmt ∷ []) ++ more ≡ map Ok ws ++ (Ok stmt ∷ more)
ok_more [] stmt more = refl
ok_more (w ∷ ws) stmt more = ap (λ (l : List Spelt). Ok w ∷ l) (ok_more ws stmt more)

count_some : (most g : ℕ) (ws : List Stmt) (stmt : Stmt) → count_then most g (ws ++ stmt ∷ []) ≡ length ws + 1
count_some most g [] stmt = refl
count_some most g (w ∷ ws) stmt = let all = length-append ws (stmt ∷ []) in omega (arith, all)

-- ---- all of them
-- the texts that are served by their meaning: those before one that meets a full stash
unfoldable pub served_texts : (most : ℕ) → (words : ℕ → ℕ) → Course → List Spelt → List Spelt
served_texts most words c [] = []
served_texts most words c (Err at ∷ spelt) = Err at ∷ served_texts most words (record (landed words c) { batch = None }) spelt
served_texts most words c (Ok stmt ∷ spelt) =
    if is_full_now (landed words c).session stmt then [] else Ok stmt ∷ served_texts most words (course_now most words c stmt) spelt

module _ (most : ℕ) (some : 1 ≤ most) (words : ℕ → ℕ) where
  -- from a course on
  abbrev Agree : (g : ℕ) → Course → List Entry → List Spelt → Type 0
  Agree g c es more = (m : ℕ) → AreGathered most g (positions words c.turns c.session.public m es) more

  abbrev Follows : List Spelt → Type 0
  Follows spelt = (c : Course) (g : ℕ) → Fresh most g → All (Flies c.session.public) c.waiting → length c.waiting < most → Agree g c (meant_entries most words c spelt) (map Ok c.waiting ++ served_texts most words c spelt)

  module _ (spelt : List Spelt) (follows : Follows spelt) (c : Course) (stmt : Stmt) (g : ℕ) (fresh : Fresh most g) (fly : All (Flies c.session.public) c.waiting) (few : length c.waiting < most) where
    abbrev After : (flies : Bool) → Course
    After flies = if flies then course_with most words c stmt else course_alone (landed words c) stmt

    alone_then : may_fly c.session.public (skeleton stmt) ≡ false → Agree g c ((meant_together c.session c.waiting ++ Alone (now_alone (landed words c) stmt) ∷ []) ++ meant_entries most words (After false) spelt) (map Ok c.waiting ++ Ok stmt ∷ served_texts most words (After false) spelt)
    unfolding AreGathered positions
    alone_then not m =
        let x = now_alone (landed words c) stmt in
        let y : Entry = Alone x in
        let q = (landed words c).session.public in
        let rest = meant_entries most words (After false) spelt in
        let more = served_texts most words (After false) spelt in
        let off : may_fly q (skeleton stmt) ≡ false = may_by q c.session.public (skeleton stmt) (together_tables (words_from words c.turns) c.session c.waiting fly) ∙ not in
        subst (λ (es : List Entry). AreGathered most g (positions words c.turns c.session.public m es) (map Ok c.waiting ++ Ok stmt ∷ more)) (sym (append_assoc (meant_together c.session c.waiting) (y ∷ []) rest))
        (together most words c.session c.turns m g c.waiting (y ∷ rest) (Ok stmt ∷ more) fresh fly (omega (arith, few)) (λ n. (
          place_alone most (count_then most g c.waiting) q (skeleton stmt) off,
          (let asked = n + length (script q x.skeleton x.seen) in
              subst (λ (k : ℕ). AreGathered most k (positions words (After false).turns (After false).session.public asked rest) more) (then_none q 0 (skeleton stmt) off)
              (follows (After false) 0 (inl refl) (All-nil (Flies (After false).session.public)) (omega (arith, some)) asked)),
        )))

    with_then : (less : Bool) → nat_lt (length c.waiting + 1) most ≡ less → may_fly c.session.public (skeleton stmt) ≡ true
        → Agree g c ((if less then [] else meant_together c.session (c.waiting ++ stmt ∷ [])) ++ meant_entries most words (if less then gathering stmt c else landed words (gathering stmt c)) spelt)
        (map Ok c.waiting ++ Ok stmt ∷ served_texts most words (if less then gathering stmt c else landed words (gathering stmt c)) spelt)
    with_then less is flies m = go less is
      where
        ws : List Stmt
        ws = c.waiting ++ stmt ∷ []

        all : All (Flies c.session.public) (c.waiting ++ stmt ∷ [])
        all = All-append (Flies c.session.public) c.waiting (stmt ∷ []) fly (All-cons (Flies c.session.public) stmt [] flies (All-nil (Flies c.session.public)))

        long : length (c.waiting ++ stmt ∷ []) ≡ length c.waiting + 1
        long = length-append c.waiting (stmt ∷ [])

        go : (less : Bool) → nat_lt (length c.waiting + 1) most ≡ less
            → AreGathered most g (positions words c.turns c.session.public m ((if less then [] else meant_together c.session (c.waiting ++ stmt ∷ [])) ++ meant_entries most words (if less then gathering stmt c else landed words (gathering stmt c)) spelt))
            (map Ok c.waiting ++ Ok stmt ∷ served_texts most words (if less then gathering stmt c else landed words (gathering stmt c)) spelt)
        go true is =
            let d = gathering stmt c in
            subst (λ (l : List Spelt). AreGathered most g (positions words c.turns c.session.public m (meant_entries most words d spelt)) l) (ok_more c.waiting stmt (served_texts most words d spelt))
            (follows d g fresh all (grind (arith, nat_tests, is, long)) m)
        go false is =
            let d = landed words (gathering stmt c) in
            let over : most ≤ length c.waiting + 1 = grind (arith, nat_tests, is) in
            let count = count_some most g c.waiting stmt in
            subst (λ (l : List Spelt). AreGathered most g (positions words c.turns c.session.public m (meant_together c.session (c.waiting ++ stmt ∷ []) ++ meant_entries most words d spelt)) l) (ok_more c.waiting stmt (served_texts most words d spelt))
            (together most words c.session c.turns m g (c.waiting ++ stmt ∷ []) (meant_entries most words d spelt) (served_texts most words d spelt) fresh all (omega (arith, few, long))
            (λ n. follows d (count_then most g (c.waiting ++ stmt ∷ [])) (inr (omega (arith, over, count))) (All-nil (Flies d.session.public)) (omega (arith, some)) n))

    now_then : (flies : Bool) → may_fly c.session.public (skeleton stmt) ≡ flies
        → Agree g c ((if flies then entries_with most c stmt else meant_together c.session c.waiting ++ Alone (now_alone (landed words c) stmt) ∷ []) ++ meant_entries most words (After flies) spelt) (map Ok c.waiting ++ Ok stmt ∷ served_texts most words (After flies) spelt)
    now_then true is = with_then (nat_lt (length c.waiting + 1) most) refl is
    now_then false is = alone_then is

  gathers : (spelt : List Spelt) → Follows spelt
  unfolding AreGathered meant_entries served_texts
  gathers [] c g fresh fly few m =
      subst (λ (es : List Entry). AreGathered most g (positions words c.turns c.session.public m es) (map Ok c.waiting ++ [])) (append-nil (meant_together c.session c.waiting))
      (together most words c.session c.turns m g c.waiting [] [] fresh fly (omega (arith, few)) (λ n. tt))
  gathers (Err at ∷ spelt) c g fresh fly few m =
      let d : Course = record (landed words c) { batch = None } in
      together most words c.session c.turns m g c.waiting (meant_entries most words d spelt) (Err at ∷ served_texts most words d spelt) fresh fly (omega (arith, few))
      (λ n. gathers spelt d 0 (inl refl) (All-nil (Flies d.session.public)) (omega (arith, some)) n)
  gathers (Ok stmt ∷ spelt) c g fresh fly few m =
      elim (is_full_now (landed words c).session stmt) as (λ (full : Bool).
      AreGathered most g (positions words c.turns c.session.public m (if full then meant_together c.session c.waiting ++ Alone (served_full (landed words c).session stmt) ∷ [] else entries_now most words c stmt ++ meant_entries most words (course_now most words c stmt) spelt))
      (map Ok c.waiting ++ (if full then [] else Ok stmt ∷ served_texts most words (course_now most words c stmt) spelt))) [
        | true ↦ together most words c.session c.turns m g c.waiting (Alone (served_full (landed words c).session stmt) ∷ []) [] fresh fly (omega (arith, few)) (λ n. tt)
        | false ↦ now_then spelt (gathers spelt) c stmt g fresh fly few (may_fly c.session.public (skeleton stmt)) refl m
      ]

  -- the places of the positions of entries that are meant are as the rule says
  pub meant_is_gathered : (s : Session) (m : ℕ) (spelt : List Spelt)
      → AreGathered most 0 (positions words 0 s.public m (meant_entries most words (first_course s) spelt)) (served_texts most words (first_course s) spelt)
  meant_is_gathered s m spelt = gathers spelt (first_course s) 0 (inl refl) (All-nil (Flies s.public)) (omega (arith, some)) m
