-- What texts mean of which the first fly together.
use Rattle.ob_shell.proofs.Words.{All, All-cons, All-head, All-nil, All-tail, ap, append-nil, append_assoc, arith, Bool, Err, false, Gathering, headings, headings_of, if◌then◌else◌, is_full_now, length, length-append, List, map, may_fly, nat_lt, None, Ok, Option, place_now, refl, Session, Skeleton, skeleton, Spelt, Stmt, subst, suc, sym, true, turns_of, ℕ, [], ◌&&◌, ◌++◌, ◌+◌, ◌<◌, ◌∙◌, ◌∷◌, ◌≡◌, ◌≤◌}
use Rattle.ob_headline.specs.Disturbed.{Course, behind_flown, course_alone, course_now, course_with, entries_now, entries_with, flown_meant, gathering, landed, meant_entries, meant_together, now_alone}
use Rattle.ob_mean.specs.Replay.{Alone, seen_now, served_full}
use Rattle.ob_script.specs.Flights.{Alone as One, Entry, Together, merge, trace_in, words_from}
use Rattle.ob_shell.proofs.HowLemmas.{StartsApart, course_of, flushed, may_by, met_trace, then_select}
use Rattle.ob_shell.proofs.PositionLemmas.{plus, trace_flown_then, words_later, words_whole}
use Rattle.ob_shell.proofs.SelectLemmas.{leaves_all, room_flown}

-- ---- after turns that were drawn
abbrev later : (u : ℕ) → Course → Course
later u c = record c { turns = u + c.turns }

module _ (words : ℕ → ℕ) (u : ℕ) where
  landed_by : (t : ℕ) (s : Session) (g : Option Gathering) (w : List Stmt) → landed words (record { turns = u + t; session = s; batch = g; waiting = w }) ≡ later u (landed (words_from words u) (record { turns = t; session = s; batch = g; waiting = w }))
  landed_by t s g [] = refl
  landed_by t s g (stmt ∷ []) = refl
  landed_by t s g (stmt ∷ (next ∷ more)) =
      let flown = flown_meant s (stmt ∷ (next ∷ more)) in
      λ i. record { turns = plus u t (turns_of s.public flown) i; session = behind_flown (words_later words u t i) s flown; batch = g; waiting = [] }

  landed_later : (c : Course) → landed words (later u c) ≡ later u (landed (words_from words u) c)
  landed_later c = landed_by c.turns c.session c.batch c.waiting

  module _ (most : ℕ) (c : Course) (stmt : Stmt) where
    with_later : (few : Bool) → (if few then gathering stmt (later u c) else landed words (gathering stmt (later u c))) ≡ later u (if few then gathering stmt c else landed (words_from words u) (gathering stmt c))
    with_later true = refl
    with_later false = landed_by c.turns c.session None (c.waiting ++ stmt ∷ [])

    now_later : (flies : Bool) → (if flies then course_with most words (later u c) stmt else course_alone (landed words (later u c)) stmt) ≡ later u (if flies then course_with most (words_from words u) c stmt else course_alone (landed (words_from words u) c) stmt)
    now_later true = with_later (nat_lt (length c.waiting + 1) most)
    now_later false = λ i. course_alone (landed_later c i) stmt

    course_later : course_now most words (later u c) stmt ≡ later u (course_now most (words_from words u) c stmt)
    course_later = now_later (may_fly c.session.public (skeleton stmt))

  entries_later : (most : ℕ) (c : Course) (spelt : List Spelt) → meant_entries most words (later u c) spelt ≡ meant_entries most (words_from words u) c spelt
  unfolding meant_entries
  entries_later most c [] = refl
  entries_later most c (Err at ∷ spelt) =
      let first = meant_together c.session c.waiting in
      (λ i. first ++ meant_entries most words (record (landed_later c i) { batch = None }) spelt)
      ∙ ap (λ (l : List Entry). first ++ l) (entries_later most (record (landed (words_from words u) c) { batch = None }) spelt)
  entries_later most c (Ok stmt ∷ spelt) =
      (λ i. all (landed_later c i) (meant_entries most words (course_later most c stmt i) spelt))
      ∙ ap (λ (l : List Entry). all (landed (words_from words u) c) l) (entries_later most (course_now most (words_from words u) c stmt) spelt)
    where
      -- from these that have landed, and then these
      all : Course → List Entry → List Entry
      all x behind =
          if is_full_now x.session stmt
          then meant_together c.session c.waiting ++ One (served_full x.session stmt) ∷ []
          else (if may_fly c.session.public (skeleton stmt) then entries_with most c stmt else meant_together c.session c.waiting ++ One (now_alone x stmt) ∷ []) ++ behind

-- ---- statements that are gathered to fly
room_for : (n most : ℕ) → n < most → nat_lt n most ≡ true
room_for n most less = grind arith

module _ (most : ℕ) (words : ℕ → ℕ) (s : Session) (listed : headings s.tables ≡ headings_of s.public.tables) where
  abbrev waits : Option Gathering → List Stmt → Course
  waits g w = record { turns = 0; session = s; batch = g; waiting = w }

  abbrev Flies : Stmt → Type 0
  Flies stmt = may_fly s.public (skeleton stmt) ≡ true

  -- the tables of those that are public are the same once they have landed
  tables_landed : (g : Option Gathering) (w : List Stmt) → All Flies w → (landed words (waits g w)).session.public.tables ≡ s.public.tables
  tables_landed g [] all = refl
  tables_landed g (one ∷ []) all = then_select s.public (skeleton one) (seen_now s one).end (All-head Flies one [] all)
  tables_landed g (one ∷ (next ∷ more)) all = refl

  held_landed : (g : Option Gathering) (w : List Stmt) → All Flies w → (landed words (waits g w)).session.tables ≡ s.tables
  held_landed g [] all = refl
  held_landed g (one ∷ []) all = (leaves_all Alone s one tt listed (All-head Flies one [] all)).tables
  held_landed g (one ∷ (next ∷ more)) all = refl

  -- none meets a full stash
  room_behind : (g : Option Gathering) (w : List Stmt) (stmt : Stmt) → All Flies w → Flies stmt → is_full_now (landed words (waits g w)).session stmt ≡ false
  room_behind g w stmt all fly =
      let there = (landed words (waits g w)).session in
      let public = tables_landed g w all in
      room_flown there.public there.asked there.tables (ap headings (held_landed g w all) ∙ listed ∙ ap headings_of (sym public)) stmt (may_by s.public there.public (skeleton stmt) public ∙ fly) there.draws

  -- one more of them
  next_one : (g : Option Gathering) (w : List Stmt) (stmt : Stmt) (spelt : List Spelt) → All Flies w → Flies stmt → (few : Bool) → nat_lt (length w + 1) most ≡ few
      → meant_entries most words (waits g w) (Ok stmt ∷ spelt)
      ≡ (if few then [] else meant_together s (w ++ stmt ∷ [])) ++ meant_entries most words (if few then waits None (w ++ stmt ∷ []) else landed words (waits None (w ++ stmt ∷ []))) spelt
  unfolding meant_entries
  next_one g w stmt spelt all fly few is =
      let c = waits g w in
      let full = room_behind g w stmt all fly in
      (λ i. if full i then meant_together s w ++ One (served_full (landed words c).session stmt) ∷ [] else entries_now most words c stmt ++ meant_entries most words (course_now most words c stmt) spelt)
      ∙ (λ i. (if fly i then (if is i then [] else meant_together s (w ++ stmt ∷ [])) else meant_together s w ++ One (now_alone (landed words c) stmt) ∷ [])
      ++ meant_entries most words (if fly i then (if is i then gathering stmt c else landed words (gathering stmt c)) else course_alone (landed words c) stmt) spelt)

  -- the next one after them doesn't fly with them
  off_by : (n : ℕ) (sk : Skeleton) → 1 ≤ n → n < most → place_now most s.public n sk ≡ 0 → (b : Bool) → may_fly s.public sk ≡ b → b ≡ false
  off_by n sk some less none false is = refl
  off_by n sk some less none true is =
      let room = room_for n most less in
      let here : place_now most s.public n sk ≡ n = (λ i. if is i && room i then n else 0) in
      absurd (omega (arith, here, none, some))

  none_with : (w : List Stmt) (spelt : List Spelt) → All Flies w → 1 ≤ length w → length w < most → StartsApart most s.public (length w) spelt → (stmt : Stmt) (rest : List Spelt) → spelt ≡ Ok stmt ∷ rest
      → (may_fly s.public (skeleton stmt) ≡ false) × (may_fly (landed words (waits None w)).session.public (skeleton stmt) ≡ false)
  none_with w spelt all some less apart stmt rest is =
      let at : place_now most s.public (length w) (skeleton stmt) ≡ 0 = subst (λ (l : List Spelt). StartsApart most s.public (length w) l) is apart in
      let off : may_fly s.public (skeleton stmt) ≡ false = off_by (length w) (skeleton stmt) some less at (may_fly s.public (skeleton stmt)) refl in
      (off, may_by s.public (landed words (waits None w)).session.public (skeleton stmt) (tables_landed None w all) ∙ off)

  all_more : (w : List Stmt) (stmt : Stmt) → All Flies w → Flies stmt → All Flies (w ++ stmt ∷ [])
  all_more [] stmt all fly = All-cons Flies stmt [] fly (All-nil Flies)
  all_more (x ∷ w) stmt all fly = All-cons Flies x (w ++ stmt ∷ []) (All-head Flies x w all) (all_more w stmt (All-tail Flies x w all) fly)

  -- they fly with those that wait
  with_them : (w stmts : List Stmt) (spelt : List Spelt) → All Flies w → All Flies stmts → 1 ≤ length w → length w < most → length w + length stmts ≤ most → StartsApart most s.public (length w + length stmts) spelt
      → meant_entries most words (waits None w) (map Ok stmts ++ spelt) ≡ meant_together s (w ++ stmts) ++ meant_entries most words (landed words (waits None (w ++ stmts))) spelt
  with_them w [] spelt all flies some less few apart =
      let same : w ≡ w ++ [] = sym (append-nil w) in
      let long : length w + 0 ≡ length w = omega arith in
      flushed most words (waits None w) spelt (none_with w spelt all some less (subst (λ (n : ℕ). StartsApart most s.public n spelt) long apart))
      ∙ (λ i. meant_together s (same i) ++ meant_entries most words (landed words (waits None (same i))) spelt)
  with_them w (stmt ∷ stmts) spelt all flies some less few apart = go (λ more least. with_them (w ++ stmt ∷ []) stmts spelt (all_more w stmt all own) (All-tail Flies stmt stmts flies) more least) (nat_lt (length w + 1) most) refl
    where
      own : Flies stmt
      own = All-head Flies stmt stmts flies

      there : List Stmt
      there = w ++ stmt ∷ []

      long : length (w ++ stmt ∷ []) ≡ length w + 1
      long = length-append w (stmt ∷ [])

      last : (rest : List Stmt) → length w + 1 + length rest ≤ most → most ≤ length w + 1
          → meant_together s there ++ meant_entries most words (landed words (waits None there)) (map Ok rest ++ spelt) ≡ meant_together s (w ++ (stmt ∷ rest)) ++ meant_entries most words (landed words (waits None (w ++ (stmt ∷ rest)))) spelt
      last [] within all_in = refl
      last (x ∷ rest) within all_in = absurd (omega (arith, within, all_in))

      go : (1 ≤ length (w ++ stmt ∷ []) → length (w ++ stmt ∷ []) < most → length (w ++ stmt ∷ []) + length stmts ≤ most → StartsApart most s.public (length (w ++ stmt ∷ []) + length stmts) spelt
          → meant_entries most words (waits None (w ++ stmt ∷ [])) (map Ok stmts ++ spelt) ≡ meant_together s ((w ++ stmt ∷ []) ++ stmts) ++ meant_entries most words (landed words (waits None ((w ++ stmt ∷ []) ++ stmts))) spelt)
          → (b : Bool) → nat_lt (length w + 1) most ≡ b → meant_entries most words (waits None w) (map Ok (stmt ∷ stmts) ++ spelt) ≡ meant_together s (w ++ (stmt ∷ stmts)) ++ meant_entries most words (landed words (waits None (w ++ (stmt ∷ stmts)))) spelt
      go deep true is =
          let same : (w ++ stmt ∷ []) ++ stmts ≡ w ++ (stmt ∷ stmts) = append_assoc w (stmt ∷ []) stmts in
          let more : length w + 1 < most = grind (arith, is) in
          let sum : length w + suc (length stmts) ≡ length (w ++ stmt ∷ []) + length stmts = omega (arith, long) in
          next_one None w stmt (map Ok stmts ++ spelt) all own true is
          ∙ deep (omega (arith, long)) (omega (arith, long, more)) (omega (arith, long, few)) (subst (λ (n : ℕ). StartsApart most s.public n spelt) sum apart)
          ∙ (λ i. meant_together s (same i) ++ meant_entries most words (landed words (waits None (same i))) spelt)
      go deep false is =
          let over : most ≤ length w + 1 = grind (arith, is) in
          next_one None w stmt (map Ok stmts ++ spelt) all own false is ∙ last stmts (omega (arith, few)) over

  flown_first : (g : Option Gathering) (stmt : Stmt) (stmts : List Stmt) (spelt : List Spelt) → All Flies (stmt ∷ stmts) → 1 ≤ length stmts → 1 + length stmts ≤ most → StartsApart most s.public (1 + length stmts) spelt
      → meant_entries most words (course_of s g) (map Ok (stmt ∷ stmts) ++ spelt) ≡ meant_together s (stmt ∷ stmts) ++ meant_entries most words (landed words (waits None (stmt ∷ stmts))) spelt
  flown_first g stmt stmts spelt flies some few apart =
      let own = All-head Flies stmt stmts flies in
      let rest = All-tail Flies stmt stmts flies in
      next_one g [] stmt (map Ok stmts ++ spelt) (All-nil Flies) own true (room_for (0 + 1) most (omega (arith, some, few)))
      ∙ with_them (stmt ∷ []) stmts spelt (All-cons Flies stmt [] own (All-nil Flies)) rest (omega arith) (omega (arith, some, few)) (omega (arith, few)) apart

  -- ---- what they ask, and the others after them
  module _ (words1 : ℕ → ℕ) (s1 : Session) where
    behind_them : (g : Option Gathering) (stmt next : Stmt) (more : List Stmt) (spelt : List Spelt) → All Flies (stmt ∷ (next ∷ more)) → length (stmt ∷ (next ∷ more)) ≤ most → StartsApart most s.public (length (stmt ∷ (next ∷ more))) spelt
        → words1 ≡ words_from words (turns_of s.public (flown_meant s (stmt ∷ (next ∷ more)))) → s1 ≡ behind_flown words s (flown_meant s (stmt ∷ (next ∷ more)))
        → met_trace most words g s (map Ok (stmt ∷ (next ∷ more)) ++ spelt) ≡ merge s.public (flown_meant s (stmt ∷ (next ∷ more))) words ++ met_trace most words1 None s1 spelt
    behind_them g stmt next more spelt flies few apart same is =
        let flown = flown_meant s (stmt ∷ (next ∷ more)) in
        let u = turns_of s.public flown in
        let turned : 0 + u ≡ u + 0 = omega arith in
        let one : 1 + length (next ∷ more) ≡ length (stmt ∷ (next ∷ more)) = omega arith in
        let there : behind_flown (words_from words 0) s flown ≡ s1 = (λ i. behind_flown (words_whole words i) s flown) ∙ sym is in
        let entries = meant_entries most words1 (course_of s1 None) spelt in
        let rest : meant_entries most words (landed words (waits None (stmt ∷ (next ∷ more)))) spelt ≡ entries =
        (λ i. meant_entries most words (record { turns = turned i; session = there i; batch = None; waiting = [] }) spelt)
        ∙ entries_later words u most (course_of s1 None) spelt ∙ (λ i. meant_entries most (sym same i) (course_of s1 None) spelt) in
        ap (trace_in words 0 s.public)
        (flown_first g stmt (next ∷ more) spelt flies (omega arith) (omega (arith, few)) (subst (λ (n : ℕ). StartsApart most s.public n spelt) (sym one) apart) ∙ ap (λ (l : List Entry). Together flown None ∷ l) rest)
        ∙ trace_flown_then words words1 s.public s1.public s.asked s1.asked flown None same (ap (λ (x : Session). x.public) is) (ap (λ (x : Session). x.asked) is) entries

    pub met_flown : (g : Option Gathering) (stmts : List Stmt) (spelt : List Spelt) → All (λ (stmt : Stmt). may_fly s.public (skeleton stmt) ≡ true) stmts → 2 ≤ length stmts → length stmts ≤ most → StartsApart most s.public (length stmts) spelt
        → words1 ≡ words_from words (turns_of s.public (flown_meant s stmts)) → s1 ≡ behind_flown words s (flown_meant s stmts)
        → met_trace most words g s (map Ok stmts ++ spelt) ≡ merge s.public (flown_meant s stmts) words ++ met_trace most words1 None s1 spelt
    met_flown g [] spelt flies some few apart same is = absurd (omega (arith, some))
    met_flown g (stmt ∷ []) spelt flies some few apart same is = absurd (omega (arith, some))
    met_flown g (stmt ∷ (next ∷ more)) spelt flies some few apart same is = behind_them g stmt next more spelt flies few apart same is
