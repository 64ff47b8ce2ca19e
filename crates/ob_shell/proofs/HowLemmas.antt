-- How the first of some statements is served where no call fails, and what is asked of them then.
use Rattle.ob_shell.proofs.Words.{Access, after, ap, append-nil, append_assoc, arith, Bool, End, Err, false, Gathering, How, if◌then◌else◌, is_full_now, length, List, may_fly, met_script, nat_lt, None, Ok, Option, place_now, Public, refl, script, seen_or_cut, Session, Skeleton, skeleton, Spelt, Stmt, subst, sym, Table, true, Whole, ℕ, [], ⊤, ◌&&◌, ◌++◌, ◌+◌, ◌<◌, ◌∙◌, ◌∷◌, ◌≡◌}
use Rattle.ob_base.specs.declared.skeleton.Skeleton.TheVariants as K
use Rattle.ob_base.specs.declared.skeleton.Source.TheVariants.{Table as OneTable}
use Rattle.ob_headline.specs.Disturbed.{Course, course_alone, course_now, entries_now, gathering, landed, meant_entries, meant_together}
use Rattle.ob_mean.specs.Batches.{gathering_after, goes_into, is_unrefused}
use Rattle.ob_mean.specs.Replay.{Alone, With, how_now, seen_now, served, served_full}
use Rattle.ob_script.specs.Flights.{Alone as One, Entry, trace_in}
use Rattle.ob_script.specs.Tables.{tables_after, tables_then}
use Rattle.ob_shell.proofs.SelectLemmas.{flown_gathers}

-- from a session on, where this is gathered, and none waits to fly
abbrev pub course_of : Session → Option Gathering → Course
course_of s g = record { turns = 0; session = s; batch = g; waiting = [] }

-- what is asked of these texts where no call fails
abbrev pub met_entries : (most : ℕ) → (words : ℕ → ℕ) → Option Gathering → Session → List Spelt → List Entry
met_entries most words g s spelt = meant_entries most words (course_of s g) spelt

abbrev pub met_trace : (most : ℕ) → (words : ℕ → ℕ) → Option Gathering → Session → List Spelt → List Access
met_trace most words g s spelt = trace_in words 0 s.public (met_entries most words g s spelt)

-- what is gathered after a statement that was served so
abbrev pub gathered_by : How → Option Gathering → Session → Stmt → Option Gathering
gathered_by how g s stmt = gathering_after s.public s.asked g stmt (seen_or_cut how s stmt).end

-- the first of these flies with none of so many that were gathered
abbrev pub StartsApart : (most : ℕ) → Public → (gathered : ℕ) → List Spelt → Type 0
StartsApart most p gathered [] = ⊤
StartsApart most p gathered (Err at ∷ spelt) = ⊤
StartsApart most p gathered (Ok stmt ∷ spelt) = place_now most p gathered (skeleton stmt) ≡ 0

-- ---- a SELECT leaves what there is
after_select : (p : Public) (sk : Skeleton) → may_fly p sk ≡ true → tables_after p sk ≡ p.tables
after_select p (K.Rows source cs) fly = refl
after_select p (K.Groups table cs key) fly = refl
after_select p other fly = absurd (cc fly)

pub then_select : (p : Public) (sk : Skeleton) (end : End) → may_fly p sk ≡ true → tables_then p sk end ≡ p.tables
then_select p sk Whole fly = after_select p sk fly
then_select p sk other fly = refl

pub may_by : (p q : Public) (sk : Skeleton) → q.tables ≡ p.tables → may_fly q sk ≡ may_fly p sk
may_by p q (K.Rows (OneTable name) cs) same = ap (λ (ts : List Table). may_fly (record p { tables = ts }) (K.Rows (OneTable name) cs)) same
may_by p q (K.Groups table cs key) same = ap (λ (ts : List Table). may_fly (record p { tables = ts }) (K.Groups table cs key)) same
may_by p q other same = refl

-- ---- those that wait come first, where the next one doesn't fly with them
module _ (most : ℕ) (words : ℕ → ℕ) (c : Course) where
  abbrev first : List Entry
  first = meant_together c.session c.waiting

  pub flushed : (spelt : List Spelt) → ((stmt : Stmt) (rest : List Spelt) → spelt ≡ Ok stmt ∷ rest → (may_fly c.session.public (skeleton stmt) ≡ false) × (may_fly (landed words c).session.public (skeleton stmt) ≡ false))
      → meant_entries most words c spelt ≡ first ++ meant_entries most words (landed words c) spelt
  unfolding meant_entries
  flushed [] apart = sym (append-nil first)
  flushed (Err at ∷ spelt) apart = refl
  flushed (Ok stmt ∷ spelt) apart = go (is_full_now (landed words c).session stmt) (apart stmt spelt refl)
    where
      go : (full : Bool) → (may_fly c.session.public (skeleton stmt) ≡ false) × (may_fly (landed words c).session.public (skeleton stmt) ≡ false)
          → (if full then first ++ One (served_full (landed words c).session stmt) ∷ [] else entries_now most words c stmt ++ meant_entries most words (course_now most words c stmt) spelt)
          ≡ first ++ (if full then [] ++ One (served_full (landed words c).session stmt) ∷ [] else entries_now most words (landed words c) stmt ++ meant_entries most words (course_now most words (landed words c) stmt) spelt)
      go true off = refl
      go false off =
          let x = One (served (how_now c.batch (landed words c).session stmt) (landed words c).session stmt) in
          let behind = meant_entries most words (course_alone (landed words c) stmt) spelt in
          (λ i. (if off.0 i then entries_with_flying else first ++ x ∷ []) ++ meant_entries most words (if off.0 i then course_flying else course_alone (landed words c) stmt) spelt)
          ∙ append_assoc first (x ∷ []) behind
          ∙ (λ i. first ++ ((if sym off.1 i then entries_with_later else x ∷ []) ++ meant_entries most words (if sym off.1 i then course_later else course_alone (landed words c) stmt) spelt))
        where
          entries_with_flying : List Entry
          entries_with_flying = if nat_lt (length c.waiting + 1) most then [] else meant_together c.session (c.waiting ++ stmt ∷ [])

          course_flying : Course
          course_flying = if nat_lt (length c.waiting + 1) most then gathering stmt c else landed words (gathering stmt c)

          entries_with_later : List Entry
          entries_with_later = if nat_lt (0 + 1) most then [] else meant_together (landed words c).session (stmt ∷ [])

          course_later : Course
          course_later = if nat_lt (0 + 1) most then gathering stmt (landed words c) else landed words (gathering stmt (landed words c))

-- ---- of one that doesn't go into what is gathered
module _ (most : ℕ) (words : ℕ → ℕ) (g : Option Gathering) (s : Session) (stmt : Stmt) (spelt : List Spelt) where
  pub how_alone : goes_into s.public g (skeleton stmt) ≡ false → how_now g s stmt ≡ Alone
  how_alone off = ap (λ (b : Bool). if b && is_unrefused s.public s.asked stmt then With else Alone) off

  abbrev c : Course
  c = course_of s g

  abbrev first_all : Bool → List Entry
  first_all full = if full then One (served_full s stmt) ∷ [] else entries_now most words c stmt ++ meant_entries most words (course_now most words c stmt) spelt

  met_first : met_entries most words g s (Ok stmt ∷ spelt) ≡ first_all (is_full_now s stmt)
  unfolding meant_entries
  met_first = refl

  -- the next one flies with it only if it does
  abbrev Apart : Type 0
  Apart = may_fly s.public (skeleton stmt) ≡ true → StartsApart most (after Alone s stmt).public 1 spelt

  -- how it is served
  abbrev ServedSo : How → Type 0
  ServedSo how = met_entries most words g s (Ok stmt ∷ spelt) ≡ One (served how s stmt) ∷ met_entries most words (gathered_by how g s stmt) (after how s stmt) spelt

  -- one that doesn't fly
  by_itself : (how : How) → how_now g s stmt ≡ how → may_fly s.public (skeleton stmt) ≡ false → is_full_now s stmt ≡ false → ServedSo how
  by_itself how is fly room =
      met_first ∙ ap first_all room
      ∙ (λ i. (if fly i then (if nat_lt (0 + 1) most then [] else meant_together s (stmt ∷ [])) else One (served (how_now g s stmt) s stmt) ∷ [])
      ++ meant_entries most words (if fly i then (if nat_lt (0 + 1) most then gathering stmt c else landed words (gathering stmt c)) else course_alone c stmt) spelt)
      ∙ (λ i. One (served (is i) s stmt) ∷ met_entries most words (gathered_by (is i) g s stmt) (after (is i) s stmt) spelt)

  -- one that would
  place_off : (p : Public) (sk : Skeleton) → place_now most p 1 sk ≡ 0 → 1 < most → may_fly p sk ≡ false
  place_off p sk none less = go (may_fly p sk) refl
    where
      room : nat_lt 1 most ≡ true
      room = grind arith

      go : (b : Bool) → may_fly p sk ≡ b → b ≡ false
      go true is = let one : place_now most p 1 sk ≡ 1 = (λ i. if is i && room i then 1 else 0) in absurd (omega (arith, none, one))
      go false is = refl

  apart_so : (xs : List Spelt) → may_fly s.public (skeleton stmt) ≡ true → 1 < most → StartsApart most (after Alone s stmt).public 1 xs → (next : Stmt) (rest : List Spelt) → xs ≡ Ok next ∷ rest
      → (may_fly s.public (skeleton next) ≡ false) × (may_fly (after Alone s stmt).public (skeleton next) ≡ false)
  apart_so xs fly less apart next rest is =
      let at : place_now most (after Alone s stmt).public 1 (skeleton next) ≡ 0 = subst (λ (l : List Spelt). StartsApart most (after Alone s stmt).public 1 l) is apart in
      let off = place_off (after Alone s stmt).public (skeleton next) at less in
      (sym (may_by s.public (after Alone s stmt).public (skeleton next) (then_select s.public (skeleton stmt) (seen_now s stmt).end fly)) ∙ off, off)

  flies : may_fly s.public (skeleton stmt) ≡ true → is_full_now s stmt ≡ false → Apart → ServedSo Alone
  flies fly room apart = met_first ∙ ap first_all room ∙ by_most (nat_lt (0 + 1) most) refl
    where
      none : gathered_by Alone g s stmt ≡ None
      none = flown_gathers s.public s.asked g stmt (seen_now s stmt).end fly

      there : List Entry
      there = met_entries most words None (after Alone s stmt) spelt

      with_none : One (served Alone s stmt) ∷ there ≡ One (served Alone s stmt) ∷ met_entries most words (gathered_by Alone g s stmt) (after Alone s stmt) spelt
      with_none = ap (λ (o : Option Gathering). One (served Alone s stmt) ∷ met_entries most words o (after Alone s stmt) spelt) (sym none)

      by_most : (b : Bool) → nat_lt (0 + 1) most ≡ b → entries_now most words c stmt ++ meant_entries most words (course_now most words c stmt) spelt
          ≡ One (served Alone s stmt) ∷ met_entries most words (gathered_by Alone g s stmt) (after Alone s stmt) spelt
      by_most false few =
          (λ i. (if fly i then (if few i then [] else meant_together s (stmt ∷ [])) else One (served (how_now g s stmt) s stmt) ∷ [])
          ++ meant_entries most words (if fly i then (if few i then gathering stmt c else landed words (gathering stmt c)) else course_alone c stmt) spelt)
          ∙ with_none
      by_most true some =
          let less : 1 < most = grind (arith, some) in
          (λ i. (if fly i then (if some i then [] else meant_together s (stmt ∷ [])) else One (served (how_now g s stmt) s stmt) ∷ [])
          ++ meant_entries most words (if fly i then (if some i then gathering stmt c else landed words (gathering stmt c)) else course_alone c stmt) spelt)
          ∙ flushed most words (gathering stmt c) spelt (apart_so spelt fly less (apart fly)) ∙ with_none

  pub met_room : (how : How) → how_now g s stmt ≡ how → (may_fly s.public (skeleton stmt) ≡ true → (how ≡ Alone) × StartsApart most (after Alone s stmt).public 1 spelt) → is_full_now s stmt ≡ false → ServedSo how
  met_room how is apart room = go (may_fly s.public (skeleton stmt)) refl
    where
      go : (b : Bool) → may_fly s.public (skeleton stmt) ≡ b → ServedSo how
      go false off = by_itself how is off room
      go true fly = subst ServedSo (sym (apart fly).0) (flies fly room (λ yes. (apart yes).1))

  pub record MeetsFirst : Type 0 where
    pub tail : List Access
    pub asks : met_trace most words g s (Ok stmt ∷ spelt) ≡ met_script s stmt ++ tail

  pub meets_first : goes_into s.public g (skeleton stmt) ≡ false → Apart → MeetsFirst
  unfolding trace_in
  meets_first off apart = go (is_full_now s stmt) refl
    where
      go : (b : Bool) → is_full_now s stmt ≡ b → MeetsFirst
      go true full = record {
        tail = [];
        asks = ap (trace_in words 0 s.public) (met_first ∙ ap first_all full) ∙ ap (λ (b : Bool). script s.public (skeleton stmt) (if b then (served_full s stmt).seen else seen_now s stmt) ++ []) (sym full);
      }
      go false room = record {
        tail = met_trace most words (gathered_by Alone g s stmt) (after Alone s stmt) spelt;
        asks = ap (trace_in words 0 s.public) (met_room Alone (how_alone off) (λ fly. (refl, apart fly)) room)
            ∙ ap (λ (b : Bool). script s.public (skeleton stmt) (if b then (served_full s stmt).seen else seen_now s stmt) ++ met_trace most words (gathered_by Alone g s stmt) (after Alone s stmt) spelt) (sym room);
      }

-- alone
pub meets_alone : (most : ℕ) (words : ℕ → ℕ) (g : Option Gathering) (s : Session) (stmt : Stmt) → goes_into s.public g (skeleton stmt) ≡ false → met_trace most words g s (Ok stmt ∷ []) ≡ met_script s stmt
unfolding trace_in meant_entries
meets_alone most words g s stmt off = go (is_full_now s stmt) refl
  where
    go : (b : Bool) → is_full_now s stmt ≡ b → met_trace most words g s (Ok stmt ∷ []) ≡ met_script s stmt
    go true full =
        ap (trace_in words 0 s.public) (met_first most words g s stmt [] ∙ ap (first_all most words g s stmt []) full)
        ∙ append-nil (script s.public (skeleton stmt) (served_full s stmt).seen) ∙ ap (λ (b : Bool). script s.public (skeleton stmt) (if b then (served_full s stmt).seen else seen_now s stmt)) (sym full)
    go false room =
        ap (trace_in words 0 s.public) (met_room most words g s stmt [] Alone (how_alone most words g s stmt [] off) (λ fly. (refl, tt)) room)
        ∙ append-nil (script s.public (skeleton stmt) (seen_now s stmt)) ∙ ap (λ (b : Bool). script s.public (skeleton stmt) (if b then (served_full s stmt).seen else seen_now s stmt)) (sym room)

-- only what is an index tells
pub starts_as : (most : ℕ) (p q : Public) (n : ℕ) (spelt : List Spelt) → q.tables ≡ p.tables → StartsApart most p n spelt → StartsApart most q n spelt
starts_as most p q n [] same apart = tt
starts_as most p q n (Err at ∷ spelt) same apart = tt
starts_as most p q n (Ok stmt ∷ spelt) same apart = ap (λ (b : Bool). if b && nat_lt n most then n else 0) (may_by p q (skeleton stmt) same) ∙ apart
