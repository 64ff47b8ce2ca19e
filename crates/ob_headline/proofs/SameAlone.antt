-- Where none of a run's statements fly, each is served alone.
use Rattle.ob_headline.proofs.Words.{after, ap, arith, Base, batch_most, Bool, drawing, End, Err, false, first_course, FliesNone, gathered_now, Gathering, goes_into, how_now, if◌then◌else◌, is_full_now, is_some, KeySet, length, List, may_fly, meant_entries, nat_le, nat_lt, nat_tests, None, Ok, Option, option_map, Public, public_with, refl, seen_or_cut, Served, served, served_full, Session, Skeleton, skeleton, Some, Spelt, start, Stmt, sym, trace, trace_alone, true, whole_of, words_of, ℕ, [], ◌&&◌, ◌++◌, ◌-◌, ◌∙◌, ◌∷◌, ◌≡◌, ◌≤◌}
use Rattle.ob_base.specs.declared.skeleton.Skeleton.TheVariants as K
use Rattle.ob_base.specs.declared.skeleton.Source.TheVariants.{Table as OneTable, Join}
use Rattle.ob_headline.specs.Batches.{after_now, meant_seen}
use Rattle.ob_headline.specs.Disturbed.{Course, course_alone, course_now, course_with, entries_now, entries_with, landed, meant_together, meant_trace, now_alone}
use Rattle.ob_mean.specs.Batches.{and_one, begins_batch, begun_by, inserts_flat, is_unrefused, leaves_room}
use Rattle.ob_mean.specs.Replay.{How, all_served, hows}
use Rattle.ob_mean.specs.Replay as Hows
use Rattle.ob_script.specs.Flights.{Alone, Entry, all_alone, trace_in}

pub whole_alone : (seen last : List Served) → length last ≤ 1 → whole_of (length seen) (all_alone (seen ++ last)) ≡ all_alone seen
unfolding whole_of
whole_alone [] [] few = refl
whole_alone [] (x ∷ last) few = refl
whole_alone (x ∷ seen) last few =
    let less : length (x ∷ seen) - 1 ≡ length seen = omega arith in
    let some : nat_le 1 (length (x ∷ seen)) ≡ true = grind (arith, nat_tests) in
    ap (λ (b : Bool). if b then Alone x ∷ whole_of (length (x ∷ seen) - 1) (all_alone (seen ++ last)) else []) some
    ∙ ap (λ (n : ℕ). Alone x ∷ whole_of n (all_alone (seen ++ last))) less ∙ ap (λ (es : List Entry). Alone x ∷ es) (whole_alone seen last few)

-- ---- until others disturb the store
-- no batch has a SELECT in it, nor does one begin with it
and_never : (a b : Bool) → (a && b && false) ≡ false
and_never true true = refl
and_never true false = refl
and_never false true = refl
and_never false false = refl

begins_never : (a b c : Bool) → (a && b && false && c) ≡ false
begins_never true true c = refl
begins_never true false c = refl
begins_never false true c = refl
begins_never false false c = refl

-- an INSERT it isn't
pub record GoesAlone (p : Public) (m : ℕ) (g : Option Gathering) (stmt : Stmt) : Type 0 where
  pub apart : goes_into p g (skeleton stmt) ≡ false
  pub begins : begins_batch p m stmt ≡ false

goes_none : (p : Public) (g : Option Gathering) (s : Skeleton) → may_fly p s ≡ true → goes_into p g s ≡ false
goes_none p None s flies = refl
goes_none p (Some h) (K.Rows (OneTable table) columns) flies = and_never (is_some p.batch) (nat_lt h.count (batch_most p))
goes_none p (Some h) (K.Groups table columns key) flies = and_never (is_some p.batch) (nat_lt h.count (batch_most p))
goes_none p (Some h) (K.Rows (Join a b on equals) columns) flies = absurd (cc flies)
goes_none p (Some h) (K.Create table columns capacity shape) flies = absurd (cc flies)
goes_none p (Some h) (K.Insert table columns) flies = absurd (cc flies)
goes_none p (Some h) (K.Update table columns) flies = absurd (cc flies)
goes_none p (Some h) (K.Delete table) flies = absurd (cc flies)
goes_none p (Some h) (K.Drop table) flies = absurd (cc flies)

inserts_none : (p : Public) (s : Skeleton) → may_fly p s ≡ true → inserts_flat p s ≡ false
inserts_none p (K.Rows (OneTable table) columns) flies = refl
inserts_none p (K.Groups table columns key) flies = refl
inserts_none p other flies = absurd (cc flies)

pub flier_alone : (p : Public) (m : ℕ) (g : Option Gathering) (stmt : Stmt) → may_fly p (skeleton stmt) ≡ true → GoesAlone p m g stmt
flier_alone p m g stmt flies = record {
  apart = goes_none p g (skeleton stmt) flies;
  begins =
      ap (λ (b : Bool). nat_le 2 (batch_most p) && leaves_room m && b && is_unrefused p m stmt) (inserts_none p (skeleton stmt) flies)
      ∙ begins_never (nat_le 2 (batch_most p)) (leaves_room m) (is_unrefused p m stmt);
}

-- texts of which none flies with others are served one after the other
abbrev course_at : (t : ℕ) → Session → Option Gathering → Course
course_at t s g = record { turns = t; session = s; batch = g; waiting = [] }

same_entries : (words : ℕ → ℕ) (t : ℕ) (s : Session) (g : Option Gathering) (spelt : List Spelt) → meant_entries 1 words (course_at t s g) spelt ≡ all_alone (all_served s spelt (hows g s spelt))
unfolding meant_entries
same_entries words t s g [] = refl
same_entries words t s g (Err at ∷ spelt) = same_entries words t s None spelt
same_entries words t s g (Ok stmt ∷ spelt) =
    elim (is_full_now s stmt) as (λ (full : Bool).
    (if full then Alone (served_full s stmt) ∷ [] else entries_now 1 words c stmt ++ meant_entries 1 words (course_now 1 words c stmt) spelt)
    ≡ all_alone (if full then served_full s stmt ∷ [] else behind (how_now g s stmt) (gathered_now g s stmt)))
    [ true ↦ refl | false ↦ by (λ u h. same_entries words t u h spelt) (may_fly s.public (skeleton stmt)) refl ]
  where
    c : Course
    c = course_at t s g

    -- what is served from there, so
    behind : (how : How) → Option Gathering → List Served
    behind how h = served how s stmt ∷ all_served (after how s stmt) spelt (hows h (after how s stmt) spelt)

    by : ((u : Session) (h : Option Gathering) → meant_entries 1 words (course_at t u h) spelt ≡ all_alone (all_served u spelt (hows h u spelt)))
        → (flies : Bool) → may_fly s.public (skeleton stmt) ≡ flies
        → (if flies then entries_with 1 c stmt else meant_together s [] ++ Alone (now_alone (landed words c) stmt) ∷ [])
        ++ meant_entries 1 words (if flies then course_with 1 words c stmt else course_alone (landed words c) stmt) spelt
        ≡ all_alone (behind (how_now g s stmt) (gathered_now g s stmt))
    by follows false is = ap (λ (es : List Entry). Alone (served (how_now g s stmt) s stmt) ∷ es) (follows (after_now g s stmt) (gathered_now g s stmt))
    by follows true is =
        let alone = flier_alone s.public s.asked g stmt is in
        let how : how_now g s stmt ≡ Hows.Alone = ap (λ (b : Bool). if b && is_unrefused s.public s.asked stmt then Hows.With else Hows.Alone) alone.apart in
        let end : End = (seen_or_cut (how_now g s stmt) s stmt).end in
        let none : gathered_now g s stmt ≡ None = λ i. if alone.apart i then option_map and_one g else if alone.begins i then begun_by (skeleton stmt) end else None in
        ap (λ (es : List Entry). Alone (served Hows.Alone s stmt) ∷ es) (follows (after Hows.Alone s stmt) None)
        ∙ (λ i. all_alone (behind (sym how i) (sym none i)))

pub same_trace : (base : Base) (keys : KeySet) (spelt : List Spelt) → FliesNone base → meant_trace base keys spelt ≡ trace (public_with base.settings) (meant_seen (drawing keys (start base.settings)) spelt)
same_trace base keys spelt one =
    let s : Session = drawing keys (start base.settings) in
    ap (λ (most : ℕ). trace_in (words_of base) 0 (public_with base.settings) (meant_entries most (words_of base) (first_course s) spelt)) one
    ∙ ap (λ (es : List Entry). trace_in (words_of base) 0 (public_with base.settings) es) (same_entries (words_of base) 0 s None spelt)
    ∙ trace_alone (words_of base) 0 (public_with base.settings) (meant_seen s spelt)
