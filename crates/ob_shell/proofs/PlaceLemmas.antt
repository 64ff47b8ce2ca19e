-- What is gathered after statements that were served.
use Rattle.ob_shell.proofs.Words.{ap, arith, Bool, false, FlightSettings, Gathered, gathered_then, headings_of, if◌then◌else◌, inl, inr, is_index, List, may_fly, most_flown, nat_le, nat_lt, Option, place_now, Public, refl, Skeleton, skeleton, Stmt, Table, true, ℕ, [], ◌&&◌, ◌+◌, ◌∙◌, ◌∷◌, ◌≡◌, ◌≤◌}
use Rattle.std.specs.Prelude.{not}
use Rattle.std.proofs.lemmas.Bool.{leb-false, ltb-true}
use Rattle.ob_base.specs.declared.skeleton.Skeleton.TheVariants.{Groups, Rows}
use Rattle.ob_base.specs.declared.skeleton.Source.TheVariants.{Table as OneTable}
use Rattle.ob_shell.specs.Steps.{gathered_by, none_gathered}
use Rattle.ob_shell.specs.Waiting.{IsClosed, IsFree, begins_flight}

-- ---- what is gathered after one that was served by itself
-- none is there, or too many
place_zero : (most : ℕ) (p : Public) (outline : Skeleton) → place_now most p 0 outline ≡ 0
place_zero most p outline = go (may_fly p outline && nat_lt 0 most)
  where
    go : (b : Bool) → ◌≡◌ {A = ℕ} (if b then 0 else 0) 0
    go true = refl
    go false = refl

pub place_past : (most n : ℕ) (p : Public) (outline : Skeleton) → most ≤ n → place_now most p n outline ≡ 0
place_past most n p outline past = go (may_fly p outline) (nat_lt n most) refl
  where
    go : (a b : Bool) → nat_lt n most ≡ b → ◌≡◌ {A = ℕ} (if (a && b) then n else 0) 0
    go true true is = absurd (let below = ltb-true n most is in omega (arith, below, past))
    go true false is = refl
    go false b is = refl

pub place_other : (most n : ℕ) (p : Public) (outline : Skeleton) → may_fly p outline ≡ false → place_now most p n outline ≡ 0
place_other most n p outline other = ap (λ (b : Bool). if (b && nat_lt n most) then n else 0) other

-- it begins no flight: then any other comes free after it
alone_place : (settings : Option FlightSettings) (p0 p1 : Public) (sk outline : Skeleton) → begins_flight settings p0 sk ≡ false → most_flown settings p1 ≡ most_flown settings p0 → place_now (most_flown settings p1) p1 (gathered_then p0 0 sk) outline ≡ 0
alone_place settings p0 p1 sk outline begins same = go (nat_le 2 (most_flown settings p0)) (may_fly p0 sk) refl begins
  where
    go : (a b : Bool) → nat_le 2 (most_flown settings p0) ≡ a → (a && b) ≡ false → place_now (most_flown settings p1) p1 (if b then 0 + 1 else 0) outline ≡ 0
    go a false is begins = place_zero (most_flown settings p1) p1 outline
    go true true is begins = absurd (cc begins)
    go false true is begins = place_past (most_flown settings p1) 1 p1 outline (let few = leb-false 2 (most_flown settings p0) is in omega (arith, few, same))

pub alone_free : (settings : Option FlightSettings) (p0 p1 : Public) (sk : Skeleton) → begins_flight settings p0 sk ≡ false → most_flown settings p1 ≡ most_flown settings p0 → IsFree settings p1 [] (gathered_by p0 sk)
alone_free settings p0 p1 sk begins same = λ outline. record { batch = refl; flown = alone_place settings p0 p1 sk outline begins same }

pub none_free : (settings : Option FlightSettings) (p : Public) → IsFree settings p [] none_gathered
none_free settings p = λ outline. record { batch = refl; flown = place_zero (most_flown settings p) p outline }

-- it might have flown: then any comes free after it that doesn't go along with it
pub same_fly : (p q : Public) (outline : Skeleton) → q.tables ≡ p.tables → may_fly q outline ≡ may_fly p outline
same_fly p q (Rows (OneTable table) columns) same = ap (λ (t : List Table). not (is_index (headings_of t) table)) same
same_fly p q (Groups table columns key) same = ap (λ (t : List Table). not (is_index (headings_of t) table)) same
same_fly p q other same = refl

pub single_closed : (settings : Option FlightSettings) (p0 p1 : Public) (stmt : Stmt) (g : Gathered) → may_fly p0 (skeleton stmt) ≡ true → p1.tables ≡ p0.tables → most_flown settings p1 ≡ most_flown settings p0 → IsClosed settings p0 p1 (stmt ∷ []) g (gathered_by p0 (skeleton stmt))
single_closed settings p0 p1 stmt g flies tables same = λ outline apart. record {
  batch = refl;
  flown = ap (λ (b : Bool). place_now (most_flown settings p1) p1 (if b then 0 + 1 else 0) outline) flies
      ∙ elim apart.flown [
        | inl other ↦ place_other (most_flown settings p1) 1 p1 outline (same_fly p0 p1 outline tables ∙ other)
        | inr (inl not) ↦ absurd (cc (flies, not))
        | inr (inr most) ↦ place_past (most_flown settings p1) 1 p1 outline (omega (arith, most, same))
      ];
}
