-- What is seen of INSERTs that are served together, and what is gathered.
use Rattle.ob_headline.proofs.Words.{AfterCount, ap, batch_most, Bool, Continuous, Cut, early_refusal, End, ended, false, Gathering, gathering_after, goes_into, headings, how_now, if◌then◌else◌, is_cut, is_failed, is_joined, is_none, is_some, IsTrue, Joins, length, limits_of, List, nat_le, None, Option, option_map, Plan, Public, refl, Refusal, refusal_now, Seen, seen_now, seen_or_cut, Session, skeleton, Some, Static, Stmt, sym, Tables, true, Whole, ℕ, [], ⊤, ◌&&◌, ◌∙◌, ◌∷◌, ◌≡◌}
use Rattle.ob_mean.proofs.BatchLemmas.{none_begin}
use Rattle.ob_mean.specs.Batches.{and_one, begun_by, inserts_flat, leaves_room}
use Rattle.ob_mean.specs.Replay.{How, Alone, CutAfter, With, CutWith}
use Rattle.ob_mean.specs.Verdict.{Accessed, Draws, accessed, counted, is_late, plan_for, seen_by, seen_served, seen_started, seen_with, selected_places, source_slots}
use Rattle.ob_row.specs.Slots.{is_consecutive}
use Rattle.ob_sql.specs.declared.stmt.Stmt.TheVariants.{SelectRows as RowsStmt}

-- ---- how a statement ends by its meaning
module _ (P : End → Type 0) (static : P Static) (whole : P Whole) (behind : P AfterCount) (p : Public) where
  with_ends : (plan : Plan) (places : List ℕ) → P (seen_with p plan places).end
  with_ends Continuous places =
      elim (is_consecutive places) as (λ (b : Bool). P (if b then counted (length places) (Some Continuous) None Whole else counted (length places) None None AfterCount).end)
      [ true ↦ whole | false ↦ behind ]
  with_ends other places = whole

  rows_ends : (pad : Option ℕ) (n : ℕ) (places : List ℕ) → P (seen_by pad p n places).end
  rows_ends (Some pad) n places = whole
  rows_ends None n [] = whole
  rows_ends None n (i ∷ is) = with_ends (plan_for p n (i ∷ is)) (i ∷ is)

  started_ends : (ts : Tables) (stmt : Stmt) → P (seen_started p ts stmt).end
  started_ends ts (RowsStmt q) = rows_ends p.pad (length (source_slots p q.source ts)) (selected_places p q ts)
  started_ends ts other = whole

  served_ends : (d : Draws) (o : Option Accessed) (ts : Tables) (stmt : Stmt) → P (seen_served d o p ts stmt).end
  served_ends d None ts stmt = started_ends ts stmt
  served_ends d (Some a) ts stmt = whole

  ends_if : (early : Bool) (d : Draws) (ts : Tables) (stmt : Stmt) → P (if early then ended Static else seen_served d (accessed ts stmt) p ts stmt).end
  ends_if true d ts stmt = static
  ends_if false d ts stmt = served_ends d (accessed ts stmt) ts stmt

pub now_ends : (P : End → Type 0) → P Static → P Whole → P AfterCount → (s : Session) (stmt : Stmt) → P (seen_now s stmt).end
now_ends P static whole behind s stmt =
    ends_if P static whole behind s.public (is_some (early_refusal (is_late s.asked) (limits_of s.public) (headings s.tables) stmt)) s.draws s.tables stmt

-- it was neither served with another nor cut off
pub unjoined_now : (s : Session) (stmt : Stmt) → is_joined (seen_now s stmt).end ≡ false
unjoined_now s stmt = now_ends (λ (e : End). is_joined e ≡ false) refl refl refl s stmt

pub sound_now : (g : Option Gathering) (s : Session) (stmt : Stmt) → is_failed g (seen_now s stmt).end ≡ false
sound_now g s stmt = now_ends (λ (e : End). is_failed g e ≡ false) refl refl refl s stmt

pub cut_fails : (g : Option Gathering) (end : End) → IsTrue (is_cut end) → IsTrue (is_failed g end)
cut_fails g (Cut n) cut = refl
cut_fails g other cut = absurd (cc cut)

-- ---- how it was served where the store didn't fail
abbrev pub IsUncut : How → Type 0
IsUncut Alone = ⊤
IsUncut (CutAfter n) = ⊥
IsUncut With = ⊤
IsUncut CutWith = ⊥

pub how_is : (g : Option Gathering) (s : Session) (stmt : Stmt) (how : How) (here : Seen) → IsUncut how → here ≡ seen_or_cut how s stmt → Joins s.public s.asked g stmt here → how ≡ how_now g s stmt
how_is g s stmt Alone here uncut seen joins = sym (ap (λ (b : Bool). if b then With else Alone) (sym joins ∙ ap (λ (x : Seen). is_joined x.end) seen ∙ unjoined_now s stmt))
how_is g s stmt (CutAfter n) here uncut seen joins = absurd uncut
how_is g s stmt With here uncut seen joins = sym (ap (λ (b : Bool). if b then With else Alone) (sym joins ∙ ap (λ (x : Seen). is_joined x.end) seen))
how_is g s stmt CutWith here uncut seen joins = absurd uncut

-- ---- what is gathered
-- nothing without batches
pub none_gathered : (p : Public) (m : ℕ) (stmt : Stmt) (end : End) → p.batch ≡ None → gathering_after p m None stmt end ≡ None
none_gathered p m stmt end none =
    ap (λ (b : Bool). if b then begun_by (skeleton stmt) end else None) (none_begin p none m stmt)

none_alike : (a b : Option Refusal) → is_some a ≡ is_some b → is_none a ≡ is_none b
none_alike None None same = refl
none_alike None (Some r) same = absurd (cc same)
none_alike (Some r) None same = absurd (cc same)
none_alike (Some r) (Some q) same = refl

-- it follows from the skeleton, and from whether that is refused before any access
pub gathers_alike : (p : Public) (m : ℕ) (g : Option Gathering) (a b : Stmt) (end : End) → skeleton a ≡ skeleton b → is_some (refusal_now p m a) ≡ is_some (refusal_now p m b)
    → gathering_after p m g a end ≡ gathering_after p m g b end
gathers_alike p m g a b end sk early =
    let none : is_none (refusal_now p m a) ≡ is_none (refusal_now p m b) = none_alike (refusal_now p m a) (refusal_now p m b) early in
    λ i. if goes_into p g (sk i) then option_map and_one g
    else (if nat_le 2 (batch_most p) && leaves_room m && inserts_flat p (sk i) && none i then begun_by (sk i) end else None)
