-- A statement that stopped in an access of its own, or after one.
use Rattle.ob_exec.proofs.Words.{Access, act_of, AfterCount, ap, AreHeld, arith, Bool, count_end, Create, Cut, cut_at, Delete, Draws, End, false, flight_public, held_empty, held_if, Index, Insert, is_access, Batched, Lawful, le-leb, length, List, nat_le, nat_lt, None, Option, Plan, Progress, Public, refl, refusal_now, same_script, script, Seen, Served, Skeleton, skeleton, Some, Static, Stmt, subst, sym, Tables, take, true, until_end, Update, walk_end, Whole, whole_script, World, ℕ, [], ◌+◌, ◌<◌, ◌∙◌, ◌∷◌, ◌≡◌, ◌≤◌}
use Rattle.std.specs.Prelude.{unwrap_or}
use Rattle.std.proofs.lemmas.List.{length-take}
use Rattle.std.proofs.lemmas.Option.{slice_get_within}
use Rattle.ob_mean.specs.Lawful.{HoldsLeaf, Holds}
use Rattle.ob_mean.specs.Verdict.{seen as seen_by, seen_by as seen_rows_by, seen_started}
use Rattle.ob_script.specs.Flights.{IsSteady, asked_at}
use Rattle.ob_sql.specs.declared.stmt.Stmt.TheVariants.{Drop as DropTable, SelectRows as RowsStmt, SelectTotals as TotalsStmt}
use Rattle.ob_tables.proofs.ToldLemmas.{started_seen}
use Rattle.ob_verdict.proofs.SeenProof.{started-unread}
use Rattle.ob_mean.specs.Standing.{StandsAs}

-- ---- one access more
module _ (p : Public) (m : ℕ) (stmt : Stmt) (seen : Seen) (a : ℕ) where
  more_holds : (k : Option ℕ) (plan second : Option Plan) → second ≡ None
      → Holds p stmt (record seen { end = Cut a }) k plan second → Holds p stmt (record seen { end = Cut (a + 1) }) k plan second
  more_holds None None None is holds = holds
  more_holds None (Some plan) None is holds = absurd holds
  more_holds None plan (Some second) is holds = absurd (cc is)
  more_holds (Some k) None None is holds = (holds.0, (let least = holds.1.0 in omega (arith, least), holds.1.1))
  more_holds (Some k) (Some plan) None is holds = (holds.0, holds.1, let least = holds.2 in omega (arith, least))
  more_holds (Some k) plan (Some second) is holds = absurd (cc is)

  more_leaf : (leaf : Option ℕ) → is_access p (skeleton stmt) ≡ false → HoldsLeaf p (skeleton stmt) leaf (Cut a) → HoldsLeaf p (skeleton stmt) leaf (Cut (a + 1))
  more_leaf None flat holds = λ keyed. absurd (cc (flat, keyed))
  more_leaf (Some leaf) flat holds = absurd (cc (flat, holds.0))

  -- what may be seen of one that is cut off may be seen of it an access later
  pub lawful_more : is_access p (skeleton stmt) ≡ false → seen.then ≡ None → a < length (whole_script p (skeleton stmt) seen)
      → Lawful p m stmt (record seen { end = Cut a }) → Lawful p m stmt (record seen { end = Cut (a + 1) })
  lawful_more flat single within lawful = record {
    static = ((λ is. absurd (cc is)), (λ refused. absurd (let never = lawful.static.1 refused in cc never)));
    holds = more_holds seen.k seen.plan seen.then single lawful.holds;
    leaf = more_leaf seen.leaf flat lawful.leaf;
    cut = subst (λ (x : List Access). a + 1 ≤ length x) (same_script p (skeleton stmt) seen (Cut (a + 1))) (omega (arith, within));
  }

  -- after a stop in its next access it stands as before it
  pub stands_more : (end : End) → seen.end ≡ end → is_access p (skeleton stmt) ≡ false → seen.then ≡ None → a < length (script p (skeleton stmt) seen)
      → StandsAs p m a stmt seen end → StandsAs p m (a + 1) stmt seen end
  stands_more Static is flat single within stands = stands
  stands_more Whole is flat single within stands =
      lawful_more flat single (subst (λ (end : End). a < length (until_end end (whole_script p (skeleton stmt) seen))) is within) stands
  stands_more AfterCount is flat single within stands = absurd stands
  stands_more Batched is flat single within stands = absurd stands
  stands_more (Cut cut) is flat single within stands =
      let most : a < length (take cut (whole_script p (skeleton stmt) seen)) = subst (λ (end : End). a < length (until_end end (whole_script p (skeleton stmt) seen))) is within in
      let long = length-take cut (whole_script p (skeleton stmt) seen) in
      let same = stands.0 in
      absurd (omega (arith, most, long, same))

  -- and it isn't refused before any access, nor has the store failed it
  pub ends_whole : (end : End) → seen.end ≡ end → a < length (script p (skeleton stmt) seen) → StandsAs p m a stmt seen end → seen.end ≡ Whole
  ends_whole Static is within stands =
      absurd (let some : a < 0 = subst (λ (end : End). a < length (until_end end (whole_script p (skeleton stmt) seen))) is within in omega (arith, some))
  ends_whole Whole is within stands = is
  ends_whole AfterCount is within stands = absurd stands
  ends_whole Batched is within stands = absurd stands
  ends_whole (Cut cut) is within stands =
      let most : a < length (take cut (whole_script p (skeleton stmt) seen)) = subst (λ (end : End). a < length (until_end end (whole_script p (skeleton stmt) seen))) is within in
      let long = length-take cut (whole_script p (skeleton stmt) seen) in
      let same = stands.0 in
      absurd (omega (arith, most, long, same))

-- ---- its next access is one of its script
-- which is as long wherever its region lies
pub asks_within : (p : Public) (pr : Progress) (x : Served) (n : ℕ) (access : Access) → IsSteady p x → pr.public ≡ p → act_of pr x n ≡ Some access → pr.asked < length (script p x.skeleton x.seen)
asks_within p pr x n access steady public is =
    let g = unwrap_or pr.region n in
    let within = slice_get_within (asked_at pr.public g x) pr.asked access is in
    let same : length (asked_at pr.public g x) ≡ length (asked_at p g x) = ap (λ (y : Public). length (asked_at y g x)) public in
    let long = steady.long g p.next_region in
    omega (arith, within, same, long)

-- ---- what is held
held_same : {A : Type 0} (a b c : ℕ) (o : Option A) → c ≤ a → a ≤ b → held_if (nat_le c a) o ≡ held_if (nat_le c b) o
held_same a b c o one two =
    let first : nat_le c a ≡ true = le-leb c a one in
    let then_too : nat_le c b ≡ true = le-leb c b (omega (arith, one, two)) in
    ap (λ (x : Bool). held_if x o) (first ∙ sym then_too)

-- where its rows are counted, no more is held after one access more
pub held_more : (a : ℕ) (p : Public) (s : Skeleton) (meant : Seen) → count_end p s ≤ a → meant.then ≡ None → meant.leaf ≡ None
    → record (cut_at false a p s meant) { end = Whole } ≡ record (cut_at false (a + 1) p s meant) { end = Whole }
held_more a p s meant counted single unread = λ j. record {
  k = held_same a (a + 1) (count_end p s) meant.k counted (omega arith) j;
  plan = held_same a (a + 1) (count_end p s) meant.plan counted (omega arith) j;
  then = (sym (held_empty (nat_le (walk_end p s meant) a) meant.then single) ∙ held_empty (nat_le (walk_end p s meant) (a + 1)) meant.then single) j;
  leaf = (sym (held_empty (nat_lt p.stash a) meant.leaf unread) ∙ held_empty (nat_lt p.stash (a + 1)) meant.leaf unread) j;
  end = Whole;
}

-- ---- what a statement on a flat table means in flight
single_by : (pad : Option ℕ) (n : ℕ) (q : Public) (size : ℕ) (places : List ℕ) → (seen_rows_by pad (flight_public n q) size places).then ≡ None
single_by None n q size [] = refl
single_by None n q size (i ∷ is) = refl
single_by (Some pad) n q size places = refl

single_started : (n : ℕ) (q : Public) (tables : Tables) (stmt : Stmt) → (seen_started (flight_public n q) tables stmt).then ≡ None
single_started n q tables (RowsStmt select) = single_by q.pad n q _ _
single_started n q tables other = refl

-- no second plan is seen of it, and no leaf
module _ (n : ℕ) (q : Public) (m : ℕ) (stmt : Stmt) (now : refusal_now (flight_public n q) m stmt ≡ None) (flat : is_access (flight_public n q) (skeleton stmt) ≡ false)
    (tables : Tables) (d : Draws) (indexes : List Index) (w : World) (held : AreHeld q.pack indexes q.tables tables w) where
  pub meant_single : (seen_by d (flight_public n q) m tables stmt).then ≡ None
  meant_single = ap (λ (x : Seen). x.then) (started_seen (flight_public n q) m stmt now tables d indexes w flat held) ∙ single_started n q tables stmt

  pub meant_unread : (seen_by d (flight_public n q) m tables stmt).leaf ≡ None
  meant_unread = ap (λ (x : Seen). x.leaf) (started_seen (flight_public n q) m stmt now tables d indexes w flat held) ∙ started-unread (flight_public n q) tables stmt
