-- The leaves that statements read are those of draws, of which none is read twice.
use Rattle.ob_shell.proofs.Words.{All, All-cons, All-nil, All-weaker, ap, AreDraws, arith, asked_of, Does, Draws, false, Given, Index, indexes_of, length, List, Machine, None, Option, option_map, Outcome, public_of, refl, Result, RevState, RunStop, Position, seen_of, skeleton, slice_get, Some, Stmt, subst, suc, sym, World, zero, ℕ, [], ◌<◌, ◌∙◌, ◌∷◌, ◌≡◌, ◌≢◌}
use Rattle.std.specs.Prelude.{IfSome, slice_index_or}
use Rattle.std.specs.List.{AllPairs}
use Rattle.std.proofs.lemmas.List.Kept.{AllPairs-cons}
use Rattle.std.proofs.lemmas.Option.{slice_get-get_or}
use Rattle.ob_base.specs.Indexes.{leaf_of_draw}
use Rattle.ob_exec.proofs.LeavesRead.{KeyAt, Onwards, ReadsUnread, Unread, behind, none_given, reads_unread}
use Rattle.ob_tables.specs.Engines.{AreTables}
use Rattle.ob_headline.specs.Flights.{position_alone}
use Rattle.ob_headline.specs.FullStash.{HasDrawnLeaves}
use Rattle.ob_headline.specs.Leaves.{AreDrawn, IsDrawn}
use Rattle.ob_mean.specs.Lawful.{height_at}
use Rattle.ob_mean.specs.Replay.{draws_taken}
use Rattle.ob_oram.specs.Indexes.{leaves_of}
use Rattle.ob_script.specs.Trace.{Served}

-- statements read leaves of draws, none twice, of which none was read before
pub record Reads (d : Draws) (indexes : List Index) (g : Given d indexes) (positions : List Position) (seen : List Served) : Type 0 where
  pub numbers : List ℕ
  pub are : AreDrawn d.draw positions seen numbers
  pub apart : AllPairs (λ a b. a ≢ b) numbers
  pub unread : All (Unread d indexes g.number) numbers

none_apart : AllPairs (λ (a b : ℕ). a ≢ b) []
none_apart i j x before within = absurd (omega (arith, within))

pub reads_none : (d : Draws) (indexes : List Index) (g : Given d indexes) (positions : List Position) → Reads d indexes g positions []
reads_none d indexes g positions = record { numbers = []; are = refl; apart = none_apart; unread = All-nil (Unread d indexes g.number) }

-- one that reads none
pub reads_unasked : (d : Draws) (indexes : List Index) (g : Given d indexes) (v : Position) (positions : List Position) (x : Served) (seen : List Served) → x.seen.leaf ≡ None → Reads d indexes g positions seen → Reads d indexes g (v ∷ positions) (x ∷ seen)
reads_unasked d indexes g v positions x seen none rest = record {
  numbers = rest.numbers;
  are = subst (λ (o : Option ℕ). IsDrawn d.draw (height_at v.public x.skeleton) o rest.numbers (AreDrawn d.draw positions seen)) (sym none) rest.are;
  apart = rest.apart;
  unread = rest.unread;
}

-- ---- one statement
module _ (d : Draws) (taken : ℕ) (old new : List Index) (g : Given d old) (v : Position) (positions : List Position) (x : Served) where
  abbrev IsLeaf : Option ℕ → Type 0
  IsLeaf read = x.seen.leaf ≡ option_map (λ (n : ℕ). leaf_of_draw (height_at v.public x.skeleton) (d.draw n)) read

  drawn_at : (read : Option ℕ) (numbers : List ℕ) (seen : List Served) → IsLeaf read
      → IsDrawn d.draw (height_at v.public x.skeleton) (option_map (λ (n : ℕ). leaf_of_draw (height_at v.public x.skeleton) (d.draw n)) read) numbers (AreDrawn d.draw positions seen) → AreDrawn d.draw (v ∷ positions) (x ∷ seen) numbers
  drawn_at read numbers seen is are = subst (λ (o : Option ℕ). IsDrawn d.draw (height_at v.public x.skeleton) o numbers (AreDrawn d.draw positions seen)) (sym is) are

  last_by : (read : Option ℕ) → IsLeaf read → IfSome read (λ n. Unread d old g.number n) → Reads d old g (v ∷ positions) (x ∷ [])
  last_by None is fresh = record { numbers = []; are = drawn_at None [] [] is refl; apart = none_apart; unread = All-nil (Unread d old g.number) }
  last_by (Some n) is fresh = record {
    numbers = n ∷ [];
    are = drawn_at (Some n) (n ∷ []) [] is (refl, refl);
    apart = AllPairs-cons (λ (a b : ℕ). a ≢ b) n [] (All-nil (λ (m : ℕ). n ≢ m)) none_apart;
    unread = All-cons (Unread d old g.number) n [] fresh (All-nil (Unread d old g.number));
  }

  more_by : (read : Option ℕ) (seen : List Served) → IsLeaf read → IfSome read (λ n. Unread d old g.number n) → (on : Onwards d taken old new g read)
      → Reads (behind d taken) new on.given positions seen → Reads d old g (v ∷ positions) (x ∷ seen)
  more_by None seen is fresh on rest = record {
    numbers = rest.numbers;
    are = drawn_at None rest.numbers seen is rest.are;
    apart = rest.apart;
    unread = All-weaker (Unread (behind d taken) new on.given.number) (Unread d old g.number) on.unread rest.numbers rest.unread;
  }
  more_by (Some n) seen is fresh on rest = record {
    numbers = n ∷ rest.numbers;
    are = drawn_at (Some n) (n ∷ rest.numbers) seen is (refl, rest.are);
    apart = AllPairs-cons (λ (a b : ℕ). a ≢ b) n rest.numbers (All-weaker (Unread (behind d taken) new on.given.number) (λ (m : ℕ). n ≢ m) on.other rest.numbers rest.unread) rest.apart;
    unread = All-cons (Unread d old g.number) n rest.numbers fresh (All-weaker (Unread (behind d taken) new on.given.number) (Unread d old g.number) on.unread rest.numbers rest.unread);
  }

-- ---- what the engine carried out
module _ {R : Type 0} (state : R → RevState) (m0 m1 : Machine R) (stmt : Stmt) (result : Result Outcome RunStop) (does : Does state m0 m1 stmt result) where
  abbrev here : Served
  here = record { skeleton = skeleton stmt; seen = seen_of m1.engine }

  abbrev there : Position
  there = position_alone (public_of m0.engine) (asked_of m0) here

  abbrev taken : ℕ
  taken = draws_taken (public_of m0.engine) (skeleton stmt) (seen_of m1.engine).end

  module _ (d : Draws) (drawn : AreDraws m0.engine d) (g : Given d (indexes_of m0.engine)) where
    reads : ReadsUnread d taken (height_at (public_of m0.engine) (skeleton stmt)) (indexes_of m0.engine) g (seen_of m1.engine).leaf m1.engine.ended (indexes_of m1.engine)
    reads = reads_unread d taken (height_at (public_of m0.engine) (skeleton stmt)) (indexes_of m0.engine) g (seen_of m1.engine).leaf m1.engine.ended (indexes_of m1.engine) (does.ran.leaves d drawn)

    pub reads_last : Reads d (indexes_of m0.engine) g (there ∷ []) (here ∷ [])
    reads_last = last_by d taken (indexes_of m0.engine) (indexes_of m1.engine) g there [] here reads.read reads.is reads.fresh

    pub reads_more : (positions : List Position) (seen : List Served) → m1.engine.ended ≡ false
        → ((h : Given (behind d taken) (indexes_of m1.engine)) → Reads (behind d taken) (indexes_of m1.engine) h positions seen)
        → Reads d (indexes_of m0.engine) g (there ∷ positions) (here ∷ seen)
    reads_more positions seen lives rest =
        let on = reads.onwards lives in
        more_by d taken (indexes_of m0.engine) (indexes_of m1.engine) g there positions here reads.read seen reads.is reads.fresh on (rest on.given)

    -- what is known after it
    pub given_after : m1.engine.ended ≡ false → Given (behind d taken) (indexes_of m1.engine)
    given_after lives = (reads.onwards lives).given

-- ---- the leaves of one index
pub drawn_leaves : (d : Draws) (indexes : List Index) → Given d indexes → (draw : ℕ → ℕ) → ((n : ℕ) → d.draw n ≡ draw n) → (place : ℕ) (index : Index) → slice_get indexes place ≡ Some index → HasDrawnLeaves draw index
drawn_leaves d indexes g draw same place index get = record {
  number = g.number place;
  are = λ key leaf at. g.leaf place key (record { index = index; leaf = leaf; get = get; at = at }) ∙ ap (leaf_of_draw index.height) (same (g.number place key));
  apart = λ key other within too is. (g.apart place key place other (key_at key within) (key_at other too) is).1;
}
  where
    key_at : (key : ℕ) → key < length (leaves_of index) → KeyAt indexes place key
    key_at key within = record { index = index; leaf = slice_index_or (leaves_of index) key 0; get = get; at = slice_get-get_or (leaves_of index) key 0 within }

-- ---- before the first statement
empty : (xs : List Index) → ((k : ℕ) (x : Index) → slice_get xs k ≡ Some x → ⊥) → xs ≡ []
empty [] none = refl
empty (x ∷ xs) none = absurd (none zero x refl)

-- without a table there is no index
pub no_indexes : {other : ℕ → Type 0} {indexes : List Index} {pack : ℕ} {w : World} → AreTables [] other indexes pack w → indexes ≡ []
no_indexes {indexes = indexes} tables = empty indexes (λ k x is. no_table (tables.stand k x is).place _ (tables.stand k x is).get)
  where
    no_table : {T : Type 0} (i : ℕ) (t : T) → slice_get [] i ≡ Some t → ⊥
    no_table zero t is = cc is
    no_table (suc i) t is = cc is

pub given_none : (d : Draws) (indexes : List Index) → indexes ≡ [] → Given d indexes
given_none d indexes none = subst (Given d) (sym none) (none_given d)
