-- The leaves that a session's accesses read are those of distinct draws, whatever the store answers.
use Rattle.ob_exec.proofs.Words.{ap, arith, Bool, cases_eq, cases_lt, Draws, false, IfSome, Index, inl, inr, length, length-map, List, None, Option, refl, slice_get, Some, subst, suc, sym, zero, ℕ, [], ◌++◌, ◌+◌, ◌<◌, ◌∙◌, ◌∷◌, ◌≡◌, ◌≤◌, ◌⊎◌}
use Rattle.std.proofs.Common.{◌≢◌}
use Rattle.std.specs.Prelude.{slice_index_or, slice_set}
use Rattle.std.specs.List.{remove}
use Rattle.std.specs.Option.{option_map}
use Rattle.std.proofs.lemmas.List.{get_or-map}
use Rattle.std.proofs.lemmas.Option.{get_or_from_slice_get, slice_get_within}
use Rattle.ob_base.specs.Indexes.{height_of, leaf_of_draw}
use Rattle.ob_store.proofs.KeptLemmas.{length-tabulate, get_or-tabulate}
use Rattle.ob_mean.specs.Verdict.{leaves_drawn, next_draw, next_draws}
use Rattle.ob_oram.specs.Indexes.{leaves_of}
use Rattle.ob_tables.specs.Leaves.{MovesLeaves, ReadsKey}
use Rattle.ob_tables.proofs.DropLemmas.{Origin, origin}
use Rattle.ob_tables.proofs.IndexTables.{SetAt, this, that, set_at}

-- a key of the index at a place has a leaf
pub record KeyAt (indexes : List Index) (k j : ℕ) : Type 0 where
  pub index : Index
  pub leaf : ℕ
  pub get : slice_get indexes k ≡ Some index
  pub at : slice_get (leaves_of index) j ≡ Some leaf

-- of each key its leaf is that of a draw before the next one, and no two keys have one draw
pub record Given (d : Draws) (indexes : List Index) : Type 0 where
  pub number : ℕ → ℕ → ℕ
  pub leaf : (k j : ℕ) → (a : KeyAt indexes k j) → a.leaf ≡ leaf_of_draw a.index.height (d.draw (number k j))
  pub below : (k j : ℕ) → KeyAt indexes k j → number k j < d.drawn
  pub apart : (k j l i : ℕ) → KeyAt indexes k j → KeyAt indexes l i → number k j ≡ number l i → (k ≡ l) × (j ≡ i)

-- a draw whose leaf was not read: that of a key, or one that is still to come
pub data Unread (d : Draws) (indexes : List Index) (number : ℕ → ℕ → ℕ) (n : ℕ) : Type 0 where
  of_key : (k j : ℕ) → (a : KeyAt indexes k j) → (is : n ≡ number k j) → Unread d indexes number n
  to_come : (later : d.drawn ≤ n) → Unread d indexes number n

abbrev pub behind : Draws → (taken : ℕ) → Draws
behind d taken = record d { drawn = d.drawn + taken }

-- what is known after a statement: a draw that wasn't read then wasn't before, and is none that the statement read
pub record Onwards (d : Draws) (taken : ℕ) (old new : List Index) (g : Given d old) (read : Option ℕ) : Type 0 where
  pub given : Given (behind d taken) new
  pub unread : (m : ℕ) → Unread (behind d taken) new given.number m → Unread d old g.number m
  pub other : (m : ℕ) → Unread (behind d taken) new given.number m → IfSome read (λ n. n ≢ m)

-- a statement reads the leaf of a draw that wasn't read, or none
pub record ReadsUnread (d : Draws) (taken height : ℕ) (old : List Index) (g : Given d old) (leaf : Option ℕ) (ended : Bool)
    (new : List Index) : Type 0 where
  pub read : Option ℕ
  pub is : leaf ≡ option_map (λ (n : ℕ). leaf_of_draw height (d.draw n)) read
  pub fresh : IfSome read (λ n. Unread d old g.number n)
  pub onwards : ended ≡ false → Onwards d taken old new g read

-- ---- before the first statement
pub none_given : (d : Draws) → Given d []
none_given d = record {
  number = λ k j. 0;
  leaf = λ k j a. no_key k j a;
  below = λ k j a. no_key k j a;
  apart = λ k j l i a b same. no_key k j a;
}
  where
    no_key : {P : Type 0} (k j : ℕ) → KeyAt [] k j → P
    no_key zero j a = let get = a.get in absurd (cc get)
    no_key (suc k) j a = let get = a.get in absurd (cc get)

-- one of two things, by a case
abbrev pick : {P A : Type 0} → P ⊎ (P → ⊥) → A → A → A
pick (inl is) x y = x
pick (inr off) x y = y

pick_this : {P A : Type 0} (c : P ⊎ (P → ⊥)) (x y : A) → P → pick c x y ≡ x
pick_this (inl is) x y p = refl
pick_this (inr off) x y p = absurd (off p)

pick_other : {P A : Type 0} (c : P ⊎ (P → ⊥)) (x y : A) → (P → ⊥) → pick c x y ≡ y
pick_other (inl is) x y off = absurd (off is)
pick_other (inr not_so) x y off = refl

-- an element of a list with one more
data MoreAt {A : Type 0} (xs : List A) (y : A) (k : ℕ) (z : A) : Type 0 where
  last : (at : k ≡ length xs) → (is : z ≡ y) → MoreAt xs y k z
  front : (off : k ≡ length xs → ⊥) → (was : slice_get xs k ≡ Some z) → MoreAt xs y k z

more_at : {A : Type 0} (xs : List A) (y : A) (k : ℕ) (z : A) → slice_get (xs ++ y ∷ []) k ≡ Some z → MoreAt xs y k z
more_at [] y zero z is = last refl (let same : y ≡ z = cc is in sym same)
more_at [] y (suc k) z is = absurd (cc is)
more_at (x ∷ xs) y zero z is = front (λ same. omega (arith, same)) is
more_at (x ∷ xs) y (suc k) z is = elim (more_at xs y k z is) [
  | last at same ↦ last (ap suc at) same
  | front off was ↦ front (λ same. off (omega (arith, same))) was
]

-- an element is read, or what stands for it past the end
data ReadAt (xs : List ℕ) (k d : ℕ) : Type 0 where
  inside : (x : ℕ) → (get : slice_get xs k ≡ Some x) → (is : slice_index_or xs k d ≡ x) → ReadAt xs k d
  past : (none : (x : ℕ) → slice_get xs k ≡ Some x → ⊥) → (is : slice_index_or xs k d ≡ d) → ReadAt xs k d

read_at : (xs : List ℕ) (k d : ℕ) → ReadAt xs k d
read_at [] zero d = past (λ x is. absurd (cc is)) refl
read_at [] (suc k) d = past (λ x is. absurd (cc is)) refl
read_at (x ∷ xs) zero d = inside x refl refl
read_at (x ∷ xs) (suc k) d = elim (read_at xs k d) [ inside y get is ↦ inside y get is | past none is ↦ past none is ]

-- ---- a statement that reads none
module _ (d : Draws) (taken : ℕ) (old : List Index) (g : Given d old) where
  -- the indexes stay
  stays : Onwards d taken old old g None
  stays = record {
    given = record { number = g.number; leaf = g.leaf; below = λ k j a. let less = g.below k j a in omega (arith, less); apart = g.apart };
    unread = still;
    other = λ m is. tt;
  }
    where
      still : (m : ℕ) → Unread (behind d taken) old g.number m → Unread d old g.number m
      still m (of_key k j a is) = of_key k j a is
      still m (to_come later) = to_come (omega (arith, later))

  -- one is made
  module _ (index : Index) (high : index.height ≡ height_of index.capacity) (leaves : leaves_of index ≡ leaves_drawn d index.capacity) (drawn : index.capacity ≤ taken) where
    abbrev more : List Index
    more = old ++ index ∷ []

    abbrev number : ℕ → ℕ → ℕ
    number k j = pick (cases_eq k (length old)) (d.drawn + j) (g.number k j)

    number_new : (k j : ℕ) → k ≡ length old → number k j ≡ d.drawn + j
    number_new k j is = pick_this (cases_eq k (length old)) _ _ is

    number_old : (k j : ℕ) → (k ≡ length old → ⊥) → number k j ≡ g.number k j
    number_old k j off = pick_other (cases_eq k (length old)) _ _ off

    -- its keys
    in_leaves : (j l : ℕ) → slice_get (leaves_of index) j ≡ Some l → (j < index.capacity) × (l ≡ leaf_of_draw index.height (d.draw (d.drawn + j)))
    in_leaves j l is =
        let there : slice_get (leaves_drawn d index.capacity) j ≡ Some l = subst (λ (xs : List ℕ). slice_get xs j ≡ Some l) leaves is in
        let within = slice_get_within (leaves_drawn d index.capacity) j l there in
        let few : length (leaves_drawn d index.capacity) ≡ length (next_draws d index.capacity) = length-map (next_draws d index.capacity) (leaf_of_draw (height_of index.capacity)) in
        let size = length-tabulate (λ i. d.draw (d.drawn + i)) index.capacity in
        let inner : j < length (next_draws d index.capacity) = omega (arith, within, few) in
        let less : j < index.capacity = omega (arith, within, few, size) in (
          less,
          sym (get_or_from_slice_get (leaves_drawn d index.capacity) j l 0 there)
              ∙ get_or-map (leaf_of_draw (height_of index.capacity)) (next_draws d index.capacity) j 0 0 inner
              ∙ ap (leaf_of_draw (height_of index.capacity)) (get_or-tabulate (λ i. d.draw (d.drawn + i)) index.capacity j 0 less)
              ∙ ap (λ (h : ℕ). leaf_of_draw h (d.draw (d.drawn + j))) (sym high),
        )

    data KeyOf (k j : ℕ) (a : KeyAt more k j) : Type 0 where
      is_new : (at : k ≡ length old) → (less : j < index.capacity) → (leaf : a.leaf ≡ leaf_of_draw a.index.height (d.draw (d.drawn + j))) → KeyOf k j a
      is_old : (off : k ≡ length old → ⊥) → (was : KeyAt old k j) → (same : was.leaf ≡ a.leaf) → (same_index : was.index ≡ a.index) → KeyOf k j a

    key_of : (k j : ℕ) (a : KeyAt more k j) → KeyOf k j a
    key_of k j a = by (more_at old index k a.index a.get)
      where
        by : MoreAt old index k a.index → KeyOf k j a
        by (last at is) =
            let here = in_leaves j a.leaf (subst (λ (x : Index). slice_get (leaves_of x) j ≡ Some a.leaf) is a.at) in
            is_new at here.0 (here.1 ∙ ap (λ (x : Index). leaf_of_draw x.height (d.draw (d.drawn + j))) (sym is))
        by (front off was) = is_old off (record { index = a.index; leaf = a.leaf; get = was; at = a.at }) refl refl

    leaf_made : (k j : ℕ) (a : KeyAt more k j) → a.leaf ≡ leaf_of_draw a.index.height (d.draw (number k j))
    leaf_made k j a = by (key_of k j a)
      where
        by : KeyOf k j a → a.leaf ≡ leaf_of_draw a.index.height (d.draw (number k j))
        by (is_new at less leaf) = leaf ∙ ap (λ (n : ℕ). leaf_of_draw a.index.height (d.draw n)) (sym (number_new k j at))
        by (is_old off was same same_index) =
            sym same ∙ g.leaf k j was ∙ ap (λ (x : Index). leaf_of_draw x.height (d.draw (g.number k j))) same_index
            ∙ ap (λ (n : ℕ). leaf_of_draw a.index.height (d.draw n)) (sym (number_old k j off))

    below_made : (k j : ℕ) → KeyAt more k j → number k j < d.drawn + taken
    below_made k j a = by (key_of k j a)
      where
        by : KeyOf k j a → number k j < d.drawn + taken
        by (is_new at less leaf) = let is = number_new k j at in omega (arith, is, less, drawn)
        by (is_old off was same same_index) = let is = number_old k j off in let below = g.below k j was in omega (arith, is, below)

    apart_made : (k j l i : ℕ) → KeyAt more k j → KeyAt more l i → number k j ≡ number l i → (k ≡ l) × (j ≡ i)
    apart_made k j l i a b same = by (key_of k j a) (key_of l i b)
      where
        by : KeyOf k j a → KeyOf l i b → (k ≡ l) × (j ≡ i)
        by (is_new at less leaf) (is_new at' less' leaf') =
            let one = number_new k j at in let two = number_new l i at' in (at ∙ sym at', omega (arith, one, two, same))
        by (is_new at less leaf) (is_old off' was' same' same_index') =
            let one = number_new k j at in let two = number_old l i off' in let below = g.below l i was' in absurd (omega (arith, one, two, below, same))
        by (is_old off was same_leaf same_index) (is_new at' less' leaf') =
            let one = number_old k j off in let two = number_new l i at' in let below = g.below k j was in absurd (omega (arith, one, two, below, same))
        by (is_old off was same_leaf same_index) (is_old off' was' same' same_index') =
            g.apart k j l i was was' (sym (number_old k j off) ∙ same ∙ number_old l i off')

    still_made : (m : ℕ) → Unread (behind d taken) more number m → Unread d old g.number m
    still_made m (of_key k j a is) = by (key_of k j a)
      where
        by : KeyOf k j a → Unread d old g.number m
        by (is_new at less leaf) = let one = number_new k j at in to_come (omega (arith, one, is))
        by (is_old off was same same_index) = of_key k j was (is ∙ number_old k j off)
    still_made m (to_come later) = to_come (omega (arith, later))

    makes : Onwards d taken old more g None
    makes = record { given = record { number = number; leaf = leaf_made; below = below_made; apart = apart_made }; unread = still_made; other = λ m is. tt }

  -- one is discarded
  module _ (place : ℕ) where
    abbrev less : List Index
    less = remove old place

    is_before : (k : ℕ) → (k < place) ⊎ (k < place → ⊥)
    is_before k = elim (cases_lt k place) [ inl less ↦ inl less | inr more ↦ inr (λ less. omega (arith, less, more)) ]

    -- where the index at a place stood before
    abbrev from : ℕ → ℕ
    from k = pick (is_before k) k (suc k)

    came : (k : ℕ) (x : Index) → slice_get less k ≡ Some x → slice_get old (from k) ≡ Some x
    came k x is = by (origin old place k x is)
      where
        by : Origin old place k x → slice_get old (from k) ≡ Some x
        by o = elim o.place [
          | inl low ↦ subst (λ (n : ℕ). slice_get old n ≡ Some x) (low.0 ∙ sym (pick_this (is_before k) k (suc k) (let a = low.0 in let b = low.1 in omega (arith, a, b)))) o.get
          | inr high ↦ subst (λ (n : ℕ). slice_get old n ≡ Some x) (high.0 ∙ sym (pick_other (is_before k) k (suc k) (λ small. let a = high.0 in let b = high.1 in omega (arith, a, b, small)))) o.get
        ]

    abbrev key_came : (k j : ℕ) → KeyAt less k j → KeyAt old (from k) j
    key_came k j a = record { index = a.index; leaf = a.leaf; get = came k a.index a.get; at = a.at }

    from_apart : (k l : ℕ) → from k ≡ from l → k ≡ l
    from_apart k l same = by (is_before k) (is_before l)
      where
        by : (k < place) ⊎ (k < place → ⊥) → (l < place) ⊎ (l < place → ⊥) → k ≡ l
        by (inl a) (inl b) = sym (pick_this (is_before k) k (suc k) a) ∙ same ∙ pick_this (is_before l) l (suc l) b
        by (inl a) (inr b) = let one = pick_this (is_before k) k (suc k) a in let two = pick_other (is_before l) l (suc l) b in absurd (b (omega (arith, one, two, same, a)))
        by (inr a) (inl b) = let one = pick_other (is_before k) k (suc k) a in let two = pick_this (is_before l) l (suc l) b in absurd (a (omega (arith, one, two, same, b)))
        by (inr a) (inr b) = let one = pick_other (is_before k) k (suc k) a in let two = pick_other (is_before l) l (suc l) b in omega (arith, one, two, same)

    drops : Onwards d taken old less g None
    drops = record {
      given = record {
        number = λ k j. g.number (from k) j;
        leaf = λ k j a. g.leaf (from k) j (key_came k j a);
        below = λ k j a. let below = g.below (from k) j (key_came k j a) in omega (arith, below);
        apart = λ k j l i a b same. let both = g.apart (from k) j (from l) i (key_came k j a) (key_came l i b) same in (from_apart k l both.0, both.1);
      };
      unread = still;
      other = λ m is. tt;
    }
      where
        still : (m : ℕ) → Unread (behind d taken) less (λ k j. g.number (from k) j) m → Unread d old g.number m
        still m (of_key k j a is) = of_key (from k) j (key_came k j a) is
        still m (to_come later) = to_come (omega (arith, later))

  -- ---- a key's leaf is read
  module _ (place key : ℕ) (index left : Index) (get : slice_get old place ≡ Some index) (height_stays : left.height ≡ index.height)
      (leaves : leaves_of left ≡ slice_set (leaves_of index) key (leaf_of_draw index.height (next_draw d))) (drawn : 1 ≤ taken) where
    abbrev after : List Index
    after = slice_set old place left

    -- the key has the next draw now
    abbrev IsHere : ℕ → ℕ → Type 0
    IsHere k j = (k ≡ place) × (j ≡ key)

    is_here : (k j : ℕ) → IsHere k j ⊎ (IsHere k j → ⊥)
    is_here k j = by (cases_eq k place) (cases_eq j key)
      where
        by : (k ≡ place) ⊎ (k ≡ place → ⊥) → (j ≡ key) ⊎ (j ≡ key → ⊥) → IsHere k j ⊎ (IsHere k j → ⊥)
        by (inl a) (inl b) = inl (a, b)
        by (inl a) (inr b) = inr (λ both. b both.1)
        by (inr a) b = inr (λ both. a both.0)

    abbrev number_after : ℕ → ℕ → ℕ
    number_after k j = pick (is_here k j) d.drawn (g.number k j)

    data KeyAfter (k j : ℕ) (a : KeyAt after k j) : Type 0 where
      accessed : (here : IsHere k j) → (leaf : a.leaf ≡ leaf_of_draw a.index.height (d.draw d.drawn)) → (there : KeyAt old k j) → KeyAfter k j a
      another : (off : IsHere k j → ⊥) → (was : KeyAt old k j) → (same : was.leaf ≡ a.leaf) → (high : was.index.height ≡ a.index.height) → KeyAfter k j a

    -- of the index that was accessed
    of_left : (j l : ℕ) → slice_get (leaves_of left) j ≡ Some l → SetAt (leaves_of index) key (leaf_of_draw index.height (next_draw d)) j l
    of_left j l is = set_at (leaves_of index) key (leaf_of_draw index.height (next_draw d)) j l (subst (λ (xs : List ℕ). slice_get xs j ≡ Some l) leaves is)

    -- a place of a list of which one element was set was one of it before
    was_some : (xs : List ℕ) (k y j l : ℕ) → slice_get (slice_set xs k y) j ≡ Some l → (x : ℕ) × (slice_get xs j ≡ Some x)
    was_some [] zero y zero l is = absurd (cc is)
    was_some [] zero y (suc j) l is = absurd (cc is)
    was_some [] (suc k) y zero l is = absurd (cc is)
    was_some [] (suc k) y (suc j) l is = absurd (cc is)
    was_some (x ∷ xs) zero y zero l is = (x, refl)
    was_some (x ∷ xs) zero y (suc j) l is = (l, is)
    was_some (x ∷ xs) (suc k) y zero l is = (x, refl)
    was_some (x ∷ xs) (suc k) y (suc j) l is = was_some xs k y j l is

    key_after : (k j : ℕ) (a : KeyAt after k j) → KeyAfter k j a
    key_after k j a = by (set_at old place left k a.index a.get)
      where
        mine : (k ≡ place) → (a.index ≡ left) → SetAt (leaves_of index) key (leaf_of_draw index.height (next_draw d)) j a.leaf → KeyAfter k j a
        mine at same (this here is) =
            let old_leaf = was_some (leaves_of index) key (leaf_of_draw index.height (next_draw d)) j a.leaf
            (subst (λ (xs : List ℕ). slice_get xs j ≡ Some a.leaf) leaves (subst (λ (x : Index). slice_get (leaves_of x) j ≡ Some a.leaf) same a.at)) in
            accessed (at, here) (is ∙ ap (λ (h : ℕ). leaf_of_draw h (d.draw d.drawn)) (sym height_stays ∙ ap (λ (x : Index). x.height) (sym same)))
            (record { index = index; leaf = old_leaf.0; get = subst (λ (n : ℕ). slice_get old n ≡ Some index) (sym at) get; at = old_leaf.1 })
        mine at same (that off was) =
            another (λ both. off both.1) (record { index = index; leaf = a.leaf; get = subst (λ (n : ℕ). slice_get old n ≡ Some index) (sym at) get; at = was }) refl
            (sym height_stays ∙ ap (λ (x : Index). x.height) (sym same))

        by : SetAt old place left k a.index → KeyAfter k j a
        by (this at is) = mine at is (of_left j a.leaf (subst (λ (x : Index). slice_get (leaves_of x) j ≡ Some a.leaf) is a.at))
        by (that off was) = another (λ both. off both.0) (record { index = a.index; leaf = a.leaf; get = was; at = a.at }) refl refl

    number_here : (k j : ℕ) → IsHere k j → number_after k j ≡ d.drawn
    number_here k j here = pick_this (is_here k j) _ _ here

    number_there : (k j : ℕ) → (IsHere k j → ⊥) → number_after k j ≡ g.number k j
    number_there k j off = pick_other (is_here k j) _ _ off

    leaf_after : (k j : ℕ) (a : KeyAt after k j) → a.leaf ≡ leaf_of_draw a.index.height (d.draw (number_after k j))
    leaf_after k j a = by (key_after k j a)
      where
        by : KeyAfter k j a → a.leaf ≡ leaf_of_draw a.index.height (d.draw (number_after k j))
        by (accessed here leaf there) = leaf ∙ ap (λ (n : ℕ). leaf_of_draw a.index.height (d.draw n)) (sym (number_here k j here))
        by (another off was same high) =
            sym same ∙ g.leaf k j was ∙ ap (λ (h : ℕ). leaf_of_draw h (d.draw (g.number k j))) high
            ∙ ap (λ (n : ℕ). leaf_of_draw a.index.height (d.draw n)) (sym (number_there k j off))

    below_after : (k j : ℕ) → KeyAt after k j → number_after k j < d.drawn + taken
    below_after k j a = by (key_after k j a)
      where
        by : KeyAfter k j a → number_after k j < d.drawn + taken
        by (accessed here leaf there) = let is = number_here k j here in omega (arith, is, drawn)
        by (another off was same high) = let is = number_there k j off in let below = g.below k j was in omega (arith, is, below)

    apart_after : (k j l i : ℕ) → KeyAt after k j → KeyAt after l i → number_after k j ≡ number_after l i → (k ≡ l) × (j ≡ i)
    apart_after k j l i a b same = by (key_after k j a) (key_after l i b)
      where
        by : KeyAfter k j a → KeyAfter l i b → (k ≡ l) × (j ≡ i)
        by (accessed here leaf there) (accessed here' leaf' there') = (here.0 ∙ sym here'.0, here.1 ∙ sym here'.1)
        by (accessed here leaf there) (another off' was' same' high') =
            let one = number_here k j here in let two = number_there l i off' in let below = g.below l i was' in absurd (omega (arith, one, two, below, same))
        by (another off was same_leaf high) (accessed here' leaf' there') =
            let one = number_there k j off in let two = number_here l i here' in let below = g.below k j was in absurd (omega (arith, one, two, below, same))
        by (another off was same_leaf high) (another off' was' same' high') =
            g.apart k j l i was was' (sym (number_there k j off) ∙ same ∙ number_there l i off')

    still_after : (m : ℕ) → Unread (behind d taken) after number_after m → Unread d old g.number m
    still_after m (of_key k j a is) = by (key_after k j a)
      where
        by : KeyAfter k j a → Unread d old g.number m
        by (accessed here leaf there) = let one = number_here k j here in to_come (omega (arith, one, is))
        by (another off was same high) = of_key k j was (is ∙ number_there k j off)
    still_after m (to_come later) = to_come (omega (arith, later))

    -- the draw whose leaf is read: the key's, or the next one where the index has no such key
    data Reads (n : ℕ) : Type 0 where
      own : (here : KeyAt old place key) → (is : n ≡ g.number place key) → Reads n
      next : (none : (l : ℕ) → slice_get (leaves_of index) key ≡ Some l → ⊥) → (is : n ≡ d.drawn) → Reads n

    -- the index at that place is the one that is accessed
    no_such : (k j : ℕ) → IsHere k j → KeyAt old k j → ((l : ℕ) → slice_get (leaves_of index) key ≡ Some l → ⊥) → ⊥
    no_such k j here there none =
        let at_place : slice_get old place ≡ Some there.index = subst (λ (n : ℕ). slice_get old n ≡ Some there.index) here.0 there.get in
        let same : there.index ≡ index = cc (get, at_place) in
        none there.leaf (subst (λ (n : ℕ). slice_get (leaves_of index) n ≡ Some there.leaf) here.1 (subst (λ (x : Index). slice_get (leaves_of x) j ≡ Some there.leaf) same there.at))

    -- no other draw that wasn't read is that one
    other_after : (n : ℕ) → Reads n → (m : ℕ) → Unread (behind d taken) after number_after m → n ≢ m
    other_after n (own here is) m (of_key k j a is_m) same = by (key_after k j a)
      where
        by : KeyAfter k j a → ⊥
        by (accessed at leaf there) = let one = number_here k j at in let below = g.below place key here in omega (arith, one, is, is_m, same, below)
        by (another off was same_leaf high) =
            let both = g.apart place key k j here was (sym is ∙ same ∙ is_m ∙ number_there k j off) in off (sym both.0, sym both.1)
    other_after n (own here is) m (to_come later) same = let below = g.below place key here in omega (arith, below, is, later, same)
    other_after n (next none is) m (of_key k j a is_m) same = by (key_after k j a)
      where
        by : KeyAfter k j a → ⊥
        by (accessed at leaf there) = no_such k j at there none
        by (another off was same_leaf high) = let one = number_there k j off in let below = g.below k j was in omega (arith, one, is, is_m, same, below)
    other_after n (next none is) m (to_come later) same = omega (arith, later, is, same, drawn)

    reads : (n : ℕ) → Reads n → Onwards d taken old after g (Some n)
    reads n r = record {
      given = record { number = number_after; leaf = leaf_after; below = below_after; apart = apart_after };
      unread = still_after;
      other = other_after n r;
    }

-- ---- each statement
module _ (d : Draws) (taken height : ℕ) (old : List Index) (g : Given d old) (leaf : Option ℕ) (ended : Bool) (new : List Index) where
  none_read : leaf ≡ None → (ended ≡ false → Onwards d taken old new g None) → ReadsUnread d taken height old g leaf ended new
  none_read none onwards = record { read = None; is = none; fresh = tt; onwards = onwards }

  one_read : ReadsKey d taken height old leaf ended new → ReadsUnread d taken height old g leaf ended new
  one_read r = by (read_at (leaves_of r.index) r.key (leaf_of_draw r.index.height (next_draw d)))
    where
      high_is : (n : ℕ) → leaf_of_draw r.index.height (d.draw n) ≡ leaf_of_draw height (d.draw n)
      high_is n = ap (λ (h : ℕ). leaf_of_draw h (d.draw n)) r.high

      onwards : (n : ℕ) → ((goes : ended ≡ false) → Reads d taken old g r.place r.key r.index r.left r.get (r.height_stays goes) (r.leaves goes) (r.drawn goes) n)
          → ended ≡ false → Onwards d taken old new g (Some n)
      onwards n is goes =
          subst (λ (xs : List Index). Onwards d taken old xs g (Some n)) (sym (r.becomes goes))
          (reads d taken old g r.place r.key r.index r.left r.get (r.height_stays goes) (r.leaves goes) (r.drawn goes) n (is goes))

      by : ReadAt (leaves_of r.index) r.key (leaf_of_draw r.index.height (next_draw d)) → ReadsUnread d taken height old g leaf ended new
      by (inside l at is) =
          let here : KeyAt old r.place r.key = record { index = r.index; leaf = l; get = r.get; at = at } in
          record {
            read = Some (g.number r.place r.key);
            is = r.read ∙ ap (λ (x : ℕ). Some x) (is ∙ g.leaf r.place r.key here ∙ high_is (g.number r.place r.key));
            fresh = of_key r.place r.key here refl;
            onwards = onwards (g.number r.place r.key) (λ goes. own here refl);
          }
      by (past none is) = record {
        read = Some d.drawn;
        is = r.read ∙ ap (λ (x : ℕ). Some x) (is ∙ high_is d.drawn);
        fresh = to_come (omega arith);
        onwards = onwards d.drawn (λ goes. next none refl);
      }

  pub reads_unread : MovesLeaves d taken height old leaf ended new → ReadsUnread d taken height old g leaf ended new
  reads_unread (inl stayed) = none_read stayed.0 (λ goes. subst (λ (xs : List Index). Onwards d taken old xs g None) (sym (stayed.1 goes)) (stays d taken old g))
  reads_unread (inr (inl made)) =
      let m = made.1 in
      none_read made.0 (λ goes. subst (λ (xs : List Index). Onwards d taken old xs g None) (sym m.becomes) (makes d taken old g m.index m.high m.leaves m.drawn))
  reads_unread (inr (inr (inl dropped))) =
      let m = dropped.1 in none_read dropped.0 (λ goes. subst (λ (xs : List Index). Onwards d taken old xs g None) (sym m.becomes) (drops d taken old g m.place))
  reads_unread (inr (inr (inr read))) = one_read read
